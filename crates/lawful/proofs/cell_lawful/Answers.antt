-- `lawful::cell_lawful` meets its contract.
use Rattle.lawful.proofs.Tests.{shows_open, shows_10, shows_11, shows_17, shows_14, shows_other}
use Rattle.lawful.proofs.cell_lawful.Goals as goal

pub returns-then-x-le8 : goal.returns-then-x-le8
returns-then-x-le8 c = shows_open _ _ _ _ c.if-x-le8.true

pub returns-then-x-eq10 : goal.returns-then-x-eq10
returns-then-x-eq10 c = shows_10 _ _ _ _ c.if-x-eq10.true

pub returns-then-x-eq11 : goal.returns-then-x-eq11
returns-then-x-eq11 c = shows_11 _ _ _ _ c.if-x-eq11.true

pub returns-then-x-eq17 : goal.returns-then-x-eq17
returns-then-x-eq17 c = shows_17 _ _ _ _ c.if-x-eq17.true

pub returns-then-x-eq14 : goal.returns-then-x-eq14
returns-then-x-eq14 c = shows_14 _ _ _ _ c.if-x-eq14.true

pub returns : goal.returns
returns c = shows_other _ _ _ _ c.if-x-le8.false c.if-x-eq10.false c.if-x-eq11.false c.if-x-eq17.false c.if-x-eq14.false
