-- `lawful::game_lawful` meets its contract.
use Rattle.rules.specs.Lawful.{game_lawful}
use Rattle.keep.proofs.Unopened.{won_read}
use Rattle.lawful.proofs.Tests.{open_are, elevens_are}
use Rattle.lawful.proofs.game_lawful.Goals as goal

pub returns-in-Ready : goal.returns-in-Ready
unfolding game_lawful
returns-in-Ready c = λ B shown bits h e. simp (c.in-Ready.is, ← c.is_not_flag.ensures, open_are _ _ h, elevens_are _ _ h)

pub returns-in-PreFlaging : goal.returns-in-PreFlaging
unfolding game_lawful
returns-in-PreFlaging c = λ B shown bits h e. simp (c.in-PreFlaging.is, open_are _ _ h, elevens_are _ _ h)

pub returns-in-Playing : goal.returns-in-Playing
unfolding game_lawful
returns-in-Playing c = λ B shown bits h e. simp (c.in-Playing.is, won_read B shown _ e)

pub returns-in-Win : goal.returns-in-Win
unfolding game_lawful
returns-in-Win c = λ B shown bits h e. simp (c.in-Win.is, won_read B shown _ e)

pub returns-in-Loss : goal.returns-in-Loss
unfolding game_lawful
returns-in-Loss c = λ B shown bits h e. simp c.in-Loss.is
