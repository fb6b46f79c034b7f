-- `scrub::put_drag` meets its contract.
use Rattle.scrub.proofs.Telling.{refused_room, put_refusal, line_room, rows_room, put_told}
use mathlib.Core.Path.{refl}
use Rattle.scrub.proofs.put_drag.Goals as goal

pub put_word_line-requires : goal.put_word_line-requires
put_word_line-requires c = refused_room c.args.g c.args.o c.args.shown.now c.args.out.now c.requires c.args.o.number

pub returns-then-o-ne0 : goal.returns-then-o-ne0
returns-then-o-ne0 c = put_refusal c.args.g c.args.o c.args.shown.now c.args.out.now c.requires c.if-o-ne0.true c.put_word_line.ensures

pub put_line-first-requires : goal.put_line-first-requires
put_line-first-requires c = line_room c.args.g c.args.o c.args.shown.now c.args.out.now c.requires c.args.o.start _ c.numbers-ns.ensures

pub put_rows-requires : goal.put_rows-requires
put_rows-requires c = rows_room c.args.g c.args.o c.args.shown.now c.args.out.now c.requires c.args.o.start _ c.numbers-ns.ensures c.put_line-first.ensures c.from-rows.ensures c.from-columns.ensures

pub returns : goal.returns
returns c = put_told c.args.g c.args.o c.args.shown.now c.args.out.now c.requires c.args.o.start _ c.numbers-ns.ensures c.put_line-first.ensures c.from-rows.ensures c.from-columns.ensures c.if-o-ne0.false refl c.put_rows.ensures
