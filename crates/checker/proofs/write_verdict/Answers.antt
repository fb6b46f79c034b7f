-- `checker::write_verdict` meets its contract: a place has at most ten digits, and the whole line is handed over.
use mathlib.Core.Path.{sym}
use lib.Seq.{length-take-le}
use borrow.Author.Rules.{rules}
use Rattle.checker.proofs.Handing.{place_fits, line_fits, line_whole}
use Rattle.checker.proofs.write_verdict.Goals as goal

pub put_verdict-n-requires : goal.put_verdict-n-requires
put_verdict-n-requires g c = let args = c.args in record { v_bound = place_fits args.s.now c.check_book-v.ensures c.requires; at_in_bounds = search rules }

pub slice_bounds-hand-end : goal.slice_bounds-hand-end
slice_bounds-hand-end g c = let args = c.args in
    sym (length-take-le _ _ (line_fits args.s.now c.check_book-v.ensures c.put_verdict-n.ensures (search rules)))

pub hand-requires : goal.hand-requires
hand-requires g c = let args = c.args in
    line_whole args.s.now c.check_book-v.ensures c.put_verdict-n.ensures (search rules)
