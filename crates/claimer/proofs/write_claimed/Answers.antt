-- `claimer::write_claimed` meets its contract: the line of a refusal, or the book and its claims, is handed over whole.
use borrow.Author.Rules.{rules}
use Rattle.claimer.proofs.Handing.{place_fits, line_whole, book_whole}
use Rattle.claimer.proofs.write_claimed.Goals as goal

pub hand-requires : goal.hand-requires
hand-requires g c =
    book_whole c.args.s.now c.claim_book-c.ensures c.requires c.in-Accepted.is c.claimed_buffer-out.ensures c.put_bytes-first.ensures c.put_bytes-end.ensures

pub put_verdict-n-requires : goal.put_verdict-n-requires
put_verdict-n-requires g c = record { v_bound = place_fits c.args.s.now c.claim_book-c.ensures c.requires; at_in_bounds = search rules }

pub hand-requires-in_default : goal.hand-requires-in_default
hand-requires-in_default g c =
    line_whole c.args.s.now c.claim_book-c.ensures c.requires c.claimed_buffer-out.ensures c.put_verdict-n.ensures c.in_default.not-Accepted
