-- The bytes that a read gave follow those that stand before `done`, which it leaves.
use Rattle.std.proofs.Common.{◌≡◌, ℕ, ◌+◌, ◌-◌, ◌≤◌, List, ◌++◌, rules, length, take, drop, sym, ap, ◌∙◌, subst, le_refl, drop_at, length-take-le}
use Rattle.std.proofs.lemmas.Slice.{take-put_mid_below}
use Rattle.std.specs.Io.KnownBytes.{Consumes}
use Rattle.std.proofs.KnownBytes.{Consumes-trans}
use borrow.Rule.Slice.PartMut.{put_mid, post_of}
use lib.Seq.{take-add, take-append-le}
use Rattle.streams.proofs.read_full.Goals as goal

take_split : (a n : ℕ) (old new : List ℕ) → take a new ≡ take a old → take a old ++ take n (drop a new) ≡ take (a + n) new
take_split a n old new front = ap (λ l. l ++ take n (drop a new)) (sym front) ∙ sym (take-add a n new)

front-put_mid : (a k n : ℕ) (xs ys : List ℕ) → a ≤ length xs → n ≤ length ys → take n (drop a (put_mid a k xs ys)) ≡ take n ys
front-put_mid a k n xs ys within fits =
    let after = post_of a k xs in
    ap (take n) (drop_at (take a xs) (ys ++ after) a (length-take-le a xs within)) ∙ take-append-le n ys after fits

pub loop-done-preserved : goal.loop-done-preserved
loop-done-preserved g c =
    let at = c.loop-done.done in
    let n = c.in_ok-n.n in
    let room = length c.loop-done.room - at in
    let within = c.loop-done.invariant.1 in
    let new = put_mid at room c.loop-done.room c.read.new.buf in
    let kept = take-put_mid_below _ _ _ _ _ (le_refl _) within in
    let part = front-put_mid at room n c.loop-done.room c.read.new.buf within c.in_ok-n.ensures.bound.0 in
    let joined = take_split at n c.loop-done.room new kept in
    (search rules, search rules, subst (Consumes _ _) (ap (λ l. take at c.loop-done.room ++ l) (sym part) ∙ joined) (Consumes-trans _ _ _ _ _ c.loop-done.invariant.2 c.in_ok-n.ensures.bytes.0))
