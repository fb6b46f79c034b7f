-- White space and comments: one equation for each case, and what a loop over the places has still to skip.
use mathlib.Core.Path.{◌≡◌, refl, ap, sym, ◌∙◌}
use mathlib.Core.Bool.{Bool, true, false, ◌||◌}
use mathlib.Core.List.{List, [], ◌∷◌}
use Prim.Native.Nat.{ℕ, ◌+◌, ◌<◌, ◌≤◌}
use native.Mathlib.Numerals.{add-one}
use lib.ListN.{length, get_or, drop, drop_of_length-le}
use lib.Seq.{drop-cons, drop-length}
use Rattle.rules.specs.Picture.{is_gap, runs_on, skipped}

pub skipped_pass : (hash inside : Bool) (b : ℕ) (s : List ℕ) → (inside || is_gap hash b) ≡ true → skipped hash inside (b ∷ s) ≡ skipped hash (runs_on hash inside b) s
unfolding skipped
skipped_pass hash inside b s e = simp e

pub skipped_stop : (hash inside : Bool) (b : ℕ) (s : List ℕ) → (inside || is_gap hash b) ≡ false → skipped hash inside (b ∷ s) ≡ b ∷ s
unfolding skipped
skipped_stop hash inside b s e = simp e

pub skipped_none : (hash inside : Bool) → skipped hash inside [] ≡ []
unfolding skipped
skipped_none hash inside = refl

-- the bytes from a place on are the byte there and the bytes after it
pub from_place : (s : List ℕ) (at : ℕ) → at < length s → drop at s ≡ get_or s at 0 ∷ drop (at + 1) s
from_place s at h = rw (add-one, drop-cons s at 0)

module _ (s : List ℕ) (hash inside : Bool) (at : ℕ) where
  pub skip_turn : {gap on : Bool} {total : List ℕ} → at < length s → gap ≡ is_gap hash (get_or s at 0) → (inside || gap) ≡ true → on ≡ runs_on hash inside (get_or s at 0)
      → skipped hash inside (drop at s) ≡ total → skipped hash on (drop (at + 1) s) ≡ total
  skip_turn h g e o i =
      ap (λ (b : Bool). skipped hash b (drop (at + 1) s)) o
      ∙ sym (skipped_pass hash inside (get_or s at 0) (drop (at + 1) s) (ap (λ (b : Bool). inside || b) (sym g) ∙ e))
      ∙ ap (λ (l : List ℕ). skipped hash inside l) (sym (from_place s at h)) ∙ i

  pub skip_stops : {gap : Bool} {total : List ℕ} → at < length s → gap ≡ is_gap hash (get_or s at 0) → (inside || gap) ≡ false
      → skipped hash inside (drop at s) ≡ total → drop at s ≡ total
  skip_stops h g e i =
      from_place s at h ∙ sym (skipped_stop hash inside (get_or s at 0) (drop (at + 1) s) (ap (λ (b : Bool). inside || b) (sym g) ∙ e))
      ∙ ap (λ (l : List ℕ). skipped hash inside l) (sym (from_place s at h)) ∙ i

  -- no byte is left
  pub skip_ends : {total : List ℕ} → length s ≤ at → skipped hash inside (drop at s) ≡ total → drop (length s) s ≡ total
  skip_ends h i =
      let e : drop at s ≡ [] = drop_of_length-le s {i = at} h in
      drop-length s ∙ sym (skipped_none hash inside) ∙ ap (λ (l : List ℕ). skipped hash inside l) (sym e) ∙ i
