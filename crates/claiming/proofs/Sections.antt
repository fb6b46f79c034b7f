-- Numbers in four bytes each, one after the other: what a loop over them has still to write; and a section that fills its room.
use mathlib.Core.Path.{◌≡◌, ◌∙◌, ap, refl}
use mathlib.Core.List.{List, [], ◌∷◌, ◌++◌}
use Prim.Native.Nat.{ℕ, ◌+◌, ◌<◌, ◌≤◌}
use native.Mathlib.Omega.{arith}
use lib.ListN.{length, get_or, take, drop, replicate}
use Rattle.rules.specs.declared.Position.{Position}
use Rattle.rules.specs.States.{game_number}
use Rattle.rules.specs.Printout.{nine_counts}
use Rattle.rules.specs.Claims.{four, fours, ten_values, claims_of}
use Rattle.writing.specs.Put.{Room, Put}
use Rattle.writing.proofs.Putting.{each_turn, each_done, put_then, put_over, room_first, room_second}

pub fours_turn : (ns : List ℕ) (i : ℕ) → i < length ns → fours (drop i ns) ≡ four (get_or ns i 0) ++ fours (drop (i + 1) ns)
unfolding fours
fours_turn = each_turn four fours refl (λ x xs. refl)

pub fours_done : (ns : List ℕ) (i : ℕ) → length ns ≤ i → fours (drop i ns) ≡ []
unfolding fours
fours_done = each_done four fours refl (λ x xs. refl)

module _ (p : Position) where
  pub counts_are : {values : List ℕ} → values ≡ ten_values p → take 9 values ≡ nine_counts p
  counts_are e = ap (take 9) e

  parts : List ℕ
  parts = (9 ∷ []) ++ (fours (nine_counts p) ++ (game_number p.game ∷ []))

  parts_long : length parts ≡ 38
  unfolding parts fours
  parts_long = refl

  zeros : List ℕ
  zeros = replicate 38 0

  zeros_long : length zeros ≡ 38
  unfolding zeros
  zeros_long = refl

  parts_whole : parts ++ [] ≡ claims_of p
  unfolding parts fours claims_of
  parts_whole = refl

  parts_room : Room parts 0 (replicate 38 0)
  unfolding zeros
  parts_room = record { fits = omega (arith, parts_long, zeros_long) }

  module _ {out : List ℕ} {at : ℕ} (a : Put (9 ∷ []) 0 (replicate 38 0) out at) where
    behind_room : Room (fours (nine_counts p) ++ (game_number p.game ∷ [])) at out
    unfolding parts
    behind_room = room_second parts_room a

    pub counts_room : Room (fours (nine_counts p)) at out
    counts_room = room_first (game_number p.game ∷ []) behind_room

    module _ {out' : List ℕ} {at' : ℕ} (b : Put (fours (nine_counts p)) at out out' at') {g : ℕ} (e : g ≡ game_number p.game) where
      pub state_room : Room (g ∷ []) at' out'
      state_room = rw e (room_second behind_room b)

      pub section_made : {out'' : List ℕ} {r : ℕ} → Put (g ∷ []) at' out' out'' r → out'' ≡ claims_of p
      unfolding parts zeros
      section_made {out''} {r} d =
          let whole : Put parts 0 (replicate 38 0) out'' r = put_then a (put_then b (rw e at d)) in
          let none : drop (length parts) zeros ≡ [] = ap (λ (n : ℕ). drop n zeros) parts_long in
          put_over (omega (arith, parts_long, zeros_long)) whole ∙ ap (λ (l : List ℕ). parts ++ l) none ∙ parts_whole
