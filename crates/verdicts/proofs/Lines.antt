-- The line of a verdict by its parts, and how long it can be.
use mathlib.Core.Path.{◌≡◌, ◌∙◌, sym, ap, refl}
use mathlib.Core.Bool.{Bool}
use mathlib.Core.Logic.{◌⊎◌, inl, inr}
use mathlib.Core.List.{List, [], ◌∷◌, ◌++◌, append_assoc}
use Prim.Native.Nat.{ℕ, ◌+◌, ◌≤◌}
use native.Mathlib.Omega.{arith}
use borrow.Author.Tests.{eq-eqb, ne_eqb}
use lib.ListN.{length, length-append}
use Rattle.rules.specs.Words.{pick}
use Rattle.rules.specs.Printout.{spaced, word_refused, word_at_place}
use Rattle.rules.specs.declared.Verdict.{Verdict}
use Rattle.rules.specs.declared.Verdict.TheVariants.{Accepted, Refused, EventRefused, NotEnded, ClaimDiffers}
use Rattle.rules.specs.Claims.{verdict_number, word_accepted, word_event, word_claim, word_says, word_is, told, tail, verdict_line}
use Rattle.writing.proofs.Spaced.{few_any, spaced_length}
use Rattle.writing.specs.Put.{Room, Put, PutWithin}
use Rattle.writing.proofs.Putting.{room_first, room_second, room_within, room_as, put_then, put_as, within}

-- ---- lengths ---------------------------------------------------------------------------------------------------------------------------

told_length : (word : List ℕ) (n : ℕ) → length (told word n) ≤ length word + 11
told_length word n =
    let s = spaced_length 10 (n ∷ []) (few_any (n ∷ [])) in
    let e = length-append word (spaced (n ∷ [])) in
    omega arith

tail_length : (v : Verdict) → length (tail v) ≤ 47
tail_length Accepted = omega arith
tail_length (Refused n place) = omega (arith, told_length word_at_place place)
tail_length (EventRefused event) = omega (arith, told_length word_event event)
tail_length NotEnded = omega arith
tail_length (ClaimDiffers claim says is) =
    let a = told_length word_claim claim in
    let b = told_length word_says says in
    let c = told_length word_is is in
    let e = length-append (told word_claim claim) (told word_says says ++ told word_is is) in
    let d = length-append (told word_says says) (told word_is is) in
    omega arith

-- ---- the line --------------------------------------------------------------------------------------------------------------------------

-- `refused N`, what stands behind it, and the line's end
abbrev refusal_text : Verdict → List ℕ
refusal_text v = told word_refused (verdict_number v) ++ (tail v ++ (10 ∷ []))

refusal_length : (v : Verdict) → length (refusal_text v) ≤ 66
refusal_length v =
    let a = told_length word_refused (verdict_number v) in
    let b = tail_length v in
    let e = length-append (told word_refused (verdict_number v)) (tail v ++ (10 ∷ [])) in
    let d = length-append (tail v) (10 ∷ []) in
    omega arith

module _ (v : Verdict) {n : ℕ} (e : n ≡ verdict_number v) where
  line_accepted : n ≡ 0 → word_accepted ++ (10 ∷ []) ≡ verdict_line v
  unfolding verdict_line
  line_accepted z = sym (simp (eq-eqb (verdict_number v) 0 (sym e ∙ z)))

  line_refused : (n ≡ 0 → ⊥) → refusal_text v ≡ verdict_line v
  unfolding verdict_line
  line_refused h =
      sym (append_assoc (told word_refused (verdict_number v)) (tail v) (10 ∷ []))
      ∙ sym (ap (λ (t : Bool). pick t word_accepted (told word_refused (verdict_number v) ++ tail v) ++ (10 ∷ []))
      (ne_eqb (verdict_number v) 0 (λ (z : verdict_number v ≡ 0). h (e ∙ z))))

  module _ {at : ℕ} {out : List ℕ} (room : at + 66 ≤ length out) where
    -- room for `accepted`, and its line
    pub accepted_room : Room (word_accepted ++ (10 ∷ [])) at out
    accepted_room = record { fits = omega arith }

    pub accepted_put : n ≡ 0 → {out' out'' : List ℕ} {p r : ℕ} → Put word_accepted at out out' p → Put (10 ∷ []) p out' out'' r
        → PutWithin 66 (verdict_line v) at out out'' r
    accepted_put z a b =
        let l = ap length (line_accepted z) in
        within (omega arith) (put_as (line_accepted z) (put_then a b))

    -- room for each part of a refusal, and the whole
    refusal_room : Room (told word_refused n ++ (tail v ++ (10 ∷ []))) at out
    refusal_room = rw e (room_within 66 (refusal_length v) room)

    pub number_room : Room (told word_refused n) at out
    number_room = room_first (tail v ++ (10 ∷ [])) refusal_room

    module _ {out' : List ℕ} {p : ℕ} (a : Put (told word_refused n) at out out' p) where
      behind_room : Room (tail v ++ (10 ∷ [])) p out'
      behind_room = room_second refusal_room a

      pub tail_room : Room (tail v) p out'
      tail_room = room_first (10 ∷ []) behind_room

      module _ {out'' : List ℕ} {q : ℕ} (b : Put (tail v) p out' out'' q) where
        pub end_room : Room (10 ∷ []) q out''
        end_room = room_second behind_room b

        pub refusal_put : (n ≡ 0 → ⊥) → {out''' : List ℕ} {r : ℕ} → Put (10 ∷ []) q out'' out''' r → PutWithin 66 (verdict_line v) at out out''' r
        refusal_put h k =
            let same : told word_refused n ++ (tail v ++ (10 ∷ [])) ≡ verdict_line v = rw e (line_refused h) in
            let l = ap length (line_refused h) in
            let m = refusal_length v in
            within (omega arith) (put_as same (put_then a (put_then b k)))

-- ---- what stands behind the number, by cases ---------------------------------------------------------------------------------------------

module _ {v w : Verdict} (e : v ≡ w) {at : ℕ} {out : List ℕ} where
  pub case_room : Room (tail v) at out → Room (tail w) at out
  case_room = room_as (ap tail e)

  pub case_put : {out' : List ℕ} {r : ℕ} → Put (tail w) at out out' r → Put (tail v) at out out' r
  case_put = put_as (ap tail (sym e))

  case_none : tail w ≡ [] → Put (tail v) at out out at
  case_none none = put_as (sym (ap tail e ∙ none)) (record { next = omega arith; same = refl })

-- nothing stands behind the number
pub none_put : {v : Verdict} {at : ℕ} {out : List ℕ} → (v ≡ Accepted) ⊎ (v ≡ NotEnded) → Put (tail v) at out out at
none_put (inl e) = case_none e refl
none_put (inr e) = case_none e refl
