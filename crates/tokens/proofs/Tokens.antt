-- Tokens: one equation for each case, and what a loop over the digits has still to count.
use mathlib.Core.Path.{◌≡◌, refl, ap, sym, subst, ◌∙◌}
use mathlib.Core.Bool.{Bool, true, false}
use mathlib.Core.List.{List, [], ◌∷◌}
use Prim.Native.Nat.{ℕ, suc, ◌+◌, ◌-◌, ◌*◌, ◌<◌, ◌≤◌}
use native.Mathlib.Omega.{arith}
use lib.ListN.{length, get_or, drop, drop_of_length-le}
use lib.Seq.{drop-length}
use Rattle.std.specs.Prelude.{Result, Ok, Err}
use Rattle.rules.specs.declared.Refusal.{Refusal}
use Rattle.rules.specs.declared.Refusal.TheVariants.{End}
use Rattle.rules.specs.Words.{pick}
use Rattle.rules.specs.Refusals.{refusal_number}
use Rattle.rules.specs.Picture.{Token, is_digit, is_gap, skipped, number_from, token_at, token_of, due}
use Rattle.rules.specs.Picture.Token.{end, none, number}
use Rattle.tokens.specs.declared.Number.{Number}
use Rattle.tokens.specs.Taken.{counted, ended_at, Taken}
use Rattle.tokens.proofs.Counted.{counted_step}
use Rattle.tokens.proofs.Skipping.{from_place}

-- ---- one equation for each case ----------------------------------------------------------------------------------------------------------

pub number_end : (hash : Bool) (v : ℕ) → number_from hash v [] ≡ number v []
unfolding number_from
number_end hash v = refl

pub number_digit : (hash : Bool) (v b : ℕ) (s : List ℕ) → is_digit b ≡ true → number_from hash v (b ∷ s) ≡ number_from hash (v * 10 + (b - 48)) s
unfolding number_from
number_digit hash v b s e = simp e

pub number_stop : (hash : Bool) (v b : ℕ) (s : List ℕ) → is_digit b ≡ false → number_from hash v (b ∷ s) ≡ pick (is_gap hash b) (number v (b ∷ s)) none
unfolding number_from
number_stop hash v b s e = simp e

pub token_end : (hash : Bool) → token_at hash [] ≡ end
unfolding token_at
token_end hash = refl

pub token_none : (hash : Bool) (b : ℕ) (s : List ℕ) → is_digit b ≡ false → token_at hash (b ∷ s) ≡ none
unfolding token_at
token_none hash b s e = simp e

pub token_number : (hash : Bool) (b : ℕ) (s : List ℕ) → is_digit b ≡ true → token_at hash (b ∷ s) ≡ number_from hash 0 (b ∷ s)
unfolding token_at
token_number hash b s e = simp e

-- ---- a number that is due ----------------------------------------------------------------------------------------------------------------

-- a chain of refusals that gives 0 passed its number, and the rest gives 0
pub due_there : (n : ℕ) (t : Token) (rest : ℕ) → due (suc n) t rest ≡ 0 → (due (suc n) t 0 ≡ 0) × (rest ≡ 0)
due_there n end rest e = absurd (omega arith)
due_there n none rest e = absurd (omega arith)
due_there n (number v s) rest e = (refl, e)

-- ---- tokens as they are handed back ------------------------------------------------------------------------------------------------------

abbrev counted_at : ℕ → ℕ → Result Number Refusal
counted_at value at = Ok (record { value = value; next = at })

taken_end : (s : List ℕ) (fault : ℕ) → Taken s fault end (Err End)
taken_end s fault rest = refl

taken_none : (s : List ℕ) (fault : Refusal) → Taken s (refusal_number fault) none (Err fault)
taken_none s fault rest = refl

taken_number : (s : List ℕ) (fault v value at : ℕ) → value ≡ counted v → Taken s fault (number v (drop at s)) (counted_at value at)
taken_number s fault v value at e = record { there = λ f rest. refl; value = e; rest = refl }

taken_by : (s : List ℕ) (fault : Refusal) (v value at : ℕ) (ends : Bool) → value ≡ counted v
    → Taken s (refusal_number fault) (pick ends (number v (drop at s)) none) (ended_at at ends value fault)
taken_by s fault v value at true e = taken_number s (refusal_number fault) v value at e
taken_by s fault v value at false e = taken_none s fault

-- ---- the digits --------------------------------------------------------------------------------------------------------------------------

-- the digits from a place on, after the exact number that stands behind the counted one, make the whole token
pub record Counting (s : List ℕ) (hash : Bool) (total : Token) (at value : ℕ) : Type 0 where
  pub exact : ℕ
  pub counts : value ≡ counted exact
  pub same : number_from hash exact (drop at s) ≡ total

pub counting_start : (s : List ℕ) (hash : Bool) (at : ℕ) → Counting s hash (number_from hash 0 (drop at s)) at 0
unfolding counted
counting_start s hash at = record { exact = 0; counts = refl; same = refl }

module _ {s : List ℕ} {hash : Bool} {total : Token} {at value : ℕ} (c : Counting s hash total at value) where
  pub counting_turn : {value' : ℕ} → at < length s → is_digit (get_or s at 0) ≡ true → value' ≡ counted (value * 10 + (get_or s at 0 - 48)) → Counting s hash total (at + 1) value'
  counting_turn h d e =
      record {
        exact = c.exact * 10 + (get_or s at 0 - 48);
        counts = e ∙ ap (λ (k : ℕ). counted (k * 10 + (get_or s at 0 - 48))) c.counts ∙ counted_step c.exact (get_or s at 0 - 48);
        same =
            sym (number_digit hash c.exact (get_or s at 0) (drop (at + 1) s) d)
            ∙ ap (λ (l : List ℕ). number_from hash c.exact l) (sym (from_place s at h)) ∙ c.same;
      }

  pub counting_stops : (fault : Refusal) {r : Result Number Refusal} → at < length s → is_digit (get_or s at 0) ≡ false → r ≡ ended_at at (is_gap hash (get_or s at 0)) value fault
      → Taken s (refusal_number fault) total r
  counting_stops fault {r} h d e =
      let p = from_place s at h in
      let t : pick (is_gap hash (get_or s at 0)) (number c.exact (drop at s)) none ≡ total =
      ap (λ (l : List ℕ). pick (is_gap hash (get_or s at 0)) (number c.exact l) none) p
      ∙ sym (number_stop hash c.exact (get_or s at 0) (drop (at + 1) s) d)
      ∙ ap (λ (l : List ℕ). number_from hash c.exact l) (sym p) ∙ c.same in
      subst (λ (k : Token). Taken s (refusal_number fault) k r) t
      (subst (λ (n : Result Number Refusal). Taken s (refusal_number fault) (pick (is_gap hash (get_or s at 0)) (number c.exact (drop at s)) none) n) (sym e)
      (taken_by s fault c.exact value at (is_gap hash (get_or s at 0)) c.counts))

  -- no byte is left
  pub counting_ends : (fault : ℕ) → length s ≤ at → Taken s fault total (counted_at value (length s))
  counting_ends fault h =
      let t : number c.exact (drop (length s) s) ≡ total =
      ap (λ (l : List ℕ). number c.exact l) (drop-length s) ∙ sym (number_end hash c.exact)
      ∙ ap (λ (l : List ℕ). number_from hash c.exact l) (sym (drop_of_length-le s {i = at} h)) ∙ c.same in
      subst (λ (k : Token). Taken s fault k (counted_at value (length s))) t (taken_number s fault c.exact value (length s) c.counts)

-- ---- a token at the place that skipping gave ---------------------------------------------------------------------------------------------

module _ (s : List ℕ) (before after : Bool) (from at : ℕ) (skips : drop at s ≡ skipped before false (drop from s)) where
  -- what holds of the token at the place holds of the token to come
  taken_at : (fault : ℕ) {t : Token} (r : Result Number Refusal) → token_at after (drop at s) ≡ t → Taken s fault t r → Taken s fault (token_of before after (drop from s)) r
  unfolding token_of
  taken_at fault {t} r e k = subst (λ (x : Token). Taken s fault x r) (sym (ap (token_at after) (sym skips) ∙ e)) k

  pub taken_at_end : (fault : ℕ) → length s ≤ at → Taken s fault (token_of before after (drop from s)) (Err End)
  taken_at_end fault h = taken_at fault (Err End) (ap (token_at after) (drop_of_length-le s {i = at} h) ∙ token_end after) (taken_end s fault)

  pub taken_at_none : (fault : Refusal) → at < length s → is_digit (get_or s at 0) ≡ false
      → Taken s (refusal_number fault) (token_of before after (drop from s)) (Err fault)
  taken_at_none fault h d =
      taken_at (refusal_number fault) (Err fault)
      (ap (token_at after) (from_place s at h) ∙ token_none after (get_or s at 0) (drop (at + 1) s) d) (taken_none s fault)

  pub taken_at_number : (fault : ℕ) (r : Result Number Refusal) → at < length s → is_digit (get_or s at 0) ≡ true → Taken s fault (number_from after 0 (drop at s)) r
      → Taken s fault (token_of before after (drop from s)) r
  taken_at_number fault r h d k =
      taken_at fault r
      (ap (token_at after) (from_place s at h) ∙ token_number after (get_or s at 0) (drop (at + 1) s) d ∙ ap (number_from after 0) (sym (from_place s at h)))
      k
