-- The length of a call, one equation for each way through its tests, and what a call that is not broken has.
use mathlib.Core.Path.{◌≡◌, ◌∙◌, sym, ap, subst}
use mathlib.Core.Bool.{true}
use mathlib.Core.List.{List}
use Prim.Native.Nat.{ℕ, ◌+◌, ◌-◌, ◌<◌, ◌≤◌}
use native.Mathlib.Omega.{arith}
use borrow.Author.Tests.{le-leb, lt-leb, ne_eqb}
use lib.Dec.{leb}
use lib.ListN.{length, get_or}
use Rattle.rules.specs.declared.Place.TheVariants.{Nowhere}
use Rattle.rules.specs.declared.Score.{Score}
use Rattle.rules.specs.Trainer.{score}
use Rattle.practice.specs.Practice.{two_at, call_length, score_at, Reached, start, next}
use Rattle.practice.specs.declared.Call.{Call}
use Rattle.practice.specs.declared.Call.TheVariants.{Question, Report}
use Rattle.practice.specs.Told.{call_bytes, KindIs, CallThere}

module _ (s : List ℕ) (at : ℕ) (on : at ≤ length s) where
  pub call_short : length s - at < 5 → 0 ≡ call_length s at
  unfolding call_length
  call_short h = sym (simp (lt-leb (at + 5) (length s) (omega arith)))

  module _ (head : 5 ≤ length s - at) where
    has_head : leb (at + 5) (length s) ≡ true
    has_head = le-leb (at + 5) (length s) (omega arith)

    pub call_report : get_or s at 0 ≡ 1 → CallThere s at Report
    unfolding call_length
    call_report e = record { kind = e; same = sym (simp (has_head, e)); within = omega arith }

    pub call_strange : (get_or s at 0 ≡ 1 → ⊥) → (get_or s at 0 ≡ 0 → ⊥) → 0 ≡ call_length s at
    unfolding call_length
    call_strange other h = sym (simp (has_head, ne_eqb _ 1 other, ne_eqb _ 0 h))

    module _ (zero : get_or s at 0 ≡ 0) {n : ℕ} (e : n ≡ two_at s (at + 3)) where
      pub call_cut : length s - at - 5 < n → 0 ≡ call_length s at
      unfolding call_length
      call_cut h =
          let l : length s < at + 5 + two_at s (at + 3) = rw (sym e) (omega arith) in
          sym (simp (has_head, zero, lt-leb (at + 5 + two_at s (at + 3)) (length s) l))

      pub call_question : n ≤ length s - at - 5 → CallThere s at (Question n)
      unfolding call_length
      call_question h =
          let l : at + 5 + two_at s (at + 3) ≤ length s = rw (sym e) (omega arith) in
          record {
            kind = record { kind = λ o. omega arith; count = e; board = omega arith };
            same = ap (λ (x : ℕ). 5 + x) e ∙ sym (simp (has_head, zero, le-leb (at + 5 + two_at s (at + 3)) (length s) l));
            within = omega arith;
          }

-- ---- a call that is there ----------------------------------------------------------------------------------------------------------------

-- a call has five bytes or more
pub bytes_least : (c : Call) → 5 ≤ call_bytes c
bytes_least (Question n) = omega arith
bytes_least Report = omega arith

module _ (s : List ℕ) (at : ℕ) (c : Call) (k : CallThere s at c) where
  pub call_head : at + 5 ≤ length s
  call_head = let l = bytes_least c in let w = k.within in omega arith

  pub call_some : call_length s at ≡ 0 → ⊥
  call_some z = let l = bytes_least c in let e = k.same in omega arith

  -- the next call's place
  pub reached_next : {n : ℕ} {t t' : Score} → n ≡ call_bytes c → Reached s at t → t' ≡ score_at s at t → Reached s (at + n) t'
  reached_next d r e = rw (d, k.same, e) (next r call_some)

-- what a call of one kind says of its bytes
pub kind_as : (s : List ℕ) (at : ℕ) {c : Call} (c' : Call) → c ≡ c' → CallThere s at c → KindIs s at c'
kind_as s at c' e k = subst (λ (x : Call). KindIs s at x) e k.kind

-- the first call's place
pub reached_start : (s : List ℕ) {a f : ℕ} → a ≡ two_at s 0 → f ≡ two_at s 2 → Reached s 4 (score a f Nowhere)
reached_start s e d = rw (e, d) start
