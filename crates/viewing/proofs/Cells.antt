-- The cells of a picture: one equation for each case, what a loop has still to judge, and what a loop has still to write.
use mathlib.Core.Path.{◌≡◌, refl, ap, sym, subst, ◌∙◌}
use mathlib.Core.Bool.{Bool, true, false}
use mathlib.Core.List.{List, [], ◌∷◌, ◌++◌}
use Prim.Native.Nat.{ℕ, zero, suc, ◌+◌, ◌-◌, ◌<◌, ◌≤◌}
use native.Mathlib.Omega.{arith}
use lib.Dec.{eqb}
use lib.ListN.{length, drop, length-drop}
use borrow.Author.Tests.{eq-eqb, ne_eqb}
use Rattle.std.specs.Prelude.{Result, Ok, Err}
use Rattle.std.specs.Result.{IsOk}
use Rattle.rules.specs.declared.Refusal.{Refusal}
use Rattle.rules.specs.Words.{unless}
use Rattle.rules.specs.Picture.{Token, is_shown, skipped, due, value_of, rest_of, next_cell, cell_values, cells_refusal}
use Rattle.cells.proofs.Words.{unless_passed}
use Rattle.writing.specs.Put.{Room, Put}
use Rattle.writing.proofs.Putting.{Leads, leads_start, leads_room, leads_turn, leads_done}
use Rattle.showing.proofs.Shown.{shown_high, shown_most}
use Rattle.tokens.specs.declared.Number.{Number}
use Rattle.tokens.specs.Taken.{Found, Taken}
use Rattle.tokens.proofs.Counted.{counted_whole, counted_test}
use Rattle.cells.proofs.Refused.{never_0}
use Rattle.tokens.proofs.Tokens.{due_there}

-- ---- one equation for each case ----------------------------------------------------------------------------------------------------------

pub cells_last : (s : List ℕ) → cells_refusal 0 s ≡ unless 64 (eqb (length (skipped false false s)) 0) 0
unfolding cells_refusal
cells_last s = refl

pub cells_more : (n : ℕ) (s : List ℕ)
    → cells_refusal (suc n) s ≡ due 63 (next_cell s) (unless 63 (is_shown (value_of (next_cell s))) (cells_refusal n (rest_of (next_cell s))))
unfolding cells_refusal
cells_more n s = refl

pub values_none : (s : List ℕ) → cell_values 0 s ≡ []
unfolding cell_values
values_none s = refl

pub values_more : (n : ℕ) (s : List ℕ) → cell_values (suc n) s ≡ value_of (next_cell s) ∷ cell_values n (rest_of (next_cell s))
unfolding cell_values
values_more n s = refl

pub values_length : (n : ℕ) (s : List ℕ) → length (cell_values n s) ≡ n
unfolding cell_values
values_length zero s = refl
values_length (suc n) s = ap suc (values_length n (rest_of (next_cell s)))

-- a cell without a fault, and no fault after it
pub record Passed (n : ℕ) (s : List ℕ) : Type 0 where
  pub there : due 63 (next_cell s) 0 ≡ 0
  pub shown : is_shown (value_of (next_cell s)) ≡ true
  pub more : cells_refusal n (rest_of (next_cell s)) ≡ 0

pub cells_passed : (n : ℕ) (s : List ℕ) → cells_refusal (suc n) s ≡ 0 → Passed n s
cells_passed n s e =
    let first = due_there 62 (next_cell s) _ (sym (cells_more n s) ∙ e) in
    let second = unless_passed 62 (is_shown (value_of (next_cell s))) (cells_refusal n (rest_of (next_cell s))) first.1 in
    record { there = first.0; shown = second.0; more = second.1 }

-- ---- judging -----------------------------------------------------------------------------------------------------------------------------

pub judge_start : (n : ℕ) (s : List ℕ) → cells_refusal (n - 0) s ≡ cells_refusal n s
judge_start n s = let z : n - 0 ≡ n = omega arith in ap (λ (k : ℕ). cells_refusal k s) z

-- one cell less
judge_first : (s : List ℕ) (left : ℕ) → 0 < left
    → cells_refusal left s ≡ due 63 (next_cell s) (unless 63 (is_shown (value_of (next_cell s))) (cells_refusal (left - 1) (rest_of (next_cell s))))
judge_first s zero h = absurd (omega arith)
judge_first s (suc n) h =
    let d : n ≡ suc n - 1 = omega arith in
    cells_more n s ∙ ap (λ (k : ℕ). due 63 (next_cell s) (unless 63 (is_shown (value_of (next_cell s))) (cells_refusal k (rest_of (next_cell s))))) d

module _ (s : List ℕ) (left at : ℕ) {total : ℕ} (h : 0 < left) (i : cells_refusal left (drop at s) ≡ total) where
  pub judge_fault : {k : ℕ} → ((rest : ℕ) → due 63 (next_cell (drop at s)) rest ≡ k) → k ≡ total
  judge_fault f = sym (f _) ∙ sym (judge_first (drop at s) left h) ∙ i

  module _ {x : Number} (p : Found s (next_cell (drop at s)) x) {fine : Bool} (t : fine ≡ is_shown x.value) where
    -- the cell is a number: whether it is shown decides
    judge_decides : unless 63 fine (cells_refusal (left - 1) (rest_of (next_cell (drop at s)))) ≡ total
    judge_decides =
        let shown : fine ≡ is_shown (value_of (next_cell (drop at s))) =
        t ∙ ap is_shown p.value ∙ counted_test is_shown (λ n l. shown_high n (omega arith)) (value_of (next_cell (drop at s))) in
        ap (λ (b : Bool). unless 63 b (cells_refusal (left - 1) (rest_of (next_cell (drop at s))))) shown
        ∙ sym (p.there 63 _) ∙ sym (judge_first (drop at s) left h) ∙ i

    pub judge_bad : fine ≡ false → 63 ≡ total
    judge_bad e = ap (λ (b : Bool). unless 63 b (cells_refusal (left - 1) (rest_of (next_cell (drop at s))))) (sym e) ∙ judge_decides

    pub judge_turn : (left' : ℕ) → left' ≡ left - 1 → fine ≡ true → cells_refusal left' (drop x.next s) ≡ total
    judge_turn left' d e =
        ap (λ (k : ℕ). cells_refusal k (drop x.next s)) d ∙ ap (cells_refusal (left - 1)) p.rest
        ∙ ap (λ (b : Bool). unless 63 b (cells_refusal (left - 1) (rest_of (next_cell (drop at s))))) (sym e) ∙ judge_decides

module _ (s : List ℕ) (left at last : ℕ) {total : ℕ} (h : left ≤ 0) (k : drop last s ≡ skipped false false (drop at s)) (i : cells_refusal left (drop at s) ≡ total) where
  judge_last : unless 64 (eqb (length s - last) 0) 0 ≡ total
  judge_last =
      let z : 0 ≡ left = omega arith in
      ap (λ (n : ℕ). unless 64 (eqb n 0) 0) (sym (length-drop last s) ∙ ap length k)
      ∙ sym (cells_last (drop at s)) ∙ ap (λ (n : ℕ). cells_refusal n (drop at s)) z ∙ i

  pub judge_over : last < length s → 64 ≡ total
  judge_over f = ap (λ (b : Bool). unless 64 b 0) (sym (ne_eqb (length s - last) 0 (λ e. omega arith))) ∙ judge_last

  pub judge_done : length s ≤ last → 0 ≡ total
  judge_done f = ap (λ (b : Bool). unless 64 b 0) (sym (eq-eqb (length s - last) 0 (omega arith))) ∙ judge_last

-- ---- writing -----------------------------------------------------------------------------------------------------------------------------

-- the cells not yet taken have no fault, and written from here on they make the whole
pub record Filling (s : List ℕ) (n : ℕ) (values cells₀ cells : List ℕ) (at i : ℕ) : Type 0 where
  pub leads : Leads values 0 cells₀ (cell_values (n - i) (drop at s)) i cells
  pub fine : cells_refusal (n - i) (drop at s) ≡ 0
  pub inside : i ≤ n

module _ (s : List ℕ) (n : ℕ) (cells₀ : List ℕ) (from : ℕ) (pre : (cells_refusal n (drop from s) ≡ 0) × (n ≤ length cells₀)) where
  pub filling_start : Filling s n (cell_values n (drop from s)) cells₀ cells₀ from 0
  filling_start =
      let z : n ≡ n - 0 = omega arith in
      record {
        leads = subst (λ (k : ℕ). Leads (cell_values n (drop from s)) 0 cells₀ (cell_values k (drop from s)) 0 cells₀) z leads_start;
        fine = ap (λ (k : ℕ). cells_refusal k (drop from s)) (sym z) ∙ pre.0;
        inside = omega arith;
      }

  filling_room : Room (cell_values n (drop from s)) 0 cells₀
  filling_room = let l = values_length n (drop from s) in record { fits = omega arith }

  module _ {cells : List ℕ} {at i : ℕ} (f : Filling s n (cell_values n (drop from s)) cells₀ cells at i) where
    module _ (h : i < n) where
      one_less : n - i ≡ suc (n - (i + 1))
      one_less = omega arith

      filling_passed : Passed (n - (i + 1)) (drop at s)
      filling_passed = cells_passed (n - (i + 1)) (drop at s) (ap (λ (k : ℕ). cells_refusal k (drop at s)) (sym one_less) ∙ f.fine)

      -- so the next token is a number
      pub filling_ok : (r : Result Number Refusal) → Taken s 63 (next_cell (drop at s)) r → IsOk r
      filling_ok (Ok x) t = refl
      filling_ok (Err e) t = absurd (never_0 e (sym (t 0) ∙ filling_passed.there))

      module _ {x : Number} (p : Found s (next_cell (drop at s)) x) where
        -- a value that is shown is counted whole
        filling_value : x.value ≡ value_of (next_cell (drop at s))
        filling_value =
            let m = shown_most (value_of (next_cell (drop at s))) filling_passed.shown in
            p.value ∙ counted_whole (value_of (next_cell (drop at s))) (omega arith)

        filling_next : cell_values (n - i) (drop at s) ≡ (x.value ∷ []) ++ cell_values (n - (i + 1)) (drop x.next s)
        filling_next =
            ap (λ (k : ℕ). cell_values k (drop at s)) one_less ∙ values_more (n - (i + 1)) (drop at s)
            ∙ ap (λ (k : ℕ). k ∷ cell_values (n - (i + 1)) (rest_of (next_cell (drop at s)))) (sym filling_value)
            ∙ ap (λ (l : List ℕ). x.value ∷ cell_values (n - (i + 1)) l) (sym p.rest)

        pub filling_byte : Room (x.value ∷ []) i cells
        filling_byte = leads_room (x.value ∷ []) (cell_values (n - (i + 1)) (drop x.next s)) filling_room f.leads filling_next

        pub filling_turn : {cells' : List ℕ} {i' : ℕ} → Put (x.value ∷ []) i cells cells' i' → Filling s n (cell_values n (drop from s)) cells₀ cells' x.next (i + 1)
        filling_turn {cells'} {i'} q =
            let e = q.next in
            let d : i' ≡ i + 1 = omega arith in
            record {
              leads =
                  subst (λ (k : ℕ). Leads (cell_values n (drop from s)) 0 cells₀ (cell_values (n - (i + 1)) (drop x.next s)) k cells') d
                  (leads_turn (x.value ∷ []) (cell_values (n - (i + 1)) (drop x.next s)) f.leads filling_next q);
              fine = ap (cells_refusal (n - (i + 1))) p.rest ∙ filling_passed.more;
              inside = omega arith;
            }

    pub filling_done : n ≤ i → Put (cell_values n (drop from s)) 0 cells₀ cells n
    filling_done h =
        let m = f.inside in
        let z : n - i ≡ 0 = omega arith in
        let d : i ≡ n = omega arith in
        subst (λ (k : ℕ). Put (cell_values n (drop from s)) 0 cells₀ cells k) d
        (leads_done f.leads (ap (λ (k : ℕ). cell_values k (drop at s)) z ∙ values_none (drop at s)))

-- what a token that is a number says
pub found_of : (s : List ℕ) (fault : ℕ) (t : Token) (r : Result Number Refusal) {x : Number} → Taken s fault t r → r ≡ Ok x → Found s t x
found_of s fault t r k e = subst (λ (q : Result Number Refusal). Taken s fault t q) e k
