-- What stands before the cells: the mark by the length of the bytes, and for each way out of the two readers what the chain of refusals comes to.
use mathlib.Core.Path.{◌≡◌, refl, ap, sym, subst, ◌∙◌}
use mathlib.Core.Bool.{Bool, true, false, ◌&&◌}
use mathlib.Core.List.{List, [], ◌∷◌}
use Prim.Native.Nat.{ℕ, ◌<◌, ◌≤◌}
use native.Mathlib.Omega.{arith}
use lib.Dec.{eqb}
use lib.ListN.{length, get_or, drop}
use borrow.Author.Tests.{eq-eqb, ne_eqb}
use Rattle.rules.specs.Words.{unless}
use Rattle.rules.specs.Grid.{size_ok}
use Rattle.rules.specs.Picture.{is_gap, token_of, due, value_of, rest_of, is_marked, width_of, height_of, maximum_of, rows_of, columns_of, size_refusal, maximum_refusal}
use Rattle.cells.proofs.Words.{false_unless}
use Rattle.cells.proofs.Grid.{size_limits}
use Rattle.tokens.specs.declared.Number.{Number}
use Rattle.tokens.specs.Taken.{counted, Found}
use Rattle.tokens.proofs.Counted.{counted_test, counted_back}
use Rattle.heads.specs.declared.Head.{Head}
use Rattle.heads.specs.Headed.{Passed}

-- ---- the mark ----------------------------------------------------------------------------------------------------------------------------

and_true : (b : Bool) → (b && true) ≡ b
and_true true = refl
and_true false = refl

pub marked_short : (s : List ℕ) → length s < 2 → is_marked s ≡ false
unfolding is_marked
marked_short [] h = refl
marked_short (p ∷ []) h = refl
marked_short (p ∷ two ∷ s) h = absurd (omega arith)

pub marked_two : (s : List ℕ) → length s ≡ 2 → is_marked s ≡ (eqb (get_or s 0 0) 80 && eqb (get_or s 1 0) 50)
unfolding is_marked
marked_two [] h = absurd (omega arith)
marked_two (p ∷ []) h = absurd (omega arith)
marked_two (p ∷ two ∷ []) h = ap (λ (b : Bool). eqb p 80 && b) (and_true (eqb two 50))
marked_two (p ∷ two ∷ b ∷ s) h = absurd (omega arith)

pub marked_more : (s : List ℕ) {third : Bool} → 2 ≤ length s → (length s ≡ 2 → ⊥) → third ≡ is_gap true (get_or s 2 0)
    → is_marked s ≡ (eqb (get_or s 0 0) 80 && (eqb (get_or s 1 0) 50 && third))
unfolding is_marked
marked_more [] h k e = absurd (omega arith)
marked_more (p ∷ []) h k e = absurd (omega arith)
marked_more (p ∷ two ∷ []) h k e = absurd (k refl)
marked_more (p ∷ two ∷ b ∷ s) h k e = ap (λ (t : Bool). eqb p 80 && (eqb two 50 && t)) (sym e)

-- ---- the size ----------------------------------------------------------------------------------------------------------------------------

size_outside : (R C : ℕ) → (size_ok R C ≡ true → ⊥) → size_ok R C ≡ false
size_outside R C h = false_unless (size_ok R C) h

-- sizes as they are counted pass the same test
size_counted : (R C : ℕ) → size_ok (counted R) (counted C) ≡ size_ok R C
size_counted R C =
    counted_test (λ k. size_ok k (counted C)) (λ k h. size_outside k (counted C) (λ e. let l = size_limits k (counted C) e in omega arith)) R
    ∙ counted_test (λ k. size_ok R k) (λ k h. size_outside R k (λ e. let l = size_limits R k e in omega arith)) C

module _ (s : List ℕ) where
  pub size_unmarked : is_marked s ≡ false → (rest : ℕ) → size_refusal s rest ≡ 60
  unfolding size_refusal
  size_unmarked e rest = simp e

  module _ (m : is_marked s ≡ true) where
    pub size_width : {n : ℕ} → ((rest : ℕ) → due 61 (width_of s) rest ≡ n) → (rest : ℕ) → size_refusal s rest ≡ n
    unfolding size_refusal
    size_width e rest = simp m (e _)

    module _ {w : Number} (p : Found s (width_of s) w) where
      -- the next token is the height
      height_as : (n rest : ℕ) → due n (token_of true true (drop w.next s)) rest ≡ due n (height_of s) rest
      height_as n rest = ap (λ (l : List ℕ). due n (token_of true true l) rest) p.rest

      pub size_height : {n : ℕ} → ((rest : ℕ) → due 61 (token_of true true (drop w.next s)) rest ≡ n) → (rest : ℕ) → size_refusal s rest ≡ n
      unfolding size_refusal
      size_height e rest = simp m (p.there 61 _ ∙ sym (height_as 61 _) ∙ e _)

      module _ {h : Number} (d : Found s (token_of true true (drop w.next s)) h) {fits : Bool} (t : fits ≡ size_ok h.value w.value) where
        height_found : Found s (height_of s) h
        height_found = subst (λ (l : List ℕ). Found s (token_of true true l) h) p.rest d

        tested : size_ok (rows_of s) (columns_of s) ≡ fits
        tested =
            sym (size_counted (rows_of s) (columns_of s)) ∙ ap (λ (k : ℕ). size_ok k (counted (columns_of s))) (sym height_found.value)
            ∙ ap (λ (k : ℕ). size_ok h.value k) (sym p.value) ∙ sym t

        -- both are read: the size decides
        size_decides : (rest : ℕ) → size_refusal s rest ≡ unless 61 fits rest
        unfolding size_refusal
        size_decides rest = simp m (p.there 61 _ ∙ height_found.there 61 _ ∙ ap (λ (b : Bool). unless 61 b rest) tested)

        pub size_wrong : fits ≡ false → (rest : ℕ) → size_refusal s rest ≡ 61
        size_wrong e rest = size_decides rest ∙ ap (λ (b : Bool). unless 61 b rest) e

        pub size_right : fits ≡ true → Passed s (size_refusal s) (rest_of (height_of s)) (record { rows = h.value; columns = w.value; at = h.next })
        size_right e =
            let l = size_limits h.value w.value (sym t ∙ e) in
            record {
              refusal = λ rest. size_decides rest ∙ ap (λ (b : Bool). unless 61 b rest) e;
              rows = counted_back (rows_of s) height_found.value (omega arith);
              columns = counted_back (columns_of s) p.value (omega arith);
              size = tested ∙ e;
              rest = height_found.rest;
            }

  -- ---- the maximum -----------------------------------------------------------------------------------------------------------------------

  abbrev pub head_chain : ℕ → ℕ
  head_chain rest = size_refusal s (maximum_refusal s rest)

  pub head_size_lem : {n : ℕ} → ((rest : ℕ) → size_refusal s rest ≡ n) → (rest : ℕ) → head_chain rest ≡ n
  head_size_lem e rest = e (maximum_refusal s rest)

  module _ {z : Head} (p : Passed s (size_refusal s) (rest_of (height_of s)) z) where
    -- the next token is the maximum
    maximum_as : (n rest : ℕ) → due n (token_of true false (drop z.at s)) rest ≡ due n (maximum_of s) rest
    maximum_as n rest = ap (λ (l : List ℕ). due n (token_of true false l) rest) p.rest

    pub head_maximum : {n : ℕ} → ((rest : ℕ) → due 62 (token_of true false (drop z.at s)) rest ≡ n) → (rest : ℕ) → head_chain rest ≡ n
    unfolding maximum_refusal
    head_maximum e rest = p.refusal (maximum_refusal s rest) ∙ sym (maximum_as 62 _) ∙ e _

    module _ {x : Number} (d : Found s (token_of true false (drop z.at s)) x) where
      maximum_found : Found s (maximum_of s) x
      maximum_found = subst (λ (l : List ℕ). Found s (token_of true false l) x) p.rest d

      -- it is a number: whether it is 17 decides
      seventeen_decides : (rest : ℕ) → head_chain rest ≡ unless 62 (eqb x.value 17) rest
      unfolding maximum_refusal
      seventeen_decides rest =
          p.refusal (maximum_refusal s rest) ∙ maximum_found.there 62 _
          ∙ ap (λ (b : Bool). unless 62 b rest)
          (sym (counted_test (λ k. eqb k 17) (λ k h. ne_eqb k 17 (λ e. omega arith)) (value_of (maximum_of s))) ∙ ap (λ (k : ℕ). eqb k 17) (sym maximum_found.value))

      pub head_other : (x.value ≡ 17 → ⊥) → (rest : ℕ) → head_chain rest ≡ 62
      head_other h rest = seventeen_decides rest ∙ ap (λ (b : Bool). unless 62 b rest) (ne_eqb x.value 17 h)

      pub head_right : x.value ≡ 17 → Passed s head_chain (rest_of (maximum_of s)) (record { rows = z.rows; columns = z.columns; at = x.next })
      head_right e =
          record {
            refusal = λ rest. seventeen_decides rest ∙ ap (λ (b : Bool). unless 62 b rest) (eq-eqb x.value 17 e);
            rows = p.rows;
            columns = p.columns;
            size = p.size;
            rest = maximum_found.rest;
          }
