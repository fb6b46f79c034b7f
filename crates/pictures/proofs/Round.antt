-- The round trip over the definitions: a number on its line is a token, the lines of a board are its cells, and the plain form reads to what it was made of.
use mathlib.Core.Path.{◌≡◌, refl, ap, sym, ◌∙◌}
use mathlib.Core.Bool.{Bool, true, false}
use mathlib.Core.List.{List, [], ◌∷◌}
use Prim.Native.Nat.{ℕ, zero, suc, ◌+◌, ◌-◌, ◌*◌, ◌/◌, ◌%◌, ◌<◌}
use native.Mathlib.Omega.{arith}
use lib.Dec.{leb, eqb}
use lib.ListN.{length, get_or, drop}
use borrow.Author.Tests.{le-leb, ne_eqb}
use Rattle.rules.specs.Words.{unless}
use Rattle.rules.specs.Grid.{size_ok}
use Rattle.rules.specs.Printout.{digits}
use Rattle.rules.specs.Picture.{is_shown, number_lines, plain_form, is_space, is_digit, is_gap, runs_on, skipped, Token, number_from, token_at, token_of, value_of, rest_of, due, is_marked, width_of, height_of, maximum_of, rows_of, columns_of, cell_values, picture_cells, size_refusal, maximum_refusal, cells_refusal, picture_refusal}
use Rattle.rules.specs.Picture.Token.{number}
use Rattle.cells.proofs.Words.{and_both}
use Rattle.cells.proofs.Grid.{size_limits}
use Rattle.writing.proofs.Decimal.{ten, small_or_not, digits_one, digits_more, digits_before}
use Rattle.showing.proofs.Shown.{Showable, shown_most, all_at}
use Rattle.drawing.proofs.Plain.{lines_more}
use Rattle.tokens.proofs.Counted.{digit_low}
use Rattle.tokens.proofs.Skipping.{skipped_stop}
use Rattle.tokens.proofs.Tokens.{number_digit, token_number}
use Rattle.viewing.proofs.Cells.{cells_more, values_more, values_none}

-- ---- digits ------------------------------------------------------------------------------------------------------------------------------

digit_is : (d : ℕ) → d < 10 → is_digit (48 + d) ≡ true
unfolding is_digit
digit_is d h = and_both (leb 48 (48 + d)) (leb (48 + d) 57) (le-leb 48 (48 + d) (omega arith)) (le-leb (48 + d) 57 (omega arith))

digit_no_gap : (hash : Bool) (b : ℕ) → is_digit b ≡ true → is_gap hash b ≡ false
unfolding is_gap is_space
digit_no_gap true b e =
    let l = digit_low b e in
    simp (ne_eqb b 32 (λ z. omega arith), ne_eqb b 9 (λ z. omega arith), ne_eqb b 13 (λ z. omega arith), ne_eqb b 10 (λ z. omega arith), ne_eqb b 35 (λ z. omega arith))
digit_no_gap false b e =
    let l = digit_low b e in
    simp (ne_eqb b 32 (λ z. omega arith), ne_eqb b 9 (λ z. omega arith), ne_eqb b 13 (λ z. omega arith), ne_eqb b 10 (λ z. omega arith))

-- a list that begins with a digit
record Starts (l : List ℕ) : Type 0 where
  pub first : ℕ
  pub after : List ℕ
  pub same : l ≡ first ∷ after
  pub digit : is_digit first ≡ true

digits_start : (f n : ℕ) (more : List ℕ) → Starts (digits (suc f) n more)
unfolding digits
digits_start zero n more =
    small_or_not n
    (λ h. record { first = 48 + n; after = more; same = digits_one 0 n more h; digit = digit_is n h })
    (λ h. record { first = 48 + n % 10; after = more; same = digits_more 0 n more h; digit = digit_is (n % 10) (omega arith) })
digits_start (suc f) n more =
    let rec = digits_start f (n / 10) ((48 + n % 10) ∷ more) in
    small_or_not n
    (λ h. record { first = 48 + n; after = more; same = digits_one (suc f) n more h; digit = digit_is n h })
    (λ h. record { first = rec.first; after = rec.after; same = digits_more (suc f) n more h ∙ rec.same; digit = rec.digit })

-- the digits of a number count up to it
number_digits : (hash : Bool) (f n : ℕ) (more : List ℕ) → n < ten f → number_from hash 0 (digits f n more) ≡ number_from hash n more
unfolding digits
number_digits hash zero n more h = let z : 0 ≡ n = omega arith in ap (λ (k : ℕ). number_from hash k more) z
number_digits hash (suc f) n more h =
    let rec : n / 10 < ten f → _ = number_digits hash f (n / 10) ((48 + n % 10) ∷ more) in
    small_or_not n
    (λ s.
    let z : 0 * 10 + (48 + n - 48) ≡ n = omega arith in
    ap (number_from hash 0) (digits_one f n more s) ∙ number_digit hash 0 (48 + n) more (digit_is n s) ∙ ap (λ (k : ℕ). number_from hash k more) z)
    (λ s.
    let z : n / 10 * 10 + (48 + n % 10 - 48) ≡ n = omega arith in
    ap (number_from hash 0) (digits_more f n more s) ∙ rec (omega arith) ∙ number_digit hash (n / 10) (48 + n % 10) more (digit_is (n % 10) (omega arith))
    ∙ ap (λ (k : ℕ). number_from hash k more) z)

-- ---- a number on its line ----------------------------------------------------------------------------------------------------------------

line_end_passed : (hash : Bool) (s : List ℕ) → skipped hash false (10 ∷ s) ≡ skipped hash false s
unfolding skipped is_gap is_space runs_on
line_end_passed true s = refl
line_end_passed false s = refl

line_end_stops : (hash : Bool) (v : ℕ) (s : List ℕ) → number_from hash v (10 ∷ s) ≡ number v (10 ∷ s)
unfolding number_from is_digit is_gap is_space
line_end_stops hash v s = refl

starts_skipped : (hash : Bool) {l : List ℕ} → Starts l → skipped hash false l ≡ l
starts_skipped hash {l} b =
    ap (skipped hash false) b.same ∙ skipped_stop hash false b.first b.after (digit_no_gap hash b.first b.digit) ∙ sym b.same

starts_token : (hash : Bool) {l : List ℕ} → Starts l → token_at hash l ≡ number_from hash 0 l
starts_token hash {l} b = ap (token_at hash) b.same ∙ token_number hash b.first b.after b.digit ∙ ap (number_from hash 0) (sym b.same)

pub token_line : (before after : Bool) (n : ℕ) (ns : List ℕ) → n < 10000000000 → token_of before after (10 ∷ number_lines (n ∷ ns)) ≡ number n (10 ∷ number_lines ns)
unfolding token_of
token_line before after n ns h =
    let text : number_lines (n ∷ ns) ≡ digits 10 n (10 ∷ number_lines ns) = lines_more n ns ∙ sym (digits_before 10 n [] (10 ∷ number_lines ns)) in
    let begins : Starts (digits 10 n (10 ∷ number_lines ns)) = digits_start 9 n (10 ∷ number_lines ns) in
    ap (token_at after)
    (line_end_passed before (number_lines (n ∷ ns)) ∙ ap (skipped before false) text ∙ starts_skipped before begins)
    ∙ starts_token after begins ∙ number_digits after 10 n (10 ∷ number_lines ns) (omega arith) ∙ line_end_stops after n (number_lines ns)

-- ---- the cells ---------------------------------------------------------------------------------------------------------------------------

cells_over : cells_refusal 0 (10 ∷ number_lines []) ≡ 0
unfolding cells_refusal skipped is_gap is_space runs_on number_lines
cells_over = refl

cells_line : (cells : List ℕ) → ((i : ℕ) → i < length cells → is_shown (get_or cells i 0) ≡ true) → cells_refusal (length cells) (10 ∷ number_lines cells) ≡ 0
cells_line [] h = cells_over
cells_line (x ∷ xs) h =
    let rec = cells_line xs (λ i k. h (suc i) (omega arith)) in
    let m = shown_most x (h 0 (omega arith)) in
    cells_more (length xs) (10 ∷ number_lines (x ∷ xs))
    ∙ ap (λ (t : Token). due 63 t (unless 63 (is_shown (value_of t)) (cells_refusal (length xs) (rest_of t)))) (token_line false false x xs (omega arith))
    ∙ ap (λ (b : Bool). unless 63 b (cells_refusal (length xs) (10 ∷ number_lines xs))) (h 0 (omega arith)) ∙ rec

values_line : (cells : List ℕ) → ((i : ℕ) → i < length cells → is_shown (get_or cells i 0) ≡ true) → cell_values (length cells) (10 ∷ number_lines cells) ≡ cells
values_line [] h = values_none (10 ∷ number_lines [])
values_line (x ∷ xs) h =
    let rec = values_line xs (λ i k. h (suc i) (omega arith)) in
    let m = shown_most x (h 0 (omega arith)) in
    values_more (length xs) (10 ∷ number_lines (x ∷ xs))
    ∙ ap (λ (t : Token). value_of t ∷ cell_values (length xs) (rest_of t)) (token_line false false x xs (omega arith))
    ∙ ap (λ (l : List ℕ). x ∷ l) rec

-- ---- the plain form ----------------------------------------------------------------------------------------------------------------------

module _ (R C : ℕ) (shown : List ℕ) (ours : Showable R C shown) where
  plain_rest : drop 2 (plain_form R C shown) ≡ 10 ∷ number_lines (C ∷ R ∷ 17 ∷ shown)
  unfolding plain_form
  plain_rest = refl

  plain_marked : is_marked (plain_form R C shown) ≡ true
  unfolding plain_form is_marked is_gap is_space
  plain_marked = refl

  plain_width : width_of (plain_form R C shown) ≡ number C (10 ∷ number_lines (R ∷ 17 ∷ shown))
  plain_width = let z = size_limits R C ours.size in ap (token_of true true) plain_rest ∙ token_line true true C (R ∷ 17 ∷ shown) (omega arith)

  plain_height : height_of (plain_form R C shown) ≡ number R (10 ∷ number_lines (17 ∷ shown))
  plain_height =
      let z = size_limits R C ours.size in
      ap (λ (t : Token). token_of true true (rest_of t)) plain_width ∙ token_line true true R (17 ∷ shown) (omega arith)

  plain_maximum : maximum_of (plain_form R C shown) ≡ number 17 (10 ∷ number_lines shown)
  plain_maximum = ap (λ (t : Token). token_of true false (rest_of t)) plain_height ∙ token_line true false 17 shown (omega arith)

  pub plain_rows : rows_of (plain_form R C shown) ≡ R
  plain_rows = ap value_of plain_height

  pub plain_columns : columns_of (plain_form R C shown) ≡ C
  plain_columns = ap value_of plain_width

  plain_size : (rest : ℕ) → size_refusal (plain_form R C shown) rest ≡ rest
  unfolding size_refusal
  plain_size rest =
      let s = plain_form R C shown in
      let fits : size_ok (rows_of s) (columns_of s) ≡ true = ap (λ (k : ℕ). size_ok k (columns_of s)) plain_rows ∙ ap (size_ok R) plain_columns ∙ ours.size in
      simp plain_marked
      (ap (λ (t : Token). due 61 t (due 61 (height_of s) (unless 61 (size_ok (rows_of s) (columns_of s)) rest))) plain_width
      ∙ ap (λ (t : Token). due 61 t (unless 61 (size_ok (rows_of s) (columns_of s)) rest)) plain_height ∙ ap (λ (b : Bool). unless 61 b rest) fits)

  count_as : rows_of (plain_form R C shown) * columns_of (plain_form R C shown) ≡ length shown
  count_as =
      ap (λ (k : ℕ). k * columns_of (plain_form R C shown)) plain_rows ∙ ap (λ (k : ℕ). R * k) plain_columns ∙ sym ours.long

  pub plain_accepted : picture_refusal (plain_form R C shown) ≡ 0
  unfolding picture_refusal maximum_refusal
  plain_accepted =
      let s = plain_form R C shown in
      plain_size _
      ∙ ap (λ (t : Token). due 62 t (unless 62 (eqb (value_of t) 17) (cells_refusal (rows_of s * columns_of s) (rest_of t)))) plain_maximum
      ∙ ap (λ (n : ℕ). cells_refusal n (10 ∷ number_lines shown)) count_as ∙ cells_line shown (all_at shown ours.values)

  pub plain_cells : picture_cells (plain_form R C shown) ≡ shown
  plain_cells =
      ap (λ (n : ℕ). cell_values n (rest_of (maximum_of (plain_form R C shown)))) count_as
      ∙ ap (λ (t : Token). cell_values (length shown) (rest_of t)) plain_maximum ∙ values_line shown (all_at shown ours.values)
