-- The one plain form: its lines one after the other, its parts, and how long it can be.
use mathlib.Core.Path.{◌≡◌, refl, ap, sym, ◌∙◌}
use mathlib.Core.Bool.{true}
use mathlib.Core.List.{List, [], ◌∷◌, ◌++◌, append_assoc}
use Prim.Native.Nat.{ℕ, suc, ◌+◌, ◌*◌, ◌<◌, ◌≤◌}
use native.Mathlib.Omega.{arith}
use lib.ListN.{length, get_or, drop, length-append}
use Rattle.rules.specs.Grid.{size_ok}
use Rattle.rules.specs.Printout.{decimal}
use Rattle.rules.specs.Picture.{is_shown, all_shown, number_lines, plain_form, byte_room}
use Rattle.cells.specs.Ground.{Below}
use Rattle.cells.proofs.Grid.{size_limits}
use Rattle.writing.proofs.Putting.{each_turn, each_done}
use Rattle.writing.proofs.Decimal.{decimal_length}
use Rattle.showing.proofs.Shown.{shown_most, all_at}

abbrev pub number_line : ℕ → List ℕ
number_line n = decimal n ++ (10 ∷ [])

pub lines_none : number_lines [] ≡ []
unfolding number_lines
lines_none = refl

pub lines_more : (n : ℕ) (ns : List ℕ) → number_lines (n ∷ ns) ≡ decimal n ++ (10 ∷ number_lines ns)
unfolding number_lines
lines_more n ns = refl

lines_next : (n : ℕ) (ns : List ℕ) → number_lines (n ∷ ns) ≡ number_line n ++ number_lines ns
lines_next n ns = lines_more n ns ∙ sym (append_assoc (decimal n) (10 ∷ []) (number_lines ns))

pub lines_turn : (ns : List ℕ) (i : ℕ) {n : ℕ} → n ≡ get_or ns i 0 → i < length ns → number_lines (drop i ns) ≡ number_line n ++ number_lines (drop (i + 1) ns)
lines_turn ns i e h = rw e (each_turn number_line number_lines lines_none lines_next ns i h)

pub lines_done : (ns : List ℕ) (i : ℕ) → length ns ≤ i → number_lines (drop i ns) ≡ []
lines_done = each_done number_line number_lines lines_none lines_next

-- the mark, the three numbers, the cells
pub plain_parts : (R C : ℕ) (shown : List ℕ)
    → plain_form R C shown ≡ (80 ∷ 50 ∷ 10 ∷ []) ++ (number_line C ++ (number_line R ++ (number_line 17 ++ number_lines shown)))
unfolding plain_form
plain_parts R C shown =
    ap (λ (l : List ℕ). (80 ∷ 50 ∷ 10 ∷ []) ++ l)
    (lines_next C (R ∷ 17 ∷ shown)
    ∙ ap (λ (l : List ℕ). number_line C ++ l) (lines_next R (17 ∷ shown) ∙ ap (λ (l : List ℕ). number_line R ++ l) (lines_next 17 shown)))

-- ---- lengths -----------------------------------------------------------------------------------------------------------------------------

-- a line of at most three bytes for each number below 100
lines_length : (ns : List ℕ) → Below 100 ns → length (number_lines ns) ≤ 3 * length ns
unfolding number_lines
lines_length [] b = omega arith
lines_length (n ∷ ns) b =
    let rec = lines_length ns b.1 in
    let d = decimal_length 1 n b.0 in
    let l = length-append (decimal n) (10 ∷ number_lines ns) in
    omega arith

shown_below : (l : List ℕ) → ((i : ℕ) → i < length l → is_shown (get_or l i 0) ≡ true) → Below 100 l
shown_below [] h = tt
shown_below (x ∷ xs) h =
    (let m = shown_most x (h 0 (omega arith)) in omega arith, shown_below xs (λ i k. h (suc i) (omega arith)))

-- no picture is longer than the writer's room
pub picture_longest : (R C : ℕ) (shown : List ℕ) → size_ok R C ≡ true → length shown ≡ R * C → all_shown shown ≡ true → length (plain_form R C shown) ≤ byte_room
unfolding plain_form
picture_longest R C shown size long all =
    let z = size_limits R C size in
    let b = shown_below shown (all_at shown all) in
    let l = lines_length (C ∷ R ∷ 17 ∷ shown) (omega arith, (omega arith, (omega arith, b))) in
    omega arith
