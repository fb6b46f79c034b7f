-- How long the printout's lines can be, and the room that follows.
use mathlib.Core.Path.{◌≡◌, ap, ◌∙◌}
use mathlib.Core.List.{List, [], ◌∷◌, ◌++◌}
use Prim.Native.Nat.{ℕ, zero, suc, ◌+◌, ◌*◌, ◌<◌, ◌≤◌}
use native.Mathlib.Omega.{arith}
use native.Mathlib.Nat.{mul-suc, suc-mul}
use lib.ListN.{length, drop, take, length-append, length-drop}
use lib.Seq.{length-take-le}
use Rattle.rules.specs.Printout.{decimal, spaced, line_of, word_line, word_game, word_refused, word_at_place, row_lines}
use Rattle.cells.specs.Ground.{Below}
use Rattle.writing.specs.Put.{Room}
use Rattle.writing.proofs.Putting.{room_within}
use Rattle.writing.proofs.Decimal.{decimal_length}
use Rattle.writing.proofs.Spaced.{Few, few_below, few_any, spaced_none, spaced_length, one_longer, line_parts}
use Rattle.text.specs.Texts.{refused_text}

pub word_line_length : (k : ℕ) (word ns : List ℕ) → Few k ns → length (word_line word ns) ≤ length word + suc k * length ns + 1
word_line_length k word ns b =
    let s = spaced_length k ns b in
    let e = length-append word (spaced ns ++ (10 ∷ [])) in
    let d = length-append (spaced ns) (10 ∷ []) in
    omega arith

line_longer : (n : ℕ) (ns : List ℕ) → length (line_of (n ∷ ns)) ≡ length (decimal n) + (length (spaced ns) + 1)
line_longer n ns =
    let e = length-append (decimal n) (spaced ns ++ (10 ∷ [])) in
    let d = length-append (spaced ns) (10 ∷ []) in
    ap length (line_parts n ns) ∙ omega arith

pub line_length : (k : ℕ) (ns : List ℕ) → 1 ≤ length ns → Few k ns → length (line_of ns) ≤ suc k * length ns
line_length k [] h b = absurd (omega arith)
line_length k (n ∷ ns) h b =
    let s = spaced_length k ns b.1 in
    let d = b.0 in
    let e = line_longer n ns in
    let m = mul-suc (suc k) (length ns) in
    omega arith

-- two numbers of five digits and two of three
pub event_length : (n a g m : ℕ) → n < 65536 → a < 65536 → g < 256 → m < 256 → length (line_of (n ∷ a ∷ g ∷ m ∷ [])) ≤ 20
event_length n a g m hn ha hg hm =
    let dn = decimal_length 4 n (omega arith) in
    let da = decimal_length 4 a (omega arith) in
    let dg = decimal_length 2 g (omega arith) in
    let dm = decimal_length 2 m (omega arith) in
    let e = line_longer n (a ∷ g ∷ m ∷ []) in
    let ea = one_longer a (g ∷ m ∷ []) in
    let eg = one_longer g (m ∷ []) in
    let em = one_longer m [] in
    let none = ap length spaced_none in
    omega arith

pub game_length : (r c m q : ℕ) → r < 256 → c < 256 → m < 256 → q ≤ 1 → length (word_line word_game (r ∷ c ∷ m ∷ q ∷ [])) ≤ 21
game_length r c m q hr hc hm hq =
    word_line_length 3 word_game (r ∷ c ∷ m ∷ q ∷ []) (few_below 2 (r ∷ c ∷ m ∷ q ∷ []) (omega arith, (omega arith, (omega arith, (omega arith, tt)))))

-- a line of any numbers
pub word_line_most : (word ns : List ℕ) → length (word_line word ns) ≤ length word + 11 * length ns + 1
word_line_most word ns = word_line_length 10 word ns (few_any ns)

pub refused_length : (number place : ℕ) → length (refused_text number place) ≤ 33
refused_length number place =
    let w = word_line_most word_at_place (place ∷ []) in
    let s = spaced_length 10 (number ∷ []) (few_any (number ∷ [])) in
    let e = length-append (spaced (number ∷ [])) (word_line word_at_place (place ∷ [])) in
    let d = length-append word_refused (spaced (number ∷ []) ++ word_line word_at_place (place ∷ [])) in
    omega arith

pub refused_room : (number place : ℕ) {at : ℕ} {out : List ℕ} → at + 33 ≤ length out → Room (refused_text number place) at out
refused_room number place h = room_within 33 (refused_length number place) h

-- ---- the shown rows --------------------------------------------------------------------------------------------------------------------

below_take : (m n : ℕ) (l : List ℕ) → Below m l → Below m (take n l)
below_take m zero l b = tt
below_take m (suc n) [] b = tt
below_take m (suc n) (x ∷ xs) b = (b.0, below_take m n xs b.1)

below_drop : (m n : ℕ) (l : List ℕ) → Below m l → Below m (drop n l)
below_drop m zero l b = b
below_drop m (suc n) [] b = tt
below_drop m (suc n) (x ∷ xs) b = below_drop m n xs b.1

pub rows_length : (n C : ℕ) (s : List ℕ) → 1 ≤ C → n * C ≤ length s → Below 1000 s → length (row_lines n C s) ≤ 4 * (n * C)
unfolding row_lines
rows_length zero C s h f b = omega arith
rows_length (suc n) C s h f b =
    let m : suc n * C ≡ n * C + C = suc-mul n C in
    let t : length (take C s) ≡ C = length-take-le C s (omega arith) in
    let d = length-drop C s in
    let rec = rows_length n C (drop C s) h (omega arith) (below_drop 1000 C s b) in
    let l = line_length 3 (take C s) (omega arith) (few_below 2 (take C s) (below_take 1000 C s b)) in
    let e = length-append (line_of (take C s)) (row_lines n C (drop C s)) in
    omega arith
