-- The line of an outcome has its room.
use mathlib.Core.Path.{◌≡◌, refl, ap, ap₂}
use mathlib.Core.List.{List, [], ◌∷◌, ◌++◌}
use Prim.Native.Nat.{ℕ, ◌*◌, ◌<◌, ◌≤◌}
use native.Mathlib.Omega.{arith}
use lib.ListN.{length, get_or, length-append}
use Rattle.rules.specs.declared.Answer.{Answer}
use Rattle.rules.specs.Printout.{decimal, spaced}
use Rattle.writing.specs.Put.{Room, Put, PutWithin}
use Rattle.writing.proofs.Decimal.{digits_most}
use Rattle.writing.proofs.Spaced.{few_any, few_below, below_all, spaced_length}
use Rattle.writing.proofs.Putting.{room_within, within, put_as}
use Rattle.packed.specs.Line.{answer_numbers, outcome_line, outcome_room}

-- the line of an answer's numbers
abbrev pub line_by : ℕ → List ℕ → List ℕ → List ℕ → List ℕ
line_by n ns shown bits = decimal n ++ (spaced ns ++ (spaced shown ++ (spaced bits ++ (10 ∷ []))))

bytes_length : (s : List ℕ) → ((i : ℕ) → get_or s i 0 < 256) → length (spaced s) ≤ 4 * length s
bytes_length s b = spaced_length 3 s (few_below 2 s (below_all 1000 s (λ i. let h = b i in omega arith)))

line_by_length : (n : ℕ) (ns shown bits : List ℕ) → length ns ≡ 23 → ((i : ℕ) → get_or shown i 0 < 256) → ((i : ℕ) → get_or bits i 0 < 256)
    → length (line_by n ns shown bits) ≤ outcome_room (length shown) (length bits)
line_by_length n ns shown bits e hs hb =
    let d = digits_most 10 n [] in
    let s = spaced_length 10 ns (few_any ns) in
    let c = bytes_length shown hs in
    let b = bytes_length bits hb in
    let l = length-append (decimal n) (spaced ns ++ (spaced shown ++ (spaced bits ++ (10 ∷ [])))) in
    let m = length-append (spaced ns) (spaced shown ++ (spaced bits ++ (10 ∷ []))) in
    let k = length-append (spaced shown) (spaced bits ++ (10 ∷ [])) in
    let j = length-append (spaced bits) (10 ∷ []) in
    omega arith

module _ (a : Answer) {n : ℕ} {ns : List ℕ} (shown bits : List ℕ) (d : n ≡ a.number) (e : ns ≡ answer_numbers a)
    (hs : (i : ℕ) → get_or shown i 0 < 256) (hb : (i : ℕ) → get_or bits i 0 < 256) where
  pub outcome_room_lem : {out : List ℕ} → outcome_room (length shown) (length bits) ≤ length out → Room (line_by n ns shown bits) 0 out
  outcome_room_lem h = room_within (outcome_room (length shown) (length bits)) {at = 0} (line_by_length n ns shown bits (ap length e) hs hb) (omega arith)

  pub outcome_told : {out out' : List ℕ} {r : ℕ} → Put (line_by n ns shown bits) 0 out out' r
      → PutWithin (outcome_room (length shown) (length bits)) (outcome_line a shown bits) 0 out out' r
  outcome_told p =
      within (line_by_length a.number (answer_numbers a) shown bits refl hs hb)
      (put_as (ap₂ (λ (m : ℕ) (l : List ℕ). line_by m l shown bits) d e) p)
