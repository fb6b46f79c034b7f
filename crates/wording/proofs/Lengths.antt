-- How long a hint in words can be, and the room that follows.
use mathlib.Core.Path.{◌≡◌, ap}
use mathlib.Core.List.{List, [], ◌∷◌, ◌++◌}
use Prim.Native.Nat.{ℕ, ◌+◌, ◌≤◌}
use native.Mathlib.Omega.{arith}
use lib.ListN.{length, length-append}
use Rattle.rules.specs.Printout.{spaced, word_refused}
use Rattle.writing.specs.Put.{Room, Put, PutWithin}
use Rattle.writing.proofs.Putting.{room_within, within, put_as}
use Rattle.writing.proofs.Spaced.{few_any, spaced_length}
use Rattle.rules.specs.declared.Hint.{Hint}
use Rattle.rules.specs.declared.Hint.TheVariants.{Cell, Nothing, Refused}
use Rattle.rules.specs.Trainer.{word_cell, word_by, hint_words}

-- a word of four bytes, one of three, and four numbers of at most ten digits, each after a space
words_longest : (h : Hint) → length (hint_words h) ≤ 51
words_longest (Cell row column byRow byColumn) =
    let a = spaced_length 10 (row ∷ column ∷ []) (few_any (row ∷ column ∷ [])) in
    let b = spaced_length 10 (byRow ∷ byColumn ∷ []) (few_any (byRow ∷ byColumn ∷ [])) in
    let c = length-append word_cell (spaced (row ∷ column ∷ []) ++ (word_by ++ spaced (byRow ∷ byColumn ∷ []))) in
    let d = length-append (spaced (row ∷ column ∷ [])) (word_by ++ spaced (byRow ∷ byColumn ∷ [])) in
    let e = length-append word_by (spaced (byRow ∷ byColumn ∷ [])) in
    omega arith
words_longest Nothing = omega arith
words_longest (Refused n) =
    let a = spaced_length 10 (n ∷ []) (few_any (n ∷ [])) in
    let b = length-append word_refused (spaced (n ∷ [])) in
    omega arith

-- the words over numbers by other names
pub cell_as : {a b c d a' b' c' d' : ℕ} → a' ≡ a → b' ≡ b → c' ≡ c → d' ≡ d → hint_words (Cell a b c d) ≡ hint_words (Cell a' b' c' d')
cell_as {a} {b} {c} {d} {a'} {b'} {c'} {d'} e f g h = let q : Cell a b c d ≡ Cell a' b' c' d' = cc in ap hint_words q

pub refused_as : {n n' : ℕ} → n' ≡ n → hint_words (Refused n) ≡ hint_words (Refused n')
refused_as {n} {n'} e = let q : Refused n ≡ Refused n' = cc in ap hint_words q

pub words_room : (h : Hint) {at : ℕ} {out : List ℕ} → at + 51 ≤ length out → Room (hint_words h) at out
words_room h fits = room_within 51 (words_longest h) fits

-- a hint by another name
pub words_put : {h h' : Hint} {at r : ℕ} {out out' : List ℕ} → h ≡ h' → Put (hint_words h) at out out' r → PutWithin 51 (hint_words h') at out out' r
words_put {h' = h'} e p = within (words_longest h') (put_as (ap hint_words e) p)
