-- Writing text after text: two texts one after the other are one text, and a loop that has written the front of a text has the rest to write. From a bound to the room, and back.
use mathlib.Core.Path.{◌≡◌, refl, ap, sym, ◌∙◌}
use mathlib.Core.List.{List, [], ◌∷◌, ◌++◌, append_assoc}
use Prim.Native.Nat.{ℕ, suc, ◌+◌, ◌<◌, ◌≤◌}
use native.Mathlib.Omega.{arith}
use native.Mathlib.Numerals.{add-one}
use native.Mathlib.Nat.{add-zero, zero-add, add-suc, suc-add}
use lib.ListN.{length, get_or, drop, take, length-append, drop_of_length-le}
use lib.Seq.{sets, length-sets, sets-eq, drop-cons, drop_at, take_at, length-take-le}
use Rattle.rules.specs.Words.{over}
use Rattle.writing.specs.Put.{Room, Put, PutWithin}

-- ---- two texts -------------------------------------------------------------------------------------------------------------------------

pub sets_append : (a b l : List ℕ) (i : ℕ) → sets l i (a ++ b) ≡ sets (sets l i a) (i + length a) b
sets_append [] b l i = ap (λ (k : ℕ). sets l k b) (sym (add-zero i))
sets_append (x ∷ a) b l i =
    sets_append a b _ (suc i) ∙ ap (λ (k : ℕ). sets (sets l i (x ∷ a)) k b) (suc-add i (length a) ∙ sym (add-suc i (length a)))

pub put_length : {a : List ℕ} {at r : ℕ} {out out' : List ℕ} → Put a at out out' r → length out' ≡ length out
put_length {a} {at} {r} {out} p = ap length p.same ∙ length-sets out at a

-- room for both is room for the first, and once that is written for the second
pub room_first : {a : List ℕ} (b : List ℕ) {at : ℕ} {out : List ℕ} → Room (a ++ b) at out → Room a at out
room_first {a} b h = let l = length-append a b in record { fits = omega arith }

pub room_second : {a b : List ℕ} {at r : ℕ} {out out' : List ℕ} → Room (a ++ b) at out → Put a at out out' r → Room b r out'
room_second {a} {b} h p = let l = length-append a b in let m = put_length p in record { fits = omega arith }

pub put_then : {a b : List ℕ} {at r r' : ℕ} {out out' out'' : List ℕ} → Put a at out out' r → Put b r out' out'' r' → Put (a ++ b) at out out'' r'
put_then {a} {b} {at} {r} {r'} {out} {out'} {out''} p q =
    record {
      next = let l = length-append a b in omega arith;
      same = q.same ∙ ap (λ (l : List ℕ). sets l r b) p.same ∙ ap (λ (k : ℕ). sets (sets out at a) k b) p.next ∙ sym (sets_append a b out at);
    }

-- ---- what a reader of the buffer finds ---------------------------------------------------------------------------------------------------

module _ {text : List ℕ} {at : ℕ} {out : List ℕ} (room : Room text at out) {out' : List ℕ} {r : ℕ} (p : Put text at out out' r) where
  pub put_reads : out' ≡ take at out ++ (text ++ drop (at + length text) out)
  put_reads = p.same ∙ sets-eq text out at room.fits ∙ append_assoc (take at out) text (drop (at + length text) out)

  -- from the place on the text can be read
  pub put_found : take (length text) (drop at out') ≡ text
  put_found =
      let n : length (take at out) ≡ at = length-take-le at out (let f = room.fits in omega arith) in
      ap (λ (l : List ℕ). take (length text) (drop at l)) put_reads
      ∙ ap (λ (l : List ℕ). take (length text) l) (drop_at (take at out) (text ++ drop (at + length text) out) at n)
      ∙ take_at text (drop (at + length text) out) (length text) refl

-- a text written at the front
pub put_over : {text out out' : List ℕ} {r : ℕ} → length text ≤ length out → Put text 0 out out' r → out' ≡ over text out
put_over h p = rw zero-add at (put_reads (record { fits = omega arith }) p)

-- written from the front on, the text is what stands before the place after it
pub put_front : {text out out' : List ℕ} {r : ℕ} → length text ≤ length out → Put text 0 out out' r → (r ≤ length out') × (take r out' ≡ text)
put_front {text} {out} {out'} h p =
    let n = p.next in
    let l = put_length p in
    (omega arith, ap (λ (k : ℕ). take k out') (n ∙ zero-add (length text)) ∙ put_found (record { fits = omega arith }) p)

-- any two outcomes are equal
pub put_one : {text : List ℕ} {at r q : ℕ} {out a b : List ℕ} → Put text at out a r → Put text at out b q → (a ≡ b) × (r ≡ q)
put_one p q = (p.same ∙ sym q.same, p.next ∙ sym q.next)

-- ---- a loop ----------------------------------------------------------------------------------------------------------------------------

-- the rest, written from here on, makes the whole text
pub record Leads (text : List ℕ) (at : ℕ) (out₀ rest : List ℕ) (o : ℕ) (out : List ℕ) : Type 0 where
  pub same : sets out o rest ≡ sets out₀ at text
  pub ends : o + length rest ≡ at + length text
  pub long : length out ≡ length out₀

module _ {text : List ℕ} {at : ℕ} {out₀ : List ℕ} where
  pub leads_start : Leads text at out₀ text at out₀
  leads_start = record { same = refl; ends = refl; long = refl }

  pub leads_room : (a b : List ℕ) {rest : List ℕ} {o : ℕ} {out : List ℕ} → Room text at out₀ → Leads text at out₀ rest o out → rest ≡ a ++ b → Room a o out
  leads_room a b h w e = let l = length-append a b in let m = ap length e in record { fits = omega arith }

  pub leads_turn : (a b : List ℕ) {rest : List ℕ} {o o' : ℕ} {out out' : List ℕ} → Leads text at out₀ rest o out → rest ≡ a ++ b → Put a o out out' o' → Leads text at out₀ b o' out'
  leads_turn a b {rest} {o} {o'} {out} {out'} w e p =
      record {
        same =
            ap (λ (l : List ℕ). sets l o' b) p.same ∙ ap (λ (k : ℕ). sets (sets out o a) k b) p.next ∙ sym (sets_append a b out o)
            ∙ ap (λ (l : List ℕ). sets out o l) (sym e) ∙ w.same;
        ends = let l = length-append a b in let m = ap length e in omega arith;
        long = put_length p ∙ w.long;
      }

  pub leads_done : {rest : List ℕ} {o : ℕ} {out : List ℕ} → Leads text at out₀ rest o out → rest ≡ [] → Put text at out₀ out o
  leads_done {rest} {o} {out} w e =
      record {
        next = let m = ap length e in omega arith;
        same = sym (ap (λ (l : List ℕ). sets out o l) e) ∙ w.same;
      }

-- ---- a text for each number of a list --------------------------------------------------------------------------------------------------

module _ (one : ℕ → List ℕ) (each : List ℕ → List ℕ) (none : each [] ≡ []) (next : (x : ℕ) (xs : List ℕ) → each (x ∷ xs) ≡ one x ++ each xs) where
  pub each_turn : (ns : List ℕ) (i : ℕ) → i < length ns → each (drop i ns) ≡ one (get_or ns i 0) ++ each (drop (i + 1) ns)
  each_turn ns i h = rw (add-one, drop-cons ns i 0) (next (get_or ns i 0) (drop (suc i) ns))

  pub each_done : (ns : List ℕ) (i : ℕ) → length ns ≤ i → each (drop i ns) ≡ []
  each_done ns i h = rw (drop_of_length-le ns {i = i} h) none

pub bytes_turn : (s : List ℕ) (i : ℕ) → i < length s → drop i s ≡ (get_or s i 0 ∷ []) ++ drop (i + 1) s
bytes_turn = each_turn (λ x. x ∷ []) (λ s. s) refl (λ x xs. refl)

pub bytes_done : (s : List ℕ) (i : ℕ) → length s ≤ i → drop i s ≡ []
bytes_done = each_done (λ x. x ∷ []) (λ s. s) refl (λ x xs. refl)

-- ---- a text by another name ------------------------------------------------------------------------------------------------------------

pub room_as : {a b : List ℕ} {at : ℕ} {out : List ℕ} → a ≡ b → Room a at out → Room b at out
room_as {a} {b} {at} {out} e h = rw e at h

pub put_as : {a b : List ℕ} {at r : ℕ} {out out' : List ℕ} → a ≡ b → Put a at out out' r → Put b at out out' r
put_as {a} {b} {at} {r} {out} {out'} e p = rw e at p

-- ---- from a bound to the room, and back ------------------------------------------------------------------------------------------------

pub room_within : (most : ℕ) {text : List ℕ} {at : ℕ} {out : List ℕ} → length text ≤ most → at + most ≤ length out → Room text at out
room_within most h f = record { fits = omega arith }

pub within : {most : ℕ} {text : List ℕ} {at r : ℕ} {out out' : List ℕ} → length text ≤ most → Put text at out out' r → PutWithin most text at out out' r
within h p = record { put = p; short = h }

pub within_then : {k m n : ℕ} {a b : List ℕ} {at r r' : ℕ} {out out' out'' : List ℕ}
    → m + n ≤ k → PutWithin m a at out out' r → PutWithin n b r out' out'' r' → PutWithin k (a ++ b) at out out'' r'
within_then {k} {m} {n} {a} {b} h p q =
    record { put = put_then p.put q.put; short = let l = length-append a b in let c = p.short in let d = q.short in omega arith }
