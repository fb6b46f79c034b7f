-- A desk in bytes and back: what is put is what is taken up, and what stands elsewhere in the room stays.
use mathlib.Core.Path.{◌≡◌, refl, ap, sym, ◌∙◌}
use mathlib.Core.Bool.{Bool, true, false}
use mathlib.Core.List.{List, [], ◌∷◌, ◌++◌, append_assoc, append-nil}
use Prim.Native.Nat.{ℕ, ◌+◌, ◌-◌, ◌*◌, ◌/◌, ◌%◌, ◌<◌, ◌≤◌}
use native.Mathlib.Omega.{arith}
use lib.ListN.{length, get_or, take, drop, length-append, length-drop, drop_of_length-le, get_or-append}
use lib.Seq.{get_or-take, get_or-drop, get_or-append-add, drop_at, take_at, drop-drop, take-add, take-take, take_all, length-take-le, ext_get_or}
use Rattle.rules.specs.declared.Settings.{Settings}
use Rattle.rules.specs.declared.Position.{Position}
use Rattle.rules.specs.declared.GameState.{GameState}
use Rattle.rules.specs.declared.GameState.TheVariants.{Ready, Playing, Win, Loss, PreFlaging}
use Rattle.rules.specs.declared.MouseState.{MouseState}
use Rattle.rules.specs.declared.MouseState.TheVariants.{UpUp, UpDown, UpDownNotFlag, DownUp, Chording, ChordingNotFlag, DownUpAfterChording}
use Rattle.rules.specs.Words.{bit}
use Rattle.rules.specs.States.{game_number, game_at, mouse_number, mouse_at}
use Rattle.rules.specs.Clicks.{desk}
use Rattle.writing.specs.Put.{Room, Put}
use Rattle.writing.proofs.Putting.{each_turn, each_done, put_reads, put_as, put_length}
use Rattle.rules.specs.Slides.{four_bytes, fours, state_bytes, numbers_kept, desk_bytes, slot_size, four_at, yes, settings_in, position_in, desk_in}
use Rattle.keeping.specs.Keeps.{Fits}
use Rattle.keeping.proofs.Reading.{counts_read, secrets_read, position_read}

-- ---- writing ---------------------------------------------------------------------------------------------------------------------------

-- what stands for each byte that a function of its own gives
pub states_are : (p : Position) {q g m b : ℕ} → q ≡ bit p.settings.question → g ≡ game_number p.game → m ≡ mouse_number p.mouse → b ≡ bit p.middle
    → p.settings.rows ∷ p.settings.columns ∷ p.settings.mode ∷ q ∷ p.settings.rules ∷ g ∷ m ∷ b ∷ [] ≡ state_bytes p
states_are p hq hg hm hb = rw (hq, hg, hm, hb)

-- a number's bytes as the library makes them
pub four_made : {n : ℕ} {b : List ℕ} → n < 4294967296 → b ≡ n % 256 ∷ n / 256 % 256 ∷ n / 65536 % 256 ∷ n / 16777216 % 256 ∷ [] → b ≡ four_bytes n
four_made {n} h e = e ∙ ap (λ (x : ℕ). n % 256 ∷ n / 256 % 256 ∷ n / 65536 % 256 ∷ x ∷ []) (let z : n / 16777216 % 256 ≡ n / 16777216 = omega arith in z)

fours_next : (x : ℕ) (xs : List ℕ) → fours (x ∷ xs) ≡ four_bytes x ++ fours xs
unfolding fours
fours_next x xs = refl

fours_none : fours [] ≡ []
unfolding fours
fours_none = refl

pub fours_turn : (ns : List ℕ) (i : ℕ) → i < length ns → fours (drop i ns) ≡ four_bytes (get_or ns i 0) ++ fours (drop (i + 1) ns)
fours_turn = each_turn four_bytes fours fours_none fours_next

pub fours_done : (ns : List ℕ) (i : ℕ) → length ns ≤ i → fours (drop i ns) ≡ []
fours_done = each_done four_bytes fours fours_none fours_next

-- the parts of a desk's bytes
pub desk_parts : (p : Position) (shown bits : List ℕ) {a ns : List ℕ} → a ≡ state_bytes p → ns ≡ numbers_kept p → desk_bytes (desk p shown bits) ≡ a ++ (fours ns ++ (shown ++ bits))
unfolding desk_bytes
desk_parts p shown bits ha hn = rw (ha, hn)

-- ---- reading ---------------------------------------------------------------------------------------------------------------------------

-- a position is read from its first 56 bytes alone
module _ (s t : List ℕ) (same : (k : ℕ) → k < 56 → get_or s k 0 ≡ get_or t k 0) where
  four_same : (k : ℕ) → k + 4 ≤ 56 → four_at s k ≡ four_at t k
  four_same k h =
      let a : get_or s k 0 ≡ get_or t k 0 = same k (omega arith) in
      let b : get_or s (k + 1) 0 ≡ get_or t (k + 1) 0 = same (k + 1) (omega arith) in
      let c : get_or s (k + 2) 0 ≡ get_or t (k + 2) 0 = same (k + 2) (omega arith) in
      let d : get_or s (k + 2 + 1) 0 ≡ get_or t (k + 2 + 1) 0 = same (k + 2 + 1) (omega arith) in
      rw (a, b, c, d)

  settings_same : settings_in s ≡ settings_in t
  settings_same = rw (same 0 (omega arith), same 1 (omega arith), same 2 (omega arith), same 3 (omega arith), same 4 (omega arith))

  pub position_same : position_in s ≡ position_in t
  position_same =
      rw (same 7 (omega arith))
      (position_read t settings_same (ap game_at (same 5 (omega arith))) (ap mouse_at (same 6 (omega arith))) (four_same 8 (omega arith)) (four_same 12 (omega arith))
      (counts_read t (four_same 16 (omega arith)) (four_same 20 (omega arith)) (four_same 24 (omega arith)) (four_same 28 (omega arith)) (four_same 36 (omega arith)) (four_same 40 (omega arith))
      (four_same 52 (omega arith)))
      (secrets_read t (four_same 32 (omega arith)) (four_same 44 (omega arith)) (four_same 48 (omega arith))))

-- what a part of the room is, as the code cuts it
module _ (room : List ℕ) (a n : ℕ) (there : a + n ≤ length room) where
  cut_is : take (a + n - a) (drop a room) ≡ take n (drop a room)
  cut_is = ap (λ (k : ℕ). take k (drop a room)) (let e : a + n - a ≡ n = omega arith in e)

  cut_length : length (take n (drop a room)) ≡ n
  cut_length = length-take-le n (drop a room) (let l = length-drop a room in omega arith)

  -- written from the start of a list, it is the list's front
  cut_front : {out out' : List ℕ} {r : ℕ} → n ≤ length out → Put (take (a + n - a) (drop a room)) 0 out out' r → out' ≡ take n (drop a room) ++ drop n out
  cut_front {out} {out'} {r} h p =
      let q : Put (take n (drop a room)) 0 out out' r = put_as cut_is p in
      let l : length (take n (drop a room)) ≡ n = cut_length in
      put_reads (record { fits = omega arith }) q ∙ ap (λ (k : ℕ). take n (drop a room) ++ drop k out) (let e : 0 + length (take n (drop a room)) ≡ n = omega arith in e)

  -- and the whole of a list that is as long
  cut_whole : {out out' : List ℕ} {r : ℕ} → length out ≡ n → Put (take (a + n - a) (drop a room)) 0 out out' r → out' ≡ take n (drop a room)
  cut_whole {out} {out'} {r} h p =
      cut_front (omega arith) p ∙ (ap (λ (l : List ℕ). take n (drop a room) ++ l) (drop_of_length-le out {i = n} (omega arith)) ∙ append-nil (take n (drop a room)))

pub desk_taken : (room shown bits : List ℕ) (at : ℕ) {p : Position} {s b : List ℕ} {r r' : ℕ} → at + slot_size (length shown) (length bits) ≤ length room
    → p ≡ position_in (take (length room - at) (drop at room))
    → Put (take (at + 56 + length shown - (at + 56)) (drop (at + 56) room)) 0 shown s r
    → Put (take (at + 56 + length shown + length bits - (at + 56 + length shown)) (drop (at + 56 + length shown) room)) 0 bits b r'
    → desk p s b ≡ desk_in (length shown) (length bits) (drop at room)
unfolding desk_in
desk_taken room shown bits at {p} {s} {b} h hp hs hb =
    let es : s ≡ take (length shown) (drop (at + 56) room) = cut_whole room (at + 56) (length shown) (omega arith) refl hs in
    let eb : b ≡ take (length bits) (drop (at + 56 + length shown) room) = cut_whole room (at + 56 + length shown) (length bits) (omega arith) refl hb in
    let ds : drop 56 (drop at room) ≡ drop (at + 56) room = drop-drop 56 at room in
    let db : drop (56 + length shown) (drop at room) ≡ drop (at + 56 + length shown) room =
    drop-drop (56 + length shown) at room ∙ ap (λ (k : ℕ). drop k room) (let e : at + (56 + length shown) ≡ at + 56 + length shown = omega arith in e) in
    let whole : take (length room - at) (drop at room) ≡ drop at room = take_all (length room - at) (drop at room) (let l = length-drop at room in omega arith) in
    rw (hp, whole, es, eb, ds, db)

-- ---- back ------------------------------------------------------------------------------------------------------------------------------

four_back : (n : ℕ) → n < 4294967296 → n ≡ n % 256 + 256 * (n / 256 % 256) + 65536 * (n / 65536 % 256 + 256 * (n / 16777216))
four_back n h = omega arith

yes_back : (b : Bool) → yes (bit b) ≡ b
yes_back true = refl
yes_back false = refl

game_back : (g : GameState) → g ≡ game_at (game_number g)
unfolding game_at
game_back Ready = refl
game_back Playing = refl
game_back Win = refl
game_back Loss = refl
game_back PreFlaging = refl

mouse_back : (m : MouseState) → m ≡ mouse_at (mouse_number m)
unfolding mouse_at
mouse_back UpUp = refl
mouse_back UpDown = refl
mouse_back UpDownNotFlag = refl
mouse_back DownUp = refl
mouse_back Chording = refl
mouse_back ChordingNotFlag = refl
mouse_back DownUpAfterChording = refl

settings_back : (g : Settings) → g ≡ record { rows = g.rows; columns = g.columns; mode = g.mode; question = yes (bit g.question); rules = g.rules }
settings_back g = rw (yes_back g.question)

-- the head of a desk's bytes means the position
position_back : (p : Position) (shown bits rest : List ℕ) → Fits p → position_in (desk_bytes (desk p shown bits) ++ rest) ≡ p
unfolding desk_bytes fours
position_back p shown bits rest f =
    sym
    (position_read (desk_bytes (desk p shown bits) ++ rest) (settings_back p.settings) (game_back p.game) (mouse_back p.mouse) (four_back p.preflags f.preflags)
    (four_back p.events f.events)
    (counts_read (desk_bytes (desk p shown bits) ++ rest) (four_back p.counts.left f.left) (four_back p.counts.right f.right) (four_back p.counts.double f.double)
    (four_back p.counts.lce f.lce) (four_back p.counts.dce f.dce) (four_back p.counts.flag f.flag) (four_back p.counts.unopened f.unopened))
    (secrets_read (desk_bytes (desk p shown bits) ++ rest) (four_back p.secrets.rce f.rce) (four_back p.secrets.solved_left f.solved_left)
    (four_back p.secrets.solved_chord f.solved_chord)))
    ∙ rw (yes_back p.middle)

-- after the head stand the cells and the bits
after_head : (p : Position) (shown bits rest : List ℕ) → drop 56 (desk_bytes (desk p shown bits) ++ rest) ≡ shown ++ (bits ++ rest)
unfolding desk_bytes fours
after_head p shown bits rest = append_assoc shown bits rest

desk_in_back : (p : Position) (shown bits rest : List ℕ) → Fits p → desk_in (length shown) (length bits) (desk_bytes (desk p shown bits) ++ rest) ≡ desk p shown bits
unfolding desk_in
desk_in_back p shown bits rest f =
    let s : List ℕ = desk_bytes (desk p shown bits) ++ rest in
    let a : take (length shown) (drop 56 s) ≡ shown = ap (take (length shown)) (after_head p shown bits rest) ∙ take_at shown (bits ++ rest) (length shown) refl in
    let d : drop (56 + length shown) s ≡ bits ++ rest =
    sym (drop-drop (length shown) 56 s) ∙ (ap (drop (length shown)) (after_head p shown bits rest) ∙ drop_at shown (bits ++ rest) (length shown) refl) in
    let b : take (length bits) (drop (56 + length shown) s) ≡ bits = ap (take (length bits)) d ∙ take_at bits rest (length bits) refl in
    rw (position_back p shown bits rest f, a, b)

pub desk_length : (p : Position) (shown bits : List ℕ) → length (desk_bytes (desk p shown bits)) ≡ slot_size (length shown) (length bits)
unfolding desk_bytes fours
desk_length p shown bits = let e = length-append shown bits in omega arith

-- from the place on stands the text, and then what stood there
found_at : {text : List ℕ} {at : ℕ} {room : List ℕ} (fits : Room text at room) {room' : List ℕ} {r : ℕ} → Put text at room room' r → drop at room' ≡ text ++ drop (at + length text) room
found_at {text} {at} {room} fits put =
    ap (drop at) (put_reads fits put)
    ∙ drop_at (take at room) (text ++ drop (at + length text) room) at (length-take-le at room (let f = fits.fits in omega arith))

-- THE LAW slot-back: a desk kept and taken up again is the same
pub slot_back : (p : Position) (shown bits : List ℕ) {at : ℕ} {room room' : List ℕ} {r : ℕ} → Fits p → Room (desk_bytes (desk p shown bits)) at room
    → Put (desk_bytes (desk p shown bits)) at room room' r → desk_in (length shown) (length bits) (drop at room') ≡ desk p shown bits
slot_back p shown bits {at} {room} f h q =
    ap (desk_in (length shown) (length bits)) (found_at h q) ∙ desk_in_back p shown bits (drop (at + length (desk_bytes (desk p shown bits))) room) f

-- ---- the rest of the room --------------------------------------------------------------------------------------------------------------

-- every byte before the place and after the text is as it was
module _ {text : List ℕ} {at : ℕ} {room : List ℕ} (fits : Room text at room) {room' : List ℕ} {r : ℕ} (put : Put text at room room' r) where
  pub byte_before : (k : ℕ) → k < at → get_or room' k 0 ≡ get_or room k 0
  byte_before k h =
      let l : length (take at room) ≡ at = length-take-le at room (let f = fits.fits in omega arith) in
      ap (λ (x : List ℕ). get_or x k 0) (put_reads fits put)
      ∙ (get_or-append (take at room) (text ++ drop (at + length text) room) 0 k (omega arith) ∙ get_or-take at room k 0 h)

  pub byte_after : (k : ℕ) → at + length text ≤ k → get_or room' k 0 ≡ get_or room k 0
  byte_after k h =
      let l : length (take at room) ≡ at = length-take-le at room (let f = fits.fits in omega arith) in
      let m : length (take at room ++ text) ≡ length (take at room) + length text = length-append (take at room) text in
      let e : k ≡ length (take at room ++ text) + (k - (at + length text)) = omega arith in
      let e' : at + length text + (k - (at + length text)) ≡ k = omega arith in
      ap (λ (x : List ℕ). get_or x k 0) (put_reads fits put ∙ sym (append_assoc (take at room) text (drop (at + length text) room)))
      ∙ (ap (λ (x : ℕ). get_or ((take at room ++ text) ++ drop (at + length text) room) x 0) e
      ∙ (get_or-append-add (take at room ++ text) (drop (at + length text) room) (k - (at + length text)) 0
      ∙ (get_or-drop (at + length text) room (k - (at + length text)) 0 ∙ ap (λ (x : ℕ). get_or room x 0) e')))

-- two rooms of one length that have the same bytes from a place on, so many, have the same part there
part_same : (s t : List ℕ) (a n : ℕ) → length s ≡ length t → a + n ≤ length s → ((k : ℕ) → a ≤ k → k < a + n → get_or s k 0 ≡ get_or t k 0) → take n (drop a s) ≡ take n (drop a t)
part_same s t a n e h same =
    let l : length (take n (drop a s)) ≡ n = cut_length s a n h in
    let m : length (take n (drop a t)) ≡ n = cut_length t a n (omega arith) in
    ext_get_or 0 (take n (drop a s)) (take n (drop a t)) (l ∙ sym m)
    (λ i small.
    let b : i < n = omega arith in
    get_or-take n (drop a s) i 0 b ∙ (get_or-drop a s i 0 ∙ (same (a + i) (omega arith) (omega arith) ∙ (sym (get_or-drop a t i 0) ∙ sym (get_or-take n (drop a t) i 0 b)))))

-- a desk is read from one slot's bytes alone
part_of : (s : List ℕ) (a n : ℕ) → a ≤ length s → take n (drop a s) ≡ drop a (take (a + n) s)
part_of s a n h = sym (drop_at (take a s) (take n (drop a s)) a (length-take-le a s h)) ∙ ap (drop a) (sym (take-add a n s))

desk_same : (cells bits : ℕ) (s t : List ℕ) → slot_size cells bits ≤ length s → slot_size cells bits ≤ length t → take (slot_size cells bits) s ≡ take (slot_size cells bits) t
    → desk_in cells bits s ≡ desk_in cells bits t
unfolding desk_in
desk_same cells bits s t hs ht e =
    let size : ℕ = slot_size cells bits in
    let p : position_in s ≡ position_in t =
    position_same s t (λ k h. sym (get_or-take size s k 0 (omega arith)) ∙ (ap (λ (x : List ℕ). get_or x k 0) e ∙ get_or-take size t k 0 (omega arith))) in
    let a : take cells (drop 56 s) ≡ take cells (drop 56 t) =
    part_of s 56 cells (omega arith) ∙ (ap (drop 56) (front (56 + cells) (omega arith)) ∙ sym (part_of t 56 cells (omega arith))) in
    let b : take bits (drop (56 + cells) s) ≡ take bits (drop (56 + cells) t) =
    part_of s (56 + cells) bits (omega arith) ∙ (ap (drop (56 + cells)) (front (56 + cells + bits) (omega arith)) ∙ sym (part_of t (56 + cells) bits (omega arith))) in
    rw (p, a, b)
  where
    front : (n : ℕ) → n ≤ slot_size cells bits → take n s ≡ take n t
    front n h = sym (take-take n (slot_size cells bits) s h) ∙ (ap (take n) e ∙ take-take n (slot_size cells bits) t h)

-- THE LAW slot-kept: another slot, before or after, holds what it held
module _ {text : List ℕ} {at : ℕ} {room : List ℕ} (fits : Room text at room) {room' : List ℕ} {r : ℕ} (put : Put text at room room' r) (cells bits a : ℕ) (there : a + slot_size cells bits ≤ length room) where
  slot_same : ((k : ℕ) → a ≤ k → k < a + slot_size cells bits → get_or room' k 0 ≡ get_or room k 0) → desk_in cells bits (drop a room') ≡ desk_in cells bits (drop a room)
  slot_same same =
      let l : length room' ≡ length room = put_length put in
      let d = length-drop a room in
      let d' = length-drop a room' in
      desk_same cells bits (drop a room') (drop a room) (omega arith) (omega arith) (part_same room' room a (slot_size cells bits) l (omega arith) same)

  pub slot_before : a + slot_size cells bits ≤ at → desk_in cells bits (drop a room') ≡ desk_in cells bits (drop a room)
  slot_before h = slot_same (λ k h₁ h₂. byte_before fits put k (omega arith))

  pub slot_after : at + length text ≤ a → desk_in cells bits (drop a room') ≡ desk_in cells bits (drop a room)
  slot_after h = slot_same (λ k h₁ h₂. byte_after fits put k (omega arith))
