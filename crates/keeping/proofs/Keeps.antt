-- One equation for each case of keeping a desk.
use mathlib.Core.Path.{◌≡◌, refl, ap, sym, ◌∙◌, subst}
use mathlib.Core.Bool.{Bool, true, false, ◌&&◌}
use mathlib.Core.List.{List}
use Prim.Native.Nat.{ℕ, suc, ◌+◌, ◌*◌, ◌/◌, ◌%◌, ◌≤◌, ◌<◌}
use native.Mathlib.Omega.{arith}
use native.Mathlib.Nat.{suc-mul, le-div_iff_mul-le, div-add-mod', div-le_self, mul-mod_left, mul-div_cancel}
use lib.Dec.{eqb}
use lib.ListN.{length}
use lib.Seq.{sets}
use borrow.Author.Tests.{eq-eqb, ne_eqb, lt-ltb, le-ltb}
use Rattle.rules.specs.declared.Settings.{Settings}
use Rattle.rules.specs.declared.Position.{Position}
use Rattle.rules.specs.Words.{pick}
use Rattle.rules.specs.Clicks.{Desk, desk}
use Rattle.writing.specs.Put.{Room, Put}
use Rattle.rules.specs.Slides.{desk_bytes, size_for}
use Rattle.keeping.specs.Keeps.{kept_of, Boards, keep_desk}
use Rattle.keeping.proofs.Slots.{desk_length}

-- a slot below the number of slots lies in the room
pub slot_there : (size long j : ℕ) → 1 ≤ size → j < long / size → j * size + size ≤ long
slot_there size long j pos h =
    let a : suc j * size ≤ long = (le-div_iff_mul-le pos).0 h in
    let b = suc-mul j size in
    omega arith

boards_size : (g : Settings) (shown bits : List ℕ) → Boards g shown bits → 56 + length shown + length bits ≡ size_for g
boards_size g shown bits b = let s = b.cell in let t = b.byte in omega arith

module _ (k m kept : ℕ) (g : Settings) (d : Desk) (room : List ℕ) (size : ℕ) (is : size ≡ size_for g) where
  full : length room / size ≤ kept → kept_of kept room ≡ keep_desk k g m d (kept_of kept room)
  unfolding keep_desk
  full h = let l : length room / size_for g ≤ kept = subst (λ (x : ℕ). length room / x ≤ kept) is h in sym (neither (eqb m (suc kept * k)) (le-ltb kept (length room / size_for g) l))
    where
      neither : (a : Bool) {b : Bool} → b ≡ false → pick (a && b) (kept_of (suc kept) (sets room (kept * size_for g) (desk_bytes d))) (kept_of kept room) ≡ kept_of kept room
      neither true e = simp e
      neither false e = refl

  elsewhere : (m ≡ suc kept * k → ⊥) → kept_of kept room ≡ keep_desk k g m d (kept_of kept room)
  unfolding keep_desk
  elsewhere h = sym (simp (ne_eqb m (suc kept * k) h))

  stored : m ≡ suc kept * k → kept < length room / size → kept_of (suc kept) (sets room (kept * size) (desk_bytes d)) ≡ keep_desk k g m d (kept_of kept room)
  unfolding keep_desk
  stored h l =
      let l' : kept < length room / size_for g = subst (λ (x : ℕ). kept < length room / x) is l in
      ap (λ (x : ℕ). kept_of (suc kept) (sets room (kept * x) (desk_bytes d))) is ∙ sym (simp (eq-eqb m (suc kept * k) h, lt-ltb kept (length room / size_for g) l'))

-- the multiple that the code finds by division
multiple : (m k kept : ℕ) → m % k ≡ 0 → m / k ≡ kept + 1 → m ≡ suc kept * k
multiple m k kept r q =
    let a : m / k * k + m % k ≡ m = div-add-mod' m k in
    let b : (kept + 1) * k ≡ suc kept * k = ap (λ (x : ℕ). x * k) (let e : kept + 1 ≡ suc kept = omega arith in e) in
    let c : m / k * k ≡ (kept + 1) * k = ap (λ (x : ℕ). x * k) q in
    omega arith

-- what the code finds at each of its returns
module _ (p : Position) (shown bits : List ℕ) (fit : Boards p.settings shown bits) (k m kept : ℕ) (room : List ℕ) where
  abbrev size : ℕ
  size = 56 + length shown + length bits

  pub keep_full : length room / size ≤ kept → kept_of kept room ≡ keep_desk k p.settings m (desk p shown bits) (kept_of kept room)
  keep_full h = full k m kept p.settings (desk p shown bits) room size (boards_size p.settings shown bits fit) h

  pub keep_between : (m % k ≡ 0 → ⊥) → kept_of kept room ≡ keep_desk k p.settings m (desk p shown bits) (kept_of kept room)
  keep_between h =
      elsewhere k m kept p.settings (desk p shown bits) room size (boards_size p.settings shown bits fit)
      (λ e. h (ap (λ (x : ℕ). x % k) e ∙ mul-mod_left (suc kept) k))

  pub keep_other : 1 ≤ k → (m / k ≡ kept + 1 → ⊥) → kept_of kept room ≡ keep_desk k p.settings m (desk p shown bits) (kept_of kept room)
  keep_other pos h =
      elsewhere k m kept p.settings (desk p shown bits) room size (boards_size p.settings shown bits fit)
      (λ e. h (ap (λ (x : ℕ). x / k) e ∙ (mul-div_cancel (suc kept) pos ∙ (let z : suc kept ≡ kept + 1 = omega arith in z))))

  module _ (below : kept < length room / size) where
    pub kept_less : kept < length room
    kept_less = let a = div-le_self (length room) size in omega arith

    pub slot_ends : kept * size + size ≤ length room
    slot_ends = slot_there size (length room) kept (omega arith) below

    pub slot_room : Room (desk_bytes (desk p shown bits)) (kept * size) room
    slot_room = let a = slot_ends in let l = desk_length p shown bits in record { fits = omega arith }

    pub keep_next : m % k ≡ 0 → m / k ≡ kept + 1 → {room' : List ℕ} {r : ℕ} → Put (desk_bytes (desk p shown bits)) (kept * size) room room' r
        → kept_of (kept + 1) room' ≡ keep_desk k p.settings m (desk p shown bits) (kept_of kept room)
    keep_next a b q =
        ap (kept_of (kept + 1)) q.same
        ∙ (ap (λ (x : ℕ). kept_of x (sets room (kept * size) (desk_bytes (desk p shown bits)))) (let z : kept + 1 ≡ suc kept = omega arith in z)
        ∙ stored k m kept p.settings (desk p shown bits) room size (boards_size p.settings shown bits fit) (multiple m k kept a b) below)
