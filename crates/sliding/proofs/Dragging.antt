-- One equation for each case of a drag: which slot, whether what stands there can be right, and the way from there or from the start.
use Rattle.std.specs.Prelude.{Result, Ok, Err, is_ok}
use mathlib.Core.Path.{◌≡◌, refl, ap, sym, ◌∙◌, subst⁻¹}
use mathlib.Core.Bool.{Bool, true, false, ◌&&◌, beq}
use mathlib.Core.List.{List}
use Prim.Native.Nat.{ℕ, suc, ◌+◌, ◌-◌, ◌*◌, ◌/◌, ◌≤◌}
use native.Mathlib.Omega.{arith}
use native.Mathlib.Nat.{mul-le-mul_right, div-mul-le_self}
use lib.Dec.{eqb, ltb, leb}
use lib.IntN.{ℤ}
use lib.ListN.{length, drop, length-drop}
use lib.Seq.{length-take-le}
use borrow.Author.Tests.{ne_eqb, eqb-true, leb-true, leb-false, ltb-false}
use Rattle.rules.specs.declared.Settings.{Settings}
use Rattle.rules.specs.declared.Refusal.{Refusal}
use Rattle.rules.specs.Refusals.{refusal_number, found_number}
use Rattle.cells.proofs.Refused.{never_0}
use Rattle.rules.specs.declared.Position.{Position}
use Rattle.rules.specs.Words.{pick, bit}
use Rattle.rules.specs.Lent.{bit_bytes}
use Rattle.rules.specs.Lawful.{lawful, lawful_refusal}
use Rattle.rules.specs.Clicks.{Desk, desk, done}
use Rattle.rules.specs.Calls.{cells_in, fresh_desk}
use Rattle.cells.specs.Ground.{Mined}
use Rattle.cells.proofs.Words.{and_left, and_right, pick_le}
use Rattle.lawful.specs.Parts.{Checkable}
use Rattle.keep.specs.Kept.{Ground, LawfulAt}
use Rattle.keep.proofs.Lawful.{lawful_kept, law_split}
use Rattle.game.specs.Core.{Blank}
use Rattle.rules.specs.Slides.{Tape, Slots, Kept, Gliding, emptied, held, glide_from, from_start_of, slot_for, slide_from, slide_to, desk_in, tape_of, size_for, same_settings, slots_of}
use Rattle.keeping.specs.Keeps.{kept_of}
use Rattle.keeping.proofs.Keeps.{slot_there}
use Rattle.gliding.specs.Glides.{glide_of}
use Rattle.gliding.proofs.Ways.{glide_any}
use Rattle.sliding.specs.Drag.{Ready, Startable, drag_from, drag_to}

-- ---- whether it can be right -----------------------------------------------------------------------------------------------------------

same_bits : (a b : Bool) → beq a b ≡ eqb (bit a) (bit b)
same_bits true true = refl
same_bits true false = refl
same_bits false true = refl
same_bits false false = refl

-- the settings' own equality is the definition's
pub same_is : (g h : Settings)
    → (eqb g.rows h.rows && (eqb g.columns h.columns && (eqb g.mode h.mode && (beq g.question h.question && eqb g.rules h.rules)))) ≡ same_settings g h
unfolding same_settings
same_is g h = rw (same_bits g.question h.question)

-- a desk that no test of it refuses is lawful
pub fine_is : (B : List ℤ) (d : Desk) (r : Result Unit Refusal) → found_number r ≡ lawful_refusal B d → is_ok r ≡ lawful B d
fine_is B d (Ok x) e = ap (λ (n : ℕ). eqb n 0) e ∙ law_split B d
fine_is B d (Err r) e = sym (ne_eqb (refusal_number r) 0 (never_0 r)) ∙ (ap (λ (n : ℕ). eqb n 0) e ∙ law_split B d)

pub right_is : (B : List ℤ) (d : Desk) {a a' f : Bool} (x : Bool) → a ≡ a' → f ≡ lawful B d → (a && (x && f)) ≡ (a' && (x && lawful B d))
right_is B d x ea ef = rw (ea, ef)

bit_same : (a b : Bool) → bit a ≡ bit b → b ≡ a
bit_same true true e = refl
bit_same false false e = refl
bit_same true false e = absurd (omega arith)
bit_same false true e = absurd (omega arith)

-- five tests that hold
all_five : (a b c d e : Bool) → (a && (b && (c && (d && e)))) ≡ true → (a ≡ true) × (b ≡ true) × (c ≡ true) × (d ≡ true) × (e ≡ true)
all_five a b c d e y =
    let y₁ = and_right a (b && (c && (d && e))) y in
    let y₂ = and_right b (c && (d && e)) y₁ in
    let y₃ = and_right c (d && e) y₂ in
    (and_left a (b && (c && (d && e))) y, and_left b (c && (d && e)) y₁, and_left c (d && e) y₂, and_left d e y₃, and_right d e y₃)

settings_from : (g h : Settings) → same_settings g h ≡ true → h ≡ g
unfolding same_settings
settings_from g h e =
    let t =
    all_five (eqb g.rows h.rows) (eqb g.columns h.columns) (eqb g.mode h.mode) (eqb (bit g.question) (bit h.question)) (eqb g.rules h.rules) e in
    let r : h.rows ≡ g.rows = sym (eqb-true g.rows h.rows t.0) in
    let l : h.columns ≡ g.columns = sym (eqb-true g.columns h.columns t.1) in
    let m : h.mode ≡ g.mode = sym (eqb-true g.mode h.mode t.2) in
    let q : h.question ≡ g.question = bit_same g.question h.question (eqb-true (bit g.question) (bit h.question) t.3) in
    let u : h.rules ≡ g.rules = sym (eqb-true g.rules h.rules t.4) in
    λ i. record { rows = r i; columns = l i; mode = m i; question = q i; rules = u i }

-- ---- what is lent ----------------------------------------------------------------------------------------------------------------------

module _ (B : List ℤ) (k : ℕ) (p : Position) (shown bits work : List ℕ) (ready : Ready B k p shown bits work) where
  abbrev size : ℕ
  size = 56 + length shown + length bits

  ground : Ground B p.settings shown bits
  ground = ready.lawful.kept.sound.ground

  pub ready_few : (length shown ≤ 2048) × (length bits ≤ 2048)
  ready_few = let a = ground.board in let b = ground.room in let c = ground.mined.sized.cells in (omega arith, omega arith)

  pub ready_size : size ≡ size_for p.settings
  ready_size = let a = ground.board in let b = ground.room in omega arith

  module _ (n j : ℕ) (room : List ℕ) (s : Startable p.settings n k j room) where
    pub slot_ends : (j - 1) * size + size ≤ length room
    slot_ends =
        let a = s.some in
        let b : j ≤ length room / size = subst⁻¹ (λ (x : ℕ). j ≤ length room / x) ready_size s.inside in
        slot_there size (length room) (j - 1) (omega arith) (omega arith)

    module _ (q : Position) (shown' bits' : List ℕ) (t : desk q shown' bits' ≡ desk_in (length shown) (length bits) (drop ((j - 1) * size) room)) where
      taken_is : desk q shown' bits' ≡ (slots_of B p.settings (length room)).get (j - 1) room
      taken_is =
          t
          ∙ (ap (λ (x : ℕ). desk_in x (length bits) (drop ((j - 1) * size) room)) ground.board
          ∙ (ap (λ (x : ℕ). desk_in (cells_in p.settings) x (drop ((j - 1) * size) room)) ground.room
          ∙ ap (λ (x : ℕ). desk_in (cells_in p.settings) (bit_bytes (cells_in p.settings)) (drop ((j - 1) * x) room)) ready_size))

      long_drop : size ≤ length (drop ((j - 1) * size) room)
      long_drop = let a = slot_ends in let l = length-drop ((j - 1) * size) room in omega arith

      pub taken_lengths : (length shown' ≡ length shown) × (length bits' ≡ length bits)
      unfolding desk_in
      taken_lengths =
          let d : List ℕ = drop ((j - 1) * size) room in
          let l = long_drop in
          let a = length-drop 56 d in
          let b = length-drop (56 + length shown) d in (
            ap (λ (x : Desk). length x.shown) t ∙ length-take-le (length shown) (drop 56 d) (omega arith),
            ap (λ (x : Desk). length x.bits) t ∙ length-take-le (length bits) (drop (56 + length shown) d) (omega arith),
          )

      pub taken_checkable : Checkable B shown' bits'
      taken_checkable =
          let l = taken_lengths in
          let ls = l.0 in
          let lb = l.1 in
          let f = ready_few in
          let fs = f.0 in
          let fb = f.1 in
          let c = ground.board in
          let m = ground.mined.long in
          record { same = omega arith; cells = omega arith; bytes = omega arith; valued = ground.mined.valued }

      -- what the start again asks
      pub taken_fits : Mined B p.settings.rows p.settings.columns × (length shown' ≡ cells_in p.settings) × (length bits' ≡ bit_bytes (cells_in p.settings))
      taken_fits = let l = taken_lengths in (ground.mined, l.0 ∙ ground.board, l.1 ∙ ground.room)

      abbrev test : Bool
      test = same_settings p.settings q.settings && (eqb q.events (j * k) && lawful B (desk q shown' bits'))

      module _ (y : test ≡ true) where
        same_here : q.settings ≡ p.settings
        same_here = settings_from p.settings q.settings (and_left (same_settings p.settings q.settings) (eqb q.events (j * k) && lawful B (desk q shown' bits')) y)

        lawful_here : lawful B (desk q shown' bits') ≡ true
        lawful_here =
            and_right (eqb q.events (j * k)) (lawful B (desk q shown' bits'))
            (and_right (same_settings p.settings q.settings) (eqb q.events (j * k) && lawful B (desk q shown' bits')) y)

        pub taken_lawful : LawfulAt B (desk q shown' bits')
        taken_lawful =
            let f = taken_fits in
            lawful_kept B (desk q shown' bits')
            (subst⁻¹ (λ (x : Settings). Ground B x shown' bits') same_here
            (record { mined = ground.mined; numbers = ground.numbers; board = f.1; room = f.2 }))
            lawful_here

        pub taken_blank : Blank q.settings work
        taken_blank = subst⁻¹ (λ (x : Settings). Blank x work) same_here ready.blank

      -- the fresh desk again
      module _ (f : Position) (shown'' bits'' : List ℕ) (e : desk f shown'' bits'' ≡ fresh_desk p.settings B) where
        back_same : desk f shown'' bits'' ≡ desk p shown bits
        back_same = e ∙ sym ready.fresh

        pub back_lawful : LawfulAt B (desk f shown'' bits'')
        back_lawful = subst⁻¹ (LawfulAt B) back_same ready.lawful

        pub back_blank : Blank f.settings work
        back_blank = subst⁻¹ (λ (x : Desk). Blank x.position.settings work) back_same ready.blank

-- ---- the outcome -----------------------------------------------------------------------------------------------------------------------

module _ (t : Tape) (s : Slots) (k n : ℕ) where
  slide_at : (i : ℕ) (h : Kept) → s.right (suc i * k) (s.get i h.room) ≡ true
      → slide_from t s k n (suc i) h ≡ record { start = suc i * k; glided = glide_from t s k n (suc i * k) (s.get i h.room) h }
  unfolding slide_from
  slide_at i h e = simp e

  slide_not : (i : ℕ) (h : Kept) → s.right (suc i * k) (s.get i h.room) ≡ false → slide_from t s k n (suc i) h ≡ from_start_of t s k n (emptied h.room)
  unfolding slide_from
  slide_not i h e = simp e

  slide_none : (h : Kept) → slide_from t s k n 0 h ≡ from_start_of t s k n h
  unfolding slide_from
  slide_none h = refl

-- the way from a desk is the slider's, whatever its tape begins with
glide_of_lem : (B : List ℤ) (es : List ℕ) (d d' : Desk) (g : Settings) (k from to : ℕ) (h : Kept)
    → glide_of B es k from to g d h ≡ glide_from (tape_of B es d') (slots_of B g (length h.room)) k to from d h
unfolding glide_of
glide_of_lem B es d d' g k from to h = glide_any B es d d' (slots_of B g (length h.room)) k from (to - from) (record { last = done 0 d; kept = h })

module _ (B : List ℤ) (es : List ℕ) (k : ℕ) (p : Position) (shown bits work : List ℕ) (ready : Ready B k p shown bits work) (n : ℕ) where
  abbrev g : Settings
  g = p.settings

  abbrev fresh : Desk
  fresh = fresh_desk p.settings B

  abbrev T : Tape
  T = tape_of B es (fresh_desk p.settings B)

  -- from the start, on a desk that is the fresh one
  from_start : (d : Desk) → d ≡ fresh → (h : Kept) {G : Gliding} → G ≡ glide_of B es k 0 n d.position.settings d h
      → record { start = 0; glided = G } ≡ from_start_of T (slots_of B g (length h.room)) k n h
  from_start d e h q =
      ap (λ (x : Gliding). record { start = 0; glided = x })
      (q
      ∙ (ap (λ (x : Desk). glide_of B es k 0 n x.position.settings x h) e ∙ glide_of_lem B es fresh fresh g k 0 n h))

  module _ (j : ℕ) (room : List ℕ) (s : Startable p.settings n k j room) (kept : ℕ) (q : Position) (shown' bits' : List ℕ)
      (t : desk q shown' bits' ≡ desk_in (length shown) (length bits) (drop ((j - 1) * (56 + length shown + length bits)) room)) where
    abbrev S : Slots
    S = slots_of B p.settings (length room)

    abbrev d : Desk
    d = desk q shown' bits'

    back : suc (j - 1) ≡ j
    back = let a = s.some in omega arith

    got : d ≡ S.get (j - 1) room
    got = taken_is B k p shown bits work ready n j room s q shown' bits' t

    held_right : {b : Bool} → S.right (j * k) d ≡ b → S.right (suc (j - 1) * k) (S.get (j - 1) room) ≡ b
    held_right y = ap (λ (x : ℕ). S.right (x * k) (S.get (j - 1) room)) back ∙ (ap (S.right (j * k)) (sym got) ∙ y)

    pub drag_right : S.right (j * k) d ≡ true → {G : Gliding} → G ≡ glide_of B es k (j * k) n q.settings d (kept_of kept room)
        → record { start = j * k; glided = G } ≡ drag_from B es g n k j (kept_of kept room)
    unfolding drag_from
    drag_right y e =
        ap (λ (x : Gliding). record { start = j * k; glided = x })
        (e
        ∙ (ap (λ (x : Settings). glide_of B es k (j * k) n x d (kept_of kept room)) (same_here B k p shown bits work ready n j room s q shown' bits' t y)
        ∙ (glide_of_lem B es d fresh g k (j * k) n (kept_of kept room) ∙ ap (λ (x : Desk). glide_from T S k n (j * k) x (kept_of kept room)) got)))
        ∙ (ap (λ (x : ℕ). record { start = x * k; glided = glide_from T S k n (x * k) (S.get (j - 1) room) (kept_of kept room) }) (sym back)
        ∙ (sym (slide_at T S k n (j - 1) (kept_of kept room) (held_right y)) ∙ ap (λ (x : ℕ). slide_from T S k n x (kept_of kept room)) back))

    pub drag_wrong : S.right (j * k) d ≡ false → (f : Position) (shown'' bits'' : List ℕ) → desk f shown'' bits'' ≡ fresh
        → {G : Gliding} → G ≡ glide_of B es k 0 n f.settings (desk f shown'' bits'') (kept_of 0 room)
        → record { start = 0; glided = G } ≡ drag_from B es g n k j (kept_of kept room)
    unfolding drag_from
    drag_wrong y f shown'' bits'' e q =
        from_start (desk f shown'' bits'') e (kept_of 0 room) q
        ∙ (sym (slide_not T S k n (j - 1) (kept_of kept room) (held_right y)) ∙ ap (λ (x : ℕ). slide_from T S k n x (kept_of kept room)) back)

  -- ---- and which -----------------------------------------------------------------------------------------------------------------------

  module _ (kept : ℕ) (room : List ℕ) {h : ℕ} (eh : h ≡ pick (ltb (length room / (56 + length shown + length bits)) kept) 0 kept)
      {j : ℕ} (ej : j ≡ pick (leb h (n / k)) h (n / k)) where
    abbrev most : ℕ
    most = length room / size_for g

    held_is : h ≡ pick (ltb most kept) 0 kept
    held_is = eh ∙ ap (λ (x : ℕ). pick (ltb (length room / x) kept) 0 kept) (ready_size B k p shown bits work ready)

    pick_kept : (b : Bool) → kept_of (pick b 0 kept) room ≡ pick b (emptied room) (kept_of kept room)
    pick_kept true = refl
    pick_kept false = refl

    here : kept_of h room ≡ held T (slots_of B g (length room)) k (kept_of kept room)
    here = ap (λ (x : ℕ). kept_of x room) held_is ∙ pick_kept (ltb most kept)

    -- what the held slider does is what the slider does
    pub from_drag : drag_from B es g n k j (kept_of h room) ≡ drag_to B es g n k (kept_of kept room)
    unfolding drag_from drag_to slide_to
    from_drag =
        ap (λ (x : ℕ). slide_from T (slots_of B g (length room)) k n x (kept_of h room)) ej
        ∙ ap (λ (x : Kept). slide_from T (slots_of B g (length x.room)) k n (slot_for T (slots_of B g (length room)) k n x.count) x) here
        ∙ ap (λ (l : ℕ). slide_from T (slots_of B g l) k n (slot_for T (slots_of B g (length room)) k n (held T (slots_of B g (length room)) k (kept_of kept room)).count) (held T (slots_of B g (length room)) k (kept_of kept room))) (ap (λ (x : Kept). length x.room) (sym here))

    from_shut : slide_from T (slots_of B g (length room)) k n 0 (kept_of h room) ≡ drag_from B es g n k 0 (kept_of h room)
    unfolding drag_from
    from_shut = refl

    pub start_drag : j ≡ 0 → {G : Gliding} → G ≡ glide_of B es k 0 n g (desk p shown bits) (kept_of h room)
        → record { start = 0; glided = G } ≡ drag_to B es g n k (kept_of kept room)
    start_drag z e =
        from_start (desk p shown bits) ready.fresh (kept_of h room) e
        ∙ (sym (slide_none T (slots_of B g (length room)) k n (kept_of h room)) ∙ (from_shut ∙ (ap (λ (x : ℕ). drag_from B es g n k x (kept_of h room)) (sym z) ∙ from_drag)))

    pub startable : (j ≡ 0 → ⊥) → Startable p.settings n k j room
    startable z =
        let w : h ≤ most = subst⁻¹ (λ (x : ℕ). x ≤ most) held_is (pick_le (ltb most kept) 0 kept most (λ e. omega arith) (λ e. ltb-false most kept e)) in
        let a : pick (leb h (n / k)) h (n / k) ≤ h = pick_le (leb h (n / k)) h (n / k) h (λ e. omega arith) (λ e. let q = leb-false h (n / k) e in omega arith) in
        let b : pick (leb h (n / k)) h (n / k) ≤ n / k = pick_le (leb h (n / k)) h (n / k) (n / k) (λ e. leb-true h (n / k) e) (λ e. omega arith) in
        let c : j ≤ n / k = omega arith in
        let m = mul-le-mul_right k c in
        let d = div-mul-le_self n k in
        record { some = omega arith; inside = omega arith; before = omega arith }
