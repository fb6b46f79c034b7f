-- The writer by its contract: accepted with the one plain form written, or refused with nothing written.
use mathlib.Core.Path.{◌≡◌, refl, ap, ap₂, sym, ◌∙◌}
use mathlib.Core.List.{List}
use Prim.Native.Nat.{ℕ, ◌≤◌}
use native.Mathlib.Omega.{arith}
use native.Mathlib.Decide.{ℕ_discrete}
use lib.Dec.{eqb}
use lib.ListN.{length, take, drop}
use lib.Seq.{take_at}
use borrow.Author.Tests.{eq-eqb, ne_eqb}
use Rattle.rules.specs.declared.Value.{Value}
use Rattle.rules.specs.declared.Place.TheVariants.{Nowhere}
use Rattle.rules.specs.Words.{over}
use Rattle.rules.specs.Picture.{shown_refusal, plain_form, byte_room, Drawn, drawn, draw_by, draw_of, WritePictureIs}
use Rattle.showing.proofs.Shown.{Showable, shown_passed, shown_accepted}
use Rattle.drawing.proofs.Plain.{picture_longest}

-- what the writer refuses its input with, or 0
abbrev pub write_refusal : ℕ → ℕ → List ℕ → List ℕ → ℕ
write_refusal R C shown out = shown_refusal R C shown (eqb (length out) byte_room)

module _ (R C : ℕ) (shown out : List ℕ) where
  draw_accepted : write_refusal R C shown out ≡ 0 → draw_of R C shown out ≡ drawn 0 (length (plain_form R C shown)) (over (plain_form R C shown) out)
  unfolding draw_of draw_by
  draw_accepted e = simp (eq-eqb (write_refusal R C shown out) 0 e)

  draw_refused : (write_refusal R C shown out ≡ 0 → ⊥) → draw_of R C shown out ≡ drawn (write_refusal R C shown out) 0 out
  unfolding draw_of draw_by
  draw_refused h = simp (ne_eqb (write_refusal R C shown out) 0 h)

  module _ {r : Value} {out' : List ℕ} (h : WritePictureIs R C shown out r out') where
    -- its number is the chain's
    pub write_number : r.number ≡ write_refusal R C shown out
    write_number = go (ℕ_discrete (write_refusal R C shown out) 0)
      where
        go : Dec (write_refusal R C shown out ≡ 0) → r.number ≡ write_refusal R C shown out
        go (yes e) = ap (λ (o : Drawn). o.answer.number) (h ∙ draw_accepted e) ∙ sym e
        go (no e) = ap (λ (o : Drawn). o.answer.number) (h ∙ draw_refused e)

    -- a refusal writes nothing
    pub write_picture_refused : (r.number ≡ 0 → ⊥)
        → (r ≡ record { number = write_refusal R C shown out; place = Nowhere; value = 0 }) × (out' ≡ out)
    write_picture_refused n =
        let e = h ∙ draw_refused (λ z. n (write_number ∙ z)) in (ap (λ (o : Drawn). o.answer) e, ap (λ (o : Drawn). o.out) e)

    module _ (z : r.number ≡ 0) where
      pub write_picture_accepted : (r ≡ record { number = 0; place = Nowhere; value = length (plain_form R C shown) }) × (out' ≡ over (plain_form R C shown) out)
      write_picture_accepted =
          let e = h ∙ draw_accepted (sym write_number ∙ z) in (ap (λ (o : Drawn). o.answer) e, ap (λ (o : Drawn). o.out) e)

      pub written_showable : Showable R C shown
      written_showable = (shown_passed R C shown (eqb (length out) byte_room) (sym write_number ∙ z)).0

      -- what was written is the board's plain form
      pub written_text : take r.value out' ≡ plain_form R C shown
      written_text =
          let a = write_picture_accepted in
          ap₂ (λ (n : ℕ) (l : List ℕ). take n l) (ap (λ (v : Value). v.value) a.0) a.1
          ∙ take_at (plain_form R C shown) (drop (length (plain_form R C shown)) out) (length (plain_form R C shown)) refl

    -- no picture is longer than its room
    pub written_longest : r.value ≤ byte_room
    written_longest = go (ℕ_discrete r.number 0)
      where
        go : Dec (r.number ≡ 0) → r.value ≤ byte_room
        go (yes z) =
            let b = written_showable z in
            let l = picture_longest R C shown b.size b.long b.values in
            let e = ap (λ (v : Value). v.value) (write_picture_accepted z).0 in
            omega arith
        go (no n) = let e = ap (λ (v : Value). v.value) (write_picture_refused n).0 in omega arith

    -- a board without a fault is accepted in a room of 6,156 bytes
    pub write_accepts : Showable R C shown → length out ≡ byte_room → r.number ≡ 0
    write_accepts b long = write_number ∙ shown_accepted R C shown (eqb (length out) byte_room) b (eq-eqb (length out) byte_room long)
