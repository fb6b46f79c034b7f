-- The writer: the parts of the plain form written one after the other, and the outcome.
use mathlib.Core.Path.{◌≡◌, ap, sym, ◌∙◌}
use mathlib.Core.List.{List, [], ◌∷◌, ◌++◌}
use Prim.Native.Nat.{ℕ, ◌≤◌}
use native.Mathlib.Omega.{arith}
use borrow.Author.Tests.{eq-eqb, ne_eqb, eqb-true}
use lib.Dec.{eqb}
use lib.ListN.{length}
use Rattle.rules.specs.declared.Value.{Value}
use Rattle.rules.specs.declared.Place.TheVariants.{Nowhere}
use Rattle.rules.specs.Picture.{number_lines, plain_form, byte_room, shown_refusal, Drawn, drawn, draw_by, draw_of}
use Rattle.writing.specs.Put.{Room, Put}
use Rattle.writing.proofs.Putting.{room_first, room_second, room_as, room_within, put_then, put_as, put_over}
use Rattle.showing.proofs.Shown.{Showable, shown_passed}
use Rattle.drawing.proofs.Plain.{number_line, plain_parts, picture_longest}

-- ---- part after part ---------------------------------------------------------------------------------------------------------------------

module _ (R C : ℕ) (shown : List ℕ) {out : List ℕ} (room : Room (plain_form R C shown) 0 out) where
  pub room_mark : Room (80 ∷ 50 ∷ 10 ∷ []) 0 out
  room_mark = room_first _ (room_as (plain_parts R C shown) room)

  module _ {out₁ : List ℕ} {a : ℕ} (mark : Put (80 ∷ 50 ∷ 10 ∷ []) 0 out out₁ a) where
    from_width : Room (number_line C ++ (number_line R ++ (number_line 17 ++ number_lines shown))) a out₁
    from_width = room_second (room_as (plain_parts R C shown) room) mark

    pub room_width : Room (number_line C) a out₁
    room_width = room_first _ from_width

    module _ {out₂ : List ℕ} {b : ℕ} (width : Put (number_line C) a out₁ out₂ b) where
      from_height : Room (number_line R ++ (number_line 17 ++ number_lines shown)) b out₂
      from_height = room_second from_width width

      pub room_height : Room (number_line R) b out₂
      room_height = room_first _ from_height

      module _ {out₃ : List ℕ} {c : ℕ} (height : Put (number_line R) b out₂ out₃ c) where
        from_maximum : Room (number_line 17 ++ number_lines shown) c out₃
        from_maximum = room_second from_height height

        pub room_maximum : Room (number_line 17) c out₃
        room_maximum = room_first _ from_maximum

        module _ {out₄ : List ℕ} {d : ℕ} (maximum : Put (number_line 17) c out₃ out₄ d) where
          pub room_board : Room (number_lines shown) d out₄
          room_board = room_second from_maximum maximum

          pub put_plain : {out₅ : List ℕ} {e : ℕ} → Put (number_lines shown) d out₄ out₅ e → Put (plain_form R C shown) 0 out out₅ e
          put_plain board = put_as (sym (plain_parts R C shown)) (put_then mark (put_then width (put_then height (put_then maximum board))))

-- the answer by another name
pub drawn_as : {n long : ℕ} {r : Value} {out : List ℕ} {d : Drawn} → r ≡ record { number = n; place = Nowhere; value = long } → drawn n long out ≡ d
    → record { answer = r; out = out } ≡ d
drawn_as {out = out} e h = ap (λ (v : Value). record { answer = v; out = out }) e ∙ h

-- ---- the outcome -------------------------------------------------------------------------------------------------------------------------

module _ (R C : ℕ) (shown out : List ℕ) {n : ℕ} (f : n ≡ shown_refusal R C shown (eqb (length out) byte_room)) where
  pub draw_refused : (n ≡ 0 → ⊥) → drawn n 0 out ≡ draw_of R C shown out
  unfolding draw_of draw_by
  draw_refused h =
      simp (ne_eqb (shown_refusal R C shown (eqb (length out) byte_room)) 0 (λ e. h (f ∙ e))) (ap (λ (k : ℕ). drawn k 0 out) f)

  module _ (none : n ≡ 0) where
    showable : Showable R C shown
    showable = (shown_passed R C shown (eqb (length out) byte_room) (sym f ∙ none)).0

    pub draw_short : length (plain_form R C shown) ≤ byte_room
    draw_short = picture_longest R C shown showable.size showable.long showable.values

    out_long : length out ≡ byte_room
    out_long = eqb-true (length out) byte_room (shown_passed R C shown (eqb (length out) byte_room) (sym f ∙ none)).1

    pub draw_room : Room (plain_form R C shown) 0 out
    draw_room = let l = out_long in room_within byte_room draw_short (omega arith)

    module _ {out' : List ℕ} {r : ℕ} (p : Put (plain_form R C shown) 0 out out' r) where
      draw_length : r ≡ length (plain_form R C shown)
      draw_length = let e = p.next in omega arith

      -- so many bytes as a value may have
      pub draw_fits : r ≤ byte_room
      draw_fits = let e = draw_length in let h = draw_short in omega arith

      pub draw_written : drawn 0 r out' ≡ draw_of R C shown out
      unfolding draw_of draw_by
      draw_written =
          let l = out_long in
          let h = draw_short in
          simp (eq-eqb (shown_refusal R C shown (eqb (length out) byte_room)) 0 (sym f ∙ none))
          (ap (λ (k : ℕ). drawn 0 k out') draw_length ∙ ap (λ (o : List ℕ). drawn 0 (length (plain_form R C shown)) o) (put_over (omega arith) p))
