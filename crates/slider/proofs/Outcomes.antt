-- One outcome for each call of the slider; a refusal gives all back; and the theorem of the slider for the call itself.
use mathlib.Core.Path.{◌≡◌, ◌∙◌, sym, ap, subst⁻¹}
use mathlib.Core.List.{List}
use Prim.Native.Nat.{ℕ}
use lib.IntN.{ℤ}
use lib.ListN.{length}
use Rattle.rules.specs.Book.{book_of}
use Rattle.cells.proofs.Words.{one}
use Rattle.rules.specs.Slides.{Kept, Dragged, Opened, Call, emptied, after_calls, drag_refusal, undragged}
use Rattle.keeping.specs.Keeps.{kept_of}
use Rattle.drags.specs.Same.{Slid}
use Rattle.drags.proofs.Books.{drag_refused, slides_same}
use Rattle.slider.specs.declared.Slider.{Slider}
use Rattle.slider.specs.declared.Opening.{Opening}
use Rattle.slider.specs.declared.Drag.{Drag}
use Rattle.slider.specs.Promises.{lent_of, dragged_by, OpenIs, ResetIs, DragIs}

-- an opening has nothing kept
pub open_empties : (s : List ℕ) (r : Opening) → OpenIs s r → r.slider.kept ≡ 0
open_empties s r h = ap (λ (o : Opened). o.kept) h

pub open_one : (s : List ℕ) (r r' : Opening) → OpenIs s r → OpenIs s r' → (r.number ≡ r'.number) × (r.place ≡ r'.place) × (r.slider.kept ≡ r'.slider.kept)
open_one s r r' h h' = (ap (λ (o : Opened). o.number) (one h h'), ap (λ (o : Opened). o.place) (one h h'), ap (λ (o : Opened). o.kept) (one h h'))

pub reset_one : (x r r' : Slider) → ResetIs x r → ResetIs x r' → r ≡ r'
reset_one x r r' h h' = one h h'

module _ (kept : ℕ) (s : List ℕ) (n k : ℕ) (mines : List ℤ) (shown bits work room : List ℕ) where
  pub drag_one : (r r' : Drag) (m m' : List ℤ) (a a' b b' w w' q q' : List ℕ) → DragIs kept s n k mines shown bits work room r m a b w q
      → DragIs kept s n k mines shown bits work room r' m' a' b' w' q' → dragged_by r m a b w q ≡ dragged_by r' m' a' b' w' q'
  drag_one r r' m m' a a' b b' w w' q q' h h' = one h h'

  -- a refusal gives all back, the slider and the room too
  pub drag_refusal_lem : (r : Drag) (m : List ℤ) (a b w q : List ℕ) → DragIs kept s n k mines shown bits work room r m a b w q
      → (drag_refusal (book_of s) n k (length room) (lent_of mines shown bits work) ≡ 0 → ⊥)
      → dragged_by r m a b w q ≡ undragged (book_of s) (drag_refusal (book_of s) n k (length room) (lent_of mines shown bits work)) (kept_of kept room) (lent_of mines shown bits work)
  drag_refusal_lem r m a b w q h z = h ∙ drag_refused s n k (kept_of kept room) (lent_of mines shown bits work) z

-- THE LAW slides-same for the call: after any sequence of calls from an opening, an accepted drag gives what playing from the start gives
pub call_slides_same : (s : List ℕ) (k : ℕ) (room : List ℕ) (cs : List Call) (n : ℕ) (mines : List ℤ) (shown bits work : List ℕ) (r : Drag) (m : List ℤ) (a b w q : List ℕ)
    → let h = after_calls s k cs (emptied room) in DragIs h.count s n k mines shown bits work h.room r m a b w q → r.number ≡ 0 → Slid s k n h (dragged_by r m a b w q)
call_slides_same s k room cs n mines shown bits work r m a b w q d z =
    let h : Kept = after_calls s k cs (emptied room) in
    subst⁻¹ (Slid s k n h) d (slides_same s k room cs n (lent_of mines shown bits work) (sym (ap (λ (o : Dragged). o.number) d) ∙ z))
