-- What each call answers for a flat position: the flat form of what the class's call leaves; where a byte means nothing, the refusal of the position
-- that was read, and the flat position goes back. Assumes nothing.
use mathlib.Core.Path.{◌≡◌, refl, sym, ap, ap₂, ◌∙◌}
use mathlib.Core.Bool.{Bool, true, false, ◌&&◌}
use mathlib.Core.List.{List, [], ◌∷◌}
use Prim.Native.Nat.{ℕ}
use borrow.Author.Tests.{eqb-true}
use lib.Dec.{eqb, leb}
use lib.IntN.{ℤ}
use Rattle.rules.specs.declared.Settings.{Settings}
use Rattle.rules.specs.declared.Position.{Position}
use Rattle.rules.specs.declared.Answer.{Answer}
use Rattle.rules.specs.Words.{pick}
use Rattle.rules.specs.Clicks.{Desk, desk}
use Rattle.rules.specs.Calls.{Outcome, outcome, set_up, lent_refusal}
use Rattle.flats.specs.declared.FlatPosition.{FlatPosition}
use Rattle.flats.specs.declared.FlatAnswer.{FlatAnswer}
use Rattle.flats.specs.Flat.{means, unclear, settings_of, position_in, flat_answer}
use Rattle.reads.specs.Reading.{Reads, answer_for}
use Rattle.console.specs.Promises.{Leaves, leaves, flat_set_up}
use Rattle.console.proofs.Making.{unclear_some, lent_as, left}
use Rattle.rules.specs.Noflag.{class_setup_of, class_lent_refusal, class_step_of}
use Rattle.noflag_board.specs.Parts.{moded}
use Rattle.noflag_board.proofs.Moding.{lent_moded}
use Rattle.noflag_board.proofs.Outcomes.{step_refused}
use Rattle.noflag_console.specs.Promises.{setup_flat, step_flat}

pub setup_flat_lem : (rows columns mode question rules : ℕ) (s : Settings) (B : List ℤ) (shown bits : List ℕ) (a : Answer) (r : FlatAnswer) (shown' bits' : List ℕ)
    → s ≡ settings_of rows columns mode question rules → set_up a shown' bits' ≡ class_setup_of s B shown bits → r ≡ flat_answer a
    → leaves r (shown' ∷ bits' ∷ []) ≡ setup_flat rows columns mode question rules B shown bits
unfolding setup_flat
setup_flat_lem rows columns mode question rules s B shown bits a r shown' bits' es h er =
    ap (λ (t : FlatAnswer). leaves t (shown' ∷ bits' ∷ [])) er ∙ ap flat_set_up (h ∙ ap (λ (g : Settings). class_setup_of g B shown bits) es)

-- 25 comes before 264, whatever the bytes mean
moded_unclear : (mode n : ℕ) → moded mode (unclear n) ≡ unclear (moded mode n)
moded_unclear mode n = go (eqb mode 0) (eqb n 0) refl (leb 20 n && leb n 24) refl
  where
    go : (t z : Bool) → eqb n 0 ≡ z → (u : Bool) → (leb 20 n && leb n 24) ≡ u
        → pick t (pick z 264 n) (pick (leb 20 (pick z 264 n) && leb (pick z 264 n) 24) (pick z 264 n) 25)
        ≡ pick (eqb (pick t n (pick u n 25)) 0) 264 (pick t n (pick u n 25))
    go true z e u f = sym (ap (λ (x : Bool). pick x 264 n) e)
    go false true e u f =
        let w : u ≡ false = sym f ∙ ap (λ (x : ℕ). leb 20 x && leb x 24) (eqb-true n 0 e) in
        sym (ap (λ (x : Bool). pick (eqb (pick x n 25) 0) 264 (pick x n 25)) w)
    go false false e true f = ap (λ (x : Bool). pick x n 25) f ∙ sym (ap (λ (x : Bool). pick x 264 n) e)
    go false false e false f = ap (λ (x : Bool). pick x n 25) f

-- p is what the class's step was called on
module _ (B : List ℤ) (f : FlatPosition) (shown bits : List ℕ) (p : Position) (h : Reads f p) where
  abbrev read : Desk
  read = desk (position_in f) shown bits

  abbrev made : Desk
  made = desk p shown bits

  class_lent_as : means f ≡ false → (work : List ℕ) → class_lent_refusal B made work ≡ unclear (class_lent_refusal B read work)
  class_lent_as m work =
      lent_moded B made work
      ∙ (ap₂ (λ (s : Settings) (n : ℕ). moded s.mode n) (h.spoilt m).settings (lent_as B f shown bits p h m work)
      ∙ (moded_unclear (position_in f).settings.mode (lent_refusal B read work) ∙ sym (ap unclear (lent_moded B read work))))

  abbrev all : Outcome → Leaves Answer
  all o = leaves o.answer (o.shown ∷ o.bits ∷ o.work ∷ [])

  pub step_flat_lem : (a : Answer) (r : FlatAnswer) → r ≡ answer_for f a → (code x y : ℕ) (work shown' bits' work' : List ℕ)
      → outcome a shown' bits' work' ≡ class_step_of B code x y made work → leaves r (shown' ∷ bits' ∷ work' ∷ []) ≡ step_flat B code x y f shown bits work
  unfolding step_flat
  step_flat_lem a r er code x y work shown' bits' work' e =
      left B f shown bits p h a r er (class_step_of B code x y read work).answer (class_lent_refusal B read work) (class_lent_refusal B made work) _ _ _
      (λ m. ap all (e ∙ ap (λ (q : Position). class_step_of B code x y (desk q shown bits) work) (h.clear m)))
      (λ m. class_lent_as m work)
      (λ m. ap all (e ∙ step_refused B code x y made work (unclear_some (class_lent_refusal B read work) _ (class_lent_as m work))))
