-- What a step of the class opened: its value plus the open cells before is the open cells after where it is accepted, and 0 where it is refused.
-- Assumes nothing.
use mathlib.Core.Path.{refl, sym, ◌∙◌, subst⁻¹}
use mathlib.Core.List.{List}
use Prim.Native.Nat.{ℕ, ◌≤◌}
use native.Mathlib.Omega.{arith}
use borrow.Author.Tests.{eqb-true, leb-true, leb-false}
use lib.Dec.{eqb, leb}
use lib.IntN.{ℤ}
use Rattle.rules.specs.declared.Position.{Position}
use Rattle.rules.specs.declared.Answer.{Answer}
use Rattle.rules.specs.Opening.{opened_in}
use Rattle.rules.specs.Clicks.{Desk, Play, desk}
use Rattle.rules.specs.Calls.{Outcome, refused, refused_at, accepted, played}
use Rattle.cells.specs.Promises.{open_in}
use Rattle.cells.proofs.Words.{pick_both}
use Rattle.keep.proofs.Lawful.{lent_lawful}
use Rattle.keep.proofs.Opens.{step_opens}
use Rattle.board.proofs.Opened.{Sum}
use Rattle.rules.specs.Noflag.{class_step_on, class_lent_refusal, class_step_of, ClassStepIs}
use Rattle.noflag.proofs.Same.{class_either}
use Rattle.noflag.proofs.Calls.{lent_zero, lent_same}

abbrev Summed : Desk → Outcome → Type 0
Summed d o = Sum d.shown o.answer o.shown

step_sum : (B : List ℤ) (code r c : ℕ) (d : Desk) (work : List ℕ) → Summed d (class_step_of B code r c d work)
unfolding class_step_of
step_sum B code r c d work =
    let o : Play = class_step_on B code r c d in
    let n = opened_in d.shown o.desk.shown in
    pick_both (Summed d) (eqb (class_lent_refusal B d work) 0) (played d.shown o work) (refused_at B (class_lent_refusal B d work) d work)
    (λ e.
    pick_both (Summed d) (leb 20 o.answer) (refused o.answer o.desk work) (accepted o.answer n o.desk work)
    (λ t. let l = leb-true 20 o.answer t in record { accepted = λ h. absurd (omega arith); refused = λ h. refl })
    (λ f.
    let l = leb-false 20 o.answer f in
    let z = eqb-true (class_lent_refusal B d work) 0 e in
    let v = (lent_lawful B d work (sym (lent_same B d work (lent_zero B d work z)) ∙ z)).kept.sound.ground.mined.valued in
    let m : open_in d.shown ≤ open_in o.desk.shown
    = class_either (λ (x : Desk). open_in d.shown ≤ open_in x.shown) B code r c d (omega arith) (λ _. step_opens B v code r c d) in
    record { accepted = λ h. omega arith; refused = λ h. absurd (omega arith) }))
    (λ _. record { accepted = λ h. omega arith; refused = λ h. refl })

-- THE SUM, for every input
pub opened_sum : (p : Position) (code row column : ℕ) (B : List ℤ) (shown bits work : List ℕ) (r : Answer) (shown' bits' work' : List ℕ)
    → ClassStepIs p code row column B shown bits work r shown' bits' work' → Sum shown r shown'
opened_sum p code row column B shown bits work r shown' bits' work' h =
    subst⁻¹ (Summed (desk p shown bits)) h (step_sum B code row column (desk p shown bits) work)
