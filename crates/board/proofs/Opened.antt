-- What a step opened: its value plus the open cells before is the open cells after where it is accepted, and 0 where it is refused.
use mathlib.Core.Path.{◌≡◌, refl, subst⁻¹}
use mathlib.Core.List.{List}
use Prim.Native.Nat.{ℕ, ◌+◌, ◌<◌, ◌≤◌}
use native.Mathlib.Omega.{arith}
use borrow.Author.Tests.{eqb-true, leb-true, leb-false}
use lib.Dec.{eqb, leb}
use lib.IntN.{ℤ}
use Rattle.rules.specs.declared.Position.{Position}
use Rattle.rules.specs.declared.Answer.{Answer}
use Rattle.rules.specs.Opening.{opened_in}
use Rattle.rules.specs.Clicks.{Desk, desk}
use Rattle.rules.specs.Step.{plain_code, plain_on}
use Rattle.rules.specs.Calls.{Outcome, lent_refusal, refused, refused_at, accepted, played, step_of}
use Rattle.rules.specs.Promises.{StepIs}
use Rattle.cells.specs.Promises.{open_in}
use Rattle.cells.proofs.Words.{pick_both}
use Rattle.keep.proofs.Lawful.{lent_lawful}
use Rattle.keep.proofs.Opens.{step_opens}

pub record Sum (shown : List ℕ) (r : Answer) (shown' : List ℕ) : Type 0 where
  pub accepted : r.number < 20 → r.value + open_in shown ≡ open_in shown'
  pub refused : 20 ≤ r.number → r.value ≡ 0

abbrev Summed : Desk → Outcome → Type 0
Summed d o = Sum d.shown o.answer o.shown

step_sum : (B : List ℤ) (code r c : ℕ) (d : Desk) (work : List ℕ) → Summed d (step_of B code r c d work)
unfolding step_of
step_sum B code r c d work =
    let o = plain_on B code r c d in
    let n = opened_in d.shown o.desk.shown in
    pick_both (Summed d) (eqb (lent_refusal B d work) 0) (played d.shown o work) (refused_at B (lent_refusal B d work) d work)
    (λ e.
    pick_both (Summed d) (leb 20 o.answer) (refused o.answer o.desk work) (accepted o.answer n o.desk work)
    (λ t. let l = leb-true 20 o.answer t in record { accepted = λ h. absurd (omega arith); refused = λ h. refl })
    (λ f.
    let l = leb-false 20 o.answer f in
    let v = (lent_lawful B d work (eqb-true (lent_refusal B d work) 0 e)).kept.sound.ground.mined.valued in
    let m = step_opens B v (plain_code code) r c d in
    record { accepted = λ h. omega arith; refused = λ h. absurd (omega arith) }))
    (λ _. record { accepted = λ h. omega arith; refused = λ h. refl })

-- THE SUM, for every input
pub opened_sum : (p : Position) (code row column : ℕ) (B : List ℤ) (shown bits work : List ℕ) (r : Answer) (shown' bits' work' : List ℕ)
    → StepIs p code row column B shown bits work r shown' bits' work' → Sum shown r shown'
opened_sum p code row column B shown bits work r shown' bits' work' h =
    subst⁻¹ (Summed (desk p shown bits)) h (step_sum B code row column (desk p shown bits) work)
