-- A step as a public call: how each way through the code is the definition's outcome; and work cleared for the core.
use mathlib.Core.Path.{◌≡◌, ◌∙◌, sym, ap, subst⁻¹}
use mathlib.Core.List.{List, ◌++◌}
use Prim.Native.Nat.{ℕ, ◌+◌, ◌*◌, ◌<◌, ◌≤◌}
use native.Mathlib.Omega.{arith}
use borrow.Author.Tests.{eq-eqb, ne_eqb, le-leb, lt-leb}
use lib.Dec.{ltb}
use lib.ListN.{length, drop, replicate}
use lib.IntN.{ℤ}
use Rattle.rules.specs.declared.Position.{Position}
use Rattle.rules.specs.declared.Settings.{Settings}
use Rattle.rules.specs.declared.Answer.{Answer}
use Rattle.rules.specs.declared.Event.{Event}
use Rattle.rules.specs.Words.{unless}
use Rattle.rules.specs.Lent.{work_room, work_after}
use Rattle.rules.specs.Opening.{opened_in}
use Rattle.rules.specs.Clicks.{Desk, Play, desk, done}
use Rattle.rules.specs.Step.{event_refusal, plain_code, plain_on}
use Rattle.rules.specs.Calls.{answers, refuses, outcome, cells_in, lent_refusal, step_of}
use Rattle.keep.specs.Kept.{LawfulAt}
use Rattle.keep.proofs.Lawful.{lent_lawful}
use Rattle.keep.proofs.Step.{step_follows}
use Rattle.keep.proofs.Opens.{Fell, step_fell}
use Rattle.board.specs.Parts.{Blanked}
use Rattle.cells.proofs.Filling.{cleared_zeros}
use Rattle.refusals.proofs.Refusals.{lent_mined}
use Rattle.game.specs.Core.{play_event}
use Rattle.game.proofs.Answers.{event_answers, refusal_refuses, refused_from}

module _ (B : List ℤ) (code r c : ℕ) (p : Position) (shown bits work : List ℕ) (n : ℕ) (e : n ≡ lent_refusal B (desk p shown bits) work) where
  -- refused by 20 to 264
  pub step_unfit : (a : Answer) → (n ≡ 0 → ⊥) → a ≡ refuses B p n → outcome a shown bits work ≡ step_of B code r c (desk p shown bits) work
  unfolding step_of
  step_unfit a z h = rw (← e, ne_eqb n 0 z, h)

  -- refused by 30 to 33
  pub step_heard : (k : ℕ) (a : Answer) → n ≡ 0 → done k (desk p shown bits) ≡ plain_on B code r c (desk p shown bits) → 20 ≤ k → a ≡ answers k p 0
      → outcome a shown bits work ≡ step_of B code r c (desk p shown bits) work
  unfolding step_of
  step_heard k a z s l h = rw (← e, eq-eqb n 0 z, ← s, le-leb 20 k l, h)

  -- played
  pub step_done : (m v : ℕ) (q : Position) (a : Answer) (shown' bits' work' : List ℕ) → n ≡ 0 → done m (desk q shown' bits') ≡ plain_on B code r c (desk p shown bits) → m < 20
      → work' ≡ work_after (cells_in p.settings) work → q.settings ≡ p.settings → v ≡ opened_in shown shown' → a ≡ answers m q v
      → outcome a shown' bits' work' ≡ step_of B code r c (desk p shown bits) work
  unfolding step_of
  step_done m v q a shown' bits' work' z s l w g k h = rw (← e, eq-eqb n 0 z, ← s, lt-leb 20 m l, h, w, g, k)

pub settings_kept : (B : List ℤ) (code r c : ℕ) (p q : Position) (shown bits shown' bits' : List ℕ) (m : ℕ) → LawfulAt B (desk p shown bits)
    → done m (desk q shown' bits') ≡ plain_on B code r c (desk p shown bits) → q.settings ≡ p.settings
settings_kept B code r c p q shown bits shown' bits' m l h = ap (λ (o : Play). o.desk.position.settings) h ∙ (step_follows B (plain_code code) r c (desk p shown bits) l).settings

-- what it opened is what the number of safe cells still closed fell by
pub step_opened : (B : List ℤ) (code r c : ℕ) (p q : Position) (shown bits shown' bits' : List ℕ) (m : ℕ) → LawfulAt B (desk p shown bits)
    → done m (desk q shown' bits') ≡ plain_on B code r c (desk p shown bits) → Fell (desk p shown bits) (desk q shown' bits')
step_opened B code r c p q shown bits shown' bits' m l h =
    subst⁻¹ (λ (o : Play). Fell (desk p shown bits) o.desk) h (step_fell B (plain_code code) r c (desk p shown bits) l)

pub played_small : (B : List ℤ) (e : Event) (d f : Desk) (m : ℕ) → done m f ≡ play_event B e d → m < 20
played_small B e d f m h = let a = (event_answers B e d).small in let b : m ≡ (play_event B e d).answer = ap (λ (o : Play). o.answer) h in omega arith

pub refused_large : (e : Event) (d : Desk) (k : ℕ) → k ≡ unless 31 (ltb d.position.events 65535) (event_refusal d.position.game e d) → (k ≡ 0 → ⊥) → 20 ≤ k
refused_large e d k r z = let l = refused_from _ (refusal_refuses e d) (λ q. z (r ∙ q)) in omega arith

pub blanked : (s : Settings) (cells : ℕ) (w w' : List ℕ) → cells ≡ s.rows * s.columns → work_room (cells_in s) ≤ length w → w' ≡ replicate (8 * cells + 8) 0 ++ drop (8 * cells + 8) w
    → length w' ≡ length w → Blanked s w w'
unfolding work_after
blanked s cells w w' e r h l =
    let z : w' ≡ replicate (work_room (cells_in s)) 0 ++ drop (work_room (cells_in s)) w = h ∙ ap (λ (k : ℕ). replicate (8 * k + 8) 0 ++ drop (8 * k + 8) w) e in
    record { cleared = z; blank = record { room = omega arith; zeros = rw z (cleared_zeros (work_room (cells_in s)) w) } }

-- what the tests gave: the room, and the lawful position
pub lent_room : (B : List ℤ) (d : Desk) (work : List ℕ) (n : ℕ) → n ≡ lent_refusal B d work → n ≡ 0 → work_room (cells_in d.position.settings) ≤ length work
lent_room B d work n e z = (lent_mined B d work n e z).1

pub lent_kept : (B : List ℤ) (d : Desk) (work : List ℕ) (n : ℕ) → n ≡ lent_refusal B d work → n ≡ 0 → LawfulAt B d
lent_kept B d work n e z = lent_lawful B d work (sym e ∙ z)
