-- A row of events as a public call: how each way through the code is the definition's outcome.
use Rattle.std.specs.Prelude.{Option, Some, None}
use Rattle.rules.specs.declared.Pointer.{Pointer}
use mathlib.Core.Path.{◌≡◌, ◌∙◌, sym, ap, refl}
use mathlib.Core.Bool.{Bool, true, false, ◌&&◌}
use mathlib.Core.List.{List, [], ◌∷◌}
use Prim.Native.Nat.{ℕ, ◌%◌, ◌<◌, ◌≤◌}
use native.Mathlib.Omega.{arith}
use borrow.Author.Tests.{eq-eqb, ne_eqb, le-leb, lt-ltb, le-ltb, ltb-false, leb-true, eqb-true}
use lib.Dec.{eqb, leb, ltb}
use lib.ListN.{length, get_or, drop}
use lib.IntN.{ℤ}
use Rattle.rules.specs.declared.Position.{Position}
use Rattle.rules.specs.declared.Answer.{Answer}
use Rattle.rules.specs.Words.{pick}
use Rattle.rules.specs.Lent.{work_room, work_after}
use Rattle.rules.specs.Clicks.{Desk, Play, desk, done}
use Rattle.rules.specs.Step.{pointer_of, plain_of, refusal_at, step_at, step_by_of, step_on}
use Rattle.rules.specs.Lawful.{lawful_refusal}
use Rattle.rules.specs.Calls.{answers, refuses, outcome, cells_in, boards_fit, work_fits, position_refusal, plays, last_play, any_accepted, flow_refusal, flow_of}
use Rattle.keep.specs.Kept.{LawfulAt}
use Rattle.cells.proofs.Words.{and_left, and_right}
use Rattle.keep.proofs.Lawful.{settings_accepted, flow_lawful}
use Rattle.keep.proofs.Step.{plays_follow}
use Rattle.flows.specs.Runs.{flow_on}
use Rattle.flows.proofs.Flows.{three}
use Rattle.game.proofs.Answers.{play_answers}
use Rattle.board.specs.Parts.{refusal_by, refusal_on, first_refusal}
use Rattle.board.proofs.Stepping.{refused_large}

pub flow_kept : (B : List ℤ) (events : List ℕ) (d : Desk) (work : List ℕ) (n : ℕ) → n ≡ flow_refusal B events d work → n ≡ 0 → LawfulAt B d
flow_kept B events d work n e z = flow_lawful B events d work (sym e ∙ z)

-- a row's own tests
flow_fit_lem : (B : List ℤ) (events : List ℕ) (d : Desk) (work : List ℕ) → flow_refusal B events d work ≡ 0
    → (boards_fit d.position.settings B d.shown d.bits && (work_fits d.position.settings work && eqb (length events % 3) 0)) ≡ true
unfolding flow_refusal position_refusal
flow_fit_lem B events d work e = (settings_accepted d.position.settings (boards_fit d.position.settings B d.shown d.bits && (work_fits d.position.settings work && eqb (length events % 3) 0)) B (lawful_refusal B d) e).0.fits

pub flow_room : (B : List ℤ) (events : List ℕ) (d : Desk) (work : List ℕ) (n : ℕ) → n ≡ flow_refusal B events d work → n ≡ 0 → work_room (cells_in d.position.settings) ≤ length work
unfolding work_fits
flow_room B events d work n e z =
    leb-true (work_room (cells_in d.position.settings)) (length work)
    (and_left (work_fits d.position.settings work) (eqb (length events % 3) 0)
    (and_right (boards_fit d.position.settings B d.shown d.bits) _ (flow_fit_lem B events d work (sym e ∙ z))))

pub flow_whole : (B : List ℤ) (events : List ℕ) (d : Desk) (work : List ℕ) (n : ℕ) → n ≡ flow_refusal B events d work → n ≡ 0 → length events % 3 ≡ 0
flow_whole B events d work n e z =
    eqb-true (length events % 3) 0
    (and_right (work_fits d.position.settings work) (eqb (length events % 3) 0)
    (and_right (boards_fit d.position.settings B d.shown d.bits) _ (flow_fit_lem B events d work (sym e ∙ z))))

-- an event that would be refused is, and leaves the desk
step_refused_by : (B : List ℤ) (code : ℕ) (w : Option Pointer) (d : Desk) (k : ℕ) → k ≡ refusal_by code w d → (k ≡ 0 → ⊥) → (20 ≤ k) × (step_by_of B code w d ≡ done k d)
unfolding step_by_of step_at refusal_at
step_refused_by B code (Some x) d k e z = (refused_large (plain_of code x d) d k e z, rw (← e, ne_eqb k 0 z))
step_refused_by B code None d k e z = (omega arith, rw e)

-- one that would not be answers below 20
step_small_by : (B : List ℤ) (code : ℕ) (w : Option Pointer) (d : Desk) → refusal_by code w d ≡ 0 → (step_by_of B code w d).answer < 20
unfolding step_by_of step_at
step_small_by B code (Some x) d e = rw (eq-eqb (refusal_at code x d) 0 e) (let a = (play_answers B code x d).small in omega arith)
step_small_by B code None d e = absurd (omega arith)

-- a row that is refused at its first event has one play
plays_first : (B : List ℤ) (code r c : ℕ) (es events : List ℕ) (d : Desk) (k : ℕ) → events ≡ code ∷ r ∷ c ∷ es → step_on B code r c d ≡ done k d → 20 ≤ k
    → plays B events d ≡ done k d ∷ []
unfolding plays
plays_first B code r c es events d k e s l = ap (λ (w : List ℕ). plays B w d) e ∙ rw (s, le-leb 20 k l)

module _ (B : List ℤ) (events : List ℕ) (p : Position) (shown bits work : List ℕ) (n : ℕ) (e : n ≡ flow_refusal B events (desk p shown bits) work) where
  -- refused by 20 to 264
  pub flow_unfit : (a : Answer) → (n ≡ 0 → ⊥) → a ≡ refuses B p n → outcome a shown bits work ≡ flow_of B events (desk p shown bits) work
  unfolding flow_of
  flow_unfit a z h = rw (← e, ne_eqb n 0 z, h)

  -- refused at its first event: nothing is touched
  pub flow_first : (k : ℕ) (a : Answer) → n ≡ 0 → 3 ≤ length events → k ≡ refusal_on (get_or events 0 0) (get_or events 1 0) (get_or events 2 0) (desk p shown bits) → (k ≡ 0 → ⊥) → a ≡ answers k p 0
      → outcome a shown bits work ≡ flow_of B events (desk p shown bits) work
  unfolding flow_of last_play step_on
  flow_first k a z l f g h =
      let s = step_refused_by B (get_or events 0 0) (pointer_of p.settings (get_or events 1 0) (get_or events 2 0)) (desk p shown bits) k f g in
      let o = plays_first B (get_or events 0 0) (get_or events 1 0) (get_or events 2 0) (drop 3 events) events (desk p shown bits) k (three events 0 l) s.1 s.0 in
      rw (← e, eq-eqb n 0 z, o, le-leb 20 k s.0, le-ltb k 20 s.0, h)

  -- played
  pub flow_done : (m v : ℕ) (q : Position) (a : Answer) (shown' bits' work' : List ℕ) → n ≡ 0 → done m (desk q shown' bits') ≡ flow_on B events (desk p shown bits)
      → any_accepted (plays B events (desk p shown bits)) ≡ true → work' ≡ work_after (cells_in p.settings) work → q.settings ≡ p.settings
      → v ≡ pick (leb 20 m) m 0 → a ≡ answers v q 0 → outcome a shown' bits' work' ≡ flow_of B events (desk p shown bits) work
  unfolding flow_of
  flow_done m v q a shown' bits' work' z s t w g u h = rw (← e, eq-eqb n 0 z, ← s, t, h, u, w, g)

-- a row of whole events whose first one is accepted, or that has none
any_accepted_by : (B : List ℤ) (events : List ℕ) (d : Desk) → length events % 3 ≡ 0 → (3 ≤ length events → refusal_on (get_or events 0 0) (get_or events 1 0) (get_or events 2 0) d ≡ 0)
    → any_accepted (plays B events d) ≡ true
unfolding plays step_on
any_accepted_by B [] d m h = refl
any_accepted_by B (code ∷ []) d m h = absurd (omega arith)
any_accepted_by B (code ∷ r ∷ []) d m h = absurd (omega arith)
any_accepted_by B (code ∷ r ∷ c ∷ es) d m h = lt-ltb _ 20 (step_small_by B code (pointer_of d.position.settings r c) d (h (omega arith)))

pub any_accepted_lem : (B : List ℤ) (events : List ℕ) (d : Desk) → length events % 3 ≡ 0 → first_refusal events d ≡ 0 → any_accepted (plays B events d) ≡ true
any_accepted_lem B events d m e = any_accepted_by B events d m (λ l. let t : first_refusal events d ≡ refusal_on (get_or events 0 0) (get_or events 1 0) (get_or events 2 0) d = rw (le-ltb (length events) 3 l) in sym t ∙ e)

pub first_large : (B : List ℤ) (events : List ℕ) (d : Desk) (k : ℕ) → k ≡ first_refusal events d → (k ≡ 0 → ⊥) → 3 ≤ length events × (k ≡ refusal_on (get_or events 0 0) (get_or events 1 0) (get_or events 2 0) d)
first_large B events d k e z = go (ltb (length events) 3) refl
  where
    go : (b : Bool) → ltb (length events) 3 ≡ b → 3 ≤ length events × (k ≡ refusal_on (get_or events 0 0) (get_or events 1 0) (get_or events 2 0) d)
    go true t = absurd (z (e ∙ rw t refl))
    go false t = (ltb-false (length events) 3 t, e ∙ rw t refl)

pub flow_settings : (B : List ℤ) (events : List ℕ) (p q : Position) (shown bits shown' bits' : List ℕ) (m : ℕ) → LawfulAt B (desk p shown bits)
    → done m (desk q shown' bits') ≡ flow_on B events (desk p shown bits) → q.settings ≡ p.settings
flow_settings B events p q shown bits shown' bits' m l h =
    ap (λ (o : Play). o.desk.position.settings) h
    ∙ (plays_follow B events (desk p shown bits) (done 0 (desk p shown bits)) (record { lawful = l; settings = refl; told = λ t. t })).settings
