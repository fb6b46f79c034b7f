-- A row of events, one event after the other: what the loop keeps, and how it ends.
use mathlib.Core.Path.{◌≡◌, ◌∙◌, sym, ap, refl, subst}
use mathlib.Core.List.{List, [], ◌∷◌}
use Prim.Native.Nat.{ℕ, suc, ◌+◌, ◌*◌, ◌%◌, ◌<◌, ◌≤◌}
use native.Mathlib.Omega.{arith}
use borrow.Author.Tests.{le-leb, lt-leb}
use lib.Dec.{leb}
use lib.ListN.{length, get_or, drop}
use lib.Seq.{drop-cons, drop-length}
use lib.IntN.{ℤ}
use Rattle.rules.specs.declared.Played.{Played}
use Rattle.rules.specs.Words.{pick}
use Rattle.rules.specs.Clicks.{Desk, Play, desk, done}
use Rattle.rules.specs.Step.{step_on}
use Rattle.rules.specs.Calls.{plays, last_play}
use Rattle.keep.specs.Kept.{LawfulAt, Follows}
use Rattle.keep.proofs.Step.{step_follows}
use Rattle.cells.specs.Promises.{Plays}
use Rattle.game.specs.Core.{Blank}

-- a play as the code holds it
abbrev pub held : Played → List ℕ → List ℕ → Play
held o shown bits = done o.answer (desk o.position shown bits)

-- where the rest of the row leads
abbrev pub leads_to : List ℤ → List ℕ → ℕ → Play → Play
leads_to B events at o = last_play o (plays B (drop at events) o.desk)

-- the loop, from the play o₀ at place at₀ to the play o at place at
pub record Flowing (B : List ℤ) (events : List ℕ) (at₀ : ℕ) (o₀ : Played) (shown₀ bits₀ work₀ : List ℕ) (at : ℕ) (o : Played) (shown bits work : List ℕ) : Type 0 where
  pub place : at ≤ length events
  pub whole : at % 3 ≡ 0
  pub leads : leads_to B events at (held o shown bits) ≡ leads_to B events at₀ (held o₀ shown₀ bits₀)
  pub lawful : LawfulAt B (desk o.position shown bits)
  pub settings : o.position.settings ≡ o₀.position.settings
  pub same : work ≡ work₀
  pub cells : length shown ≡ length shown₀
  pub bytes : length bits ≡ length bits₀

-- three bytes more
pub three : (events : List ℕ) (at : ℕ) → at + 3 ≤ length events → drop at events ≡ get_or events at 0 ∷ get_or events (at + 1) 0 ∷ get_or events (at + 2) 0 ∷ drop (at + 3) events
three events at h =
    let e1 : suc at ≡ at + 1 = omega arith in
    let e2 : suc (at + 1) ≡ at + 2 = omega arith in
    let e3 : suc (at + 2) ≡ at + 3 = omega arith in
    drop-cons events at 0 (omega arith)
    ∙ ap (λ (n : ℕ). get_or events at 0 ∷ drop n events) e1
    ∙ ap (λ (l : List ℕ). get_or events at 0 ∷ l) (drop-cons events (at + 1) 0 (omega arith))
    ∙ ap (λ (n : ℕ). get_or events at 0 ∷ get_or events (at + 1) 0 ∷ drop n events) e2
    ∙ ap (λ (l : List ℕ). get_or events at 0 ∷ get_or events (at + 1) 0 ∷ l) (drop-cons events (at + 2) 0 (omega arith))
    ∙ ap (λ (n : ℕ). get_or events at 0 ∷ get_or events (at + 1) 0 ∷ get_or events (at + 2) 0 ∷ drop n events) e3

-- the event at a place
abbrev pub event_at : List ℤ → List ℕ → ℕ → Desk → Play
event_at B events at d = step_on B (get_or events at 0) (get_or events (at + 1) 0) (get_or events (at + 2) 0) d

-- one event of the row
leads_turn : (B : List ℤ) (events : List ℕ) (at : ℕ) (o : Play) → at + 3 ≤ length events
    → leads_to B events at o ≡ last_play (event_at B events at o.desk) (pick (leb 20 (event_at B events at o.desk).answer) [] (plays B (drop (at + 3) events) (event_at B events at o.desk).desk))
unfolding plays last_play
leads_turn B events at o h = ap (λ (l : List ℕ). last_play o (plays B l o.desk)) (three events at h)

module _ (B : List ℤ) (events : List ℕ) (at : ℕ) (o o' : Played) (shown bits work shown' bits' work' : List ℕ) (h : at + 3 ≤ length events)
    (p : Plays (event_at B events at) o.position shown bits work o' shown' bits' work') where
  -- it was refused: the row ends
  leads_refused : 20 ≤ o'.answer → held o' shown' bits' ≡ leads_to B events at (held o shown bits)
  unfolding last_play
  leads_refused k =
      sym (leads_turn B events at (held o shown bits) h ∙ rw (← p.outcome, le-leb 20 o'.answer k))

  -- it was accepted: the row goes on
  leads_on : o'.answer < 20 → leads_to B events (at + 3) (held o' shown' bits') ≡ leads_to B events at (held o shown bits)
  leads_on k = sym (leads_turn B events at (held o shown bits) h ∙ rw (← p.outcome, lt-leb 20 o'.answer k))

  module _ (at₀ : ℕ) (o₀ : Played) (shown₀ bits₀ work₀ : List ℕ) (f : Flowing B events at₀ o₀ shown₀ bits₀ work₀ at o shown bits work) where
    next : Follows B (desk o.position shown bits) (desk o'.position shown' bits')
    next =
        subst (λ (s : Play). Follows B (desk o.position shown bits) s.desk) (sym p.outcome)
        (step_follows B (get_or events at 0) (get_or events (at + 1) 0) (get_or events (at + 2) 0) (desk o.position shown bits) f.lawful)

    cells_kept : length shown' ≡ length shown₀
    cells_kept =
        let a = next.lawful.kept.sound.ground.board in
        let b = f.lawful.kept.sound.ground.board in
        let r : o'.position.settings.rows * o'.position.settings.columns ≡ o.position.settings.rows * o.position.settings.columns = rw next.settings refl in
        a ∙ r ∙ sym b ∙ f.cells

    bytes_kept : length bits' ≡ length bits₀
    bytes_kept =
        let a = next.lawful.kept.sound.ground.room in
        let b = f.lawful.kept.sound.ground.room in
        a ∙ rw next.settings (sym b) ∙ f.bytes

    pub flow_on_lem : length events % 3 ≡ 0 → o'.answer < 20 → Flowing B events at₀ o₀ shown₀ bits₀ work₀ (at + 3) o' shown' bits' work'
    flow_on_lem m k =
        record {
          place = h;
          whole = let w = f.whole in omega arith;
          leads = leads_on k ∙ f.leads;
          lawful = next.lawful;
          settings = next.settings ∙ f.settings;
          same = p.same ∙ f.same;
          cells = cells_kept;
          bytes = bytes_kept;
        }

    pub flow_refused : 20 ≤ o'.answer → held o' shown' bits' ≡ leads_to B events at₀ (held o₀ shown₀ bits₀)
    flow_refused k = leads_refused k ∙ f.leads

    pub flow_same : work' ≡ work₀
    flow_same = p.same ∙ f.same

    pub flow_cells : length shown' ≡ length shown₀
    flow_cells = cells_kept

    pub flow_bytes : length bits' ≡ length bits₀
    flow_bytes = bytes_kept

-- a whole event is left where a byte is
pub event_left : (n at : ℕ) → n % 3 ≡ 0 → at % 3 ≡ 0 → at < n → at + 3 ≤ n
event_left n at a b h = omega arith

pub flow_start : (B : List ℤ) (events : List ℕ) (o : Played) (shown bits work : List ℕ) → LawfulAt B (desk o.position shown bits) → Flowing B events 0 o shown bits work 0 o shown bits work
flow_start B events o shown bits work l = record { place = omega arith; whole = refl; leads = refl; lawful = l; settings = refl; same = refl; cells = refl; bytes = refl }

pub flow_end : (B : List ℤ) (events : List ℕ) (at₀ : ℕ) (o₀ : Played) (shown₀ bits₀ work₀ : List ℕ) (at : ℕ) (o : Played) (shown bits work : List ℕ)
    → Flowing B events at₀ o₀ shown₀ bits₀ work₀ at o shown bits work → length events ≤ at → held o shown bits ≡ leads_to B events at₀ (held o₀ shown₀ bits₀)
unfolding plays last_play
flow_end B events at₀ o₀ shown₀ bits₀ work₀ at o shown bits work f h =
    let place = f.place in
    let e : at ≡ length events = omega arith in
    let d : drop at events ≡ [] = ap (λ (n : ℕ). drop n events) e ∙ drop-length events in
    sym (ap (λ (l : List ℕ). last_play (held o shown bits) (plays B l (desk o.position shown bits))) d) ∙ f.leads

-- the work is still blank
pub blank_kept : (o o₀ : Played) {work work₀ : List ℕ} → o.position.settings ≡ o₀.position.settings → work ≡ work₀ → Blank o₀.position.settings work₀ → Blank o.position.settings work
blank_kept o o₀ e d b = rw (e, d) b
