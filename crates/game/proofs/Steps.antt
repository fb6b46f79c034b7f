-- A step of a lawful game: what playing an event asks, from the lawful position, and one equation for each way a step ends.
use Rattle.std.specs.Prelude.{Option, Some, None}
use mathlib.Core.Path.{◌≡◌, ◌∙◌, ap, ap₂, sym, refl}
use mathlib.Core.Bool.{Bool, true}
use mathlib.Core.List.{List}
use Prim.Native.Nat.{ℕ, ◌+◌, ◌<◌, ◌≤◌}
use native.Mathlib.Omega.{arith}
use borrow.Author.Tests.{eq-eqb, ne_eqb, lt-ltb, le-ltb}
use lib.Dec.{ltb}
use lib.ListN.{get_or}
use lib.IntN.{ℤ}
use Rattle.rules.specs.declared.Refusal.{Refusal}
use Rattle.rules.specs.Refusals.{refusal_number}
use Rattle.rules.specs.declared.Position.{Position}
use Rattle.rules.specs.declared.Played.{Played}
use Rattle.rules.specs.declared.Pointer.{Pointer}
use Rattle.rules.specs.declared.Event.{Event}
use Rattle.rules.specs.declared.GameState.TheVariants.{PreFlaging}
use Rattle.rules.specs.declared.MouseState.{MouseState}
use Rattle.rules.specs.declared.MouseState.TheVariants.{UpUp, UpDown, UpDownNotFlag, DownUp, Chording, ChordingNotFlag, DownUpAfterChording}
use Rattle.rules.specs.Words.{unless}
use Rattle.rules.specs.States.{mouse_number, is_not_flag, with_middle, with_events}
use Rattle.rules.specs.Clicks.{desk, done}
use Rattle.rules.specs.Mouse.{resolved, flipped}
use Rattle.rules.specs.Step.{mouse, counts, event_refusal, event_of, plain_of, plain_code, by_game, pointer_of, refusal_at, play_at, step_at, step_by_of, step_on}
use Rattle.mouse.specs.declared.Resolved.{Resolved}
use Rattle.mouse.proofs.Codes.{plain_event, plain_flips}
use Rattle.keep.specs.Kept.{LawfulAt, Inside, InsideOf}
use Rattle.keep.proofs.Room.{preflags_has}
use Rattle.keep.proofs.Able.{eleven_in, lawful_room}
use Rattle.keep.proofs.Moves.{middle_keeps}
use Rattle.keep.proofs.Step.{event_inside}
use Rattle.cells.specs.Promises.{AbleAt}
use Rattle.game.specs.Core.{Blank, play_event}

-- ---- what playing an event asks ---------------------------------------------------------------------------------------------------------

able_lawful : (B : List ℤ) (p : Position) (shown bits work : List ℕ) → LawfulAt B (desk p shown bits) → Blank p.settings work → AbleAt B p shown bits work
able_lawful B p shown bits work l b =
    let g = l.kept.sound.ground in
    record {
      laid = record { fits = record { mined = g.mined; board = g.board; room = b.room }; zeros = b.zeros };
      bytes = g.room;
      room = lawful_room l;
    }

five : (m : MouseState) → mouse_number m ≡ 5 → is_not_flag m ≡ true
five UpUp e = absurd (omega arith)
five UpDown e = absurd (omega arith)
five UpDownNotFlag e = absurd (omega arith)
five DownUp e = absurd (omega arith)
five Chording e = absurd (omega arith)
five ChordingNotFlag e = refl
five DownUpAfterChording e = absurd (omega arith)

-- what the game states ask of a position
pub record Asked (B : List ℤ) (p : Position) (shown bits work : List ℕ) : Type 0 where
  pub able : AbleAt B p shown bits work
  pub held : mouse_number p.mouse ≡ 5 → 1 ≤ p.counts.right
  pub few : p.preflags ≤ 70000
  pub preflags : p.game ≡ PreFlaging → (i : ℕ) → get_or shown i 0 ≡ 11 → 1 ≤ p.preflags

pub lawful_asked : (B : List ℤ) (p : Position) (shown bits work : List ℕ) → LawfulAt B (desk p shown bits) → Blank p.settings work → Asked B p shown bits work
lawful_asked B p shown bits work l b =
    let few = l.few in
    let pre = l.kept.preflags in
    record {
      able = able_lawful B p shown bits work l b;
      held = λ m. l.kept.held (five p.mouse m);
      few = omega arith;
      preflags = λ g i k. preflags_has l.kept g i (eleven_in shown i k) k;
    }

-- an event played by the game state, and counted
pub event_counts : (B : List ℤ) (p : Position) (e : Event) (o r : Played) (shown bits shown' bits' : List ℕ)
    → done o.answer (desk o.position shown' bits') ≡ by_game p.game B e (desk p shown bits) → r ≡ record { answer = o.answer; position = with_events o.position (p.events + 1) }
    → done r.answer (desk r.position shown' bits') ≡ play_event B e (desk p shown bits)
event_counts B p e o r shown bits shown' bits' k h = rw h (ap (counts (desk p shown bits)) k)

-- ---- an event whose pointer is good, resolved -------------------------------------------------------------------------------------------

module _ (B : List ℤ) (code : ℕ) (x : Pointer) (p : Position) (shown bits : List ℕ) (h : Resolved)
    (e : h ≡ record { event = plain_of code x (desk p shown bits); middle = flipped code p.middle }) where
  -- what the plain event asks, at the position with its middle flag
  pub resolved_asks : (q : Position) (work : List ℕ) → q ≡ with_middle p h.middle → LawfulAt B (desk p shown bits) → Blank p.settings work → Inside p.settings x
      → LawfulAt B (desk q shown bits) × (Blank q.settings work × InsideOf q.settings h.event)
  unfolding plain_of
  resolved_asks q work k l b i =
      rw (k, e)
      (record { kept = middle_keeps (flipped code p.middle) l.kept; few = l.few }, (b, event_inside p.settings (resolved p.settings.rules code (mouse (desk p shown bits)) p.middle) x i))

  module _ (n : ℕ) (r : n ≡ unless 31 (ltb p.events 65535) (event_refusal p.game h.event (desk p shown bits))) where
    refusal_is : n ≡ refusal_at code x (desk p shown bits)
    unfolding refusal_at
    refusal_is = r ∙ rw e refl

    pub resolved_refused : (n ≡ 0 → ⊥) → done n (desk p shown bits) ≡ step_at B code x (desk p shown bits)
    unfolding step_at
    resolved_refused z = rw (← refusal_is, ne_eqb n 0 z)

    pub resolved_played : n ≡ 0 → (q : Position) → q ≡ with_middle p h.middle → step_at B code x (desk p shown bits) ≡ play_event B h.event (desk q shown bits)
    unfolding step_at play_at
    resolved_played z q k = rw (← refusal_is, eq-eqb n 0 z, k, e) refl

-- a plain event is one that was resolved into itself
pub plain_resolved : (code : ℕ) (x : Pointer) (p : Position) (shown bits : List ℕ) (e : Event) → e ≡ event_of (plain_code code) x
    → ◌≡◌ {A = Resolved} (record { event = e; middle = p.middle })
    (record { event = plain_of (plain_code code) x (desk p shown bits); middle = flipped (plain_code code) p.middle })
plain_resolved code x p shown bits e h =
    ap₂ (λ (e : Event) (b : Bool). record { event = e; middle = b }) (h ∙ sym (plain_event code (desk p shown bits) x)) (sym (plain_flips code (desk p shown bits)))

-- there is room to count it
pub not_full : (p : Position) (n rest : ℕ) → p.events < 65535 → n ≡ rest → n ≡ unless 31 (ltb p.events 65535) rest
not_full p n rest l e = rw (lt-ltb p.events 65535 l) e

-- there is none
pub step_full : (B : List ℤ) (code : ℕ) (x : Pointer) (p : Position) (shown bits : List ℕ) → 65535 ≤ p.events → done 31 (desk p shown bits) ≡ step_at B code x (desk p shown bits)
unfolding step_at refusal_at
step_full B code x p shown bits l = rw (le-ltb p.events 65535 l) refl

-- ---- its pointer -------------------------------------------------------------------------------------------------------------------------

module _ (B : List ℤ) (code r c : ℕ) (p : Position) (shown bits : List ℕ) (w : Option Pointer) (e : w ≡ pointer_of p.settings r c) where
  pub step_bad : w ≡ None → done 30 (desk p shown bits) ≡ step_on B code r c (desk p shown bits)
  unfolding step_on step_by_of
  step_bad h = rw (← e, h)

  pub step_decoded : (x : Pointer) → w ≡ Some x → step_on B code r c (desk p shown bits) ≡ step_at B code x (desk p shown bits)
  unfolding step_on step_by_of
  step_decoded x h = rw (← e, h)
