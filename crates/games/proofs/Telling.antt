-- A row of events, played and printed one after the other: what the loop keeps, and how it ends.
use mathlib.Core.Path.{◌≡◌, ◌∙◌, sym, ap, refl, subst}
use mathlib.Core.List.{List, [], ◌++◌}
use Prim.Native.Nat.{ℕ, suc, ◌+◌, ◌*◌, ◌%◌, ◌<◌, ◌≤◌}
use native.Mathlib.Omega.{arith}
use native.Mathlib.Numerals.{add-one}
use borrow.Author.Tests.{le-leb, lt-leb}
use lib.Dec.{leb}
use native.Mathlib.Nat.{add-zero}
use lib.ListN.{length, get_or, get_or-append, drop, length-append, length-drop}
use lib.Seq.{get_or-drop, drop-drop, drop_at, drop-length}
use lib.IntN.{ℤ}
use Rattle.rules.specs.declared.Position.{Position}
use Rattle.rules.specs.declared.Played.{Played}
use Rattle.rules.specs.Words.{pick}
use Rattle.rules.specs.Clicks.{Desk, desk}
use Rattle.rules.specs.Step.{step_on}
use Rattle.rules.specs.Calls.{plays}
use Rattle.rules.specs.Printout.{event_line, event_lines}
use Rattle.keep.specs.Kept.{LawfulAt}
use Rattle.cells.specs.Promises.{Plays}
use Rattle.flows.proofs.Flows.{Flowing, held, three, event_at, flow_on_lem, flow_refused, flow_cells, flow_bytes, flow_start, flow_end, event_left}
use Rattle.writing.specs.Put.{PutWithin}
use Rattle.writing.proofs.Putting.{Leads, leads_start, leads_turn, leads_done}
use Rattle.games.specs.Events.{EventsFit, EventsPrinted}

-- the lines of the events from a place on
abbrev pub lines_from : List ℤ → List ℕ → ℕ → ℕ → Desk → List ℕ
lines_from B events k n d = event_lines n (plays B (drop k events) d)

-- one event of the row, and its line
lines_turn : (B : List ℤ) (events : List ℕ) (k n : ℕ) (d : Desk) → k + 3 ≤ length events
    → lines_from B events k n d ≡ event_line n (event_at B events k d) ++ event_lines (suc n) (pick (leb 20 (event_at B events k d).answer) [] (plays B (drop (k + 3) events) (event_at B events k d).desk))
unfolding plays event_lines
lines_turn B events k n d h = ap (λ (l : List ℕ). event_lines n (plays B l d)) (three events k h)

-- no event is left
lines_done : (B : List ℤ) (events : List ℕ) (k n : ℕ) (d : Desk) → k ≡ length events → lines_from B events k n d ≡ []
unfolding plays event_lines
lines_done B events k n d e = ap (λ (l : List ℕ). event_lines n (plays B l d)) (ap (λ (m : ℕ). drop m events) e ∙ drop-length events)

-- the play before the first event
abbrev pub unplayed : Position → Played
unplayed p = record { answer = 0; position = p }

-- the loop, from place k₀ of the events and place at of the text
pub record Telling (B : List ℤ) (events : List ℕ) (at : ℕ) (k₀ : ℕ) (o₀ : Played) (shown₀ bits₀ work₀ out₀ : List ℕ) (k number place : ℕ) (o : Played) (shown bits work out : List ℕ) : Type 0 where
  pub flowing : Flowing B events k₀ o₀ shown₀ bits₀ work₀ k o shown bits work
  pub leads : Leads (lines_from B events k₀ 1 (desk o₀.position shown₀ bits₀)) at out₀ (lines_from B events k number (desk o.position shown bits)) place out
  pub numbers : 3 * number ≡ k + 3
  pub short : 3 * place ≤ 3 * at + 20 * k

pub telling_start : (B : List ℤ) (events : List ℕ) (at : ℕ) (o : Played) (shown bits work out : List ℕ) → LawfulAt B (desk o.position shown bits)
    → Telling B events at 0 o shown bits work out 0 1 at o shown bits work out
telling_start B events at o shown bits work out l =
    record { flowing = flow_start B events o shown bits work l; leads = leads_start; numbers = refl; short = omega arith }

module _ {B : List ℤ} {events : List ℕ} {at k₀ : ℕ} {o₀ : Played} {shown₀ bits₀ work₀ out₀ : List ℕ} {k number place : ℕ} {o : Played} {shown bits work out : List ℕ}
    (fit : EventsFit events at out₀) (t : Telling B events at k₀ o₀ shown₀ bits₀ work₀ out₀ k number place o shown bits work out) where
  pub telling_left : k < length events → k + 3 ≤ length events
  telling_left h = event_left (length events) k fit.whole t.flowing.whole h

  -- a line more fits, and its number is no more than that of a book's last event
  pub telling_room : (n : ℕ) → n ≡ length out → k < length events → place + 20 ≤ n
  telling_room n e h =
      let a = telling_left h in let b = fit.fits in let c = t.leads.long in let d = t.short in omega arith

  pub telling_number : k < length events → number ≤ 8192
  telling_number h = let a = telling_left h in let b = t.numbers in let c = fit.few in omega arith

  module _ {o' : Played} {shown' bits' work' out' : List ℕ} {place' : ℕ} (h : k < length events)
      (p : Plays (event_at B events k) o.position shown bits work o' shown' bits' work')
      (w : PutWithin 20 (event_line number (held o' shown' bits')) place out out' place') where
    pub three_left : k + 3 ≤ length events
    three_left = telling_left h

    lines_on : o'.answer < 20 → lines_from B events k number (desk o.position shown bits) ≡ event_line number (held o' shown' bits') ++ lines_from B events (k + 3) (suc number) (desk o'.position shown' bits')
    lines_on a = lines_turn B events k number (desk o.position shown bits) three_left ∙ rw (← p.outcome, lt-leb 20 o'.answer a)

    pub lines_refused : 20 ≤ o'.answer → lines_from B events k number (desk o.position shown bits) ≡ event_line number (held o' shown' bits') ++ []
    unfolding event_lines
    lines_refused a = lines_turn B events k number (desk o.position shown bits) three_left ∙ rw (← p.outcome, le-leb 20 o'.answer a)

    pub telling_cells : length shown' ≡ length shown₀
    telling_cells = flow_cells B events k o o' shown bits work shown' bits' work' three_left p k₀ o₀ shown₀ bits₀ work₀ t.flowing

    pub telling_bytes : length bits' ≡ length bits₀
    telling_bytes = flow_bytes B events k o o' shown bits work shown' bits' work' three_left p k₀ o₀ shown₀ bits₀ work₀ t.flowing

    pub further : 3 * place' ≤ 3 * at + 20 * (k + 3)
    further = let a = t.short in let b = w.put.next in let c = w.short in omega arith

    pub telling_on : o'.answer < 20 → Telling B events at k₀ o₀ shown₀ bits₀ work₀ out₀ (k + 3) (number + 1) place' o' shown' bits' work' out'
    telling_on a =
        record {
          flowing = flow_on_lem B events k o o' shown bits work shown' bits' work' three_left p k₀ o₀ shown₀ bits₀ work₀ t.flowing fit.whole a;
          leads =
              subst (λ (m : ℕ). Leads (lines_from B events k₀ 1 (desk o₀.position shown₀ bits₀)) at out₀ (lines_from B events (k + 3) m (desk o'.position shown' bits')) place' out') (sym (add-one number))
              (leads_turn (event_line number (held o' shown' bits')) (lines_from B events (k + 3) (suc number) (desk o'.position shown' bits')) t.leads (lines_on a) w.put);
          numbers = let b = t.numbers in omega arith;
          short = further;
        }

-- the ends of the loop, which began at the first event
module _ (p : Position) {B : List ℤ} {events : List ℕ} {at : ℕ} {shown₀ bits₀ work₀ out₀ : List ℕ} {k number place : ℕ} {o : Played} {shown bits work out : List ℕ}
    (fit : EventsFit events at out₀) (t : Telling B events at 0 (unplayed p) shown₀ bits₀ work₀ out₀ k number place o shown bits work out) where
  -- every event was accepted
  pub telling_end : length events ≤ k → EventsPrinted B events p shown₀ bits₀ work₀ at out₀ (record { at = place; answer = o.answer; position = o.position }) shown bits work out
  telling_end h =
      let m = t.flowing.place in
      record {
        outcome = flow_end B events 0 (unplayed p) shown₀ bits₀ work₀ k o shown bits work t.flowing h;
        put = leads_done t.leads (lines_done B events k number (desk o.position shown bits) (omega arith));
        short = let a = t.short in omega arith;
        same = t.flowing.same;
      }

  -- the last one was refused
  pub telling_refused : {o' : Played} {shown' bits' work' out' : List ℕ} {place' : ℕ} → k < length events
      → Plays (event_at B events k) o.position shown bits work o' shown' bits' work' → PutWithin 20 (event_line number (held o' shown' bits')) place out out' place'
      → 20 ≤ o'.answer → EventsPrinted B events p shown₀ bits₀ work₀ at out₀ (record { at = place'; answer = o'.answer; position = o'.position }) shown' bits' work' out'
  telling_refused {o'} {shown'} {bits'} {work'} {out'} {place'} h y w a =
      let m = three_left fit t h y w in
      record {
        outcome = flow_refused B events k o o' shown bits work shown' bits' work' m y 0 (unplayed p) shown₀ bits₀ work₀ t.flowing a;
        put = leads_done (leads_turn (event_line number (held o' shown' bits')) [] t.leads (lines_refused fit t h y w a) w.put) refl;
        short = let f = further fit t h y w in omega arith;
        same = y.same ∙ t.flowing.same;
      }

-- ---- the loop by its events ------------------------------------------------------------------------------------------------------------

-- what is left of the row starts at k
pub record Going (B : List ℤ) (events : List ℕ) (at : ℕ) (o₀ : Played) (shown₀ bits₀ work₀ out₀ : List ℕ) (number place : ℕ) (o : Played) (shown bits work out : List ℕ) (size : ℕ) (rest : List ℕ) : Type 0 where
  pub k : ℕ
  pub left : rest ≡ drop k events
  pub three : size ≡ 3
  pub telling : Telling B events at 0 o₀ shown₀ bits₀ work₀ out₀ k number place o shown bits work out

pub going_start : (B : List ℤ) (events : List ℕ) (at : ℕ) (o : Played) (shown bits work out : List ℕ) {size : ℕ} {rest : List ℕ} → LawfulAt B (desk o.position shown bits)
    → size ≡ 3 → rest ≡ events → Going B events at o shown bits work out 1 at o shown bits work out size rest
going_start B events at o shown bits work out l n e =
    record { k = 0; left = e; three = n; telling = telling_start B events at o shown bits work out l }

module _ {B : List ℤ} {events : List ℕ} {at : ℕ} {o₀ : Played} {shown₀ bits₀ work₀ out₀ : List ℕ} {number place : ℕ} {o : Played} {shown bits work out : List ℕ} {size : ℕ} {rest : List ℕ}
    (g : Going B events at o₀ shown₀ bits₀ work₀ out₀ number place o shown bits work out size rest) where
  -- an event is left
  module _ (row rest' : List ℕ) (e : rest ≡ row ++ rest') (n : length row ≡ size) where
    row_left : drop g.k events ≡ row ++ rest'
    row_left = sym g.left ∙ e

    row_three : length row ≡ 3
    row_three = n ∙ g.three

    pub going_in : g.k < length events
    going_in =
        let a = ap length row_left in
        let b = length-append row rest' in
        let c = length-drop g.k events in
        let d = row_three in
        omega arith

    cell : (j : ℕ) → j < 3 → get_or row j 0 ≡ get_or events (g.k + j) 0
    cell j h =
        sym (get_or-append row rest' 0 j (let d = row_three in omega arith)) ∙ ap (λ (l : List ℕ). get_or l j 0) (sym row_left) ∙ get_or-drop g.k events j 0

    pub going_played : {o' : Played} {shown' bits' work' : List ℕ}
        → Plays (step_on B (get_or row 0 0) (get_or row 1 0) (get_or row 2 0)) o.position shown bits work o' shown' bits' work'
        → Plays (event_at B events g.k) o.position shown bits work o' shown' bits' work'
    going_played p =
        let z : get_or row 0 0 ≡ get_or events g.k 0 = cell 0 (omega arith) ∙ ap (λ (i : ℕ). get_or events i 0) (add-zero g.k) in
        rw (z, cell 1 (omega arith), cell 2 (omega arith)) at p

    pub going_on : {number' place' : ℕ} {o' : Played} {shown' bits' work' out' : List ℕ} {size' : ℕ} → size' ≡ size
        → Telling B events at 0 o₀ shown₀ bits₀ work₀ out₀ (g.k + 3) number' place' o' shown' bits' work' out'
        → Going B events at o₀ shown₀ bits₀ work₀ out₀ number' place' o' shown' bits' work' out' size' rest'
    going_on s t =
        record {
          k = g.k + 3;
          left = sym (drop_at row rest' 3 row_three) ∙ ap (drop 3) (sym row_left) ∙ drop-drop 3 g.k events;
          three = s ∙ g.three;
          telling = t;
        }

  -- none is left
  pub going_out : length events % 3 ≡ 0 → length rest < size → length events ≤ g.k
  going_out w h =
      let a = ap length g.left in
      let c = length-drop g.k events in
      let d = g.three in
      let m = g.telling.flowing.whole in
      let i = g.telling.flowing.place in
      omega arith
