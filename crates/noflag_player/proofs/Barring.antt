-- The line of a forbidden event, where the row comes to it. Assumes nothing.
use mathlib.Core.Path.{◌≡◌, refl, sym, ap, ap₂, ◌∙◌}
use mathlib.Core.Bool.{Bool}
use mathlib.Core.List.{List, [], ◌∷◌, append-nil}
use Prim.Native.Nat.{ℕ, ◌+◌, ◌/◌, ◌<◌, ◌≤◌}
use native.Mathlib.Omega.{arith}
use borrow.Author.Tests.{le-leb, lt-leb}
use lib.Dec.{ltb}
use lib.ListN.{length, get_or, drop}
use lib.Seq.{drop-length}
use Rattle.rules.specs.Words.{pick}
use Rattle.rules.specs.States.{game_number, mouse_number}
use Rattle.rules.specs.Clicks.{desk}
use Rattle.rules.specs.Step.{pointer_of}
use Rattle.rules.specs.Printout.{line_of, event_lines}
use Rattle.flows.proofs.Flows.{three, event_left}
use Rattle.writing.specs.Put.{Put, PutWithin}
use Rattle.writing.proofs.Putting.{put_as, leads_start, leads_done}
use Rattle.games.specs.declared.Told.{Told}
use Rattle.noflag.specs.Class.{forbids}
use Rattle.noflag_player.specs.Printing.{barred_at, BarredFits, BarredPut}

-- no text is written by writing nothing
nothing_put : (at : ℕ) (out text : List ℕ) → text ≡ [] → Put text at out out at
nothing_put at out text e = put_as (sym e) (leads_done leads_start refl)

module _ {t : Told} {events : List ℕ} {n : ℕ} {out : List ℕ} (fit : BarredFits t events n out) where
  -- an event before it was refused
  pub barred_refused : 20 ≤ t.answer → BarredPut t events n out out t.at
  unfolding event_lines
  barred_refused h = record {
    put = λ shown bits.
        nothing_put t.at out _
        (ap (λ (b : Bool). event_lines (n / 3 + 1) (pick b [] (barred_at (drop n events) (desk t.position shown bits)))) (le-leb 20 t.answer h));
    short = let i = fit.within in omega arith;
  }

  -- the row has none
  pub barred_none : t.answer < 20 → length events ≤ n → BarredPut t events n out out t.at
  unfolding event_lines barred_at
  barred_none a h =
      let i = fit.within in
      let e : n ≡ length events = omega arith in
      let d : drop n events ≡ [] = ap (λ (k : ℕ). drop k events) e ∙ drop-length events in
      record {
        put = λ shown bits.
            nothing_put t.at out _
            (ap (λ (b : Bool). event_lines (n / 3 + 1) (pick b [] (barred_at (drop n events) (desk t.position shown bits)))) (lt-leb 20 t.answer a)
            ∙ ap (λ (l : List ℕ). event_lines (n / 3 + 1) (barred_at l (desk t.position shown bits))) d);
        short = omega arith;
      }

  -- it stands at n
  pub barred_left : n < length events → n + 3 ≤ length events
  barred_left h = event_left (length events) n fit.whole fit.free h

  pub barred_put : {out' : List ℕ} {r k number : ℕ} → t.answer < 20 → n < length events
      → k ≡ forbids (ltb t.position.events 65535) (pointer_of t.position.settings (get_or events (n + 1) 0) (get_or events (n + 2) 0)) → number ≡ n / 3 + 1
      → PutWithin 20 (line_of (number ∷ k ∷ game_number t.position.game ∷ mouse_number t.position.mouse ∷ [])) t.at out out' r
      → BarredPut t events n out out' r
  unfolding event_lines barred_at
  barred_put {out'} {r} {k} {number} a h ek en w =
      let left = barred_left h in
      let next = w.put.next in
      let short = w.short in
      let line =
      ap₂ (λ (i j : ℕ). line_of (i ∷ j ∷ game_number t.position.game ∷ mouse_number t.position.mouse ∷ [])) en ek in
      record {
        put = λ shown bits.
            put_as
            (line
            ∙ (sym (append-nil _)
            ∙ sym (ap (λ (b : Bool). event_lines (n / 3 + 1) (pick b [] (barred_at (drop n events) (desk t.position shown bits)))) (lt-leb 20 t.answer a)
            ∙ ap (λ (l : List ℕ). event_lines (n / 3 + 1) (barred_at l (desk t.position shown bits))) (three events n left))))
            w.put;
        short = omega arith;
      }
