-- The passes end: the rounds of their definitions suffice, and the last one had no more to do; and `ever` says exactly whether the chord pass changed the board.
use mathlib.Core.Path.{◌≡◌, refl, ap, sym, ◌∙◌}
use mathlib.Core.Bool.{Bool, true, false, true≢false}
use mathlib.Core.List.{List}
use Prim.Native.Nat.{ℕ, zero, suc, ◌<◌}
use native.Mathlib.Omega.{arith}
use lib.ListN.{length}
use lib.IntN.{ℤ}
use Rattle.rules.specs.declared.Settings.{Settings}
use Rattle.rules.specs.Words.{bit, rounds}
use Rattle.rules.specs.States.{is_playing}
use Rattle.rules.specs.Clicks.{Desk, perform_chord, cells_of}
use Rattle.rules.specs.Passes.{Scan, Round, found_any, chord_one, chord_scan, chord_round, chord_more, chord_pass, both_round, both_pass}
use Rattle.cells.specs.Ground.{Valued}
use Rattle.cells.proofs.Words.{rounds_keep, rounds_enough, rounds_over}
use Rattle.opening.proofs.Cost.{closed_most}
use Rattle.cells.specs.Promises.{closed_in}
use Rattle.chords.specs.Fell.{Fell, idle, fell}
use Rattle.chords.proofs.Chord.{chord_fell}
use Rattle.passes.specs.Passing.{going}
use Rattle.chording.proofs.Chording.{Sits, noted_some, one_over, one_plays, one_idle, sits_long, Spent, spent_one, spent_pass, begun, round_keep, round_less}
use Rattle.passes.proofs.Turns.{Like, turn_keep, turn_less}
use Rattle.chording.proofs.Chording as chording
use Rattle.passes.proofs.Turns as turns

module _ (B : List ℤ) (v : Valued B) (d : Desk) where
  abbrev st : Settings
  st = d.position.settings

  abbrev first : Scan
  first = record { desk = d; any = false; ever = false }

  few : Sits st d → closed_in d.shown < suc (cells_of d)
  few s = let h = closed_most d.shown in omega (arith, s.board)

  -- ---- the rounds suffice ----------------------------------------------------------------------------------------------------------------

  pub chord_enough : Sits st d → (n : ℕ) → cells_of d < n → rounds (chord_round B) chord_more n first ≡ chord_pass B d
  unfolding chord_pass
  chord_enough s n h =
      let k = few s in
      rounds_enough (chord_round B) chord_more chording.size (chording.On st) (round_keep B v st) (round_less B v st) n (suc (cells_of d)) first s (omega arith) k

  -- the last scan opened nothing, or the game is over
  pub chord_ends : Sits st d → chord_more (chord_pass B d) ≡ false
  unfolding chord_pass
  chord_ends s = rounds_over (chord_round B) chord_more chording.size (chording.On st) (round_keep B v st) (round_less B v st) (suc (cells_of d)) first s (few s)

  pub both_enough : Like st (length d.bits) d → (n : ℕ) → cells_of d < n → (rounds (both_round B) found_any n (going d)).desk ≡ both_pass B d
  unfolding both_pass
  both_enough l n h =
      let k = few l.sits in
      ap (λ (r : Round). r.desk)
      (rounds_enough (both_round B) found_any turns.size (turns.On st (length d.bits)) (turn_keep B v st (length d.bits)) (turn_less B v st (length d.bits)) n (suc (cells_of d)) (going d) l (omega arith) k)

  -- in the last turn the chord pass changed nothing, or the game is over
  pub both_ends : Like st (length d.bits) d → found_any (rounds (both_round B) found_any (suc (cells_of d)) (going d)) ≡ false
  both_ends l =
      rounds_over (both_round B) found_any turns.size (turns.On st (length d.bits)) (turn_keep B v st (length d.bits)) (turn_less B v st (length d.bits)) (suc (cells_of d)) (going d) l (few l.sits)

  -- ---- a yes or no for the whole board ---------------------------------------------------------------------------------------------------

  -- no yes, no change
  pub record Quiet (s : Scan) : Type 0 where
    pub spent : Spent (λ x. x.ever) (closed_in d.shown) st d.bits s
    pub none : s.ever ≡ false → s.desk ≡ d

  quiet_fell : (i : ℕ) (s : Scan) → Quiet s → is_playing s.desk.position.game ≡ true → Fell s.desk (perform_chord B i s.desk) → (chord_one B i s).ever ≡ false → (chord_one B i s).desk ≡ d
  quiet_fell i s q e (idle h) n = ap (λ (x : Scan). x.desk) (one_idle B i s h) ∙ q.none (sym (ap (λ (x : Scan). x.ever) (one_idle B i s h)) ∙ n)
  quiet_fell i s q e (fell a c l t b r) n =
      absurd (true≢false (sym (ap (λ (x : Scan). x.ever) (one_plays B i s e ∙ noted_some s (perform_chord B i s.desk) a)) ∙ n))

  quiet_one : (i : ℕ) (s : Scan) → Quiet s → Quiet (chord_one B i s)
  quiet_one i s q = record { spent = spent_one B v (λ x. x.ever) (closed_in d.shown) st d.bits i s q.spent; none = go (is_playing s.desk.position.game) refl }
    where
      go : (b : Bool) → is_playing s.desk.position.game ≡ b → (chord_one B i s).ever ≡ false → (chord_one B i s).desk ≡ d
      go true e = quiet_fell i s q e (chord_fell B v i s.desk (sits_long st s.desk q.spent.sits))
      go false e = λ n. ap (λ (x : Scan). x.desk) (one_over B i s e) ∙ q.none (sym (ap (λ (x : Scan). x.ever) (one_over B i s e)) ∙ n)

  quiet_scan : (n : ℕ) (s : Scan) → Quiet s → Quiet (chord_scan B n s)
  unfolding chord_scan
  quiet_scan zero s q = q
  quiet_scan (suc n) s q = quiet_one n (chord_scan B n s) (quiet_scan n s q)

  quiet_round : (s : Scan) → Quiet s → Quiet (chord_round B s)
  unfolding chord_round
  quiet_round s q =
      quiet_scan (cells_of s.desk) (begun s) (record { spent = record { count = q.spent.count; sits = q.spent.sits; kept = q.spent.kept }; none = q.none })

  pub no_same : Sits st d → (chord_pass B d).ever ≡ false → (chord_pass B d).desk ≡ d
  unfolding chord_pass
  no_same s = (rounds_keep (chord_round B) chord_more Quiet quiet_round (suc (cells_of d)) first (record { spent = record { count = omega arith; sits = s; kept = refl }; none = λ e. refl })).none

  pub yes_differs : Sits st d → (chord_pass B d).ever ≡ true → (chord_pass B d).desk.shown ≡ d.shown → ⊥
  yes_differs s e h =
      let c = (spent_pass B v st d s).count in
      let y : bit (chord_pass B d).ever ≡ 1 = ap bit e in
      let k : closed_in (chord_pass B d).desk.shown ≡ closed_in d.shown = ap closed_in h in
      omega arith
