-- The ways through a chord: it runs or changes nothing; from what the called functions ensure to the definition.
use mathlib.Core.Path.{◌≡◌, refl, ap, ◌∙◌, sym}
use mathlib.Core.Bool.{Bool, true, false}
use mathlib.Core.List.{List, []}
use Prim.Native.Nat.{ℕ, ◌+◌, ◌*◌, ◌≤◌}
use native.Mathlib.Omega.{arith}
use lib.ListN.{length}
use lib.IntN.{ℤ}
use Rattle.rules.specs.declared.Position.{Position}
use Rattle.rules.specs.declared.Played.{Played}
use Rattle.rules.specs.States.{with_solved_chord}
use Rattle.rules.specs.Clicks.{Desk, desk, done, rows_of, columns_of, chord_is_useful, closed_around, chord_opens, perform_chord, chord_counts}
use Rattle.cells.specs.Promises.{LaidAt, Leaves, Acts}
use Rattle.cells.specs.Stack.{stacked}
use Rattle.clicks.specs.Parts.{opens_with, Adds}
use Rattle.chords.specs.Collected.{Collected}
use Rattle.rules.specs.Judging.{openings_judged, lones}
use Rattle.cells.specs.Ground.{Below}
use Rattle.cells.proofs.Words.{stack_length}
use Rattle.judging.proofs.Judging.{judged_length}

-- at most eight openings are judged
pub judged_few : (B : List ℤ) (R C : ℕ) (shown : List ℕ) (cells : List ℕ) (r : ℕ) → length cells ≤ 8 → r ≡ openings_judged B R C shown (stacked cells) → r ≤ 8
judged_few B R C shown cells r few e = let l = judged_length B R C shown (stacked cells) in omega (arith, stack_length cells (length cells))

-- a chord runs, or it changes nothing
module _ (B : List ℤ) (i : ℕ) (d : Desk) where
  pub chord_idle : chord_is_useful (rows_of d) (columns_of d) d.shown i ≡ false → perform_chord B i d ≡ done 0 d
  unfolding perform_chord
  chord_idle e = simp e

  pub chord_runs : chord_is_useful (rows_of d) (columns_of d) d.shown i ≡ true
      → perform_chord B i d ≡ chord_opens B (closed_around (rows_of d) (columns_of d) d.shown i) d
  unfolding perform_chord
  chord_runs e = simp e

module _ (B : List ℤ) (p : Position) (shown work : List ℕ) (cells : List ℕ) where
  pub chord_added : (lone judged : ℕ) (r : Position) (work' : List ℕ) → lone ≡ lones B p.settings.rows p.settings.columns cells
      → Leaves judged (openings_judged B p.settings.rows p.settings.columns shown cells) work work'
      → r ≡ with_solved_chord p (p.secrets.solved_chord + lone + judged) → Adds (chord_counts B cells) p shown work r work'
  chord_added lone judged r work' l j e = λ bits. record { outcome = simp (e, l, j.outcome); same = j.same }

module _ (B : List ℤ) (p : Position) (shown work : List ℕ) (i : ℕ) (u : Bool) (test : u ≡ chord_is_useful p.settings.rows p.settings.columns shown i) where
  pub chord_none : u ≡ false → Acts (perform_chord B i) p shown work (record { answer = 0; position = p }) shown work
  chord_none e = λ bits. record { outcome = sym (chord_idle B i (desk p shown bits) (sym test ∙ e)); same = refl }

  module _ (cells : List ℕ) (k : Collected (closed_around p.settings.rows p.settings.columns shown i) 8 cells) (q : Position) (work' : List ℕ)
      (a : Adds (chord_counts B (stacked cells)) p shown work q work') where
    counts_settings : q.settings ≡ p.settings
    counts_settings = ap (λ (d : Desk). d.position.settings) (a []).outcome

    pub chord_laid : LaidAt B p shown work → LaidAt B q shown work'
    chord_laid l = rw (counts_settings, (a []).same) l

    pub chord_below : Below (p.settings.rows * p.settings.columns) cells → Below (q.settings.rows * q.settings.columns) cells
    chord_below b = rw counts_settings b

    pub chord_done : u ≡ true → (r : Played) (shown' work'' : List ℕ)
        → Acts (opens_with B 3 (stacked cells)) q shown work' r shown' work'' → Acts (perform_chord B i) p shown work r shown' work''
    unfolding chord_opens
    chord_done e r shown' work'' o = λ bits. record { outcome = (o bits).outcome ∙ way bits; same = (o bits).same ∙ (a bits).same }
      where
        start : (st : List ℕ) (bits : List ℕ) → opens_with B 3 st (chord_counts B st (desk p shown bits)) ≡ chord_opens B st (desk p shown bits)
        start st bits = refl

        way : (bits : List ℕ) → opens_with B 3 (stacked cells) (desk q shown bits) ≡ perform_chord B i (desk p shown bits)
        way bits =
            ap (opens_with B 3 (stacked cells)) (a bits).outcome
            ∙ start (stacked cells) bits
            ∙ ap (λ (st : List ℕ). chord_opens B st (desk p shown bits)) k.stack
            ∙ sym (chord_runs B i (desk p shown bits) (sym test ∙ e))
