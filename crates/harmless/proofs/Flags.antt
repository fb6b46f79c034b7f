-- The flag pass flags only mines: what a scan lists are the closed neighbours of ripe numbers, and one scan is all.
use mathlib.Core.Path.{◌≡◌, ◌∙◌, ap, refl, subst⁻¹}
use mathlib.Core.Bool.{Bool, true, false}
use mathlib.Core.List.{List, [], ◌∷◌}
use mathlib.Core.Logic.{inl, inr}
use Prim.Native.Nat.{ℕ, zero, suc}
use native.Mathlib.Decide.{ℕ_discrete}
use borrow.Author.Tests.{eqb-true}
use lib.IntN.{ℤ}
use lib.ListN.{get_or, set}
use lib.Seq.{get_or-set_same, get_or-set_other}
use Rattle.rules.specs.declared.Settings.{Settings}
use Rattle.rules.specs.Words.{pick}
use Rattle.rules.specs.Grid.{pushed}
use Rattle.rules.specs.Board.{mine_at}
use Rattle.rules.specs.Opening.{closed_at}
use Rattle.rules.specs.Clicks.{Desk, cells_of}
use Rattle.rules.specs.Passes.{ripe_at, listed, flag_one, flag_all, flag_pass}
use Rattle.cells.specs.Ground.{Valued}
use Rattle.cells.proofs.Words.{pick_both}
use Rattle.opening.specs.Changed.{In}
use Rattle.opening.proofs.Cases.{closed_in}
use Rattle.opening.proofs.Lists.{all_pushed}
use Rattle.flagging.proofs.OneScan.{found, flag_pass_once}
use Rattle.harmless.specs.Harmless.{NoQuestions, Spared, stays, flags, AllSpared}
use Rattle.harmless.proofs.Spared.{spared_on}
use Rattle.harmless.proofs.Numbers.{Honest, ripe_mines}

-- ---- what is listed ----------------------------------------------------------------------------------------------------------------------

module _ {B : List ℤ} {s : Settings} {l : List ℕ} (t : Honest B s l) (q : (i : ℕ) → get_or l i 0 ≡ 17 → ⊥) where
  -- a scan lists only mines
  listed_mines : (m x : ℕ) → In x (listed s.rows s.columns l m) → mine_at B x ≡ true
  unfolding listed
  listed_mines zero x i = absurd i
  listed_mines (suc m) x i = go (ripe_at s.rows s.columns l m) refl (listed_mines m) x i
    where
      go : (u : Bool) → ripe_at s.rows s.columns l m ≡ u → ((y : ℕ) → In y (listed s.rows s.columns l m) → mine_at B y ≡ true) → (y : ℕ)
          → In y (pick u (pushed s.rows s.columns (closed_at l) m 8 (listed s.rows s.columns l m)) (listed s.rows s.columns l m)) → mine_at B y ≡ true
      go true e rec = all_pushed s.rows s.columns (closed_at l) m 8 (listed s.rows s.columns l m) (λ y. mine_at B y ≡ true) (ripe_mines t q m e) rec
      go false e rec = rec

-- ---- what is flagged ---------------------------------------------------------------------------------------------------------------------

module _ (B : List ℤ) where
  -- a flag on a mine
  pub flag_spares : (c : ℕ) (s : List ℕ) → mine_at B c ≡ true → closed_at s c ≡ true → AllSpared B s (set s c 11)
  flag_spares c s m e i = go (ℕ_discrete i c)
    where
      go : Dec (i ≡ c) → Spared B i (get_or s i 0) (get_or (set s c 11) i 0)
      go (yes p) =
          subst⁻¹ (λ (j : ℕ). Spared B j (get_or s j 0) (get_or (set s c 11) j 0)) p (flags (eqb-true (get_or s c 0) 10 e) (get_or-set_same s c 11 0 (closed_in s c e)) m)
      go (no p) = stays (get_or-set_other s c i 11 0 p)

  flag_one_spares : (c : ℕ) (d : Desk) → mine_at B c ≡ true → AllSpared B d.shown (flag_one B c d).shown
  unfolding flag_one
  flag_one_spares c d m =
      pick_both (λ (e : Desk). AllSpared B d.shown e.shown) (closed_at d.shown c) _ d (flag_spares c d.shown m) (λ _ i. stays refl)

  -- flags on the mines of a list
  flag_all_spares : Valued B → (st : List ℕ) (d : Desk) → ((x : ℕ) → In x st → mine_at B x ≡ true) → AllSpared B d.shown (flag_all B st d).shown
  unfolding flag_all
  flag_all_spares v [] d m i = stays refl
  flag_all_spares v (x ∷ st) d m i = spared_on v (flag_all_spares v st d (λ y e. m y (inr e)) i) (flag_one_spares x (flag_all B st d) (m x (inl refl)) i)

-- THE flag pass flags only mines, wherever the flags stand
pub flag_pass_spares : (B : List ℤ) (d : Desk) → Honest B d.position.settings d.shown → NoQuestions d → AllSpared B d.shown (flag_pass B d).shown
flag_pass_spares B d t q =
    subst⁻¹ (λ (e : Desk). AllSpared B d.shown e.shown) (flag_pass_once B d)
    (flag_all_spares B t.valued (found B d) d (listed_mines t q (cells_of d)))
