-- From its fresh start in mode 0 every play of the class leaves a clean desk. Assumes nothing.
use mathlib.Core.Path.{◌≡◌, refl, ◌∙◌}
use mathlib.Core.Bool.{Bool, true, false}
use mathlib.Core.List.{List, [], ◌∷◌}
use mathlib.Core.Logic.{◌⊎◌, inl, inr}
use Prim.Native.Nat.{ℕ, ◌*◌, ◌<◌}
use native.Mathlib.Omega.{arith}
use borrow.Author.Tests.{ltb-true, ltb-false}
use lib.Dec.{ltb}
use lib.ListN.{get_or, replicate, length-replicate, get_or-replicate, get_or-eq_default}
use lib.IntN.{ℤ}
use Rattle.rules.specs.declared.Settings.{Settings}
use Rattle.rules.specs.States.{fresh_of}
use Rattle.rules.specs.Board.{safe_in, board_check}
use Rattle.rules.specs.Lent.{bit_bytes}
use Rattle.rules.specs.Clicks.{Desk, desk}
use Rattle.rules.specs.Calls.{cells_in, fresh_desk}
use Rattle.cells.specs.Ground.{Valued}
use Rattle.bits.proofs.Bits.{bit_none}
use Rattle.secrecy.specs.Demand.{last_desk}
use Rattle.secrecy.proofs.Rows.{checked}
use Rattle.rules.specs.Noflag.{class_step_on}
use Rattle.noflag.specs.Class.{class_on, class_end, Clean, AllClean, ClassClean}
use Rattle.noflag.proofs.Same.{class_either}
use Rattle.noflag.proofs.Bare.{Spotless}
use Rattle.noflag.proofs.Opens.{spotless_clean}
use Rattle.noflag.proofs.Events.{step_spotless}

-- ---- the step and the game ---------------------------------------------------------------------------------------------------------------

module _ (B : List ℤ) (v : Valued B) where
  pub class_spotless : (code r c : ℕ) (d : Desk) → Spotless d → Spotless (class_step_on B code r c d).desk
  class_spotless code r c d h = class_either Spotless B code r c d h (λ e. step_spotless B v code r c d e h)

  plays_clean : (es : List ℕ) (d : Desk) → Spotless d → AllClean (class_on B es d)
  unfolding class_on
  plays_clean [] d h = tt
  plays_clean (code ∷ []) d h = tt
  plays_clean (code ∷ r ∷ []) d h = tt
  plays_clean (code ∷ r ∷ c ∷ es) d h =
      let k = class_spotless code r c d h in
      (spotless_clean (class_step_on B code r c d).desk k, plays_clean es (class_step_on B code r c d).desk k)

  end_spotless : (es : List ℕ) (d : Desk) → Spotless d → Spotless (last_desk d (class_on B es d))
  unfolding class_on last_desk
  end_spotless [] d h = h
  end_spotless (code ∷ []) d h = h
  end_spotless (code ∷ r ∷ []) d h = h
  end_spotless (code ∷ r ∷ c ∷ es) d h = end_spotless es (class_step_on B code r c d).desk (class_spotless code r c d h)

-- ---- the fresh start ---------------------------------------------------------------------------------------------------------------------

-- every cell of the board shows 10, and off the board reads 0
fresh_at : (n i : ℕ) → ((i < n) × (get_or (replicate {A = ℕ} n 10) i 0 ≡ 10)) ⊎ (get_or (replicate {A = ℕ} n 10) i 0 ≡ 0)
fresh_at n i = go (ltb i n) refl
  where
    go : (b : Bool) → ltb i n ≡ b → ((i < n) × (get_or (replicate {A = ℕ} n 10) i 0 ≡ 10)) ⊎ (get_or (replicate {A = ℕ} n 10) i 0 ≡ 0)
    go true e = inl (ltb-true i n e, get_or-replicate {A = ℕ} n i 10 0 (ltb-true i n e))
    go false e = inr (get_or-eq_default {A = ℕ} (replicate n 10) 0 {n = i} (let l = length-replicate {A = ℕ} n 10 in let u = ltb-false i n e in omega arith))

fresh_not : (n i w : ℕ) → 10 < w → get_or (replicate {A = ℕ} n 10) i 0 ≡ w → ⊥
fresh_not n i w l e = go (fresh_at n i)
  where
    go : ((i < n) × (get_or (replicate {A = ℕ} n 10) i 0 ≡ 10)) ⊎ (get_or (replicate {A = ℕ} n 10) i 0 ≡ 0) → ⊥
    go (inl p) = let q = p.1 in omega arith
    go (inr q) = omega arith

fresh_spotless : (s : Settings) (u n m : ℕ) → n ≡ s.rows * s.columns → s.mode ≡ 0 → Spotless (desk (fresh_of s u) (replicate n 10) (replicate m 0))
fresh_spotless s u n m l z = (
  record {
    mode = z;
    long = length-replicate {A = ℕ} n 10 ∙ l;
    flooded = λ i lt q k h t.
        let e = get_or-replicate {A = ℕ} n i 10 0 (let a = length-replicate {A = ℕ} n 10 in omega arith) in
        omega arith;
    no_flag = λ i. fresh_not n i 11 (omega arith);
    no_wrong = λ i. fresh_not n i 14 (omega arith);
    no_question = λ i. fresh_not n i 17 (omega arith);
    no_bit = bit_none m;
    flag = refl;
    right = refl;
    dce = refl;
    rce = refl;
    chord = refl;
    pre = refl;
  },
  inl refl,
)

-- the class's fresh start
pub start_spotless : (s : Settings) (B : List ℤ) → s.mode ≡ 0 → Spotless (fresh_desk s B)
start_spotless s B m = fresh_spotless s (safe_in B) (cells_in s) (bit_bytes (cells_in s)) refl m

pub end_clean : (s : Settings) (B : List ℤ) (events : List ℕ) → board_check s.rows s.columns B ≡ 0 → s.mode ≡ 0 → Clean (class_end s events B)
end_clean s B events e m =
    spotless_clean (class_end s events B) (end_spotless B (checked s.rows s.columns B e).1 events (fresh_desk s B) (start_spotless s B m))

-- THEOREM: class-clean
pub class_clean : ClassClean
class_clean s B events e m =
    (plays_clean B (checked s.rows s.columns B e).1 events (fresh_desk s B) (start_spotless s B m), end_clean s B events e m)
