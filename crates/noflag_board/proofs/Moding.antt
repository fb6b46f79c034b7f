-- 25 in its place: a chain of the class is the board's, but for the mode. And what a forbidden event is refused with. Assumes nothing.
use Rattle.std.specs.Prelude.{Option, Some, None}
use mathlib.Core.Path.{◌≡◌, refl, sym, ap, ap₂, ◌∙◌, subst⁻¹}
use mathlib.Core.Bool.{Bool, true, false, ◌&&◌, true≢false}
use mathlib.Core.List.{List}
use Prim.Native.Nat.{ℕ, ◌<◌, ◌≤◌}
use native.Mathlib.Omega.{arith}
use borrow.Author.Tests.{eqb-true, eq-eqb, ne_eqb, lt-ltb, le-ltb}
use lib.Dec.{eqb, leb, ltb}
use lib.IntN.{ℤ}
use Rattle.rules.specs.declared.Settings.{Settings}
use Rattle.rules.specs.declared.Position.{Position}
use Rattle.rules.specs.declared.Pointer.{Pointer}
use Rattle.rules.specs.declared.Answer.{Answer}
use Rattle.rules.specs.Words.{pick, unless}
use Rattle.rules.specs.States.{fresh_of}
use Rattle.rules.specs.Grid.{size_ok}
use Rattle.rules.specs.Board.{values_ok, numbers_ok, some_safe, board_refusal}
use Rattle.rules.specs.Clicks.{Desk}
use Rattle.rules.specs.Mouse.{rules_ok}
use Rattle.rules.specs.Lawful.{shown_lawful, bits_lawful, counts_lawful, states_lawful, lawful_refusal}
use Rattle.rules.specs.Calls.{refuses, set_up, setup_by, boards_fit, work_fits, mode_ok, settings_refusal, position_refusal, lent_refusal, setup_refusal}
use Rattle.cells.proofs.Words.{pick_both}
use Rattle.boards.specs.Faults.{Placeable}
use Rattle.rules.specs.Noflag.{class_settings_refusal, class_setup_refusal, class_setup_of, class_lent_refusal}
use Rattle.noflag.specs.Class.{forbids}
use Rattle.noflag_board.specs.Parts.{moded, other_moded}

-- ---- which numbers come before 25 --------------------------------------------------------------------------------------------------------

-- 0, or 20 to 24
data Early (n : ℕ) : Type 0 where
  silent : n ≡ 0 → Early n
  early : (leb 20 n && leb n 24) ≡ true → Early n

-- not 20 to 24
abbrev Late : ℕ → Type 0
Late n = (leb 20 n && leb n 24) ≡ false

unless_early : (k : ℕ) (b : Bool) (rest : ℕ) → (leb 20 k && leb k 24) ≡ true → Early rest → Early (unless k b rest)
unless_early k true rest h r = r
unless_early k false rest h r = early h

unless_late : (k : ℕ) (b : Bool) (rest : ℕ) → Late k → Late rest → Late (unless k b rest)
unless_late k true rest h r = r
unless_late k false rest h r = h

board_early : (R C : ℕ) (fit : Bool) (B : List ℤ) → Early (board_refusal R C fit B)
unfolding board_refusal
board_early R C fit B =
    unless_early 20 (size_ok R C) _ refl
    (unless_early 21 fit _ refl
    (unless_early 22 (values_ok B) _ refl
    (unless_early 23 (numbers_ok B R C) _ refl
    (unless_early 24 (some_safe B) 0 refl (silent refl)))))

lawful_late : (B : List ℤ) (d : Desk) → Late (lawful_refusal B d)
unfolding lawful_refusal
lawful_late B d =
    unless_late 261 (shown_lawful B d) _ refl
    (unless_late 262 (bits_lawful B d) _ refl
    (unless_late 263 (counts_lawful B d) _ refl
    (unless_late 264 (states_lawful B d) 0 refl refl)))

-- ---- the chains --------------------------------------------------------------------------------------------------------------------------

-- mode 0 is one of the board's
pub zero_ok : (mode : ℕ) → eqb mode 0 ≡ true → mode_ok mode ≡ true
unfolding mode_ok
zero_ok mode e = ap mode_ok (eqb-true mode 0 e)

-- n is the board's refusal, z whether there is none, m whether the mode is 0, ok whether it is one of the board's
moded_by : (n rest : ℕ) (z m ok : Bool) → eqb n 0 ≡ z → Early n → Late rest → (m ≡ true → ok ≡ true)
    → pick z (unless 25 m rest) n
    ≡ pick m (pick z (unless 25 ok rest) n) (pick (leb 20 (pick z (unless 25 ok rest) n) && leb (pick z (unless 25 ok rest) n) 24) (pick z (unless 25 ok rest) n) 25)
moded_by n rest true true ok e i late f = sym (ap (λ (t : Bool). unless 25 t rest) (f refl))
moded_by n rest true false true e i late f = sym (ap (λ (t : Bool). pick t rest 25) late)
moded_by n rest true false false e i late f = refl
moded_by n rest false true ok e i late f = refl
moded_by n rest false false ok e (early h) late f = sym (ap (λ (t : Bool). pick t n 25) h)
moded_by n rest false false ok e (silent z) late f = absurd (true≢false (sym (eq-eqb n 0 z) ∙ e))

settings_moded : (s : Settings) (fit : Bool) (B : List ℤ) (rest : ℕ) → Late rest
    → class_settings_refusal s fit B rest ≡ moded s.mode (settings_refusal s fit B rest)
unfolding class_settings_refusal settings_refusal
settings_moded s fit B rest late =
    let n : ℕ = board_refusal s.rows s.columns fit B in
    moded_by n rest (eqb n 0) (eqb s.mode 0) (mode_ok s.mode) refl (board_early s.rows s.columns fit B) late (zero_ok s.mode)

pub setup_moded : (s : Settings) (B : List ℤ) (shown bits : List ℕ) → class_setup_refusal s B shown bits ≡ moded s.mode (setup_refusal s B shown bits)
unfolding class_setup_refusal setup_refusal
setup_moded s B shown bits =
    settings_moded s (boards_fit s B shown bits) B (unless 45 (rules_ok s.rules) 0) (unless_late 45 (rules_ok s.rules) 0 refl refl)

pub lent_moded : (B : List ℤ) (d : Desk) (work : List ℕ) → class_lent_refusal B d work ≡ moded d.position.settings.mode (lent_refusal B d work)
unfolding class_lent_refusal lent_refusal position_refusal
lent_moded B d work =
    settings_moded d.position.settings
    (boards_fit d.position.settings B d.shown d.bits && work_fits d.position.settings work) B (lawful_refusal B d) (lawful_late B d)

-- ---- its cell ----------------------------------------------------------------------------------------------------------------------------

-- 25 has no place, so the search finds what it asks where it did
pub other_placeable : (R C : ℕ) (B : List ℤ) (n k : ℕ) → k ≡ other_moded n → Placeable R C B n → Placeable R C B k
other_placeable R C B n k e h = subst⁻¹ (Placeable R C B) e (pick_both (Placeable R C B) (leb 20 n && leb n 24) n 25 (λ _. h) (λ _. none))
  where
    none : Placeable R C B 25
    none = record { sized = λ (q : ◌≡◌ {A = ℕ} 25 22). absurd (omega arith); valued = λ (q : ◌≡◌ {A = ℕ} 25 23). absurd (omega arith) }

pub moded_placeable : (R C : ℕ) (B : List ℤ) (mode n k : ℕ) → k ≡ moded mode n → Placeable R C B n → Placeable R C B k
moded_placeable R C B mode n k e h =
    subst⁻¹ (Placeable R C B) e
    (pick_both (Placeable R C B) (eqb mode 0) n _ (λ _. h) (λ _. other_placeable R C B n (other_moded n) refl h))

-- ---- setup in another mode -----------------------------------------------------------------------------------------------------------------

-- n is then a refusal
moded_refuses : (mode n : ℕ) → (mode ≡ 0 → ⊥) → moded mode n ≡ 0 → ⊥
moded_refuses mode n m = go (eqb mode 0) (leb 20 n && leb n 24) (ne_eqb mode 0 m) refl
  where
    go : (t u : Bool) → t ≡ false → (leb 20 n && leb n 24) ≡ u → pick t n (pick u n 25) ≡ 0 → ⊥
    go true u e f z = true≢false e
    go false true e f z = true≢false (sym f ∙ ap (λ (x : ℕ). leb 20 x && leb x 24) z)
    go false false e f z = omega arith

pub setup_other : (s : Settings) (B : List ℤ) (shown bits : List ℕ) (found n : ℕ) (p : Position) (r : Answer) → (s.mode ≡ 0 → ⊥)
    → found ≡ setup_refusal s B shown bits → n ≡ moded s.mode found → p ≡ fresh_of s 0 → r ≡ refuses B p n
    → set_up r shown bits ≡ class_setup_of s B shown bits
unfolding class_setup_of setup_by
setup_other s B shown bits found n p r m ef en ep er =
    let k : n ≡ class_setup_refusal s B shown bits = en ∙ (ap (moded s.mode) ef ∙ sym (setup_moded s B shown bits)) in
    let z : class_setup_refusal s B shown bits ≡ 0 → ⊥ = λ q. moded_refuses s.mode found m (sym en ∙ (k ∙ q)) in
    ap (λ (a : Answer). set_up a shown bits) (er ∙ ap₂ (λ (q : Position) (m : ℕ). refuses B q m) ep k)
    ∙ simp (ne_eqb (class_setup_refusal s B shown bits) 0 z)

-- ---- a forbidden event -------------------------------------------------------------------------------------------------------------------

module _ (w w' : Option Pointer) (e : w' ≡ w) where
  pub forbids_off : (few : Bool) → w' ≡ None → 30 ≡ forbids few w
  forbids_off few b = sym (ap (forbids few) (sym e ∙ b))

  module _ (n : ℕ) (x : Pointer) (a : w' ≡ Some x) where
    pub forbids_full : 65535 ≤ n → 31 ≡ forbids (ltb n 65535) w
    forbids_full h = sym (ap (forbids (ltb n 65535)) (sym e ∙ a) ∙ ap (λ (t : Bool). unless 31 t 34) (le-ltb n 65535 h))

    pub forbids_barred : n < 65535 → 34 ≡ forbids (ltb n 65535) w
    forbids_barred h = sym (ap (forbids (ltb n 65535)) (sym e ∙ a) ∙ ap (λ (t : Bool). unless 31 t 34) (lt-ltb n 65535 h))
