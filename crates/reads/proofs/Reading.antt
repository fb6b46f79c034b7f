-- What a call is made on where a byte means nothing: a NotFlag mouse state without a right click is 264, and all that is
-- tested before it stays as it was.
use mathlib.Core.Path.{◌≡◌, refl, ap, sym, ◌∙◌, subst⁻¹}
use mathlib.Core.Bool.{Bool, true, false, ◌&&◌}
use mathlib.Core.List.{List}
use Prim.Native.Nat.{ℕ}
use native.Mathlib.Omega.{arith}
use borrow.Author.Tests.{le-leb}
use lib.Dec.{leb, eqb}
use lib.IntN.{ℤ}
use Rattle.rules.specs.declared.Settings.{Settings}
use Rattle.rules.specs.declared.Position.{Position}
use Rattle.rules.specs.declared.MouseState.TheVariants.{UpDownNotFlag}
use Rattle.rules.specs.Words.{pick, unless}
use Rattle.rules.specs.States.{with_mouse, with_right}
use Rattle.rules.specs.Board.{board_refusal}
use Rattle.rules.specs.Clicks.{desk}
use Rattle.rules.specs.Mouse.{rules_ok}
use Rattle.rules.specs.Lawful.{shown_lawful, bits_lawful, counts_lawful, game_lawful, states_lawful, lawful_refusal}
use Rattle.rules.specs.Calls.{mode_ok, settings_refusal, position_refusal}
use Rattle.cells.proofs.Words.{and_left, and_right}
use Rattle.flats.specs.Flat.{unclear}
use Rattle.reads.specs.Reading.{Spoils}

-- ---- 264 and nothing before it ---------------------------------------------------------------------------------------------------------

and_no : (a : Bool) → (a && false) ≡ false
and_no true = refl
and_no false = refl

-- the count that is left of n
abbrev left_of : ℕ → ℕ → ℕ
left_of n events = pick (leb n events) 0 n

within_same : (n e : ℕ) → leb (left_of n e) e ≡ leb n e
within_same n e = go (leb n e) refl
  where
    go : (b : Bool) → leb n e ≡ b → leb (pick b 0 n) e ≡ b
    go true h = le-leb 0 e (omega arith)
    go false h = h

chain : (a b c s t : Bool) → (c ≡ true → t ≡ false)
    → unless 261 a (unless 262 b (unless 263 c (unless 264 t 0))) ≡ unclear (unless 261 a (unless 262 b (unless 263 c (unless 264 s 0))))
chain false b c s t h = refl
chain true false c s t h = refl
chain true true false s t h = refl
chain true true true true t h = ap (λ (u : Bool). unless 264 u 0) (h refl)
chain true true true false t h = ap (λ (u : Bool). unless 264 u 0) (h refl)

settings_first : (s : Settings) (fit : Bool) (B : List ℤ) (rest : ℕ) → settings_refusal s fit B (unclear rest) ≡ unclear (settings_refusal s fit B rest)
unfolding settings_refusal
settings_first s fit B rest = by (board_refusal s.rows s.columns fit B) (eqb (board_refusal s.rows s.columns fit B) 0) refl
  where
    moded : (m : Bool) → unless 25 m (unclear rest) ≡ unclear (unless 25 m rest)
    moded true = refl
    moded false = refl

    by : (n : ℕ) (b : Bool) → eqb n 0 ≡ b → pick b (unless 25 (mode_ok s.mode) (unclear rest)) n ≡ unclear (pick b (unless 25 (mode_ok s.mode) rest) n)
    by n true e = moded (mode_ok s.mode)
    by n false e = ap (λ (b : Bool). pick b 264 n) (sym e)

module _ (p : Position) where
  abbrev spoiled : Position
  spoiled = with_right (with_mouse p UpDownNotFlag) (left_of p.counts.right p.events)

  module _ (B : List ℤ) (shown bits : List ℕ) where
    shown_same : shown_lawful B (desk spoiled shown bits) ≡ shown_lawful B (desk p shown bits)
    unfolding shown_lawful
    shown_same = refl

    bits_same : bits_lawful B (desk spoiled shown bits) ≡ bits_lawful B (desk p shown bits)
    unfolding bits_lawful
    bits_same = refl

    counts_same : counts_lawful B (desk spoiled shown bits) ≡ counts_lawful B (desk p shown bits)
    unfolding counts_lawful
    counts_same = simp within_same

    right_allowed : counts_lawful B (desk p shown bits) ≡ true → leb p.counts.right p.events ≡ true
    unfolding counts_lawful
    right_allowed e = and_left (leb p.counts.right p.events) _ (and_right (leb p.counts.left p.events) _ (and_right (eqb p.counts.unopened _) _ (and_right (eqb p.counts.flag _) _ e)))

    states_fail : counts_lawful B (desk spoiled shown bits) ≡ true → states_lawful B (desk spoiled shown bits) ≡ false
    unfolding states_lawful
    states_fail e =
        ap (λ (b : Bool). game_lawful p.game B (desk spoiled shown bits) && (leb 1 (pick b 0 p.counts.right) && rules_ok p.settings.rules)) (right_allowed (sym counts_same ∙ e))
        ∙ and_no (game_lawful p.game B (desk spoiled shown bits))

    lawful_spoiled : lawful_refusal B (desk spoiled shown bits) ≡ unclear (lawful_refusal B (desk p shown bits))
    unfolding lawful_refusal
    lawful_spoiled =
        chain (shown_lawful B (desk spoiled shown bits)) (bits_lawful B (desk spoiled shown bits)) (counts_lawful B (desk spoiled shown bits)) (states_lawful B (desk p shown bits)) (states_lawful B (desk spoiled shown bits)) states_fail
        ∙ simp (shown_same, bits_same, counts_same)

    refused_spoiled : (fit : Bool) → position_refusal fit B (desk spoiled shown bits) ≡ unclear (position_refusal fit B (desk p shown bits))
    unfolding position_refusal
    refused_spoiled fit = ap (settings_refusal p.settings fit B) lawful_spoiled ∙ settings_first p.settings fit B (lawful_refusal B (desk p shown bits))

  pub spoils : (q r : Position) (n : ℕ) → q ≡ with_mouse p UpDownNotFlag → n ≡ left_of p.counts.right p.events → r ≡ with_right q n → Spoils p r
  spoils q r n eq en er =
      subst⁻¹ (Spoils p)
      (er ∙ ap (λ (x : Position). with_right x n) eq ∙ ap (with_right (with_mouse p UpDownNotFlag)) en)
      (record { settings = refl; refused = λ fit B shown bits. refused_spoiled B shown bits fit })
