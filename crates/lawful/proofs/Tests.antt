-- One equation for each way through the tests, and the counts of two kinds of cells together.
use mathlib.Core.Path.{◌≡◌, refl, ap, ap₂, sym, ◌∙◌}
use mathlib.Core.Bool.{Bool, true, false, not, ◌&&◌, ◌||◌}
use mathlib.Core.List.{List}
use Prim.Native.Nat.{ℕ, zero, suc, ◌+◌, ◌-◌, ◌<◌, ◌≤◌}
use native.Mathlib.Omega.{arith}
use borrow.Author.Tests.{eqb-true, leb-true, lt-leb, ne_eqb, le-leb, not-true, not-false}
use lib.Dec.{leb, eqb}
use lib.ListN.{length, get_or, get_or-eq_default}
use lib.IntN.{ℤ, pos}
use Rattle.rules.specs.declared.Position.{Position}
use Rattle.rules.specs.Words.{pick, bit, count, every}
use Rattle.rules.specs.Board.{face_at, mine_at, safe_in}
use Rattle.rules.specs.Lent.{bit_at}
use Rattle.rules.specs.Clicks.{Desk, desk}
use Rattle.rules.specs.Lawful.{unopened_in, shows, is_flag, is_open_or_hit, cell_lawful, shown_lawful, bits_lawful, counts_lawful, states_lawful, lawful_refusal}
use Rattle.rules.specs.States.{is_loss}
use Rattle.rules.specs.Opening.{count_shown, is_open}
use Rattle.cells.proofs.Words.{and_left, and_right, every_at}
use Rattle.keep.proofs.Unopened.{OpenSafe, open_safe, unopened_open}
use Rattle.lawful.specs.declared.Census.{Census}
use Rattle.lawful.specs.Parts.{Counted, cells_lawful, bit_lawful}

-- ---- what a cell may show --------------------------------------------------------------------------------------------------------------

module _ (question loss : Bool) (f x : ℕ) where
  pub shows_open : x ≤ 8 → eqb x f ≡ cell_lawful question loss f x
  unfolding cell_lawful
  shows_open h = simp (le-leb x 8 h)

  pub shows_10 : (x ≡ 10) → true ≡ cell_lawful question loss f x
  unfolding cell_lawful
  shows_10 e = simp e

  pub shows_11 : (x ≡ 11) → true ≡ cell_lawful question loss f x
  unfolding cell_lawful
  shows_11 e = simp e

  pub shows_17 : (x ≡ 17) → question ≡ cell_lawful question loss f x
  unfolding cell_lawful
  shows_17 e = simp e

  pub shows_14 : (x ≡ 14) → (loss && not (eqb f 15)) ≡ cell_lawful question loss f x
  unfolding cell_lawful
  shows_14 e = simp e

  pick_and : (a b : Bool) → (a && b) ≡ pick a b false
  pick_and true b = refl
  pick_and false b = refl

  -- any other value but 15 is none
  pub shows_other : 8 < x → (x ≡ 10 → ⊥) → (x ≡ 11 → ⊥) → (x ≡ 17 → ⊥) → (x ≡ 14 → ⊥) → (eqb x 15 && (loss && eqb f 15)) ≡ cell_lawful question loss f x
  unfolding cell_lawful
  shows_other h a b c d = pick_and (eqb x 15) (loss && eqb f 15) ∙ simp (lt-leb x 8 h, ne_eqb x 10 a, ne_eqb x 11 b, ne_eqb x 17 c, ne_eqb x 14 d)

-- ---- what a bit may be -----------------------------------------------------------------------------------------------------------------

module _ (B : List ℤ) (bits : List ℕ) (n : ℕ) where
  pub bit_clear : (t : Bool) → t ≡ bit_at bits n → t ≡ false → true ≡ bit_lawful B bits n
  unfolding bit_lawful
  bit_clear t e h = simp (sym e ∙ h)

  -- past the board there is no mine
  pub bit_spare : (t : Bool) → t ≡ bit_at bits n → t ≡ true → length B ≤ n → false ≡ bit_lawful B bits n
  unfolding bit_lawful
  bit_spare t e h l = simp (sym e ∙ h, get_or-eq_default B (pos 0) l)

  pub bit_mine : (t : Bool) (f : ℕ) → t ≡ bit_at bits n → t ≡ true → f ≡ face_at B n → eqb f 15 ≡ bit_lawful B bits n
  unfolding bit_lawful
  bit_mine t f e h d = ap (λ (x : ℕ). eqb x 15) d ∙ simp (sym e ∙ h)

-- ---- the counts ------------------------------------------------------------------------------------------------------------------------

-- a test that holds where one of two holds, and never both, counts what both count
count_both : (f g h : ℕ → Bool) (n : ℕ) → ((i : ℕ) → bit (h i) ≡ bit (f i) + bit (g i)) → count f n + count g n ≡ count h n
unfolding count
count_both f g h zero e = refl
count_both f g h (suc n) e = let a = count_both f g h n e in let b = e n in omega arith

flag_is : (x : ℕ) → bit (is_flag x) ≡ bit (shows 11 x) + bit (shows 14 x)
flag_is x = go (eqb x 11) refl
  where
    go : (b : Bool) → eqb x 11 ≡ b → bit (b || eqb x 14) ≡ bit b + bit (eqb x 14)
    go true e = let d : bit (eqb x 14) ≡ 0 = ap (λ (y : ℕ). bit (eqb y 14)) (eqb-true x 11 e) in omega arith
    go false e = omega arith

open_is : (x : ℕ) → bit (is_open_or_hit x) ≡ bit (is_open x) + bit (shows 15 x)
open_is x = go (leb x 8) refl
  where
    go : (b : Bool) → leb x 8 ≡ b → bit (b || eqb x 15) ≡ bit b + bit (eqb x 15)
    go true e = let h = leb-true x 8 e in let d : bit (eqb x 15) ≡ 0 = ap bit (ne_eqb x 15 (λ q. omega arith)) in omega arith
    go false e = omega arith

module _ (shown : List ℕ) (c : Census) (h : Counted shown (length shown) c) where
  flags_are : c.flags + c.wrong ≡ count_shown is_flag shown
  unfolding count_shown
  flags_are =
      ap₂ (λ (a b : ℕ). a + b) h.elevens h.fourteens
      ∙ count_both (λ i. shows 11 (get_or shown i 0)) (λ i. shows 14 (get_or shown i 0)) (λ i. is_flag (get_or shown i 0)) (length shown) (λ i. flag_is (get_or shown i 0))

  opens_are : c.opens + c.hits ≡ count_shown is_open_or_hit shown
  unfolding count_shown
  opens_are =
      ap₂ (λ (a b : ℕ). a + b) h.opens h.fifteens
      ∙ count_both (λ i. is_open (get_or shown i 0)) (λ i. shows 15 (get_or shown i 0)) (λ i. is_open_or_hit (get_or shown i 0)) (length shown) (λ i. open_is (get_or shown i 0))

  pub open_are : c.opens ≡ count_shown is_open shown
  unfolding count_shown
  open_are = h.opens

  pub elevens_are : c.flags ≡ count_shown (shows 11) shown
  unfolding count_shown
  elevens_are = h.elevens

  fourteens_are : c.wrong ≡ count_shown (shows 14) shown
  unfolding count_shown
  fourteens_are = h.fourteens

  fifteens_are : c.hits ≡ count_shown (shows 15) shown
  unfolding count_shown
  fifteens_are = h.fifteens

  pub shown_is : (B : List ℤ) (p : Position) (bits : List ℕ) (loss r : Bool) → loss ≡ is_loss p.game → r ≡ cells_lawful p.settings.question loss B shown (length shown)
      → (r && (eqb c.wrong 0 || leb 1 c.hits)) ≡ shown_lawful B (desk p shown bits)
  unfolding shown_lawful cells_lawful
  shown_is B p bits loss r l e =
      ap₂ ◌&&◌ (e ∙ ap (λ (b : Bool). cells_lawful p.settings.question b B shown (length shown)) l)
      (ap₂ (λ (a b : ℕ). eqb a 0 || leb 1 b) fourteens_are fifteens_are)

  pub counts_is : (B : List ℤ) (unopened : ℕ) → unopened ≡ unopened_in B shown → (p : Position) (bits : List ℕ)
      → (eqb p.counts.flag (c.flags + c.wrong)
      && (eqb p.counts.unopened unopened
      && (leb p.counts.left p.events
      && (leb p.counts.right p.events
      && (leb p.counts.lce p.events
      && (leb p.secrets.rce p.events
      && (leb p.counts.dce p.events
      && (leb p.preflags p.events
      && (leb p.events 65535
      && (leb p.counts.double (p.events + (c.opens + c.hits))
      && leb (p.secrets.solved_left + p.secrets.solved_chord) c.opens))))))))))
      ≡ counts_lawful B (desk p shown bits)
  unfolding counts_lawful
  counts_is B unopened e p bits = rw (flags_are, opens_are, open_are, e)

-- where every cell shows what it may the safe cells not open are the board's safe cells less the open ones
module _ (B : List ℤ) (d : Desk) (c : Census) {a : Bool} (ha : a ≡ shown_lawful B d) (ta : not a ≡ false)
    (same : length B ≡ length d.shown) (h : Counted d.shown (length d.shown) c) {safe : ℕ} (hs : safe ≡ safe_in B) where
  opens_safe : OpenSafe B d.shown
  unfolding shown_lawful
  opens_safe i l =
      let cell : ℕ → Bool = λ j. cell_lawful d.position.settings.question (is_loss d.position.game) (face_at B j) (get_or d.shown j 0) in
      open_safe _ _ _ _ (every_at cell (length d.shown) (and_left (every cell (length d.shown)) _ (sym ha ∙ not-false _ ta)) i l)

  with_open : unopened_in B d.shown + c.opens ≡ safe
  unfolding safe_in
  with_open =
      ap (λ (n : ℕ). unopened_in B d.shown + n) (open_are d.shown c h) ∙ unopened_open B d.shown opens_safe
      ∙ ap (count (λ i. not (mine_at B i))) (sym same) ∙ sym hs

  pub opens_fit : c.opens ≤ safe
  opens_fit = omega (arith, with_open)

  pub unopened_is : safe - c.opens ≡ unopened_in B d.shown
  unopened_is = omega (arith, with_open)

-- ---- the chain -------------------------------------------------------------------------------------------------------------------------

-- counts that are lawful have the safe cells not open right
pub counted_right : (B : List ℤ) (d : Desk) {c : Bool} → c ≡ counts_lawful B d → not c ≡ false → d.position.counts.unopened ≡ unopened_in B d.shown
unfolding counts_lawful
counted_right B d hc t =
    eqb-true _ _ (and_left (eqb d.position.counts.unopened (unopened_in B d.shown)) _
    (and_right (eqb d.position.counts.flag (count_shown is_flag d.shown)) _ (sym hc ∙ not-false _ t)))

-- each refusal where its part is the first that fails, and 0 where none does
module _ (B : List ℤ) (d : Desk) where
  pub refused_shown : {a : Bool} → a ≡ shown_lawful B d → not a ≡ true → 261 ≡ lawful_refusal B d
  unfolding lawful_refusal
  refused_shown ha f = simp (sym ha ∙ not-true _ f)

  module _ {a : Bool} (ha : a ≡ shown_lawful B d) (ta : not a ≡ false) where
    pub refused_bits : {b : Bool} → b ≡ bits_lawful B d → not b ≡ true → 262 ≡ lawful_refusal B d
    unfolding lawful_refusal
    refused_bits hb f = simp (sym ha ∙ not-false _ ta, sym hb ∙ not-true _ f)

    module _ {b : Bool} (hb : b ≡ bits_lawful B d) (tb : not b ≡ false) where
      pub refused_counts : {c : Bool} → c ≡ counts_lawful B d → not c ≡ true → 263 ≡ lawful_refusal B d
      unfolding lawful_refusal
      refused_counts hc f = simp (sym ha ∙ not-false _ ta, sym hb ∙ not-false _ tb, sym hc ∙ not-true _ f)

      module _ {c : Bool} (hc : c ≡ counts_lawful B d) (tc : not c ≡ false) where
        pub refused_states : {s : Bool} → s ≡ states_lawful B d → not s ≡ true → 264 ≡ lawful_refusal B d
        unfolding lawful_refusal
        refused_states hs f = simp (sym ha ∙ not-false _ ta, sym hb ∙ not-false _ tb, sym hc ∙ not-false _ tc, sym hs ∙ not-true _ f)

        pub refused_none : {s : Bool} → s ≡ states_lawful B d → not s ≡ false → 0 ≡ lawful_refusal B d
        unfolding lawful_refusal
        refused_none hs f = simp (sym ha ∙ not-false _ ta, sym hb ∙ not-false _ tb, sym hc ∙ not-false _ tc, sym hs ∙ not-false _ f)
