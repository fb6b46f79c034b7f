-- `lawful` is `Kept` and the league's rules, both ways; and what the board's and the position's tests gave when they refused nothing.
use mathlib.Core.Path.{◌≡◌, ◌∙◌, sym, ap, refl, subst, subst⁻¹}
use mathlib.Core.Bool.{Bool, true, false, not, ◌&&◌, ◌||◌, false≢true, true≢false}
use mathlib.Core.List.{List}
use Prim.Native.Nat.{ℕ, zero, suc, ◌+◌, ◌*◌, ◌/◌, ◌%◌, ◌^◌, ◌<◌, ◌≤◌}
use native.Mathlib.Nat.{zero-div}
use native.Mathlib.Omega.{arith}
use native.Mathlib.Decide.{dec_lt}
use borrow.Author.Tests.{leb-true, le-leb, eqb-true, eq-eqb}
use lib.Dec.{eqb, leb}
use lib.IntN.{ℤ}
use lib.ListN.{length, get_or, get_or-eq_default}
use Rattle.rules.specs.declared.Settings.{Settings}
use Rattle.rules.specs.declared.GameState.{GameState}
use Rattle.rules.specs.declared.GameState.TheVariants.{Ready, Playing, Win, Loss, PreFlaging}
use Rattle.rules.specs.Words.{pick, unless, every}
use Rattle.rules.specs.States.{is_loss, is_not_flag}
use Rattle.rules.specs.Grid.{size_ok}
use Rattle.rules.specs.Board.{face_at, mine_at, values_ok, numbers_ok, some_safe, board_refusal}
use Rattle.rules.specs.Lent.{bit_at}
use Rattle.rules.specs.Opening.{count_shown}
use Rattle.rules.specs.Clicks.{Desk}
use Rattle.rules.specs.Mouse.{rules_ok}
use Rattle.rules.specs.Lawful.{shows, is_flag, is_open_or_hit, cell_lawful, shown_lawful, bits_lawful, counts_lawful, game_lawful, states_lawful, lawful, lawful_refusal, is_won, unopened_in}
use Rattle.rules.specs.Calls.{cells_in, boards_fit, mode_ok, settings_refusal, position_refusal, position_check, lent_refusal, flow_refusal, work_fits}
use Rattle.cells.proofs.Words.{and_left, and_right, and_both, every_at, every_all, unless_passed}
use Rattle.cells.proofs.Face.{values_valued}
use Rattle.cells.proofs.Grid.{size_limits}
use Rattle.keep.specs.Kept.{Accepted, Ground, Phase, LawfulAt}

-- ---- the board's tests -----------------------------------------------------------------------------------------------------------------

-- 20 to 24 refused nothing
pub board_accepted : (R C : ℕ) (fit : Bool) (B : List ℤ) → board_refusal R C fit B ≡ 0 → Accepted R C fit B
unfolding board_refusal
board_accepted R C fit B e =
    let a = unless_passed 19 (size_ok R C) _ e in
    let b = unless_passed 20 fit _ a.1 in
    let c = unless_passed 21 (values_ok B) _ b.1 in
    let d = unless_passed 22 (numbers_ok B R C) _ c.1 in
    let f = unless_passed 23 (some_safe B) 0 d.1 in
    record { sized = size_limits R C a.0; fits = b.0; values = c.0; numbers = d.0; safe = f.0 }

-- the ground of an accepted board whose buffers fit
pub accepted_ground : {s : Settings} {fit : Bool} {B : List ℤ} (shown bits : List ℕ) → Accepted s.rows s.columns fit B → boards_fit s B shown bits ≡ true → Ground B s shown bits
unfolding boards_fit
accepted_ground {s} {fit} {B} shown bits a e =
    let b = and_right (eqb (length B) (cells_in s)) _ e in
    record {
      mined = record { sized = a.sized; long = eqb-true _ _ (and_left (eqb (length B) (cells_in s)) _ e); valued = values_valued B a.values };
      numbers = a.numbers;
      board = eqb-true _ _ (and_left (eqb (length shown) (cells_in s)) _ b);
      room = eqb-true _ _ (and_right (eqb (length shown) (cells_in s)) _ b);
    }

-- ---- shown values ----------------------------------------------------------------------------------------------------------------------

wrong_by : (a b : ℕ) → (eqb a 0 || leb 1 b) ≡ true → 1 ≤ a → 1 ≤ b
wrong_by zero b e h = absurd (omega arith)
wrong_by (suc a) b e h = go (eqb (suc a) 0) refl e
  where
    go : (t : Bool) → eqb (suc a) 0 ≡ t → (t || leb 1 b) ≡ true → 1 ≤ b
    go true d u = let z = eqb-true (suc a) 0 d in absurd (omega arith)
    go false d u = leb-true 1 b u

wrong_back : (a b : ℕ) → (1 ≤ a → 1 ≤ b) → (eqb a 0 || leb 1 b) ≡ true
wrong_back zero b h = ap (λ (t : Bool). t || leb 1 b) (eq-eqb 0 0 refl)
wrong_back (suc a) b h = or_right (eqb (suc a) 0) (leb 1 b) (le-leb 1 b (h (omega arith)))
  where
    or_right : (x y : Bool) → y ≡ true → (x || y) ≡ true
    or_right true y e = refl
    or_right false y e = e

-- ---- bits ------------------------------------------------------------------------------------------------------------------------------

-- past the bytes no bit is set
bit_past : (bits : List ℕ) (m : ℕ) → length bits ≤ m / 8 → bit_at bits m ≡ false
unfolding bit_at
bit_past bits m h =
    ap (λ (x : ℕ). eqb (x / 2 ^ (m % 8) % 2) 1) (get_or-eq_default bits 0 h) ∙ ap (λ (x : ℕ). eqb (x % 2) 1) (zero-div (2 ^ (m % 8)))

bit_mine : (a b : Bool) → (not a || b) ≡ true → a ≡ true → b ≡ true
bit_mine true b e h = e
bit_mine false b e h = absurd (false≢true h)

mine_bit : (a b : Bool) → (a ≡ true → b ≡ true) → (not a || b) ≡ true
mine_bit true b h = h refl
mine_bit false b h = refl

bits_mines : (B : List ℤ) (d : Desk) → bits_lawful B d ≡ true → (m : ℕ) → bit_at d.bits m ≡ true → mine_at B m ≡ true
unfolding bits_lawful
bits_mines B d e m h = go (dec_lt m (8 * length d.bits))
  where
    go : Dec (m < 8 * length d.bits) → mine_at B m ≡ true
    go (yes l) = bit_mine (bit_at d.bits m) (mine_at B m) (every_at (λ n. not (bit_at d.bits n) || mine_at B n) (8 * length d.bits) e m l) h
    go (no l) = absurd (false≢true (sym (bit_past d.bits m (omega arith)) ∙ h))

-- ---- what the states ask ---------------------------------------------------------------------------------------------------------------

not_back : (a : Bool) → a ≡ false → not a ≡ true
not_back true e = absurd (true≢false e)
not_back false e = refl

not_from : (a : Bool) → not a ≡ true → a ≡ false
not_from true e = absurd (false≢true e)
not_from false e = refl

game_phase : (g : GameState) (B : List ℤ) (d : Desk) → game_lawful g B d ≡ true → Phase g d.position.mouse d.position.preflags B d.shown
unfolding game_lawful
game_phase Ready B d e =
    let a = and_right (eqb (count_shown (shows 11) d.shown) 0) _ e in
    let b = and_right (eqb d.position.preflags 0) _ a in
    record {
      unflagged = eqb-true _ _ (and_left (eqb (count_shown (shows 11) d.shown) 0) _ e);
      unpreflagged = eqb-true _ _ (and_left (eqb d.position.preflags 0) _ a);
      unheld = not_from _ (and_left (not (is_not_flag d.position.mouse)) _ b);
      shut = eqb-true _ _ (and_right (not (is_not_flag d.position.mouse)) _ b);
    }
game_phase PreFlaging B d e = record {
  flags = leb-true _ _ (and_left (leb (count_shown (shows 11) d.shown) d.position.preflags) _ e);
  shut = eqb-true _ _ (and_right (leb (count_shown (shows 11) d.shown) d.position.preflags) _ e);
}
game_phase Playing B d e = not_from (is_won B d.shown) e
game_phase Win B d e = e
game_phase Loss B d e = tt

phase_game : (g : GameState) (B : List ℤ) (d : Desk) → Phase g d.position.mouse d.position.preflags B d.shown → game_lawful g B d ≡ true
unfolding game_lawful
phase_game Ready B d h =
    and_both _ _ (eq-eqb _ _ h.unflagged) (and_both _ _ (eq-eqb _ _ h.unpreflagged) (and_both _ _ (not_back _ h.unheld) (eq-eqb _ _ h.shut)))
phase_game PreFlaging B d h = and_both _ _ (le-leb _ _ h.flags) (eq-eqb _ _ h.shut)
phase_game Playing B d h = not_back (is_won B d.shown) h
phase_game Win B d h = h
phase_game Loss B d h = refl

-- ---- both ways -------------------------------------------------------------------------------------------------------------------------

pub lawful_kept : (B : List ℤ) (d : Desk) → Ground B d.position.settings d.shown d.bits → lawful B d ≡ true → LawfulAt B d
unfolding lawful shown_lawful counts_lawful states_lawful
lawful_kept B d g e =
    let n : ℕ = d.position.events in
    let rest = and_right (shown_lawful B d) _ e in
    let s = and_left (shown_lawful B d) _ e in
    let bs = and_left (bits_lawful B d) _ rest in
    let rest₂ = and_right (bits_lawful B d) _ rest in
    let t = and_right (counts_lawful B d) (states_lawful B d) rest₂ in
    let c₀ = and_left (counts_lawful B d) (states_lawful B d) rest₂ in
    let u₁ = and_right (eqb d.position.counts.flag (count_shown is_flag d.shown)) _ c₀ in
    let c₁ = and_right (eqb d.position.counts.unopened (unopened_in B d.shown)) _ u₁ in
    let c₂ = and_right (leb d.position.counts.left n) _ c₁ in
    let c₃ = and_right (leb d.position.counts.right n) _ c₂ in
    let c₄ = and_right (leb d.position.counts.lce n) _ c₃ in
    let c₅ = and_right (leb d.position.secrets.rce n) _ c₄ in
    let c₆ = and_right (leb d.position.counts.dce n) _ c₅ in
    let c₇ = and_right (leb d.position.preflags n) _ c₆ in
    let c₈ = and_right (leb n 65535) _ c₇ in
    record {
      kept = record {
        sound = record {
          ground = g;
          bounded = record {
            left = leb-true _ _ (and_left (leb d.position.counts.left n) _ c₁);
            right = leb-true _ _ (and_left (leb d.position.counts.right n) _ c₂);
            lce = leb-true _ _ (and_left (leb d.position.counts.lce n) _ c₃);
            dce = leb-true _ _ (and_left (leb d.position.counts.dce n) _ c₅);
            rce = leb-true _ _ (and_left (leb d.position.secrets.rce n) _ c₄);
          };
          double = leb-true _ _ (and_left (leb d.position.counts.double (n + count_shown is_open_or_hit d.shown)) _ c₈);
          solved = leb-true _ _ (and_right (leb d.position.counts.double (n + count_shown is_open_or_hit d.shown)) _ c₈);
          flag = eqb-true _ _ (and_left (eqb d.position.counts.flag (count_shown is_flag d.shown)) _ c₀);
          unopened = eqb-true _ _ (and_left (eqb d.position.counts.unopened (unopened_in B d.shown)) _ u₁);
          wrong = wrong_by _ _ (and_right (every (λ i. cell_lawful d.position.settings.question (is_loss d.position.game) (face_at B i) (get_or d.shown i 0)) (length d.shown)) _ s);
          cells =
              every_at (λ i. cell_lawful d.position.settings.question (is_loss d.position.game) (face_at B i) (get_or d.shown i 0)) (length d.shown)
              (and_left (every (λ i. cell_lawful d.position.settings.question (is_loss d.position.game) (face_at B i) (get_or d.shown i 0)) (length d.shown)) _ s);
          mines = bits_mines B d bs;
        };
        preflags = leb-true _ _ (and_left (leb d.position.preflags n) _ c₆);
        held =
            λ h. leb-true _ _ (bit_mine (is_not_flag d.position.mouse) (leb 1 d.position.counts.right) (and_left _ _ (and_right (game_lawful d.position.game B d) _ t)) h);
        phase = game_phase d.position.game B d (and_left (game_lawful d.position.game B d) _ t);
      };
      few = leb-true _ _ (and_left (leb n 65535) _ c₇);
    }

-- a lawful position has the league's rules
pub lawful_rules : (B : List ℤ) (d : Desk) → lawful B d ≡ true → rules_ok d.position.settings.rules ≡ true
unfolding lawful states_lawful
lawful_rules B d e =
    let counts = and_right (bits_lawful B d) _ (and_right (shown_lawful B d) _ e) in
    let states = and_right (game_lawful d.position.game B d) _ (and_right (counts_lawful B d) _ counts) in
    and_right (not (is_not_flag d.position.mouse) || leb 1 d.position.counts.right) _ states

pub kept_lawful : (B : List ℤ) (d : Desk) → LawfulAt B d → rules_ok d.position.settings.rules ≡ true → lawful B d ≡ true
unfolding lawful shown_lawful bits_lawful counts_lawful states_lawful
kept_lawful B d h ruled =
    let s = h.kept.sound in
    let b = s.bounded in
    and_both _ _
    (and_both _ _
    (every_all (λ i. cell_lawful d.position.settings.question (is_loss d.position.game) (face_at B i) (get_or d.shown i 0)) (length d.shown) s.cells)
    (wrong_back _ _ s.wrong))
    (and_both _ _
    (every_all (λ m. not (bit_at d.bits m) || mine_at B m) (8 * length d.bits) (λ m _. mine_bit (bit_at d.bits m) (mine_at B m) (s.mines m)))
    (and_both _ _
    (and_both _ _ (eq-eqb _ _ s.flag) (and_both _ _ (eq-eqb _ _ s.unopened) (and_both _ _ (le-leb _ _ b.left) (and_both _ _ (le-leb _ _ b.right) (and_both _ _ (le-leb _ _ b.lce)
    (and_both _ _ (le-leb _ _ b.rce) (and_both _ _ (le-leb _ _ b.dce) (and_both _ _ (le-leb _ _ h.kept.preflags) (and_both _ _ (le-leb _ _ h.few)
    (and_both _ _ (le-leb _ _ s.double) (le-leb _ _ s.solved)))))))))))
    (and_both _ _ (phase_game d.position.game B d h.kept.phase)
    (and_both _ _ (mine_bit (is_not_flag d.position.mouse) (leb 1 d.position.counts.right) (λ e. le-leb _ _ (h.kept.held e))) ruled))))

-- ---- the refusal of a position is 0 exactly if it is lawful ----------------------------------------------------------------------------

pub law_split : (B : List ℤ) (d : Desk) → eqb (lawful_refusal B d) 0 ≡ lawful B d
unfolding lawful lawful_refusal
law_split B d = go (shown_lawful B d) (bits_lawful B d) (counts_lawful B d) (states_lawful B d)
  where
    go : (a b c s : Bool) → eqb (unless 261 a (unless 262 b (unless 263 c (unless 264 s 0)))) 0 ≡ (a && (b && (c && s)))
    go true true true true = refl
    go true true true false = refl
    go true true false s = refl
    go true false c s = refl
    go false b c s = refl

pub lawful_passes : (B : List ℤ) (d : Desk) → lawful B d ≡ true → lawful_refusal B d ≡ 0
lawful_passes B d e = eqb-true _ _ (law_split B d ∙ e)

pub passed_lawful : (B : List ℤ) (d : Desk) → lawful_refusal B d ≡ 0 → lawful B d ≡ true
passed_lawful B d e = sym (law_split B d) ∙ eq-eqb _ _ e

-- ---- the tests 20 to 264 ---------------------------------------------------------------------------------------------------------------

-- 20 to 25 refused nothing, nor did the rest
pub settings_accepted : (s : Settings) (fit : Bool) (B : List ℤ) (rest : ℕ) → settings_refusal s fit B rest ≡ 0
    → Accepted s.rows s.columns fit B × (mode_ok s.mode ≡ true) × (rest ≡ 0)
unfolding settings_refusal
settings_accepted s fit B rest e = go (eqb (board_refusal s.rows s.columns fit B) 0) refl e
  where
    go : (t : Bool) → eqb (board_refusal s.rows s.columns fit B) 0 ≡ t
        → pick t (unless 25 (mode_ok s.mode) rest) (board_refusal s.rows s.columns fit B) ≡ 0
        → Accepted s.rows s.columns fit B × (mode_ok s.mode ≡ true) × (rest ≡ 0)
    go true d u =
        let a = unless_passed 24 (mode_ok s.mode) rest u in
        (board_accepted s.rows s.columns fit B (eqb-true _ _ d), a.0, a.1)
    go false d u = absurd (true≢false (sym (eq-eqb _ _ u) ∙ d))

-- a position that 20 to 264 did not refuse is lawful
pub position_lawful : (fit : Bool) (B : List ℤ) (d : Desk) → (fit ≡ true → boards_fit d.position.settings B d.shown d.bits ≡ true)
    → position_refusal fit B d ≡ 0 → LawfulAt B d
unfolding position_refusal
position_lawful fit B d f e =
    let a = settings_accepted d.position.settings fit B (lawful_refusal B d) e in
    lawful_kept B d (accepted_ground d.shown d.bits a.0 (f a.0.fits)) (passed_lawful B d a.2)

pub check_lawful : (B : List ℤ) (d : Desk) → position_check B d ≡ 0 → LawfulAt B d
unfolding position_check
check_lawful B d e = position_lawful (boards_fit d.position.settings B d.shown d.bits) B d (λ f. f) e

pub lent_lawful : (B : List ℤ) (d : Desk) (work : List ℕ) → lent_refusal B d work ≡ 0 → LawfulAt B d
unfolding lent_refusal
lent_lawful B d work e =
    position_lawful (boards_fit d.position.settings B d.shown d.bits && work_fits d.position.settings work) B d (and_left _ _) e

pub flow_lawful : (B : List ℤ) (events : List ℕ) (d : Desk) (work : List ℕ) → flow_refusal B events d work ≡ 0 → LawfulAt B d
unfolding flow_refusal
flow_lawful B events d work e =
    position_lawful (boards_fit d.position.settings B d.shown d.bits && (work_fits d.position.settings work && eqb (length events % 3) 0)) B d
    (and_left _ _) e

-- ---- and back --------------------------------------------------------------------------------------------------------------------------

pub ground_fits : {B : List ℤ} {s : Settings} {shown bits : List ℕ} → Ground B s shown bits → boards_fit s B shown bits ≡ true
unfolding boards_fit
ground_fits g = and_both _ _ (eq-eqb _ _ g.mined.long) (and_both _ _ (eq-eqb _ _ g.board) (eq-eqb _ _ g.room))

-- the refusals 20 to 24 are those of any other buffers that fit
refusal_fits : (R C : ℕ) (fit : Bool) (B : List ℤ) → fit ≡ true → board_refusal R C fit B ≡ 0 → board_refusal R C true B ≡ 0
refusal_fits R C fit B f e = subst (λ (t : Bool). board_refusal R C t B ≡ 0) f e

settings_passed : (s : Settings) (fit : Bool) (B : List ℤ) (rest : ℕ) → settings_refusal s fit B rest ≡ 0 → board_refusal s.rows s.columns fit B ≡ 0
unfolding settings_refusal
settings_passed s fit B rest e = go (eqb (board_refusal s.rows s.columns fit B) 0) refl e
  where
    go : (t : Bool) → eqb (board_refusal s.rows s.columns fit B) 0 ≡ t
        → pick t (unless 25 (mode_ok s.mode) rest) (board_refusal s.rows s.columns fit B) ≡ 0 → board_refusal s.rows s.columns fit B ≡ 0
    go true d u = eqb-true _ _ d
    go false d u = u

settings_pass : (s : Settings) (B : List ℤ) → board_refusal s.rows s.columns true B ≡ 0 → mode_ok s.mode ≡ true → settings_refusal s true B 0 ≡ 0
unfolding settings_refusal
settings_pass s B e m = rw (eq-eqb _ _ e, m)

-- a lawful desk with settings that 20 to 25 did not refuse and the league's rules is accepted by the position check
pub settings_check : (s : Settings) (fit : Bool) (B : List ℤ) (rest : ℕ) (e : Desk) → settings_refusal s fit B rest ≡ 0 → rules_ok s.rules ≡ true
    → e.position.settings ≡ s → LawfulAt B e → position_check B e ≡ 0
unfolding position_check position_refusal
settings_check s fit B rest e ok ruled es l =
    let a = settings_accepted s fit B rest ok in
    let b = refusal_fits s.rows s.columns fit B a.0.fits (settings_passed s fit B rest ok) in
    let r = subst⁻¹ (λ (s : Settings). rules_ok s.rules ≡ true) es ruled in
    rw (ground_fits l.kept.sound.ground, lawful_passes B e (kept_lawful B e l r)) (subst⁻¹ (λ (s : Settings). settings_refusal s true B 0 ≡ 0) es (settings_pass s B b a.1))

-- so is one with the settings of a desk that it accepted
pub check_passes : (B : List ℤ) (d e : Desk) → position_check B d ≡ 0 → e.position.settings ≡ d.position.settings → LawfulAt B e → position_check B e ≡ 0
unfolding position_check position_refusal
check_passes B d e ok es l =
    let fit = boards_fit d.position.settings B d.shown d.bits in
    let ruled = lawful_rules B d (passed_lawful B d (settings_accepted d.position.settings fit B (lawful_refusal B d) ok).2) in
    settings_check d.position.settings fit B (lawful_refusal B d) e ok ruled es l
