-- The lawful position, clause by clause, in four parts, each with its refusal: shown values 261, bits 262, counts 263, and what the states ask 264.
use Rattle.std.specs.Prelude.{Bool, true, false, not, ◌&&◌, ◌||◌, List, ℕ, ◌+◌, ◌*◌, leb, eqb, length, get_or, ℤ}
use Rattle.rules.specs.declared.GameState.{GameState}
use Rattle.rules.specs.declared.GameState.TheVariants.{Ready, Playing, Win, Loss, PreFlaging}
use Rattle.rules.specs.Words.{pick, unless, count, every}
use Rattle.rules.specs.States.{is_loss, is_not_flag}
use Rattle.rules.specs.Board.{face_at, mine_at}
use Rattle.rules.specs.Lent.{bit_at}
use Rattle.rules.specs.Opening.{count_shown, is_open}
use Rattle.rules.specs.Clicks.{Desk}
use Rattle.rules.specs.Mouse.{rules_ok}

abbrev pub shows : ℕ → ℕ → Bool
shows v x = eqb x v

-- 11 or 14
abbrev pub is_flag : ℕ → Bool
is_flag x = eqb x 11 || eqb x 14

-- 0 to 8 or 15
abbrev pub is_open_or_hit : ℕ → Bool
is_open_or_hit x = leb x 8 || eqb x 15

-- a mine, or an open cell
abbrev pub done_at : List ℤ → List ℕ → ℕ → Bool
done_at B shown i = mine_at B i || is_open (get_or shown i 0)

-- no safe cell is left
unfoldable pub is_won : List ℤ → List ℕ → Bool
is_won B shown = every (done_at B shown) (length shown)

-- how many are: safe cells that do not show 0 to 8
unfoldable pub unopened_in : List ℤ → List ℕ → ℕ
unopened_in B shown = count (λ i. not (done_at B shown i)) (length shown)

-- ---- shown values ----------------------------------------------------------------------------------------------------------------------

-- only the shown values 0 to 8, 10, 11, 14, 15 and 17; an open cell shows its own number; 17 only with question marks on;
-- 14 (on safe cells only) and 15 (on mines only) only in Loss
unfoldable pub cell_lawful : Bool → Bool → ℕ → ℕ → Bool
cell_lawful question loss f x =
    pick (leb x 8) (eqb x f)
    (pick (eqb x 10) true
    (pick (eqb x 11) true
    (pick (eqb x 17) question
    (pick (eqb x 14) (loss && not (eqb f 15))
    (pick (eqb x 15) (loss && eqb f 15)
    false)))))

-- 14 only where a 15 is shown somewhere too
unfoldable pub shown_lawful : List ℤ → Desk → Bool
shown_lawful B d =
    every (λ i. cell_lawful d.position.settings.question (is_loss d.position.game) (face_at B i) (get_or d.shown i 0)) (length d.shown)
    && (eqb (count_shown (shows 14) d.shown) 0 || leb 1 (count_shown (shows 15) d.shown))

-- ---- bits ------------------------------------------------------------------------------------------------------------------------------

-- bits only on mines; a spare bit is on none
unfoldable pub bits_lawful : List ℤ → Desk → Bool
bits_lawful B d = every (λ n. not (bit_at d.bits n) || mine_at B n) (8 * length d.bits)

-- ---- counts ----------------------------------------------------------------------------------------------------------------------------

-- the flag count is the number of cells showing 11 or 14, and the number of safe cells still closed is the safe cells not open; left, right, lce, rce,
-- dce and the pre-flag count are each at most the accepted events, themselves at most 65,535; double is at most these events plus the cells showing
-- 0 to 8 or 15; the two solved counts together are at most the open cells
unfoldable pub counts_lawful : List ℤ → Desk → Bool
counts_lawful B d =
    eqb d.position.counts.flag (count_shown is_flag d.shown)
    && (eqb d.position.counts.unopened (unopened_in B d.shown)
    && (leb d.position.counts.left d.position.events
    && (leb d.position.counts.right d.position.events
    && (leb d.position.counts.lce d.position.events
    && (leb d.position.secrets.rce d.position.events
    && (leb d.position.counts.dce d.position.events
    && (leb d.position.preflags d.position.events
    && (leb d.position.events 65535
    && (leb d.position.counts.double (d.position.events + count_shown is_open_or_hit d.shown)
    && leb (d.position.secrets.solved_left + d.position.secrets.solved_chord) (count_shown is_open d.shown))))))))))

-- ---- what the states ask ---------------------------------------------------------------------------------------------------------------

-- in Ready no 11 is shown, the pre-flag count is 0 and the mouse is in no NotFlag state; in Ready and PreFlaging nothing is open;
-- in PreFlaging the 11s are at most the pre-flag count; Playing has a safe cell unopened and Win has none
unfoldable pub game_lawful : GameState → List ℤ → Desk → Bool
game_lawful Ready B d =
    eqb (count_shown (shows 11) d.shown) 0 && (eqb d.position.preflags 0
    && (not (is_not_flag d.position.mouse) && eqb (count_shown is_open d.shown) 0))
game_lawful PreFlaging B d = leb (count_shown (shows 11) d.shown) d.position.preflags && eqb (count_shown is_open d.shown) 0
game_lawful Playing B d = not (is_won B d.shown)
game_lawful Win B d = is_won B d.shown
game_lawful Loss B d = true

-- a NotFlag mouse state has right at least 1; the rules are 1 or 2
unfoldable pub states_lawful : List ℤ → Desk → Bool
states_lawful B d =
    game_lawful d.position.game B d
    && ((not (is_not_flag d.position.mouse) || leb 1 d.position.counts.right) && rules_ok d.position.settings.rules)

-- lawful means all of these
unfoldable pub lawful : List ℤ → Desk → Bool
lawful B d = shown_lawful B d && (bits_lawful B d && (counts_lawful B d && states_lawful B d))

-- the refusal of a position that is not lawful, or 0: 261 to 264 in their order
unfoldable pub lawful_refusal : List ℤ → Desk → ℕ
lawful_refusal B d =
    unless 261 (shown_lawful B d)
    (unless 262 (bits_lawful B d)
    (unless 263 (counts_lawful B d)
    (unless 264 (states_lawful B d) 0)))
