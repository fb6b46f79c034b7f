-- The clicks: left, right and chord, each as what it leaves of a desk, with its answer. The automatic passes come after, in Passes.
use Rattle.std.specs.Prelude.{Bool, not, ◌&&◌, List, [], ◌∷◌, ℕ, ◌+◌, ◌-◌, ◌*◌, ltb, eqb, get_or, set, ℤ}
use Rattle.rules.specs.declared.Position.{Position}
use Rattle.rules.specs.declared.GameState.TheVariants.{Win, Loss}
use Rattle.rules.specs.Words.{pick, bit}
use Rattle.rules.specs.States.{with_game, with_left, with_right, with_lce, with_flag, with_unopened, with_rce, with_solved_left, with_solved_chord}
use Rattle.rules.specs.Grid.{around, pushed}
use Rattle.rules.specs.Board.{face_at, mine_at, lone_at}
use Rattle.rules.specs.Lent.{bit_at, with_bit}
use Rattle.rules.specs.Opening.{closed_at, Opened, refreshed, opened_in}
use Rattle.rules.specs.Judging.{judged_left, openings_judged, lones}

-- what lies before the player: the position, the shown board and the flagged-before bits
pub record Desk : Type 0 where
  pub position : Position
  pub shown : List ℕ
  pub bits : List ℕ

-- an answer, with the desk that is left
pub record Play : Type 0 where
  pub answer : ℕ
  pub desk : Desk

abbrev pub desk : Position → List ℕ → List ℕ → Desk
desk p shown bits = record { position = p; shown = shown; bits = bits }

abbrev pub done : ℕ → Desk → Play
done n d = record { answer = n; desk = d }

-- the desk with another position, or another shown board
abbrev pub on : Desk → Position → Desk
on d p = desk p d.shown d.bits

abbrev pub showing : Desk → List ℕ → Desk
showing d shown = desk d.position shown d.bits

abbrev pub rows_of : Desk → ℕ
rows_of d = d.position.settings.rows

abbrev pub columns_of : Desk → ℕ
columns_of d = d.position.settings.columns

abbrev pub cells_of : Desk → ℕ
cells_of d = rows_of d * columns_of d

-- ---- how an opening ends ---------------------------------------------------------------------------------------------------------------

-- the board that an opening shows, and as many safe cells fewer still closed as it opened
abbrev pub uncovered : Desk → List ℕ → Desk
uncovered d shown =
    desk (with_unopened d.position (d.position.counts.unopened - opened_in d.shown shown)) shown d.bits

-- a mine: Loss, 4; else Win where no safe cell is left, and the answer given
abbrev pub ends_by : Bool → ℕ → Desk → Play
ends_by hit n d =
    pick hit (done 4 (on d (with_game d.position Loss)))
    (pick (eqb d.position.counts.unopened 0) (done n (on d (with_game d.position Win)))
    (done n d))

unfoldable pub ended : ℕ → Desk → Opened → Play
ended n d o = ends_by o.hit n (uncovered d o.shown)

-- ---- left ------------------------------------------------------------------------------------------------------------------------------

abbrev pub add_left : Desk → Desk
add_left d = on d (with_left d.position (d.position.counts.left + 1))

-- solved_left grows for a number with no 0 neighbour, or for a 0 whose opening has no cell showing 11, judged before opening
unfoldable pub solves_left : List ℤ → Desk → ℕ → Bool
solves_left B d i =
    pick (eqb (face_at B i) 0) (judged_left B (rows_of d) (columns_of d) d.shown i) (lone_at B (rows_of d) (columns_of d) i)

-- lce + 1, and solved_left
abbrev pub left_counts : List ℤ → Desk → ℕ → Desk
left_counts B d i =
    on d (with_solved_left (with_lce d.position (d.position.counts.lce + 1)) (d.position.secrets.solved_left + bit (solves_left B d i)))

-- the cell shows 10: a mine counts nothing
unfoldable pub left_opens : List ℤ → ℕ → Desk → Play
left_opens B i d =
    ended 2 (pick (mine_at B i) d (left_counts B d i)) (refreshed B (rows_of d) (columns_of d) (i ∷ []) d.shown)

-- LEFT: left + 1; unless the cell shows 10, answer 0; a mine: 15, Loss, 4; else open it, lce + 1, test for the win, 2
unfoldable pub left_click : List ℤ → ℕ → Desk → Play
left_click B i d = pick (closed_at d.shown i) (left_opens B i (add_left d)) (done 0 (add_left d))

-- ---- right -----------------------------------------------------------------------------------------------------------------------------

abbrev pub add_right : Desk → Desk
add_right d = on d (with_right d.position (d.position.counts.right + 1))

-- the bit of a mine is set, no other
unfoldable pub bits_with : List ℤ → List ℕ → ℕ → List ℕ
bits_with B bits i = pick (mine_at B i) (with_bit bits i) bits

-- a new flag on a mine adds to rce only if its bit was clear
unfoldable pub adds_rce : List ℤ → List ℕ → ℕ → Bool
adds_rce B bits i = mine_at B i && not (bit_at bits i)

-- 10 to 11
abbrev pub flagged : List ℤ → ℕ → Desk → Desk
flagged B i d =
    desk
    (with_rce (with_flag d.position (d.position.counts.flag + 1)) (d.position.secrets.rce + bit (adds_rce B d.bits i)))
    (set d.shown i 11)
    (bits_with B d.bits i)

-- 11 to 17 with question marks on, else to 10
abbrev pub unflagged : ℕ → Desk → Desk
unflagged i d =
    desk
    (with_flag d.position (d.position.counts.flag - 1))
    (set d.shown i (pick d.position.settings.question 17 10))
    d.bits

-- 11 to 17 or 10, 17 to 10, answer 1; on an open cell 0
unfoldable pub take_back : ℕ → Desk → Play
take_back i d =
    pick (eqb (get_or d.shown i 0) 11) (done 1 (unflagged i d))
    (pick (eqb (get_or d.shown i 0) 17) (done 1 (showing d (set d.shown i 10)))
    (done 0 d))

-- ---- chord -----------------------------------------------------------------------------------------------------------------------------

abbrev pub flag_at : List ℕ → ℕ → Bool
flag_at shown i = eqb (get_or shown i 0) 11

-- a shown 8 is never chorded; needed: flags around equal the number, and a neighbour shows 10
unfoldable pub chord_is_useful : ℕ → ℕ → List ℕ → ℕ → Bool
chord_is_useful R C shown i =
    ltb (get_or shown i 0) 8 && (eqb (around R C (flag_at shown) i) (get_or shown i 0) && ltb 0 (around R C (closed_at shown) i))

-- the closed neighbours, collected before any is opened
abbrev pub closed_around : ℕ → ℕ → List ℕ → ℕ → List ℕ
closed_around R C shown i = pushed R C (closed_at shown) i 8 []

-- chorded numbers without a 0 neighbour add to solved_chord, then each opening newly judged
abbrev pub chord_counts : List ℤ → List ℕ → Desk → Desk
chord_counts B cells d =
    on d (with_solved_chord d.position
    (d.position.secrets.solved_chord + lones B (rows_of d) (columns_of d) cells + openings_judged B (rows_of d) (columns_of d) d.shown cells))

unfoldable pub chord_opens : List ℤ → List ℕ → Desk → Play
chord_opens B cells d = ended 3 (chord_counts B cells d) (refreshed B (rows_of d) (columns_of d) cells d.shown)

-- CHORD, but for double and dce (`perform_chord`): a mine: Loss, 4; else 3; a chord that cannot run answers 0
unfoldable pub perform_chord : List ℤ → ℕ → Desk → Play
perform_chord B i d =
    pick (chord_is_useful (rows_of d) (columns_of d) d.shown i) (chord_opens B (closed_around (rows_of d) (columns_of d) d.shown i) d) (done 0 d)
