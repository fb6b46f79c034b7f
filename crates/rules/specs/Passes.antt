-- The automatic passes, only while Playing; and the right click and the chord by hand, which they follow.
use Rattle.std.specs.Prelude.{Bool, true, false, ◌&&◌, ◌||◌, List, [], ◌∷◌, ℕ, zero, suc, ◌+◌, leb, eqb, get_or, set, ℤ, pos, negsuc, ◌-ℤ◌}
use Rattle.rules.specs.Words.{pick, rounds}
use Rattle.rules.specs.States.{is_playing, with_flag, with_double, with_dce}
use Rattle.rules.specs.Grid.{around, pushed}
use Rattle.rules.specs.Opening.{closed_at}
use Rattle.rules.specs.Clicks.{Desk, Play, desk, done, on, rows_of, columns_of, cells_of, add_right, bits_with, flagged, take_back, flag_at, perform_chord}

-- ---- the flag pass ---------------------------------------------------------------------------------------------------------------------

-- the remainder, number minus flags, is signed
abbrev pub remainder : ℕ → ℕ → ℤ
remainder number flags = pos number -ℤ pos flags

-- above 0 and equal to the neighbours showing 10
unfoldable pub all_closed_of : ℤ → ℕ → Bool
all_closed_of (pos zero) closed = false
all_closed_of (pos (suc n)) closed = eqb (suc n) closed
all_closed_of (negsuc n) closed = false

-- an open 1 to 8 whose remainder is above 0 and equal to its neighbours showing 10
unfoldable pub ripe_at : ℕ → ℕ → List ℕ → ℕ → Bool
ripe_at R C shown i =
    leb 1 (get_or shown i 0) && (leb (get_or shown i 0) 8
    && all_closed_of (remainder (get_or shown i 0) (around R C (flag_at shown) i)) (around R C (closed_at shown) i))

-- a scan of the first n cells lists the closed neighbours of the ripe ones (`simple_flag_seek`)
unfoldable pub listed : ℕ → ℕ → List ℕ → ℕ → List ℕ
listed R C shown zero = []
listed R C shown (suc n) =
    let st = listed R C shown n in pick (ripe_at R C shown n) (pushed R C (closed_at shown) n 8 st) st

-- a listed cell that still shows 10 is flagged; never adds to rce, but sets bits on mines
unfoldable pub flag_one : List ℤ → ℕ → Desk → Desk
flag_one B i d =
    pick (closed_at d.shown i)
    (desk (with_flag d.position (d.position.counts.flag + 1)) (set d.shown i 11) (bits_with B d.bits i))
    d

-- the cells of a list, the first listed first
unfoldable pub flag_all : List ℤ → List ℕ → Desk → Desk
flag_all B [] d = d
flag_all B (i ∷ st) d = flag_one B i (flag_all B st d)

-- a desk, and whether the last round found something
pub record Round : Type 0 where
  pub desk : Desk
  pub any : Bool

abbrev pub some_in : List ℕ → Bool
some_in [] = false
some_in (i ∷ st) = true

abbrev pub flag_found : List ℤ → List ℕ → Desk → Round
flag_found B st d = record { desk = flag_all B st d; any = some_in st }

-- one scan, and after it all that it listed is flagged
unfoldable pub flag_round : List ℤ → Round → Round
flag_round B r = flag_found B (listed (rows_of r.desk) (columns_of r.desk) r.desk.shown (cells_of r.desk)) r.desk

abbrev pub found_any : Round → Bool
found_any r = r.any

-- THE flag pass: repeat until none (`run_flag_recursive`)
unfoldable pub flag_pass : List ℤ → Desk → Desk
flag_pass B d = (rounds (flag_round B) found_any (suc (cells_of d)) (record { desk = d; any = true })).desk

-- ---- the chord pass --------------------------------------------------------------------------------------------------------------------

-- a desk, whether this scan opened something, and whether this pass did
pub record Scan : Type 0 where
  pub desk : Desk
  pub any : Bool
  pub ever : Bool

-- a chord that answered 0 changed nothing
abbrev pub noted : Scan → Play → Scan
noted s o = pick (eqb o.answer 0) s (record { desk = o.desk; any = true; ever = true })

-- a useful cell is chorded, while Playing, without adding to dce
unfoldable pub chord_one : List ℤ → ℕ → Scan → Scan
chord_one B i s = pick (is_playing s.desk.position.game) (noted s (perform_chord B i s.desk)) s

-- the first n cells in row order
unfoldable pub chord_scan : List ℤ → ℕ → Scan → Scan
chord_scan B zero s = s
chord_scan B (suc n) s = chord_one B n (chord_scan B n s)

unfoldable pub chord_round : List ℤ → Scan → Scan
chord_round B s = chord_scan B (cells_of s.desk) (record { desk = s.desk; any = false; ever = s.ever })

abbrev pub chord_more : Scan → Bool
chord_more s = s.any && is_playing s.desk.position.game

-- THE chord pass: until a scan opens nothing (`run_chord_recursive`)
unfoldable pub chord_pass : List ℤ → Desk → Scan
chord_pass B d = rounds (chord_round B) chord_more (suc (cells_of d)) (record { desk = d; any = false; ever = false })

-- ---- both by turns, and which modes run which after what -------------------------------------------------------------------------------

abbrev pub chord_changed : Scan → Round
chord_changed s = record { desk = s.desk; any = s.ever && is_playing s.desk.position.game }

unfoldable pub both_round : List ℤ → Round → Round
both_round B r = chord_changed (chord_pass B (flag_pass B r.desk))

-- flags first, until the chord pass changes nothing (`run_both_recursive`)
unfoldable pub both_pass : List ℤ → Desk → Desk
both_pass B d = (rounds (both_round B) found_any (suc (cells_of d)) (record { desk = d; any = true })).desk

-- 13 and 16 run both
abbrev pub mode_both : ℕ → Bool
mode_both mode = eqb mode 13 || eqb mode 16

-- 12 and 15 run the flag pass alone
abbrev pub mode_flag : ℕ → Bool
mode_flag mode = eqb mode 12 || eqb mode 15

-- 11 and 14 run the chord pass alone
abbrev pub mode_chord : ℕ → Bool
mode_chord mode = eqb mode 11 || eqb mode 14

-- after a flag added by hand
unfoldable pub passes_after_flag : List ℤ → Desk → Desk
passes_after_flag B d =
    pick (is_playing d.position.game)
    (pick (mode_both d.position.settings.mode) (both_pass B d) (pick (mode_flag d.position.settings.mode) (flag_pass B d) d))
    d

-- after any chord by hand, even one answering 0
unfoldable pub passes_after_chord : List ℤ → Desk → Desk
passes_after_chord B d =
    pick (is_playing d.position.game)
    (pick (mode_both d.position.settings.mode) (both_pass B d) (pick (mode_chord d.position.settings.mode) (chord_pass B d).desk d))
    d

-- ---- by hand ---------------------------------------------------------------------------------------------------------------------------

-- RIGHT: right + 1; 10 to 11, 11 to 17 or 10, 17 to 10, answer 1; on an open cell 0
unfoldable pub right_click : List ℤ → ℕ → Desk → Play
right_click B i d =
    pick (closed_at d.shown i) (done 1 (passes_after_flag B (flagged B i (add_right d)))) (take_back i (add_right d))

abbrev pub add_double : Desk → Desk
add_double d = on d (with_double d.position (d.position.counts.double + 1))

-- a chord by hand that opened adds to dce
abbrev pub add_dce : Play → Play
add_dce o = pick (eqb o.answer 0) o (done o.answer (on o.desk (with_dce o.desk.position (o.desk.position.counts.dce + 1))))

-- if a pass ends in Loss, the hand's own answer stays
abbrev pub then_passes : List ℤ → Play → Play
then_passes B o = done o.answer (passes_after_chord B o.desk)

-- CHORD by hand: double + 1 (`chording_click`)
unfoldable pub chording_click : List ℤ → ℕ → Desk → Play
chording_click B i d = then_passes B (add_dce (perform_chord B i (add_double d)))
