-- The clicks and the automatic passes are quiet. Assumes nothing.
use mathlib.Core.Path.{◌≡◌, refl, sym, ap}
use mathlib.Core.List.{List, [], ◌∷◌}
use mathlib.Core.Bool.{Bool, true, false, false≢true}
use Prim.Native.Nat.{ℕ, zero, suc, ◌+◌}
use lib.ListN.{get_or, set}
use lib.IntN.{ℤ}
use lib.Dec.{eqb}
use borrow.Author.Tests.{eqb-true}
use Rattle.rules.specs.declared.GameState.{GameState}
use Rattle.rules.specs.declared.GameState.TheVariants.{Ready, Playing, Win, Loss, PreFlaging}
use Rattle.rules.specs.Words.{pick, rounds}
use Rattle.rules.specs.States.{is_loss, is_playing, with_flag}
use Rattle.rules.specs.Board.{face_at, mine_at}
use Rattle.rules.specs.Opening.{closed_at, refreshed}
use Rattle.rules.specs.Clicks.{
  Desk,
  Play,
  desk,
  done,
  showing,
  rows_of,
  columns_of,
  cells_of,
  uncovered,
  ended,
  add_left,
  left_counts,
  left_opens,
  left_click,
  add_right,
  bits_with,
  flagged,
  unflagged,
  take_back,
  chord_is_useful,
  closed_around,
  chord_counts,
  chord_opens,
  perform_chord,
}
use Rattle.rules.specs.Passes.{
  listed,
  flag_one,
  flag_all,
  Round,
  some_in,
  flag_round,
  found_any,
  flag_pass,
  Scan,
  noted,
  chord_one,
  chord_scan,
  chord_round,
  chord_more,
  chord_pass,
  chord_changed,
  both_round,
  both_pass,
  mode_both,
  mode_flag,
  mode_chord,
  passes_after_flag,
  passes_after_chord,
  right_click,
  add_double,
  add_dce,
  then_passes,
  chording_click,
}
use Rattle.cells.proofs.Words.{pick_both}
use Rattle.secrecy.proofs.Quiet.{
  Hidden,
  bare,
  over,
  a_desk,
  a_play,
  a_round,
  a_scan,
  lost_in,
  Quiet,
  alike,
  branch,
  then,
  same_cells,
  one_cell,
  only,
  rounds_quiet,
}
use Rattle.secrecy.proofs.Opens.{closed_unknown, flag_unknown, question_unknown, opening_shows, by_answer, ended_quiet}

-- ---- nothing is done, or only counts and states change -----------------------------------------------------------------------------------

pub stay : (s : Desk) → Quiet a_desk (lost_in s) s.shown (λ B h. over s h)
stay s = same_cells a_desk (lost_in s) s.shown (λ B h. over s h) s (λ B h. refl) refl refl

pub idle : (lost : Bool) (n : ℕ) (s : Desk) → lost_in s ≡ lost → Quiet a_play lost s.shown (λ B h. done n (over s h))
idle lost n s e = same_cells a_play lost s.shown (λ B h. done n (over s h)) (done n s) (λ B h. refl) e refl

-- a game that is played is not lost
playing_live : (g : GameState) → is_playing g ≡ true → is_loss g ≡ false
playing_live Ready t = refl
playing_live Playing t = refl
playing_live Win t = refl
playing_live Loss t = absurd (false≢true t)
playing_live PreFlaging t = refl

-- ---- left --------------------------------------------------------------------------------------------------------------------------------

left_opens_quiet : (i : ℕ) (s : Desk) → lost_in s ≡ false → closed_at s.shown i ≡ true → Quiet a_play false s.shown (λ B h. left_opens B i (over s h))
unfolding left_opens
left_opens_quiet i s e t =
    ended_quiet (rows_of s) (columns_of s) 2 (i ∷ []) s.shown (λ B h. pick (mine_at B i) (over s h) (left_counts B (over s h) i))
    (λ B h. pick_both (λ (d : Desk). lost_in d ≡ false) (mine_at B i) (over s h) (left_counts B (over s h) i) (λ _. e) (λ _. e))
    (λ A B h k two agree.
    let q : face_at A i ≡ face_at B i = agree i (opening_shows A two.valued_a (rows_of s) (columns_of s) (i ∷ []) s.shown i refl t) in
    rw q (go A B h k (eqb (face_at B i) 15)))
  where
    go : (A B : List ℤ) (h k : Hidden) (m : Bool)
        → over (pick m (over s h) (left_counts A (over s h) i)) bare ≡ over (pick m (over s k) (left_counts B (over s k) i)) bare
    go A B h k true = refl
    go A B h k false = refl

pub left_quiet : (i : ℕ) (s : Desk) → lost_in s ≡ false → Quiet a_play false s.shown (λ B h. left_click B i (over s h))
unfolding left_click
left_quiet i s e =
    branch a_play false s.shown (closed_at s.shown i) (λ t. left_opens_quiet i (add_left s) e t) (λ _. idle false 0 (add_left s) e)

-- ---- chord -------------------------------------------------------------------------------------------------------------------------------

chord_opens_quiet : (cells : List ℕ) (s : Desk) → lost_in s ≡ false → Quiet a_play false s.shown (λ B h. chord_opens B cells (over s h))
unfolding chord_opens
chord_opens_quiet cells s e =
    ended_quiet (rows_of s) (columns_of s) 3 cells s.shown (λ B h. chord_counts B cells (over s h)) (λ B h. e) (λ A B h k two agree. refl)

perform_quiet : (i : ℕ) (s : Desk) → lost_in s ≡ false → Quiet a_play false s.shown (λ B h. perform_chord B i (over s h))
unfolding perform_chord
perform_quiet i s e =
    branch a_play false s.shown (chord_is_useful (rows_of s) (columns_of s) s.shown i)
    (λ _. chord_opens_quiet (closed_around (rows_of s) (columns_of s) s.shown i) s e)
    (λ _. idle false 0 s e)

-- ---- the flag pass -----------------------------------------------------------------------------------------------------------------------

flag_one_quiet : (i : ℕ) (s : Desk) → Quiet a_desk (lost_in s) s.shown (λ B h. flag_one B i (over s h))
unfolding flag_one
flag_one_quiet i s =
    branch a_desk (lost_in s) s.shown (closed_at s.shown i)
    (λ t. one_cell a_desk (lost_in s) s.shown
    (λ B h. desk (with_flag (over s h).position (s.position.counts.flag + 1)) (set s.shown i 11) (bits_with B h.bits i))
    (desk (with_flag s.position (s.position.counts.flag + 1)) (set s.shown i 11) []) i 11
    (λ B h. refl) refl refl (λ k. closed_unknown k (eqb-true (get_or s.shown i 0) 10 t)))
    (λ _. stay s)

flag_all_quiet : (st : List ℕ) (s : Desk) → Quiet a_desk (lost_in s) s.shown (λ B h. flag_all B st (over s h))
unfolding flag_all
flag_all_quiet [] s = stay s
flag_all_quiet (i ∷ st) s =
    then a_desk a_desk (lost_in s) s.shown (λ B h. flag_all B st (over s h)) (λ d B. flag_one B i d) (flag_all_quiet st s) (flag_one_quiet i)

flag_round_quiet : (r : Round) → Quiet a_round (lost_in r.desk) r.desk.shown (λ B h. flag_round B (a_round.put r h))
unfolding flag_round
flag_round_quiet r =
    let st = listed (rows_of r.desk) (columns_of r.desk) r.desk.shown (cells_of r.desk) in
    only a_desk a_round (lost_in r.desk) r.desk.shown (λ B h. flag_all B st (over r.desk h)) (λ d. record { desk = d; any = some_in st })
    (λ d. refl) (λ d h. refl) (flag_all_quiet st r.desk)

round_stay : (r : Round) → Quiet a_round (lost_in r.desk) r.desk.shown (λ B h. a_round.put r h)
round_stay r = same_cells a_round (lost_in r.desk) r.desk.shown (λ B h. a_round.put r h) r (λ B h. refl) refl refl

pub flag_pass_quiet : (s : Desk) → Quiet a_desk (lost_in s) s.shown (λ B h. flag_pass B (over s h))
unfolding flag_pass
flag_pass_quiet s =
    only a_round a_desk (lost_in s) s.shown (λ B h. rounds (flag_round B) found_any (suc (cells_of s)) (record { desk = over s h; any = true })) (λ r. r.desk)
    (λ r. refl) (λ r h. refl)
    (rounds_quiet a_round flag_round found_any (λ r h. refl) round_stay flag_round_quiet (suc (cells_of s)) (record { desk = s; any = true }))

-- ---- the chord pass ----------------------------------------------------------------------------------------------------------------------

scan_stay : (s : Scan) → Quiet a_scan (lost_in s.desk) s.desk.shown (λ B h. a_scan.put s h)
scan_stay s = same_cells a_scan (lost_in s.desk) s.desk.shown (λ B h. a_scan.put s h) s (λ B h. refl) refl refl

-- a chord that opens does not answer 0
chord_answers : (B : List ℤ) (cells : List ℕ) (d : Desk) → eqb (chord_opens B cells d).answer 0 ≡ false
unfolding chord_opens ended
chord_answers B cells d =
    let o = refreshed B (rows_of d) (columns_of d) cells d.shown in
    by_answer o.hit 3 (uncovered (chord_counts B cells d) o.shown) refl

noted_quiet : (i : ℕ) (s : Scan) → lost_in s.desk ≡ false → Quiet a_scan false s.desk.shown (λ B h. noted (a_scan.put s h) (perform_chord B i (over s.desk h)))
unfolding perform_chord
noted_quiet i s e =
    let d = s.desk in
    let cells = closed_around (rows_of d) (columns_of d) d.shown i in
    go (chord_is_useful (rows_of d) (columns_of d) d.shown i)
    (alike a_scan false d.shown (λ B h. record { desk = (chord_opens B cells (over d h)).desk; any = true; ever = true })
    (λ B h. noted (a_scan.put s h) (chord_opens B cells (over d h)))
    (λ B h. ap (λ (b : Bool). pick b (a_scan.put s h) (record { desk = (chord_opens B cells (over d h)).desk; any = true; ever = true })) (sym (chord_answers B cells (over d h))))
    (only a_play a_scan false d.shown (λ B h. chord_opens B cells (over d h)) (λ o. record { desk = o.desk; any = true; ever = true }) (λ o. refl) (λ o h. refl)
    (chord_opens_quiet cells d e)))
  where
    go : (b : Bool)
        → Quiet a_scan false s.desk.shown (λ B h. noted (a_scan.put s h) (chord_opens B (closed_around (rows_of s.desk) (columns_of s.desk) s.desk.shown i) (over s.desk h)))
        → Quiet a_scan false s.desk.shown
        (λ B h. noted (a_scan.put s h) (pick b (chord_opens B (closed_around (rows_of s.desk) (columns_of s.desk) s.desk.shown i) (over s.desk h)) (done 0 (over s.desk h))))
    go true q = q
    go false q = same_cells a_scan false s.desk.shown (λ B h. a_scan.put s h) s (λ B h. refl) e refl

chord_one_quiet : (i : ℕ) (s : Scan) → Quiet a_scan (lost_in s.desk) s.desk.shown (λ B h. chord_one B i (a_scan.put s h))
unfolding chord_one
chord_one_quiet i s =
    branch a_scan (lost_in s.desk) s.desk.shown (is_playing s.desk.position.game)
    (λ t. let e = playing_live s.desk.position.game t in rw e (noted_quiet i s e))
    (λ _. scan_stay s)

chord_scan_quiet : (n : ℕ) (s : Scan) → Quiet a_scan (lost_in s.desk) s.desk.shown (λ B h. chord_scan B n (a_scan.put s h))
unfolding chord_scan
chord_scan_quiet zero s = scan_stay s
chord_scan_quiet (suc n) s =
    then a_scan a_scan (lost_in s.desk) s.desk.shown (λ B h. chord_scan B n (a_scan.put s h)) (λ t B. chord_one B n t) (chord_scan_quiet n s) (chord_one_quiet n)

chord_round_quiet : (s : Scan) → Quiet a_scan (lost_in s.desk) s.desk.shown (λ B h. chord_round B (a_scan.put s h))
unfolding chord_round
chord_round_quiet s = chord_scan_quiet (cells_of s.desk) (record { desk = s.desk; any = false; ever = s.ever })

chord_pass_quiet : (s : Desk) → Quiet a_scan (lost_in s) s.shown (λ B h. chord_pass B (over s h))
unfolding chord_pass
chord_pass_quiet s =
    rounds_quiet a_scan chord_round chord_more (λ t h. refl) scan_stay chord_round_quiet (suc (cells_of s)) (record { desk = s; any = false; ever = false })

-- ---- both by turns, and the passes of a mode ---------------------------------------------------------------------------------------------

both_round_quiet : (r : Round) → Quiet a_round (lost_in r.desk) r.desk.shown (λ B h. both_round B (a_round.put r h))
unfolding both_round
both_round_quiet r =
    only a_scan a_round (lost_in r.desk) r.desk.shown (λ B h. chord_pass B (flag_pass B (over r.desk h))) chord_changed (λ s. refl) (λ s h. refl)
    (then a_desk a_scan (lost_in r.desk) r.desk.shown (λ B h. flag_pass B (over r.desk h)) (λ d B. chord_pass B d) (flag_pass_quiet r.desk) chord_pass_quiet)

both_pass_quiet : (s : Desk) → Quiet a_desk (lost_in s) s.shown (λ B h. both_pass B (over s h))
unfolding both_pass
both_pass_quiet s =
    only a_round a_desk (lost_in s) s.shown (λ B h. rounds (both_round B) found_any (suc (cells_of s)) (record { desk = over s h; any = true })) (λ r. r.desk)
    (λ r. refl) (λ r h. refl)
    (rounds_quiet a_round both_round found_any (λ r h. refl) round_stay both_round_quiet (suc (cells_of s)) (record { desk = s; any = true }))

after_flag_quiet : (s : Desk) → Quiet a_desk (lost_in s) s.shown (λ B h. passes_after_flag B (over s h))
unfolding passes_after_flag
after_flag_quiet s =
    branch a_desk (lost_in s) s.shown (is_playing s.position.game)
    (λ _. branch a_desk (lost_in s) s.shown (mode_both s.position.settings.mode) (λ _. both_pass_quiet s)
    (λ _. branch a_desk (lost_in s) s.shown (mode_flag s.position.settings.mode) (λ _. flag_pass_quiet s) (λ _. stay s)))
    (λ _. stay s)

after_chord_quiet : (s : Desk) → Quiet a_desk (lost_in s) s.shown (λ B h. passes_after_chord B (over s h))
unfolding passes_after_chord
after_chord_quiet s =
    branch a_desk (lost_in s) s.shown (is_playing s.position.game)
    (λ _. branch a_desk (lost_in s) s.shown (mode_both s.position.settings.mode) (λ _. both_pass_quiet s)
    (λ _. branch a_desk (lost_in s) s.shown (mode_chord s.position.settings.mode)
    (λ _. only a_scan a_desk (lost_in s) s.shown (λ B h. chord_pass B (over s h)) (λ t. t.desk) (λ t. refl) (λ t h. refl) (chord_pass_quiet s))
    (λ _. stay s)))
    (λ _. stay s)

-- ---- right and chord by hand -------------------------------------------------------------------------------------------------------------

-- 10 to 11
flag_quiet : (i : ℕ) (s : Desk) → lost_in s ≡ false → closed_at s.shown i ≡ true → Quiet a_desk false s.shown (λ B h. flagged B i (over s h))
flag_quiet i s e t =
    one_cell a_desk false s.shown (λ B h. flagged B i (over s h)) (flagged [] i s) i 11 (λ B h. refl) e refl (λ k. closed_unknown k (eqb-true (get_or s.shown i 0) 10 t))

pub take_back_quiet : (i : ℕ) (s : Desk) → lost_in s ≡ false → Quiet a_play false s.shown (λ B h. take_back i (over s h))
unfolding take_back
take_back_quiet i s e =
    branch a_play false s.shown (eqb (get_or s.shown i 0) 11)
    (λ t. one_cell a_play false s.shown (λ B h. done 1 (unflagged i (over s h))) (done 1 (unflagged i s)) i (pick s.position.settings.question 17 10)
    (λ B h. refl) e refl (λ k. flag_unknown k (eqb-true (get_or s.shown i 0) 11 t)))
    (λ _. branch a_play false s.shown (eqb (get_or s.shown i 0) 17)
    (λ t. one_cell a_play false s.shown (λ B h. done 1 (showing (over s h) (set s.shown i 10))) (done 1 (showing s (set s.shown i 10))) i 10
    (λ B h. refl) e refl (λ k. question_unknown k (eqb-true (get_or s.shown i 0) 17 t)))
    (λ _. idle false 0 s e))

-- a flag taken back leaves the game state
pub take_back_live : (i : ℕ) (d : Desk) → lost_in (take_back i d).desk ≡ lost_in d
unfolding take_back
take_back_live i d = go (eqb (get_or d.shown i 0) 11) (eqb (get_or d.shown i 0) 17)
  where
    go : (a b : Bool) → lost_in (pick a (done 1 (unflagged i d)) (pick b (done 1 (showing d (set d.shown i 10))) (done 0 d))).desk ≡ lost_in d
    go true b = refl
    go false true = refl
    go false false = refl

-- a right click on a cell that does not show 10 takes back
pub right_takes_back : (B : List ℤ) (i : ℕ) (d : Desk) → closed_at d.shown i ≡ false → right_click B i d ≡ take_back i (add_right d)
unfolding right_click
right_takes_back B i d e = rw e

pub right_quiet : (i : ℕ) (s : Desk) → lost_in s ≡ false → Quiet a_play false s.shown (λ B h. right_click B i (over s h))
unfolding right_click
right_quiet i s e =
    branch a_play false s.shown (closed_at s.shown i)
    (λ t. only a_desk a_play false s.shown (λ B h. passes_after_flag B (flagged B i (add_right (over s h)))) (done 1) (λ d. refl) (λ d h. refl)
    (then a_desk a_desk false s.shown (λ B h. flagged B i (over (add_right s) h)) (λ d B. passes_after_flag B d) (flag_quiet i (add_right s) e t) after_flag_quiet))
    (λ _. take_back_quiet i (add_right s) e)

dce_quiet : (o : Play) → Quiet a_play (lost_in o.desk) o.desk.shown (λ B h. add_dce (a_play.put o h))
dce_quiet o =
    branch a_play (lost_in o.desk) o.desk.shown (eqb o.answer 0)
    (λ _. idle (lost_in o.desk) o.answer o.desk refl)
    (λ _. idle (lost_in o.desk) o.answer (add_dce (done 1 o.desk)).desk refl)

then_passes_quiet : (o : Play) → Quiet a_play (lost_in o.desk) o.desk.shown (λ B h. then_passes B (a_play.put o h))
then_passes_quiet o =
    only a_desk a_play (lost_in o.desk) o.desk.shown (λ B h. passes_after_chord B (over o.desk h)) (done o.answer) (λ d. refl) (λ d h. refl)
    (after_chord_quiet o.desk)

pub chord_quiet : (i : ℕ) (s : Desk) → lost_in s ≡ false → Quiet a_play false s.shown (λ B h. chording_click B i (over s h))
unfolding chording_click
chord_quiet i s e =
    then a_play a_play false s.shown (λ B h. add_dce (perform_chord B i (over (add_double s) h))) (λ o B. then_passes B o)
    (then a_play a_play false s.shown (λ B h. perform_chord B i (over (add_double s) h)) (λ o B. add_dce o) (perform_quiet i (add_double s) e) dce_quiet)
    then_passes_quiet
