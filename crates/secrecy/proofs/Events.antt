-- One event, refused or played in any game state, is quiet. Assumes nothing.
use Rattle.std.specs.Prelude.{Option, Some, None}
use mathlib.Core.Path.{◌≡◌, refl, sym, ap, ◌∙◌}
use mathlib.Core.List.{List}
use mathlib.Core.Bool.{Bool, true, false, not, ◌&&◌}
use Prim.Native.Nat.{ℕ, ◌+◌, ◌-◌}
use lib.ListN.{get_or}
use lib.IntN.{ℤ}
use lib.Dec.{leb, eqb}
use borrow.Author.Tests.{eqb-true}
use Rattle.rules.specs.declared.Pointer.{Pointer}
use Rattle.rules.specs.declared.Pointer.TheVariants.{Cell, Off}
use Rattle.rules.specs.declared.Event.{Event}
use Rattle.rules.specs.declared.Event.TheVariants.{Lc, Lr, Rc, Rr, Mv, Mc, Mr, Cc, Pf, Unknown}
use Rattle.rules.specs.declared.GameState.{GameState}
use Rattle.rules.specs.declared.GameState.TheVariants.{Ready, Playing, Win, Loss, PreFlaging}
use Rattle.rules.specs.declared.MouseState.TheVariants.{UpDownNotFlag}
use Rattle.rules.specs.Words.{pick}
use Rattle.rules.specs.States.{is_loss, with_game, with_mouse, with_middle, with_preflags, with_right}
use Rattle.rules.specs.Grid.{cell_of}
use Rattle.rules.specs.Clicks.{Desk, Play, done, on, columns_of, add_left, add_right, take_back}
use Rattle.rules.specs.Passes.{right_click}
use Rattle.rules.specs.Opening.{closed_at}
use Rattle.rules.specs.Mouse.{moved, flipped}
use Rattle.rules.specs.Step.{
  mouse,
  move,
  on_cell,
  seen_at,
  left_at,
  right_at,
  chord_at,
  chord_from,
  play_lc,
  play_lr,
  play_rc,
  play_rr,
  playing,
  pre_flag,
  ready_lc,
  ready_rc,
  ready,
  cleared,
  cleared_if,
  back_if,
  pre_left,
  pre_lr,
  last_taken_back,
  pre_cell,
  pre_right,
  back_to_ready,
  pre_rc,
  pre_flaging,
  by_game,
  pointer_of,
  bad_pre_flag,
  event_refusal,
  plain_of,
  refusal_at,
  counts,
  play_at,
  step_at,
  step_by_of,
  step_on,
}
use Rattle.secrecy.proofs.Quiet.{Hidden, over, a_play, lost_in, Quiet, alike, branch, after, then, same_cells, one_cell}
use Rattle.secrecy.proofs.Opens.{flag_unknown}
use Rattle.secrecy.proofs.Hands.{idle, left_quiet, take_back_quiet, take_back_live, right_takes_back, right_quiet, chord_quiet}

-- ---- a click where the pointer is --------------------------------------------------------------------------------------------------------

left_at_quiet : (x : Pointer) (s : Desk) → lost_in s ≡ false → Quiet a_play false s.shown (λ B h. left_at B x (over s h))
unfolding left_at
left_at_quiet (Cell r c) s e = left_quiet (cell_of (columns_of s) r c) s e
left_at_quiet Off s e = idle false 0 (add_left s) e

right_at_quiet : (x : Pointer) (s : Desk) → lost_in s ≡ false → Quiet a_play false s.shown (λ B h. right_at B x (over s h))
unfolding right_at
right_at_quiet (Cell r c) s e = right_quiet (cell_of (columns_of s) r c) s e
right_at_quiet Off s e = idle false 0 (add_right s) e

chord_at_quiet : (x : Pointer) (s : Desk) → lost_in s ≡ false → Quiet a_play false s.shown (λ B h. chord_at B x (over s h))
unfolding chord_at
chord_at_quiet (Cell r c) s e = chord_quiet (cell_of (columns_of s) r c) s e
chord_at_quiet Off s e = idle false 0 s e

-- what is shown at the pointer hides nothing
seen_at_lem : (s : Desk) (h : Hidden) (x : Pointer) → seen_at (over s h) x ≡ seen_at s x
unfolding seen_at
seen_at_lem s h (Cell r c) = refl
seen_at_lem s h Off = refl

-- a test of what is shown at the pointer
branch_at : (s : Desk) (x : Pointer) (t : ℕ → Bool) (φ ψ : List ℤ → Hidden → Play) → Quiet a_play false s.shown φ → Quiet a_play false s.shown ψ
    → Quiet a_play false s.shown (λ B h. pick (t (seen_at (over s h) x)) (φ B h) (ψ B h))
branch_at s x t φ ψ f g =
    alike a_play false s.shown (λ B h. pick (t (seen_at s x)) (φ B h) (ψ B h)) (λ B h. pick (t (seen_at (over s h) x)) (φ B h) (ψ B h))
    (λ B h. ap (λ (n : ℕ). pick (t n) (φ B h) (ψ B h)) (sym (seen_at_lem s h x)))
    (branch a_play false s.shown (t (seen_at s x)) (λ _. f) (λ _. g))

-- ---- Playing -----------------------------------------------------------------------------------------------------------------------------

chord_from_quiet : (m : ℕ) (x : Pointer) (s : Desk) → lost_in s ≡ false → Quiet a_play false s.shown (λ B h. chord_from B m x (over s h))
unfolding chord_from
chord_from_quiet m x s e =
    branch a_play false s.shown (eqb m 4) (λ _. chord_at_quiet x s e)
    (λ _. branch a_play false s.shown (eqb m 5) (λ _. chord_at_quiet x (on s (with_right s.position (s.position.counts.right - 1))) e) (λ _. idle false 0 s e))

lc_quiet : (x : Pointer) (s : Desk) → lost_in s ≡ false → Quiet a_play false s.shown (λ B h. play_lc x (over s h))
unfolding play_lc moved
lc_quiet x s e = branch a_play false s.shown (on_cell x) (λ _. idle false 0 (move 0 s) e) (λ _. idle false 0 (add_left s) e)

lr_quiet : (x : Pointer) (s : Desk) → lost_in s ≡ false → Quiet a_play false s.shown (λ B h. play_lr B x (over s h))
unfolding play_lr moved
lr_quiet x s e = branch a_play false s.shown (eqb (mouse s) 3) (λ _. left_at_quiet x (move 1 s) e) (λ _. chord_from_quiet (mouse s) x (move 1 s) e)

rc_quiet : (x : Pointer) (s : Desk) → lost_in s ≡ false → Quiet a_play false s.shown (λ B h. play_rc B x (over s h))
unfolding play_rc moved
rc_quiet x s e =
    branch a_play false s.shown (eqb (mouse s) 0)
    (λ _. alike a_play false s.shown (λ B h. pick (leb 10 (seen_at (over s h) x)) (right_at B x (over (move 2 s) h)) (right_at B x (over (on s (with_mouse s.position UpDownNotFlag)) h)))
    (λ B h. right_at B x (pick (leb 10 (seen_at (over s h) x)) (move 2 (over s h)) (on (over s h) (with_mouse (over s h).position UpDownNotFlag))))
    (λ B h. out B h (leb 10 (seen_at (over s h) x)))
    (branch_at s x (leb 10) (λ B h. right_at B x (over (move 2 s) h)) (λ B h. right_at B x (over (on s (with_mouse s.position UpDownNotFlag)) h))
    (right_at_quiet x (move 2 s) e) (right_at_quiet x (on s (with_mouse s.position UpDownNotFlag)) e)))
    (λ _. idle false 0 (move 2 s) e)
  where
    out : (B : List ℤ) (h : Hidden) (b : Bool)
        → pick b (right_at B x (over (move 2 s) h)) (right_at B x (over (on s (with_mouse s.position UpDownNotFlag)) h))
        ≡ right_at B x (pick b (move 2 (over s h)) (on (over s h) (with_mouse (over s h).position UpDownNotFlag)))
    out B h true = refl
    out B h false = refl

rr_quiet : (x : Pointer) (s : Desk) → lost_in s ≡ false → Quiet a_play false s.shown (λ B h. play_rr B x (over s h))
unfolding play_rr moved
rr_quiet x s e = chord_from_quiet (mouse s) x (move 3 s) e

playing_quiet : (e : Event) (s : Desk) → lost_in s ≡ false → Quiet a_play false s.shown (λ B h. playing B e (over s h))
unfolding playing moved
playing_quiet (Lc x) s e = lc_quiet x s e
playing_quiet (Lr x) s e = lr_quiet x s e
playing_quiet (Rc x) s e = rc_quiet x s e
playing_quiet (Rr x) s e = rr_quiet x s e
playing_quiet (Mv x) s e = idle false 0 s e
playing_quiet (Mc x) s e = idle false 0 (on s (with_middle s.position true)) e
playing_quiet (Mr x) s e = chord_at_quiet x (on s (with_middle s.position false)) e
playing_quiet (Cc x) s e = idle false 0 (move 7 s) e
playing_quiet (Pf x) s e = idle false 0 s e
playing_quiet (Unknown code x) s e = idle false 0 s e

-- ---- Ready -------------------------------------------------------------------------------------------------------------------------------

pre_flag_quiet : (x : Pointer) (s : Desk) → Quiet a_play false s.shown (λ B h. pre_flag B x (over s h))
unfolding pre_flag
pre_flag_quiet x s = right_at_quiet x (on s (with_game (with_preflags s.position (s.position.preflags + 1)) PreFlaging)) refl

ready_quiet : (e : Event) (s : Desk) → lost_in s ≡ false → Quiet a_play false s.shown (λ B h. ready B e (over s h))
unfolding ready ready_lc ready_rc moved
ready_quiet (Lc x) s e =
    branch a_play false s.shown (eqb (mouse s) 0 && on_cell x) (λ _. idle false 0 (on s (with_game (moved 0 s.position) PreFlaging)) refl) (λ _. idle false 0 (move 0 s) e)
ready_quiet (Lr x) s e = idle false 0 (move 1 s) e
ready_quiet (Rc x) s e =
    branch a_play false s.shown (eqb (mouse s) 0 && on_cell x)
    (λ _. right_at_quiet x (on s (with_game (with_preflags (moved 2 s.position) 1) PreFlaging)) refl)
    (λ _. idle false 0 (move 2 s) e)
ready_quiet (Rr x) s e = idle false 0 (move 3 s) e
ready_quiet (Mv x) s e = idle false 0 s e
ready_quiet (Mc x) s e = idle false 0 s e
ready_quiet (Mr x) s e = idle false 0 s e
ready_quiet (Cc x) s e = idle false 0 (move 7 s) e
ready_quiet (Pf x) s e = pre_flag_quiet x s
ready_quiet (Unknown code x) s e = idle false 0 s e

-- ---- PreFlaging --------------------------------------------------------------------------------------------------------------------------

-- clearing leaves the cells
cleared_quiet : (n : ℕ) (s : Desk) → Quiet a_play false s.shown (λ B h. done n (cleared (over s h)))
cleared_quiet n s = same_cells a_play false s.shown (λ B h. done n (cleared (over s h))) (done n (cleared s)) (λ B h. refl) refl refl

pre_left_quiet : (x : Pointer) (s : Desk) → lost_in s ≡ false → Quiet a_play false s.shown (λ B h. pre_left B x (over s h))
unfolding pre_left
pre_left_quiet x s e =
    branch a_play false s.shown (on_cell x)
    (λ _. branch_at s x (λ n. eqb n 10) (λ B h. left_at B x (over (on s (with_game s.position Playing)) h)) (λ B h. done 0 (over (add_left s) h))
    (left_at_quiet x (on s (with_game s.position Playing)) refl) (idle false 0 (add_left s) e))
    (λ _. branch a_play false s.shown (eqb s.position.preflags 0) (λ _. cleared_quiet 0 s) (λ _. idle false 0 (add_left s) e))

-- a cell that does not show 10 is right-clicked, and the game is cleared after it
cleared_if_quiet : (b : Bool) (o : Play) → lost_in o.desk ≡ false → Quiet a_play (lost_in o.desk) o.desk.shown (λ B h. cleared_if b (a_play.put o h))
cleared_if_quiet true o e = rw e (cleared_quiet o.answer o.desk)
cleared_if_quiet false o e = idle (lost_in o.desk) o.answer o.desk refl

take_back_cleared_quiet : (i : ℕ) (b : Bool) (s : Desk) → lost_in s ≡ false → closed_at s.shown i ≡ false
    → Quiet a_play false s.shown (λ B h. cleared_if b (right_click B i (over s h)))
take_back_cleared_quiet i b s e n =
    alike a_play false s.shown (λ B h. cleared_if b (take_back i (over (add_right s) h))) (λ B h. cleared_if b (right_click B i (over s h)))
    (λ B h. ap (cleared_if b) (sym (right_takes_back B i (over s h) n)))
    (after a_play a_play false s.shown (λ B h. take_back i (over (add_right s) h)) (λ o B. cleared_if b o) (take_back_quiet i (add_right s) e)
    (λ A k. cleared_if_quiet b (take_back i (over (add_right s) k)) (take_back_live i (over (add_right s) k) ∙ e)))

pre_cell_quiet : (i : ℕ) (s : Desk) → lost_in s ≡ false → Quiet a_play false s.shown (λ B h. pre_cell B i (over s h))
unfolding pre_cell
pre_cell_quiet i s e =
    branch a_play false s.shown (eqb (get_or s.shown i 0) 10)
    (λ _. right_quiet i (on s (with_preflags s.position (s.position.preflags + 1))) e)
    (λ n. branch a_play false s.shown (eqb (get_or s.shown i 0) 11)
    (λ t. branch a_play false s.shown (not s.position.settings.question && eqb s.position.preflags 1)
    (λ _. one_cell a_play false s.shown (λ B h. done 0 (last_taken_back i (over s h))) (done 0 (last_taken_back i s)) i 10 (λ B h. refl) refl refl
    (λ k. flag_unknown k (eqb-true (get_or s.shown i 0) 11 t)))
    (λ _. right_quiet i (on s (with_preflags s.position (s.position.preflags - 1))) e))
    (λ _. take_back_cleared_quiet i (eqb s.position.preflags 0) s e n))

pre_right_quiet : (x : Pointer) (s : Desk) → lost_in s ≡ false → Quiet a_play false s.shown (λ B h. pre_right B x (over s h))
unfolding pre_right moved
pre_right_quiet (Cell r c) s e = pre_cell_quiet (cell_of (columns_of s) r c) (move 2 s) e
pre_right_quiet Off s e = idle false 0 (add_right (on s (with_mouse s.position UpDownNotFlag))) e

back_quiet : (b : Bool) (s : Desk) → lost_in s ≡ false → Quiet a_play false s.shown (λ B h. done 0 (back_if b (over s h)))
back_quiet true s e = idle false 0 (on s (with_game s.position Ready)) refl
back_quiet false s e = idle false 0 s e

pre_flaging_quiet : (e : Event) (s : Desk) → lost_in s ≡ false → Quiet a_play false s.shown (λ B h. pre_flaging B e (over s h))
unfolding pre_flaging pre_lr pre_rc moved
pre_flaging_quiet (Lc x) s e = lc_quiet x s e
pre_flaging_quiet (Lr x) s e = branch a_play false s.shown (eqb (mouse s) 3) (λ _. pre_left_quiet x (move 1 s) e) (λ _. lr_quiet x s e)
pre_flaging_quiet (Rc x) s e =
    branch a_play false s.shown (eqb (mouse s) 0) (λ _. pre_right_quiet x s e) (λ _. back_quiet (back_to_ready x s) (move 2 s) e)
pre_flaging_quiet (Rr x) s e = rr_quiet x s e
pre_flaging_quiet (Mv x) s e = idle false 0 s e
pre_flaging_quiet (Mc x) s e = idle false 0 (on s (with_middle s.position true)) e
pre_flaging_quiet (Mr x) s e = idle false 0 (on s (with_middle s.position false)) e
pre_flaging_quiet (Cc x) s e = back_quiet (back_to_ready x s) (move 7 s) e
pre_flaging_quiet (Pf x) s e = pre_flag_quiet x s
pre_flaging_quiet (Unknown code x) s e = idle false 0 s e

-- ---- the step ----------------------------------------------------------------------------------------------------------------------------

by_game_quiet : (g : GameState) (e : Event) (s : Desk) → lost_in s ≡ is_loss g → Quiet a_play (is_loss g) s.shown (λ B h. by_game g B e (over s h))
unfolding by_game
by_game_quiet Ready e s l = ready_quiet e s l
by_game_quiet PreFlaging e s l = pre_flaging_quiet e s l
by_game_quiet Playing e s l = playing_quiet e s l
by_game_quiet Win e s l = idle false 0 s l
by_game_quiet Loss e s l = idle true 0 s l

-- a refusal does not read what is hidden
bad_pre_flag_lem : (s : Desk) (h : Hidden) (e : Event) → bad_pre_flag (over s h) e ≡ bad_pre_flag s e
unfolding bad_pre_flag
bad_pre_flag_lem s h (Lc x) = refl
bad_pre_flag_lem s h (Lr x) = refl
bad_pre_flag_lem s h (Rc x) = refl
bad_pre_flag_lem s h (Rr x) = refl
bad_pre_flag_lem s h (Mv x) = refl
bad_pre_flag_lem s h (Mc x) = refl
bad_pre_flag_lem s h (Mr x) = refl
bad_pre_flag_lem s h (Cc x) = refl
bad_pre_flag_lem s h (Pf x) = ap (λ (n : ℕ). not (eqb n 10)) (seen_at_lem s h x)
bad_pre_flag_lem s h (Unknown code x) = refl

event_refusal_lem : (g : GameState) (e : Event) (s : Desk) (h : Hidden) → event_refusal g e (over s h) ≡ event_refusal g e s
unfolding event_refusal
event_refusal_lem Ready e s h = rw (bad_pre_flag_lem s h e)
event_refusal_lem PreFlaging e s h = rw (bad_pre_flag_lem s h e)
event_refusal_lem Playing e s h = refl
event_refusal_lem Win e s h = refl
event_refusal_lem Loss e s h = refl

refusal_at_lem : (code : ℕ) (x : Pointer) (s : Desk) (h : Hidden) → refusal_at code x (over s h) ≡ refusal_at code x s
unfolding refusal_at plain_of
refusal_at_lem code x s h = rw (event_refusal_lem s.position.game (plain_of code x s) s h)

play_at_quiet : (code : ℕ) (x : Pointer) (s : Desk) → Quiet a_play (lost_in s) s.shown (λ B h. play_at B code x (over s h))
unfolding play_at plain_of
play_at_quiet code x s =
    then a_play a_play (lost_in s) s.shown
    (λ B h. by_game s.position.game B (plain_of code x s) (over (on s (with_middle s.position (flipped code s.position.middle))) h)) (λ o B. counts s o)
    (by_game_quiet s.position.game (plain_of code x s) (on s (with_middle s.position (flipped code s.position.middle))) refl)
    (λ o. idle (lost_in o.desk) o.answer (counts s o).desk refl)

step_at_quiet : (code : ℕ) (x : Pointer) (s : Desk) → Quiet a_play (lost_in s) s.shown (λ B h. step_at B code x (over s h))
unfolding step_at
step_at_quiet code x s =
    alike a_play (lost_in s) s.shown (λ B h. pick (eqb (refusal_at code x s) 0) (play_at B code x (over s h)) (done (refusal_at code x s) (over s h)))
    (λ B h. pick (eqb (refusal_at code x (over s h)) 0) (play_at B code x (over s h)) (done (refusal_at code x (over s h)) (over s h)))
    (λ B h. ap (λ (n : ℕ). pick (eqb n 0) (play_at B code x (over s h)) (done n (over s h))) (sym (refusal_at_lem code x s h)))
    (branch a_play (lost_in s) s.shown (eqb (refusal_at code x s) 0) (λ _. play_at_quiet code x s) (λ _. idle (lost_in s) (refusal_at code x s) s refl))

step_by_quiet : (code : ℕ) (p : Option Pointer) (s : Desk) → Quiet a_play (lost_in s) s.shown (λ B h. step_by_of B code p (over s h))
unfolding step_by_of
step_by_quiet code (Some x) s = step_at_quiet code x s
step_by_quiet code None s = idle (lost_in s) 30 s refl

-- THE step is quiet
pub step_quiet : (code r c : ℕ) (s : Desk) → Quiet a_play (lost_in s) s.shown (λ B h. step_on B code r c (over s h))
unfolding step_on
step_quiet code r c s = step_by_quiet code (pointer_of s.position.settings r c) s
