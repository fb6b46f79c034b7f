-- The right click by hand: what it does to the position and to the counts of cells. The passes that may follow it while Playing come after, in Passes.
use mathlib.Core.Path.{◌≡◌, ◌∙◌, sym, ap, refl, subst⁻¹}
use mathlib.Core.Bool.{Bool, true, false}
use mathlib.Core.List.{List}
use Prim.Native.Nat.{ℕ, suc, ◌+◌, ◌<◌}
use native.Mathlib.Omega.{arith}
use borrow.Author.Tests.{eqb-true}
use lib.Dec.{eqb}
use lib.IntN.{ℤ}
use lib.ListN.{length, get_or, set}
use Rattle.rules.specs.Words.{pick, bit}
use Rattle.rules.specs.States.{is_loss, is_playing}
use Rattle.rules.specs.Board.{face_at}
use Rattle.rules.specs.Opening.{closed_at, count_shown, is_open}
use Rattle.rules.specs.Clicks.{Desk, done, showing, add_right, flagged, unflagged, take_back, adds_rce}
use Rattle.rules.specs.Passes.{right_click, passes_after_flag}
use Rattle.rules.specs.Lawful.{shows, is_flag, is_won}
use Rattle.cells.proofs.Words.{bit_le}
use Rattle.keep.specs.Kept.{SoundAt}
use Rattle.keep.proofs.Counting.{shown_set}
use Rattle.keep.proofs.Unopened.{won_same, unopened_set}
use Rattle.keep.proofs.Fresh.{closed_lawful}
use Rattle.keep.proofs.Moves.{right_sound}
use Rattle.keep.proofs.Reshow.{Hidden, hidden, reshow, flag_lawful, back_hidden, back_lawful, bits_length, bits_mines, bit_in, flag_has}

-- what a right click leaves of desk d, where the cell showed x
pub record RightDone (n : ℕ) (B : List ℤ) (x : ℕ) (d e : Desk) : Type 0 where
  pub sound : SoundAt (suc n) B e
  pub settings : e.position.settings ≡ d.position.settings
  pub game : e.position.game ≡ d.position.game
  pub mouse : e.position.mouse ≡ d.position.mouse
  pub preflags : e.position.preflags ≡ d.position.preflags
  pub events : e.position.events ≡ d.position.events
  pub right : e.position.counts.right ≡ d.position.counts.right + 1
  pub solved : e.position.secrets.solved_left + e.position.secrets.solved_chord ≡ d.position.secrets.solved_left + d.position.secrets.solved_chord
  pub opens : count_shown is_open e.shown ≡ count_shown is_open d.shown
  pub won : is_won B e.shown ≡ is_won B d.shown
  pub elevens : count_shown (shows 11) e.shown + bit (eqb x 11) ≡ count_shown (shows 11) d.shown + bit (eqb x 10)

-- cells that are hidden before and after are neither opened nor won by
hidden_opens : (l : List ℕ) (i x v : ℕ) → i < length l → get_or l i 0 ≡ x → Hidden x → Hidden v → count_shown is_open (set l i v) ≡ count_shown is_open l
hidden_opens l i x v lt e hx hv =
    let a = shown_set is_open l i x v lt e in
    let u : bit (is_open x) ≡ 0 = ap bit hx.shut in
    let w : bit (is_open v) ≡ 0 = ap bit hv.shut in
    omega arith

pub hidden_won : (B : List ℤ) (l : List ℕ) (i x v : ℕ) → i < length l → get_or l i 0 ≡ x → Hidden x → Hidden v → is_won B (set l i v) ≡ is_won B l
hidden_won B l i x v lt e hx hv = won_same B l (set l i v) (unopened_set B l i x v lt e (hv.shut ∙ sym hx.shut))

back_elevens : (l : List ℕ) (i : ℕ) (q : Bool) → i < length l → get_or l i 0 ≡ 11 → count_shown (shows 11) (set l i (pick q 17 10)) + 1 ≡ count_shown (shows 11) l
back_elevens l i true lt e = let a = shown_set (shows 11) l i 11 17 lt e in omega arith
back_elevens l i false lt e = let a = shown_set (shows 11) l i 11 10 lt e in omega arith

back_flag : (q : Bool) → bit (is_flag (pick q 17 10)) ≡ 0
back_flag true = refl
back_flag false = refl

module _ (n : ℕ) (B : List ℤ) (i : ℕ) (d : Desk) (h : SoundAt n B d) (lt : i < length d.shown) where
  -- 10 to 11
  pub right_flags : get_or d.shown i 0 ≡ 10 → RightDone n B 10 d (flagged B i (add_right d))
  right_flags e = record {
    sound =
        reshow i 10 11 lt e (hidden 10 refl) (hidden 11 refl)
        (record {
          bounded = let b = h.bounded in let o = bit_le (adds_rce B d.bits i) in omega arith;
          double = omega arith;
          solved = refl;
          flag = omega arith;
          unopened = refl;
          here = flag_lawful d.position.settings.question (is_loss d.position.game) (face_at B i);
          room = bits_length B d.bits i;
          mines = bits_mines B d.bits i (bit_in h.ground i lt) h.mines;
        })
        h;
    settings = refl;
    game = refl;
    mouse = refl;
    preflags = refl;
    events = refl;
    right = refl;
    solved = refl;
    opens = hidden_opens d.shown i 10 11 lt e (hidden 10 refl) (hidden 11 refl);
    won = hidden_won B d.shown i 10 11 lt e (hidden 10 refl) (hidden 11 refl);
    elevens = let a = shown_set (shows 11) d.shown i 10 11 lt e in omega arith;
  }

  -- 11 to 17 or 10
  right_unflags : get_or d.shown i 0 ≡ 11 → RightDone n B 11 d (unflagged i (add_right d))
  right_unflags e =
      let q : Bool = d.position.settings.question in
      record {
        sound =
            reshow i 11 (pick q 17 10) lt e (hidden 11 refl) (back_hidden q)
            (record {
              bounded = let b = h.bounded in omega arith;
              double = omega arith;
              solved = refl;
              flag = let f = flag_has h i lt e in let z = back_flag q in omega arith;
              unopened = refl;
              here = back_lawful q (is_loss d.position.game) (face_at B i);
              room = refl;
              mines = h.mines;
            })
            h;
        settings = refl;
        game = refl;
        mouse = refl;
        preflags = refl;
        events = refl;
        right = refl;
        solved = refl;
        opens = hidden_opens d.shown i 11 (pick q 17 10) lt e (hidden 11 refl) (back_hidden q);
        won = hidden_won B d.shown i 11 (pick q 17 10) lt e (hidden 11 refl) (back_hidden q);
        elevens = let a = back_elevens d.shown i q lt e in omega arith;
      }

  -- 17 to 10
  right_unasks : get_or d.shown i 0 ≡ 17 → RightDone n B 17 d (showing (add_right d) (set d.shown i 10))
  right_unasks e = record {
    sound =
        reshow i 17 10 lt e (hidden 17 refl) (hidden 10 refl)
        (record {
          bounded = let b = h.bounded in omega arith;
          double = omega arith;
          solved = refl;
          flag = omega arith;
          unopened = refl;
          here = closed_lawful d.position.settings.question (is_loss d.position.game) (face_at B i);
          room = refl;
          mines = h.mines;
        })
        h;
    settings = refl;
    game = refl;
    mouse = refl;
    preflags = refl;
    events = refl;
    right = refl;
    solved = refl;
    opens = hidden_opens d.shown i 17 10 lt e (hidden 17 refl) (hidden 10 refl);
    won = hidden_won B d.shown i 17 10 lt e (hidden 17 refl) (hidden 10 refl);
    elevens = let a = shown_set (shows 11) d.shown i 17 10 lt e in omega arith;
  }

  -- any other cell: right + 1
  right_counts : (x : ℕ) → eqb x 10 ≡ false → eqb x 11 ≡ false → RightDone n B x d (add_right d)
  right_counts x a b = record {
    sound = right_sound d h;
    settings = refl;
    game = refl;
    mouse = refl;
    preflags = refl;
    events = refl;
    right = refl;
    solved = refl;
    opens = refl;
    won = refl;
    elevens = let u : bit (eqb x 11) ≡ 0 = ap bit b in let v : bit (eqb x 10) ≡ 0 = ap bit a in omega arith;
  }

  back_by : (x : ℕ) → get_or d.shown i 0 ≡ x → eqb x 10 ≡ false → (b c : Bool) → eqb x 11 ≡ b → eqb x 17 ≡ c
      → RightDone n B x d (pick b (done 1 (unflagged i (add_right d))) (pick c (done 1 (showing (add_right d) (set d.shown i 10))) (done 0 (add_right d)))).desk
  back_by x e z true c eb ec =
      subst⁻¹ (λ (x : ℕ). RightDone n B x d (unflagged i (add_right d))) (eqb-true x 11 eb) (right_unflags (e ∙ eqb-true x 11 eb))
  back_by x e z false true eb ec =
      subst⁻¹ (λ (x : ℕ). RightDone n B x d (showing (add_right d) (set d.shown i 10))) (eqb-true x 17 ec) (right_unasks (e ∙ eqb-true x 17 ec))
  back_by x e z false false eb ec = right_counts x z eb

  -- a cell that does not show 10
  pub right_takes_back : closed_at d.shown i ≡ false → RightDone n B (get_or d.shown i 0) d (take_back i (add_right d)).desk
  unfolding take_back
  right_takes_back z = back_by (get_or d.shown i 0) refl z (eqb (get_or d.shown i 0) 11) (eqb (get_or d.shown i 0) 17) refl refl

  quiet_flags : is_playing d.position.game ≡ false → passes_after_flag B (flagged B i (add_right d)) ≡ flagged B i (add_right d)
  unfolding passes_after_flag
  quiet_flags g = rw g

  -- where the game is not Playing no pass follows
  pub right_quiet : is_playing d.position.game ≡ false → RightDone n B (get_or d.shown i 0) d (right_click B i d).desk
  unfolding right_click
  right_quiet g = go (closed_at d.shown i) refl
    where
      go : (t : Bool) → closed_at d.shown i ≡ t
          → RightDone n B (get_or d.shown i 0) d (pick t (done 1 (passes_after_flag B (flagged B i (add_right d)))) (take_back i (add_right d))).desk
      go true e =
          subst⁻¹ (λ (e : Desk). RightDone n B (get_or d.shown i 0) d e) (quiet_flags g)
          (subst⁻¹ (λ (x : ℕ). RightDone n B x d (flagged B i (add_right d))) (eqb-true _ 10 e) (right_flags (eqb-true _ 10 e)))
      go false e = right_takes_back e
