-- Every event in every game state keeps the position, at the bound that counts the event; refused events too, since they change nothing that matters.
use mathlib.Core.Path.{◌≡◌, ◌∙◌, sym, ap, refl, subst, subst⁻¹}
use mathlib.Core.Bool.{Bool, true, false, not, ◌&&◌, true≢false}
use mathlib.Core.List.{List}
use mathlib.Core.Logic.{◌⊎◌, inl, inr}
use Prim.Native.Nat.{ℕ, suc, ◌+◌, ◌-◌, ◌<◌, ◌≤◌}
use native.Mathlib.Omega.{arith}
use borrow.Author.Tests.{eqb-true}
use lib.Dec.{eqb, leb}
use lib.IntN.{ℤ}
use lib.ListN.{length, get_or}
use Rattle.rules.specs.declared.Settings.{Settings}
use Rattle.rules.specs.declared.Pointer.{Pointer}
use Rattle.rules.specs.declared.Pointer.TheVariants.{Cell, Off}
use Rattle.rules.specs.declared.Event.{Event}
use Rattle.rules.specs.declared.Event.TheVariants.{Lc, Lr, Rc, Rr, Mv, Mc, Mr, Cc, Pf, Unknown}
use Rattle.rules.specs.declared.GameState.{GameState}
use Rattle.rules.specs.declared.GameState.TheVariants.{Ready, Playing, Win, Loss, PreFlaging}
use Rattle.rules.specs.declared.MouseState.TheVariants.{UpDownNotFlag}
use Rattle.rules.specs.Words.{pick, bit}
use Rattle.rules.specs.States.{is_loss, is_not_flag, is_playing, with_game, with_mouse, with_middle, with_preflags, with_right}
use Rattle.rules.specs.Grid.{cell_of}
use Rattle.rules.specs.Opening.{count_shown, is_open}
use Rattle.rules.specs.Clicks.{Desk, Play, done, on, columns_of, add_left, left_click}
use Rattle.rules.specs.Passes.{right_click, chording_click}
use Rattle.rules.specs.Mouse.{moved}
use Rattle.rules.specs.Step.{mouse, move, on_cell, seen_at, left_at, right_at, chord_at, chord_from, play_lc, play_lr, play_rc, play_rr, playing, pre_flag, ready_lc, ready_rc, ready, cleared, cleared_if, back_if, pre_left, pre_lr, last_taken_back, pre_cell, pre_right, back_to_ready, pre_rc, pre_flaging, by_game}
use Rattle.rules.specs.Lawful.{shows, is_won}
use Rattle.cells.proofs.Words.{and_left, and_right, bit_le, pick_both}
use Rattle.keep.specs.Kept.{Sound, SoundAt, Phase, Live, Inside, InsideOf}
use Rattle.keep.proofs.Counting.{shown_set}
use Rattle.keep.proofs.Fresh.{closed_lawful}
use Rattle.keep.proofs.Reshow.{hidden, reshow, flag_has}
use Rattle.keep.proofs.Moves.{later, left_counts_lem, double_counts, right_sound, right_back, middle_keeps, move_keeps, Frees, releases, freed_at, phase_in, sound_in, to_preflaging, to_ready, cleared_kept}
use Rattle.keep.proofs.Room.{cell_shown}
use Rattle.keep.proofs.Right.{right_quiet}
use Rattle.keep.proofs.Left.{left_opens_lem, left_live}
use Rattle.keep.proofs.Passes.{right_live, chording_live, chording_shut}

-- ---- lifting -----------------------------------------------------------------------------------------------------------------------------

abbrev LiveO : ℕ → List ℤ → Settings → Play → Type 0
LiveO n B s o = Live n B s o.desk

pub later_live : {n : ℕ} {B : List ℤ} {s : Settings} {d : Desk} → Live n B s d → Live (suc n) B s d
later_live l = record { kept = later l.kept; settings = l.settings; told = l.told }

move_live : {n : ℕ} {B : List ℤ} {s : Settings} {d : Desk} (e : ℕ) → Live n B s d → Live n B s (move e d)
unfolding moved
move_live e l = record { kept = move_keeps e l.kept; settings = l.settings; told = l.told }

left_counts_live : {n : ℕ} {B : List ℤ} {s : Settings} {d : Desk} → Live n B s d → Live (suc n) B s (add_left d)
left_counts_live l = record { kept = left_counts_lem l.kept; settings = l.settings; told = l.told }

pub middle_live : {n : ℕ} {B : List ℤ} {s : Settings} {d : Desk} (t : Bool) → Live n B s d → Live n B s (on d (with_middle d.position t))
middle_live t l = record { kept = middle_keeps t l.kept; settings = l.settings; told = l.told }

not_loss : {A : Type 0} (g : GameState) → is_loss g ≡ false → g ≡ Loss → A
not_loss g e q = absurd (true≢false (sym (ap is_loss q) ∙ e))

-- ---- before the game ---------------------------------------------------------------------------------------------------------------------

module _ (n : ℕ) (B : List ℤ) (s : Settings) where
  -- a right click in PreFlaging, where the pre-flag count has room for the 11s that it leaves
  right_before : (i : ℕ) (d : Desk) → d.position.game ≡ PreFlaging → d.position.settings ≡ s
      → Sound n B false d.position.settings d.position.counts d.position.secrets d.shown d.bits
      → d.position.preflags ≤ suc n → count_shown is_open d.shown ≡ 0
      → count_shown (shows 11) d.shown + bit (eqb (get_or d.shown i 0) 10) ≤ d.position.preflags + bit (eqb (get_or d.shown i 0) 11)
      → i < length d.shown → Live (suc n) B s (right_click B i d).desk
  right_before i d g es h p z room lt =
      let r = right_quiet n B i d (subst⁻¹ (λ (g : GameState). Sound n B (is_loss g) d.position.settings d.position.counts d.position.secrets d.shown d.bits) g h) lt
      (ap is_playing g) in
      record {
        kept = record {
          sound = r.sound;
          preflags = let a = r.preflags in omega arith;
          held = λ _. let a = r.right in omega arith;
          phase =
              subst⁻¹ (λ (g : GameState). Phase g (right_click B i d).desk.position.mouse (right_click B i d).desk.position.preflags B (right_click B i d).desk.shown) (r.game ∙ g)
              (record { flags = let a = r.elevens in let e = r.preflags in omega arith; shut = r.opens ∙ z });
        };
        settings = r.settings ∙ es;
        told = not_loss _ (ap is_loss (r.game ∙ g));
      }

  -- a flag before the game, where the pre-flag count has room for one more
  right_before_at : (x : Pointer) (d : Desk) → Inside s x → d.position.game ≡ PreFlaging → d.position.settings ≡ s
      → Sound n B false d.position.settings d.position.counts d.position.secrets d.shown d.bits
      → d.position.preflags ≤ suc n → count_shown is_open d.shown ≡ 0 → suc (count_shown (shows 11) d.shown) ≤ d.position.preflags
      → Live (suc n) B s (right_at B x d).desk
  unfolding right_at
  right_before_at (Cell r c) d i g es h p z room =
      right_before (cell_of (columns_of d) r c) d g es h p z
      (let b = bit_le (eqb (get_or d.shown (cell_of (columns_of d) r c) 0) 10) in omega arith)
      (cell_shown h.ground es r c i)
  right_before_at Off d i g es h p z room = record {
    kept = record {
      sound =
          right_sound d (subst⁻¹ (λ (g : GameState). Sound n B (is_loss g) d.position.settings d.position.counts d.position.secrets d.shown d.bits) g h);
      preflags = p;
      held = λ _. omega arith;
      phase = subst⁻¹ (λ (g : GameState). Phase g d.position.mouse d.position.preflags B d.shown) g (record { flags = omega arith; shut = z });
    };
    settings = es;
    told = not_loss d.position.game (ap is_loss g);
  }

-- ---- Ready -------------------------------------------------------------------------------------------------------------------------------

module _ (n : ℕ) (B : List ℤ) (s : Settings) (d : Desk) (l : Live n B s d) (g : d.position.game ≡ Ready) where
  pre_flag_ready : (x : Pointer) → Inside s x → LiveO (suc n) B s (pre_flag B x d)
  unfolding pre_flag
  pre_flag_ready x i =
      let w = phase_in Ready g l.kept in
      right_before_at n B s x (on d (with_game (with_preflags d.position (d.position.preflags + 1)) PreFlaging)) i refl l.settings (sound_in Ready g l.kept)
      (let a = l.kept.preflags in omega arith) w.shut (let a = w.unflagged in omega arith)

  ready_lc_lem : (x : Pointer) → LiveO (suc n) B s (ready_lc x d)
  unfolding ready_lc moved
  ready_lc_lem x =
      pick_both (LiveO (suc n) B s) (eqb (mouse d) 0 && on_cell x) (done 0 (on d (with_game (moved 0 d.position) PreFlaging))) (done 0 (move 0 d))
      (λ _. record { kept = to_preflaging g (move_keeps 0 (later l.kept)); settings = l.settings; told = not_loss PreFlaging refl })
      (λ _. move_live 0 (later_live l))

  ready_rc_lem : (x : Pointer) → Inside s x → LiveO (suc n) B s (ready_rc B x d)
  unfolding ready_rc moved
  ready_rc_lem x i =
      let w = phase_in Ready g l.kept in
      pick_both (LiveO (suc n) B s) (eqb (mouse d) 0 && on_cell x) (right_at B x (on d (with_game (with_preflags (moved 2 d.position) 1) PreFlaging))) (done 0 (move 2 d))
      (λ _.
      right_before_at n B s x (on d (with_game (with_preflags (moved 2 d.position) 1) PreFlaging)) i refl l.settings (sound_in Ready g l.kept)
      (omega arith) w.shut (let a = w.unflagged in omega arith))
      (λ _. move_live 2 (later_live l))

  pub ready_live : (e : Event) → InsideOf s e → LiveO (suc n) B s (ready B e d)
  unfolding ready
  ready_live (Lc x) i = ready_lc_lem x
  ready_live (Lr x) i = move_live 1 (later_live l)
  ready_live (Rc x) i = ready_rc_lem x i
  ready_live (Rr x) i = move_live 3 (later_live l)
  ready_live (Mv x) i = later_live l
  ready_live (Mc x) i = later_live l
  ready_live (Mr x) i = later_live l
  ready_live (Cc x) i = move_live 7 (later_live l)
  ready_live (Pf x) i = pre_flag_ready x i
  ready_live (Unknown code x) i = later_live l

-- ---- chords, while Playing and before the game -------------------------------------------------------------------------------------------

abbrev Chords : GameState → Type 0
Chords g = (g ≡ Playing) ⊎ (g ≡ PreFlaging)

module _ (n : ℕ) (B : List ℤ) (s : Settings) where
  chord_live : (i : ℕ) (d : Desk) → Chords d.position.game → Live n B s d → i < length d.shown → LiveO (suc n) B s (chording_click B i d)
  chord_live i d (inl g) l lt = chording_live n B i s d g l
  chord_live i d (inr g) l lt =
      subst⁻¹ (LiveO (suc n) B s) (chording_shut B i d (phase_in PreFlaging g l.kept).shut lt (ap is_playing g))
      (record { kept = double_counts l.kept; settings = l.settings; told = l.told })

  chord_at_live : (x : Pointer) (d : Desk) → Inside s x → Chords d.position.game → Live n B s d → LiveO (suc n) B s (chord_at B x d)
  unfolding chord_at
  chord_at_live (Cell r c) d i g l = chord_live (cell_of (columns_of d) r c) d g l (cell_shown l.kept.sound.ground l.settings r c i)
  chord_at_live Off d i g l = later_live l

  chord_from_live : (m : ℕ) (x : Pointer) (d : Desk) → Inside s x → Chords d.position.game → Live n B s d
      → (m ≡ 5 → is_not_flag d.position.mouse ≡ false) → LiveO (suc n) B s (chord_from B m x d)
  unfolding chord_from
  chord_from_live m x d i g l free =
      pick_both (LiveO (suc n) B s) (eqb m 4) (chord_at B x d)
      (pick (eqb m 5) (chord_at B x (on d (with_right d.position (d.position.counts.right - 1)))) (done 0 d))
      (λ _. chord_at_live x d i g l)
      (λ _. pick_both (LiveO (suc n) B s) (eqb m 5) (chord_at B x (on d (with_right d.position (d.position.counts.right - 1)))) (done 0 d)
      (λ e.
      chord_at_live x (on d (with_right d.position (d.position.counts.right - 1))) i g
      (record { kept = right_back (free (eqb-true m 5 e)) l.kept; settings = l.settings; told = l.told }))
      (λ _. later_live l))

  -- a button goes up: the mouse moves on by event code e, which leaves ChordingNotFlag for no NotFlag state
  release_live : (e : ℕ) → Frees e 5 → (x : Pointer) (d : Desk) → Inside s x → Chords d.position.game → Live n B s d
      → LiveO (suc n) B s (chord_from B (mouse d) x (move e d))
  unfolding moved
  release_live e f x d i g l = chord_from_live (mouse d) x (move e d) i g (move_live e l) (freed_at e 5 d f)

-- ---- Playing -----------------------------------------------------------------------------------------------------------------------------

play_lc_live : (n : ℕ) (B : List ℤ) (s : Settings) (x : Pointer) (d : Desk) → Live n B s d → LiveO (suc n) B s (play_lc x d)
unfolding play_lc
play_lc_live n B s x d l =
    pick_both (LiveO (suc n) B s) (on_cell x) (done 0 (move 0 d)) (done 0 (add_left d)) (λ _. move_live 0 (later_live l)) (λ _. left_counts_live l)

module _ (n : ℕ) (B : List ℤ) (s : Settings) (d : Desk) (l : Live n B s d) (g : d.position.game ≡ Playing) where
  left_at_live : (x : Pointer) (d : Desk) → d.position.game ≡ Playing → Live n B s d → LiveO (suc n) B s (left_at B x d)
  unfolding left_at
  left_at_live (Cell r c) d g l = left_live n B (cell_of (columns_of d) r c) s d g l
  left_at_live Off d g l = left_counts_live l

  -- whatever the mouse
  right_at_live : (x : Pointer) (e : Desk) → Inside s x → e.position.game ≡ Playing → e.position.settings ≡ s → SoundAt n B e → e.position.preflags ≤ n
      → is_won B e.shown ≡ false → LiveO (suc n) B s (right_at B x e)
  unfolding right_at
  right_at_live (Cell r c) e i ge es h p w =
      subst (λ (s : Settings). Live (suc n) B s (right_click B (cell_of (columns_of e) r c) e).desk) es
      (right_live n B (cell_of (columns_of e) r c) e ge h p w (cell_shown h.ground es r c i))
  right_at_live Off e i ge es h p w = record {
    kept = record {
      sound = right_sound e h;
      preflags = omega arith;
      held = λ _. omega arith;
      phase = subst⁻¹ (λ (g : GameState). Phase g e.position.mouse e.position.preflags B e.shown) ge w;
    };
    settings = es;
    told = not_loss e.position.game (ap is_loss ge);
  }

  play_lr_live : (x : Pointer) → Inside s x → LiveO (suc n) B s (play_lr B x d)
  unfolding play_lr moved
  play_lr_live x i =
      pick_both (LiveO (suc n) B s) (eqb (mouse d) 3) (left_at B x (move 1 d)) (chord_from B (mouse d) x (move 1 d))
      (λ _. left_at_live x (move 1 d) g (move_live 1 l))
      (λ _. release_live n B s 1 releases.lr_5 x d i (inl g) l)

  play_rc_live : (x : Pointer) → Inside s x → LiveO (suc n) B s (play_rc B x d)
  unfolding play_rc moved
  play_rc_live x i =
      let w = phase_in Playing g l.kept in
      pick_both (LiveO (suc n) B s) (eqb (mouse d) 0)
      (right_at B x (pick (leb 10 (seen_at d x)) (move 2 d) (on d (with_mouse d.position UpDownNotFlag)))) (done 0 (move 2 d))
      (λ _. pick_both (λ (e : Desk). LiveO (suc n) B s (right_at B x e)) (leb 10 (seen_at d x)) (move 2 d) (on d (with_mouse d.position UpDownNotFlag))
      (λ _. right_at_live x (move 2 d) i g l.settings l.kept.sound l.kept.preflags w)
      (λ _. right_at_live x (on d (with_mouse d.position UpDownNotFlag)) i g l.settings l.kept.sound l.kept.preflags w))
      (λ _. move_live 2 (later_live l))

  play_rr_live : (x : Pointer) → Inside s x → LiveO (suc n) B s (play_rr B x d)
  unfolding play_rr
  play_rr_live x i = release_live n B s 3 releases.rr_5 x d i (inl g) l

  pub playing_live : (e : Event) → InsideOf s e → LiveO (suc n) B s (playing B e d)
  unfolding playing
  playing_live (Lc x) i = play_lc_live n B s x d l
  playing_live (Lr x) i = play_lr_live x i
  playing_live (Rc x) i = play_rc_live x i
  playing_live (Rr x) i = play_rr_live x i
  playing_live (Mv x) i = later_live l
  playing_live (Mc x) i = middle_live true (later_live l)
  playing_live (Mr x) i = chord_at_live n B s x (on d (with_middle d.position false)) i (inl g) (middle_live false l)
  playing_live (Cc x) i = move_live 7 (later_live l)
  playing_live (Pf x) i = later_live l
  playing_live (Unknown code x) i = later_live l

-- ---- PreFlaging --------------------------------------------------------------------------------------------------------------------------

-- cleared, at any bound, where no pre-flag is left
cleared_live : {n : ℕ} {B : List ℤ} {s : Settings} {d : Desk} (m : ℕ) → d.position.game ≡ PreFlaging → d.position.preflags ≡ 0
    → is_not_flag d.position.mouse ≡ false → Live n B s d → Live m B s (cleared d)
cleared_live {d = d} m g z u l =
    let w = phase_in PreFlaging g l.kept in
    record {
      kept =
          cleared_kept m d.position refl refl refl (sound_in PreFlaging g l.kept)
          (record { unflagged = let a = w.flags in omega arith; unpreflagged = z; unheld = u; shut = w.shut });
      settings = l.settings;
      told = not_loss Ready refl;
    }

module _ (n : ℕ) (B : List ℤ) (s : Settings) (d : Desk) (l : Live n B s d) (g : d.position.game ≡ PreFlaging) where
  -- a desk whose mouse has moved on to no NotFlag state
  module _ (u : is_not_flag d.position.mouse ≡ false) where
    pre_left_live : (x : Pointer) → Inside s x → LiveO (suc n) B s (pre_left B x d)
    unfolding pre_left seen_at left_at
    pre_left_live (Cell r c) i =
        pick_both (LiveO (suc n) B s) (eqb (get_or d.shown (cell_of (columns_of d) r c) 0) 10)
        (left_click B (cell_of (columns_of d) r c) (on d (with_game d.position Playing))) (done 0 (add_left d))
        (λ e.
        subst (λ (s : Settings). Live (suc n) B s (left_click B (cell_of (columns_of d) r c) (on d (with_game d.position Playing))).desk) l.settings
        (left_opens_lem n B (cell_of (columns_of d) r c) (on d (with_game d.position Playing)) refl (sound_in PreFlaging g l.kept) l.kept.preflags l.kept.held e))
        (λ _. left_counts_live l)
    pre_left_live Off i =
        pick_both (LiveO (suc n) B s) (eqb d.position.preflags 0) (done 0 (cleared d)) (done 0 (add_left d))
        (λ z. cleared_live (suc n) g (eqb-true d.position.preflags 0 z) u l) (λ _. left_counts_live l)

    -- the last pre-flag taken back
    last_live : (i : ℕ) → i < length d.shown → get_or d.shown i 0 ≡ 11 → d.position.preflags ≡ 1 → Live (suc n) B s (last_taken_back i d)
    last_live i lt e one =
        let h = sound_in PreFlaging g l.kept in
        let w = phase_in PreFlaging g l.kept in
        record {
          kept =
              cleared_kept (suc n) (with_preflags d.position 0) refl refl refl
              (reshow {m = n} {c' = record { left = d.position.counts.left; right = d.position.counts.right; double = d.position.counts.double; lce = d.position.counts.lce; dce = d.position.counts.dce; flag = d.position.counts.flag - 1; unopened = d.position.counts.unopened }}
              {k' = d.position.secrets} {b' = d.bits} i 11 10 lt e (hidden 11 refl) (hidden 10 refl)
              (record {
                bounded = let b = h.bounded in omega arith;
                double = omega arith;
                solved = refl;
                flag = let f = flag_has h i lt e in omega arith;
                unopened = refl;
                here = closed_lawful d.position.settings.question false _;
                room = refl;
                mines = h.mines;
              })
              h)
              (record {
                unflagged = let a = shown_set (shows 11) d.shown i 11 10 lt e in let f = w.flags in omega arith;
                unpreflagged = refl;
                unheld = u;
                shut = let a = shown_set is_open d.shown i 11 10 lt e in let z = w.shut in omega arith;
              });
          settings = l.settings;
          told = not_loss Ready refl;
        }

    -- a 17 to 10; with no pre-flag it is Ready again, cleared
    asked_live : (i : ℕ) → i < length d.shown → eqb (get_or d.shown i 0) 10 ≡ false → LiveO (suc n) B s (cleared_if (eqb d.position.preflags 0) (right_click B i d))
    asked_live i lt ten =
        let h = sound_in PreFlaging g l.kept in
        let w = phase_in PreFlaging g l.kept in
        let r = right_quiet n B i d l.kept.sound lt (ap is_playing g) in
        let a : Live (suc n) B s (right_click B i d).desk =
        right_before n B s i d g l.settings h (let p = l.kept.preflags in omega arith) w.shut
        (let z : bit (eqb (get_or d.shown i 0) 10) ≡ 0 = ap bit ten in let f = w.flags in omega arith) lt in
        pick_both (LiveO (suc n) B s) (eqb d.position.preflags 0) (done (right_click B i d).answer (cleared (right_click B i d).desk)) (right_click B i d)
        (λ z. cleared_live (suc n) (r.game ∙ g) (r.preflags ∙ eqb-true d.position.preflags 0 z) (ap is_not_flag r.mouse ∙ u) a)
        (λ _. a)

    pre_cell_live : (i : ℕ) → i < length d.shown → LiveO (suc n) B s (pre_cell B i d)
    unfolding pre_cell
    pre_cell_live i lt =
        let h = sound_in PreFlaging g l.kept in
        let w = phase_in PreFlaging g l.kept in
        pick_both (LiveO (suc n) B s) (eqb (get_or d.shown i 0) 10) (right_click B i (on d (with_preflags d.position (d.position.preflags + 1))))
        (pick (eqb (get_or d.shown i 0) 11)
        (pick (not d.position.settings.question && eqb d.position.preflags 1) (done 0 (last_taken_back i d))
        (right_click B i (on d (with_preflags d.position (d.position.preflags - 1)))))
        (cleared_if (eqb d.position.preflags 0) (right_click B i d)))
        (λ _.
        right_before n B s i (on d (with_preflags d.position (d.position.preflags + 1))) g l.settings h (let p = l.kept.preflags in omega arith) w.shut
        (let b = bit_le (eqb (get_or d.shown i 0) 10) in let f = w.flags in omega arith) lt)
        (λ ten. pick_both (LiveO (suc n) B s) (eqb (get_or d.shown i 0) 11)
        (pick (not d.position.settings.question && eqb d.position.preflags 1) (done 0 (last_taken_back i d))
        (right_click B i (on d (with_preflags d.position (d.position.preflags - 1)))))
        (cleared_if (eqb d.position.preflags 0) (right_click B i d))
        (λ eleven. pick_both (LiveO (suc n) B s) (not d.position.settings.question && eqb d.position.preflags 1) (done 0 (last_taken_back i d))
        (right_click B i (on d (with_preflags d.position (d.position.preflags - 1))))
        (λ q. last_live i lt (eqb-true (get_or d.shown i 0) 11 eleven) (eqb-true d.position.preflags 1 (and_right (not d.position.settings.question) _ q)))
        (λ _.
        right_before n B s i (on d (with_preflags d.position (d.position.preflags - 1))) g l.settings h (let p = l.kept.preflags in omega arith) w.shut
        (let z : bit (eqb (get_or d.shown i 0) 10) ≡ 0 = ap bit ten in
        let o : bit (eqb (get_or d.shown i 0) 11) ≡ 1 = ap bit eleven in
        let f = w.flags in omega arith) lt))
        (λ _. asked_live i lt ten))

  -- back to Ready without clearing, where the mouse was in DownUp and no pre-flag is left
  back_live : (e : ℕ) → Frees e 3 → (x : Pointer) → Live (suc n) B s (back_if (back_to_ready x d) (move e d))
  unfolding moved
  back_live e f x =
      let k = move_live e (later_live l) in
      pick_both (Live (suc n) B s) (back_to_ready x d) (on (move e d) (with_game (move e d).position Ready)) (move e d)
      (λ t.
      let a = and_right (eqb (mouse d) 3) _ t in
      record {
        kept =
            to_ready g (eqb-true d.position.preflags 0 (and_right (on_cell x) _ a)) (freed_at e 3 d f (eqb-true (mouse d) 3 (and_left (eqb (mouse d) 3) _ t))) k.kept;
        settings = l.settings;
        told = not_loss Ready refl;
      })
      (λ _. k)

module _ (n : ℕ) (B : List ℤ) (s : Settings) (d : Desk) (l : Live n B s d) (g : d.position.game ≡ PreFlaging) where
  pre_flag_preflaging : (x : Pointer) → Inside s x → LiveO (suc n) B s (pre_flag B x d)
  unfolding pre_flag
  pre_flag_preflaging x i =
      let w = phase_in PreFlaging g l.kept in
      right_before_at n B s x (on d (with_game (with_preflags d.position (d.position.preflags + 1)) PreFlaging)) i refl l.settings (sound_in PreFlaging g l.kept)
      (let a = l.kept.preflags in omega arith) w.shut (let a = w.flags in omega arith)

  pre_right_live : mouse d ≡ 0 → (x : Pointer) → Inside s x → LiveO (suc n) B s (pre_right B x d)
  unfolding pre_right moved
  pre_right_live m (Cell r c) i =
      pre_cell_live n B s (move 2 d) (move_live 2 l) g (freed_at 2 0 d releases.rc_0 m) (cell_of (columns_of d) r c) (cell_shown l.kept.sound.ground l.settings r c i)
  pre_right_live m Off i = record {
    kept = record {
      sound = right_sound d l.kept.sound;
      preflags = let a = l.kept.preflags in omega arith;
      held = λ _. omega arith;
      phase =
          subst⁻¹ (λ (g : GameState). Phase g UpDownNotFlag d.position.preflags B d.shown) g
          (let w = phase_in PreFlaging g l.kept in record { flags = w.flags; shut = w.shut });
    };
    settings = l.settings;
    told = l.told;
  }

  pre_rc_live : (x : Pointer) → Inside s x → LiveO (suc n) B s (pre_rc B x d)
  unfolding pre_rc
  pre_rc_live x i =
      pick_both (LiveO (suc n) B s) (eqb (mouse d) 0) (pre_right B x d) (done 0 (back_if (back_to_ready x d) (move 2 d)))
      (λ m. pre_right_live (eqb-true (mouse d) 0 m) x i) (λ _. back_live n B s d l g 2 releases.rc_3 x)

  pre_lr_live : (x : Pointer) → Inside s x → LiveO (suc n) B s (pre_lr B x d)
  unfolding pre_lr play_lr moved
  pre_lr_live x i =
      pick_both (LiveO (suc n) B s) (eqb (mouse d) 3) (pre_left B x (move 1 d)) (pick (eqb (mouse d) 3) (left_at B x (move 1 d)) (chord_from B (mouse d) x (move 1 d)))
      (λ m. pre_left_live n B s (move 1 d) (move_live 1 l) g (freed_at 1 3 d releases.lr_3 (eqb-true (mouse d) 3 m)) x i)
      (λ m. subst⁻¹ (λ (t : Bool). LiveO (suc n) B s (pick t (left_at B x (move 1 d)) (chord_from B (mouse d) x (move 1 d)))) m (release_live n B s 1 releases.lr_5 x d i (inr g) l))

  pre_rr_live : (x : Pointer) → Inside s x → LiveO (suc n) B s (play_rr B x d)
  unfolding play_rr
  pre_rr_live x i = release_live n B s 3 releases.rr_5 x d i (inr g) l

  pub preflaging_live : (e : Event) → InsideOf s e → LiveO (suc n) B s (pre_flaging B e d)
  unfolding pre_flaging
  preflaging_live (Lc x) i = play_lc_live n B s x d l
  preflaging_live (Lr x) i = pre_lr_live x i
  preflaging_live (Rc x) i = pre_rc_live x i
  preflaging_live (Rr x) i = pre_rr_live x i
  preflaging_live (Mv x) i = later_live l
  preflaging_live (Mc x) i = middle_live true (later_live l)
  preflaging_live (Mr x) i = middle_live false (later_live l)
  preflaging_live (Cc x) i = back_live n B s d l g 7 releases.cc_3 x
  preflaging_live (Pf x) i = pre_flag_preflaging x i
  preflaging_live (Unknown code x) i = later_live l

-- ---- every event, in every state ---------------------------------------------------------------------------------------------------------

pub event_live : (n : ℕ) (B : List ℤ) (s : Settings) (g : GameState) (e : Event) (d : Desk) → d.position.game ≡ g → Live n B s d → InsideOf s e
    → LiveO (suc n) B s (by_game g B e d)
unfolding by_game
event_live n B s Ready e d g l i = ready_live n B s d l g e i
event_live n B s PreFlaging e d g l i = preflaging_live n B s d l g e i
event_live n B s Playing e d g l i = playing_live n B s d l g e i
event_live n B s Win e d g l i = later_live l
event_live n B s Loss e d g l i = later_live l
