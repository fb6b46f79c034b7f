-- What moves the mouse, the game state or the counts only keeps the position; clearing keeps it too.
use mathlib.Core.Path.{◌≡◌, ◌∙◌, sym, ap, refl, subst, subst⁻¹}
use mathlib.Core.Bool.{Bool, true, false, not, ◌&&◌, ◌||◌, true≢false, false≢true}
use mathlib.Core.List.{List, []}
use Prim.Native.Nat.{ℕ, zero, suc, ◌+◌, ◌-◌, ◌≤◌}
use native.Mathlib.Omega.{arith}
use borrow.Author.Tests.{eqb-true}
use lib.Dec.{eqb}
use lib.IntN.{ℤ}
use lib.ListN.{length, get_or, replicate, length-replicate}
use Rattle.rules.specs.declared.Position.{Position}
use Rattle.rules.specs.declared.Settings.{Settings}
use Rattle.rules.specs.declared.Counts.{Counts}
use Rattle.rules.specs.declared.Secrets.{Secrets}
use Rattle.rules.specs.declared.GameState.{GameState}
use Rattle.rules.specs.declared.GameState.TheVariants.{Ready, Playing, Win, Loss, PreFlaging}
use Rattle.rules.specs.declared.MouseState.{MouseState}
use Rattle.rules.specs.declared.MouseState.TheVariants.{UpUp, UpDown, UpDownNotFlag, DownUp, Chording, ChordingNotFlag, DownUpAfterChording}
use Rattle.rules.specs.States.{mouse_number, mouse_at, is_loss, is_not_flag, with_game, with_middle, with_counts, with_right, with_events, zeroed}
use Rattle.rules.specs.Board.{face_at}
use Rattle.rules.specs.Opening.{count_shown}
use Rattle.rules.specs.Clicks.{Desk, desk, on, add_left, add_right}
use Rattle.rules.specs.Passes.{add_double}
use Rattle.rules.specs.Mouse.{mouse_table, next_mouse, moved}
use Rattle.rules.specs.Step.{mouse, move}
use Rattle.rules.specs.Lawful.{shows, is_flag, cell_lawful}
use Rattle.cells.proofs.Words.{and_left, and_right}
use Rattle.bits.proofs.Bits.{bit_none}
use Rattle.keep.specs.Kept.{Ground, Bounded, Sound, SoundAt, Untouched, Phase, Kept}
use Rattle.keep.proofs.Counting.{shown_none, shown_zero}

-- ---- counts ----------------------------------------------------------------------------------------------------------------------------

-- counts that meet the bound m, with the same flag and solved counts and as many safe cells still closed
pub recount : {n m : ℕ} {B : List ℤ} {t : Bool} {s : Settings} {c c' : Counts} {k k' : Secrets} {l b : List ℕ} → Sound n B t s c k l b
    → Bounded m c' k' → c'.double + n ≤ c.double + m → k'.solved_left + k'.solved_chord ≡ k.solved_left + k.solved_chord → c'.flag ≡ c.flag
    → c'.unopened ≡ c.unopened → Sound m B t s c' k' l b
recount h b d e f u = record {
  ground = h.ground;
  bounded = b;
  double = let a = h.double in omega arith;
  solved = let a = h.solved in omega arith;
  flag = f ∙ h.flag;
  unopened = u ∙ h.unopened;
  wrong = h.wrong;
  cells = h.cells;
  mines = h.mines;
}

pub sound_later : {n : ℕ} {B : List ℤ} {t : Bool} {s : Settings} {c : Counts} {k : Secrets} {l b : List ℕ} → Sound n B t s c k l b → Sound (suc n) B t s c k l b
sound_later h = let b = h.bounded in recount h (omega arith) (omega arith) refl refl refl

-- nothing but the bound changes
pub later : {n : ℕ} {B : List ℤ} {d : Desk} → Kept n B d → Kept (suc n) B d
later h = record { sound = sound_later h.sound; preflags = let a = h.preflags in omega arith; held = h.held; phase = h.phase }

-- other counts, with the same flag count and as many safe cells still closed
pub count_keeps : {n m : ℕ} {B : List ℤ} {d : Desk} (c' : Counts) → n ≤ m → Bounded m c' d.position.secrets → c'.double + n ≤ d.position.counts.double + m
    → c'.flag ≡ d.position.counts.flag → c'.unopened ≡ d.position.counts.unopened → (is_not_flag d.position.mouse ≡ true → 1 ≤ c'.right) → Kept n B d → Kept m B (on d (with_counts d.position c'))
count_keeps c' le b db f u r h = record { sound = recount h.sound b db refl f u; preflags = let a = h.preflags in omega arith; held = r; phase = h.phase }

pub left_counts_lem : {n : ℕ} {B : List ℤ} {d : Desk} → Kept n B d → Kept (suc n) B (add_left d)
left_counts_lem h = let b = h.sound.bounded in count_keeps _ (omega arith) (omega arith) (omega arith) refl refl h.held h

pub double_counts : {n : ℕ} {B : List ℤ} {d : Desk} → Kept n B d → Kept (suc n) B (add_double d)
double_counts h = let b = h.sound.bounded in count_keeps _ (omega arith) (omega arith) (omega arith) refl refl h.held h

pub right_sound : {n : ℕ} {B : List ℤ} (d : Desk) → SoundAt n B d → SoundAt (suc n) B (add_right d)
right_sound d h = let b = h.bounded in recount h (omega arith) (omega arith) refl refl refl

-- the right press is taken back where the mouse is in no NotFlag state
pub right_back : {n : ℕ} {B : List ℤ} {d : Desk} → is_not_flag d.position.mouse ≡ false → Kept n B d
    → Kept n B (on d (with_right d.position (d.position.counts.right - 1)))
right_back m h =
    let b = h.sound.bounded in count_keeps _ (omega arith) (omega arith) (omega arith) refl refl (λ e. absurd (false≢true (sym m ∙ e))) h

-- the event is counted
pub events_keeps : {n : ℕ} {B : List ℤ} {d : Desk} (m : ℕ) → Kept n B d → Kept n B (on d (with_events d.position m))
events_keeps m h = record { sound = h.sound; preflags = h.preflags; held = h.held; phase = h.phase }

pub middle_keeps : {n : ℕ} {B : List ℤ} {d : Desk} (t : Bool) → Kept n B d → Kept n B (on d (with_middle d.position t))
middle_keeps t h = record { sound = h.sound; preflags = h.preflags; held = h.held; phase = h.phase }

-- ---- the mouse -------------------------------------------------------------------------------------------------------------------------

-- a row of the table leads to a NotFlag state only from one
leads : List ℕ → ℕ → Bool
leads row m = not (is_not_flag (mouse_at (get_or row m 0)))

fair : List ℕ → Bool
fair row = leads row 0 && (leads row 1 && (leads row 3 && (leads row 4 && leads row 6)))

led : (row : List ℕ) (m : ℕ) → leads row m ≡ true → is_not_flag (mouse_at (get_or row m 0)) ≡ true → ⊥
unfolding leads
led row m e h = true≢false (sym e ∙ ap not h)

fair_held : (row : List ℕ) → fair row ≡ true → (m : MouseState) → is_not_flag (mouse_at (get_or row (mouse_number m) 0)) ≡ true → is_not_flag m ≡ true
unfolding fair
fair_held row e UpUp h = absurd (led row 0 (and_left (leads row 0) _ e) h)
fair_held row e UpDown h = absurd (led row 1 (and_left (leads row 1) _ (and_right (leads row 0) _ e)) h)
fair_held row e UpDownNotFlag h = refl
fair_held row e DownUp h = absurd (led row 3 (and_left (leads row 3) _ (and_right (leads row 1) _ (and_right (leads row 0) _ e))) h)
fair_held row e Chording h =
    absurd (led row 4 (and_left (leads row 4) _ (and_right (leads row 3) _ (and_right (leads row 1) _ (and_right (leads row 0) _ e)))) h)
fair_held row e ChordingNotFlag h = refl
fair_held row e DownUpAfterChording h =
    absurd (led row 6 (and_right (leads row 4) _ (and_right (leads row 3) _ (and_right (leads row 1) _ (and_right (leads row 0) _ e)))) h)

-- every row does
table_fair : (e : ℕ) → fair (get_or mouse_table e []) ≡ true
unfolding fair leads mouse_table mouse_at
table_fair zero = refl
table_fair (suc zero) = refl
table_fair (suc (suc zero)) = refl
table_fair (suc (suc (suc zero))) = refl
table_fair (suc (suc (suc (suc zero)))) = refl
table_fair (suc (suc (suc (suc (suc zero))))) = refl
table_fair (suc (suc (suc (suc (suc (suc zero)))))) = refl
table_fair (suc (suc (suc (suc (suc (suc (suc zero))))))) = refl
table_fair (suc (suc (suc (suc (suc (suc (suc (suc e)))))))) = refl

pub table_held : (e : ℕ) (m : MouseState) → is_not_flag (mouse_at (next_mouse e (mouse_number m))) ≡ true → is_not_flag m ≡ true
unfolding next_mouse
table_held e m h = fair_held (get_or mouse_table e []) (table_fair e) m h

contra : (a b : Bool) → (a ≡ true → b ≡ true) → b ≡ false → a ≡ false
contra true b f e = sym (f refl) ∙ e
contra false b f e = refl

phase_mouse : (g : GameState) (m m' : MouseState) (pre : ℕ) (B : List ℤ) (l : List ℕ) → (is_not_flag m' ≡ true → is_not_flag m ≡ true)
    → Phase g m pre B l → Phase g m' pre B l
phase_mouse Ready m m' pre B l f h =
    record { unflagged = h.unflagged; unpreflagged = h.unpreflagged; unheld = contra (is_not_flag m') (is_not_flag m) f h.unheld; shut = h.shut }
phase_mouse PreFlaging m m' pre B l f h = h
phase_mouse Playing m m' pre B l f h = h
phase_mouse Win m m' pre B l f h = h
phase_mouse Loss m m' pre B l f h = h

-- the mouse state moved on by the table
pub move_keeps : {n : ℕ} {B : List ℤ} {d : Desk} (e : ℕ) → Kept n B d → Kept n B (move e d)
unfolding moved
move_keeps {n} {B} {d} e h =
    let f = table_held e d.position.mouse in
    record {
      sound = h.sound;
      preflags = h.preflags;
      held = λ t. h.held (f t);
      phase =
          phase_mouse d.position.game d.position.mouse (mouse_at (next_mouse e (mouse_number d.position.mouse))) d.position.preflags B d.shown f h.phase;
    }

-- event code e leads from mouse state m to no NotFlag state
abbrev pub Frees : ℕ → ℕ → Type 0
Frees e m = is_not_flag (mouse_at (next_mouse e m)) ≡ false

-- lr, rc and cc from DownUp, lr and rr from ChordingNotFlag, rc from UpUp
pub record Releases : Type 0 where
  pub lr_3 : Frees 1 3
  pub rc_3 : Frees 2 3
  pub cc_3 : Frees 7 3
  pub lr_5 : Frees 1 5
  pub rr_5 : Frees 3 5
  pub rc_0 : Frees 2 0

pub releases : Releases
unfolding next_mouse mouse_table mouse_at
releases = record { lr_3 = refl; rc_3 = refl; cc_3 = refl; lr_5 = refl; rr_5 = refl; rc_0 = refl }

pub freed_at : (e k : ℕ) (d : Desk) → Frees e k → mouse d ≡ k → is_not_flag (move e d).position.mouse ≡ false
unfolding moved
freed_at e k d f q = ap (λ (m : ℕ). is_not_flag (mouse_at (next_mouse e m))) q ∙ f

-- ---- the game state --------------------------------------------------------------------------------------------------------------------

pub phase_in : {n : ℕ} {B : List ℤ} {d : Desk} (g : GameState) → d.position.game ≡ g → Kept n B d → Phase g d.position.mouse d.position.preflags B d.shown
phase_in {B = B} {d = d} g e h = subst (λ (g : GameState). Phase g d.position.mouse d.position.preflags B d.shown) e h.phase

pub sound_in : {n : ℕ} {B : List ℤ} {d : Desk} (g : GameState) → d.position.game ≡ g → Kept n B d
    → Sound n B (is_loss g) d.position.settings d.position.counts d.position.secrets d.shown d.bits
sound_in {n} {B} {d} g e h =
    subst (λ (g : GameState). Sound n B (is_loss g) d.position.settings d.position.counts d.position.secrets d.shown d.bits) e h.sound

pub to_preflaging : {n : ℕ} {B : List ℤ} {d : Desk} → d.position.game ≡ Ready → Kept n B d → Kept n B (on d (with_game d.position PreFlaging))
to_preflaging {d = d} g h =
    let w = phase_in Ready g h in
    record { sound = sound_in Ready g h; preflags = h.preflags; held = h.held; phase = record { flags = let a = w.unflagged in omega arith; shut = w.shut } }

pub to_ready : {n : ℕ} {B : List ℤ} {d : Desk} → d.position.game ≡ PreFlaging → d.position.preflags ≡ 0 → is_not_flag d.position.mouse ≡ false → Kept n B d
    → Kept n B (on d (with_game d.position Ready))
to_ready {d = d} g z m h =
    let w = phase_in PreFlaging g h in
    record {
      sound = sound_in PreFlaging g h;
      preflags = h.preflags;
      held = h.held;
      phase = record { unflagged = let a = w.flags in omega arith; unpreflagged = z; unheld = m; shut = w.shut };
    }

-- ---- clearing --------------------------------------------------------------------------------------------------------------------------

fourteen : (q : Bool) (f : ℕ) → cell_lawful q false f 14 ≡ false
unfolding cell_lawful
fourteen q f = refl

-- 14 only in Loss
no_14 : (q : Bool) (f x : ℕ) → cell_lawful q false f x ≡ true → eqb x 14 ≡ false
no_14 q f x e = go (eqb x 14) refl
  where
    go : (t : Bool) → eqb x 14 ≡ t → t ≡ false
    go true d = absurd (false≢true (sym (fourteen q f) ∙ subst (λ (y : ℕ). cell_lawful q false f y ≡ true) (eqb-true x 14 d) e))
    go false d = refl

-- before the game the flag count is the number of cells showing 11
or_false : (a c : Bool) → a ≡ false → c ≡ false → (a || c) ≡ false
or_false true c e d = absurd (true≢false e)
or_false false c e d = d

pub no_flags : {n : ℕ} {B : List ℤ} {s : Settings} {c : Counts} {k : Secrets} {l b : List ℕ} → Sound n B false s c k l b
    → count_shown (shows 11) l ≡ 0 → count_shown is_flag l ≡ 0
no_flags {B = B} {s = s} {l = l} h e =
    shown_zero is_flag l (λ i lt. or_false _ _ (shown_none (shows 11) l e i lt) (no_14 s.question (face_at B i) (get_or l i 0) (h.cells i lt)))

-- no pre-flag left and no NotFlag state: cleared, at any bound
pub cleared_kept : {n : ℕ} {B : List ℤ} {s : Settings} {c : Counts} {k : Secrets} {l b : List ℕ} (m : ℕ) (p : Position)
    → p.settings ≡ s → p.secrets.solved_left + p.secrets.solved_chord ≡ k.solved_left + k.solved_chord → p.counts.unopened ≡ c.unopened
    → Sound n B false s c k l b → Untouched p.mouse p.preflags l
    → Kept m B (desk (zeroed p) l (replicate (length b) 0))
cleared_kept {n} {B} {s} {c} {k} {l} {b} m p es ek en h u = record {
  sound = record {
    ground =
        subst⁻¹ (λ (s : Settings). Ground B s l (replicate (length b) 0)) es
        (record { mined = h.ground.mined; numbers = h.ground.numbers; board = h.ground.board; room = length-replicate (length b) 0 ∙ h.ground.room });
    bounded = omega arith;
    double = omega arith;
    solved = let a = h.solved in omega arith;
    flag = sym (no_flags h u.unflagged);
    unopened = en ∙ h.unopened;
    wrong = h.wrong;
    cells = λ i lt. ap (λ (s : Settings). cell_lawful s.question false (face_at B i) (get_or l i 0)) es ∙ h.cells i lt;
    mines = λ i e. absurd (false≢true (sym (bit_none (length b) i) ∙ e));
  };
  preflags = let z = u.unpreflagged in omega arith;
  held = λ e. absurd (false≢true (sym u.unheld ∙ e));
  phase = u;
}
