-- The ways through a left click: from what the called functions ensure to the definition.
use mathlib.Core.Path.{◌≡◌, refl, ap, sym, ◌∙◌}
use mathlib.Core.Bool.{Bool, true, false}
use mathlib.Core.List.{List, [], ◌∷◌}
use Prim.Native.Nat.{ℕ, ◌+◌, ◌*◌, ◌<◌, ◌≤◌}
use native.Mathlib.Omega.{arith}
use borrow.Author.Tests.{eq-eqb, ne_eqb}
use lib.ListN.{length, get_or, set}
use lib.IntN.{ℤ}
use Rattle.rules.specs.declared.Settings.{Settings}
use Rattle.rules.specs.declared.Position.{Position}
use Rattle.rules.specs.declared.Played.{Played}
use Rattle.rules.specs.Words.{pick, bit, stack_of}
use Rattle.rules.specs.States.{with_left, with_lce, with_solved_left}
use Rattle.rules.specs.Board.{face_at, mine_at, lone_at}
use Rattle.rules.specs.Opening.{refreshed}
use Rattle.rules.specs.Judging.{judged_left}
use Rattle.rules.specs.Clicks.{Desk, desk, rows_of, columns_of, ended, add_left, solves_left, left_counts, left_opens, left_click}
use Rattle.cells.specs.Ground.{Below}
use Rattle.cells.specs.Stack.{stacked}
use Rattle.cells.specs.Promises.{Ticked, Laid, LaidAt, RoomAt, play, Leaves, Acts}
use Rattle.opening.specs.Parts.{opened}
use Rattle.opening.proofs.Ticking.{ticked_number, safe_number}
use Rattle.clicks.specs.Parts.{NumberAt, SpreadsAt, Adds, opens_with, left_adds}
use Rattle.clicks.proofs.Ends.{opened_number}

-- ---- left + 1 leaves all else ----------------------------------------------------------------------------------------------------------

module _ (p q : Position) {n : ℕ} (e : q ≡ with_left p n) where
  pub added_laid : {B : List ℤ} {shown work : List ℕ} → LaidAt B p shown work → LaidAt B q shown work
  added_laid l = rw e l

  pub added_place : (i : ℕ) → i < p.settings.rows * p.settings.columns → i < q.settings.rows * q.settings.columns
  added_place i h = rw e h

  pub added_room : {shown : List ℕ} → RoomAt p shown → (q.counts.lce ≤ 70000) × (q.secrets.solved_left ≤ 1000000)
  added_room r = rw e (r.lce, r.solved_left)

module _ (B : List ℤ) (i : ℕ) (p : Position) (shown work : List ℕ) (q : Position) (added : q ≡ with_left p (p.counts.left + 1)) where
  pub left_idle : (get_or shown i 0 ≡ 10 → ⊥) → Acts (left_click B i) p shown work (record { answer = 0; position = q }) shown work
  unfolding left_click
  left_idle n = λ bits. record { outcome = simp (ne_eqb _ _ n, added); same = refl }

  pub left_closed : get_or shown i 0 ≡ 10 → (r : Played) (shown' work' : List ℕ) → Acts (left_opens B i) q shown work r shown' work' → Acts (left_click B i) p shown work r shown' work'
  unfolding left_click
  left_closed ten r shown' work' o = λ bits. record { outcome = (o bits).outcome ∙ simp (eq-eqb _ _ ten, added); same = (o bits).same }

-- ---- a number --------------------------------------------------------------------------------------------------------------------------

-- a closed cell of the board that shows a number once it is open
pub number_at : {B : List ℤ} (s : Settings) {shown work : List ℕ} {i face : ℕ} {lone : Bool} → Laid B shown work s.rows s.columns → i < s.rows * s.columns → get_or shown i 0 ≡ 10
    → face ≡ face_at B i → (face ≡ 0 → ⊥) × (face ≡ 15 → ⊥) → lone ≡ lone_at B s.rows s.columns i → NumberAt B s shown i face lone
number_at s l h ten own n a =
    record { mined = l.fits.mined; board = l.fits.board; inside = h; closed = ten; own = own; nonzero = n.0; safe = n.1; alone = a }

module _ (B : List ℤ) (p : Position) (shown : List ℕ) (i f : ℕ) (lone : Bool) (h : NumberAt B p.settings shown i f lone) where
  -- it solves exactly if it is lone
  number_solves : (bits : List ℕ) → solves_left B (add_left (desk p shown bits)) i ≡ lone
  unfolding solves_left
  number_solves bits = rw (ne_eqb _ _ (λ e. h.nonzero (h.own ∙ e))) (sym h.alone)

  number_opens : (bits : List ℕ) → ended 2 (left_counts B (add_left (desk p shown bits)) i) (opened (set shown i f) false) ≡ left_click B i (desk p shown bits)
  unfolding left_click left_opens
  number_opens bits =
      rw (eq-eqb _ _ h.closed, ne_eqb (face_at B i) 15 (λ e. h.safe (h.own ∙ e)), h.own)
      (ap (ended 2 (left_counts B (add_left (desk p shown bits)) i))
      (opened_number B p.settings.rows p.settings.columns i shown h.closed (λ e. h.nonzero (h.own ∙ e)) (λ e. h.safe (h.own ∙ e))))

  -- one cell is opened
  number_ticked : Ticked 0 shown 1 (set shown i f)
  number_ticked =
      ticked_number 0 shown i f (eq-eqb _ _ h.closed)
      (safe_number B shown i f h.mined.valued (h.mined.long ∙ sym h.board) (eq-eqb _ _ h.closed) h.own h.safe)

  pub number_done : (q z : Position) → q ≡ with_left p (p.counts.left + 1)
      → z ≡ with_solved_left (with_lce q (q.counts.lce + 1)) (q.secrets.solved_left + bit lone) → (r : Played)
      → ((past shown bits : List ℕ) → Ticked 0 past 1 shown → play r shown bits ≡ ended 2 (desk z past bits) (opened shown false)) → (bits : List ℕ) → play r (set shown i f) bits ≡ left_click B i (desk p shown bits)
  number_done q z added counted r e bits =
      e shown (set shown i f) bits number_ticked
      ∙ ap (λ (d : Desk). ended 2 d (opened (set shown i f) false)) counts
      ∙ number_opens bits
    where
      counts : desk z shown bits ≡ left_counts B (add_left (desk p shown bits)) i
      counts = rw (counted, added, number_solves bits) refl

-- ---- a 0 or a mine ---------------------------------------------------------------------------------------------------------------------

module _ (B : List ℤ) (p : Position) (shown work : List ℕ) (i f : ℕ) (s : SpreadsAt B i f) where
  pub spread_mine : f ≡ 15 → Adds (left_adds B i) p shown work p work
  spread_mine m = λ bits. record { outcome = simp (eq-eqb _ _ (sym s.own ∙ m)); same = refl }

  pub spread_zero : (f ≡ 15 → ⊥) → (solves : Bool) (r : Position) (work' : List ℕ)
      → Leaves solves (judged_left B p.settings.rows p.settings.columns shown i) work work'
      → r ≡ with_solved_left (with_lce p (p.counts.lce + 1)) (p.secrets.solved_left + bit solves) → Adds (left_adds B i) p shown work r work'
  unfolding solves_left
  spread_zero n solves r work' j e =
      λ bits. record { outcome = simp (ne_eqb _ _ (λ m. n (s.own ∙ m)), eq-eqb _ _ (sym s.own ∙ s.zero n), e, j.outcome); same = j.same }

-- a left click's counts leave the size
left_settings : (B : List ℤ) (i : ℕ) (d : Desk) → (left_adds B i d).position.settings ≡ d.position.settings
left_settings B i d = go (mine_at B i)
  where
    go : (b : Bool) → (pick b d (left_counts B d i)).position.settings ≡ d.position.settings
    go true = refl
    go false = refl

left_opens_lem : (B : List ℤ) (i : ℕ) (d : Desk) → opens_with B 2 (i ∷ []) (left_adds B i d) ≡ left_opens B i d
unfolding left_opens
left_opens_lem B i d = go (mine_at B i)
  where
    go : (b : Bool) → opens_with B 2 (i ∷ []) (pick b d (left_counts B d i)) ≡ ended 2 (pick b d (left_counts B d i)) (refreshed B (rows_of d) (columns_of d) (i ∷ []) d.shown)
    go true = refl
    go false = refl

module _ (B : List ℤ) (i : ℕ) (p z : Position) (shown work work' : List ℕ) (a : Adds (left_adds B i) p shown work z work') where
  counted_settings : z.settings ≡ p.settings
  counted_settings = ap (λ (d : Desk). d.position.settings) (a []).outcome ∙ left_settings B i (desk p shown [])

  -- what opening the cell by itself asks
  pub spread_asks : LaidAt B p shown work → i < p.settings.rows * p.settings.columns
      → LaidAt B z shown work' × ((length (i ∷ []) ≤ 8) × Below (z.settings.rows * z.settings.columns) (i ∷ []))
  spread_asks l h = (rw (counted_settings, (a []).same) l, (omega arith, rw counted_settings (h, tt)))

  pub spread_done : (r : Played) (shown' work'' : List ℕ) → Acts (opens_with B 2 (stacked (i ∷ []))) z shown work' r shown' work''
      → Acts (left_opens B i) p shown work r shown' work''
  unfolding stack_of
  spread_done r shown' work'' o =
      λ bits. record { outcome = (o bits).outcome ∙ ap (opens_with B 2 (i ∷ [])) (a bits).outcome ∙ left_opens_lem B i (desk p shown bits); same = (o bits).same ∙ (a bits).same }
