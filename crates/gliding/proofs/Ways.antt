-- One row of a drag is so many of the slider's turns, with what is kept at its end alone; and the way is row after row.
use mathlib.Core.Path.{◌≡◌, refl, ap, sym, ◌∙◌, subst⁻¹}
use mathlib.Core.Bool.{Bool, true, false, ◌&&◌, not}
use mathlib.Core.List.{List}
use Prim.Native.Nat.{ℕ, zero, suc, ◌+◌, ◌-◌, ◌*◌, ◌/◌, ◌%◌, ◌≤◌, ◌<◌}
use native.Mathlib.Omega.{arith}
use native.Mathlib.Nat.{suc-mul, mul-le-mul_right, div-add-mod'}
use native.Mathlib.Decide.{dec_lt}
use lib.Dec.{eqb, ltb}
use lib.IntN.{ℤ}
use lib.ListN.{length}
use lib.Seq.{sets, length-sets}
use borrow.Author.Tests.{ne_eqb, le-leb, lt-leb}
use Rattle.rules.specs.declared.Settings.{Settings}
use Rattle.rules.specs.declared.Position.{Position}
use Rattle.rules.specs.declared.Played.{Played}
use Rattle.rules.specs.Words.{pick}
use Rattle.rules.specs.Clicks.{Desk, Play, desk, done}
use Rattle.cells.specs.Promises.{Plays, Leaves}
use Rattle.cells.proofs.Words.{pick_both}
use Rattle.keep.specs.Kept.{LawfulAt, Follows}
use Rattle.game.specs.Core.{Blank}
use Rattle.rules.specs.Slides.{Tape, Slots, refused_by, run_to, Kept, Gliding, keeps, kept_at, played, turn, glide, glide_from, desk_bytes, play_record, tape_of, size_for, slots_of}
use Rattle.slides.proofs.Slides.{by_cases, run_on, run_stays, turn_stays, turn_plays}
use Rattle.keeping.specs.Keeps.{kept_of, Boards, keep_desk}
use Rattle.gliding.specs.declared.Glided.{Glided}
use Rattle.rows.specs.Rows.{tape_from, row_on}
use Rattle.rows.proofs.Records.{lengths_same, row_follows}
use Rattle.gliding.specs.Glides.{gliding, Stops, glide_of, Rows}

-- ---- no desk is kept within a row ------------------------------------------------------------------------------------------------------

-- between a number and the next multiple of k no multiple stands
between : (e k c j : ℕ) → 1 ≤ k → 1 ≤ j → j < k - e % k → e + j ≡ c * k → ⊥
between e k c j pos some less is = go (dec_lt (e / k) c)
  where
    go : Dec (e / k < c) → ⊥
    go (yes h) =
        let d : e / k * k + e % k ≡ e = div-add-mod' e k in
        let m = mul-le-mul_right k h in
        let s = suc-mul (e / k) k in
        omega arith
    go (no h) =
        let d : e / k * k + e % k ≡ e = div-add-mod' e k in
        let l : c ≤ e / k = omega arith in
        let m = mul-le-mul_right k l in
        omega arith

module _ (B : List ℤ) (es : List ℕ) (s : Slots) (k e : ℕ) (d : Desk) (h : Kept) (pos : 1 ≤ k) where
  abbrev T : Tape
  T = tape_of B es d

  abbrev row : ℕ → Play
  row i = run_to (tape_from B es e d) i

  abbrev start : Gliding
  start = record { last = done 0 d; kept = h }

  glide_more : (i : ℕ) → glide T s k e (suc i) start ≡ turn T s k (e + i) (glide T s k e i start)
  unfolding glide
  glide_more i = refl

  glide_none : glide T s k e 0 start ≡ record { last = row 0; kept = h }
  unfolding glide run_to
  glide_none = refl

  keeps_none : (i : ℕ) (o : Play) → suc i < k - e % k → kept_at T s k (suc (e + i)) o h ≡ h
  keeps_none i o less =
      let n : eqb (suc (e + i)) (suc h.count * k) ≡ false =
      ne_eqb (suc (e + i)) (suc h.count * k) (λ z. between e k (suc h.count) (suc i) pos (omega arith) less (let y : e + suc i ≡ suc (e + i) = omega arith in y ∙ z)) in
      neither (not (refused_by o)) (ltb h.count s.most) n
    where
      neither : (a c : Bool) {b : Bool} → b ≡ false → pick (a && (b && c)) (record { count = suc h.count; room = s.put h.count o.desk h.room }) h ≡ h
      neither true c e = simp e
      neither false c e = refl

  -- one turn more, from a row that kept nothing
  turn_row : (i : ℕ) → turn T s k (e + i) (record { last = row i; kept = h }) ≡ played T s k (e + i) (row (suc i)) h
  turn_row i =
      by_cases (refused_by (row i))
      (λ y.
      let same : row (suc i) ≡ row i = run_stays (tape_from B es e d) i y in
      let r : refused_by (row (suc i)) ≡ true = ap refused_by same ∙ y in
      turn_stays T s k (e + i) (record { last = row i; kept = h }) y
      ∙ (ap (λ (o : Play). record { last = o; kept = h }) (sym same) ∙ ap (λ (x : Kept). record { last = row (suc i); kept = x }) (sym (stays r))))
      (λ y.
      turn_plays T s k (e + i) (record { last = row i; kept = h }) y ∙ ap (λ (o : Play). played T s k (e + i) o h) (sym (run_on (tape_from B es e d) i y)))
    where
      stays : refused_by (row (suc i)) ≡ true → kept_at T s k (suc (e + i)) (row (suc i)) h ≡ h
      stays r = simp r

  row_turns : (i : ℕ) → suc i ≤ k - e % k → glide T s k e (suc i) start ≡ played T s k (e + i) (row (suc i)) h
  row_turns zero le = glide_more 0 ∙ (ap (turn T s k (e + 0)) glide_none ∙ turn_row 0)
  row_turns (suc i) le =
      let rec : glide T s k e (suc i) start ≡ played T s k (e + i) (row (suc i)) h = row_turns i (omega arith) in
      let bare : glide T s k e (suc i) start ≡ record { last = row (suc i); kept = h } = rec ∙ ap (λ (x : Kept). record { last = row (suc i); kept = x }) (keeps_none i (row (suc i)) (omega arith)) in
      glide_more (suc i) ∙ (ap (turn T s k (e + suc i)) bare ∙ turn_row (suc i))

  -- a whole row, by its last event
  pub row_glides : (at : ℕ) → e < at → at ≤ e + (k - e % k) → glide T s k e (at - e) start ≡ record { last = row (at - e); kept = kept_at T s k at (row (at - e)) h }
  row_glides at less next =
      let z : at - e ≡ suc (at - e - 1) = omega arith in
      let y : suc (e + (at - e - 1)) ≡ at = omega arith in
      ap (λ (i : ℕ). glide T s k e i start) z
      ∙ (row_turns (at - e - 1) (omega arith)
      ∙ (ap (λ (m : ℕ). record { last = row (suc (at - e - 1)); kept = kept_at T s k m (row (suc (at - e - 1))) h }) y
      ∙ ap (λ (i : ℕ). record { last = row i; kept = kept_at T s k at (row i) h }) (sym z)))

-- ---- one row of a drag -----------------------------------------------------------------------------------------------------------------

lawful_boards : {B : List ℤ} (d : Desk) → LawfulAt B d → Boards d.position.settings d.shown d.bits
lawful_boards d l =
    let g = l.kept.sound.ground in
    record { cell = g.board; byte = g.room; few = g.mined.sized.cells }

-- what keeping does is what the slider does with an accepted event
keep_is : (B : List ℤ) (t : Tape) (g : Settings) (k m : ℕ) (o : Play) (h : Kept) → refused_by o ≡ false
    → kept_at t (slots_of B g (length h.room)) k m o h ≡ keep_desk k g m o.desk h
unfolding keep_desk
keep_is B t g k m o h e = simp e

keep_not : (t : Tape) (s : Slots) (k m : ℕ) (o : Play) (h : Kept) → refused_by o ≡ true → kept_at t s k m o h ≡ h
keep_not t s k m o h e = simp e

module _ (B : List ℤ) (es : List ℕ) (k e to : ℕ) (pos : 1 ≤ k) (p : Position) (shown bits work : List ℕ) (law : LawfulAt B (desk p shown bits))
    {at : ℕ} (stops : Stops e to k at) (o : Played) (shown' bits' work' : List ℕ) (w : Plays (row_on B es e at) p shown bits work o shown' bits' work') where
  abbrev d : Desk
  d = desk p shown bits

  abbrev reached : Play
  reached = done o.answer (desk o.position shown' bits')

  after_follows : Follows B d (desk o.position shown' bits')
  after_follows = subst⁻¹ (λ (x : Play). Follows B d x.desk) w.outcome (row_follows B es e d law (at - e))

  pub after_boards : Boards o.position.settings shown' bits'
  after_boards = lawful_boards (desk o.position shown' bits') after_follows.lawful

  module _ (kept : ℕ) (room : List ℕ) where
    abbrev h : Kept
    h = kept_of kept room

    abbrev s : Slots
    s = slots_of B p.settings (length room)

    row_is : glide_of B es k e at p.settings d h ≡ record { last = reached; kept = kept_at (tape_of B es d) s k at reached h }
    unfolding glide_of
    row_is =
        row_glides B es s k e d h pos at stops.after stops.next
        ∙ ap (λ (x : Play). record { last = x; kept = kept_at (tape_of B es d) s k at x h }) (sym w.outcome)

    pub row_refuses : 20 ≤ o.answer → gliding o.answer o.position shown' bits' kept room ≡ glide_of B es k e at p.settings d h
    row_refuses r = sym (row_is ∙ ap (λ (x : Kept). record { last = reached; kept = x }) (keep_not (tape_of B es d) s k at reached h (le-leb 20 o.answer r)))

    pub row_accepts : o.answer < 20 → {n : ℕ} {room' : List ℕ} → kept_of n room' ≡ keep_desk k o.position.settings at (desk o.position shown' bits') h
        → gliding o.answer o.position shown' bits' n room' ≡ glide_of B es k e at p.settings d h
    row_accepts r q =
        ap (λ (x : Kept). record { last = reached; kept = x })
        (q
        ∙ (ap (λ (g : Settings). keep_desk k g at (desk o.position shown' bits') h) after_follows.settings
        ∙ sym (keep_is B (tape_of B es d) p.settings k at reached h (lt-leb 20 o.answer r))))
        ∙ sym row_is

-- ---- the way ---------------------------------------------------------------------------------------------------------------------------

module _ (t : Tape) (s : Slots) (k : ℕ) where
  glide_on : (m i : ℕ) (g : Gliding) → glide t s k m (suc i) g ≡ turn t s k (m + i) (glide t s k m i g)
  unfolding glide
  glide_on m i g = refl

  glide_zero : (m : ℕ) (g : Gliding) → glide t s k m 0 g ≡ g
  unfolding glide
  glide_zero m g = refl

  -- in two parts
  glide_split : (m i j : ℕ) (g : Gliding) → glide t s k m (i + j) g ≡ glide t s k (m + i) j (glide t s k m i g)
  glide_split m i zero g = ap (λ (x : ℕ). glide t s k m x g) (let z : i + 0 ≡ i = omega arith in z) ∙ sym (glide_zero (m + i) (glide t s k m i g))
  glide_split m i (suc j) g =
      let rec : glide t s k m (i + j) g ≡ glide t s k (m + i) j (glide t s k m i g) = glide_split m i j g in
      ap (λ (x : ℕ). glide t s k m x g) (let z : i + suc j ≡ suc (i + j) = omega arith in z)
      ∙ (glide_on m (i + j) g
      ∙ (ap (λ (x : ℕ). turn t s k x (glide t s k m (i + j) g)) (let z : m + (i + j) ≡ m + i + j = omega arith in z)
      ∙ (ap (turn t s k (m + i + j)) rec ∙ sym (glide_on (m + i) j (glide t s k m i g)))))

  -- once an event was refused the way is over
  glide_over : (m j : ℕ) (g : Gliding) → refused_by g.last ≡ true → glide t s k m j g ≡ g
  glide_over m zero g r = glide_zero m g
  glide_over m (suc j) g r =
      let rec : glide t s k m j g ≡ g = glide_over m j g r in
      glide_on m j g ∙ (ap (turn t s k (m + j)) rec ∙ turn_stays t s k (m + j) g r)

  -- an accepted answer is not read
  glide_answer : (m j a : ℕ) (d : Desk) (h : Kept) → a < 20
      → glide t s k m (suc j) (record { last = done a d; kept = h }) ≡ glide t s k m (suc j) (record { last = done 0 d; kept = h })
  glide_answer m zero a d h ok =
      first (record { last = done a d; kept = h }) ∙ (turn_plays t s k (m + 0) (record { last = done a d; kept = h }) (lt-leb 20 a ok)
      ∙ sym (first (record { last = done 0 d; kept = h }) ∙ turn_plays t s k (m + 0) (record { last = done 0 d; kept = h }) refl))
    where
      first : (g : Gliding) → glide t s k m 1 g ≡ turn t s k (m + 0) g
      first g = glide_on m 0 g ∙ ap (turn t s k (m + 0)) (glide_zero m g)
  glide_answer m (suc j) a d h ok =
      let rec = glide_answer m j a d h ok in
      glide_on m (suc j) (record { last = done a d; kept = h }) ∙ (ap (turn t s k (m + suc j)) rec ∙ sym (glide_on m (suc j) (record { last = done 0 d; kept = h })))

-- the way does not read where the tape begins
pub glide_any : (B : List ℤ) (es : List ℕ) (d d' : Desk) (s : Slots) (k m i : ℕ) (x : Gliding) → glide (tape_of B es d) s k m i x ≡ glide (tape_of B es d') s k m i x
unfolding glide turn
glide_any B es d d' s k m zero x = refl
glide_any B es d d' s k m (suc i) x = let rec = glide_any B es d d' s k m i x in ap (turn (tape_of B es d) s k (m + i)) rec

-- where the way from a desk stands: what the definition says, on a lawful desk of the same settings
pub record Way (B : List ℤ) (es : List ℕ) (k from : ℕ) (d : Desk) (h : Kept) (work₀ : List ℕ) (r : Glided) (shown bits work room : List ℕ) : Type 0 where
  pub after : from ≤ r.at
  pub same : gliding r.answer r.position shown bits r.kept room ≡ glide_of B es k from r.at d.position.settings d h
  pub lawful : LawfulAt B (desk r.position shown bits)
  pub settings : r.position.settings ≡ d.position.settings
  pub lent : work ≡ work₀
  pub long : length room ≡ length h.room

pub way_start : (B : List ℤ) (es : List ℕ) (k from : ℕ) (p : Position) (shown bits work : List ℕ) (kept : ℕ) (room : List ℕ) → LawfulAt B (desk p shown bits)
    → Way B es k from (desk p shown bits) (kept_of kept room) work (record { at = from; answer = 0; position = p; kept = kept }) shown bits work room
unfolding glide_of
way_start B es k from p shown bits work kept room law =
    record {
      after = omega arith;
      same =
          sym
          (ap (λ (i : ℕ). glide (tape_of B es (desk p shown bits)) (slots_of B p.settings (length room)) k from i (gliding 0 p shown bits kept room)) (let z : from - from ≡ 0 = omega arith in z)
          ∙ glide_zero (tape_of B es (desk p shown bits)) (slots_of B p.settings (length room)) k from (gliding 0 p shown bits kept room));
      lawful = law;
      settings = refl;
      lent = refl;
      long = refl;
    }

module _ (B : List ℤ) (es : List ℕ) (k from to : ℕ) (pos : 1 ≤ k) (d : Desk) (h : Kept) (work₀ : List ℕ) (r : Glided) (shown bits work room : List ℕ)
    (w : Way B es k from d h work₀ r shown bits work room) where
  abbrev whole : Tape
  whole = tape_of B es d

  abbrev S : Slots
  S = slots_of B d.position.settings (length h.room)

  abbrev before : Gliding
  before = record { last = done 0 d; kept = h }

  abbrev here : Desk
  here = desk r.position shown bits

  module _ (ok : r.answer < 20) (r' : Glided) (shown' bits' work' room' : List ℕ)
      (g : Rows B es k r.at to here (kept_of r.kept room) work r' shown' bits' work' room') where
    abbrev now : Gliding
    now = gliding r'.answer r'.position shown' bits' r'.kept room'

    rowed : now ≡ glide whole S k r.at (r'.at - r.at) (record { last = done 0 here; kept = kept_of r.kept room })
    unfolding glide_of
    rowed =
        g.leaves.outcome
        ∙ (ap (λ (x : Settings). glide_from (tape_of B es here) (slots_of B x (length room)) k r'.at r.at here (kept_of r.kept room)) w.settings
        ∙ (ap (λ (l : ℕ). glide_from (tape_of B es here) (slots_of B d.position.settings l) k r'.at r.at here (kept_of r.kept room)) w.long
        ∙ glide_any B es here d S k r.at (r'.at - r.at) (record { last = done 0 here; kept = kept_of r.kept room })))

    on : glide_of B es k from r'.at d.position.settings d h ≡ now
    unfolding glide_of
    on =
        let a = w.after in
        let b = g.stops.after in
        let j : ℕ = r'.at - r.at - 1 in
        let q : r'.at - r.at ≡ suc j = omega arith in
        let m : from + (r.at - from) ≡ r.at = omega arith in
        ap (λ (i : ℕ). glide whole S k from i before) (let z : r'.at - from ≡ r.at - from + (r'.at - r.at) = omega arith in z)
        ∙ (glide_split whole S k from (r.at - from) (r'.at - r.at) before
        ∙ (ap (λ (i : ℕ). glide whole S k i (r'.at - r.at) (glide whole S k from (r.at - from) before)) m
        ∙ (ap (glide whole S k r.at (r'.at - r.at)) (sym w.same)
        ∙ (ap (λ (i : ℕ). glide whole S k r.at i (gliding r.answer r.position shown bits r.kept room)) q
        ∙ (glide_answer whole S k r.at j r.answer here (kept_of r.kept room) ok
        ∙ (ap (λ (i : ℕ). glide whole S k r.at i (record { last = done 0 here; kept = kept_of r.kept room })) (sym q) ∙ sym rowed))))))

    played_row : now ≡ record { last = row_on B es r.at r'.at here; kept = kept_at (tape_of B es here) (slots_of B r.position.settings (length room)) k r'.at (row_on B es r.at r'.at here) (kept_of r.kept room) }
    unfolding glide_of
    played_row =
        g.leaves.outcome
        ∙ row_glides B es (slots_of B r.position.settings (length room)) k r.at here (kept_of r.kept room) pos r'.at g.stops.after g.stops.next

    follows : Follows B here (desk r'.position shown' bits')
    follows = subst⁻¹ (λ (x : Gliding). Follows B here x.last.desk) played_row (row_follows B es r.at here w.lawful (r'.at - r.at))

    room_kept : length room' ≡ length room
    room_kept =
        ap (λ (x : Gliding). length x.kept.room) played_row
        ∙ kept_long (row_on B es r.at r'.at here) (keeps (tape_of B es here) (slots_of B r.position.settings (length room)) k r'.at (row_on B es r.at r'.at here) (kept_of r.kept room))
      where
        kept_long : (o : Play) (b : Bool)
            → length (pick b (kept_of (suc r.kept) (sets room (r.kept * size_for r.position.settings) (desk_bytes o.desk))) (kept_of r.kept room)).room ≡ length room
        kept_long o b =
            pick_both (λ (x : Kept). length x.room ≡ length room) b (kept_of (suc r.kept) (sets room (r.kept * size_for r.position.settings) (desk_bytes o.desk)))
            (kept_of r.kept room) (λ _. length-sets room (r.kept * size_for r.position.settings) (desk_bytes o.desk)) (λ _. refl)

    pub way_next : Way B es k from d h work₀ r' shown' bits' work' room'
    way_next =
        let a = w.after in
        let b = g.stops.after in
        record {
          after = omega arith;
          same = sym on;
          lawful = follows.lawful;
          settings = follows.settings ∙ w.settings;
          lent = g.leaves.same ∙ w.lent;
          long = room_kept ∙ w.long;
        }

  pub way_end : to ≡ r.at → gliding r.answer r.position shown bits r.kept room ≡ glide_of B es k from to d.position.settings d h
  way_end z = w.same ∙ ap (λ (i : ℕ). glide_of B es k from i d.position.settings d h) (sym z)

  pub way_refused : r.at ≤ to → 20 ≤ r.answer → gliding r.answer r.position shown bits r.kept room ≡ glide_of B es k from to d.position.settings d h
  unfolding glide_of
  way_refused le over =
      let a = w.after in
      w.same
      ∙ (sym (glide_over whole S k (from + (r.at - from)) (to - r.at) (glide whole S k from (r.at - from) before) (ap (λ (x : Gliding). refused_by x.last) (sym w.same) ∙ le-leb 20 r.answer over))
      ∙ (sym (glide_split whole S k from (r.at - from) (to - r.at) before)
      ∙ ap (λ (i : ℕ). glide whole S k from i before) (let z : r.at - from + (to - r.at) ≡ to - from = omega arith in z)))

  module _ (law : LawfulAt B d) where
    pub way_cells : length shown ≡ length d.shown
    way_cells = (lengths_same B d here law w.lawful w.settings).0

    pub way_bytes : length bits ≡ length d.bits
    way_bytes = (lengths_same B d here law w.lawful w.settings).1

pub way_blank : {B : List ℤ} {es : List ℕ} {k from : ℕ} {d : Desk} {h : Kept} {work₀ : List ℕ} {r : Glided} {shown bits work room : List ℕ}
    → Way B es k from d h work₀ r shown bits work room → Blank d.position.settings work₀ → Blank r.position.settings work
way_blank {work₀ = work₀} {r = r} w b =
    subst⁻¹ (λ (x : List ℕ). Blank r.position.settings x) w.lent (subst⁻¹ (λ (g : Settings). Blank g work₀) w.settings b)
