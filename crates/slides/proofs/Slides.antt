-- Dragging gives what playing from the start gives: one event after the other, then one drag, in a room that is true and stays so.
use mathlib.Core.Path.{◌≡◌, refl, ap, sym, ◌∙◌, subst}
use mathlib.Core.Bool.{Bool, true, false, ◌&&◌, not}
use mathlib.Core.List.{List}
use Prim.Native.Nat.{ℕ, zero, suc, ◌+◌, ◌-◌, ◌*◌, ◌/◌, ◌≤◌, ◌<◌}
use native.Mathlib.Omega.{arith}
use native.Mathlib.Nat.{suc-mul, mul-le-mul_right, div-mul-le_self, le-div_iff_mul-le, add-suc}
use lib.Dec.{eqb, ltb, leb}
use lib.ListN.{length}
use borrow.Author.Tests.{eqb-true, eqb-false, ltb-true, ltb-false, leb-true, leb-false, le-leb, lt-leb, eq-eqb, ne_eqb, lt-ltb, le-ltb, not-true}
use Rattle.rules.specs.Words.{pick}
use Rattle.rules.specs.Clicks.{Desk, Play, done}
use Rattle.cells.proofs.Words.{and_left, and_right}
use Rattle.rules.specs.Slides.{Tape, Slots, refused_by, onward, run_to, flow_number, Kept, Gliding, Slide, emptied, keeps, kept_at, played, turn, glide, glide_from, slot_for, from_start_of, held, slide_from, slide_to}
use Rattle.slides.specs.Faithful.{Same, AcceptedTo, RoomTrue, Faithful}

-- ---- one equation for each case --------------------------------------------------------------------------------------------------------

module _ (t : Tape) (n : ℕ) where
  pub run_on : refused_by (run_to t n) ≡ false → run_to t (suc n) ≡ t.event n (run_to t n).desk
  unfolding run_to
  run_on e = simp e

  pub run_stays : refused_by (run_to t n) ≡ true → run_to t (suc n) ≡ run_to t n
  unfolding run_to
  run_stays e = simp e

-- what holds in both cases holds
pub by_cases : {P : Type 0} (b : Bool) → (b ≡ true → P) → (b ≡ false → P) → P
by_cases true f g = f refl
by_cases false f g = g refl

all_three : (a b c : Bool) → a && (b && c) ≡ true → (a ≡ true) × (b ≡ true) × (c ≡ true)
all_three a b c e = (and_left a (b && c) e, and_left b c (and_right a (b && c) e), and_right b c (and_right a (b && c) e))

module _ (t : Tape) (s : Slots) (k : ℕ) where
  pub turn_stays : (e : ℕ) (g : Gliding) → refused_by g.last ≡ true → turn t s k e g ≡ g
  unfolding turn
  turn_stays e g h = simp h

  pub turn_plays : (e : ℕ) (g : Gliding) → refused_by g.last ≡ false → turn t s k e g ≡ played t s k e (t.event e g.last.desk) g.kept
  unfolding turn
  turn_plays e g h = simp h

  keeps_yes : (m : ℕ) (o : Play) (h : Kept) → keeps t s k m o h ≡ true → kept_at t s k m o h ≡ record { count = suc h.count; room = s.put h.count o.desk h.room }
  keeps_yes m o h e = simp e

  keeps_no : (m : ℕ) (o : Play) (h : Kept) → keeps t s k m o h ≡ false → kept_at t s k m o h ≡ h
  keeps_no m o h e = simp e

-- ---- the slot that a drag starts from --------------------------------------------------------------------------------------------------

module _ (t : Tape) (s : Slots) (k : ℕ) where
  -- it is kept, and its events are not after n
  pub slot_kept : (n count : ℕ) → slot_for t s k n count ≤ count
  slot_kept n count = by_cases (leb count (n / k)) (λ y. simp y (omega arith)) (λ y. let l = leb-false count (n / k) y in simp y (omega arith))

  slot_quotient : (n count : ℕ) → slot_for t s k n count ≤ n / k
  slot_quotient n count = by_cases (leb count (n / k)) (λ y. let l = leb-true count (n / k) y in simp y (omega arith)) (λ y. simp y (omega arith))

  pub slot_before : (n count : ℕ) → slot_for t s k n count * k ≤ n
  slot_before n count =
      let a = mul-le-mul_right k (slot_quotient n count) in
      let b = div-mul-le_self n k in
      omega arith

  -- and no larger one is kept and not after n
  pub slot_largest : (n count j : ℕ) → 1 ≤ k → j ≤ count → j * k ≤ n → j ≤ slot_for t s k n count
  slot_largest n count j pos small le =
      let q : j ≤ n / k = (le-div_iff_mul-le pos).1 le in
      by_cases (leb count (n / k)) (λ y. simp y small) (λ y. simp y q)

  -- whatever the room holds, no drag starts after n
  from_before : (n j : ℕ) (h : Kept) → j * k ≤ n → (slide_from t s k n j h).start ≤ n
  unfolding slide_from
  from_before n zero h le = omega arith
  from_before n (suc j) h le = by_cases (s.right (suc j * k) (s.get j h.room)) (λ y. simp y le) (λ y. simp y (omega arith))

  pub slide_before : (n : ℕ) (h : Kept) → (slide_to t s k n h).start ≤ n
  unfolding slide_to
  slide_before n h = from_before n (slot_for t s k n (held t s k h).count) (held t s k h) (slot_before n (held t s k h).count)

-- ---- one event -------------------------------------------------------------------------------------------------------------------------

-- a drag that has come to the e-th event: it stands where the play from the start stands, and what it kept is true;
-- while nothing was refused and the room reaches further, the next desk to keep is still ahead
pub record Goes (t : Tape) (s : Slots) (k size e : ℕ) (g : Gliding) : Type 0 where
  pub refused : refused_by g.last ≡ refused_by (run_to t e)
  pub desk : g.last.desk ≡ (run_to t e).desk
  pub number : flow_number g.last ≡ flow_number (run_to t e)
  pub true : RoomTrue t s k size g.kept
  pub ahead : refused_by g.last ≡ false → g.kept.count < s.most → e < suc g.kept.count * k

module _ (t : Tape) (s : Slots) (k size : ℕ) (pos : 1 ≤ k) (f : Faithful t s size) where
  -- a desk put into the next slot, after so many accepted events
  room_more : (h : Kept) (o : Play) → RoomTrue t s k size h → h.count < s.most → AcceptedTo t (suc h.count * k) → o.desk ≡ (run_to t (suc h.count * k)).desk
      → RoomTrue t s k size (record { count = suc h.count; room = s.put h.count o.desk h.room })
  room_more h o r below ok e =
      record {
        long = f.long h.count o.desk h.room ∙ r.long;
        few = below;
        desk = λ j small. by_cases (eqb j h.count)
            (λ y. let i : j ≡ h.count = eqb-true j h.count y in
            rw (i, e) (f.back h.count (suc h.count * k) h.room r.long below ok))
            (λ y. let i : j < h.count = other_less j small y in
            rw e (f.other j h.count (suc h.count * k) h.room r.long i below ok ∙ r.desk j i));
        accepted = λ j small. by_cases (eqb j h.count)
            (λ y. let i : j ≡ h.count = eqb-true j h.count y in rw i ok)
            (λ y. r.accepted j (other_less j small y));
      }
    where
      other_less : (j : ℕ) → j < suc h.count → eqb j h.count ≡ false → j < h.count
      other_less j small y = let n = eqb-false j h.count y in omega arith

  -- the event was played: what was kept of it
  keep_goes : (e : ℕ) (o : Play) (h : Kept) → o ≡ run_to t (suc e) → RoomTrue t s k size h → (h.count < s.most → e < suc h.count * k) → Goes t s k size (suc e) (played t s k e o h)
  keep_goes e o h same r ahead =
      by_cases (keeps t s k (suc e) o h)
      (λ y.
      let three = all_three (not (refused_by o)) (eqb (suc e) (suc h.count * k)) (ltb h.count s.most) y in
      let a : not (refused_by o) ≡ true = three.0 in
      let b : eqb (suc e) (suc h.count * k) ≡ true = three.1 in
      let c : ltb h.count s.most ≡ true = three.2 in
      let at : suc e ≡ suc h.count * k = eqb-true (suc e) (suc h.count * k) b in
      let ok : AcceptedTo t (suc h.count * k) = ap (λ (n : ℕ). refused_by (run_to t n)) (sym at) ∙ (ap refused_by (sym same) ∙ not-true (refused_by o) a) in
      let d : o.desk ≡ (run_to t (suc h.count * k)).desk = ap (λ (x : Play). x.desk) same ∙ ap (λ (n : ℕ). (run_to t n).desk) at in
      rw (keeps_yes t s k (suc e) o h y)
      (record {
        refused = ap refused_by same;
        desk = ap (λ (x : Play). x.desk) same;
        number = ap flow_number same;
        true = room_more h o r (ltb-true h.count s.most c) ok d;
        ahead = λ _ _. let m = suc-mul (suc h.count) k in omega arith;
      }))
      (λ y.
      rw (keeps_no t s k (suc e) o h y)
      (record {
        refused = ap refused_by same;
        desk = ap (λ (x : Play). x.desk) same;
        number = ap flow_number same;
        true = r;
        ahead = λ ok below. not_there y ok below (ahead below);
      }))
    where
      not_there : keeps t s k (suc e) o h ≡ false → refused_by o ≡ false → h.count < s.most → e < suc h.count * k → suc e < suc h.count * k
      not_there y ok below less =
          by_cases (eqb (suc e) (suc h.count * k))
          (λ z. absurd (no (sym (keeps_all ok z (lt-ltb h.count s.most below)) ∙ y)))
          (λ z. let n = eqb-false (suc e) (suc h.count * k) z in omega arith)
        where
          keeps_all : refused_by o ≡ false → eqb (suc e) (suc h.count * k) ≡ true → ltb h.count s.most ≡ true → keeps t s k (suc e) o h ≡ true
          keeps_all a b c = simp (a, b, c)

          no : true ≡ false → ⊥
          no z = let x : ◌≡◌ {A = ℕ} 0 1 = cc in omega arith

  turn_goes : (e : ℕ) (g : Gliding) → Goes t s k size e g → Goes t s k size (suc e) (turn t s k e g)
  turn_goes e g w =
      by_cases (refused_by g.last)
      (λ y.
      let same : run_to t (suc e) ≡ run_to t e = run_stays t e (sym w.refused ∙ y) in
      rw (turn_stays t s k e g y)
      (record {
        refused = w.refused ∙ ap refused_by (sym same);
        desk = w.desk ∙ ap (λ (o : Play). o.desk) (sym same);
        number = w.number ∙ ap flow_number (sym same);
        true = w.true;
        ahead = λ ok. absurd (no (sym y ∙ ok));
      }))
      (λ y.
      let same : t.event e g.last.desk ≡ run_to t (suc e) = ap (t.event e) w.desk ∙ sym (run_on t e (sym w.refused ∙ y)) in
      rw (turn_plays t s k e g y) (keep_goes e (t.event e g.last.desk) g.kept same w.true (w.ahead y)))
    where
      no : true ≡ false → ⊥
      no z = let x : ◌≡◌ {A = ℕ} 0 1 = cc in omega arith

  glide_goes : (m i : ℕ) (g : Gliding) → Goes t s k size m g → Goes t s k size (m + i) (glide t s k m i g)
  unfolding glide
  glide_goes m zero g w = let e : m ≡ m + 0 = omega arith in subst (λ (n : ℕ). Goes t s k size n g) e w
  glide_goes m (suc i) g w =
      let rec = glide_goes m i g w in
      let e : suc (m + i) ≡ m + suc i = omega arith in
      subst (λ (n : ℕ). Goes t s k size n (turn t s k (m + i) (glide t s k m i g))) e (turn_goes (m + i) (glide t s k m i g) rec)

  -- ---- one drag --------------------------------------------------------------------------------------------------------------------------

  -- from a desk that is the one after m accepted events, m not after n and not past the next to keep
  from_goes : (n m : ℕ) (d : Desk) (h : Kept) → m ≤ n → AcceptedTo t m → d ≡ (run_to t m).desk → RoomTrue t s k size h → m < suc h.count * k
      → Goes t s k size n (glide_from t s k n m d h)
  from_goes n m d h le ok same r less =
      let e : m + (n - m) ≡ n = omega arith in
      subst (λ (x : ℕ). Goes t s k size x (glide_from t s k n m d h)) e
      (glide_goes m (n - m) (record { last = done 0 d; kept = h })
      (record { refused = sym ok; desk = same; number = sym (number_none ok); true = r; ahead = λ _ _. less }))
    where
      number_none : AcceptedTo t m → flow_number (run_to t m) ≡ 0
      number_none a = simp a

  less_next : (j count : ℕ) → j ≤ count → j * k < suc count * k
  less_next j count h = let a = mul-le-mul_right k h in let b = suc-mul count k in omega arith

  -- what a drag comes to, in a room that is true: the start, and the whole way from there
  pub record Slid (n : ℕ) (h : Kept) (w : Slide) : Type 0 where
    pub start : w.start ≡ slot_for t s k n h.count * k
    pub goes : Goes t s k size n w.glided

  from_slot : (n j : ℕ) (h : Kept) → RoomTrue t s k size h → j ≤ h.count → j * k ≤ n → ((slide_from t s k n j h).start ≡ j * k) × Goes t s k size n (slide_from t s k n j h).glided
  unfolding slide_from run_to
  from_slot n zero h r le before =
      (let z : 0 ≡ 0 * k = omega arith in z, from_goes n 0 t.first h (omega arith) refl refl r (let l = less_next 0 h.count le in omega arith))
  from_slot n (suc j) h r le before =
      let d : s.get j h.room ≡ (run_to t (suc j * k)).desk = r.desk j le in
      let ok : AcceptedTo t (suc j * k) = r.accepted j le in
      let y : s.right (suc j * k) (s.get j h.room) ≡ true = ap (s.right (suc j * k)) d ∙ f.right (suc j * k) ok in
      simp y (refl, from_goes n (suc j * k) (s.get j h.room) h before ok d r (less_next (suc j) h.count le))

  slide_goes : (n : ℕ) (h : Kept) → RoomTrue t s k size h → Slid n h (slide_to t s k n h)
  unfolding slide_to
  slide_goes n h r =
      let w = from_slot n (slot_for t s k n h.count) h r (slot_kept t s k n h.count) (slot_before t s k n h.count) in
      rw (le-ltb s.most h.count r.few) (record { start = w.0; goes = w.1 })

  -- what each call does keeps the room true: an opening or a reset, and a drag
  pub emptied_true : (room : List ℕ) → length room ≡ size → RoomTrue t s k size (emptied room)
  emptied_true room l = record { long = l; few = omega arith; desk = λ j b. absurd (omega arith); accepted = λ j b. absurd (omega arith) }

  pub slide_true : (n : ℕ) (h : Kept) → RoomTrue t s k size h → RoomTrue t s k size (slide_to t s k n h).glided.kept
  slide_true n h r = (slide_goes n h r).goes.true

  -- a drag answers what the first n events from the start answer, with the same desk
  pub slide_same : (n : ℕ) (h : Kept) → RoomTrue t s k size h → Same t n (slide_to t s k n h).glided.last
  slide_same n h r = let g = (slide_goes n h r).goes in record { desk = g.desk; number = g.number }

  -- it starts from the largest one kept before it and not after n, or 0
  pub slide_start : (n : ℕ) (h : Kept) → RoomTrue t s k size h → (slide_to t s k n h).start ≡ slot_for t s k n h.count * k
  slide_start n h r = (slide_goes n h r).start

  -- after a drag that was refused no event, everything up to n that the room reaches is kept
  pub slide_reaches : (n : ℕ) (h : Kept) → RoomTrue t s k size h → AcceptedTo t n → (slide_to t s k n h).glided.kept.count < s.most
      → n < suc (slide_to t s k n h).glided.kept.count * k
  slide_reaches n h r ok below = let g = (slide_goes n h r).goes in g.ahead (g.refused ∙ ok) below
