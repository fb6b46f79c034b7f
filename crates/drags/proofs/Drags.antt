-- The slots of a room are faithful to a lawful game; and playing its first n events from the start is what a flow of them gives.
use Rattle.std.specs.Prelude.{Option, Some, None}
use mathlib.Core.Path.{◌≡◌, refl, ap, sym, ◌∙◌, subst, subst⁻¹}
use mathlib.Core.Bool.{Bool, true, false, ◌&&◌, not}
use mathlib.Core.List.{List, [], ◌∷◌, ◌++◌}
use Prim.Native.Nat.{ℕ, zero, suc, ◌+◌, ◌-◌, ◌*◌, ◌/◌, ◌%◌, ◌≤◌, ◌<◌}
use native.Mathlib.Omega.{arith}
use native.Mathlib.Nat.{suc-mul, mul-le-mul_right, le-div_iff_mul-le}
use lib.Dec.{eqb, ltb, leb}
use lib.IntN.{ℤ}
use lib.ListN.{length, get_or, take, drop}
use lib.Seq.{sets, length-sets, take-add, length-take-le}
use borrow.Author.Tests.{eq-eqb, eqb-false, le-leb, lt-ltb, le-ltb}
use Rattle.rules.specs.declared.Settings.{Settings}
use Rattle.rules.specs.declared.Pointer.{Pointer}
use Rattle.rules.specs.Words.{pick, bit}
use Rattle.rules.specs.Lent.{bit_bytes}
use Rattle.rules.specs.Opening.{count_shown, is_open}
use Rattle.rules.specs.Clicks.{Desk, Play, desk, done}
use Rattle.rules.specs.Mouse.{rules_ok}
use Rattle.rules.specs.Step.{pointer_of, plain_of, refusal_at, play_at, step_at, step_by_of, step_on}
use Rattle.rules.specs.Lawful.{is_flag, is_open_or_hit, done_at, unopened_in}
use Rattle.rules.specs.Calls.{cells_in, plays, last_play}
use Rattle.cells.proofs.Words.{count_le}
use Rattle.keep.specs.Kept.{LawfulAt, Follows}
use Rattle.keep.proofs.Step.{step_follows}
use Rattle.keep.proofs.Lawful.{kept_lawful}
use Rattle.game.proofs.Answers.{refusal_refuses, refused_from}
use Rattle.flows.specs.Runs.{flow_on}
use Rattle.flows.proofs.Flows.{three}
use Rattle.writing.specs.Put.{Room, Put}
use Rattle.keeping.specs.Keeps.{Fits}
use Rattle.keeping.proofs.Slots.{desk_length, slot_back, slot_before}
use Rattle.keeping.proofs.Keeps.{slot_there}
use Rattle.rules.specs.Slides.{Tape, Slots, refused_by, onward, run_to, desk_bytes, desk_in, play_record, tape_of, size_for, same_settings, slots_of}
use Rattle.records.specs.Entries.{records_in}
use Rattle.slides.specs.Faithful.{AcceptedTo, Faithful}
use Rattle.slides.proofs.Slides.{by_cases, run_on, run_stays}

no : true ≡ false → ⊥
no z = let x : ◌≡◌ {A = ℕ} 0 1 = cc in omega arith

-- ---- a record ----------------------------------------------------------------------------------------------------------------------------

module _ (B : List ℤ) (es : List ℕ) (e : ℕ) (d : Desk) where
  pub record_there : e < records_in es → play_record B es e d ≡ step_on B (get_or es (3 * e) 0) (get_or es (3 * e + 1) 0) (get_or es (3 * e + 2) 0) d
  unfolding play_record
  record_there h = simp (lt-ltb e (records_in es) h)

  pub record_past : records_in es ≤ e → play_record B es e d ≡ done 70 d
  unfolding play_record
  record_past h = simp (le-ltb e (records_in es) h)

  -- what follows holds of a record where it is there, and where there is none
  pub record_either : (P : Play → Type 0) → P (step_on B (get_or es (3 * e) 0) (get_or es (3 * e + 1) 0) (get_or es (3 * e + 2) 0) d) → P (done 70 d) → P (play_record B es e d)
  unfolding play_record
  record_either P f g = go (ltb e (records_in es))
    where
      go : (b : Bool) → P (pick b (step_on B (get_or es (3 * e) 0) (get_or es (3 * e + 1) 0) (get_or es (3 * e + 2) 0) d) (done 70 d))
      go true = f
      go false = g

-- ---- an accepted event is counted ------------------------------------------------------------------------------------------------------

played_counts : (B : List ℤ) (code : ℕ) (x : Pointer) (d : Desk) → (play_at B code x d).desk.position.events ≡ d.position.events + 1
unfolding play_at
played_counts B code x d = refl

at_counts : (B : List ℤ) (code : ℕ) (x : Pointer) (d : Desk) → refused_by (step_at B code x d) ≡ false → (step_at B code x d).desk.position.events ≡ d.position.events + 1
unfolding step_at refusal_at
at_counts B code x d ok =
    by_cases (eqb (refusal_at code x d) 0)
    (λ y. simp y (played_counts B code x d))
    (λ y.
    let n : 30 ≤ refusal_at code x d = refused_from (refusal_at code x d) (refusal_refuses (plain_of code x d) d) (eqb-false (refusal_at code x d) 0 y) in
    absurd (no (sym (le-leb 20 (refusal_at code x d) (omega arith)) ∙ (simp y at ok))))

by_counts : (B : List ℤ) (code : ℕ) (p : Option Pointer) (d : Desk) → refused_by (step_by_of B code p d) ≡ false → (step_by_of B code p d).desk.position.events ≡ d.position.events + 1
unfolding step_by_of
by_counts B code (Some x) d ok = at_counts B code x d ok
by_counts B code None d ok = absurd (no ok)

step_counts : (B : List ℤ) (code r c : ℕ) (d : Desk) → refused_by (step_on B code r c d) ≡ false → (step_on B code r c d).desk.position.events ≡ d.position.events + 1
unfolding step_on
step_counts B code r c d ok = by_counts B code (pointer_of d.position.settings r c) d ok

-- ---- a game from a lawful desk ---------------------------------------------------------------------------------------------------------

-- desk e after desk d: it follows, at so many events
record At' (B : List ℤ) (d : Desk) (m : ℕ) (e : Desk) : Type 0 where
  follows : Follows B d e
  events : e.position.events ≡ m

module _ (B : List ℤ) (es : List ℕ) (d : Desk) (law : LawfulAt B d) (none : d.position.events ≡ 0) where
  abbrev t : Tape
  t = tape_of B es d

  accepted_before : (m : ℕ) → AcceptedTo t (suc m) → AcceptedTo t m
  accepted_before m ok = by_cases (refused_by (run_to t m)) (λ y. absurd (no (sym y ∙ (ap refused_by (sym (run_stays t m y)) ∙ ok)))) (λ y. y)

  entry_follows : (m : ℕ) (e : Desk) → At' B d m e → refused_by (play_record B es m e) ≡ false → At' B d (suc m) (play_record B es m e).desk
  entry_follows m e h =
      record_either B es m e (λ (o : Play). refused_by o ≡ false → At' B d (suc m) o.desk) (stepped (get_or es (3 * m) 0) (get_or es (3 * m + 1) 0) (get_or es (3 * m + 2) 0)) (λ ok. absurd (no ok))
    where
      stepped : (code r c : ℕ) → refused_by (step_on B code r c e) ≡ false → At' B d (suc m) (step_on B code r c e).desk
      stepped code r c ok =
          let f = step_follows B code r c e h.follows.lawful in
          let n = step_counts B code r c e ok in
          let v = h.events in
          record {
            follows = record { lawful = f.lawful; settings = f.settings ∙ h.follows.settings; told = λ z. f.told (h.follows.told z) };
            events = omega arith;
          }

  run_follows : (m : ℕ) → AcceptedTo t m → At' B d m (run_to t m).desk
  unfolding run_to
  run_follows zero ok = record { follows = record { lawful = law; settings = refl; told = λ z. z }; events = none }
  run_follows (suc m) ok =
      let before : AcceptedTo t m = accepted_before m ok in
      let on : run_to t (suc m) ≡ play_record B es m (run_to t m).desk = run_on t m before in
      let rec = run_follows m before in
      subst⁻¹ (λ (o : Play). At' B d (suc m) o.desk) on (entry_follows m (run_to t m).desk rec (ap refused_by (sym on) ∙ ok))

-- ---- its desks in a slot ---------------------------------------------------------------------------------------------------------------

shown_few : (f : ℕ → Bool) (shown : List ℕ) → count_shown f shown ≤ length shown
unfolding count_shown
shown_few f shown = count_le (λ i. f (get_or shown i 0)) (length shown)

unopened_few : (B : List ℤ) (shown : List ℕ) → unopened_in B shown ≤ length shown
unfolding unopened_in
unopened_few B shown = count_le (λ i. not (done_at B shown i)) (length shown)

-- the numbers of a lawful position fit four bytes
lawful_fits : (B : List ℤ) (e : Desk) → LawfulAt B e → Fits e.position
lawful_fits B e l =
    let few = l.few in
    let s = l.kept.sound in
    let c = s.bounded in
    let long = s.ground.board in
    let cells = s.ground.mined.sized.cells in
    let o = shown_few is_open e.shown in
    let f = shown_few is_flag e.shown in
    let h = shown_few is_open_or_hit e.shown in
    let double = s.double in
    let solved = s.solved in
    let flag = s.flag in
    let pre = l.kept.preflags in
    let shut = unopened_few B e.shown in
    let unopened = s.unopened in
    record {
      preflags = omega arith;
      events = omega arith;
      left = let a = c.left in omega arith;
      right = let a = c.right in omega arith;
      double = omega arith;
      lce = let a = c.lce in omega arith;
      rce = let a = c.rce in omega arith;
      dce = let a = c.dce in omega arith;
      flag = omega arith;
      solved_left = omega arith;
      solved_chord = omega arith;
      unopened = omega arith;
    }

settings_same : (g h : Settings) → h ≡ g → same_settings g h ≡ true
unfolding same_settings
settings_same g h e =
    rw (
      eq-eqb g.rows h.rows (ap (λ (x : Settings). x.rows) (sym e)),
      eq-eqb g.columns h.columns (ap (λ (x : Settings). x.columns) (sym e)),
      eq-eqb g.mode h.mode (ap (λ (x : Settings). x.mode) (sym e)),
      eq-eqb (bit g.question) (bit h.question) (ap (λ (x : Settings). bit x.question) (sym e)),
      eq-eqb g.rules h.rules (ap (λ (x : Settings). x.rules) (sym e)),
    )

slots_apart : (size i j : ℕ) → i < j → i * size + size ≤ j * size
slots_apart size i j h = let a = mul-le-mul_right size h in let b = suc-mul i size in omega arith

module _ (B : List ℤ) (es : List ℕ) (d : Desk) (law : LawfulAt B d) (none : d.position.events ≡ 0) (ruled : rules_ok d.position.settings.rules ≡ true) (long : ℕ) where
  abbrev g : Settings
  g = d.position.settings

  abbrev cells : ℕ
  cells = cells_in g

  abbrev bytes : ℕ
  bytes = bit_bytes (cells_in g)

  abbrev game : Tape
  game = tape_of B es d

  abbrev slots : Slots
  slots = slots_of B g long

  -- what is known of a desk that is kept
  record Keepable (e : Desk) : Type 0 where
    fits : Fits e.position
    shown : length e.shown ≡ cells
    bits : length e.bits ≡ bytes

  keepable : (m : ℕ) → AcceptedTo game m → Keepable (run_to game m).desk
  keepable m ok =
      let f = (run_follows B es d law none m ok).follows in
      let ground = f.lawful.kept.sound.ground in
      record {
        fits = lawful_fits B (run_to game m).desk f.lawful;
        shown = ground.board ∙ ap cells_in f.settings;
        bits = ground.room ∙ ap (λ (s : Settings). bit_bytes (cells_in s)) f.settings;
      }

  size_is : (e : Desk) → Keepable e → length (desk_bytes e) ≡ size_for g
  size_is e k = desk_length e.position e.shown e.bits ∙ rw (k.shown, k.bits)

  room_for : (e : Desk) (j : ℕ) (room : List ℕ) → Keepable e → length room ≡ long → j < slots.most → Room (desk_bytes e) (j * size_for g) room
  room_for e j room k l h =
      let a = slot_there (size_for g) long j (omega arith) h in
      let b = size_is e k in
      record { fits = omega arith }

  put_into : (e : Desk) (j : ℕ) (room : List ℕ) → Put (desk_bytes e) (j * size_for g) room (slots.put j e room) (j * size_for g + length (desk_bytes e))
  put_into e j room = record { next = refl; same = refl }

  back_is : (e : Desk) (j : ℕ) (room : List ℕ) → Keepable e → length room ≡ long → j < slots.most → slots.get j (slots.put j e room) ≡ e
  back_is e j room k l h =
      ap (λ (n : ℕ). desk_in n bytes (drop (j * size_for g) (slots.put j e room))) (sym k.shown)
      ∙ (ap (λ (n : ℕ). desk_in (length e.shown) n (drop (j * size_for g) (slots.put j e room))) (sym k.bits)
      ∙ slot_back e.position e.shown e.bits k.fits (room_for e j room k l h) (put_into e j room))

  other_is : (e : Desk) (i j : ℕ) (room : List ℕ) → Keepable e → length room ≡ long → i < j → j < slots.most → slots.get i (slots.put j e room) ≡ slots.get i room
  other_is e i j room k l less h =
      let a = slots_apart (size_for g) i j less in
      let b = slot_there (size_for g) long j (omega arith) h in
      slot_before (room_for e j room k l h) (put_into e j room) cells bytes (i * size_for g) (omega arith) a

  right_is : (m : ℕ) → AcceptedTo game m → slots.right m (run_to game m).desk ≡ true
  right_is m ok =
      let r = run_follows B es d law none m ok in
      rw (
        settings_same g (run_to game m).desk.position.settings r.follows.settings,
        eq-eqb (run_to game m).desk.position.events m r.events,
        kept_lawful B (run_to game m).desk r.follows.lawful (ap (λ (x : Settings). rules_ok x.rules) r.follows.settings ∙ ruled),
      )

  pub faithful : Faithful game slots long
  faithful = record {
    long = λ j e room. length-sets room (j * size_for g) (desk_bytes e);
    back = λ j m room l h ok. back_is (run_to game m).desk j room (keepable m ok) l h;
    other = λ i j m room l less h ok. other_is (run_to game m).desk i j room (keepable m ok) l less h;
    right = right_is;
  }

-- ---- from the start, as a flow ---------------------------------------------------------------------------------------------------------

-- one whole event more at the end of a row of whole events
flow_more : (B : List ℤ) (a : List ℕ) (code r c : ℕ) (o : Play) → length a % 3 ≡ 0 → refused_by o ≡ false
    → last_play o (plays B (a ++ (code ∷ r ∷ c ∷ [])) o.desk) ≡ onward (last_play o (plays B a o.desk)) (step_on B code r c (last_play o (plays B a o.desk)).desk)
unfolding plays last_play
flow_more B [] code r c o h ok = simp ok (last_alone (refused_by (step_on B code r c o.desk)) (step_on B code r c o.desk))
  where
    last_alone : (t : Bool) (p : Play) → last_play p (pick t [] []) ≡ p
    last_alone true p = refl
    last_alone false p = refl
flow_more B (x ∷ []) code r c o h ok = absurd (omega arith)
flow_more B (x ∷ y ∷ []) code r c o h ok = absurd (omega arith)
flow_more B (x ∷ y ∷ z ∷ a) code r c o h ok =
    let rec = flow_more B a code r c (step_on B x y z o.desk) in
    by_cases (refused_by (step_on B x y z o.desk)) (λ t. simp t) (λ t. simp t (rec (omega arith) t))

take_more : (es : List ℕ) (n : ℕ) → n < records_in es
    → take (3 * suc n) es ≡ take (3 * n) es ++ (get_or es (3 * n) 0 ∷ get_or es (3 * n + 1) 0 ∷ get_or es (3 * n + 2) 0 ∷ [])
take_more es n h =
    let e : 3 * suc n ≡ 3 * n + 3 = omega arith in
    ap (λ (m : ℕ). take m es) e ∙ (take-add (3 * n) 3 es ∙ ap (λ (l : List ℕ). take (3 * n) es ++ take 3 l) (three es (3 * n) (omega arith)))

run_next : (t : Tape) (n : ℕ) → run_to t (suc n) ≡ onward (run_to t n) (t.event n (run_to t n).desk)
unfolding run_to
run_next t n = refl

run_none : (B : List ℤ) (es : List ℕ) (d : Desk) → run_to (tape_of B es d) 0 ≡ flow_on B (take (3 * 0) es) d
unfolding run_to plays last_play
run_none B es d = refl

-- the play of three bytes at a place, after a play
abbrev after : List ℤ → List ℕ → ℕ → Play → Play
after B es n o = onward o (step_on B (get_or es (3 * n) 0) (get_or es (3 * n + 1) 0) (get_or es (3 * n + 2) 0) o.desk)

run_after : (B : List ℤ) (es : List ℕ) (d : Desk) (n : ℕ) → n < records_in es → run_to (tape_of B es d) (suc n) ≡ after B es n (run_to (tape_of B es d) n)
run_after B es d n h =
    run_next (tape_of B es d) n
    ∙ ap (onward (run_to (tape_of B es d) n)) (record_there B es n (run_to (tape_of B es d) n).desk h)

flow_after : (B : List ℤ) (es : List ℕ) (d : Desk) (n : ℕ) → n < records_in es → flow_on B (take (3 * suc n) es) d ≡ after B es n (flow_on B (take (3 * n) es) d)
flow_after B es d n h =
    let l : length (take (3 * n) es) ≡ 3 * n = length-take-le (3 * n) es (omega arith) in
    let w : length (take (3 * n) es) % 3 ≡ 0 = omega arith in
    ap (λ (x : List ℕ). flow_on B x d) (take_more es n h)
    ∙ flow_more B (take (3 * n) es) (get_or es (3 * n) 0) (get_or es (3 * n + 1) 0) (get_or es (3 * n + 2) 0) (done 0 d) w refl

-- THE LAW run-flow: playing the first n events from the start is the flow of the first n records
pub run_flow : (B : List ℤ) (es : List ℕ) (d : Desk) (n : ℕ) → n ≤ records_in es → run_to (tape_of B es d) n ≡ flow_on B (take (3 * n) es) d
run_flow B es d zero h = run_none B es d
run_flow B es d (suc n) h =
    let rec = run_flow B es d n in
    run_after B es d n h ∙ (ap (after B es n) (rec (omega arith)) ∙ sym (flow_after B es d n h))
