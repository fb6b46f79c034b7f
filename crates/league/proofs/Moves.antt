-- The public calls on a position that the position check accepts, as quiet moves; and setup, which leads to such a position. Assumes nothing.
use Rattle.std.specs.Prelude.{Option, Some, None}
use Rattle.rules.specs.declared.Pointer.{Pointer}
use mathlib.Core.Path.{◌≡◌, refl, ap, ◌∙◌}
use mathlib.Core.List.{List, [], ◌∷◌}
use mathlib.Core.Bool.{Bool, true, false, ◌&&◌}
use Prim.Native.Nat.{ℕ, ◌%◌}
use lib.ListN.{length}
use lib.IntN.{ℤ}
use lib.Dec.{leb, ltb, eqb}
use borrow.Author.Tests.{eqb-true, eq-eqb}
use Rattle.rules.specs.declared.Settings.{Settings}
use Rattle.rules.specs.declared.Answer.{Answer}
use Rattle.rules.specs.declared.Place.TheVariants.{Nowhere}
use Rattle.rules.specs.Words.{pick, unless}
use Rattle.rules.specs.Grid.{size_ok}
use Rattle.rules.specs.Board.{board_refusal, fault_of}
use Rattle.rules.specs.States.{fresh_of}
use Rattle.rules.specs.Clicks.{Desk, Play, done, on}
use Rattle.rules.specs.Mouse.{flipped}
use Rattle.rules.specs.Opening.{opened_in}
use Rattle.rules.specs.Lawful.{lawful_refusal}
use Rattle.rules.specs.Step.{pointer_of, step_on, plain_code, plain_on}
use Rattle.rules.specs.Calls.{left_by, set_by, Outcome, outcome, answers, refuses, set_up, boards_fit, work_fits, mode_ok, settings_refusal, position_refusal, position_check, lent_refusal, fresh_desk, setup_by, setup_refusal, setup_of, refused, refused_at, accepted, played, tested, resolve_by, resolve_of, step_of, plays, last_play, flowed, flow_refusal, flow_of}
use Rattle.cells.proofs.Words.{pick_both, unless_passed}
use Rattle.keep.proofs.Calls.{setup_keeps, resolve_call_keeps, step_call_keeps, flow_call_keeps}
use Rattle.board.specs.Pair.{pair_by, pair_of}
use Rattle.board.proofs.Pair.{plain_at_of, flipped_at, middle_check, pair_is_step}
use Rattle.secrecy.proofs.Quiet.{over, a_play, lost_in, Quiet, branch, then, only}
use Rattle.secrecy.proofs.Hands.{idle}
use Rattle.secrecy.proofs.Events.{step_quiet}
use Rattle.secrecy.proofs.Rows.{Move}
use Rattle.secrecy.proofs.Secrecy.{event}
use Rattle.league.specs.Secret.{Function, resolve, step, pair, flow, CallIs, play_of, Placeless}
use Rattle.league.proofs.Sums.{resolve_leaves, pair_leaves}

-- ---- setup ---------------------------------------------------------------------------------------------------------------------------------

pub setup_number : (n : ℕ) (B : List ℤ) (s : Settings) (shown bits : List ℕ) → (setup_by n B (fresh_of s 0) s shown bits).answer.number ≡ 0 → n ≡ 0
unfolding setup_by
setup_number n B s shown bits e = go (eqb n 0) refl e
  where
    go : (b : Bool) → eqb n 0 ≡ b
        → (pick b (set_up (answers 0 (fresh_desk s B).position 0) (fresh_desk s B).shown (fresh_desk s B).bits) (set_up (refuses B (fresh_of s 0) n) shown bits)).answer.number ≡ 0 → n ≡ 0
    go true d e = eqb-true n 0 d
    go false d e = e

setup_passed : (s : Settings) (B : List ℤ) (shown bits : List ℕ) → (setup_of s B shown bits).answer.number ≡ 0 → setup_refusal s B shown bits ≡ 0
unfolding setup_of
setup_passed s B shown bits e = setup_number (setup_refusal s B shown bits) B s shown bits e

-- an accepted setup begins the game of the demand, and the position check accepts it
pub begins : (s : Settings) (B : List ℤ) (shown bits : List ℕ) → (setup_of s B shown bits).answer.number ≡ 0 → set_by (setup_of s B shown bits) ≡ fresh_desk s B
unfolding setup_of setup_by
begins s B shown bits e = rw (setup_passed s B shown bits e)

pub start_checked : (s : Settings) (B : List ℤ) (shown bits : List ℕ) → (setup_of s B shown bits).answer.number ≡ 0 → position_check B (fresh_desk s B) ≡ 0
start_checked s B shown bits e = setup_keeps s B shown bits (setup_passed s B shown bits e)

-- ---- the tests of a call -------------------------------------------------------------------------------------------------------------------

-- a position that passes its tests is refused, with more to fit, for what does not fit alone
size_passed : (R C : ℕ) (fit : Bool) (B : List ℤ) → board_refusal R C fit B ≡ 0 → board_refusal R C false B ≡ 21
unfolding board_refusal
size_passed R C fit B e = rw (unless_passed 19 (size_ok R C) _ e).0

settings_false : (s : Settings) (fit : Bool) (B : List ℤ) (rest : ℕ) → settings_refusal s fit B rest ≡ 0 → settings_refusal s false B rest ≡ 21
unfolding settings_refusal
settings_false s fit B rest e =
    rw (size_passed s.rows s.columns fit B (go (board_refusal s.rows s.columns fit B) (eqb (board_refusal s.rows s.columns fit B) 0) refl e))
  where
    go : (n : ℕ) (b : Bool) → eqb n 0 ≡ b → pick b (unless 25 (mode_ok s.mode) rest) n ≡ 0 → n ≡ 0
    go n true d e = eqb-true n 0 d
    go n false d e = e

more_to_fit : (a b : Bool) (B : List ℤ) (d : Desk) → position_refusal a B d ≡ 0 → position_refusal (a && b) B d ≡ unless 21 b 0
unfolding position_refusal
more_to_fit true true B d e = e
more_to_fit false true B d e = e
more_to_fit true false B d e = settings_false d.position.settings true B (lawful_refusal B d) e
more_to_fit false false B d e = settings_false d.position.settings false B (lawful_refusal B d) e

-- a call that is refused unless something fits, as a play
module _ (t : Bool) (n : ℕ) (o : Outcome) (B : List ℤ) (d : Desk) (work : List ℕ) (e : n ≡ unless 21 t 0) where
  if_fits_lem : play_of (pick (eqb n 0) o (refused_at B n d work)) ≡ pick t (play_of o) (done 21 d)
  if_fits_lem = ap (λ (m : ℕ). play_of (pick (eqb m 0) o (refused_at B m d work))) e ∙ go t
    where
      go : (t : Bool) → play_of (pick (eqb (unless 21 t 0) 0) o (refused_at B (unless 21 t 0) d work)) ≡ pick t (play_of o) (done 21 d)
      go true = refl
      go false = refl

  -- and 21 has no place
  fits_place : o.answer.place ≡ Nowhere → (pick (eqb n 0) o (refused_at B n d work)).answer.place ≡ Nowhere
  unfolding fault_of
  fits_place h = ap (λ (m : ℕ). (pick (eqb m 0) o (refused_at B m d work)).answer.place) e ∙ go t
    where
      go : (t : Bool) → (pick (eqb (unless 21 t 0) 0) o (refused_at B (unless 21 t 0) d work)).answer.place ≡ Nowhere
      go true = h
      go false = refl

-- ---- step ----------------------------------------------------------------------------------------------------------------------------------

played_play : (before : List ℕ) (o : Play) (work : List ℕ) → play_of (played before o work) ≡ o
played_play before o work = go (leb 20 o.answer)
  where
    go : (b : Bool) → play_of (pick b (refused o.answer o.desk work) (accepted o.answer (opened_in before o.desk.shown) o.desk work)) ≡ o
    go true = refl
    go false = refl

-- an event as a call, with enough work or without
pub event_plays : (B : List ℤ) (o : Play) (d : Desk) (work : List ℕ) → position_check B d ≡ 0
    → play_of (tested B d work o) ≡ pick (work_fits d.position.settings work) o (done 21 d)
unfolding lent_refusal position_check
event_plays B o d work e =
    let t = work_fits d.position.settings work in
    if_fits_lem t (lent_refusal B d work) (played d.shown o work) B d work (more_to_fit (boards_fit d.position.settings B d.shown d.bits) t B d e)
    ∙ ap (λ (x : Play). pick t x (done 21 d)) (played_play d.shown o work)

step_plays : (B : List ℤ) (code r c : ℕ) (d : Desk) (work : List ℕ) → position_check B d ≡ 0
    → play_of (step_of B code r c d work) ≡ pick (work_fits d.position.settings work) (plain_on B code r c d) (done 21 d)
unfolding step_of
step_plays B code r c d work e = event_plays B (plain_on B code r c d) d work e

-- ---- resolve, and the pair -------------------------------------------------------------------------------------------------------------------

-- what resolve leaves where 20 to 264 do not refuse, answering n where 30 and 31 do not either
resolving : ℕ → ℕ → Option Pointer → Desk → Play
resolving n code (Some x) d = pick (ltb d.position.events 65535) (done n (flipped_at code d)) (done 31 d)
resolving n code None d = done 30 d

resolve_heard : (B : List ℤ) (code r c : ℕ) (d : Desk) → position_check B d ≡ 0
    → resolve_of B code r c d ≡ resolve_by code (pointer_of d.position.settings r c) d.position
unfolding resolve_of
resolve_heard B code r c d e = simp (eq-eqb _ _ e)

resolve_by_plays : (code : ℕ) (w : Option Pointer) (d : Desk) (work : List ℕ) → play_of (outcome (resolve_by code w d.position) d.shown d.bits work) ≡ resolving 0 code w d
unfolding resolve_by resolving
resolve_by_plays code None d work = refl
resolve_by_plays code (Some x) d work = go (ltb d.position.events 65535)
  where
    go : (b : Bool) → play_of (outcome (pick b (answers 0 (flipped_at code d).position (plain_at_of code d)) (answers 31 d.position 0)) d.shown d.bits work)
        ≡ pick b (done 0 (flipped_at code d)) (done 31 d)
    go true = refl
    go false = refl

-- with too little work the pair resolves, and its step is refused with 21
short_by : (B : List ℤ) (code r c : ℕ) (w : Option Pointer) (d : Desk) (work : List ℕ) → work_fits d.position.settings work ≡ false → position_check B d ≡ 0
    → play_of (pair_by B r c d work (resolve_by code w d.position)) ≡ resolving 21 code w d
unfolding resolve_by resolving
short_by B code r c None d work f e = refl
short_by B code r c (Some x) d work f e = go (ltb d.position.events 65535)
  where
    go : (b : Bool) → play_of (pair_by B r c d work (pick b (answers 0 (flipped_at code d).position (plain_at_of code d)) (answers 31 d.position 0)))
        ≡ pick b (done 21 (flipped_at code d)) (done 31 d)
    go true =
        step_plays B (plain_at_of code d) r c (flipped_at code d) work (middle_check B d (flipped code d.position.middle) e)
        ∙ ap (λ (t : Bool). pick t (plain_on B (plain_at_of code d) r c (flipped_at code d)) (done 21 (flipped_at code d))) f
    go false = refl

pair_plays : (B : List ℤ) (code r c : ℕ) (d : Desk) (work : List ℕ) (enough : Bool) → work_fits d.position.settings work ≡ enough → position_check B d ≡ 0
    → play_of (pair_of B code r c d work) ≡ pick enough (step_on B code r c d) (resolving 21 code (pointer_of d.position.settings r c) d)
pair_plays B code r c d work true w e =
    ap play_of (pair_is_step B code r c d work w) ∙ (event_plays B (step_on B code r c d) d work e ∙ ap (λ (t : Bool). pick t (step_on B code r c d) (done 21 d)) w)
pair_plays B code r c d work false w e =
    ap (λ (a : Answer). play_of (pair_by B r c d work a)) (resolve_heard B code r c d e) ∙ short_by B code r c (pointer_of d.position.settings r c) d work w e

-- it reads no board
resolving_quiet : (n code r c : ℕ) (d : Desk)
    → Quiet a_play (lost_in d) d.shown (λ B h. resolving n code (pointer_of d.position.settings r c) (over d h))
unfolding resolving
resolving_quiet n code r c d = go (pointer_of d.position.settings r c)
  where
    go : (w : Option Pointer) → Quiet a_play (lost_in d) d.shown (λ B h. resolving n code w (over d h))
    go None = idle (lost_in d) 30 d refl
    go (Some x) =
        branch a_play (lost_in d) d.shown (ltb d.position.events 65535) (λ _. idle (lost_in d) n (flipped_at code d) refl) (λ _. idle (lost_in d) 31 d refl)

-- ---- step_flow -----------------------------------------------------------------------------------------------------------------------------

-- 0, or the number of the refused event
abbrev ended : Play → Play
ended o = done (pick (leb 20 o.answer) o.answer 0) o.desk

whole : List ℕ → Bool
whole events = eqb (length events % 3) 0

flow_plays : (B : List ℤ) (events : List ℕ) (d : Desk) (work : List ℕ) → position_check B d ≡ 0
    → play_of (flow_of B events d work)
    ≡ pick (work_fits d.position.settings work && whole events) (ended (last_play (done 0 d) (plays B events d))) (done 21 d)
unfolding flow_of flow_refusal position_check whole
flow_plays B events d work e =
    let t = work_fits d.position.settings work && whole events in
    if_fits_lem t (flow_refusal B events d work) (flowed (plays B events d) (last_play (done 0 d) (plays B events d)) work) B d work
    (more_to_fit (boards_fit d.position.settings B d.shown d.bits) t B d e)

-- the last play of a flow is quiet
last_quiet : (es : List ℕ) (n : ℕ) (d : Desk) → Quiet a_play (lost_in d) d.shown (λ B h. last_play (done n (over d h)) (plays B es (over d h)))
unfolding plays last_play
last_quiet [] n d = idle (lost_in d) n d refl
last_quiet (code ∷ []) n d = idle (lost_in d) n d refl
last_quiet (code ∷ r ∷ []) n d = idle (lost_in d) n d refl
last_quiet (code ∷ r ∷ c ∷ es) n d =
    then a_play a_play (lost_in d) d.shown (λ B h. step_on B code r c (over d h))
    (λ o B. last_play o (pick (leb 20 o.answer) [] (plays B es o.desk))) (step_quiet code r c d)
    (λ o. go (leb 20 o.answer) o (last_quiet es o.answer o.desk))
  where
    go : (b : Bool) (o : Play) → Quiet a_play (lost_in o.desk) o.desk.shown (λ B h. last_play (done o.answer (over o.desk h)) (plays B es (over o.desk h)))
        → Quiet a_play (lost_in o.desk) o.desk.shown (λ B h. last_play (done o.answer (over o.desk h)) (pick b [] (plays B es (over o.desk h))))
    go true o q = idle (lost_in o.desk) o.answer o.desk refl
    go false o q = q

-- ---- a call --------------------------------------------------------------------------------------------------------------------------------

-- a quiet move that is made if something fits, else refused with 21
if_fits : Bool → Move → Move
if_fits t m = record {
  play = λ B d. pick t (m.play B d) (done 21 d);
  quiet = λ d. branch a_play (lost_in d) d.shown t (λ _. m.quiet d) (λ _. idle (lost_in d) 21 d refl);
}

-- what a function plays, lent enough work or not
pub move : Function → Bool → Move
move (resolve code row column) enough = record {
  play = λ B d. resolving 0 code (pointer_of d.position.settings row column) d;
  quiet = resolving_quiet 0 code row column;
}
move (step code row column) enough = if_fits enough (event (plain_code code) row column)
move (pair code row column) enough = record {
  play = λ B d. pick enough (step_on B code row column d) (resolving 21 code (pointer_of d.position.settings row column) d);
  quiet = λ d. branch a_play (lost_in d) d.shown enough (λ _. step_quiet code row column d) (λ _. resolving_quiet 21 code row column d);
}
move (flow events) enough =
    if_fits (enough && whole events)
    (record {
      play = λ B d. ended (last_play (done 0 d) (plays B events d));
      quiet = λ d. only a_play a_play (lost_in d) d.shown (λ B h. last_play (done 0 (over d h)) (plays B events (over d h))) ended (λ o. refl) (λ o h. refl) (last_quiet events 0 d);
    })

-- a pair that is lent enough work
pub pair_move : (code row column : ℕ) (B : List ℤ) (d : Desk) → (move (pair code row column) true).play B d ≡ step_on B code row column d
unfolding move
pair_move code row column B d = refl

pair_keeps : (B : List ℤ) (code r c : ℕ) (d : Desk) (work : List ℕ) → position_check B d ≡ 0 → position_check B (left_by (pair_of B code r c d work)) ≡ 0
pair_keeps B code r c d work e =
    let a = resolve_of B code r c d in
    let k = resolve_call_keeps B code r c d e in
    pick_both (λ (o : Outcome). position_check B (left_by o) ≡ 0) (eqb a.number 0) (step_of B a.value r c (on d a.position) work) (outcome a d.shown d.bits work)
    (λ _. step_call_keeps B a.value r c (on d a.position) work k) (λ _. k)

module _ (B : List ℤ) (d : Desk) (work : List ℕ) (o : Outcome) where
  -- what a call leaves is what the move leaves, and the position check accepts it
  pub call_moves : (f : Function) (enough : Bool) → work_fits d.position.settings work ≡ enough → CallIs f B d work o → position_check B d ≡ 0
      → play_of o ≡ (move f enough).play B d
  unfolding move if_fits
  call_moves (resolve code row column) enough w c e =
      ap play_of (resolve_leaves code row column B d work o c)
      ∙ (ap (λ (a : Answer). play_of (outcome a d.shown d.bits work)) (resolve_heard B code row column d e)
      ∙ resolve_by_plays code (pointer_of d.position.settings row column) d work)
  call_moves (step code row column) enough w c e =
      ap play_of c ∙ (step_plays B code row column d work e ∙ ap (λ (t : Bool). pick t (plain_on B code row column d) (done 21 d)) w)
  call_moves (pair code row column) enough w c e = ap play_of (pair_leaves code row column B d work o c) ∙ pair_plays B code row column d work enough w e
  call_moves (flow events) enough w c e =
      ap play_of c
      ∙ (flow_plays B events d work e ∙ ap (λ (t : Bool). pick (t && whole events) (ended (last_play (done 0 d) (plays B events d))) (done 21 d)) w)

  pub call_keeps : (f : Function) → CallIs f B d work o → position_check B d ≡ 0 → position_check B (left_by o) ≡ 0
  call_keeps (resolve code row column) c e = rw (resolve_leaves code row column B d work o c) (resolve_call_keeps B code row column d e)
  call_keeps (step code row column) c e = rw c (step_call_keeps B code row column d work e)
  call_keeps (pair code row column) c e = rw (pair_leaves code row column B d work o c) (pair_keeps B code row column d work e)
  call_keeps (flow events) c e = rw c (flow_call_keeps B events d work e)

-- ---- no place ------------------------------------------------------------------------------------------------------------------------------

played_place : (before : List ℕ) (o : Play) (work : List ℕ) → (played before o work).answer.place ≡ Nowhere
played_place before o work = go (leb 20 o.answer)
  where
    go : (b : Bool)
        → (pick b (refused o.answer o.desk work) (accepted o.answer (opened_in before o.desk.shown) o.desk work)).answer.place ≡ Nowhere
    go true = refl
    go false = refl

step_place : (B : List ℤ) (code r c : ℕ) (d : Desk) (work : List ℕ) → position_check B d ≡ 0 → (step_of B code r c d work).answer.place ≡ Nowhere
unfolding step_of lent_refusal position_check
step_place B code r c d work e =
    let t = work_fits d.position.settings work in
    fits_place t (lent_refusal B d work) (played d.shown (plain_on B code r c d) work) B d work
    (more_to_fit (boards_fit d.position.settings B d.shown d.bits) t B d e) (played_place d.shown (plain_on B code r c d) work)

resolve_by_place : (code : ℕ) (w : Option Pointer) (d : Desk) → (resolve_by code w d.position).place ≡ Nowhere
unfolding resolve_by
resolve_by_place code None d = refl
resolve_by_place code (Some x) d =
    pick_both (λ (a : Answer). a.place ≡ Nowhere) (ltb d.position.events 65535) (answers 0 (flipped_at code d).position (plain_at_of code d)) (answers 31 d.position 0)
    (λ _. refl) (λ _. refl)

resolve_place : (B : List ℤ) (code r c : ℕ) (d : Desk) → position_check B d ≡ 0 → (resolve_of B code r c d).place ≡ Nowhere
resolve_place B code r c d e =
    ap (λ (a : Answer). a.place) (resolve_heard B code r c d e) ∙ resolve_by_place code (pointer_of d.position.settings r c) d

pair_place : (B : List ℤ) (code r c : ℕ) (d : Desk) (work : List ℕ) → position_check B d ≡ 0 → (pair_of B code r c d work).answer.place ≡ Nowhere
pair_place B code r c d work e =
    let a = resolve_of B code r c d in
    pick_both (λ (o : Outcome). o.answer.place ≡ Nowhere) (eqb a.number 0) (step_of B a.value r c (on d a.position) work) (outcome a d.shown d.bits work)
    (λ _. step_place B a.value r c (on d a.position) work (resolve_call_keeps B code r c d e)) (λ _. resolve_place B code r c d e)

pub placeless : Placeless
unfolding flow_of flow_refusal position_check whole
placeless (resolve code r c) B d work o e h = ap (λ (a : Answer). a.place) h.0 ∙ resolve_place B code r c d e
placeless (step code r c) B d work o e h = ap (λ (x : Outcome). x.answer.place) h ∙ step_place B code r c d work e
placeless (pair code r c) B d work o e h = ap (λ (x : Outcome). x.answer.place) (pair_leaves code r c B d work o h) ∙ pair_place B code r c d work e
placeless (flow events) B d work o e h =
    let t = work_fits d.position.settings work && whole events in
    ap (λ (x : Outcome). x.answer.place) h
    ∙ fits_place t (flow_refusal B events d work) (flowed (plays B events d) (last_play (done 0 d) (plays B events d)) work) B d work
    (more_to_fit (boards_fit d.position.settings B d.shown d.bits) t B d e) refl
