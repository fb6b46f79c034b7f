-- What a call tells is what the boards show: the value of a step and of a pair is the open cells after less those before, refused too, that of a
-- resolve the plain code, and a row of events has 0.
-- A refused event leaves its desk as it was. Assumes nothing.
use Rattle.std.specs.Prelude.{Option, Some, None}
use mathlib.Core.Path.{◌≡◌, refl, sym, ap, ap₂, ◌∙◌}
use mathlib.Core.Bool.{Bool, false≢true}
use mathlib.Core.List.{List, [], ◌∷◌, map}
use Prim.Native.Nat.{ℕ, ◌≤◌}
use native.Mathlib.Omega.{arith}
use lib.IntN.{ℤ}
use lib.Dec.{leb, eqb}
use borrow.Author.Tests.{leb-true, eqb-true, eq-eqb, ne_eqb}
use Rattle.rules.specs.declared.Answer.{Answer}
use Rattle.rules.specs.declared.Pointer.{Pointer}
use Rattle.rules.specs.Words.{pick}
use Rattle.rules.specs.Clicks.{Desk, Play, done, on}
use Rattle.rules.specs.Step.{pointer_of, refusal_at, play_at, step_at, step_by_of, step_on, plain_code, plain_on}
use Rattle.rules.specs.Calls.{Outcome, outcome, resolve_of, lent_refusal, refused, refused_at, accepted, played, step_of, plays, last_play, flowed, flow_refusal, flow_of}
use Rattle.rules.specs.Opening.{opened_in}
use Rattle.cells.proofs.Words.{pick_both}
use Rattle.game.proofs.Answers.{play_answers}
use Rattle.board.specs.Pair.{pair_by, pair_of}
use Rattle.board.proofs.Pair.{plain_at_of, Resolves, back, heard, resolves}
use Rattle.secrecy.specs.Demand.{Seen, seen, seen_all, plays_on}
use Rattle.secrecy.proofs.Quiet.{bare, over}
use Rattle.secrecy.proofs.Rows.{bared, seen_bared}
use Rattle.league.specs.Secret.{Function, resolve, step, pair, flow, Call, Untouched, PairIs, unheard, stepped, CallIs, play_of, seen_by, Row, none, next, steps_of, RefusedStays}

-- ---- a refused event ---------------------------------------------------------------------------------------------------------------------

stays_at : (B : List ℤ) (code : ℕ) (x : Pointer) (d : Desk) → 20 ≤ (step_at B code x d).answer → (step_at B code x d).desk ≡ d
unfolding step_at
stays_at B code x d =
    pick_both (λ (o : Play). 20 ≤ o.answer → o.desk ≡ d) (eqb (refusal_at code x d) 0) (play_at B code x d) (done (refusal_at code x d) d)
    (λ _ h. let s = (play_answers B code x d).small in absurd (omega arith)) (λ _ _. refl)

stays_by : (B : List ℤ) (code : ℕ) (p : Option Pointer) (d : Desk) → 20 ≤ (step_by_of B code p d).answer → (step_by_of B code p d).desk ≡ d
unfolding step_by_of
stays_by B code (Some x) d h = stays_at B code x d h
stays_by B code None d h = refl

pub refused_stays : RefusedStays
unfolding step_on
refused_stays B code r c d h = stays_by B code (pointer_of d.position.settings r c) d h

-- ---- the calls as equations ----------------------------------------------------------------------------------------------------------------

untouched : (a : Answer) (d : Desk) (work : List ℕ) (o : Outcome) → o.answer ≡ a → Untouched d work o → o ≡ outcome a d.shown d.bits work
untouched a d work o e u =
    ap (λ (x : Answer). outcome x o.shown o.bits o.work) e
    ∙ (ap₂ (λ (x y : List ℕ). outcome a x y o.work) u.shown u.bits ∙ ap (λ (x : List ℕ). outcome a d.shown d.bits x) u.lent)

-- what resolve leaves, and what the pair leaves
pub resolve_leaves : (code r c : ℕ) (B : List ℤ) (d : Desk) (work : List ℕ) (o : Outcome) → CallIs (resolve code r c) B d work o
    → o ≡ outcome (resolve_of B code r c d) d.shown d.bits work
resolve_leaves code r c B d work o h = untouched (resolve_of B code r c d) d work o h.0 h.1

pub pair_leaves : (code r c : ℕ) (B : List ℤ) (d : Desk) (work : List ℕ) (o : Outcome) → PairIs code r c B d work o → o ≡ pair_of B code r c d work
pair_leaves code r c B d work o (unheard h z u) =
    untouched (resolve_of B code r c d) d work o h u
    ∙ sym (ap (λ (t : Bool). pick t (step_of B a.value r c (on d a.position) work) (outcome a d.shown d.bits work)) (ne_eqb a.number 0 (λ q. z (ap (λ (x : Answer). x.number) h ∙ q))))
  where
    a : Answer
    a = resolve_of B code r c d
pair_leaves code r c B d work o (stepped a h z s) =
    s ∙ (ap (λ (x : Answer). step_of B x.value r c (on d x.position) work) h
    ∙ sym (ap (λ (t : Bool). pick t (step_of B b.value r c (on d b.position) work) (outcome b d.shown d.bits work)) (eq-eqb b.number 0 (sym (ap (λ (x : Answer). x.number) h) ∙ z))))
  where
    b : Answer
    b = resolve_of B code r c d

-- ---- the value of a call -----------------------------------------------------------------------------------------------------------------

pub none_opened : (shown : List ℕ) → opened_in shown shown ≡ 0
none_opened shown = omega arith

-- the value is what the boards show
abbrev pub Opens : Desk → Outcome → Type 0
Opens d o = o.answer.value ≡ opened_in d.shown o.shown

pub played_value : (d : Desk) (o : Play) (work : List ℕ) → (20 ≤ o.answer → o.desk ≡ d) → Opens d (played d.shown o work)
played_value d o work stays =
    pick_both (Opens d) (leb 20 o.answer) (refused o.answer o.desk work) (accepted o.answer (opened_in d.shown o.desk.shown) o.desk work)
    (λ e. sym (ap (λ (x : Desk). opened_in d.shown x.shown) (stays (leb-true 20 o.answer e)) ∙ none_opened d.shown)) (λ _. refl)

step_value : (B : List ℤ) (code r c : ℕ) (d : Desk) (work : List ℕ) → Opens d (step_of B code r c d work)
unfolding step_of
step_value B code r c d work =
    pick_both (Opens d) (eqb (lent_refusal B d work) 0) (played d.shown (plain_on B code r c d) work) (refused_at B (lent_refusal B d work) d work)
    (λ _. played_value d (plain_on B code r c d) work (refused_stays B (plain_code code) r c d)) (λ _. sym (none_opened d.shown))

-- of the pair it is the step's, and 0 where resolve refuses
pair_value : (B : List ℤ) (code r c : ℕ) (d : Desk) (work : List ℕ) → Opens d (pair_of B code r c d work)
pair_value B code r c d work = go (resolves B code r c d)
  where
    a : Answer
    a = resolve_of B code r c d

    go : Resolves B code d a → Opens d (pair_by B r c d work a)
    go (back z e) =
        pick_both (Opens d) (eqb a.number 0) (step_of B a.value r c (on d a.position) work) (outcome a d.shown d.bits work)
        (λ t. absurd (z (eqb-true a.number 0 t))) (λ _. ap (λ (x : Answer). x.value) e ∙ sym (none_opened d.shown))
    go (heard e) =
        pick_both (Opens d) (eqb a.number 0) (step_of B a.value r c (on d a.position) work) (outcome a d.shown d.bits work)
        (λ _. step_value B a.value r c (on d a.position) work)
        (λ f. absurd (false≢true (sym f ∙ eq-eqb a.number 0 (ap (λ (x : Answer). x.number) e))))

flow_value : (B : List ℤ) (events : List ℕ) (d : Desk) (work : List ℕ) → (flow_of B events d work).answer.value ≡ 0
unfolding flow_of
flow_value B events d work =
    pick_both (λ (o : Outcome). o.answer.value ≡ 0) (eqb (flow_refusal B events d work) 0)
    (flowed (plays B events d) (last_play (done 0 d) (plays B events d)) work) (refused_at B (flow_refusal B events d work) d work) (λ _. refl) (λ _. refl)

-- of resolve it is the plain code of the desk that it was asked at, where it is answered
abbrev code_at : ℕ → Desk → ℕ → ℕ
code_at code d n = pick (eqb n 0) (plain_at_of code d) 0

resolve_value : (B : List ℤ) (code r c : ℕ) (d : Desk) → (resolve_of B code r c d).value ≡ code_at code d (resolve_of B code r c d).number
resolve_value B code r c d = go (resolves B code r c d)
  where
    go : Resolves B code d (resolve_of B code r c d) → (resolve_of B code r c d).value ≡ code_at code d (resolve_of B code r c d).number
    go (back z e) = ap (λ (x : Answer). x.value) e ∙ sym (ap (λ (t : Bool). pick t (plain_at_of code d) 0) (ne_eqb _ 0 z))
    go (heard e) = ap (λ (x : Answer). x.value) e ∙ sym (ap (λ (t : Bool). pick t (plain_at_of code d) 0) (eq-eqb _ 0 (ap (λ (x : Answer). x.number) e)))

-- ---- what is told of a play at a desk --------------------------------------------------------------------------------------------------------

abbrev with_opened : ℕ → Seen → Seen
with_opened n x = record {
  answer = x.answer;
  opened = n;
  shown = x.shown;
  game = x.game;
  mouse = x.mouse;
  counts = x.counts;
}

-- of one call, and of a row: a row of events has no sum
told : Function → Desk → Play → Seen
told (resolve code row column) d o = with_opened (code_at code d o.answer) (seen d.shown o)
told (step code row column) d o = seen d.shown o
told (pair code row column) d o = seen d.shown o
told (flow events) d o = with_opened 0 (seen d.shown o)

pub told_all : List Call → Desk → List Play → List Seen
told_all [] d os = seen_all d.shown os
told_all (call ∷ calls) d [] = []
told_all (call ∷ calls) d (o ∷ os) = told call.function d o ∷ told_all calls o.desk os

-- nothing of it is hidden
told_bared : (f : Function) (d : Desk) (o : Play) → told f d o ≡ told f (over d bare) (bared o)
unfolding told
told_bared (resolve code row column) d o = refl
told_bared (step code row column) d o = refl
told_bared (pair code row column) d o = refl
told_bared (flow events) d o = refl

pub all_bared : (calls : List Call) (d : Desk) (os : List Play) → told_all calls d os ≡ told_all calls (over d bare) (map bared os)
unfolding told_all
all_bared [] d os = seen_bared d.shown os
all_bared (call ∷ calls) d [] = refl
all_bared (call ∷ calls) d (o ∷ os) =
    ap (λ (x : Seen). x ∷ told_all calls o.desk os) (told_bared call.function d o)
    ∙ ap (λ (l : List Seen). told call.function (over d bare) (bared o) ∷ l) (all_bared calls o.desk os)

call_told : (f : Function) (B : List ℤ) (d : Desk) (work : List ℕ) (o : Outcome) → CallIs f B d work o → seen_by o ≡ told f d (play_of o)
unfolding told
call_told (resolve code r c) B d work o h =
    let e = resolve_leaves code r c B d work o h in
    let v : o.answer.value ≡ code_at code d o.answer.number = rw e (resolve_value B code r c d) in
    ap (λ (n : ℕ). with_opened n (seen_by o)) v
call_told (step code r c) B d work o h =
    let v : Opens d o = rw h (step_value B code r c d work) in
    ap (λ (n : ℕ). with_opened n (seen_by o)) v
call_told (pair code r c) B d work o h =
    let v : Opens d o = rw (pair_leaves code r c B d work o h) (pair_value B code r c d work) in
    ap (λ (n : ℕ). with_opened n (seen_by o)) v
call_told (flow events) B d work o h =
    let v : o.answer.value ≡ 0 = rw h (flow_value B events d work) in
    ap (λ (n : ℕ). with_opened n (seen_by o)) v

pub row_told : {B : List ℤ} {d : Desk} {calls : List Call} {os : List Outcome} → Row B d calls os → map seen_by os ≡ told_all calls d (map play_of os)
unfolding seen_all told_all
row_told none = refl
row_told {B} (next {d = d} {call = call} {calls = calls} {os = os} work o w c rest) =
    ap (λ (x : Seen). x ∷ map seen_by os) (call_told call.function B d work o c)
    ∙ ap (λ (l : List Seen). told call.function d (play_of o) ∷ l) (row_told rest)

-- pairs tell all
pub steps_told : (es : List ℕ) (B : List ℤ) (d : Desk) → told_all (steps_of es) d (plays_on B es d) ≡ seen_all d.shown (plays_on B es d)
unfolding steps_of told told_all plays_on seen_all
steps_told [] B d = refl
steps_told (code ∷ []) B d = refl
steps_told (code ∷ r ∷ []) B d = refl
steps_told (code ∷ r ∷ c ∷ es) B d =
    let o = step_on B code r c d in
    ap (λ (l : List Seen). seen d.shown o ∷ l) (steps_told es B o.desk)
