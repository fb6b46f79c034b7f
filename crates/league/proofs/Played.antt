-- Games of every row of calls exist, and a game of steps is the demand's game, and looks as it does. Assumes nothing.
use mathlib.Core.Path.{◌≡◌, refl, ap, ◌∙◌}
use mathlib.Core.Bool.{Bool, true, false}
use mathlib.Core.List.{List, [], ◌∷◌, map}
use Prim.Native.Nat.{ℕ}
use native.Mathlib.Omega.{arith}
use native.Mathlib.Decide.{ℕ_discrete}
use lib.ListN.{length, replicate, length-replicate}
use lib.IntN.{ℤ}
use borrow.Author.Tests.{le-leb, lt-leb}
use Rattle.rules.specs.declared.Settings.{Settings}
use Rattle.rules.specs.declared.Answer.{Answer}
use Rattle.rules.specs.Words.{pick}
use Rattle.rules.specs.Lent.{work_room}
use Rattle.rules.specs.Clicks.{Desk, Play, on}
use Rattle.rules.specs.Step.{step_on}
use Rattle.rules.specs.Calls.{left_by, set_by, fresh_desk, Outcome, outcome, work_fits, setup_of, resolve_of, step_of, flow_of, cells_in}
use Rattle.secrecy.specs.Demand.{plays_on, game}
use Rattle.secrecy.proofs.Rows.{row_of}
use Rattle.league.specs.Secret.{Function, resolve, step, pair, flow, Call, PairIs, unheard, stepped, CallIs, play_of, Row, none, next, Playable, steps_of, StepsPlay}
use Rattle.league.proofs.Moves.{pair_move}
use Rattle.league.proofs.Sums.{told_all, steps_told}
use Rattle.league.proofs.Secret.{moves, game_moves, game_told}

-- ---- every row of calls can be made ------------------------------------------------------------------------------------------------------

-- work that is long enough, or none
lent : Bool → Settings → List ℕ
lent enough s = pick enough (replicate (work_room (cells_in s)) 0) []

lent_fits : (enough : Bool) (s : Settings) → work_fits s (lent enough s) ≡ enough
unfolding work_fits lent
lent_fits true s = le-leb (work_room (cells_in s)) (length (replicate {A = ℕ} (work_room (cells_in s)) 0)) (simp (length-replicate {A = ℕ}) (omega arith))
lent_fits false s = lt-leb (work_room (cells_in s)) 0 (omega arith)

call_made : (f : Function) (B : List ℤ) (d : Desk) (work : List ℕ) → (o : Outcome) × CallIs f B d work o
call_made (resolve code row column) B d work =
    (outcome (resolve_of B code row column d) d.shown d.bits work, (refl, record { shown = refl; bits = refl; lent = refl }))
call_made (step code row column) B d work = (step_of B code row column d work, refl)
call_made (pair code row column) B d work = go (ℕ_discrete a.number 0)
  where
    a : Answer
    a = resolve_of B code row column d

    go : Dec (a.number ≡ 0) → (o : Outcome) × PairIs code row column B d work o
    go (yes z) = (step_of B a.value row column (on d a.position) work, stepped a refl z refl)
    go (no z) = (outcome a d.shown d.bits work, unheard refl z (record { shown = refl; bits = refl; lent = refl }))
call_made (flow events) B d work = (flow_of B events d work, refl)

row_made : (B : List ℤ) (calls : List Call) (d : Desk) → (os : List Outcome) × Row B d calls os
row_made B [] d = ([], none)
row_made B (call ∷ calls) d =
    let work = lent call.enough d.position.settings in
    let made = call_made call.function B d work in
    let rest = row_made B calls (left_by made.0) in
    (made.0 ∷ rest.0, next work made.0 (lent_fits call.enough d.position.settings) made.1 rest.1)

pub playable : Playable
playable s calls B shown bits e =
    let u = setup_of s B shown bits in
    let row = row_made B calls (set_by u) in (
      row.0,
      record {
        shown = shown;
        bits = bits;
        begun = u.answer;
        board = u.shown;
        bytes = u.bits;
        setup = refl;
        accepted = e;
        goes = row.1;
      },
    )

-- ---- step by step ------------------------------------------------------------------------------------------------------------------------

steps_row : (B : List ℤ) (es : List ℕ) (d : Desk) → row_of B (moves (steps_of es)) d ≡ plays_on B es d
unfolding row_of moves steps_of plays_on
steps_row B [] d = refl
steps_row B (code ∷ []) d = refl
steps_row B (code ∷ r ∷ []) d = refl
steps_row B (code ∷ r ∷ c ∷ es) d =
    let o = step_on B code r c d in
    ap (λ (x : Play). x ∷ row_of B (moves (steps_of es)) x.desk) (pair_move code r c B d) ∙ ap (λ (l : List Play). o ∷ l) (steps_row B es o.desk)

pub steps_play : StepsPlay
steps_play s events B os g =
    let same : map play_of os ≡ game s events B = game_moves g ∙ steps_row B events (fresh_desk s B) in
    (same, game_told g ∙ (ap (told_all (steps_of events) (fresh_desk s B)) same ∙ steps_told events B (fresh_desk s B)))
