-- The contracts are equations with the definitions, so a row of calls is a row of quiet moves, and twins look the same. Assumes nothing.
use mathlib.Core.Path.{◌≡◌, refl, sym, ap, ap₂, ◌∙◌, subst}
use mathlib.Core.List.{List, [], ◌∷◌, map}
use lib.IntN.{ℤ}
use Rattle.rules.specs.declared.Settings.{Settings}
use Rattle.rules.specs.Clicks.{Desk, Play, desk}
use Rattle.rules.specs.Calls.{set_by, fresh_desk, SetUp, Outcome, setup_of, position_check}
use Rattle.secrecy.specs.Demand.{end_of, Twins}
use Rattle.secrecy.proofs.Rows.{Move, bared, row_of, fresh_alike, twins_alike}
use Rattle.league.specs.Secret.{Call, play_of, seen_by, Row, none, next, Game, CodeDemand}
use Rattle.league.proofs.Moves.{begins, start_checked, move, call_moves, call_keeps}
use Rattle.league.proofs.Sums.{told_all, all_bared, row_told}

unfoldable pub moves : List Call → List Move
moves [] = []
moves (call ∷ calls) = move call.function call.enough ∷ moves calls

row_moves : {B : List ℤ} {d : Desk} {calls : List Call} {os : List Outcome} → Row B d calls os → position_check B d ≡ 0
    → map play_of os ≡ row_of B (moves calls) d
unfolding row_of moves
row_moves none e = refl
row_moves {B} (next {d = d} {call = call} {calls = calls} {os = os} work o w c rest) e =
    let p = (move call.function call.enough).play B d in
    let q : play_of o ≡ p = call_moves B d work o call.function call.enough w c e in
    ap (λ (x : Play). x ∷ map play_of os) q
    ∙ ap (λ (l : List Play). p ∷ l) (row_moves rest (call_keeps B d work o call.function c e) ∙ ap (λ (x : Play). row_of B (moves calls) x.desk) q)

module _ {s : Settings} {calls : List Call} {B : List ℤ} {os : List Outcome} (g : Game s calls B os) where
  setup_ok : (setup_of s B g.shown g.bits).answer.number ≡ 0
  setup_ok = sym (ap (λ (u : SetUp). u.answer.number) g.setup) ∙ g.accepted

  -- the row begins at the fresh desk
  fresh_row : Row B (fresh_desk s B) calls os
  fresh_row = subst (λ (d : Desk). Row B d calls os) start g.goes
    where
      start : desk g.begun.position g.board g.bytes ≡ fresh_desk s B
      start = ap set_by g.setup ∙ begins s B g.shown g.bits setup_ok

  -- a game is a row of moves from a fresh start
  pub game_moves : map play_of os ≡ row_of B (moves calls) (fresh_desk s B)
  game_moves = row_moves fresh_row (start_checked s B g.shown g.bits setup_ok)

  -- and tells what is seen of it
  pub game_told : map seen_by os ≡ told_all calls (fresh_desk s B) (map play_of os)
  game_told = row_told fresh_row

-- THE theorem for the code
pub code_secrecy : CodeDemand
code_secrecy s calls A B os ps g h tw =
    let a = game_moves g in
    let same : map bared (map play_of os) ≡ map bared (map play_of ps)
    = ap (map bared) a
    ∙ (twins_alike (moves calls) s A B (subst (λ (l : List Play). Twins s (end_of s A l) A B) a tw) ∙ sym (ap (map bared) (game_moves h))) in
    game_told g
    ∙ (all_bared calls (fresh_desk s A) (map play_of os)
    ∙ (ap₂ (told_all calls) (fresh_alike s (end_of s A (map play_of os)) A B tw) same ∙ sym (game_told h ∙ all_bared calls (fresh_desk s B) (map play_of ps))))
