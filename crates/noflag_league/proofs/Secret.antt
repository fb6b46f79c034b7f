-- The contracts are equations with the definitions, so a row of the class's calls is a row of its events, each made or refused with 21. Assumes nothing.
use mathlib.Core.Path.{◌≡◌, refl, sym, ap, ◌∙◌, subst, subst⁻¹}
use mathlib.Core.Bool.{Bool, true, false}
use mathlib.Core.List.{List, [], ◌∷◌, map}
use Prim.Native.Nat.{ℕ, ◌≤◌}
use lib.Dec.{eqb}
use lib.IntN.{ℤ}
use Rattle.rules.specs.declared.Settings.{Settings}
use Rattle.rules.specs.Clicks.{Desk, Play, done}
use Rattle.rules.specs.Calls.{Outcome, SetUp, left_by, set_by, work_fits, position_check, fresh_desk, setup_by, refused_at, played}
use Rattle.rules.specs.Words.{pick}
use Rattle.cells.specs.Ground.{Valued}
use Rattle.cells.proofs.Words.{pick_both}
use Rattle.keep.proofs.Lawful.{check_lawful}
use Rattle.secrecy.specs.Demand.{Seen, seen, seen_all, seen_of, last_desk, end_of, Twins}
use Rattle.secrecy.proofs.Quiet.{a_play, lost_in, branch}
use Rattle.secrecy.proofs.Hands.{idle}
use Rattle.secrecy.proofs.Rows.{Move, row_of, row_secrecy}
use Rattle.league.specs.Secret.{play_of, seen_by}
use Rattle.league.proofs.Moves.{setup_number, event_plays}
use Rattle.league.proofs.Sums.{refused_stays, none_opened, Opens, played_value}
use Rattle.rules.specs.Noflag.{forbidden, class_step_on, class_setup_refusal, class_setup_of, class_lent_refusal, class_step_of, ClassStepIs}
use Rattle.noflag.specs.Class.{AllClean}
use Rattle.noflag.proofs.Same.{class_same, class_forbids}
use Rattle.noflag.proofs.Bare.{Spotless}
use Rattle.noflag.proofs.Opens.{spotless_clean}
use Rattle.noflag.proofs.Clean.{class_spotless, start_spotless}
use Rattle.noflag.proofs.Lawful.{class_lawful}
use Rattle.noflag.proofs.Calls.{setup_zero, step_tested, call_either, class_calls}
use Rattle.noflag.proofs.Secrecy.{class_event, clean_twins}
use Rattle.noflag_league.specs.Secret.{Call, Row, none, next, Game, CodeClean, CodeDemand}

-- ---- one call ----------------------------------------------------------------------------------------------------------------------------

-- what a call of the step plays, lent enough work or not
abbrev move : Call → Move
move c = record {
  play = λ B d. pick c.enough (class_step_on B c.code c.row c.column d) (done 21 d);
  quiet = λ d.
      branch a_play (lost_in d) d.shown c.enough (λ _. (class_event c.code c.row c.column).quiet d) (λ _. idle (lost_in d) 21 d refl);
}

-- a refused event leaves its desk as it was
class_stays : (B : List ℤ) (code r c : ℕ) (d : Desk) → 20 ≤ (class_step_on B code r c d).answer → (class_step_on B code r c d).desk ≡ d
class_stays B code r c d = go (forbidden code) refl
  where
    go : (b : Bool) → forbidden code ≡ b → 20 ≤ (class_step_on B code r c d).answer → (class_step_on B code r c d).desk ≡ d
    go true e = subst⁻¹ (λ (o : Play). 20 ≤ o.answer → o.desk ≡ d) (class_forbids B code r c d e) (λ _. refl)
    go false e = subst⁻¹ (λ (o : Play). 20 ≤ o.answer → o.desk ≡ d) (class_same B code r c d e) (refused_stays B code r c d)

-- the value of a step is what the boards show
class_value : (B : List ℤ) (code r c : ℕ) (d : Desk) (work : List ℕ) → Opens d (class_step_of B code r c d work)
unfolding class_step_of
class_value B code r c d work =
    pick_both (Opens d) (eqb (class_lent_refusal B d work) 0) (played d.shown (class_step_on B code r c d) work) (refused_at B (class_lent_refusal B d work) d work)
    (λ _. played_value d (class_step_on B code r c d) work (class_stays B code r c d)) (λ _. sym (none_opened d.shown))

module _ (B : List ℤ) (d : Desk) (call : Call) (work : List ℕ) (o : Outcome)
    (made : ClassStepIs d.position call.code call.row call.column B d.shown d.bits work o.answer o.shown o.bits o.work) where
  call_plays : work_fits d.position.settings work ≡ call.enough → position_check B d ≡ 0 → d.position.settings.mode ≡ 0 → play_of o ≡ (move call).play B d
  call_plays w e m =
      let x : Play = class_step_on B call.code call.row call.column d in
      ap play_of made
      ∙ (ap play_of (step_tested B call.code call.row call.column d work m)
      ∙ (event_plays B x d work e ∙ ap (λ (t : Bool). pick t x (done 21 d)) w))

  -- what holds of the desk, and of what the event leaves, holds of what the call leaves
  call_leaves : (P : Desk → Type 0) → P d → P (class_step_on B call.code call.row call.column d).desk → P (left_by o)
  call_leaves P h k = subst⁻¹ (λ (x : Outcome). P (left_by x)) made (call_either P B call.code call.row call.column d work h k)

  call_checked : position_check B d ≡ 0 → position_check B (left_by o) ≡ 0
  call_checked e = call_leaves (λ (x : Desk). position_check B x ≡ 0) e (class_lawful.check B call.code call.row call.column d e)

  call_settings : position_check B d ≡ 0 → (left_by o).position.settings ≡ d.position.settings
  call_settings e =
      call_leaves (λ (x : Desk). x.position.settings ≡ d.position.settings) refl
      (class_lawful.follows B call.code call.row call.column d (check_lawful B d e)).settings

  call_told : seen_by o ≡ seen d.shown (play_of o)
  call_told =
      let v : Opens d o = subst⁻¹ (Opens d) made (class_value B call.code call.row call.column d work) in
      ap (λ (n : ℕ). record {
        answer = o.answer.number;
        opened = n;
        shown = o.shown;
        game = o.answer.position.game;
        mouse = o.answer.position.mouse;
        counts = o.answer.position.counts;
      }) v

-- ---- a row of calls ------------------------------------------------------------------------------------------------------------------------

moves : List Call → List Move
moves [] = []
moves (call ∷ calls) = move call ∷ moves calls

row_plays : {B : List ℤ} {d : Desk} {calls : List Call} {os : List Outcome} → Row B d calls os → position_check B d ≡ 0 → d.position.settings.mode ≡ 0
    → map play_of os ≡ row_of B (moves calls) d
unfolding row_of moves
row_plays none e m = refl
row_plays {B} (next {d = d} {call = call} {calls = calls} {os = os} work o w c rest) e m =
    let q : play_of o ≡ (move call).play B d = call_plays B d call work o c w e m in
    let k : (left_by o).position.settings.mode ≡ 0 = ap (λ (s : Settings). s.mode) (call_settings B d call work o c e) ∙ m in
    ap (λ (x : Play). x ∷ map play_of os) q
    ∙ ap (λ (l : List Play). (move call).play B d ∷ l) (row_plays rest (call_checked B d call work o c e) k ∙ ap (λ (x : Play). row_of B (moves calls) x.desk) q)

row_told : {B : List ℤ} {d : Desk} {calls : List Call} {os : List Outcome} → Row B d calls os → map seen_by os ≡ seen_all d.shown (map play_of os)
unfolding seen_all
row_told none = refl
row_told {B} (next {d = d} {call = call} {os = os} work o w c rest) =
    ap (λ (x : Seen). x ∷ map seen_by os) (call_told B d call work o c) ∙ ap (λ (l : List Seen). seen d.shown (play_of o) ∷ l) (row_told rest)

row_clean : {B : List ℤ} → Valued B → {d : Desk} {calls : List Call} {os : List Outcome} → Row B d calls os → Spotless d
    → AllClean (map play_of os) × Spotless (last_desk d (map play_of os))
unfolding last_desk
row_clean v none h = (tt, h)
row_clean {B} v (next {d = d} {call = call} work o w c rest) h =
    let k = call_leaves B d call work o c Spotless h (class_spotless B v call.code call.row call.column d h) in
    let r = row_clean v rest k in
    ((spotless_clean (left_by o) k, r.0), r.1)

-- ---- a game --------------------------------------------------------------------------------------------------------------------------------

module _ {s : Settings} {calls : List Call} {B : List ℤ} {os : List Outcome} (g : Game s calls B os) where
  passed : class_setup_refusal s B g.shown g.bits ≡ 0
  unfolding class_setup_of
  passed =
      setup_number (class_setup_refusal s B g.shown g.bits) B s g.shown g.bits (sym (ap (λ (u : SetUp). u.answer.number) g.setup) ∙ g.accepted)

  mode_zero : s.mode ≡ 0
  mode_zero = setup_zero s B g.shown g.bits passed

  start_checked : position_check B (fresh_desk s B) ≡ 0
  start_checked = class_calls.setup_keeps s B g.shown g.bits passed

  -- the row begins at the fresh desk
  fresh_row : Row B (fresh_desk s B) calls os
  unfolding class_setup_of setup_by
  fresh_row = subst (λ (d : Desk). Row B d calls os) (ap set_by g.setup ∙ begins) g.goes
    where
      begins : set_by (class_setup_of s B g.shown g.bits) ≡ fresh_desk s B
      begins = rw passed

  game_plays : map play_of os ≡ row_of B (moves calls) (fresh_desk s B)
  game_plays = row_plays fresh_row start_checked mode_zero

  game_told : map seen_by os ≡ seen_of s (map play_of os)
  game_told = row_told fresh_row

  game_clean : AllClean (map play_of os) × Spotless (last_desk (fresh_desk s B) (map play_of os))
  game_clean = row_clean (check_lawful B (fresh_desk s B) start_checked).kept.sound.ground.mined.valued fresh_row (start_spotless s B mode_zero)

-- THEOREM: every call leaves a clean desk
pub code_clean : CodeClean
code_clean s calls B os g = (game_clean g).0

-- THEOREM: demand 3 for the class's functions
pub code_secrecy : CodeDemand
code_secrecy s calls A B os ps g h tw =
    let twins : Twins s (end_of s A (map play_of os)) A B
    = clean_twins (spotless_clean (last_desk (fresh_desk s A) (map play_of os)) (game_clean g).1) tw in
    game_told g
    ∙ (ap (seen_of s) (game_plays g)
    ∙ (row_secrecy (moves calls) s A B (subst (λ (l : List Play). Twins s (end_of s A l) A B) (game_plays g) twins)
    ∙ (sym (ap (seen_of s) (game_plays h)) ∙ sym (game_told h))))
