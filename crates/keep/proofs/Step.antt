-- Every step and every play of a flow keeps the lawful position and the settings.
use Rattle.std.specs.Prelude.{Option, Some, None}
use mathlib.Core.Path.{◌≡◌, ◌∙◌, sym, ap, refl, subst, subst⁻¹}
use mathlib.Core.Bool.{Bool, true, false, ◌&&◌, true≢false, false≢true}
use mathlib.Core.List.{List, [], ◌∷◌}
use Prim.Native.Nat.{ℕ, suc, ◌+◌, ◌≤◌}
use native.Mathlib.Omega.{arith}
use native.Mathlib.Numerals.{add-one}
use borrow.Author.Tests.{eqb-true, ltb-true}
use lib.Dec.{eqb, leb, ltb}
use lib.IntN.{ℤ}
use Rattle.rules.specs.declared.Settings.{Settings}
use Rattle.rules.specs.declared.Pointer.{Pointer}
use Rattle.rules.specs.declared.Pointer.TheVariants.{Cell, Off}
use Rattle.rules.specs.declared.Event.{Event}
use Rattle.rules.specs.declared.Event.TheVariants.{Lc, Lr, Rc, Rr, Mv, Mc, Mr, Cc, Pf, Unknown}
use Rattle.rules.specs.declared.GameState.{GameState}
use Rattle.rules.specs.declared.GameState.TheVariants.{Ready, Playing, Win, Loss, PreFlaging}
use Rattle.rules.specs.Words.{pick, unless}
use Rattle.rules.specs.States.{is_loss, with_middle, with_events}
use Rattle.rules.specs.Opening.{count_shown}
use Rattle.rules.specs.Clicks.{Desk, Play, done, on}
use Rattle.rules.specs.Mouse.{rules_ok, resolved, flipped}
use Rattle.rules.specs.Step.{mouse, by_game, pointer_of, event_of, plain_of, event_refusal, refusal_at, counts, play_at, step_at, step_by_of, step_on}
use Rattle.rules.specs.Lawful.{shows, lawful}
use Rattle.rules.specs.Calls.{plays, last_play, position_check}
use Rattle.cells.proofs.Words.{and_left, and_right, pick_both, unless_passed}
use Rattle.keep.specs.Kept.{Ground, Kept, Told, Live, LawfulAt, Follows, AllLawful, Inside, InsideOf}
use Rattle.keep.proofs.Lawful.{lawful_kept, lawful_rules, kept_lawful, check_lawful, check_passes}
use Rattle.keep.proofs.Moves.{later, middle_keeps, events_keeps}
use Rattle.keep.proofs.States.{middle_live, event_live}

-- ---- one event ---------------------------------------------------------------------------------------------------------------------------

pub event_inside : (s : Settings) (code : ℕ) (x : Pointer) → Inside s x → InsideOf s (event_of code x)
unfolding event_of
event_inside s code x i =
    pick_both (InsideOf s) (eqb code 0) (Lc x) _ (λ _. i) (λ _. pick_both (InsideOf s) (eqb code 1) (Lr x) _ (λ _. i)
    (λ _. pick_both (InsideOf s) (eqb code 2) (Rc x) _ (λ _. i) (λ _. pick_both (InsideOf s) (eqb code 3) (Rr x) _ (λ _. i)
    (λ _. pick_both (InsideOf s) (eqb code 4) (Mv x) _ (λ _. i) (λ _. pick_both (InsideOf s) (eqb code 5) (Mc x) _ (λ _. i)
    (λ _. pick_both (InsideOf s) (eqb code 6) (Mr x) _ (λ _. i) (λ _. pick_both (InsideOf s) (eqb code 7) (Cc x) _ (λ _. i)
    (λ _. pick_both (InsideOf s) (eqb code 8) (Pf x) (Unknown code x) (λ _. i) (λ _. i)))))))))

-- an event played and counted; a Loss by it shows a 15
pub play_live : (n : ℕ) (B : List ℤ) (s : Settings) (code : ℕ) (x : Pointer) (d : Desk) → Inside s x → Live n B s d → Live (suc n) B s (play_at B code x d).desk
unfolding play_at plain_of
play_live n B s code x d i l =
    let o : Play = by_game d.position.game B (plain_of code x d) (on d (with_middle d.position (flipped code d.position.middle))) in
    let r : Live (suc n) B s o.desk =
    event_live n B s d.position.game (plain_of code x d) (on d (with_middle d.position (flipped code d.position.middle))) refl
    (middle_live (flipped code d.position.middle) l) (event_inside s (resolved d.position.settings.rules code (mouse d) d.position.middle) x i) in
    record { kept = events_keeps (d.position.events + 1) r.kept; settings = r.settings; told = r.told }

-- Loss answers 0 to every code
lost_game : (g : GameState) (B : List ℤ) (e : Event) (d : Desk) → is_loss g ≡ true → by_game g B e d ≡ done 0 d
unfolding by_game
lost_game Ready B e d t = absurd (false≢true t)
lost_game PreFlaging B e d t = absurd (false≢true t)
lost_game Playing B e d t = absurd (false≢true t)
lost_game Win B e d t = absurd (false≢true t)
lost_game Loss B e d t = refl

lost_plays : (B : List ℤ) (code : ℕ) (x : Pointer) (d : Desk) → is_loss d.position.game ≡ true
    → (play_at B code x d).desk ≡ on d (with_events (with_middle d.position (flipped code d.position.middle)) (d.position.events + 1))
unfolding play_at
lost_plays B code x d e =
    ap (λ (o : Play). (counts d o).desk) (lost_game d.position.game B (plain_of code x d) (on d (with_middle d.position (flipped code d.position.middle))) e)

-- desk e after desk d, at bound n
pub record Stays (n : ℕ) (B : List ℤ) (d e : Desk) : Type 0 where
  pub kept : Kept n B e
  pub settings : e.position.settings ≡ d.position.settings
  pub told : Told d → Told e

-- whatever the game state
pub play_keeps : (n : ℕ) (B : List ℤ) (code : ℕ) (x : Pointer) (d : Desk) → Inside d.position.settings x → Kept n B d
    → Stays (suc n) B d (play_at B code x d).desk
play_keeps n B code x d i h = go (is_loss d.position.game) refl
  where
    go : (t : Bool) → is_loss d.position.game ≡ t → Stays (suc n) B d (play_at B code x d).desk
    go false e =
        let r = play_live n B d.position.settings code x d i (record { kept = h; settings = refl; told = λ q. absurd (true≢false (sym (ap is_loss q) ∙ e)) }) in
        record { kept = r.kept; settings = r.settings; told = λ _. r.told }
    go true e =
        subst⁻¹ (Stays (suc n) B d) (lost_plays B code x d e)
        (record { kept = events_keeps (d.position.events + 1) (middle_keeps (flipped code d.position.middle) (later h)); settings = refl; told = λ t. t })

-- ---- a step ------------------------------------------------------------------------------------------------------------------------------

pub pointer_inside : (s : Settings) (r c : ℕ) (x : Pointer) → pointer_of s r c ≡ Some x → Inside s x
unfolding pointer_of
pointer_inside s r c x = go (ltb r s.rows && ltb c s.columns) (eqb r s.rows && eqb c s.columns) refl
  where
    go : (t u : Bool) → (ltb r s.rows && ltb c s.columns) ≡ t → pick t (Some (Cell r c)) (pick u (Some Off) None) ≡ Some x → Inside s x
    go true u e q =
        let w : Cell r c ≡ x = cc in
        subst (Inside s) w (ltb-true r s.rows (and_left _ _ e), ltb-true c s.columns (and_right (ltb r s.rows) _ e))
    go false true e q = let w : Off ≡ x = cc in subst (Inside s) w tt
    go false false e q = let z : ◌≡◌ {A = ℕ} 0 1 = cc in absurd (omega arith)

played_events_lem : (B : List ℤ) (code : ℕ) (x : Pointer) (d : Desk) → (play_at B code x d).desk.position.events ≡ suc d.position.events
unfolding play_at
played_events_lem B code x d = add-one d.position.events

-- the event is counted, and one that was counted was not the 65,536th
step_at_lem : (B : List ℤ) (code : ℕ) (x : Pointer) (d : Desk) → Inside d.position.settings x → LawfulAt B d → Follows B d (step_at B code x d).desk
unfolding step_at refusal_at
step_at_lem B code x d i l =
    pick_both (λ (o : Play). Follows B d o.desk) (eqb (unless 31 (ltb d.position.events 65535) (event_refusal d.position.game (plain_of code x d) d)) 0)
    (play_at B code x d) (done (unless 31 (ltb d.position.events 65535) (event_refusal d.position.game (plain_of code x d) d)) d)
    (λ e.
    let u = unless_passed 30 (ltb d.position.events 65535) _ (eqb-true (unless 31 (ltb d.position.events 65535) (event_refusal d.position.game (plain_of code x d) d)) 0 e) in
    let f = ltb-true d.position.events 65535 u.0 in
    let r = play_keeps d.position.events B code x d i l.kept in
    let q = played_events_lem B code x d in
    record {
      lawful = record { kept = subst⁻¹ (λ (m : ℕ). Kept m B (play_at B code x d).desk) q r.kept; few = omega arith };
      settings = r.settings;
      told = r.told;
    })
    (λ _. record { lawful = l; settings = refl; told = λ t. t })

step_by : (B : List ℤ) (code : ℕ) (p : Option Pointer) (d : Desk) → ((x : Pointer) → p ≡ Some x → Inside d.position.settings x) → LawfulAt B d → Follows B d (step_by_of B code p d).desk
unfolding step_by_of
step_by B code (Some x) d i l = step_at_lem B code x d (i x refl) l
step_by B code None d i l = record { lawful = l; settings = refl; told = λ t. t }

-- THE step, accepted or refused
pub step_follows : (B : List ℤ) (code r c : ℕ) (d : Desk) → LawfulAt B d → Follows B d (step_on B code r c d).desk
unfolding step_on
step_follows B code r c d l = step_by B code (pointer_of d.position.settings r c) d (pointer_inside d.position.settings r c) l

pub step_keeps : (B : List ℤ) (code r c : ℕ) (d : Desk) → Ground B d.position.settings d.shown d.bits → lawful B d ≡ true → lawful B (step_on B code r c d).desk ≡ true
step_keeps B code r c d g e =
    let f = step_follows B code r c d (lawful_kept B d g e) in
    kept_lawful B (step_on B code r c d).desk f.lawful (subst⁻¹ (λ (s : Settings). rules_ok s.rules ≡ true) f.settings (lawful_rules B d e))

pub step_check : (B : List ℤ) (code r c : ℕ) (d : Desk) → position_check B d ≡ 0 → position_check B (step_on B code r c d).desk ≡ 0
step_check B code r c d e =
    let f = step_follows B code r c d (check_lawful B d e) in
    check_passes B d (step_on B code r c d).desk e f.settings f.lawful

-- a Loss by a step shows a 15
pub loss_shows_15 : (B : List ℤ) (code r c : ℕ) (d : Desk) → LawfulAt B d → is_loss d.position.game ≡ false
    → (step_on B code r c d).desk.position.game ≡ Loss → 1 ≤ count_shown (shows 15) (step_on B code r c d).desk.shown
loss_shows_15 B code r c d l e = (step_follows B code r c d l).told (λ q. absurd (true≢false (sym (ap is_loss q) ∙ e)))

-- ---- a flow ------------------------------------------------------------------------------------------------------------------------------

all_pick : (B : List ℤ) (t : Bool) (os : List Play) → AllLawful B os → AllLawful B (pick t [] os)
all_pick B true os h = tt
all_pick B false os h = h

pub plays_keeps : (B : List ℤ) (events : List ℕ) (d : Desk) → LawfulAt B d → AllLawful B (plays B events d)
unfolding plays
plays_keeps B [] d l = tt
plays_keeps B (code ∷ []) d l = tt
plays_keeps B (code ∷ r ∷ []) d l = tt
plays_keeps B (code ∷ r ∷ c ∷ es) d l =
    let f = step_follows B code r c d l in
    (f.lawful, all_pick B (leb 20 (step_on B code r c d).answer) (plays B es (step_on B code r c d).desk) (plays_keeps B es (step_on B code r c d).desk f.lawful))

follows_on : {B : List ℤ} {d e f : Desk} → Follows B d e → Follows B e f → Follows B d f
follows_on a b = record { lawful = b.lawful; settings = b.settings ∙ a.settings; told = λ t. b.told (a.told t) }

last_pick : (B : List ℤ) (d : Desk) (t : Bool) (o : Play) (os : List Play) → Follows B d o.desk → Follows B d (last_play o os).desk → Follows B d (last_play o (pick t [] os)).desk
unfolding last_play
last_pick B d true o os a b = a
last_pick B d false o os a b = b

-- where the plays of a row of events end
pub plays_follow : (B : List ℤ) (events : List ℕ) (d : Desk) (o : Play) → Follows B d o.desk → Follows B d (last_play o (plays B events o.desk)).desk
unfolding plays last_play
plays_follow B [] d o f = f
plays_follow B (code ∷ []) d o f = f
plays_follow B (code ∷ r ∷ []) d o f = f
plays_follow B (code ∷ r ∷ c ∷ es) d o f =
    let p : Play = step_on B code r c o.desk in
    let g : Follows B d p.desk = follows_on f (step_follows B code r c o.desk f.lawful) in
    last_pick B d (leb 20 p.answer) p (plays B es p.desk) g (plays_follow B es d p g)
