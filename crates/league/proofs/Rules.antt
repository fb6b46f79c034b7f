-- The league's rules in whole games: under rules 1 every step is document 01's, under rules 2 every step but `r` in UpDownNotFlag, which is its `rr`; an
-- old book prints what it printed; and demands 1 and 3 hold by each. Assumes nothing.
use Rattle.std.specs.Prelude.{Option, Some, None}
use mathlib.Core.Path.{◌≡◌, refl, ap, ap₂, ◌∙◌}
use mathlib.Core.Bool.{Bool}
use mathlib.Core.List.{List, [], ◌∷◌}
use Prim.Native.Nat.{ℕ}
use native.Mathlib.Omega.{arith}
use native.Mathlib.Decide.{ℕ_discrete}
use borrow.Author.Tests.{ne_eqb}
use lib.Dec.{ltb, leb, eqb}
use lib.IntN.{ℤ}
use Rattle.rules.specs.declared.Settings.{Settings}
use Rattle.rules.specs.declared.Pointer.{Pointer}
use Rattle.rules.specs.declared.Event.{Event}
use Rattle.rules.specs.declared.Book.{Book}
use Rattle.rules.specs.Words.{pick, unless}
use Rattle.rules.specs.States.{with_middle}
use Rattle.rules.specs.Clicks.{Desk, Play, done, on}
use Rattle.rules.specs.Mouse.{resolved, flipped}
use Rattle.rules.specs.Step.{mouse, by_game, event_of, event_refusal, counts, plain_of, refusal_at, play_at, step_at, step_by_of, step_on, pointer_of}
use Rattle.rules.specs.Calls.{plays}
use Rattle.rules.specs.Book.{byte_at, book_of, events_of}
use Rattle.rules.specs.Printout.{book_board, book_desk, book_plays, printout_by, printout_of}
use Rattle.mouse.specs.Before.{resolved_before}
use Rattle.mouse.proofs.Rules.{resolves_before, rules_two_releases}
use Rattle.keep.specs.Kept.{LawfulAt}
use Rattle.keep.proofs.Step.{step_follows}
use Rattle.book.proofs.Before.{book_before_lem, old_rules}
use Rattle.printing.proofs.Beginning.{book_lawful}
use Rattle.board.proofs.Pair.{resolve_gives_back}
use Rattle.board.proofs.Outcomes.{setup_refused, reset_refused, flow_refused, step_gives_back, step_game_state_gives_back}
use Rattle.league.specs.Before.{plain_before, refusal_before, play_before, step_at_before, step_by_before, step_before, plays_before, printed, printout_before}
use Rattle.league.specs.Rules.{FirstDemand, ThirdDemand}
use Rattle.league.proofs.Secret.{code_secrecy}

-- ---- one event -------------------------------------------------------------------------------------------------------------------------

-- a code that resolves to what another does in document 01, and flips what that one flips
module _ (B : List ℤ) (code before : ℕ) (d : Desk)
    (same : resolved d.position.settings.rules code (mouse d) d.position.middle ≡ resolved_before before (mouse d) d.position.middle)
    (flips : flipped code d.position.middle ≡ flipped before d.position.middle) where
  plain_same : (x : Pointer) → plain_of code x d ≡ plain_before before x d
  unfolding plain_of plain_before
  plain_same x = ap (λ (k : ℕ). event_of k x) same

  refusal_same : (x : Pointer) → refusal_at code x d ≡ refusal_before before x d
  unfolding refusal_at refusal_before
  refusal_same x =
      ap (λ (e : Event). unless 31 (ltb d.position.events 65535) (event_refusal d.position.game e d)) (plain_same x)

  play_same : (x : Pointer) → play_at B code x d ≡ play_before B before x d
  unfolding play_at play_before
  play_same x =
      ap₂ (λ (e : Event) (b : Bool). counts d (by_game d.position.game B e (on d (with_middle d.position b)))) (plain_same x) flips

  by_same : (w : Option Pointer) → step_by_of B code w d ≡ step_by_before B before w d
  unfolding step_by_of step_by_before step_at step_at_before
  by_same (Some x) = ap₂ (λ (n : ℕ) (o : Play). pick (eqb n 0) o (done n d)) (refusal_same x) (play_same x)
  by_same None = refl

  step_same : (r c : ℕ) → step_on B code r c d ≡ step_before B before r c d
  unfolding step_on step_before
  step_same r c = by_same (pointer_of d.position.settings r c)

-- under rules 1 every event is played as document 01 has it
pub step_rules_one : (B : List ℤ) (code r c : ℕ) (d : Desk) → d.position.settings.rules ≡ 1 → step_on B code r c d ≡ step_before B code r c d
step_rules_one B code r c d e =
    step_same B code code d (resolves_before d.position.settings.rules code (mouse d) d.position.middle (λ _ _ q. omega arith)) refl r c

-- under any rules every event but `r` in UpDownNotFlag ..
pub step_rules_two_else : (B : List ℤ) (code r c : ℕ) (d : Desk) → (code ≡ 10 → mouse d ≡ 2 → ⊥) → step_on B code r c d ≡ step_before B code r c d
step_rules_two_else B code r c d h =
    step_same B code code d (resolves_before d.position.settings.rules code (mouse d) d.position.middle (λ q m _. h q m)) refl r c

-- .. which under rules 2 is played as document 01 has `rr`
pub step_rules_two_releases : (B : List ℤ) (r c : ℕ) (d : Desk) → d.position.settings.rules ≡ 2 → mouse d ≡ 2 → step_on B 10 r c d ≡ step_before B 3 r c d
unfolding resolved_before flipped
step_rules_two_releases B r c d e m =
    step_same B 10 3 d
    (ap₂ (λ (rules state : ℕ). resolved rules 10 state d.position.middle) e m ∙ (rules_two_releases d.position.middle).0) refl r c

-- ---- a book ----------------------------------------------------------------------------------------------------------------------------

-- a row of events from a lawful desk under rules 1
plays_one : (B : List ℤ) (events : List ℕ) (d : Desk) → LawfulAt B d → d.position.settings.rules ≡ 1 → plays B events d ≡ plays_before B events d
unfolding plays plays_before
plays_one B [] d l e = refl
plays_one B (code ∷ []) d l e = refl
plays_one B (code ∷ r ∷ []) d l e = refl
plays_one B (code ∷ r ∷ c ∷ es) d l e =
    let o : Play = step_on B code r c d in
    let f = step_follows B code r c d l in
    let rest = plays_one B es o.desk f.lawful (ap (λ (s : Settings). s.rules) f.settings ∙ e) in
    ap (λ (os : List Play). o ∷ pick (leb 20 o.answer) [] os) rest
    ∙ ap (λ (p : Play). p ∷ pick (leb 20 p.answer) [] (plays_before B es p.desk)) (step_rules_one B code r c d e)

-- of a refused book no play is printed
refused_same : (s : List ℕ) (b : Book) (os ps : List Play) → (b.number ≡ 0 → ⊥) → printed s b os ≡ printed s b ps
refused_same s b os ps h = simp (ne_eqb _ _ h)

-- a byte string whose settings count is not 5, so every old book, prints what it printed
pub old_books : (s : List ℕ) → (byte_at s 0 ≡ 5 → ⊥) → printout_of s ≡ printout_before s
unfolding printout_of printout_by printout_before
old_books s q = go (ℕ_discrete (book_of s).number 0) ∙ ap (λ (b : Book). printed s b (played b)) (book_before_lem s q)
  where
    played : Book → List Play
    played b = plays_before (book_board s b) (events_of s b) (book_desk s b)

    go : Dec ((book_of s).number ≡ 0) → printed s (book_of s) (book_plays s (book_of s)) ≡ printed s (book_of s) (played (book_of s))
    go (yes z) =
        ap (printed s (book_of s))
        (plays_one (book_board s (book_of s)) (events_of s (book_of s)) (book_desk s (book_of s)) (book_lawful s (book_of s) refl z) (old_rules s q z))
    go (no z) = refused_same s (book_of s) (book_plays s (book_of s)) (played (book_of s)) z

-- ---- the demands -----------------------------------------------------------------------------------------------------------------------

first_demand : (rules : ℕ) → FirstDemand rules
first_demand rules = record {
  setup = λ s B shown bits _ h. setup_refused s B shown bits h;
  reset = λ B d _ h. reset_refused B d h;
  resolve = λ B code r c d _ h. resolve_gives_back d.position code r c B d.shown d.bits _ refl h;
  step = λ B code r c d work _ h. step_gives_back d.position code r c B d.shown d.bits work _ _ _ _ refl h;
  flow = λ B events d work _ h. flow_refused B d work events h;
  state = λ B event d _ h. step_game_state_gives_back d.position B d.shown d.bits event _ refl h;
}

pub demand_1_rules_1 : FirstDemand 1
demand_1_rules_1 = first_demand 1

pub demand_1_rules_2 : FirstDemand 2
demand_1_rules_2 = first_demand 2

third_demand : (rules : ℕ) → ThirdDemand rules
third_demand rules s calls A B os ps _ g h tw = code_secrecy s calls A B os ps g h tw

pub demand_3_rules_1 : ThirdDemand 1
demand_3_rules_1 = third_demand 1

pub demand_3_rules_2 : ThirdDemand 2
demand_3_rules_2 = third_demand 2
