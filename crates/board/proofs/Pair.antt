-- Resolve and then the plain step are the event of a game; the plain step alone is that event of a plain code. What resolve can change. Assumes nothing.
use Rattle.std.specs.Prelude.{Option, Some, None}
use mathlib.Core.Path.{◌≡◌, refl, sym, ap, ap₂, ◌∙◌, subst⁻¹}
use mathlib.Core.Bool.{Bool, true, false, ◌&&◌, ◌||◌, false≢true}
use mathlib.Core.List.{List}
use Prim.Native.Nat.{ℕ, ◌≤◌}
use native.Mathlib.Omega.{arith}
use native.Mathlib.Decide.{ℕ_discrete}
use borrow.Author.Tests.{eq-eqb, ne_eqb, leb-true}
use lib.Dec.{eqb, leb, ltb}
use lib.IntN.{ℤ}
use Rattle.rules.specs.declared.Position.{Position}
use Rattle.rules.specs.declared.Answer.{Answer}
use Rattle.rules.specs.declared.Pointer.{Pointer}
use Rattle.rules.specs.declared.Pointer.TheVariants.{Cell, Off}
use Rattle.rules.specs.declared.Event.{Event}
use Rattle.rules.specs.declared.Event.TheVariants.{Lc, Lr, Rc, Rr, Mv, Mc, Mr, Cc, Pf, Unknown}
use Rattle.rules.specs.declared.GameState.{GameState}
use Rattle.rules.specs.declared.GameState.TheVariants.{Ready, Playing, Win, Loss, PreFlaging}
use Rattle.rules.specs.Words.{pick, unless}
use Rattle.rules.specs.States.{with_middle}
use Rattle.rules.specs.Board.{fault_of}
use Rattle.rules.specs.Clicks.{Desk, Play, desk, done, on}
use Rattle.rules.specs.Mouse.{both_down, resolved, flipped}
use Rattle.rules.specs.Step.{
  mouse,
  seen_at,
  by_game,
  counts,
  pointer_of,
  event_of,
  errs_playing,
  errs_pre_flaging,
  bad_pre_flag,
  event_refusal,
  plain_of,
  refusal_at,
  play_at,
  step_at,
  step_by_of,
  step_on,
  plain_code,
  plain_on,
}
use Rattle.rules.specs.Calls.{answers, refuses, boards_fit, work_fits, position_refusal, position_check, lent_refusal, resolve_by, resolve_of, played, tested, step_of}
use Rattle.rules.specs.Promises.{ResolveIs}
use Rattle.cells.proofs.Words.{pick_both, one}
use Rattle.keep.proofs.Lawful.{check_lawful, check_passes}
use Rattle.keep.proofs.Moves.{middle_keeps}
use Rattle.mouse.proofs.Codes.{toggle, plain_same, plain_unknown, resolved_same, flipped_same}
use Rattle.board.specs.Pair.{pair_by, pair_of, event_call_of}

-- ---- the plain step ----------------------------------------------------------------------------------------------------------------------

-- it plays a plain code as the event that it is, and `l`, `r` and `m` as an unknown one
pub plain_as_step : (B : List ℤ) (code r c : ℕ) (d : Desk) (work : List ℕ)
    → (toggle code ≡ false → step_of B code r c d work ≡ event_call_of B code r c d work) × (toggle code ≡ true → step_of B code r c d work ≡ event_call_of B 12 r c d work)
unfolding step_of
plain_as_step B code r c d work =
    (λ e. ap (λ (k : ℕ). event_call_of B k r c d work) (plain_same code e), λ e. ap (λ (k : ℕ). event_call_of B k r c d work) (plain_unknown code e))

-- ---- what a code resolves into -------------------------------------------------------------------------------------------------------------

no_toggle : (code : ℕ) → (code ≡ 9 → ⊥) → (code ≡ 10 → ⊥) → (code ≡ 11 → ⊥) → toggle code ≡ false
no_toggle code a b c = go (leb 9 code) (leb code 11) refl refl
  where
    go : (s t : Bool) → leb 9 code ≡ s → leb code 11 ≡ t → (s && t) ≡ false
    go false t e f = refl
    go true false e f = refl
    go true true e f =
        let l = leb-true 9 code e in
        let m = leb-true code 11 f in
        absurd (c (between (ℕ_discrete code 9) (ℕ_discrete code 10) l m))
      where
        between : Dec (code ≡ 9) → Dec (code ≡ 10) → 9 ≤ code → code ≤ 11 → code ≡ 11
        between (yes q) k l m = absurd (a q)
        between (no q) (yes k) l m = absurd (b k)
        between (no q) (no k) l m = omega arith

-- a plain code, always
pub resolved_plain : (rules code m : ℕ) (middle : Bool) → toggle (resolved rules code m middle) ≡ false
unfolding resolved
resolved_plain rules code m middle = go (ℕ_discrete code 9) (ℕ_discrete code 10) (ℕ_discrete code 11)
  where
    two : (b : Bool) (x y : ℕ) → toggle x ≡ false → toggle y ≡ false → toggle (pick b x y) ≡ false
    two b x y hx hy = pick_both (λ (k : ℕ). toggle k ≡ false) b x y (λ _. hx) (λ _. hy)

    go : Dec (code ≡ 9) → Dec (code ≡ 10) → Dec (code ≡ 11) → toggle (resolved rules code m middle) ≡ false
    go (yes q) _ _ = simp (eq-eqb code 9 q) (two (leb 3 m) 1 0 refl refl)
    go (no q) (yes k) _ = simp (ne_eqb code 9 q, eq-eqb code 10 k) (two (eqb m 1 || (both_down m || (eqb m 2 && eqb rules 2))) 3 2 refl refl)
    go (no q) (no k) (yes j) = simp (ne_eqb code 9 q, ne_eqb code 10 k, eq-eqb code 11 j) (two middle 6 5 refl refl)
    go (no q) (no k) (no j) = simp (ne_eqb code 9 q, ne_eqb code 10 k, ne_eqb code 11 j) (no_toggle code q k j)

-- only `m` flips
flips_not : (code : ℕ) (middle : Bool) → (code ≡ 11 → ⊥) → flipped code middle ≡ middle
unfolding flipped
flips_not code middle h = simp (ne_eqb code 11 h)

-- ---- the middle flag is no part of what is refused ------------------------------------------------------------------------------------------

module _ (b : Bool) (d : Desk) where
  pre_flag_same : (e : Event) → bad_pre_flag (on d (with_middle d.position b)) e ≡ bad_pre_flag d e
  unfolding bad_pre_flag seen_at
  pre_flag_same (Lc x) = refl
  pre_flag_same (Lr x) = refl
  pre_flag_same (Rc x) = refl
  pre_flag_same (Rr x) = refl
  pre_flag_same (Mv x) = refl
  pre_flag_same (Mc x) = refl
  pre_flag_same (Mr x) = refl
  pre_flag_same (Cc x) = refl
  pre_flag_same (Pf (Cell r c)) = refl
  pre_flag_same (Pf Off) = refl
  pre_flag_same (Unknown code x) = refl

  refusal_same : (g : GameState) (e : Event) → event_refusal g e (on d (with_middle d.position b)) ≡ event_refusal g e d
  unfolding event_refusal
  refusal_same Ready e = rw (pre_flag_same e) refl
  refusal_same PreFlaging e = rw (pre_flag_same e) refl
  refusal_same Playing e = refl
  refusal_same Win e = refl
  refusal_same Loss e = refl

-- what `m` becomes is refused by neither 32 nor 33
middle_heard : (middle : Bool) (g : GameState) (x : Pointer) (d : Desk) → event_refusal g (event_of (pick middle 6 5) x) d ≡ 0
unfolding event_refusal event_of bad_pre_flag errs_playing errs_pre_flaging
middle_heard true Ready x d = refl
middle_heard true PreFlaging x d = refl
middle_heard true Playing x d = refl
middle_heard true Win x d = refl
middle_heard true Loss x d = refl
middle_heard false Ready x d = refl
middle_heard false PreFlaging x d = refl
middle_heard false Playing x d = refl
middle_heard false Win x d = refl
middle_heard false Loss x d = refl

-- so `m` is not refused where there is room to count
middle_accepted : (x : Pointer) (d : Desk) → ltb d.position.events 65535 ≡ true → refusal_at 11 x d ≡ 0
unfolding refusal_at plain_of resolved
middle_accepted x d room =
    ap (λ (t : Bool). unless 31 t (event_refusal d.position.game (event_of (pick d.position.middle 6 5) x) d)) room
    ∙ middle_heard d.position.middle d.position.game x d

-- ---- an event at a good pointer, resolved and then played as it is --------------------------------------------------------------------------

-- the plain code of a code at a desk, and the desk with the middle flag that it leaves
abbrev pub plain_at_of : ℕ → Desk → ℕ
plain_at_of code d = resolved d.position.settings.rules code (mouse d) d.position.middle

abbrev pub flipped_at : ℕ → Desk → Desk
flipped_at code d = on d (with_middle d.position (flipped code d.position.middle))

plain_at : (code : ℕ) (d : Desk) → toggle (plain_at_of code d) ≡ false
plain_at code d = resolved_plain d.position.settings.rules code (mouse d) d.position.middle

module _ (B : List ℤ) (code : ℕ) (x : Pointer) (d : Desk) where
  stays : plain_of (plain_at_of code d) x (flipped_at code d) ≡ plain_of code x d
  unfolding plain_of
  stays =
      ap (λ (k : ℕ). event_of k x)
      (resolved_same d.position.settings.rules (plain_at_of code d) (mouse d) (flipped code d.position.middle) (plain_at code d))

  refuses_same : refusal_at (plain_at_of code d) x (flipped_at code d) ≡ refusal_at code x d
  unfolding refusal_at
  refuses_same =
      ap (λ (n : ℕ). unless 31 (ltb d.position.events 65535) n)
      (ap (λ (e : Event). event_refusal d.position.game e (flipped_at code d)) stays
      ∙ refusal_same (flipped code d.position.middle) d d.position.game (plain_of code x d))

  plays_same : play_at B (plain_at_of code d) x (flipped_at code d) ≡ play_at B code x d
  unfolding play_at
  plays_same =
      ap₂ (λ (e : Event) (t : Bool). counts d (by_game d.position.game B e (on d (with_middle d.position t)))) stays
      (flipped_same (plain_at_of code d) (flipped code d.position.middle) (plain_at code d))

  -- a refused event has flipped nothing
  leaves_same : ltb d.position.events 65535 ≡ true → (refusal_at code x d ≡ 0 → ⊥) → flipped_at code d ≡ d
  leaves_same room h = go (ℕ_discrete code 11)
    where
      go : Dec (code ≡ 11) → flipped_at code d ≡ d
      go (no q) = ap (λ (t : Bool). on d (with_middle d.position t)) (flips_not code d.position.middle q)
      go (yes q) = absurd (h (ap (λ (k : ℕ). refusal_at k x d) q ∙ middle_accepted x d room))

  pub pair_at : ltb d.position.events 65535 ≡ true → step_at B (plain_code (plain_at_of code d)) x (flipped_at code d) ≡ step_at B code x d
  unfolding step_at
  pair_at room =
      ap (λ (k : ℕ). step_at B k x (flipped_at code d)) (plain_same (plain_at_of code d) (plain_at code d))
      ∙ (ap₂ (λ (n : ℕ) (o : Play). pick (eqb n 0) o (done n (flipped_at code d))) refuses_same plays_same ∙ go (eqb (refusal_at code x d) 0) refl)
    where
      go : (t : Bool) → eqb (refusal_at code x d) 0 ≡ t
          → pick t (play_at B code x d) (done (refusal_at code x d) (flipped_at code d)) ≡ pick t (play_at B code x d) (done (refusal_at code x d) d)
      go true q = refl
      go false q = ap (λ (y : Desk). done (refusal_at code x d) y) (leaves_same room (λ z. false≢true (sym q ∙ eq-eqb (refusal_at code x d) 0 z)))

  pub full_at : ltb d.position.events 65535 ≡ false → step_at B code x d ≡ done 31 d
  unfolding step_at refusal_at
  full_at h = simp h

-- ---- THE PAIR ------------------------------------------------------------------------------------------------------------------------------

and_true : (t : Bool) → (t && true) ≡ t
and_true true = refl
and_true false = refl

-- where the work fits, a call that is lent work is refused by 20 to 264 as one that is not
pub lent_check : (B : List ℤ) (d : Desk) (work : List ℕ) → work_fits d.position.settings work ≡ true → lent_refusal B d work ≡ position_check B d
unfolding lent_refusal position_check
lent_check B d work w =
    let fit = boards_fit d.position.settings B d.shown d.bits in
    ap (λ (t : Bool). position_refusal (fit && t) B d) w ∙ ap (λ (t : Bool). position_refusal t B d) (and_true fit)

pub middle_check : (B : List ℤ) (d : Desk) (b : Bool) → position_check B d ≡ 0 → position_check B (on d (with_middle d.position b)) ≡ 0
middle_check B d b e =
    let l = check_lawful B d e in
    check_passes B d (on d (with_middle d.position b)) e refl (record { kept = middle_keeps b l.kept; few = l.few })

-- a call that 20 to 264 do not refuse plays
tested_plays : (B : List ℤ) (d : Desk) (work : List ℕ) (o : Play) → lent_refusal B d work ≡ 0 → tested B d work o ≡ played d.shown o work
tested_plays B d work o e = simp (eq-eqb _ _ e)

module _ (B : List ℤ) (code r c : ℕ) (d : Desk) (work : List ℕ) (fits : work_fits d.position.settings work ≡ true) where
  resolved_plays : (x : Pointer) → position_check B d ≡ 0 → pointer_of d.position.settings r c ≡ Some x → ltb d.position.events 65535 ≡ true
      → step_of B (plain_at_of code d) r c (flipped_at code d) work ≡ played d.shown (step_at B code x d) work
  unfolding step_of step_on step_by_of
  resolved_plays x e w room =
      tested_plays B (flipped_at code d) work (plain_on B (plain_at_of code d) r c (flipped_at code d))
      (lent_check B (flipped_at code d) work fits ∙ middle_check B d (flipped code d.position.middle) e)
      ∙ ap (λ (o : Play). played d.shown o work)
      (ap (λ (y : Option Pointer). step_by_of B (plain_code (plain_at_of code d)) y (flipped_at code d)) w ∙ pair_at B code x d room)

  pair_accepted : position_check B d ≡ 0 → (w : Option Pointer) → pointer_of d.position.settings r c ≡ w
      → pair_by B r c d work (resolve_by code w d.position) ≡ played d.shown (step_by_of B code w d) work
  unfolding resolve_by step_by_of
  pair_accepted e None q = refl
  pair_accepted e (Some x) q = go (ltb d.position.events 65535) refl
    where
      go : (t : Bool) → ltb d.position.events 65535 ≡ t
          → pair_by B r c d work (pick t (answers 0 (flipped_at code d).position (plain_at_of code d)) (answers 31 d.position 0)) ≡ played d.shown (step_at B code x d) work
      go true room = resolved_plays x e q room
      go false room = sym (ap (λ (o : Play). played d.shown o work) (full_at B code x d room))

  -- resolve and then the plain step, where the work fits: an event of a game as one call
  pub pair_is_step : pair_of B code r c d work ≡ event_call_of B code r c d work
  unfolding resolve_of step_on
  pair_is_step = go (ℕ_discrete (position_check B d) 0)
    where
      go : Dec (position_check B d ≡ 0) → pair_of B code r c d work ≡ event_call_of B code r c d work
      go (yes e) =
          ap (pair_by B r c d work) (resolve_heard e)
          ∙ (pair_accepted e (pointer_of d.position.settings r c) refl ∙ sym (tested_plays B d work (step_on B code r c d) (lent_check B d work fits ∙ e)))
        where
          resolve_heard : position_check B d ≡ 0 → resolve_of B code r c d ≡ resolve_by code (pointer_of d.position.settings r c) d.position
          resolve_heard e = simp (eq-eqb _ _ e)
      go (no e) = simp (lent_check B d work fits, ne_eqb _ _ e)

-- ---- what resolve leaves -------------------------------------------------------------------------------------------------------------------

-- it refuses and gives all back; or it answers the plain code, and the position but for the middle flag
pub data Resolves (B : List ℤ) (code : ℕ) (d : Desk) (a : Answer) : Type 0 where
  back : (a.number ≡ 0 → ⊥) → a ≡ refuses B d.position a.number → Resolves B code d a
  heard : a ≡ answers 0 (flipped_at code d).position (plain_at_of code d) → Resolves B code d a

resolves_by : (B : List ℤ) (code : ℕ) (w : Option Pointer) (d : Desk) → Resolves B code d (resolve_by code w d.position)
unfolding resolve_by fault_of
resolves_by B code None d = back (λ (z : ◌≡◌ {A = ℕ} 30 0). omega arith) refl
resolves_by B code (Some x) d =
    pick_both (Resolves B code d) (ltb d.position.events 65535) (answers 0 (flipped_at code d).position (plain_at_of code d)) (answers 31 d.position 0)
    (λ _. heard refl) (λ _. back (λ (z : ◌≡◌ {A = ℕ} 31 0). omega arith) refl)

pub resolves : (B : List ℤ) (code r c : ℕ) (d : Desk) → Resolves B code d (resolve_of B code r c d)
unfolding resolve_of
resolves B code r c d =
    let w = pointer_of d.position.settings r c in
    pick_both (Resolves B code d) (eqb (position_check B d) 0) (resolve_by code w d.position) (refuses B d.position (position_check B d))
    (λ _. resolves_by B code w d) (λ f. back (λ z. false≢true (sym f ∙ eq-eqb _ _ z)) refl)

module _ (B : List ℤ) (code r c : ℕ) (d : Desk) where
  -- an accepted code comes out plain, and one that was plain as it came, with the position as it was
  pub resolve_plain : (resolve_of B code r c d).number ≡ 0
      → (toggle (resolve_of B code r c d).value ≡ false) × (toggle code ≡ false → resolve_of B code r c d ≡ answers 0 d.position code)
  resolve_plain z = go (resolves B code r c d)
    where
      go : Resolves B code d (resolve_of B code r c d)
          → (toggle (resolve_of B code r c d).value ≡ false) × (toggle code ≡ false → resolve_of B code r c d ≡ answers 0 d.position code)
      go (back h e) = absurd (h z)
      go (heard e) = (
        ap (λ (a : Answer). toggle a.value) e ∙ plain_at code d,
        λ t.
            e
            ∙ ap₂ (λ (b : Bool) (v : ℕ). answers 0 (with_middle d.position b) v) (flipped_same code d.position.middle t)
            (resolved_same d.position.settings.rules code (mouse d) d.position.middle t),
      )

  -- it counts no event: only the middle flag can differ, and only for `m`
  pub resolve_counts_none : ((resolve_of B code r c d).position ≡ with_middle d.position (resolve_of B code r c d).position.middle)
      × ((code ≡ 11 → ⊥) → (resolve_of B code r c d).position ≡ d.position)
  resolve_counts_none = go (resolves B code r c d)
    where
      go : Resolves B code d (resolve_of B code r c d)
          → ((resolve_of B code r c d).position ≡ with_middle d.position (resolve_of B code r c d).position.middle)
          × ((code ≡ 11 → ⊥) → (resolve_of B code r c d).position ≡ d.position)
      go (back h e) =
          let s : (resolve_of B code r c d).position ≡ d.position = ap (λ (a : Answer). a.position) e in
          (s ∙ sym (ap (λ (q : Position). with_middle d.position q.middle) s), λ _. s)
      go (heard e) =
          let s : (resolve_of B code r c d).position ≡ with_middle d.position (flipped code d.position.middle) = ap (λ (a : Answer). a.position) e in (
            s ∙ sym (ap (λ (q : Position). with_middle d.position q.middle) s),
            λ q. s ∙ ap (with_middle d.position) (flips_not code d.position.middle q),
          )

-- one outcome, and a refusal gives all back
module _ (p : Position) (code row column : ℕ) (B : List ℤ) (shown bits : List ℕ) where
  pub resolve_one : (r q : Answer) → ResolveIs p code row column B shown bits r → ResolveIs p code row column B shown bits q → r ≡ q
  resolve_one r q h k = one h k

  pub resolve_gives_back : (r : Answer) → ResolveIs p code row column B shown bits r → (r.number ≡ 0 → ⊥) → r ≡ refuses B p r.number
  resolve_gives_back r h = subst⁻¹ (λ (a : Answer). (a.number ≡ 0 → ⊥) → a ≡ refuses B p a.number) h (go (resolves B code row column (desk p shown bits)))
    where
      go : Resolves B code (desk p shown bits) (resolve_of B code row column (desk p shown bits))
          → ((resolve_of B code row column (desk p shown bits)).number ≡ 0 → ⊥)
          → resolve_of B code row column (desk p shown bits) ≡ refuses B p (resolve_of B code row column (desk p shown bits)).number
      go (back z e) _ = e
      go (heard e) z = absurd (z (ap (λ (a : Answer). a.number) e))
