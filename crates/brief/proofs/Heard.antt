-- Events that are neither resolved nor refused, a button while Playing and a move in every game state: what is played of them is the step, once counted.
use mathlib.Core.Path.{◌≡◌, ◌∙◌, sym, ap, refl}
use mathlib.Core.Bool.{Bool, true, ◌&&◌}
use mathlib.Core.List.{List}
use Rattle.std.specs.Prelude.{Option, Some, None}
use Prim.Native.Nat.{ℕ, zero, suc, ◌<◌}
use native.Mathlib.Omega.{arith}
use borrow.Author.Tests.{lt-ltb, ltb-true}
use lib.Dec.{ltb}
use lib.IntN.{ℤ}
use Rattle.rules.specs.declared.Position.{Position}
use Rattle.rules.specs.declared.Played.{Played}
use Rattle.rules.specs.declared.Pointer.{Pointer}
use Rattle.rules.specs.declared.Event.TheVariants.{Mv}
use Rattle.rules.specs.declared.GameState.{GameState}
use Rattle.rules.specs.declared.GameState.TheVariants.{Ready, Playing, Win, Loss, PreFlaging}
use Rattle.rules.specs.States.{is_playing}
use Rattle.rules.specs.Clicks.{Desk, Play, desk, done}
use Rattle.rules.specs.Mouse.{resolved, flipped}
use Rattle.rules.specs.Step.{bad_pre_flag, errs_pre_flaging, errs_playing, event_refusal, ready, pre_flaging, playing, by_game, event_of, plain_of, refusal_at, counts, play_at, step_at}
use Rattle.cells.proofs.Words.{and_left, and_right}
use Rattle.keep.proofs.Passes.{playing_is}
use Rattle.brief.specs.Briefly.{Plainly, Briefly}

-- ---- the codes below 5 are plain, and leave the middle flag -----------------------------------------------------------------------------

code_plain : (code : ℕ) (x : Pointer) (d : Desk) → code < 5 → plain_of code x d ≡ event_of code x
unfolding plain_of resolved
code_plain zero x d h = refl
code_plain (suc zero) x d h = refl
code_plain (suc (suc zero)) x d h = refl
code_plain (suc (suc (suc zero))) x d h = refl
code_plain (suc (suc (suc (suc zero)))) x d h = refl
code_plain (suc (suc (suc (suc (suc n))))) x d h = absurd (omega arith)

code_flips : (code : ℕ) (b : Bool) → code < 5 → flipped code b ≡ b
unfolding flipped
code_flips zero b h = refl
code_flips (suc zero) b h = refl
code_flips (suc (suc zero)) b h = refl
code_flips (suc (suc (suc zero))) b h = refl
code_flips (suc (suc (suc (suc zero)))) b h = refl
code_flips (suc (suc (suc (suc (suc n))))) b h = absurd (omega arith)

-- ---- a button while Playing, and a move, are not refused --------------------------------------------------------------------------------

button_heard : (code : ℕ) (x : Pointer) (d : Desk) → code < 4 → event_refusal Playing (event_of code x) d ≡ 0
unfolding event_refusal event_of errs_playing
button_heard zero x d h = refl
button_heard (suc zero) x d h = refl
button_heard (suc (suc zero)) x d h = refl
button_heard (suc (suc (suc zero))) x d h = refl
button_heard (suc (suc (suc (suc n)))) x d h = absurd (omega arith)

move_heard : (g : GameState) (x : Pointer) (d : Desk) → event_refusal g (Mv x) d ≡ 0
unfolding event_refusal bad_pre_flag errs_pre_flaging errs_playing
move_heard Ready x d = refl
move_heard PreFlaging x d = refl
move_heard Playing x d = refl
move_heard Win x d = refl
move_heard Loss x d = refl

-- a move changes nothing
move_idle : (g : GameState) (B : List ℤ) (x : Pointer) (d : Desk) → by_game g B (Mv x) d ≡ done 0 d
unfolding by_game ready pre_flaging playing
move_idle Ready B x d = refl
move_idle PreFlaging B x d = refl
move_idle Playing B x d = refl
move_idle Win B x d = refl
move_idle Loss B x d = refl

pub button_code : (b : Bool) (code : ℕ) → (b && ltb code 4) ≡ true → code < 4
button_code b code t = ltb-true code 4 (and_right b _ t)

-- ---- the step ----------------------------------------------------------------------------------------------------------------------------

module _ (B : List ℤ) (code : ℕ) (x : Pointer) (p : Position) (shown bits : List ℕ) (few : p.events < 65535) where
  abbrev d : Desk
  d = desk p shown bits

  steps : code < 5 → event_refusal p.game (event_of code x) d ≡ 0 → (o : Play) → o ≡ by_game p.game B (event_of code x) d → counts d o ≡ step_at B code x d
  unfolding step_at refusal_at play_at
  steps l r o h = rw (lt-ltb p.events 65535 few, code_plain code x d l, r, code_flips code p.middle l) (ap (counts d) h)

  module _ (t : (is_playing p.game && ltb code 4) ≡ true) where
    game_is : p.game ≡ Playing
    game_is = playing_is p.game (and_left _ _ t)

    button_steps : (o : Play) → o ≡ playing B (event_of code x) d → counts d o ≡ step_at B code x d
    unfolding by_game
    button_steps o h =
        let c = button_code (is_playing p.game) code t in
        steps (omega arith) (ap (λ (g : GameState). event_refusal g (event_of code x) d) game_is ∙ button_heard code x d c) o
        (h ∙ ap (λ (g : GameState). by_game g B (event_of code x) d) (sym game_is))

    pub button_briefly : (r : Option Played) (shown' bits' : List ℕ) → Plainly (playing B (event_of code x)) p shown bits r shown' bits' → Briefly B code x p shown bits r shown' bits'
    button_briefly (Some o) shown' bits' h = button_steps (done o.answer (desk o.position shown' bits')) h
    button_briefly None shown' bits' h = h

  pub move_steps : code ≡ 4 → counts d (done 0 d) ≡ step_at B code x d
  unfolding event_of
  move_steps e = steps (omega arith) (rw e (move_heard p.game x d)) (done 0 d) (rw e (sym (move_idle p.game B x d)))
