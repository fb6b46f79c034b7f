-- Each hypothesis of the demand is needed, at the end of the game that goes on: six games of two to four cells. Assumes nothing.
use mathlib.Core.Path.{◌≡◌, refl, sym, ap, ◌∙◌}
use mathlib.Core.List.{List}
use Prim.Native.Nat.{ℕ}
use native.Mathlib.Omega.{arith}
use lib.IntN.{ℤ}
use Rattle.rules.specs.declared.Settings.{Settings}
use Rattle.rules.specs.Words.{count, every}
use Rattle.rules.specs.Clicks.{Play}
use Rattle.secrecy.specs.Demand.{end_of, SameMines, AgreeOpen, AgreeWrong, AgreeHit, AgreeFlag, Twins}
use Rattle.secrecy.specs.Needed.{NotEnough, Needed}
use Rattle.secrecy.proofs.Games.{last_seen, Pair, open_agree, agree_at, no_hit, games}

-- a pair that is told apart by what is seen last
not_enough : {ending : Settings → List ℕ → List ℤ → List Play} {s : Settings} {events : List ℕ} {A B : List ℤ} {shown : List ℕ} {a b : ℕ}
    → Pair ending s events A B shown a b → (Met : Settings → List ℕ → List ℤ → List ℤ → Type 0) → Met s (end_of s A (ending s events A)) A B → (a ≡ b → ⊥) → NotEnough ending Met
not_enough {s = s} {events = events} {A = A} {B = B} c Met m n = record {
  s = s;
  events = events;
  A = A;
  B = B;
  first = c.first;
  second = c.second;
  met = m;
  differ = λ e. n (sym c.seen_a ∙ (ap (last_seen 0) e ∙ c.seen_b));
}

pub needed : Needed
unfolding count every
needed =
    let m = games.mines in
    let o = games.opened in
    let h = games.hit in
    let w = games.wrong in
    let f = games.flag in
    let r = games.refused in
    record {
      mines =
          not_enough m (λ s e A B. AgreeOpen s e A B × AgreeWrong s e A B × AgreeHit s e A B × AgreeFlag s e A B)
          (open_agree m refl, agree_at m 14 refl, agree_at m 15 refl, no_hit m refl) (λ e. omega arith);
      opens =
          not_enough o (λ s e A B. SameMines s e A B × AgreeWrong s e A B × AgreeHit s e A B × AgreeFlag s e A B)
          (refl, agree_at o 14 refl, agree_at o 15 refl, no_hit o refl) (λ e. omega arith);
      wrong =
          not_enough w (λ s e A B. SameMines s e A B × AgreeOpen s e A B × AgreeHit s e A B × AgreeFlag s e A B)
          (refl, open_agree w refl, agree_at w 15 refl, (λ k l q. agree_at w 11 refl)) (λ e. omega arith);
      hits =
          not_enough h (λ s e A B. SameMines s e A B × AgreeOpen s e A B × AgreeWrong s e A B × AgreeFlag s e A B)
          (refl, open_agree h refl, agree_at h 14 refl, (λ k l q. agree_at h 11 refl)) (λ e. omega arith);
      flags =
          not_enough f (λ s e A B. SameMines s e A B × AgreeOpen s e A B × AgreeWrong s e A B × AgreeHit s e A B)
          (refl, open_agree f refl, agree_at f 14 refl, agree_at f 15 refl) (λ e. omega arith);
      onward =
          not_enough r Twins (record {
            first = r.first;
            second = r.second;
            mines = refl;
            opens = open_agree r refl;
            wrong = agree_at r 14 refl;
            hits = agree_at r 15 refl;
            flags = no_hit r refl;
          }) (λ e. omega arith);
    }
