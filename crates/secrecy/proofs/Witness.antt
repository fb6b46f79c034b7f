-- The hypotheses of the demand are met by games, refused events among them; and what the demand leaves out differs: rce, a bit and both solved
-- counts.
-- Assumes nothing.
use mathlib.Core.Path.{◌≡◌, refl, sym, ap, ◌∙◌}
use mathlib.Core.List.{List, [], ◌∷◌}
use Prim.Native.Nat.{ℕ}
use native.Mathlib.Omega.{arith}
use lib.ListN.{get_or}
use Rattle.rules.specs.declared.Secrets.{Secrets}
use Rattle.rules.specs.Words.{count, every}
use Rattle.secrecy.specs.Demand.{seen_of, game, stopped, end_of, Twins}
use Rattle.secrecy.specs.Witness.{line, played_a, played_b, played_events, lost_a, lost_b, lost_events, onward_a, onward_b, onward_events, by_rules2, released_events, heard, sums, end, Differ}
use Rattle.secrecy.proofs.Secrecy.{secrecy}
use Rattle.secrecy.proofs.Games.{open_agree, agree_at, no_hit, games}

-- the hypotheses are met by a game still played
pub played_twins : Twins (line 16) (end_of (line 16) played_a (game (line 16) played_events played_a)) played_a played_b
unfolding count every
played_twins =
    let g = games.played in
    record {
      first = g.first;
      second = g.second;
      mines = refl;
      opens = open_agree g refl;
      wrong = agree_at g 14 refl;
      hits = agree_at g 15 refl;
      flags = no_hit g refl;
    }

-- by a lost one
pub lost_twins : Twins (line 10) (end_of (line 10) lost_a (game (line 10) lost_events lost_a)) lost_a lost_b
unfolding count every
lost_twins =
    let g = games.lost in
    record {
      first = g.first;
      second = g.second;
      mines = refl;
      opens = open_agree g refl;
      wrong = agree_at g 14 refl;
      hits = agree_at g 15 refl;
      flags = λ k l e. agree_at g 11 refl;
    }

-- and by one that goes on after refused events: a number is opened and a flag set after them
pub onward_twins : Twins (line 5) (end_of (line 5) onward_a (game (line 5) onward_events onward_a)) onward_a onward_b
unfolding count every
onward_twins =
    let g = games.onward in
    record {
      first = g.first;
      second = g.second;
      mines = refl;
      opens = open_agree g refl;
      wrong = agree_at g 14 refl;
      hits = agree_at g 15 refl;
      flags = no_hit g refl;
    }

-- and by one under rules 2, in which `r` releases UpDownNotFlag
pub released_twins : Twins (by_rules2 (line 5)) (end_of (by_rules2 (line 5)) onward_a (game (by_rules2 (line 5)) released_events onward_a)) onward_a onward_b
unfolding count every
released_twins =
    let g = games.released in
    record {
      first = g.first;
      second = g.second;
      mines = refl;
      opens = open_agree g refl;
      wrong = agree_at g 14 refl;
      hits = agree_at g 15 refl;
      flags = no_hit g refl;
    }

-- the same events under rules 1 set no flag
pub released_heard : heard (game (by_rules2 (line 5)) released_events onward_a) ≡ 0 ∷ 2 ∷ 0 ∷ 0 ∷ 1 ∷ 0 ∷ []
released_heard = games.heard.two

pub pressed_heard : heard (game (line 5) released_events onward_a) ≡ 0 ∷ 2 ∷ 0 ∷ 0 ∷ 0 ∷ 0 ∷ []
pressed_heard = games.heard.one

pub onward_heard : heard (game (line 5) onward_events onward_a) ≡ 0 ∷ 32 ∷ 2 ∷ 33 ∷ 30 ∷ 1 ∷ 0 ∷ []
onward_heard = games.heard.onward

pub stopped_heard : heard (stopped (line 5) onward_events onward_a) ≡ 0 ∷ 32 ∷ []
stopped_heard = games.heard.broken

-- the number that was opened is one cell, and a refused event opens none
pub onward_sums : sums (seen_of (line 5) (game (line 5) onward_events onward_a)) ≡ 0 ∷ 0 ∷ 1 ∷ 0 ∷ 0 ∷ 0 ∷ 0 ∷ []
onward_sums = games.heard.sums

-- what is seen of them is the same
pub played_seen : seen_of (line 16) (game (line 16) played_events played_a) ≡ seen_of (line 16) (game (line 16) played_events played_b)
played_seen = secrecy (line 16) played_events played_a played_b played_twins

pub lost_seen : seen_of (line 10) (game (line 10) lost_events lost_a) ≡ seen_of (line 10) (game (line 10) lost_events lost_b)
lost_seen = secrecy (line 10) lost_events lost_a lost_b lost_twins

pub onward_seen : seen_of (line 5) (game (line 5) onward_events onward_a) ≡ seen_of (line 5) (game (line 5) onward_events onward_b)
onward_seen = secrecy (line 5) onward_events onward_a onward_b onward_twins

pub released_seen : seen_of (by_rules2 (line 5)) (game (by_rules2 (line 5)) released_events onward_a) ≡ seen_of (by_rules2 (line 5)) (game (by_rules2 (line 5)) released_events onward_b)
released_seen = secrecy (by_rules2 (line 5)) released_events onward_a onward_b released_twins

-- what is not promised differs
pub played_differ : Differ (end (line 16) played_events played_a) (end (line 16) played_events played_b)
played_differ = record {
  rce = λ e. let a = ap (λ (k : Secrets). k.rce) games.kept.secrets_a in let b = ap (λ (k : Secrets). k.rce) games.kept.secrets_b in omega arith;
  left = λ e. let a = ap (λ (k : Secrets). k.solved_left) games.kept.secrets_a in let b = ap (λ (k : Secrets). k.solved_left) games.kept.secrets_b in omega arith;
  chord = λ e. let a = ap (λ (k : Secrets). k.solved_chord) games.kept.secrets_a in let b = ap (λ (k : Secrets). k.solved_chord) games.kept.secrets_b in omega arith;
  bits = λ e. let z : ◌≡◌ {A = ℕ} 0 64 = ap (λ (l : List ℕ). get_or l 0 0) (sym games.kept.bits_a ∙ (e ∙ games.kept.bits_b)) in omega arith;
}
