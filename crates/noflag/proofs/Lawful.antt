-- The class's step keeps the lawful position: it is the full game's, or it leaves the desk. Assumes nothing.
use mathlib.Core.Path.{◌≡◌, refl}
use Rattle.rules.specs.Clicks.{Desk}
use Rattle.rules.specs.Calls.{position_check}
use Rattle.keep.specs.Kept.{Follows}
use Rattle.keep.proofs.Step.{step_follows, step_check}
use Rattle.noflag.specs.Class.{ClassLawful}
use Rattle.noflag.proofs.Same.{class_either}

-- THEOREM: the lawful position is kept
pub class_lawful : ClassLawful
class_lawful = record {
  follows = λ B code r c d l. class_either (Follows B d) B code r c d (record { lawful = l; settings = refl; told = λ t. t }) (λ _. step_follows B code r c d l);
  check = λ B code r c d e. class_either (λ (x : Desk). position_check B x ≡ 0) B code r c d e (λ _. step_check B code r c d e);
}
