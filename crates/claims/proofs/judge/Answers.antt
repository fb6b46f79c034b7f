use mathlib.Core.Path.{◌∙◌, refl, ap}
use Rattle.rules.specs.Claims.{claims_judged}
use Rattle.claims.proofs.Judging.{agreed_start, agreed_turn, agreed_differs, agreed_done}
use Rattle.claims.proofs.judge.Goals as goal

-- src/lib.rt:99:5
pub loop-i-init : goal.loop-i-init
loop-i-init c = agreed_start _ _ _

-- src/lib.rt:104:13
pub returns-then-says-is : goal.returns-then-says-is
returns-then-says-is c = agreed_differs _ _ _ c.loop-i.invariant c.loop-i-test.true c.claim_at-says.ensures refl c.if-says-is.true ∙ ap (claims_judged _ _) c.ten_values-values.ensures

-- src/lib.rt:99:5
pub loop-i-preserved : goal.loop-i-preserved
loop-i-preserved c = agreed_turn _ _ _ c.loop-i.invariant c.loop-i-test.true c.claim_at-says.ensures refl c.if-says-is.false

-- src/lib.rt:93:1
pub returns : goal.returns
returns c = agreed_done _ _ _ c.loop-i.invariant c.loop-i-test.false ∙ ap (claims_judged _ _) c.ten_values-values.ensures
