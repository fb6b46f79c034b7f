use mathlib.Core.Path.{ap}
use native.Mathlib.Omega.{arith}
use Rattle.verdicts.specs.Places.{place_in}
use Rattle.verdicts.proofs.Lines.{case_room, case_put, none_put}
use Rattle.verdicts.proofs.put_tail.Goals as goal

-- src/lib.rt:38:76
pub overflow_cast-place : goal.overflow_cast-place
overflow_cast-place c = let e = ap place_in c.in-Refused.is in record { fits = omega arith }

-- src/lib.rt:38:50
pub put_told-requires : goal.put_told-requires
put_told-requires c = case_room c.in-Refused.is c.requires.room

-- src/lib.rt:39:44
pub put_told-requires-in-EventRefused : goal.put_told-requires-in-EventRefused
put_told-requires-in-EventRefused c = case_room c.in-EventRefused.is c.requires.room

-- src/lib.rt:41:54
pub put_claim-requires : goal.put_claim-requires
put_claim-requires c = case_room c.in-ClaimDiffers.is c.requires.room

-- src/lib.rt:31:1
pub returns-in-Accepted : goal.returns-in-Accepted
returns-in-Accepted c = none_put c.in-Accepted.is

-- src/lib.rt:31:1
pub returns-in-Refused : goal.returns-in-Refused
returns-in-Refused c = case_put c.in-Refused.is c.put_told.ensures

-- src/lib.rt:31:1
pub returns-in-EventRefused : goal.returns-in-EventRefused
returns-in-EventRefused c = case_put c.in-EventRefused.is c.put_told-in-EventRefused.ensures

-- src/lib.rt:31:1
pub returns-in-ClaimDiffers : goal.returns-in-ClaimDiffers
returns-in-ClaimDiffers c = case_put c.in-ClaimDiffers.is c.put_claim.ensures
