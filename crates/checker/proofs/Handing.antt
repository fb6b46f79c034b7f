-- The line of the checker's verdict is handed over whole.
use mathlib.Core.Path.{◌≡◌, ◌∙◌, ap}
use mathlib.Core.List.{List}
use Prim.Native.Nat.{ℕ, ◌+◌, ◌<◌, ◌≤◌}
use native.Mathlib.Omega.{arith}
use lib.ListN.{length, take}
use Rattle.rules.specs.declared.Verdict.{Verdict}
use Rattle.rules.specs.Claims.{check_of, CheckBookIs, verdict_line}
use Rattle.writing.specs.Put.{PutWithin}
use Rattle.writing.proofs.Putting.{put_front}
use Rattle.verdicts.specs.Places.{place_in}
use Rattle.verdicts.proofs.Placing.{check_placed}

module _ (s : List ℕ) {v : Verdict} (e : CheckBookIs s v) where
  pub place_fits : length s < 4294967296 → place_in v < 4294967296
  place_fits h = let p = check_placed s in let q = ap place_in e in omega arith

  module _ {out out' : List ℕ} {n : ℕ} (p : PutWithin 66 (verdict_line v) 0 out out' n) (room : 66 ≤ length out) where
    front : (n ≤ length out') × (take n out' ≡ verdict_line v)
    front = put_front (let h = p.short in omega arith) p.put

    pub line_fits : n ≤ length out'
    line_fits = front.0

    pub line_whole : take n out' ≡ verdict_line (check_of s)
    line_whole = front.1 ∙ ap verdict_line e
