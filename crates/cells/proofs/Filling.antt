-- Lists filled from the front: a whole list, and work cleared.
use mathlib.Core.Path.{◌≡◌, ap, ◌∙◌}
use mathlib.Core.List.{List, ◌++◌, append-nil}
use Prim.Native.Nat.{ℕ, ◌≤◌}
use native.Mathlib.Omega.{arith}
use lib.ListN.{length, drop, replicate, get_or-append, length-replicate, get_or-replicate}
use lib.Seq.{drop-length}
use Rattle.cells.specs.Ground.{Zeros}

-- a fill that has passed every entry
pub fill_whole : (l : List ℕ) (v i : ℕ) (l' : List ℕ) → i ≤ length l → length l ≤ i → l' ≡ replicate i v ++ drop i l → l' ≡ replicate (length l) v
fill_whole l v i l' h k e =
    let d : i ≡ length l = omega arith in
    e ∙ ap (λ (n : ℕ). replicate n v ++ drop n l) d ∙ ap (λ (x : List ℕ). replicate (length l) v ++ x) (drop-length l) ∙ append-nil (replicate (length l) v)

-- what is cleared is 0
pub cleared_zeros : (n : ℕ) (w : List ℕ) → Zeros n (replicate n 0 ++ drop n w)
cleared_zeros n w i h = get_or-append (replicate n 0) (drop n w) 0 i (rw (length-replicate {0} {A = ℕ} n 0) h) ∙ get_or-replicate n i 0 0 h
