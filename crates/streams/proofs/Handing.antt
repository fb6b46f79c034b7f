-- What is handed over where there is nothing to hand over, and what stands whether or not a write failed.
use Rattle.std.proofs.Common.{◌≡◌, ℕ, List, take, sym, subst, Ok, Err}
use Rattle.std.specs.Prelude.{OnErr}
use Rattle.std.specs.declared.option.Option.{Option}
use Rattle.std.specs.declared.result.Result.{Result}
use Rattle.std.specs.Io.KnownBytes.{Appends}
use Rattle.std.proofs.KnownBytes.{Appends-nil}

-- a front of no bytes is nothing, and nothing is appended where the writer stays as it was
pub none_handed : (known : Option (List ℕ)) {n : ℕ} (xs : List ℕ) → n ≡ 0 → Appends known known (take n xs)
none_handed known xs e = subst (λ (k : ℕ). Appends known known (take k xs)) (sym e) (Appends-nil known)

-- what holds anyway holds where there is an error
pub anyway : {T E P : Type 0} (r : Result T E) → P → OnErr r P
anyway (Ok x) p = tt
anyway (Err e) p = p
