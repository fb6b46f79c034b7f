-- What a drag of the bench leaves: the slider, the room and the lent boards of the definition's drag.
use Rattle.std.specs.Prelude.{◌≡◌, List, ℕ, ℤ}
use Rattle.rules.specs.Slides.{drag_of}
use Rattle.keeping.specs.Keeps.{kept_of}
use Rattle.slider.specs.Promises.{lent_of}

abbrev pub DragLeaves : ℕ → List ℕ → ℕ → ℕ → List ℤ → List ℕ → List ℕ → List ℕ → List ℕ → ℕ → List ℤ → List ℕ → List ℕ → List ℕ → List ℕ → Type 0
DragLeaves kept s n k mines shown bits work room r mines' shown' bits' work' room' =
    let o = drag_of s n k (kept_of kept room) (lent_of mines shown bits work) in
    (kept_of r room' ≡ o.kept) × (lent_of mines' shown' bits' work' ≡ o.lent)
