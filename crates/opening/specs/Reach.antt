-- What an opening opens: the cells that it reaches, and no other.
use Rattle.std.specs.Prelude.{◌≡◌, true, List, ◌⊎◌, ℕ, ◌<◌, length, get_or, ℤ}
use Rattle.rules.specs.Grid.{neighbour}
use Rattle.rules.specs.Board.{face_at, mine_at}
use Rattle.rules.specs.Opening.{closed_at, Opened}
use Rattle.opening.specs.Changed.{In}

-- a given closed cell is reached, and so is a closed neighbour of a 0 that is
pub data Reached (B : List ℤ) (R C : ℕ) (given shown : List ℕ) : ℕ → Type 0 where
  start : {q : ℕ} → In q given → closed_at shown q ≡ true → Reached B R C given shown q
  spread : {c q : ℕ} (k : ℕ) → Reached B R C given shown c → face_at B c ≡ 0 → k < 8 → q ≡ neighbour R C c k → closed_at shown q ≡ true → Reached B R C given shown q

-- a cell shows the same, or went from closed to its face
abbrev pub Opens : List ℤ → List ℕ → List ℕ → ℕ → Type 0
Opens B shown shown' i = (get_or shown' i 0 ≡ get_or shown i 0) ⊎ ((get_or shown i 0 ≡ 10) × (get_or shown' i 0 ≡ face_at B i))

-- exactly the reached cells show their faces, and a mine is hit exactly if one of them is a mine
pub record Exact (B : List ℤ) (R C : ℕ) (given shown : List ℕ) (o : Opened) : Type 0 where
  pub long : length o.shown ≡ length shown
  pub opens : (i : ℕ) → Opens B shown o.shown i
  pub sound : (i : ℕ) → get_or shown i 0 ≡ 10 → get_or o.shown i 0 ≡ face_at B i → Reached B R C given shown i
  pub whole : (i : ℕ) → Reached B R C given shown i → get_or o.shown i 0 ≡ face_at B i
  pub struck : o.hit ≡ true → (i : ℕ) × (Reached B R C given shown i × (mine_at B i ≡ true))
  pub hits : (i : ℕ) → Reached B R C given shown i → mine_at B i ≡ true → o.hit ≡ true
