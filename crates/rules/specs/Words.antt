-- The words that the chapters share: a choice, a refusal, counting, testing and searching below a number, rounds, lists made in order.
use Rattle.std.specs.Prelude.{Bool, true, false, ◌&&◌, List, [], ◌∷◌, ◌++◌, ℕ, zero, suc, ◌+◌, length, get_or, drop}

-- the first where the test holds, else the second
abbrev pub pick : {A : Type 0} → Bool → A → A → A
pick true a b = a
pick false a b = b

-- refusal n unless the test holds, else the rest
abbrev pub unless : ℕ → Bool → ℕ → ℕ
unless n true rest = rest
unless n false rest = n

-- 1 for yes, 0 for no
abbrev pub bit : Bool → ℕ
bit true = 1
bit false = 0

-- how many numbers below n pass a test
unfoldable pub count : (ℕ → Bool) → ℕ → ℕ
count f zero = 0
count f (suc n) = count f n + bit (f n)

-- every number below n passes a test
unfoldable pub every : (ℕ → Bool) → ℕ → Bool
every f zero = true
every f (suc n) = every f n && f n

-- the first number below n that fails a test, or n
unfoldable pub first_not : (ℕ → Bool) → ℕ → ℕ
first_not f zero = 0
first_not f (suc n) = pick (every f n) (n + bit (f n)) (first_not f n)

-- the values at 0 to n - 1, in order
unfoldable pub in_order : {A : Type 0} → (ℕ → A) → ℕ → List A
in_order f zero = []
in_order f (suc n) = in_order f n ++ (f n ∷ [])

-- a list written over the front of another, whose rest stays
abbrev pub over : {A : Type 0} → List A → List A → List A
over front l = front ++ drop (length front) l

-- the first n entries of a list as a stack, the last of them on top
unfoldable pub stack_of : List ℕ → ℕ → List ℕ
stack_of w zero = []
stack_of w (suc n) = get_or w n 0 ∷ stack_of w n

-- a step, and again while the last one says that there is more to do, at most so many times
unfoldable pub rounds : {A : Type 0} → (A → A) → (A → Bool) → ℕ → A → A
rounds step more zero s = s
rounds step more (suc f) s =
    let t = step s in
    let again = rounds step more f t in
    pick (more t) again t
