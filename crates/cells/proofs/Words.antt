-- Laws of the words: tests and choices, counting and testing below a number, rounds, and stacks in the first entries of a list.
use mathlib.Core.Path.{◌≡◌, refl, ap, ap₂, sym, ◌∙◌}
use mathlib.Core.Bool.{Bool, true, false, true≢false, false≢true, ◌&&◌, ◌||◌}
use mathlib.Core.List.{List, [], ◌∷◌}
use Prim.Native.Nat.{ℕ, zero, suc, ◌+◌, ◌*◌, ◌<◌, ◌≤◌}
use native.Mathlib.Nat.{mul-le-mul}
use native.Mathlib.Omega.{arith}
use native.Mathlib.Numerals.{add-one}
use native.Mathlib.Decide.{ℕ_discrete}
use borrow.Author.Tests.{le-leb}
use mir.Val.{bool_byte}
use lib.Dec.{leb}
use lib.ListN.{length, get_or, set, length-append}
use lib.Seq.{get_or-set_same, get_or-set_other}
use Rattle.rules.specs.Words.{pick, unless, bit, count, every, in_order, stack_of, rounds}
use Rattle.cells.specs.Ground.{Below}

-- ---- tests and choices -----------------------------------------------------------------------------------------------------------------

pub and_left : (a b : Bool) → (a && b) ≡ true → a ≡ true
and_left true b e = refl
and_left false b e = e

pub false_unless : (b : Bool) → (b ≡ true → ⊥) → b ≡ false
false_unless true n = absurd (n refl)
false_unless false n = refl

pub and_right : (a b : Bool) → (a && b) ≡ true → b ≡ true
and_right true b e = e
and_right false b e = absurd (false≢true e)

pub and_both : (a b : Bool) → a ≡ true → b ≡ true → (a && b) ≡ true
and_both true b e d = d
and_both false b e d = absurd (false≢true e)

pub bit_le : (b : Bool) → bit b ≤ 1
bit_le true = omega arith
bit_le false = omega arith

-- a yes or no as a number is its bit
pub byte_bit : (b : Bool) {n : ℕ} → n ≡ bool_byte b → (n ≡ bit b) × (n ≤ 1)
byte_bit true e = (e, omega arith)
byte_bit false e = (e, omega arith)

pub is_bit : (b : Bool) {n : ℕ} → n ≡ bit b → n ≤ 1
is_bit b e = rw e (bit_le b)

-- two things that equal a third
pub one : {A : Type 0} {x y o : A} → x ≡ o → y ≡ o → x ≡ y
one h k = h ∙ sym k

-- a choice has what both its sides have
pub pick_both : {A : Type 0} (P : A → Type 0) (b : Bool) (x y : A) → (b ≡ true → P x) → (b ≡ false → P y) → P (pick b x y)
pick_both P true x y f g = f refl
pick_both P false x y f g = g refl

pub pick_le : (b : Bool) (x y m : ℕ) → (b ≡ true → x ≤ m) → (b ≡ false → y ≤ m) → pick b x y ≤ m
pick_le b x y m f g = pick_both (λ n. n ≤ m) b x y f g

-- a chain of refusals that gives 0 passed its first test, and the rest gives 0
pub unless_passed : (n : ℕ) (b : Bool) (rest : ℕ) → unless (suc n) b rest ≡ 0 → (b ≡ true) × (rest ≡ 0)
unless_passed n true rest e = (refl, e)
unless_passed n false rest e = absurd (omega arith)

-- ---- counting --------------------------------------------------------------------------------------------------------------------------

-- one number more
pub count_turn : (f : ℕ → Bool) (k n one : ℕ) → n ≡ count f k → one ≡ bit (f k) → n + one ≡ count f (k + 1)
unfolding count
count_turn f k n one e d = rw (add-one k) (cc)

-- whether some number passes, one turn on
pub some_turn : (f : ℕ → Bool) (k : ℕ) (any b : Bool) → any ≡ leb 1 (count f k) → b ≡ f k → (any || b) ≡ leb 1 (count f (k + 1))
unfolding count
some_turn f k any b e d = rw (add-one k, e, d) (go (count f k) (f k))
  where
    or-true : (a : Bool) → (a || true) ≡ true
    or-true true = refl
    or-true false = refl

    or_false : (a : Bool) → (a || false) ≡ a
    or_false true = refl
    or_false false = refl

    go : (n : ℕ) (x : Bool) → (leb 1 n || x) ≡ leb 1 (n + bit x)
    go n true = or-true (leb 1 n) ∙ sym (le-leb 1 (n + 1) (omega arith))
    go n false = let z : n ≡ n + 0 = omega arith in or_false (leb 1 n) ∙ ap (leb 1) z

pub count_le : (f : ℕ → Bool) (n : ℕ) → count f n ≤ n
unfolding count
count_le f zero = omega arith
count_le f (suc n) = let a = count_le f n in let b = bit_le (f n) in omega arith

-- tests that agree below n count the same
pub count_same : (f g : ℕ → Bool) (n : ℕ) → ((i : ℕ) → i < n → f i ≡ g i) → count f n ≡ count g n
unfolding count
count_same f g zero h = refl
count_same f g (suc n) h =
    ap₂ (λ (a b : ℕ). a + b) (count_same f g n (λ i l. h i (omega arith))) (ap bit (h n (omega arith)))

-- where one implies the other it counts no more
bit_mono : (a b : Bool) → (a ≡ true → b ≡ true) → bit a ≤ bit b
bit_mono true true h = omega arith
bit_mono true false h = absurd (false≢true (h refl))
bit_mono false b h = omega arith

pub count_mono : (f g : ℕ → Bool) (n : ℕ) → ((i : ℕ) → i < n → f i ≡ true → g i ≡ true) → count f n ≤ count g n
unfolding count
count_mono f g zero h = omega arith
count_mono f g (suc n) h =
    let a = count_mono f g n (λ i l. h i (omega arith)) in
    let b = bit_mono (f n) (g n) (h n (omega arith)) in
    omega arith

-- none counted, none there
pub count_none : (f : ℕ → Bool) (n : ℕ) → count f n ≡ 0 → (i : ℕ) → i < n → f i ≡ false
unfolding count
count_none f zero e i h = absurd (omega arith)
count_none f (suc n) e i h = go (ℕ_discrete i n) (count_none f n (omega arith) i)
  where
    bit_zero : (b : Bool) → bit b ≡ 0 → b ≡ false
    bit_zero true d = absurd (omega arith)
    bit_zero false d = refl

    go : Dec (i ≡ n) → (i < n → f i ≡ false) → f i ≡ false
    go (yes d) rec = ap f d ∙ bit_zero (f n) (omega arith)
    go (no d) rec = rec (omega arith)

pub count_zero : (f : ℕ → Bool) (n : ℕ) → ((i : ℕ) → i < n → f i ≡ false) → count f n ≡ 0
unfolding count
count_zero f zero h = refl
count_zero f (suc n) h =
    let a = count_zero f n (λ i l. h i (omega arith)) in
    let b : bit (f n) ≡ 0 = ap bit (h n (omega arith)) in
    omega arith

-- one there, one counted
pub count_some : (f : ℕ → Bool) (n i : ℕ) → i < n → f i ≡ true → 1 ≤ count f n
unfolding count
count_some f zero i h e = absurd (omega arith)
count_some f (suc n) i h e = go (ℕ_discrete i n) (λ l. count_some f n i l e)
  where
    go : Dec (i ≡ n) → (i < n → 1 ≤ count f n) → 1 ≤ count f n + bit (f n)
    go (yes d) rec = let b : bit (f n) ≡ 1 = ap bit (ap f (sym d) ∙ e) in omega arith
    go (no d) rec = let a = rec (omega arith) in omega arith

-- two tests that differ at i alone
module _ (f g : ℕ → Bool) (i : ℕ) (off : (j : ℕ) → (j ≡ i → ⊥) → g j ≡ f j) where
  before : (n : ℕ) → n ≤ i → count g n ≡ count f n
  before n h = count_same g f n (λ j l. off j (λ q. omega arith))

  change_by : (n : ℕ) → i < suc n → Dec (i ≡ n) → (i < n → count g n + bit (f i) ≡ count f n + bit (g i)) → count g n + bit (g n) + bit (f i) ≡ count f n + bit (f n) + bit (g i)
  change_by n h (yes e) rec =
      let a = before n (omega arith) in
      let u : bit (g n) ≡ bit (g i) = ap (λ (j : ℕ). bit (g j)) (sym e) in
      let v : bit (f n) ≡ bit (f i) = ap (λ (j : ℕ). bit (f j)) (sym e) in
      omega arith
  change_by n h (no e) rec =
      let a = rec (omega arith) in
      let u : bit (g n) ≡ bit (f n) = ap bit (off n (λ q. e (sym q))) in
      omega arith

  pub count_change : (n : ℕ) → i < n → count g n + bit (f i) ≡ count f n + bit (g i)
  unfolding count
  count_change zero h = absurd (omega arith)
  count_change (suc n) h = change_by n h (ℕ_discrete i n) (count_change n)

-- ---- testing every number --------------------------------------------------------------------------------------------------------------

pub every_at : (f : ℕ → Bool) (n : ℕ) → every f n ≡ true → (i : ℕ) → i < n → f i ≡ true
unfolding every
every_at f zero e i h = absurd (omega arith)
every_at f (suc n) e i h = go (ℕ_discrete i n) (every_at f n (and_left (every f n) (f n) e) i)
  where
    go : Dec (i ≡ n) → (i < n → f i ≡ true) → f i ≡ true
    go (yes d) rec = ap f d ∙ and_right (every f n) (f n) e
    go (no d) rec = rec (omega arith)

pub every_all : (f : ℕ → Bool) (n : ℕ) → ((i : ℕ) → i < n → f i ≡ true) → every f n ≡ true
unfolding every
every_all f zero h = refl
every_all f (suc n) h = and_both (every f n) (f n) (every_all f n (λ i l. h i (omega arith))) (h n (omega arith))

pub every_same : (f g : ℕ → Bool) (n : ℕ) → ((i : ℕ) → i < n → f i ≡ g i) → every f n ≡ every g n
unfolding every
every_same f g zero h = refl
every_same f g (suc n) h = ap₂ (λ (a b : Bool). a && b) (every_same f g n (λ i l. h i (omega arith))) (h n (omega arith))

-- one that fails, all fail
pub every_fails : (f : ℕ → Bool) (n i : ℕ) → i < n → f i ≡ false → every f n ≡ false
every_fails f n i h e = go (every f n) refl
  where
    go : (b : Bool) → every f n ≡ b → every f n ≡ false
    go true d = absurd (true≢false (sym (every_at f n d i h) ∙ e))
    go false d = d

-- a loop that stops at the first failure: one number more passed
pub every_turn : (f : ℕ → Bool) (k : ℕ) → every f k ≡ true → f k ≡ true → every f (k + 1) ≡ true
unfolding every
every_turn f k e d = rw (add-one k) (and_both (every f k) (f k) e d)

-- a loop without a branch: one number more tested
pub every_more : (f : ℕ → Bool) (k : ℕ) (all one : Bool) → all ≡ every f k → one ≡ f k → (all && one) ≡ every f (k + 1)
unfolding every
every_more f k all one e d = rw (add-one k) (ap₂ (λ (a b : Bool). a && b) e d)

-- ---- lists in order --------------------------------------------------------------------------------------------------------------------

pub in_order_length : {A : Type 0} (f : ℕ → A) (n : ℕ) → length (in_order f n) ≡ n
unfolding in_order
in_order_length f zero = refl
in_order_length f (suc n) = let a = in_order_length f n in let b = length-append (in_order f n) (f n ∷ []) in omega arith

-- ---- stacks ----------------------------------------------------------------------------------------------------------------------------

-- a store at or above the top is not seen
pub stack_above : (w : List ℕ) (i v n : ℕ) → n ≤ i → stack_of (set w i v) n ≡ stack_of w n
unfolding stack_of
stack_above w i v zero h = refl
stack_above w i v (suc n) h =
    ap₂ (λ (x : ℕ) (l : List ℕ). x ∷ l) (get_or-set_other w i n v 0 (λ (e : n ≡ i). omega arith)) (stack_above w i v n (omega arith))

pub stack_push : (w : List ℕ) (t q : ℕ) → t < length w → stack_of (set w t q) (t + 1) ≡ q ∷ stack_of w t
unfolding stack_of
stack_push w t q h = rw (add-one t) (ap₂ (λ (x : ℕ) (l : List ℕ). x ∷ l) (get_or-set_same w t q 0 h) (stack_above w t q t (omega arith)))

pub stack_length : (w : List ℕ) (n : ℕ) → length (stack_of w n) ≡ n
unfolding stack_of
stack_length w zero = refl
stack_length w (suc n) = ap suc (stack_length w n)

-- lists that agree below n have the same stack
pub stack_same : (w w' : List ℕ) (n : ℕ) → ((i : ℕ) → i < n → get_or w i 0 ≡ get_or w' i 0) → stack_of w n ≡ stack_of w' n
unfolding stack_of
stack_same w w' zero h = refl
stack_same w w' (suc n) h = ap₂ (λ (x : ℕ) (l : List ℕ). x ∷ l) (h n (omega arith)) (stack_same w w' n (λ i l. h i (omega arith)))

-- the entries of a stack of cells are cells
pub stack_below : (m : ℕ) (w : List ℕ) (n : ℕ) → Below m (stack_of w n) → (i : ℕ) → i < n → get_or w i 0 < m
unfolding stack_of
stack_below m w zero b i h = absurd (omega arith)
stack_below m w (suc n) b i h = go (ℕ_discrete i n) (stack_below m w n b.1 i)
  where
    go : Dec (i ≡ n) → (i < n → get_or w i 0 < m) → get_or w i 0 < m
    go (yes d) rec = rw d b.0
    go (no d) rec = rec (omega arith)

pub below_stack : (m : ℕ) (w : List ℕ) (n : ℕ) → ((i : ℕ) → i < n → get_or w i 0 < m) → Below m (stack_of w n)
unfolding stack_of
below_stack m w zero h = tt
below_stack m w (suc n) h = (h n (omega arith), below_stack m w n (λ i l. h i (omega arith)))

-- the entries of a list of cells are cells
pub below_at : (m : ℕ) (w : List ℕ) → Below m w → (i : ℕ) → i < length w → get_or w i 0 < m
below_at m [] b i h = absurd (omega arith)
below_at m (x ∷ w) b zero h = b.0
below_at m (x ∷ w) b (suc i) h = below_at m w b.1 i (omega arith)

pub below_list : (m : ℕ) (w : List ℕ) → ((i : ℕ) → i < length w → get_or w i 0 < m) → Below m w
below_list m [] h = tt
below_list m (x ∷ w) h = (h 0 (omega arith), below_list m w (λ i l. h (suc i) (omega arith)))

-- ---- rounds ----------------------------------------------------------------------------------------------------------------------------

module _ {A : Type 0} (step : A → A) (more : A → Bool) where
  -- one round
  pub rounds_turn : (f : ℕ) (s : A) → rounds step more (suc f) s ≡ pick (more (step s)) (rounds step more f (step s)) (step s)
  unfolding rounds
  rounds_turn f s = refl

  -- what a step keeps, the rounds keep
  pub rounds_keep : (P : A → Type 0) → ((s : A) → P s → P (step s)) → (f : ℕ) (s : A) → P s → P (rounds step more f s)
  unfolding rounds
  rounds_keep P k zero s p = p
  rounds_keep P k (suc f) s p =
      pick_both P (more (step s)) (rounds step more f (step s)) (step s) (λ e. rounds_keep P k f (step s) (k s p)) (λ e. k s p)

  -- what holds after a step holds after the rounds: there is at least one
  pub rounds_end : (P Q : A → Type 0) → ((s : A) → P s → P (step s) × Q (step s)) → (f : ℕ) (s : A) → P s → Q (rounds step more (suc f) s)
  unfolding rounds
  rounds_end P Q k zero s p = pick_both Q (more (step s)) (step s) (step s) (λ e. (k s p).1) (λ e. (k s p).1)
  rounds_end P Q k (suc f) s p =
      pick_both Q (more (step s)) (rounds step more (suc f) (step s)) (step s) (λ e. rounds_end P Q k f (step s) (k s p).0) (λ e. (k s p).1)

  -- THE LOOP: the code keeps a yes or no, `go`; from here on the rounds lead to the outcome, and enough are left
  module _ (size : A → ℕ) (P : A → Type 0) where
    pub record Looping (total : A) (go : Bool) (s : A) : Type 0 where
      pub fuel : ℕ
      pub same : pick go (rounds step more fuel s) s ≡ total
      pub enough : go ≡ true → size s < fuel
      pub fine : P s

    abbrev pub left : Bool → A → ℕ
    left go s = pick go (suc (size s)) 0

  module _ (size : A → ℕ) (P : A → Type 0) (keep : (s : A) → P s → P (step s)) (less : (s : A) → P s → more (step s) ≡ true → size (step s) < size s) where
    -- as many rounds as the size, and one: more change nothing
    pub rounds_enough : (f g : ℕ) (s : A) → P s → size s < f → size s < g → rounds step more f s ≡ rounds step more g s
    unfolding rounds
    rounds_enough zero g s p h k = absurd (omega arith)
    rounds_enough (suc f) zero s p h k = absurd (omega arith)
    rounds_enough (suc f) (suc g) s p h k = go (more (step s)) refl (λ e. let l = less s p e in rounds_enough f g (step s) (keep s p) (omega arith) (omega arith))
      where
        go : (b : Bool) → more (step s) ≡ b → (more (step s) ≡ true → rounds step more f (step s) ≡ rounds step more g (step s))
            → pick b (rounds step more f (step s)) (step s) ≡ pick b (rounds step more g (step s)) (step s)
        go true e rec = rec e
        go false e rec = refl

    -- with enough rounds, the last one said that there is no more to do
    pub rounds_over : (f : ℕ) (s : A) → P s → size s < f → more (rounds step more f s) ≡ false
    unfolding rounds
    rounds_over zero s p h = absurd (omega arith)
    rounds_over (suc f) s p h =
        pick_both (λ t. more t ≡ false) (more (step s)) (rounds step more f (step s)) (step s) (λ e. let l = less s p e in rounds_over f (step s) (keep s p) (omega arith)) (λ e. e)

    pub looping_start : (f : ℕ) (s : A) → P s → size s < f → Looping size P (rounds step more f s) true s
    looping_start f s p h = record { fuel = f; same = refl; enough = λ e. h; fine = p }

    next : (total : A) (s : A) (f : ℕ) → rounds step more f s ≡ total → size s < f → P s → Looping size P total (more (step s)) (step s)
    next total s zero e h p = absurd (omega arith)
    next total s (suc f) e h p =
        record { fuel = f; same = sym (rounds_turn f s) ∙ e; enough = λ m. let l = less s p m in omega arith; fine = keep s p }

    pub looping_turn : (total : A) (go : Bool) (s : A) → Looping size P total go s → go ≡ true → (go' : Bool) (s' : A) → s' ≡ step s → go' ≡ more s' → Looping size P total go' s'
    looping_turn total go s l e go' s' d m =
        rw (m ∙ ap more d, d) (next total s l.fuel (ap (λ (b : Bool). pick b (rounds step more l.fuel s) s) (sym e) ∙ l.same) (l.enough e) l.fine)

    left_less : (b : Bool) (n : ℕ) (s : A) → (b ≡ true → size s < n) → left size P b s < suc n
    left_less true n s h = let l = h refl in omega arith
    left_less false n s h = omega arith

    pub looping_less : (total : A) (go : Bool) (s : A) → Looping size P total go s → go ≡ true → (go' : Bool) (s' : A) → s' ≡ step s → go' ≡ more s' → left size P go' s' < left size P go s
    looping_less total go s l e go' s' d m = rw (m ∙ ap more d, d, e) (left_less (more (step s)) (size s) (step s) (λ h. less s l.fine h))

    pub looping_done : (total : A) (go : Bool) (s : A) → Looping size P total go s → go ≡ false → s ≡ total
    looping_done total go s l e = ap (λ (b : Bool). pick b (rounds step more l.fuel s) s) (sym e) ∙ l.same

-- ---- bytes -----------------------------------------------------------------------------------------------------------------------------

pub bytes_product : (a b : ℕ) → a < 256 → b < 256 → a * b ≤ 65025
bytes_product a b ha hb = mul-le-mul {n₁ = a} {m₁ = b} {n₂ = 255} {m₂ = 255} (omega arith) (omega arith)

-- a product of numbers as the code widens them
pub product_same : {a b r c : ℕ} → a ≡ r → b ≡ c → a * b ≡ r * c
product_same e d = cc
