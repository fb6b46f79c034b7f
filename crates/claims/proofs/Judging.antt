-- The section and the claims by cases: one equation for each way that the reader and the comparison go.
use mathlib.Core.Path.{◌≡◌, ◌∙◌, sym, ap, refl}
use mathlib.Core.Bool.{Bool, true}
use mathlib.Core.List.{List}
use Prim.Native.Nat.{ℕ, ◌+◌, ◌*◌, ◌<◌, ◌≤◌}
use native.Mathlib.Omega.{arith}
use borrow.Author.Tests.{le-leb, lt-leb, eq-eqb, ne_eqb, lt-ltb, le-ltb}
use lib.ListN.{length, get_or}
use Rattle.rules.specs.declared.Book.{Book}
use Rattle.rules.specs.Words.{pick, every, first_not}
use Rattle.rules.specs.Book.{byte_at, refused_book, sections_of, events_end, book_ends}
use Rattle.cells.proofs.Words.{every_turn}
use Rattle.cells.proofs.Firsts.{first_none, first_at}
use Rattle.rules.specs.declared.Verdict.TheVariants.{Accepted, ClaimDiffers}
use Rattle.rules.specs.Claims.{claims_section, claimed_book_of, long_at, claim_at, agrees, differing, claims_judged}

-- ---- the section -----------------------------------------------------------------------------------------------------------------------

module _ (s : List ℕ) (at : ℕ) (b : Book) where
  pub section_none : length s < at + 1 → claims_section s at b ≡ refused_book 40 (length s)
  unfolding claims_section
  section_none h = simp (lt-leb _ _ h)

  module _ (some : at + 1 ≤ length s) where
    pub section_count : (byte_at s at ≡ 9 → ⊥) → claims_section s at b ≡ refused_book 80 at
    unfolding claims_section
    section_count n = simp (le-leb _ _ some, ne_eqb _ _ n)

    module _ (nine : byte_at s at ≡ 9) where
      pub section_short : length s < at + 38 → claims_section s at b ≡ refused_book 40 (length s)
      unfolding claims_section
      section_short h = simp (le-leb _ _ some, eq-eqb _ _ nine, lt-leb _ _ h)

      pub section_there : at + 38 ≤ length s → claims_section s at b ≡ book_ends s (at + 38) b
      unfolding claims_section
      section_there h = simp (le-leb _ _ some, eq-eqb _ _ nine, le-leb _ _ h)

module _ (s : List ℕ) (b : Book) (e : b ≡ sections_of s) where
  pub claimed_refused : (b.number ≡ 0 → ⊥) → b ≡ claimed_book_of s
  unfolding claimed_book_of
  claimed_refused n =
      e ∙ ap (λ (t : Bool). pick t (claims_section s (events_end (sections_of s)) (sections_of s)) (sections_of s))
      (sym (ne_eqb _ _ (λ (z : (sections_of s).number ≡ 0). n (ap (λ (x : Book). x.number) e ∙ z))))

  pub claimed_read : b.number ≡ 0 → claims_section s (events_end b) b ≡ claimed_book_of s
  unfolding claimed_book_of
  claimed_read z =
      ap (λ (x : Book). claims_section s (events_end x) x) e
      ∙ ap (λ (t : Bool). pick t (claims_section s (events_end (sections_of s)) (sections_of s)) (sections_of s))
      (sym (eq-eqb _ _ (sym (ap (λ (x : Book). x.number) e) ∙ z)))

-- ---- the claims ------------------------------------------------------------------------------------------------------------------------

pub long_made : (s : List ℕ) (at : ℕ) {a b c d : ℕ} → a ≡ byte_at s at → b ≡ byte_at s (at + 1) → c ≡ byte_at s (at + 2) → d ≡ byte_at s (at + 3)
    → a + 256 * b + 65536 * (c + 256 * d) ≡ long_at s at
long_made s at ea eb ec ed =
    let place : at + 3 ≡ at + 2 + 1 = omega arith in
    let last = ed ∙ ap (byte_at s) place in
    omega arith

pub claim_count : (s : List ℕ) (at i : ℕ) → i < 9 → long_at s (at + 1 + 4 * i) ≡ claim_at s at i
unfolding claim_at
claim_count s at i h = sym (simp (lt-ltb _ _ h))

pub claim_state : (s : List ℕ) (at i : ℕ) → 9 ≤ i → byte_at s (at + 37) ≡ claim_at s at i
unfolding claim_at
claim_state s at i h = sym (simp (le-ltb _ _ h))

-- the loop: the claims before i agree
pub record Agreed (s : List ℕ) (at : ℕ) (values : List ℕ) (i : ℕ) : Type 0 where
  pub upto : i ≤ 10
  pub all : every (agrees s at values) i ≡ true

module _ (s : List ℕ) (at : ℕ) (values : List ℕ) where
  pub agreed_start : Agreed s at values 0
  unfolding every
  agreed_start = record { upto = omega arith; all = refl }

  module _ {i : ℕ} (h : Agreed s at values i) where
    pub agreed_turn : i < 10 → {says is : ℕ} → says ≡ claim_at s at i → is ≡ get_or values i 0 → says ≡ is → Agreed s at values (i + 1)
    agreed_turn l a b e = record { upto = omega arith; all = every_turn (agrees s at values) i h.all (eq-eqb _ _ (sym a ∙ e ∙ b)) }

    pub agreed_differs : i < 10 → {says is : ℕ} → says ≡ claim_at s at i → is ≡ get_or values i 0 → (says ≡ is → ⊥)
        → ClaimDiffers (i + 1) says is ≡ claims_judged s at values
    unfolding claims_judged
    agreed_differs l a b n =
        let found : first_not (agrees s at values) 10 ≡ i =
        first_at (agrees s at values) 10 i l h.all (ne_eqb _ _ (λ (q : claim_at s at i ≡ get_or values i 0). n (a ∙ q ∙ sym b))) in
        let inside : i ≡ 10 → ⊥ = λ q. omega arith in
        let told : differing s at values i ≡ ClaimDiffers (i + 1) (claim_at s at i) (get_or values i 0) = simp (ne_eqb _ _ inside) in
        rw (a, b) (sym told ∙ ap (differing s at values) (sym found))

    pub agreed_done : 10 ≤ i → Accepted ≡ claims_judged s at values
    unfolding claims_judged
    agreed_done l =
        let u = h.upto in
        let ten : i ≡ 10 = omega arith in
        let none : first_not (agrees s at values) 10 ≡ 10 = first_none (agrees s at values) 10 (ap (every (agrees s at values)) (sym ten) ∙ h.all) in
        sym (ap (differing s at values) none)
