-- Laws of opening: what it may do to a cell, that it opens the given cells, and when a mine is hit.
use mathlib.Core.Path.{◌≡◌, refl, ap, sym, ◌∙◌}
use mathlib.Core.Bool.{Bool, true, false, not, ◌&&◌, ◌||◌, false≢true}
use mathlib.Core.List.{List, [], ◌∷◌}
use mathlib.Core.Logic.{◌⊎◌, inl, inr, ⊎_elim}
use Prim.Native.Nat.{ℕ, zero, suc, ◌+◌, ◌*◌, ◌<◌, ◌≤◌}
use native.Mathlib.Omega.{arith}
use borrow.Author.Tests.{eqb-true, eqb-false, eq-eqb, ne_eqb, le-leb}
use lib.Dec.{eqb}
use lib.ListN.{length, get_or, set, length-set}
use lib.Seq.{get_or-set_same, get_or-set_other}
use lib.IntN.{ℤ}
use Rattle.rules.specs.Words.{pick, bit, count}
use Rattle.rules.specs.Grid.{neighbour, around}
use Rattle.rules.specs.Board.{face_at, mine_at, number_ok, numbers_ok}
use Rattle.rules.specs.Opening.{closed_at, shown_after, stack_after, hit_after, run, turns, Opened, wrong_flag, crossed, crossed_if_hit, refreshed, count_shown, is_open}
use Rattle.rules.specs.Lawful.{shows, is_open_or_hit, is_flag}
use Rattle.opening.specs.Changed.{In, Changed, kept, opened, wrong}
use Rattle.opening.specs.Reach.{Opens}
use Rattle.cells.specs.Ground.{Valued}
use Rattle.cells.proofs.Words.{every_at, count_none, count_same}
use Rattle.opening.proofs.Lists.{count_less, count_sum, in_pushed, all_pushed}
use Rattle.opening.proofs.Cases.{closed_in, shown_open, shown_shut, stack_zero, stack_number, stack_shut, hit_mine, hit_safe, hit_shut, hit_stays}
use Rattle.opening.proofs.Cost.{face_range, face_ne, closed_most, cheaper, length_after}

-- ---- a turn, and the run of the stack -----------------------------------------------------------------------------------------------------

module _ (B : List ℤ) (shown : List ℕ) (c : ℕ) where
  pub after_opens : closed_at shown c ≡ true → get_or (shown_after B shown c) c 0 ≡ face_at B c
  after_opens e = ap (λ (l : List ℕ). get_or l c 0) (shown_open B 0 0 shown c e) ∙ get_or-set_same shown c (face_at B c) 0 (closed_in shown c e)

  pub after_other : (i : ℕ) → (i ≡ c → ⊥) → get_or (shown_after B shown c) i 0 ≡ get_or shown i 0
  after_other i n = go (closed_at shown c) refl
    where
      go : (b : Bool) → closed_at shown c ≡ b → get_or (shown_after B shown c) i 0 ≡ get_or shown i 0
      go true e = ap (λ (l : List ℕ). get_or l i 0) (shown_open B 0 0 shown c e) ∙ get_or-set_other shown c i (face_at B c) 0 n
      go false e = ap (λ (l : List ℕ). get_or l i 0) (shown_shut B 0 0 shown c e)

  pub turn_opens : (i : ℕ) → Opens B shown (shown_after B shown c) i
  turn_opens i = go (eqb i c) (closed_at shown c) refl refl
    where
      go : (a b : Bool) → eqb i c ≡ a → closed_at shown c ≡ b → Opens B shown (shown_after B shown c) i
      go true true d e = rw (eqb-true i c d) (inr (eqb-true _ _ e, after_opens e))
      go true false d e = inl (ap (λ (l : List ℕ). get_or l i 0) (shown_shut B 0 0 shown c e))
      go false b d e = inl (after_other i (eqb-false i c d))

pub opens_join : (B : List ℤ) (s s' s'' : List ℕ) (i : ℕ) → Opens B s s' i → Opens B s' s'' i → Opens B s s'' i
opens_join B s s' s'' i (inl p) (inl q) = inl (q ∙ p)
opens_join B s s' s'' i (inl p) (inr q) = inr (sym p ∙ q.0, q.1)
opens_join B s s' s'' i (inr p) (inl q) = inr (p.0, q ∙ p.1)
opens_join B s s' s'' i (inr p) (inr q) = inr (p.0, q.1)

pub run_opens : (B : List ℤ) (R C f : ℕ) (st shown : List ℕ) (hit : Bool) (i : ℕ) → Opens B shown (run B R C f st shown hit).shown i
unfolding run
run_opens B R C zero st shown hit i = inl refl
run_opens B R C (suc f) [] shown hit i = inl refl
run_opens B R C (suc f) (c ∷ st) shown hit i =
    opens_join B shown (shown_after B shown c) (run B R C f (stack_after B R C shown c st) (shown_after B shown c) (hit_after B shown c hit)).shown i
    (turn_opens B shown c i)
    (run_opens B R C f (stack_after B R C shown c st) (shown_after B shown c) (hit_after B shown c hit) i)

pub run_length : (B : List ℤ) (R C f : ℕ) (st shown : List ℕ) (hit : Bool) → length (run B R C f st shown hit).shown ≡ length shown
unfolding run
run_length B R C zero st shown hit = refl
run_length B R C (suc f) [] shown hit = refl
run_length B R C (suc f) (c ∷ st) shown hit =
    run_length B R C f (stack_after B R C shown c st) (shown_after B shown c) (hit_after B shown c hit) ∙ length_after B shown c

-- ---- wrong flags --------------------------------------------------------------------------------------------------------------------------

pub crossed_length : (B : List ℤ) (n : ℕ) (shown : List ℕ) → length (crossed B n shown) ≡ length shown
unfolding crossed
crossed_length B zero shown = refl
crossed_length B (suc n) shown = length-set (crossed B n shown) n (wrong_flag (face_at B n) (get_or shown n 0)) ∙ crossed_length B n shown

-- a cell shows the same, or went from a flag on a safe cell to a wrong flag
abbrev pub Crosses : List ℤ → List ℕ → List ℕ → ℕ → Type 0
Crosses B shown shown' i = (get_or shown' i 0 ≡ get_or shown i 0) ⊎ ((mine_at B i ≡ false) × ((get_or shown i 0 ≡ 11) × (get_or shown' i 0 ≡ 14)))

pub crossed_crosses : (B : List ℤ) (n : ℕ) (shown : List ℕ) (i : ℕ) → n ≤ length shown → Crosses B shown (crossed B n shown) i
unfolding crossed
crossed_crosses B zero shown i h = inl refl
crossed_crosses B (suc n) shown i h = go (eqb i n) refl (crossed_crosses B n shown i (omega arith))
  where
    at : (f x y : ℕ) (a b : Bool) → eqb x 11 ≡ a → eqb f 15 ≡ b → y ≡ pick (a && not b) 14 x → (y ≡ x) ⊎ ((eqb f 15 ≡ false) × ((x ≡ 11) × (y ≡ 14)))
    at f x y true true d e p = inl p
    at f x y true false d e p = inr (e, (eqb-true _ _ d, p))
    at f x y false b d e p = inl p

    go : (b : Bool) → eqb i n ≡ b → Crosses B shown (crossed B n shown) i → Crosses B shown (set (crossed B n shown) n (wrong_flag (face_at B n) (get_or shown n 0))) i
    go true e rec =
        let room : n < length (crossed B n shown) = rw (crossed_length B n shown) (omega arith) in
        rw (eqb-true i n e) (at (face_at B n) (get_or shown n 0) (get_or (set (crossed B n shown) n (wrong_flag (face_at B n) (get_or shown n 0))) n 0) (eqb (get_or shown n 0) 11) (eqb (face_at B n) 15) refl refl (get_or-set_same (crossed B n shown) n (wrong_flag (face_at B n) (get_or shown n 0)) 0 room))
    go false e rec =
        let k = get_or-set_other (crossed B n shown) n i (wrong_flag (face_at B n) (get_or shown n 0)) 0 (eqb-false i n e) in
        ⊎_elim (λ p. inl (k ∙ p)) (λ p. inr (p.0, (p.1.0, k ∙ p.1.1))) rec

settled_crosses : (B : List ℤ) (o : Opened) (i : ℕ) → (get_or (crossed_if_hit B o).shown i 0 ≡ get_or o.shown i 0) ⊎ ((o.hit ≡ true) × ((mine_at B i ≡ false) × ((get_or o.shown i 0 ≡ 11) × (get_or (crossed_if_hit B o).shown i 0 ≡ 14))))
settled_crosses B o i = go o.hit refl
  where
    go : (b : Bool) → o.hit ≡ b → (get_or (pick b (crossed B (length o.shown) o.shown) o.shown) i 0 ≡ get_or o.shown i 0) ⊎ ((o.hit ≡ true) × ((mine_at B i ≡ false) × ((get_or o.shown i 0 ≡ 11) × (get_or (pick b (crossed B (length o.shown) o.shown) o.shown) i 0 ≡ 14))))
    go true e = ⊎_elim (λ p. inl p) (λ p. inr (e, p)) (crossed_crosses B (length o.shown) o.shown i (omega arith))
    go false e = inl refl

settled_length : (B : List ℤ) (o : Opened) → length (crossed_if_hit B o).shown ≡ length o.shown
settled_length B o = go o.hit
  where
    go : (b : Bool) → length (pick b (crossed B (length o.shown) o.shown) o.shown) ≡ length o.shown
    go true = crossed_length B (length o.shown) o.shown
    go false = refl

-- ---- what a change says -------------------------------------------------------------------------------------------------------------------

module _ {B : List ℤ} {hit : Bool} {i : ℕ} where
  changed_by : (x y z : ℕ) → (y ≡ x) ⊎ ((x ≡ 10) × (y ≡ face_at B i)) → (z ≡ y) ⊎ ((hit ≡ true) × ((mine_at B i ≡ false) × ((y ≡ 11) × (z ≡ 14)))) → (face_at B i ≡ 11 → ⊥)
      → Changed B hit i x z
  changed_by x y z (inl p) (inl q) n = rw (q, p) kept
  changed_by x y z (inr p) (inl q) n = rw (q, p.1, p.0) opened
  changed_by x y z (inl p) (inr q) n = rw (sym p ∙ q.1.1.0, q.1.1.1) (wrong q.0 q.1.0)
  changed_by x y z (inr p) (inr q) n = absurd (n (sym p.1 ∙ q.1.1.0))

  -- what shows neither 10 nor 11 stays as it is
  pub changed_keeps : {x y : ℕ} → Changed B hit i x y → (x ≡ 10 → ⊥) → (x ≡ 11 → ⊥) → y ≡ x
  changed_keeps kept a b = refl
  changed_keeps opened a b = absurd (a refl)
  changed_keeps (wrong h m) a b = absurd (b refl)

  -- where no mine is hit a flag stays too
  pub changed_safe : {x y : ℕ} → Changed B hit i x y → hit ≡ false → (x ≡ 10 → ⊥) → y ≡ x
  changed_safe kept e a = refl
  changed_safe opened e a = absurd (a refl)
  changed_safe (wrong h m) e a = absurd (false≢true (sym e ∙ h))

  -- what is open stays open
  pub changed_open : {x y : ℕ} → Changed B hit i x y → is_open x ≡ true → is_open y ≡ true
  changed_open kept e = e
  changed_open opened e = absurd (false≢true e)
  changed_open (wrong h m) e = absurd (false≢true e)

  -- what shows 10 showed 10
  pub changed_closed : {x y : ℕ} → Changed B hit i x y → y ≡ 10 → x ≡ 10
  changed_closed kept e = e
  changed_closed opened e = refl
  changed_closed (wrong h m) e = absurd (omega arith)

-- ---- opening ------------------------------------------------------------------------------------------------------------------------------

module _ (B : List ℤ) (R C : ℕ) (given shown : List ℕ) where
  pub opening_length : length (refreshed B R C given shown).shown ≡ length shown
  unfolding refreshed
  opening_length = settled_length B (run B R C (turns (R * C)) given shown false) ∙ run_length B R C (turns (R * C)) given shown false

  pub opening_changes : Valued B → (i : ℕ) → Changed B (refreshed B R C given shown).hit i (get_or shown i 0) (get_or (refreshed B R C given shown).shown i 0)
  unfolding refreshed
  opening_changes v i =
      changed_by (get_or shown i 0) (get_or (run B R C (turns (R * C)) given shown false).shown i 0) (get_or (crossed_if_hit B (run B R C (turns (R * C)) given shown false)).shown i 0)
      (run_opens B R C (turns (R * C)) given shown false i) (settled_crosses B (run B R C (turns (R * C)) given shown false) i) (face_ne B v i 11 (omega arith) (omega arith))

  -- a cell that shows neither 10 nor 11 stays as it is
  pub opening_keeps_open : Valued B → (i : ℕ) → (get_or shown i 0 ≡ 10 → ⊥) → (get_or shown i 0 ≡ 11 → ⊥) → get_or (refreshed B R C given shown).shown i 0 ≡ get_or shown i 0
  opening_keeps_open v i a b = changed_keeps (opening_changes v i) a b

-- a mine was hit where a mine shows 15
abbrev Struck : List ℤ → List ℕ → Bool → Type 0
Struck B shown hit = hit ≡ true → (i : ℕ) × ((i < length shown) × ((mine_at B i ≡ true) × (get_or shown i 0 ≡ 15)))

module _ (B : List ℤ) (R C : ℕ) where
  struck_turn : (shown : List ℕ) (c : ℕ) (hit : Bool) → Struck B shown hit → Struck B (shown_after B shown c) (hit_after B shown c hit)
  struck_turn shown c hit s h = go (closed_at shown c) (mine_at B c) refl refl
    where
      long : length (shown_after B shown c) ≡ length shown
      long = length_after B shown c

      before : (i : ℕ) × ((i < length shown) × ((mine_at B i ≡ true) × (get_or shown i 0 ≡ 15)))
          → (i : ℕ) × ((i < length (shown_after B shown c)) × ((mine_at B i ≡ true) × (get_or (shown_after B shown c) i 0 ≡ 15)))
      before p =
          (p.0, (rw long p.1.0, (p.1.1.0, ⊎_elim (λ q. q ∙ p.1.1.1) (λ q. absurd (let a = q.0 in let b = p.1.1.1 in omega arith)) (turn_opens B shown c p.0))))

      go : (a b : Bool) → closed_at shown c ≡ a → mine_at B c ≡ b → (i : ℕ) × ((i < length (shown_after B shown c)) × ((mine_at B i ≡ true) × (get_or (shown_after B shown c) i 0 ≡ 15)))
      go true true d e = (c, (rw long (closed_in shown c d), (e, after_opens B shown c d ∙ eqb-true _ _ e)))
      go true false d e = before (s (sym (hit_safe B R C shown c hit e) ∙ h))
      go false b d e = before (s (sym (hit_shut B R C shown c hit d) ∙ h))

  run_struck : (f : ℕ) (st shown : List ℕ) (hit : Bool) → Struck B shown hit → Struck B (run B R C f st shown hit).shown (run B R C f st shown hit).hit
  unfolding run
  run_struck zero st shown hit s = s
  run_struck (suc f) [] shown hit s = s
  run_struck (suc f) (c ∷ st) shown hit s = run_struck f (stack_after B R C shown c st) (shown_after B shown c) (hit_after B shown c hit) (struck_turn shown c hit s)

  -- a mine that was hit shows 15
  pub opening_hit_shows : (given shown : List ℕ) → (refreshed B R C given shown).hit ≡ true
      → (i : ℕ) × ((i < length shown) × ((mine_at B i ≡ true) × (get_or (refreshed B R C given shown).shown i 0 ≡ 15)))
  unfolding refreshed
  opening_hit_shows given shown h = at (run_struck (turns (R * C)) given shown false (λ e. absurd (false≢true e)) h)
    where
      o : Opened
      o = run B R C (turns (R * C)) given shown false

      at : (i : ℕ) × ((i < length (run B R C (turns (R * C)) given shown false).shown) × ((mine_at B i ≡ true) × (get_or (run B R C (turns (R * C)) given shown false).shown i 0 ≡ 15)))
          → (i : ℕ) × ((i < length shown) × ((mine_at B i ≡ true) × (get_or (crossed_if_hit B (run B R C (turns (R * C)) given shown false)).shown i 0 ≡ 15)))
      at p = (
        p.0,
        (
          rw (run_length B R C (turns (R * C)) given shown false) at p.1.0,
          (
            p.1.1.0,
            ⊎_elim (λ q. q ∙ p.1.1.1) (λ q. absurd (let a = q.1.1.0 in let b = p.1.1.1 in omega arith)) (settled_crosses B (run B R C (turns (R * C)) given shown false) p.0),
          ),
        ),
      )

-- ---- the given cells ----------------------------------------------------------------------------------------------------------------------

pub in_after : (B : List ℤ) (R C : ℕ) (shown : List ℕ) (c : ℕ) (st : List ℕ) (q : ℕ) → In q st → In q (stack_after B R C shown c st)
in_after B R C shown c st q i = go (closed_at shown c) (eqb (face_at B c) 0) refl refl
  where
    go : (a b : Bool) → closed_at shown c ≡ a → eqb (face_at B c) 0 ≡ b → In q (stack_after B R C shown c st)
    go true true e f = rw (stack_zero B R C shown c st e (eqb-true _ _ f)) (in_pushed R C (closed_at (set shown c 0)) c 8 st q i)
    go true false e f = rw (stack_number B R C shown c st (eqb-false _ _ f)) i
    go false b e f = rw (stack_shut B R C shown c st e) i

module _ (B : List ℤ) (R C : ℕ) (v : Valued B) (q : ℕ) where
  -- the cell shows its face, and a mine was hit if it is one
  abbrev pub Face : List ℕ → Bool → Type 0
  Face shown hit = (get_or shown q 0 ≡ face_at B q) × (mine_at B q ≡ true → hit ≡ true)

  -- so it is, or it is closed and on the stack
  abbrev pub Due : List ℕ → List ℕ → Bool → Type 0
  Due st shown hit = Face shown hit ⊎ ((closed_at shown q ≡ true) × In q st)

  due_turn : (c : ℕ) (st shown : List ℕ) (hit : Bool) → Due (c ∷ st) shown hit → Due (stack_after B R C shown c st) (shown_after B shown c) (hit_after B shown c hit)
  due_turn c st shown hit (inl p) = inl (⊎_elim (λ s. s ∙ p.0) (λ o. o.1) (turn_opens B shown c q), λ m. ap (hit_after B shown c) (p.1 m) ∙ hit_stays B shown c)
  due_turn c st shown hit (inr p) = go (eqb q c) refl
    where
      go : (b : Bool) → eqb q c ≡ b → Due (stack_after B R C shown c st) (shown_after B shown c) (hit_after B shown c hit)
      go true e =
          let d = eqb-true q c e in
          let t : closed_at shown c ≡ true = ap (closed_at shown) (sym d) ∙ p.0 in
          rw d (inl (after_opens B shown c t, λ m. hit_mine B R C shown c hit t m))
      go false e =
          let d = eqb-false q c e in
          inr (ap (λ (x : ℕ). eqb x 10) (after_other B shown c q d) ∙ p.0, ⊎_elim (λ i. absurd (d i)) (λ i. in_after B R C shown c st q i) p.1)

  pub run_due : (f : ℕ) (st shown : List ℕ) (hit : Bool) → length st + 8 * count_shown (shows 10) shown ≤ f → Due st shown hit
      → Face (run B R C f st shown hit).shown (run B R C f st shown hit).hit
  unfolding run
  run_due zero [] shown hit h d = ⊎_elim (λ p. p) (λ p. absurd p.1) d
  run_due zero (c ∷ st) shown hit h d = absurd (omega arith)
  run_due (suc f) [] shown hit h d = ⊎_elim (λ p. p) (λ p. absurd p.1) d
  run_due (suc f) (c ∷ st) shown hit h d =
      run_due f (stack_after B R C shown c st) (shown_after B shown c) (hit_after B shown c hit)
      (let ch = cheaper B R C shown c st v in omega (arith, ch.fuel)) (due_turn c st shown hit d)

  module _ (given shown : List ℕ) (long : length shown ≡ R * C) (few : length given ≤ 8) (i : In q given) (closed : closed_at shown q ≡ true) where
    given_face : Face (run B R C (turns (R * C)) given shown false).shown (run B R C (turns (R * C)) given shown false).hit
    given_face = run_due (turns (R * C)) given shown false (let m = closed_most shown in omega arith) (inr (closed, i))

    -- a given cell that was closed shows its face
    pub opening_opens_given : get_or (refreshed B R C given shown).shown q 0 ≡ face_at B q
    unfolding refreshed
    opening_opens_given =
        ⊎_elim (λ p. p ∙ given_face.0) (λ p. absurd (face_ne B v q 11 (omega arith) (omega arith) (sym given_face.0 ∙ p.1.1.0))) (settled_crosses B (run B R C (turns (R * C)) given shown false) q)

    -- and if it is a mine, a mine is hit
    pub opening_hits : mine_at B q ≡ true → (refreshed B R C given shown).hit ≡ true
    unfolding refreshed
    opening_hits m = given_face.1 m

    -- fewer cells are closed afterwards
    pub opening_opens_some : count_shown (shows 10) (refreshed B R C given shown).shown < count_shown (shows 10) shown
    unfolding count_shown
    opening_opens_some =
        let o = opening_opens_given in
        rw (opening_length B R C given shown)
        (count_less (λ j. shows 10 (get_or (refreshed B R C given shown).shown j 0)) (λ j. shows 10 (get_or shown j 0)) (length shown) q (closed_in shown q closed)
        (ne_eqb _ _ (λ e. face_ne B v q 10 (omega arith) (omega arith) (sym o ∙ e))) closed
        (λ j h e. eq-eqb _ _ (changed_closed (opening_changes B R C given shown v j) (eqb-true _ _ e))))

-- ---- no mine is hit -----------------------------------------------------------------------------------------------------------------------

-- a 0 has no mine neighbour
pub zero_safe : (B : List ℤ) (R C : ℕ) → numbers_ok B R C ≡ true → (c : ℕ) → c < length B → face_at B c ≡ 0 → (k : ℕ) → k < 8 → mine_at B (neighbour R C c k) ≡ false
unfolding numbers_ok number_ok around
zero_safe B R C n c h z k lt = count_none (λ j. mine_at B (neighbour R C c j)) 8 (sym (eqb-true _ _ (go (mine_at B c) refl (every_at (number_ok B R C) (length B) n c h))) ∙ z) k lt
  where
    go : (b : Bool) → mine_at B c ≡ b → (b || eqb (face_at B c) (count (λ j. mine_at B (neighbour R C c j)) 8)) ≡ true → eqb (face_at B c) (count (λ j. mine_at B (neighbour R C c j)) 8) ≡ true
    go true e t = absurd (let m = eqb-true (face_at B c) 15 e in omega arith)
    go false e t = t

module _ (B : List ℤ) (R C : ℕ) (v : Valued B) (n : numbers_ok B R C ≡ true) where
  -- no closed cell of the stack is a mine
  abbrev Safe : List ℕ → List ℕ → Type 0
  Safe st shown = (x : ℕ) → In x st → closed_at shown x ≡ true → mine_at B x ≡ false

  safe_turn : (c : ℕ) (st shown : List ℕ) → length B ≡ length shown → Safe (c ∷ st) shown → Safe (stack_after B R C shown c st) (shown_after B shown c)
  safe_turn c st shown long s = go (closed_at shown c) (eqb (face_at B c) 0) refl refl
    where
      below : (x : ℕ) → In x st → closed_at (shown_after B shown c) x ≡ true → mine_at B x ≡ false
      below x i e = s x (inr i) (⊎_elim (λ p. ap (λ (y : ℕ). eqb y 10) (sym p) ∙ e) (λ p. eq-eqb _ _ p.0) (turn_opens B shown c x))

      go : (a b : Bool) → closed_at shown c ≡ a → eqb (face_at B c) 0 ≡ b → Safe (stack_after B R C shown c st) (shown_after B shown c)
      go true true e f =
          rw (stack_zero B R C shown c st e (eqb-true _ _ f))
          (all_pushed R C (closed_at (set shown c 0)) c 8 st (λ x. closed_at (shown_after B shown c) x ≡ true → mine_at B x ≡ false)
          (λ j lt p t. zero_safe B R C n c (rw long (closed_in shown c e)) (eqb-true _ _ f) j lt) below)
      go true false e f = rw (stack_number B R C shown c st (eqb-false _ _ f)) below
      go false b e f = rw (stack_shut B R C shown c st e) below

  hit_turn : (c : ℕ) (st shown : List ℕ) (hit : Bool) → Safe (c ∷ st) shown → hit ≡ false → hit_after B shown c hit ≡ false
  hit_turn c st shown hit s h = go (closed_at shown c) refl
    where
      go : (b : Bool) → closed_at shown c ≡ b → hit_after B shown c hit ≡ false
      go true e = hit_safe B R C shown c hit (s c (inl refl) e) ∙ h
      go false e = hit_shut B R C shown c hit e ∙ h

  run_safe : (f : ℕ) (st shown : List ℕ) (hit : Bool) → length B ≡ length shown → Safe st shown → hit ≡ false → (run B R C f st shown hit).hit ≡ false
  unfolding run
  run_safe zero st shown hit long s h = h
  run_safe (suc f) [] shown hit long s h = h
  run_safe (suc f) (c ∷ st) shown hit long s h =
      run_safe f (stack_after B R C shown c st) (shown_after B shown c) (hit_after B shown c hit) (long ∙ sym (length_after B shown c)) (safe_turn c st shown long s) (hit_turn c st shown hit s h)

  -- where no given closed cell is a mine, none is hit
  pub opening_safe : (given shown : List ℕ) → length B ≡ length shown → ((x : ℕ) → In x given → closed_at shown x ≡ true → mine_at B x ≡ false) → (refreshed B R C given shown).hit ≡ false
  unfolding refreshed
  opening_safe given shown long s = run_safe (turns (R * C)) given shown false long s refl

-- ---- counts -------------------------------------------------------------------------------------------------------------------------------

module _ (B : List ℤ) (v : Valued B) (hit : Bool) (i : ℕ) where
  open_or_hit : is_open_or_hit (face_at B i) ≡ true
  open_or_hit = go (face_range B v i)
    where
      go : (face_at B i ≤ 8) ⊎ (face_at B i ≡ 15) → is_open_or_hit (face_at B i) ≡ true
      go (inl h) = rw (le-leb (face_at B i) 8 h)
      go (inr h) = rw h

  changed_opens : {x y : ℕ} → Changed B hit i x y → bit (is_open_or_hit y) + bit (shows 10 y) ≡ bit (is_open_or_hit x) + bit (shows 10 x)
  changed_opens kept = refl
  changed_opens opened = simp (open_or_hit, ne_eqb (face_at B i) 10 (face_ne B v i 10 (omega arith) (omega arith)))
  changed_opens (wrong h m) = refl

  pub changed_flags : {x y : ℕ} → Changed B hit i x y → is_flag y ≡ is_flag x
  changed_flags kept = refl
  changed_flags opened = simp (ne_eqb (face_at B i) 11 (face_ne B v i 11 (omega arith) (omega arith)), ne_eqb (face_at B i) 14 (face_ne B v i 14 (omega arith) (omega arith)))
  changed_flags (wrong h m) = refl

module _ (B : List ℤ) (R C : ℕ) (given shown : List ℕ) (v : Valued B) where
  -- the cells opened are those closed before less those closed after
  pub opening_counts : count_shown is_open_or_hit (refreshed B R C given shown).shown + count_shown (shows 10) (refreshed B R C given shown).shown
      ≡ count_shown is_open_or_hit shown + count_shown (shows 10) shown
  unfolding count_shown
  opening_counts =
      rw (opening_length B R C given shown)
      (count_sum (λ j. is_open_or_hit (get_or (refreshed B R C given shown).shown j 0)) (λ j. shows 10 (get_or (refreshed B R C given shown).shown j 0))
      (λ j. is_open_or_hit (get_or shown j 0)) (λ j. shows 10 (get_or shown j 0)) (length shown)
      (λ j h. changed_opens B v (refreshed B R C given shown).hit j (opening_changes B R C given shown v j)))

  -- as many cells show 11 or 14 as before
  pub opening_flags : count_shown is_flag (refreshed B R C given shown).shown ≡ count_shown is_flag shown
  unfolding count_shown
  opening_flags =
      rw (opening_length B R C given shown)
      (count_same (λ j. is_flag (get_or (refreshed B R C given shown).shown j 0)) (λ j. is_flag (get_or shown j 0)) (length shown)
      (λ j h. changed_flags B v (refreshed B R C given shown).hit j (opening_changes B R C given shown v j)))
