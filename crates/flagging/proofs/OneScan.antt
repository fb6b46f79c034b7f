-- The flag pass needs one scan: a flag makes an 11 of a 10, so around each number they stay as many together, and the second scan lists nothing.
use mathlib.Core.Path.{◌≡◌, refl, ap, sym, ◌∙◌}
use mathlib.Core.Bool.{Bool, true, false, false≢true}
use mathlib.Core.List.{List, [], ◌∷◌}
use mathlib.Core.Logic.{⊎_elim}
use Prim.Native.Nat.{ℕ, zero, suc, ◌+◌, ◌*◌, ◌<◌, ◌≤◌}
use native.Mathlib.Omega.{arith}
use borrow.Author.Tests.{eqb-true, eqb-false}
use lib.Dec.{eqb}
use lib.ListN.{get_or}
use lib.Seq.{get_or-set_same, get_or-set_other}
use lib.IntN.{ℤ}
use Rattle.rules.specs.declared.Settings.{Settings}
use Rattle.rules.specs.Words.{pick, bit, rounds}
use Rattle.rules.specs.Grid.{neighbour, around, pushed}
use Rattle.rules.specs.Opening.{closed_at}
use Rattle.rules.specs.Clicks.{Desk, flag_at, rows_of, columns_of, cells_of}
use Rattle.rules.specs.Passes.{ripe_at, listed, flag_one, flag_all, Round, flag_round, found_any, flag_pass}
use Rattle.cells.proofs.Words.{count_mono, count_zero, pick_both, false_unless}
use Rattle.opening.specs.Changed.{In}
use Rattle.opening.proofs.Lists.{count_sum, in_pushed, neighbour_pushed}
use Rattle.opening.proofs.Cases.{closed_in}
use Rattle.flagging.proofs.Flagging.{flag_yes, flag_no, even_all}
use Rattle.flagging.proofs.Ripeness.{ripe_parts, ripe_made}

-- what flags do to a cell: it shows the same, or 11 where it showed 10
pub data Turned (x y : ℕ) : Type 0 where
  same : y ≡ x → Turned x y
  flag : x ≡ 10 → y ≡ 11 → Turned x y

turned_on : (x y z : ℕ) → Turned x y → Turned y z → Turned x z
turned_on x y z (same e) (same d) = same (d ∙ e)
turned_on x y z (same e) (flag d h) = flag (sym e ∙ d) h
turned_on x y z (flag e h) (same d) = flag e (d ∙ h)
turned_on x y z (flag e h) (flag d k) = absurd (omega arith)

turned_sum : (x y : ℕ) → Turned x y → bit (eqb y 11) + bit (eqb y 10) ≡ bit (eqb x 11) + bit (eqb x 10)
turned_sum x y (same e) = rw e
turned_sum x y (flag e h) = rw (e, h)

pub turned_closed : (x y : ℕ) → Turned x y → eqb y 10 ≡ true → eqb x 10 ≡ true
turned_closed x y (same e) h = rw e at h
turned_closed x y (flag e h) d = rw e

abbrev pub Turns : List ℕ → List ℕ → Type 0
Turns s s' = (q : ℕ) → Turned (get_or s q 0) (get_or s' q 0)

module _ (B : List ℤ) where
  turns_one : (c : ℕ) (d : Desk) → Turns d.shown (flag_one B c d).shown
  turns_one c d q = go (closed_at d.shown c) (eqb q c) refl refl
    where
      go : (a b : Bool) → closed_at d.shown c ≡ a → eqb q c ≡ b → Turned (get_or d.shown q 0) (get_or (flag_one B c d).shown q 0)
      go true true e h =
          rw (flag_yes B c d e, eqb-true q c h) (flag (eqb-true _ _ e) (get_or-set_same d.shown c 11 0 (closed_in d.shown c e)))
      go true false e h = rw (flag_yes B c d e) (same (get_or-set_other d.shown c q 11 0 (eqb-false q c h)))
      go false b e h = rw (flag_no B c d e) (same refl)

  pub turns_all : (st : List ℕ) (d : Desk) → Turns d.shown (flag_all B st d).shown
  unfolding flag_all
  turns_all [] d q = same refl
  turns_all (x ∷ st) d q =
      turned_on (get_or d.shown q 0) (get_or (flag_all B st d).shown q 0) (get_or (flag_one B x (flag_all B st d)).shown q 0) (turns_all st d q) (turns_one x (flag_all B st d) q)

-- a listed cell does not show 10 afterwards
module _ (B : List ℤ) where
  flag_own : (c : ℕ) (d : Desk) → closed_at (flag_one B c d).shown c ≡ false
  flag_own c d = go (closed_at d.shown c) refl
    where
      go : (a : Bool) → closed_at d.shown c ≡ a → closed_at (flag_one B c d).shown c ≡ false
      go true e = rw (flag_yes B c d e) (ap (λ (x : ℕ). eqb x 10) (get_or-set_same d.shown c 11 0 (closed_in d.shown c e)))
      go false e = rw (flag_no B c d e) e

  in_flagged : (st : List ℕ) (d : Desk) (q : ℕ) → In q st → closed_at (flag_all B st d).shown q ≡ false
  unfolding flag_all
  in_flagged [] d q i = absurd i
  in_flagged (x ∷ st) d q i =
      ⊎_elim
      (λ e. rw e (flag_own x (flag_all B st d)))
      (λ j. false_unless (closed_at (flag_one B x (flag_all B st d)).shown q)
      (λ h. false≢true (sym (in_flagged st d q j) ∙ turned_closed (get_or (flag_all B st d).shown q 0) (get_or (flag_one B x (flag_all B st d)).shown q 0) (turns_one B x (flag_all B st d) q) h)))
      i

module _ (R C : ℕ) where
  -- a ripe cell's closed neighbours are listed
  neighbour_listed : (s : List ℕ) (n c j : ℕ) → c < n → ripe_at R C s c ≡ true → j < 8 → closed_at s (neighbour R C c j) ≡ true → In (neighbour R C c j) (listed R C s n)
  unfolding listed
  neighbour_listed s zero c j h r k e = absurd (omega arith)
  neighbour_listed s (suc n) c j h r k e = go (ripe_at R C s n) (eqb c n) refl refl (λ lt. neighbour_listed s n c j lt r k e)
    where
      go : (b d : Bool) → ripe_at R C s n ≡ b → eqb c n ≡ d → (c < n → In (neighbour R C c j) (listed R C s n))
          → In (neighbour R C c j) (pick b (pushed R C (closed_at s) n 8 (listed R C s n)) (listed R C s n))
      go true true x y rec = rw (eqb-true c n y) (neighbour_pushed R C (closed_at s) n 8 (listed R C s n) j k (rw (eqb-true c n y) at e))
      go true false x y rec = in_pushed R C (closed_at s) n 8 (listed R C s n) (neighbour R C c j) (rec (let m = eqb-false c n y in omega arith))
      go false true x y rec = absurd (false≢true (sym x ∙ (rw (eqb-true c n y) at r)))
      go false false x y rec = rec (let m = eqb-false c n y in omega arith)

  -- around a number, flags and closed cells together stay as many, and no more are closed
  pub around_turns : (s s' : List ℕ) → Turns s s' → (c : ℕ)
      → (around R C (flag_at s') c + around R C (closed_at s') c ≡ around R C (flag_at s) c + around R C (closed_at s) c) × (around R C (closed_at s') c ≤ around R C (closed_at s) c)
  unfolding around
  around_turns s s' t c = (
    count_sum (λ k. flag_at s' (neighbour R C c k)) (λ k. closed_at s' (neighbour R C c k)) (λ k. flag_at s (neighbour R C c k)) (λ k. closed_at s (neighbour R C c k)) 8
        (λ k h. turned_sum _ _ (t (neighbour R C c k))),
    count_mono (λ k. closed_at s' (neighbour R C c k)) (λ k. closed_at s (neighbour R C c k)) 8 (λ k h. turned_closed _ _ (t (neighbour R C c k))),
  )

  module _ (s s' : List ℕ) (t : Turns s s') (c : ℕ) where
    pub same_unless_flagged : (get_or s c 0 ≡ 10 → get_or s' c 0 ≡ 11 → ⊥) → get_or s' c 0 ≡ get_or s c 0
    same_unless_flagged h = go (t c)
      where
        go : Turned (get_or s c 0) (get_or s' c 0) → get_or s' c 0 ≡ get_or s c 0
        go (same e) = e
        go (flag e f) = absurd (h e f)

    -- a number that is ripe among the flags was ripe before them
    pub ripe_before : ripe_at R C s' c ≡ true → ripe_at R C s c ≡ true
    ripe_before e =
        let r = ripe_parts R C s' c e in
        let v = same_unless_flagged (λ x y. omega (arith, r.high)) in
        let m = around_turns s s' t c in
        ripe_made R C s c
        (record { low = omega (arith, r.low); high = omega (arith, r.high); some = omega (arith, r.some, r.sum, m.0, m.1); sum = omega (arith, r.sum, m.0) })

module _ (B : List ℤ) (R C : ℕ) (d : Desk) (cells : ℕ) where
  abbrev once : List ℕ
  once = (flag_all B (listed R C d.shown cells) d).shown

  -- around a cell that was ripe nothing is closed any more
  gone : (c : ℕ) → c < cells → ripe_at R C d.shown c ≡ true → around R C (closed_at once) c ≡ 0
  unfolding around
  gone c h r = count_zero (λ k. closed_at once (neighbour R C c k)) 8 (λ k l. one k l (closed_at d.shown (neighbour R C c k)) refl)
    where
      one : (k : ℕ) → k < 8 → (b : Bool) → closed_at d.shown (neighbour R C c k) ≡ b → closed_at once (neighbour R C c k) ≡ false
      one k l true e = in_flagged B (listed R C d.shown cells) d (neighbour R C c k) (neighbour_listed R C d.shown cells c k h r l e)
      one k l false e =
          false_unless (closed_at once (neighbour R C c k))
          (λ y. false≢true (sym e ∙ turned_closed _ _ (turns_all B (listed R C d.shown cells) d (neighbour R C c k)) y))

  -- none is ripe any more: it would have been ripe before
  never : (c : ℕ) → c < cells → ripe_at R C once c ≡ true → ⊥
  never c h r =
      let g = gone c h (ripe_before R C d.shown once (turns_all B (listed R C d.shown cells) d) c r) in
      let p = ripe_parts R C once c r in
      omega (arith, p.some, p.sum)

  second : (n : ℕ) → n ≤ cells → listed R C once n ≡ []
  unfolding listed
  second zero h = refl
  second (suc n) h =
      rw (false_unless (ripe_at R C once n) (never n (omega arith))) (second n (omega arith))

  -- LAW: a scan after the flags of a scan lists nothing
  pub second_none : listed R C once cells ≡ []
  second_none = second cells (omega arith)

module _ (B : List ℤ) where
  abbrev pub found : Desk → List ℕ
  found d = listed (rows_of d) (columns_of d) d.shown (cells_of d)

  settings_kept : (st : List ℕ) (d : Desk) → (flag_all B st d).position.settings ≡ d.position.settings
  settings_kept st d = ap (λ p. p.settings) (even_all B st d).only

  none_after : (d : Desk) → found (flag_all B (found d) d) ≡ []
  none_after d =
      ap (λ (s : Settings). listed s.rows s.columns (flag_all B (found d) d).shown (s.rows * s.columns)) (settings_kept (found d) d)
      ∙ second_none B (rows_of d) (columns_of d) d (cells_of d)

  -- a second round changes nothing
  round_twice : (s : Round) → (flag_round B (flag_round B s)).desk ≡ (flag_round B s).desk
  unfolding flag_round flag_all
  round_twice s = ap (λ (l : List ℕ). flag_all B l (flag_all B (found s.desk) s.desk)) (none_after s.desk)

  rounds_desk : (f : ℕ) (s : Round) → (rounds (flag_round B) found_any (suc f) s).desk ≡ (flag_round B s).desk
  unfolding rounds
  rounds_desk zero s = pick_both (λ (r : Round). r.desk ≡ (flag_round B s).desk) (found_any (flag_round B s)) (flag_round B s) (flag_round B s) (λ e. refl) (λ e. refl)
  rounds_desk (suc f) s =
      pick_both (λ (r : Round). r.desk ≡ (flag_round B s).desk) (found_any (flag_round B s)) (rounds (flag_round B) found_any (suc f) (flag_round B s)) (flag_round B s)
      (λ e. rounds_desk f (flag_round B s) ∙ round_twice s) (λ e. refl)

  -- THEOREM: the flag pass is one scan with its flags
  pub flag_pass_once : (d : Desk) → flag_pass B d ≡ flag_all B (found d) d
  unfolding flag_pass flag_round
  flag_pass_once d = rounds_desk (cells_of d) (record { desk = d; any = true })
