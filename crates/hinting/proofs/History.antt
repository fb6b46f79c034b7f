-- The counts by their history: what one call does to the score, said of the call alone; when a hint is alive, one call more. Assumes nothing.
use mathlib.Core.Path.{◌≡◌, ◌∙◌, sym, refl, ap, ap₂}
use mathlib.Core.Bool.{Bool, true, false, true≢false, false≢true, not, ◌&&◌, ◌||◌}
use mathlib.Core.List.{List, [], ◌∷◌}
use Prim.Native.Nat.{ℕ, zero, suc, ◌+◌, ◌<◌, ◌≤◌}
use native.Mathlib.Omega.{arith}
use native.Mathlib.Decide.{dec_lt}
use borrow.Author.Tests.{lt-ltb, le-ltb, le-leb, lt-leb, not-true, not-false}
use lib.Dec.{ltb, leb, eqb}
use lib.ListN.{length}
use Rattle.rules.specs.declared.Place.{Place}
use Rattle.rules.specs.declared.Place.TheVariants.{Nowhere, At}
use Rattle.rules.specs.Words.{pick, bit, count, every}
use Rattle.cells.proofs.Words.{bit_le, false_unless, and_left, and_right, and_both, every_at, every_all, every_same, every_fails}
use Rattle.rules.specs.declared.Hint.{Hint}
use Rattle.rules.specs.declared.Hint.TheVariants.{Cell, Nothing, Refused}
use Rattle.rules.specs.declared.Score.{Score}
use Rattle.rules.specs.Trainer.{hint_of, score, one_more_of, after_hint, points_at, report_of, Call, question, report, call_of}
use Rattle.hinting.specs.History.{score_after, score_over, listed, is_taken, is_cell, asks, opens, gave, latest, alive, follows_by, follows, at_most, questions, followings, Counted, HistoryCounts, ListCounts, Alive, AliveMeans}

-- ---- one call ----------------------------------------------------------------------------------------------------------------------------

-- a call after which no hint from before it lives
abbrev ends : Call → Bool
ends c = asks c || opens c

-- 1 if a hint lives
abbrev living : Place → ℕ
living Nowhere = 0
living (At row column) = 1

hint_hint : (h : Hint) (s : Score) (r c : ℕ) → points_at (after_hint h s).hint r c ≡ pick (is_taken h || false) (is_cell h r c) (points_at s.hint r c)
hint_hint (Cell row column byRow byColumn) s r c = refl
hint_hint Nothing s r c = refl
hint_hint (Refused x) s r c = refl

report_hint : (b : Bool) (s t : Score) (r c : ℕ) → t.hint ≡ Nowhere → points_at (pick b s t).hint r c ≡ pick (not b) false (points_at s.hint r c)
report_hint true s t r c e = refl
report_hint false s t r c e = ap (λ (l : Place). points_at l r c) e

call_hint : (k : Call) (s : Score) (r c : ℕ) → points_at (call_of k s).hint r c ≡ pick (ends k) (gave k r c) (points_at s.hint r c)
unfolding report_of
call_hint (question R C shown) s r c = hint_hint (hint_of R C shown) s r c
call_hint (report row column opened) s r c = report_hint (eqb opened 0) s _ r c refl

hint_asked : (h : Hint) (s : Score) → (after_hint h s).asked ≡ pick (is_taken h) (one_more_of s.asked) s.asked
hint_asked (Cell row column byRow byColumn) s = refl
hint_asked Nothing s = refl
hint_asked (Refused x) s = refl

report_asked : (b : Bool) (s t : Score) → t.asked ≡ s.asked → (pick b s t).asked ≡ s.asked
report_asked true s t e = refl
report_asked false s t e = e

call_asked : (k : Call) (s : Score) → (call_of k s).asked ≡ pick (asks k) (one_more_of s.asked) s.asked
unfolding report_of
call_asked (question R C shown) s = hint_asked (hint_of R C shown) s
call_asked (report row column opened) s = report_asked (eqb opened 0) s _ refl

hint_followed : (h : Hint) (s : Score) → (after_hint h s).followed ≡ s.followed
hint_followed (Cell row column byRow byColumn) s = refl
hint_followed Nothing s = refl
hint_followed (Refused x) s = refl

report_followed : (b p : Bool) (s t : Score) → t.followed ≡ pick p (one_more_of s.followed) s.followed
    → (pick b s t).followed ≡ pick (not b && p) (one_more_of s.followed) s.followed
report_followed true p s t e = refl
report_followed false p s t e = e

call_followed : (k : Call) (s : Score) → (call_of k s).followed ≡ pick (follows_by k (points_at s.hint)) (one_more_of s.followed) s.followed
unfolding report_of
call_followed (question R C shown) s = hint_followed (hint_of R C shown) s
call_followed (report row column opened) s = report_followed (eqb opened 0) (points_at s.hint row column) s _ refl

follows_same : (k : Call) (p q : ℕ → ℕ → Bool) → ((r c : ℕ) → p r c ≡ q r c) → follows_by k p ≡ follows_by k q
follows_same (question R C shown) p q e = refl
follows_same (report row column opened) p q e = ap (λ (x : Bool). not (eqb opened 0) && x) (e row column)

-- a report can only follow a hint that lives
hint_bound : (h : Hint) (s : Score) → living (after_hint h s).hint ≤ bit (is_taken h) + living s.hint
hint_bound (Cell row column byRow byColumn) s = omega arith
hint_bound Nothing s = omega arith
hint_bound (Refused x) s = omega arith

points_bound : (l : Place) (r c : ℕ) → bit (points_at l r c) ≤ living l
points_bound Nowhere r c = omega arith
points_bound (At row column) r c = bit_le (eqb row r && eqb column c)

report_bound : (b p : Bool) (s t : Score) → t.hint ≡ Nowhere → bit p ≤ living s.hint → bit (not b && p) + living (pick b s t).hint ≤ 0 + living s.hint
report_bound true p s t e h = omega arith
report_bound false p s t e h = let z : living t.hint ≡ 0 = ap living e in omega arith

call_bound : (k : Call) (s : Score) → bit (follows_by k (points_at s.hint)) + living (call_of k s).hint ≤ bit (asks k) + living s.hint
unfolding report_of
call_bound (question R C shown) s = let h = hint_bound (hint_of R C shown) s in omega arith
call_bound (report row column opened) s =
    report_bound (eqb opened 0) (points_at s.hint row column) s _ refl (points_bound s.hint row column)

cell_taken : (h : Hint) (r c : ℕ) → is_cell h r c ≡ true → is_taken h ≡ true
cell_taken (Cell row column byRow byColumn) r c e = refl
cell_taken Nothing r c e = absurd (false≢true e)
cell_taken (Refused x) r c e = absurd (false≢true e)

gave_asks : (k : Call) (r c : ℕ) → gave k r c ≡ true → asks k ≡ true
gave_asks (question R C shown) r c e = cell_taken (hint_of R C shown) r c e
gave_asks (report row column opened) r c e = absurd (false≢true e)

-- ---- a hint alive, one call more ---------------------------------------------------------------------------------------------------------

module _ (calls : ℕ → Call) where
  abbrev since : ℕ → ℕ → Bool
  since m k = leb k m || not (ends (calls k))

  latest_here : (n : ℕ) → latest calls (suc n) n ≡ true
  unfolding latest
  latest_here n = every_all (since n) (suc n) (λ k l. ap (λ (b : Bool). b || not (ends (calls k))) (le-leb k n (omega arith)))

  latest_turn : (n m : ℕ) → m < n → latest calls (suc n) m ≡ (latest calls n m && not (ends (calls n)))
  unfolding latest every
  latest_turn n m l = ap (λ (b : Bool). every (since m) n && (b || not (ends (calls n)))) (lt-leb n m l)

  module _ (r c : ℕ) where
    abbrev missed : ℕ → ℕ → Bool
    missed n m = not (gave (calls m) r c && latest calls n m)

    alive_is : (n : ℕ) → alive calls (suc n) r c ≡ not (every (missed (suc n)) n && missed (suc n) n)
    unfolding alive every
    alive_is n = refl

    ended_by : (g l : Bool) → not (g && (l && false)) ≡ true
    ended_by true true = refl
    ended_by true false = refl
    ended_by false l = refl

    alive_ended : (n : ℕ) → ends (calls n) ≡ true → alive calls (suc n) r c ≡ gave (calls n) r c
    alive_ended n e =
        alive_is n ∙ ap₂ (λ (a b : Bool). not (a && not (gave (calls n) r c && b)))
        (every_all (missed (suc n)) n (λ m l. ap (λ (b : Bool). not (gave (calls m) r c && b)) (latest_turn n m l ∙ ap (λ (b : Bool). latest calls n m && not b) e) ∙ ended_by (gave (calls m) r c) (latest calls n m)))
        (latest_here n) ∙ twice (gave (calls n) r c)
      where
        twice : (g : Bool) → not (true && not (g && true)) ≡ g
        twice true = refl
        twice false = refl

    and_true : (b : Bool) → (b && true) ≡ b
    and_true true = refl
    and_true false = refl

    gave_none : (n : ℕ) → ends (calls n) ≡ false → gave (calls n) r c ≡ false
    gave_none n e = false_unless _ (λ g. true≢false (sym (ap (λ (b : Bool). b || opens (calls n)) (gave_asks (calls n) r c g)) ∙ e))

    alive_kept : (n : ℕ) → ends (calls n) ≡ false → alive calls (suc n) r c ≡ alive calls n r c
    unfolding alive
    alive_kept n e =
        alive_is n ∙ ap₂ (λ (a b : Bool). not (a && not (b && latest calls (suc n) n)))
        (every_same (missed (suc n)) (missed n) n (λ m l. ap (λ (b : Bool). not (gave (calls m) r c && b)) (latest_turn n m l ∙ ap (λ (b : Bool). latest calls n m && not b) e ∙ and_true (latest calls n m))))
        (gave_none n e) ∙ ap not (and_true (every (missed n) n))

    alive_turn : (n : ℕ) → alive calls (suc n) r c ≡ pick (ends (calls n)) (gave (calls n) r c) (alive calls n r c)
    alive_turn n = go (ends (calls n)) refl
      where
        go : (b : Bool) → ends (calls n) ≡ b → alive calls (suc n) r c ≡ pick b (gave (calls n) r c) (alive calls n r c)
        go true e = alive_ended n e
        go false e = alive_kept n e

    alive_start : alive calls 0 r c ≡ false
    unfolding alive every
    alive_start = refl

-- ---- counts that stop --------------------------------------------------------------------------------------------------------------------

at_most_low : (n : ℕ) → n ≤ 65535 → at_most n ≡ n
at_most_low n h = go (dec_lt n 65535)
  where
    go : Dec (n < 65535) → at_most n ≡ n
    go (yes l) = ap (λ (b : Bool). pick b n 65535) (lt-ltb n 65535 l)
    go (no g) = ap (λ (b : Bool). pick b n 65535) (le-ltb n 65535 (omega arith)) ∙ omega arith

at_most_high : (n : ℕ) → 65535 ≤ n → at_most n ≡ 65535
at_most_high n h = ap (λ (b : Bool). pick b n 65535) (le-ltb n 65535 h)

more_low : (n : ℕ) → n < 65535 → one_more_of n ≡ n + 1
more_low n h = ap (λ (b : Bool). pick b (n + 1) 65535) (lt-ltb n 65535 h)

more_at_most : (n : ℕ) → one_more_of (at_most n) ≡ at_most (n + 1)
more_at_most n = go (dec_lt n 65535)
  where
    go : Dec (n < 65535) → one_more_of (at_most n) ≡ at_most (n + 1)
    go (yes l) = ap one_more_of (at_most_low n (omega arith)) ∙ more_low n l ∙ sym (at_most_low (n + 1) (omega arith))
    go (no g) = ap one_more_of (at_most_high n (omega arith)) ∙ sym (at_most_high (n + 1) (omega arith))

at_most_mono : (m n : ℕ) → m ≤ n → at_most m ≤ at_most n
at_most_mono m n h = go (dec_lt n 65535) (dec_lt m 65535)
  where
    go : Dec (n < 65535) → Dec (m < 65535) → at_most m ≤ at_most n
    go (yes l) d = let a = at_most_low n (omega arith) in let b = at_most_low m (omega arith) in omega arith
    go (no g) (yes l) = let a = at_most_high n (omega arith) in let b = at_most_low m (omega arith) in omega arith
    go (no g) (no l) = let a = at_most_high n (omega arith) in let b = at_most_high m (omega arith) in omega arith

count_up : (g : ℕ → Bool) (n a x y : ℕ) (b : Bool) → b ≡ g n → x ≡ at_most (a + count g n) → y ≡ pick b (one_more_of x) x → y ≡ at_most (a + count g (suc n))
unfolding count
count_up g n a x y true e h d =
    let z : a + count g n + 1 ≡ a + (count g n + bit (g n)) = ap (λ (t : Bool). a + count g n + bit t) e ∙ omega arith in
    d ∙ ap one_more_of h ∙ more_at_most (a + count g n) ∙ ap at_most z
count_up g n a x y false e h d =
    let z : a + count g n ≡ a + (count g n + bit (g n)) = let w : bit false ≡ bit (g n) = ap bit e in omega arith in
    d ∙ h ∙ ap at_most z

add-zero : (x : ℕ) → x ≡ x + 0
add-zero x = omega arith

start : (x : ℕ) → x ≤ 65535 → (g : ℕ → Bool) → x ≡ at_most (x + count g 0)
unfolding count
start x h g = sym (at_most_low x h) ∙ ap at_most (add-zero x)

-- ---- the history -------------------------------------------------------------------------------------------------------------------------

module _ (calls : ℕ → Call) (a f : ℕ) (al : a ≤ 65535) (fl : f ≤ 65535) where
  abbrev after : ℕ → Score
  after n = score_after calls n (score a f Nowhere)

  after_turn : (n : ℕ) → after (suc n) ≡ call_of (calls n) (after n)
  unfolding score_after
  after_turn n = refl

  lives : (n r c : ℕ) → points_at (after n).hint r c ≡ alive calls n r c
  unfolding score_after
  lives zero r c = sym (alive_start calls r c)
  lives (suc n) r c =
      call_hint (calls n) (after n) r c ∙ ap (λ (b : Bool). pick (ends (calls n)) (gave (calls n) r c) b) (lives n r c) ∙ sym (alive_turn calls r c n)

  follows_is : (n : ℕ) → follows_by (calls n) (points_at (after n).hint) ≡ follows calls n
  follows_is n = follows_same (calls n) (points_at (after n).hint) (alive calls n) (lives n)

  asked_is : (n : ℕ) → (after n).asked ≡ at_most (a + questions calls n)
  unfolding score_after
  asked_is zero = start a al (λ k. asks (calls k))
  asked_is (suc n) = count_up (λ k. asks (calls k)) n a (after n).asked _ (asks (calls n)) refl (asked_is n) (call_asked (calls n) (after n))

  followed_is : (n : ℕ) → (after n).followed ≡ at_most (f + followings calls n)
  unfolding score_after
  followed_is zero = start f fl (follows calls)
  followed_is (suc n) = count_up (follows calls) n f (after n).followed _ (follows_by (calls n) (points_at (after n).hint)) (follows_is n) (followed_is n) (call_followed (calls n) (after n))

  bound : (n : ℕ) → followings calls n + living (after n).hint ≤ questions calls n
  unfolding score_after count
  bound zero = omega arith
  bound (suc n) =
      let h = call_bound (calls n) (after n) in
      let e : bit (follows_by (calls n) (points_at (after n).hint)) ≡ bit (follows calls n) = ap bit (follows_is n) in
      let b = bound n in
      omega arith

  counted : (n : ℕ) → Counted calls n a f
  counted n = record {
    asked = asked_is n;
    followed = followed_is n;
    fewer = λ h.
        let p = asked_is n in
        let q = followed_is n in
        let b = bound n in
        let m = at_most_mono (f + followings calls n) (a + questions calls n) (omega arith) in
        omega arith;
  }

-- THE HISTORY
pub history_counts : HistoryCounts
history_counts calls n a f al fl = counted calls a f al fl n

-- ---- what alive says ---------------------------------------------------------------------------------------------------------------------

-- a test that fails somewhere fails at a place
fails_at : (f : ℕ → Bool) (n : ℕ) → every f n ≡ false → (m : ℕ) × ((m < n) × (f m ≡ false))
unfolding every
fails_at f zero e = absurd (true≢false e)
fails_at f (suc n) e = go (every f n) (f n) refl refl e (fails_at f n)
  where
    go : (a b : Bool) → every f n ≡ a → f n ≡ b → (a && b) ≡ false → (every f n ≡ false → (m : ℕ) × ((m < n) × (f m ≡ false))) → (m : ℕ) × ((m < suc n) × (f m ≡ false))
    go true true p q h again = absurd (true≢false h)
    go true false p q h again = (n, (omega arith, q))
    go false b p q h again = let r = again p in let l = r.1.0 in (r.0, (omega arith, r.1.1))

or_none : (a b : Bool) → not (a || b) ≡ true → (a ≡ false) × (b ≡ false)
or_none true b e = absurd (false≢true e)
or_none false true e = absurd (false≢true e)
or_none false false e = (refl, refl)

module _ (calls : ℕ → Call) (n r c : ℕ) where
  quiet_since : (m k : ℕ) → latest calls n m ≡ true → m < k → k < n → (asks (calls k) ≡ false) × (opens (calls k) ≡ false)
  unfolding latest
  quiet_since m k h l lt =
      let e = every_at (since calls m) n h k lt in
      or_none _ _ (ap (λ (b : Bool). b || not (ends (calls k))) (sym (lt-leb k m l)) ∙ e)

  alive_alive : alive calls n r c ≡ true → Alive calls n r c
  unfolding alive
  alive_alive h =
      let f = fails_at (missed calls r c n) n (not-true _ h) in
      let t = not-false _ f.1.1 in
      let q = quiet_since f.0 in
      record {
        call = f.0;
        before = f.1.0;
        gives = and_left _ _ t;
        unasked = λ k l lt. (q k (and_right (gave (calls f.0) r c) _ t) l lt).0;
        unopened = λ k l lt. (q k (and_right (gave (calls f.0) r c) _ t) l lt).1;
      }

  since_quiet : (m : ℕ) → ((k : ℕ) → m < k → k < n → ends (calls k) ≡ false) → latest calls n m ≡ true
  unfolding latest
  since_quiet m h = every_all (since calls m) n (λ k lt. go k lt (dec_lt m k))
    where
      or-true : (b : Bool) → (b || true) ≡ true
      or-true true = refl
      or-true false = refl

      go : (k : ℕ) → k < n → Dec (m < k) → since calls m k ≡ true
      go k lt (yes l) = ap (λ (b : Bool). leb k m || not b) (h k l lt) ∙ or-true (leb k m)
      go k lt (no g) = ap (λ (b : Bool). b || not (ends (calls k))) (le-leb k m (omega arith))

  alive_found : Alive calls n r c → alive calls n r c ≡ true
  unfolding alive
  alive_found a =
      let q = since_quiet a.call (λ k l lt. ap₂ (λ (x y : Bool). x || y) (a.unasked k l lt) (a.unopened k l lt)) in
      ap not (every_fails (missed calls r c n) n a.call a.before (ap not (and_both _ _ a.gives q)))

pub alive_means : AliveMeans
alive_means = record { means = alive_alive; found = alive_found }

-- ---- a list of calls ---------------------------------------------------------------------------------------------------------------------

after_first : (k : Call) (l : List Call) (n : ℕ) (s : Score) → score_after (listed (k ∷ l)) (suc n) s ≡ score_after (listed l) n (call_of k s)
unfolding score_after
after_first k l zero s = refl
after_first k l (suc n) s = ap (call_of (listed l n)) (after_first k l n s)

pub list_counts : ListCounts
unfolding score_over score_after
list_counts [] s = refl
list_counts (k ∷ l) s = list_counts l (call_of k s) ∙ sym (after_first k l (length l) s)
