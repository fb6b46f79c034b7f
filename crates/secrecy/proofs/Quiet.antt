-- What is done at a desk, as a function of the mine board and of what the desk hides (secrets and bits), is quiet: what is known stays
-- known, and two boards that agree on what is known afterwards give the same open part, whatever is hidden. The closure laws of quiet.
-- Assumes nothing.
use mathlib.Core.Path.{◌≡◌, refl, sym, ap, ◌∙◌, subst}
use mathlib.Core.List.{List, []}
use mathlib.Core.Bool.{Bool, true, false}
use Prim.Native.Nat.{ℕ, zero, suc, ◌≤◌}
use lib.ListN.{get_or, length, set, length-set}
use lib.Seq.{get_or-set_other}
use lib.IntN.{ℤ}
use Rattle.rules.specs.declared.Secrets.{Secrets}
use Rattle.rules.specs.Words.{pick, rounds}
use Rattle.rules.specs.States.{is_loss, with_secrets}
use Rattle.rules.specs.Board.{face_at}
use Rattle.rules.specs.Clicks.{Desk, Play, desk, done}
use Rattle.rules.specs.Passes.{Round, Scan}
use Rattle.cells.specs.Ground.{Valued}

-- ---- the hidden part of a desk, and what has a desk in it ------------------------------------------------------------------------------

pub record Hidden : Type 0 where
  pub secrets : Secrets
  pub bits : List ℕ

-- nothing hidden
abbrev pub bare : Hidden
bare = record { secrets = record { rce = 0; solved_left = 0; solved_chord = 0 }; bits = [] }

-- the desk with another hidden part
abbrev pub over : Desk → Hidden → Desk
over d h = desk (with_secrets d.position h.secrets) d.shown h.bits

abbrev pub hidden_of : Desk → Hidden
hidden_of d = record { secrets = d.position.secrets; bits = d.bits }

-- something with a desk in it, whose hidden part can be replaced
pub record Shape (Y : Type 0) : Type 0 where
  pub at : Y → Desk
  pub put : Y → Hidden → Y
  pub own : (y : Y) → put y (hidden_of (at y)) ≡ y
  pub again : (y : Y) (h k : Hidden) → put (put y h) k ≡ put y k
  pub part : (y : Y) (h : Hidden) → at (put y h) ≡ over (at y) h

abbrev pub a_desk : Shape Desk
a_desk = record { at = λ d. d; put = over; own = λ d. refl; again = λ d h k. refl; part = λ d h. refl }

abbrev pub a_play : Shape Play
a_play = record {
  at = λ o. o.desk;
  put = λ o h. done o.answer (over o.desk h);
  own = λ o. refl;
  again = λ o h k. refl;
  part = λ o h. refl;
}

abbrev pub a_round : Shape Round
a_round = record {
  at = λ r. r.desk;
  put = λ r h. record { desk = over r.desk h; any = r.any };
  own = λ r. refl;
  again = λ r h k. refl;
  part = λ r h. refl;
}

abbrev pub a_scan : Shape Scan
a_scan = record {
  at = λ s. s.desk;
  put = λ s h. record { desk = over s.desk h; any = s.any; ever = s.ever };
  own = λ s. refl;
  again = λ s h k. refl;
  part = λ s h. refl;
}

-- ---- what is known ---------------------------------------------------------------------------------------------------------------------

-- a cell that shows x is known: x is 0 to 8, 14 or 15; or 11 in a lost game
pub data Known (lost : Bool) (x : ℕ) : Type 0 where
  number : x ≤ 8 → Known lost x
  wrong : x ≡ 14 → Known lost x
  hit : x ≡ 15 → Known lost x
  flag : lost ≡ true → x ≡ 11 → Known lost x

abbrev pub lost_in : Desk → Bool
lost_in d = is_loss d.position.game

pub record Two (A B : List ℤ) : Type 0 where
  pub valued_a : Valued A
  pub valued_b : Valued B
  pub size : length A ≡ length B

-- the lengths agree, and a lost game shows a hit mine
pub record Inv (B : List ℤ) (lost : Bool) (shown : List ℕ) : Type 0 where
  pub long : length shown ≡ length B
  pub struck : lost ≡ true → (j : ℕ) × (get_or shown j 0 ≡ 15)

-- two boards agree wherever something is known
abbrev pub Agree : List ℤ → List ℤ → Bool → List ℕ → Type 0
Agree A B lost shown = (j : ℕ) → Known lost (get_or shown j 0) → face_at A j ≡ face_at B j

-- of a desk
abbrev pub KnownIn : ℕ → Desk → Type 0
KnownIn j d = Known (lost_in d) (get_or d.shown j 0)

abbrev pub InvIn : List ℤ → Desk → Type 0
InvIn B d = Inv B (lost_in d) d.shown

abbrev pub AgreeIn : List ℤ → List ℤ → Desk → Type 0
AgreeIn A B d = Agree A B (lost_in d) d.shown

-- φ is what is done where `shown` is shown and the game is lost or not
pub record Quiet {Y : Type 0} (σ : Shape Y) (lost : Bool) (shown : List ℕ) (φ : List ℤ → Hidden → Y) : Type 0 where
  pub knows : (B : List ℤ) (h : Hidden) → Valued B → Inv B lost shown → (j : ℕ) → Known lost (get_or shown j 0) → KnownIn j (σ.at (φ B h))
  pub keeps : (B : List ℤ) (h : Hidden) → Valued B → Inv B lost shown → InvIn B (σ.at (φ B h))
  pub same : (A B : List ℤ) (h k : Hidden) → Two A B → Inv A lost shown → Inv B lost shown → AgreeIn A B (σ.at (φ A h))
      → σ.put (φ A h) bare ≡ σ.put (φ B k) bare

-- ---- the closure laws --------------------------------------------------------------------------------------------------------------------

-- what is equal everywhere
pub alike : {Y : Type 0} (σ : Shape Y) (lost : Bool) (shown : List ℕ) (φ ψ : List ℤ → Hidden → Y)
    → ((B : List ℤ) (h : Hidden) → φ B h ≡ ψ B h) → Quiet σ lost shown φ → Quiet σ lost shown ψ
alike {Y} σ lost shown φ ψ e f = record {
  knows = λ B h v inv j k. subst (λ (y : Y). KnownIn j (σ.at y)) (e B h) (f.knows B h v inv j k);
  keeps = λ B h v inv. subst (λ (y : Y). InvIn B (σ.at y)) (e B h) (f.keeps B h v inv);
  same = λ A B h k two ia ib agree.
      sym (ap (λ (y : Y). σ.put y bare) (e A h))
      ∙ (f.same A B h k two ia ib (subst (λ (y : Y). AgreeIn A B (σ.at y)) (sym (e A h)) agree)
      ∙ ap (λ (y : Y). σ.put y bare) (e B k));
}

-- a branch that does not read the board
pub branch : {Y : Type 0} (σ : Shape Y) (lost : Bool) (shown : List ℕ) (b : Bool) {φ ψ : List ℤ → Hidden → Y}
    → (b ≡ true → Quiet σ lost shown φ) → (b ≡ false → Quiet σ lost shown ψ) → Quiet σ lost shown (λ B h. pick b (φ B h) (ψ B h))
branch σ lost shown true f g = f refl
branch σ lost shown false f g = g refl

-- one after the other
pub after : {Y Z : Type 0} (σ : Shape Y) (τ : Shape Z) (lost : Bool) (shown : List ℕ) (φ : List ℤ → Hidden → Y) (ψ : Y → List ℤ → Z)
    → Quiet σ lost shown φ
    → ((A : List ℤ) (k : Hidden) → Quiet τ (lost_in (σ.at (φ A k))) (σ.at (φ A k)).shown (λ B h. ψ (σ.put (φ A k) h) B))
    → Quiet τ lost shown (λ B h. ψ (φ B h) B)
after {Y} {Z} σ τ lost shown φ ψ f g = record {
  knows = λ B h v inv j k.
      subst (λ (y : Y). KnownIn j (τ.at (ψ y B))) (σ.own (φ B h)) ((g B h).knows B (hidden_of (σ.at (φ B h))) v (f.keeps B h v inv) j (f.knows B h v inv j k));
  keeps = λ B h v inv.
      subst (λ (y : Y). InvIn B (τ.at (ψ y B))) (σ.own (φ B h)) ((g B h).keeps B (hidden_of (σ.at (φ B h))) v (f.keeps B h v inv));
  same = λ A B h k two ia ib agree.
      let y = φ A h in
      let z = φ B k in
      let ja = f.keeps A h two.valued_a ia in
      let own = σ.own y in
      let agree' : AgreeIn A B (τ.at (ψ (σ.put y (hidden_of (σ.at y))) A)) = subst (λ (x : Y). AgreeIn A B (τ.at (ψ x A))) (sym own) agree in
      let e : σ.put y bare ≡ σ.put z bare = f.same A B h k two ia ib (λ j t. agree' j ((g A h).knows A (hidden_of (σ.at y)) two.valued_a ja j t)) in
      let d : over (σ.at y) bare ≡ over (σ.at z) bare = sym (σ.part y bare) ∙ (ap (λ (x : Y). σ.at x) e ∙ σ.part z bare) in
      let jb : InvIn B (σ.at y) = subst (InvIn B) (sym d) (f.keeps B k two.valued_b ib) in
      let other : σ.put y (hidden_of (σ.at z)) ≡ z
      = sym (σ.again y bare (hidden_of (σ.at z))) ∙ (ap (λ (x : Y). σ.put x (hidden_of (σ.at z))) e ∙ (σ.again z bare (hidden_of (σ.at z)) ∙ σ.own z)) in
      sym (ap (λ (x : Y). τ.put (ψ x A) bare) own)
      ∙ ((g A h).same A B (hidden_of (σ.at y)) (hidden_of (σ.at z)) two ja jb agree' ∙ ap (λ (x : Y). τ.put (ψ x B) bare) other);
}

pub then : {Y Z : Type 0} (σ : Shape Y) (τ : Shape Z) (lost : Bool) (shown : List ℕ) (φ : List ℤ → Hidden → Y) (ψ : Y → List ℤ → Z)
    → Quiet σ lost shown φ → ((y : Y) → Quiet τ (lost_in (σ.at y)) (σ.at y).shown (λ B h. ψ (σ.put y h) B))
    → Quiet τ lost shown (λ B h. ψ (φ B h) B)
then σ τ lost shown φ ψ f g = after σ τ lost shown φ ψ f (λ B h. g (φ B h))

-- a change that does not read the board and touches nothing known; what it hides may depend on anything
pub plain : {Y : Type 0} (σ : Shape Y) (lost : Bool) (shown : List ℕ) (φ : List ℤ → Hidden → Y) (y : Y)
    → ((B : List ℤ) (h : Hidden) → σ.put (φ B h) bare ≡ σ.put y bare)
    → lost_in (σ.at y) ≡ lost → length (σ.at y).shown ≡ length shown
    → ((j : ℕ) → Known lost (get_or shown j 0) → get_or (σ.at y).shown j 0 ≡ get_or shown j 0)
    → Quiet σ lost shown φ
plain {Y} σ lost shown φ y e el en stays = record {
  knows = λ B h v inv j k. subst (KnownIn j) (at_y B h) (rw (el, stays j k) k);
  keeps = λ B h v inv. subst (InvIn B) (at_y B h) (inv_y B inv);
  same = λ A B h k two ia ib agree. e A h ∙ sym (e B k);
}
  where
    at_y : (B : List ℤ) (h : Hidden) → over (σ.at y) bare ≡ over (σ.at (φ B h)) bare
    at_y B h = sym (σ.part y bare) ∙ (sym (ap (λ (x : Y). σ.at x) (e B h)) ∙ σ.part (φ B h) bare)

    inv_y : (B : List ℤ) → Inv B lost shown → InvIn B (σ.at y)
    inv_y B inv = record {
      long = en ∙ inv.long;
      struck = λ t. let w = inv.struck (sym el ∙ t) in (w.0, stays w.0 (hit w.1) ∙ w.1);
    }

-- the same cells
pub same_cells : {Y : Type 0} (σ : Shape Y) (lost : Bool) (shown : List ℕ) (φ : List ℤ → Hidden → Y) (y : Y)
    → ((B : List ℤ) (h : Hidden) → σ.put (φ B h) bare ≡ σ.put y bare) → lost_in (σ.at y) ≡ lost → (σ.at y).shown ≡ shown → Quiet σ lost shown φ
same_cells σ lost shown φ y e el es = plain σ lost shown φ y e el (ap length es) (λ j k. rw es)

-- one cell that is not known shows something else
pub one_cell : {Y : Type 0} (σ : Shape Y) (lost : Bool) (shown : List ℕ) (φ : List ℤ → Hidden → Y) (y : Y) (i v : ℕ)
    → ((B : List ℤ) (h : Hidden) → σ.put (φ B h) bare ≡ σ.put y bare) → lost_in (σ.at y) ≡ lost → (σ.at y).shown ≡ set shown i v
    → (Known lost (get_or shown i 0) → ⊥) → Quiet σ lost shown φ
one_cell σ lost shown φ y i v e el es un =
    plain σ lost shown φ y e el (ap length es ∙ length-set shown i v)
    (λ j k. rw es (get_or-set_other shown i j v 0 (λ q. un (rw q at k))))

-- a part of the result, with the same desk
pub only : {Y Z : Type 0} (σ : Shape Y) (τ : Shape Z) (lost : Bool) (shown : List ℕ) (φ : List ℤ → Hidden → Y) (f : Y → Z)
    → ((y : Y) → τ.at (f y) ≡ σ.at y) → ((y : Y) (h : Hidden) → τ.put (f y) h ≡ f (σ.put y h))
    → Quiet σ lost shown φ → Quiet τ lost shown (λ B h. f (φ B h))
only {Y} {Z} σ τ lost shown φ f ed ep q = record {
  knows = λ B h v inv j k. subst (KnownIn j) (sym (ed (φ B h))) (q.knows B h v inv j k);
  keeps = λ B h v inv. subst (InvIn B) (sym (ed (φ B h))) (q.keeps B h v inv);
  same = λ A B h k two ia ib agree.
      ep (φ A h) bare ∙ (ap f (q.same A B h k two ia ib (subst (AgreeIn A B) (ed (φ A h)) agree)) ∙ sym (ep (φ B k) bare));
}

-- rounds of what is quiet
pub rounds_quiet : {Y : Type 0} (σ : Shape Y) (step : List ℤ → Y → Y) (more : Y → Bool) → ((y : Y) (h : Hidden) → more (σ.put y h) ≡ more y)
    → ((y : Y) → Quiet σ (lost_in (σ.at y)) (σ.at y).shown (λ B h. σ.put y h))
    → ((y : Y) → Quiet σ (lost_in (σ.at y)) (σ.at y).shown (λ B h. step B (σ.put y h)))
    → (f : ℕ) (y : Y) → Quiet σ (lost_in (σ.at y)) (σ.at y).shown (λ B h. rounds (step B) more f (σ.put y h))
unfolding rounds
rounds_quiet σ step more em stay q zero y = stay y
rounds_quiet {Y} σ step more em stay q (suc f) y =
    then σ σ (lost_in (σ.at y)) (σ.at y).shown (λ B h. step B (σ.put y h)) (λ t B. pick (more t) (rounds (step B) more f t) t) (q y)
    (λ t. alike σ (lost_in (σ.at t)) (σ.at t).shown (λ B h. pick (more t) (rounds (step B) more f (σ.put t h)) (σ.put t h))
    (λ B h. pick (more (σ.put t h)) (rounds (step B) more f (σ.put t h)) (σ.put t h))
    (λ B h. ap (λ (b : Bool). pick b (rounds (step B) more f (σ.put t h)) (σ.put t h)) (sym (em t h)))
    (branch σ (lost_in (σ.at t)) (σ.at t).shown (more t) (λ _. rounds_quiet σ step more em stay q f t) (λ _. stay t)))
