-- The class's plays of a row are the full game's up to the first forbidden event, and then that one's; and so are their lines. Assumes nothing.
use Rattle.std.specs.Prelude.{Option, Some, None}
use Rattle.rules.specs.declared.Pointer.{Pointer}
use mathlib.Core.Path.{◌≡◌, refl, sym, ap, ◌∙◌}
use mathlib.Core.Bool.{Bool, true, false}
use mathlib.Core.List.{List, [], ◌∷◌, ◌++◌, append_assoc}
use Prim.Native.Nat.{ℕ, suc, ◌+◌, ◌*◌, ◌/◌, ◌%◌, ◌≤◌}
use native.Mathlib.Omega.{arith}
use lib.Dec.{ltb, leb}
use lib.ListN.{length, take, drop}
use lib.Seq.{length-take-le}
use lib.IntN.{ℤ}
use Rattle.rules.specs.Words.{pick}
use Rattle.rules.specs.Clicks.{Desk, Play, done}
use Rattle.rules.specs.Step.{pointer_of, step_on}
use Rattle.rules.specs.Calls.{plays, last_play}
use Rattle.rules.specs.Printout.{event_line, event_lines}
use Rattle.cells.proofs.Words.{pick_both}
use Rattle.rules.specs.Noflag.{forbidden, class_step_on, class_plays}
use Rattle.noflag.specs.Class.{forbids}
use Rattle.noflag.proofs.Same.{class_same, class_forbids}
use Rattle.noflag_player.specs.Printing.{free_in, barred_at, barred_after}

-- ---- the plays ---------------------------------------------------------------------------------------------------------------------------

forbids_refuses : (few : Bool) (w : Option Pointer) → leb 20 (forbids few w) ≡ true
forbids_refuses few None = refl
forbids_refuses true (Some x) = refl
forbids_refuses false (Some x) = refl

-- the full game's plays of a row up to its first forbidden event
abbrev pub free_plays : List ℤ → List ℕ → Desk → List Play
free_plays B es d = plays B (take (free_in es) es) d

module _ (B : List ℤ) where
  -- o is the play before the row, which was accepted
  pub class_cut : (es : List ℕ) (o : Play) → leb 20 o.answer ≡ false
      → class_plays B es o.desk ≡ free_plays B es o.desk ++ barred_after (drop (free_in es) es) (last_play o (free_plays B es o.desk))
  unfolding class_plays free_in barred_at plays last_play
  class_cut [] o e = sym (ap (λ (t : Bool). pick t [] []) e)
  class_cut (code ∷ []) o e = sym (ap (λ (t : Bool). pick t [] []) e)
  class_cut (code ∷ r ∷ []) o e = sym (ap (λ (t : Bool). pick t [] []) e)
  class_cut (code ∷ r ∷ c ∷ es) o e = by (forbidden code) refl (λ q. class_cut es (step_on B code r c o.desk) q)
    where
      row : List ℕ
      row = code ∷ r ∷ c ∷ es

      k : ℕ
      k = forbids (ltb o.desk.position.events 65535) (pointer_of o.desk.position.settings r c)

      first : Play
      first = step_on B code r c o.desk

      -- what the row comes to where it is cut n bytes on
      cut : ℕ → List Play
      cut n = plays B (take n row) o.desk ++ barred_after (drop n row) (last_play o (plays B (take n row) o.desk))

      class : Play → List Play
      class x = x ∷ pick (leb 20 x.answer) [] (class_plays B es x.desk)

      -- after an event that was accepted the rest is cut
      on : (t : Bool) → leb 20 first.answer ≡ t → (leb 20 first.answer ≡ false
          → class_plays B es first.desk ≡ free_plays B es first.desk ++ barred_after (drop (free_in es) es) (last_play first (free_plays B es first.desk)))
          → first ∷ pick t [] (class_plays B es first.desk)
          ≡ (first ∷ pick t [] (free_plays B es first.desk))
          ++ barred_after (drop (free_in es) es) (last_play first (pick t [] (free_plays B es first.desk)))
      on true q rest = sym (ap (λ (t : Bool). first ∷ pick t [] (barred_at (drop (free_in es) es) first.desk)) q)
      on false q rest = ap (λ (l : List Play). first ∷ l) (rest q)

      by : (t : Bool) → forbidden code ≡ t → (leb 20 first.answer ≡ false
          → class_plays B es first.desk ≡ free_plays B es first.desk ++ barred_after (drop (free_in es) es) (last_play first (free_plays B es first.desk)))
          → class (class_step_on B code r c o.desk) ≡ cut (pick t 0 (suc (suc (suc (free_in es)))))
      by true q rest =
          ap class (class_forbids B code r c o.desk q)
          ∙ (ap (λ (t : Bool). done k o.desk ∷ pick t [] (class_plays B es o.desk))
          (forbids_refuses (ltb o.desk.position.events 65535) (pointer_of o.desk.position.settings r c))
          ∙ sym (ap (λ (t : Bool). pick t [] (done k o.desk ∷ [])) e))
      by false q rest = ap class (class_same B code r c o.desk q) ∙ on (leb 20 first.answer) refl rest

-- the last of two rows, one after the other
last_append : (o : Play) (xs ys : List Play) → last_play o (xs ++ ys) ≡ last_play (last_play o xs) ys
unfolding last_play
last_append o [] ys = refl
last_append o (x ∷ xs) ys = last_append x xs ys

-- a forbidden event leaves the desk
barred_desk : (es : List ℕ) (o : Play) → (last_play o (barred_after es o)).desk ≡ o.desk
unfolding last_play barred_at
barred_desk es o =
    pick_both (λ (l : List Play). (last_play o l).desk ≡ o.desk) (leb 20 o.answer) [] (barred_at es o.desk) (λ _. refl) (λ _. by es)
  where
    by : (es : List ℕ) → (last_play o (barred_at es o.desk)).desk ≡ o.desk
    by [] = refl
    by (code ∷ []) = refl
    by (code ∷ r ∷ []) = refl
    by (code ∷ r ∷ c ∷ es) = refl

-- so the class's row ends where the full game's does
pub end_cut : (B : List ℤ) (es : List ℕ) (o : Play) → leb 20 o.answer ≡ false
    → (last_play o (class_plays B es o.desk)).desk ≡ (last_play o (free_plays B es o.desk)).desk
end_cut B es o e =
    ap (λ (l : List Play). (last_play o l).desk) (class_cut B es o e)
    ∙ (ap (λ (x : Play). x.desk) (last_append o (free_plays B es o.desk) (barred_after (drop (free_in es) es) (last_play o (free_plays B es o.desk))))
    ∙ barred_desk (drop (free_in es) es) (last_play o (free_plays B es o.desk)))

-- ---- their lines -------------------------------------------------------------------------------------------------------------------------

pub lines_cut : (n : ℕ) (os ps : List Play) → event_lines n (os ++ ps) ≡ event_lines n os ++ event_lines (n + length os) ps
unfolding event_lines
lines_cut n [] ps = ap (λ (m : ℕ). event_lines m ps) (omega arith)
lines_cut n (o ∷ os) ps =
    ap (λ (l : List ℕ). event_line n o ++ l) (lines_cut (suc n) os ps)
    ∙ (ap (λ (m : ℕ). event_line n o ++ (event_lines (suc n) os ++ event_lines m ps)) (omega arith)
    ∙ sym (append_assoc (event_line n o) (event_lines (suc n) os) (event_lines (n + suc (length os)) ps)))

-- a row whose last event was not refused has a play for each three bytes
pub plays_all : (B : List ℤ) (es : List ℕ) (o : Play) → length es % 3 ≡ 0 → leb 20 o.answer ≡ false
    → leb 20 (last_play o (plays B es o.desk)).answer ≡ false → 3 * length (plays B es o.desk) ≡ length es
unfolding plays last_play
plays_all B [] o w e h = refl
plays_all B (code ∷ []) o w e h = absurd (omega arith)
plays_all B (code ∷ r ∷ []) o w e h = absurd (omega arith)
plays_all B (code ∷ r ∷ c ∷ es) o w e h =
    go (leb 20 first.answer) refl h (λ q k. plays_all B es (step_on B code r c o.desk) (omega arith) q k)
  where
    first : Play
    first = step_on B code r c o.desk

    go : (t : Bool) → leb 20 first.answer ≡ t → leb 20 (last_play first (pick t [] (plays B es first.desk))).answer ≡ false
        → (leb 20 first.answer ≡ false → leb 20 (last_play first (plays B es first.desk)).answer ≡ false → 3 * length (plays B es first.desk) ≡ length es)
        → 3 * length (first ∷ pick t [] (plays B es first.desk)) ≡ length (code ∷ r ∷ c ∷ es)
    go true q k rest = absurd (let z : ◌≡◌ {A = Bool} true false = sym q ∙ k in let y : ◌≡◌ {A = ℕ} 0 1 = cc in omega arith)
    go false q k rest = let l = rest q k in omega arith

-- THE LINES of a row of the class: n are the bytes before its first forbidden event
pub class_lines_lem : (B : List ℤ) (es : List ℕ) (o : Play) (n : ℕ) → leb 20 o.answer ≡ false → n ≡ free_in es → n % 3 ≡ 0 → n ≤ length es
    → event_lines 1 (class_plays B es o.desk)
    ≡ event_lines 1 (plays B (take n es) o.desk) ++ event_lines (n / 3 + 1) (barred_after (drop n es) (last_play o (plays B (take n es) o.desk)))
unfolding event_lines
class_lines_lem B es o n e q w l =
    ap (event_lines 1) (class_cut B es o e ∙ ap (λ (m : ℕ). plays B (take m es) o.desk ++ barred_after (drop m es) (last_play o (plays B (take m es) o.desk))) (sym q))
    ∙ (lines_cut 1 os (barred_after (drop n es) last) ∙ ap (λ (t : List ℕ). event_lines 1 os ++ t) (go (leb 20 last.answer) refl))
  where
    os : List Play
    os = plays B (take n es) o.desk

    last : Play
    last = last_play o os

    go : (t : Bool) → leb 20 last.answer ≡ t
        → event_lines (1 + length os) (pick t [] (barred_at (drop n es) last.desk)) ≡ event_lines (n / 3 + 1) (pick t [] (barred_at (drop n es) last.desk))
    go true k = refl
    go false k =
        let a = length-take-le n es l in
        let b = plays_all B (take n es) o (rw a w) e k in
        ap (λ (m : ℕ). event_lines m (barred_at (drop n es) last.desk)) (omega arith)
