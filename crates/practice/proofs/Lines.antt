-- The lines of a practice: put together from their parts, within 74 bytes, and handed over whole.
use mathlib.Core.Path.{◌≡◌, ◌∙◌, sym, ap, subst}
use mathlib.Core.List.{List, [], ◌∷◌, ◌++◌}
use Prim.Native.Nat.{ℕ, ◌+◌, ◌-◌, ◌≤◌}
use native.Mathlib.Omega.{arith}
use borrow.Author.Tests.{ne_eqb}
use lib.ListN.{length, get_or, take, drop, length-append}
use lib.Seq.{take_at}
use Rattle.rules.specs.Printout.{spaced}
use Rattle.writing.specs.Put.{Room, Put, PutWithin}
use Rattle.writing.proofs.Putting.{room_within, put_then, put_over, within, within_then}
use Rattle.writing.proofs.Spaced.{few_any, spaced_length}
use Rattle.rules.specs.declared.Score.{Score}
use Rattle.rules.specs.declared.Advice.{Advice}
use Rattle.rules.specs.Trainer.{ask_of, report_of, hint_words}
use Rattle.practice.specs.declared.Told.{Told}
use Rattle.practice.specs.Practice.{two_at, advice_at, score_at, word_reported, word_broken, counts_line, line_at, broken_line}
use Rattle.practice.specs.Told.{TellsQuestion, report_at, TellsReport, Tells}

-- ---- the counts --------------------------------------------------------------------------------------------------------------------------

abbrev counts_text : Score → List ℕ
counts_text t = spaced (t.asked ∷ t.followed ∷ []) ++ (10 ∷ [])

-- two numbers of at most ten digits, each after a space, and the line's end
counts_longest : (a f : ℕ) → length (spaced (a ∷ f ∷ []) ++ (10 ∷ [])) ≤ 23
counts_longest a f =
    let s = spaced_length 10 (a ∷ f ∷ []) (few_any (a ∷ f ∷ [])) in
    let e = length-append (spaced (a ∷ f ∷ [])) (10 ∷ []) in
    omega arith

pub counts_room : (a f : ℕ) {at : ℕ} {out : List ℕ} → at + 23 ≤ length out → Room (spaced (a ∷ f ∷ []) ++ (10 ∷ [])) at out
counts_room a f h = room_within 23 (counts_longest a f) h

pub counts_put : (a f : ℕ) {at m n : ℕ} {out out' out'' : List ℕ} → Put (spaced (a ∷ f ∷ [])) at out out' m → Put (10 ∷ []) m out' out'' n
    → PutWithin 23 (spaced (a ∷ f ∷ []) ++ (10 ∷ [])) at out out'' n
counts_put a f p q = within (counts_longest a f) (put_then p q)

-- ---- a question and a report -------------------------------------------------------------------------------------------------------------

abbrev told : Score → ℕ → Told
told t long = record { score = t; long = long }

module _ (s : List ℕ) (at : ℕ) (t : Score) {n : ℕ} (e : n ≡ two_at s (at + 3)) where
  advice_is : {a : Advice} → a ≡ ask_of t (get_or s (at + 1) 0) (get_or s (at + 2) 0) (take (at + 5 + n - (at + 5)) (drop (at + 5) s)) → a ≡ advice_at s at t
  advice_is h =
      let z : at + 5 + n - (at + 5) ≡ n = omega arith in
      h ∙ ap (λ (x : ℕ). ask_of t (get_or s (at + 1) 0) (get_or s (at + 2) 0) (take x (drop (at + 5) s))) (z ∙ e)

  pub question_told : {a : Advice} → a ≡ ask_of t (get_or s (at + 1) 0) (get_or s (at + 2) 0) (take (at + 5 + n - (at + 5)) (drop (at + 5) s))
      → {out out' out'' : List ℕ} {m long : ℕ} → PutWithin 51 (hint_words a.hint) 0 out out' m → PutWithin 23 (counts_text a.score) m out' out'' long
      → TellsQuestion s at t out out'' (told a.score long)
  question_told {a} h {out} {out'} {out''} {m} {long} p q =
      let i = advice_is h in
      record {
        score = ap (λ (x : Advice). x.score) i;
        line = subst (λ (x : Advice). PutWithin 74 (counts_line (hint_words x.hint) x.score) 0 out out'' long) i
            (within_then {k = 74} {m = 51} {n = 23} (omega arith) p q);
      }

pub report_told : (s : List ℕ) (at : ℕ) (t : Score) {n : ℕ} → n ≡ two_at s (at + 3) → {t' : Score} → t' ≡ report_of t (get_or s (at + 1) 0) (get_or s (at + 2) 0) n
    → {out out' out'' : List ℕ} {m long : ℕ} → Put word_reported 0 out out' m → PutWithin 23 (counts_text t') m out' out'' long
    → TellsReport s at t out out'' (told t' long)
report_told s at t e {t'} h p q =
    let i : t' ≡ report_at s at t = h ∙ ap (report_of t (get_or s (at + 1) 0) (get_or s (at + 2) 0)) e in
    record { score = i; line = rw (sym i) (within_then {k = 74} {m = 51} {n = 23} (omega arith) (within (omega arith) p) q) }

-- room for the counts after the words
pub words_then : {text out out' : List ℕ} {m : ℕ} → 74 ≤ length out → PutWithin 51 text 0 out out' m → length out' ≡ length out → m + 23 ≤ length out'
words_then h p same = let a = p.put.next in let b = p.short in omega arith

pub word_then : {out out' : List ℕ} {m : ℕ} → 74 ≤ length out → Put word_reported 0 out out' m → length out' ≡ length out → m + 23 ≤ length out'
word_then h p same = let a = p.next in omega arith

pub report_room : {out : List ℕ} → 74 ≤ length out → Room word_reported 0 out
report_room h = record { fits = omega arith }

-- ---- the call at a place -----------------------------------------------------------------------------------------------------------------

module _ (s : List ℕ) (at : ℕ) (t : Score) {out out' : List ℕ} {r : Told} where
  pub tells_report : get_or s at 0 ≡ 1 → TellsReport s at t out out' r → Tells s at t out out' r
  unfolding score_at line_at
  tells_report e h = record {
    score = h.score ∙ sym (simp e);
    line = rw e h.line;
  }

  pub tells_question : (get_or s at 0 ≡ 1 → ⊥) → TellsQuestion s at t out out' r → Tells s at t out out' r
  unfolding score_at line_at
  tells_question n h = record {
    score = h.score ∙ sym (simp (ne_eqb _ 1 n));
    line = rw (ne_eqb (get_or s at 0) 1 n) h.line;
  }

-- ---- broken bytes, and what is handed over -----------------------------------------------------------------------------------------------

broken_longest : (at : ℕ) → length (broken_line at) ≤ 74
broken_longest at =
    let s = spaced_length 10 (at ∷ []) (few_any (at ∷ [])) in
    let e = length-append word_broken (spaced (at ∷ []) ++ (10 ∷ [])) in
    let d = length-append (spaced (at ∷ [])) (10 ∷ []) in
    omega arith

pub broken_room : (at : ℕ) {out : List ℕ} → 74 ≤ length out → Room (broken_line at) 0 out
broken_room at h = room_within 74 (broken_longest at) h

pub broken_put : (at : ℕ) {out out' : List ℕ} {n : ℕ} → Put (broken_line at) 0 out out' n → PutWithin 74 (broken_line at) 0 out out' n
broken_put at p = within (broken_longest at) p

module _ {text out out' : List ℕ} {r : ℕ} (room : 74 ≡ length out) (q : PutWithin 74 text 0 out out' r) where
  pub handed_fits : length out' ≡ length out → r ≤ length out'
  handed_fits same = let n = q.put.next in let m = q.short in omega arith

  pub handed_whole : take r out' ≡ text
  handed_whole =
      let m = q.short in
      let n = q.put.next in
      ap (take r) (put_over (omega arith) q.put) ∙ take_at text (drop (length text) out) r (omega arith)
