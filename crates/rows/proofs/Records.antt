-- A row of records, one after the other: what the loop keeps, and how it ends.
use Rattle.std.specs.Prelude.{Option, Some, None}
use mathlib.Core.Path.{◌≡◌, refl, ap, sym, ◌∙◌, subst⁻¹}
use mathlib.Core.Bool.{Bool, true, false}
use mathlib.Core.List.{List}
use Prim.Native.Nat.{ℕ, zero, suc, ◌+◌, ◌-◌, ◌*◌, ◌≤◌, ◌<◌}
use native.Mathlib.Omega.{arith}
use native.Mathlib.Decide.{dec_lt}
use lib.IntN.{ℤ}
use lib.ListN.{length, get_or}
use borrow.Author.Tests.{le-leb, lt-leb}
use Rattle.rules.specs.declared.Settings.{Settings}
use Rattle.rules.specs.declared.Position.{Position}
use Rattle.rules.specs.declared.Played.{Played}
use Rattle.rules.specs.Words.{pick}
use Rattle.rules.specs.Lent.{bit_bytes}
use Rattle.rules.specs.Clicks.{Desk, Play, desk, done}
use Rattle.rules.specs.Calls.{cells_in}
use Rattle.rules.specs.Step.{step_on}
use Rattle.cells.specs.Promises.{play, Plays}
use Rattle.keep.specs.Kept.{LawfulAt, Follows}
use Rattle.keep.proofs.Step.{step_follows}
use Rattle.game.specs.Core.{Blank}
use Rattle.records.specs.declared.Record.{Record}
use Rattle.records.specs.Entries.{entry_at, records_in}
use Rattle.records.proofs.Entries.{entry_end, entry_event}
use Rattle.rules.specs.Slides.{Tape, refused_by, run_to, play_record}
use Rattle.slides.proofs.Slides.{run_on, run_stays}
use Rattle.drags.proofs.Drags.{record_there, record_past, record_either}
use Rattle.rows.specs.Rows.{tape_from, row_on}

-- ---- a record played -------------------------------------------------------------------------------------------------------------------

abbrev play_entry : List ℤ → Option Record → Desk → Play
play_entry B (Some e) d = step_on B e.code e.row e.column d
play_entry B None d = done 70 d

module _ (B : List ℤ) (es : List ℕ) (e : ℕ) where
  entry_is : (d : Desk) → play_entry B (entry_at es e) d ≡ play_record B es e d
  entry_is d = go (dec_lt e (records_in es))
    where
      go : Dec (e < records_in es) → play_entry B (entry_at es e) d ≡ play_record B es e d
      go (yes h) = ap (λ (x : Option Record). play_entry B x d) (entry_event es e h) ∙ sym (record_there B es e d h)
      go (no h) =
          let l : records_in es ≤ e = omega arith in
          ap (λ (x : Option Record). play_entry B x d) (entry_end es e l) ∙ sym (record_past B es e d l)

  module _ (p : Position) (shown bits work : List ℕ) {x : Option Record} (n : x ≡ entry_at es e) where
    pub entry_played : (r : Record) {o : Played} {shown' bits' work' : List ℕ} → x ≡ Some r
        → Plays (step_on B r.code r.row r.column) p shown bits work o shown' bits' work' → Plays (play_record B es e) p shown bits work o shown' bits' work'
    entry_played r q w =
        record { outcome = w.outcome ∙ (ap (λ (y : Option Record). play_entry B y (desk p shown bits)) (sym q ∙ n) ∙ entry_is (desk p shown bits)); same = w.same }

    pub entry_ended : x ≡ None → {o : Played} → o ≡ record { answer = 70; position = p } → Plays (play_record B es e) p shown bits work o shown bits work
    entry_ended q eo = record { outcome = ap (λ (o : Played). play o shown bits) eo ∙ (ap (λ (y : Option Record). play_entry B y (desk p shown bits)) (sym q ∙ n) ∙ entry_is (desk p shown bits)); same = refl }

  record_follows : (d : Desk) → LawfulAt B d → Follows B d (play_record B es e d).desk
  record_follows d l =
      record_either B es e d (λ (o : Play). Follows B d o.desk) (step_follows B (get_or es (3 * e) 0) (get_or es (3 * e + 1) 0) (get_or es (3 * e + 2) 0) d l)
      (record { lawful = l; settings = refl; told = λ z. z })

pub lengths_same : (B : List ℤ) (d e : Desk) → LawfulAt B d → LawfulAt B e → e.position.settings ≡ d.position.settings → (length e.shown ≡ length d.shown) × (length e.bits ≡ length d.bits)
lengths_same B d e l m s =
    let a = l.kept.sound.ground in
    let b = m.kept.sound.ground in
    (b.board ∙ (ap cells_in s ∙ sym a.board), b.room ∙ (ap (λ (g : Settings). bit_bytes (cells_in g)) s ∙ sym a.room))

-- ---- a row -----------------------------------------------------------------------------------------------------------------------------

-- once a record was refused the row is over
run_over : (t : Tape) (i j : ℕ) → refused_by (run_to t i) ≡ true → run_to t (i + j) ≡ run_to t i
run_over t i zero r = ap (run_to t) (let z : i + 0 ≡ i = omega arith in z)
run_over t i (suc j) r =
    let rec : run_to t (i + j) ≡ run_to t i = run_over t i j r in
    ap (run_to t) (let z : i + suc j ≡ suc (i + j) = omega arith in z) ∙ (run_stays t (i + j) (ap refused_by rec ∙ r) ∙ rec)

-- where a row from a desk stands before record e: what the definition says, on a lawful desk of the same sizes
pub record Row (B : List ℤ) (es : List ℕ) (from : ℕ) (d : Desk) (work₀ : List ℕ) (e : ℕ) (o : Played) (shown bits work : List ℕ) : Type 0 where
  pub after : from ≤ e
  pub same : play o shown bits ≡ row_on B es from e d
  pub lawful : LawfulAt B (desk o.position shown bits)
  pub settings : o.position.settings ≡ d.position.settings
  pub lent : work ≡ work₀

pub row_start : (B : List ℤ) (es : List ℕ) (from : ℕ) (p : Position) (shown bits work : List ℕ) → LawfulAt B (desk p shown bits)
    → Row B es from (desk p shown bits) work from (record { answer = 0; position = p }) shown bits work
unfolding run_to
row_start B es from p shown bits work law =
    record {
      after = omega arith;
      same = ap (run_to (tape_from B es from (desk p shown bits))) (let z : 0 ≡ from - from = omega arith in z);
      lawful = law;
      settings = refl;
      lent = refl;
    }

module _ (B : List ℤ) (es : List ℕ) (from : ℕ) (d : Desk) (work₀ : List ℕ) where
  abbrev T : Tape
  T = tape_from B es from d

  module _ (e : ℕ) (o : Played) (shown bits work : List ℕ) (w : Row B es from d work₀ e o shown bits work) (ok : o.answer < 20)
      (o' : Played) (shown' bits' work' : List ℕ) (p : Plays (play_record B es e) o.position shown bits work o' shown' bits' work') where
    follows : Follows B (desk o.position shown bits) (desk o'.position shown' bits')
    follows =
        subst⁻¹ (λ (x : Play). Follows B (desk o.position shown bits) x.desk) p.outcome (record_follows B es e (desk o.position shown bits) w.lawful)

    on : row_on B es from (e + 1) d ≡ play_record B es e (desk o.position shown bits)
    on =
        let a = w.after in
        ap (run_to T) (let z : e + 1 - from ≡ suc (e - from) = omega arith in z)
        ∙ (run_on T (e - from) (ap refused_by (sym w.same) ∙ lt-leb 20 o.answer ok)
        ∙ (ap (λ (i : ℕ). play_record B es i (run_to T (e - from)).desk) (let z : from + (e - from) ≡ e = omega arith in z)
        ∙ ap (λ (x : Play). play_record B es e x.desk) (sym w.same)))

    pub row_next : Row B es from d work₀ (e + 1) o' shown' bits' work'
    row_next =
        let a = w.after in
        record {
          after = omega arith;
          same = p.outcome ∙ sym on;
          lawful = follows.lawful;
          settings = follows.settings ∙ w.settings;
          lent = p.same ∙ w.lent;
        }

  module _ (e to : ℕ) (o : Played) (shown bits work : List ℕ) (w : Row B es from d work₀ e o shown bits work) where
    pub row_end : to ≡ e → play o shown bits ≡ row_on B es from to d
    row_end z = w.same ∙ ap (λ (i : ℕ). run_to T (i - from)) (sym z)

    pub row_refused : e ≤ to → 20 ≤ o.answer → play o shown bits ≡ row_on B es from to d
    row_refused le over =
        let a = w.after in
        w.same
        ∙ (sym (run_over T (e - from) (to - e) (ap refused_by (sym w.same) ∙ le-leb 20 o.answer over))
        ∙ ap (run_to T) (let z : e - from + (to - e) ≡ to - from = omega arith in z))

    module _ (law : LawfulAt B d) where
      pub row_cells : length shown ≡ length d.shown
      row_cells = (lengths_same B d (desk o.position shown bits) law w.lawful w.settings).0

      pub row_bytes : length bits ≡ length d.bits
      row_bytes = (lengths_same B d (desk o.position shown bits) law w.lawful w.settings).1

pub row_blank : {B : List ℤ} {es : List ℕ} {from : ℕ} {d : Desk} {work₀ : List ℕ} {e : ℕ} {o : Played} {shown bits work : List ℕ}
    → Row B es from d work₀ e o shown bits work → Blank d.position.settings work₀ → Blank o.position.settings work
row_blank {work₀ = work₀} {o = o} w b =
    subst⁻¹ (λ (x : List ℕ). Blank o.position.settings x) w.lent (subst⁻¹ (λ (g : Settings). Blank g work₀) w.settings b)

-- what a whole row leaves is lawful, of the same settings
pub row_follows : (B : List ℤ) (es : List ℕ) (from : ℕ) (d : Desk) → LawfulAt B d → (i : ℕ) → Follows B d (run_to (tape_from B es from d) i).desk
unfolding run_to
row_follows B es from d law zero = record { lawful = law; settings = refl; told = λ z. z }
row_follows B es from d law (suc i) =
    let rec = row_follows B es from d law i in
    go (refused_by (run_to (tape_from B es from d) i)) rec
  where
    go : (b : Bool) → Follows B d (run_to (tape_from B es from d) i).desk
        → Follows B d (pick b (run_to (tape_from B es from d) i) (play_record B es (from + i) (run_to (tape_from B es from d) i).desk)).desk
    go true f = f
    go false f =
        let n = record_follows B es (from + i) (run_to (tape_from B es from d) i).desk f.lawful in
        record { lawful = n.lawful; settings = n.settings ∙ f.settings; told = λ z. n.told (f.told z) }
