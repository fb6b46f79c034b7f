-- Both passes by turns: a turn keeps what the passes require, and the turns end because one that goes on leaves fewer cells closed.
use mathlib.Core.Path.{◌≡◌, refl, ap, ap₂, sym, ◌∙◌, subst⁻¹}
use mathlib.Core.Bool.{Bool, true, false, ◌&&◌}
use mathlib.Core.List.{List}
use Prim.Native.Nat.{ℕ, suc, ◌+◌, ◌<◌, ◌≤◌}
use native.Mathlib.Omega.{arith}
use lib.ListN.{length}
use lib.IntN.{ℤ}
use Rattle.rules.specs.declared.Settings.{Settings}
use Rattle.rules.specs.declared.Position.{Position}
use Rattle.rules.specs.Words.{bit, rounds}
use Rattle.rules.specs.States.{is_playing}
use Rattle.rules.specs.Clicks.{Desk, desk, cells_of}
use Rattle.rules.specs.Passes.{Round, found_any, flag_pass, chord_pass, chord_changed, both_round, both_pass}
use Rattle.cells.specs.Ground.{Valued}
use Rattle.cells.proofs.Words.{and_left, Looping, left, looping_start, looping_turn, looping_less, looping_done}
use Rattle.opening.proofs.Cost.{closed_most}
use Rattle.cells.specs.Promises.{closed_in, LaidAt, PassRoomAt, Bytes, Prepared, Leaves}
use Rattle.chording.specs.declared.Scanned.{Scanned}
use Rattle.passes.specs.declared.Passed.{Passed}
use Rattle.chording.specs.Scanning.{Scans}
use Rattle.passes.specs.Passing.{round, going}
use Rattle.flagging.specs.Scan.{Flaggable}
use Rattle.flagging.proofs.Flagging.{Even, even_all}
use Rattle.flagging.proofs.OneScan.{found, flag_pass_once}
use Rattle.chording.proofs.Chording.{Sits, sits_start, laid_on, spent_pass}

-- ---- what a pass leaves is prepared --------------------------------------------------------------------------------------------------------

even_sits : (B : List ℤ) (st : Settings) (d d' : Desk) → Even B d d' → Sits st d → Sits st d'
even_sits B st d d' e s =
    let k : d'.position.secrets.solved_chord ≡ d.position.secrets.solved_chord = ap (λ (p : Position). p.secrets.solved_chord) e.only in
    record {
      settings = ap (λ (p : Position). p.settings) e.only ∙ s.settings;
      board = e.board ∙ s.board;
      room = record { flag = rw e.sum s.room.flag; solved = omega (arith, e.few, s.room.solved) };
    }

-- the flag pass: flags and closed cells together stay as many
pub even_pass : (B : List ℤ) (d : Desk) → Even B d (flag_pass B d)
even_pass B d = subst⁻¹ (λ (x : Desk). Even B d x) (flag_pass_once B d) (even_all B (found B d) d)

-- a desk of the same settings with as many bytes of bits
pub record Like (st : Settings) (n : ℕ) (d : Desk) : Type 0 where
  pub sits : Sits st d
  pub bytes : length d.bits ≡ n

pub like_start : (B : List ℤ) (d : Desk) (w : List ℕ) → Prepared B d w → Like d.position.settings (length d.bits) d
like_start B d w p = record { sits = sits_start B d.position d.shown w p.laid p.room d.bits; bytes = refl }

pub like_prepared : (B : List ℤ) (d₀ d : Desk) (w₀ w : List ℕ) → Prepared B d₀ w₀ → Like d₀.position.settings (length d₀.bits) d → w ≡ w₀ → Prepared B d w
like_prepared B d₀ d w₀ w p l e =
    record {
      laid = laid_on B d₀.position d₀.shown w₀ p.laid d w l.sits e;
      bytes = subst⁻¹ (λ (st : Settings). Bytes st d.bits) l.sits.settings (l.bytes ∙ p.bytes);
      room = l.sits.room;
    }

pub flag_like : (B : List ℤ) (st : Settings) (n : ℕ) (d : Desk) → Like st n d → Like st n (flag_pass B d)
flag_like B st n d l =
    record { sits = even_sits B st d (flag_pass B d) (even_pass B d) l.sits; bytes = (even_pass B d).bytes ∙ l.bytes }

pub chord_like : (B : List ℤ) → Valued B → (st : Settings) (n : ℕ) (d : Desk) → Like st n d → Like st n (chord_pass B d).desk
chord_like B v st n d l =
    let s = spent_pass B v st d l.sits in
    record { sits = s.sits; bytes = ap length s.kept ∙ l.bytes }

-- ---- a turn --------------------------------------------------------------------------------------------------------------------------------

abbrev turned : Desk → Bool → Round
turned d b = record { desk = d; any = b }

abbrev pub size : Round → ℕ
size r = closed_in r.desk.shown

abbrev pub On : Settings → ℕ → Round → Type 0
On st n r = Like st n r.desk

module _ (B : List ℤ) (v : Valued B) (st : Settings) (n : ℕ) where
  pub turn_keep : (r : Round) → On st n r → On st n (both_round B r)
  unfolding both_round
  turn_keep r l = chord_like B v st n (flag_pass B r.desk) (flag_like B st n r.desk l)

  pub turn_less : (r : Round) → On st n r → found_any (both_round B r) ≡ true → size (both_round B r) < size r
  unfolding both_round
  turn_less r l e =
      let f = flag_pass B r.desk in
      let c = (spent_pass B v st f (flag_like B st n r.desk l).sits).count in
      let y : bit (chord_pass B f).ever ≡ 1 = ap bit (and_left (chord_pass B f).ever _ e) in
      let m = (even_pass B r.desk).few in
      omega arith

-- the boards that a pass asks for are those that the flag pass asks for, which is lent no work
pub prepared_flaggable : (B : List ℤ) (d : Desk) (w : List ℕ) → Prepared B d w
    → Flaggable B d.shown d.bits d.position.settings.rows d.position.settings.columns × (d.position.counts.flag + closed_in d.shown ≤ 65535)
prepared_flaggable B d w p = (record { mined = p.laid.fits.mined; board = p.laid.fits.board; bytes = p.bytes }, p.room.flag)

-- the code's turn, from its passes
module _ (B : List ℤ) (d d₁ : Desk) (w : List ℕ) (p : Prepared B d w) (f : d₁ ≡ flag_pass B d) where
  pub turn_asks : LaidAt B d₁.position d₁.shown w × PassRoomAt d₁.position d₁.shown
  turn_asks =
      let l : Like d.position.settings (length d.bits) d₁ =
      subst⁻¹ (λ (x : Desk). Like d.position.settings (length d.bits) x) f (flag_like B d.position.settings (length d.bits) d (like_start B d w p)) in
      let q = like_prepared B d d₁ w w p l refl in
      (q.laid, q.room)

  pub turn_is : (s : Scanned) (shown w' : List ℕ) (r : Passed) → Scans (λ bits. chord_pass B (desk d₁.position d₁.shown bits)) w s shown w'
      → r.position ≡ s.position → r.any ≡ (s.ever && is_playing s.position.game) → Leaves (round r shown d₁.bits) (both_round B (going d)) w w'
  unfolding both_round
  turn_is s shown w' r c q e =
      record {
        outcome =
            ap₂ (λ (x : Position) (b : Bool). turned (desk x shown d₁.bits) b) q e ∙ ap chord_changed (c d₁.bits).outcome
            ∙ ap (λ (x : Desk). chord_changed (chord_pass B x)) f;
        same = (c d₁.bits).same;
      }

-- ---- the turns -----------------------------------------------------------------------------------------------------------------------------

pub record Turning (B : List ℤ) (d₀ : Desk) (w₀ : List ℕ) (d : Desk) (w : List ℕ) (go : Bool) : Type 0 where
  pub loop :
      Looping (both_round B) found_any size (On d₀.position.settings (length d₀.bits)) (rounds (both_round B) found_any (suc (cells_of d₀)) (going d₀)) go (turned d go)
  pub back : w ≡ w₀

abbrev pub to_go : List ℤ → Desk → Desk → Bool → ℕ
to_go B d₀ d go = left (both_round B) found_any size (On d₀.position.settings (length d₀.bits)) go (turned d go)

module _ (B : List ℤ) (d₀ : Desk) (w₀ : List ℕ) (p : Prepared B d₀ w₀) where
  abbrev Fit : Round → Type 0
  Fit = On d₀.position.settings (length d₀.bits)

  abbrev total : Round
  total = rounds (both_round B) found_any (suc (cells_of d₀)) (going d₀)

  keep : (r : Round) → Fit r → Fit (both_round B r)
  keep = turn_keep B p.laid.fits.mined.valued d₀.position.settings (length d₀.bits)

  less : (r : Round) → Fit r → found_any (both_round B r) ≡ true → size (both_round B r) < size r
  less = turn_less B p.laid.fits.mined.valued d₀.position.settings (length d₀.bits)

  pub turning_start : Turning B d₀ w₀ d₀ w₀ true
  turning_start =
      let h = closed_most d₀.shown in
      record {
        loop = looping_start (both_round B) found_any size Fit keep less (suc (cells_of d₀)) (going d₀) (like_start B d₀ w₀ p) (omega (arith, p.laid.fits.board));
        back = refl;
      }

  module _ (d : Desk) (w : List ℕ) (go : Bool) (g : Turning B d₀ w₀ d w go) where
    pub turning_asks : Prepared B d w
    turning_asks = like_prepared B d₀ d w₀ w p g.loop.fine g.back

    module _ (e : go ≡ true) (d' : Desk) (w' : List ℕ) (go' : Bool) (l : Leaves (turned d' go') (both_round B (going d)) w w') where
      step : turned d' go' ≡ both_round B (turned d go)
      step = l.outcome ∙ ap (λ (b : Bool). both_round B (turned d b)) (sym e)

      pub turning_turn : Turning B d₀ w₀ d' w' go'
      turning_turn =
          record {
            loop = looping_turn (both_round B) found_any size Fit keep less total go (turned d go) g.loop e go' (turned d' go') step refl;
            back = l.same ∙ g.back;
          }

      pub turning_less : to_go B d₀ d' go' < to_go B d₀ d go
      turning_less = looping_less (both_round B) found_any size Fit keep less total go (turned d go) g.loop e go' (turned d' go') step refl

    pub turning_done : go ≡ false → Leaves d (both_pass B d₀) w₀ w
    unfolding both_pass
    turning_done h =
        record {
          outcome = ap (λ (r : Round). r.desk) (looping_done (both_round B) found_any size Fit keep less total go (turned d go) g.loop h);
          same = g.back;
        }
