-- A book's game from its beginning to its last play: what playing a row of events asks is there, and the row is the book's.
use mathlib.Core.Path.{◌≡◌, ◌∙◌, ap, ap₂, sym, refl, subst}
use mathlib.Core.List.{List}
use Prim.Native.Nat.{ℕ, ◌+◌, ◌*◌, ◌/◌, ◌%◌}
use native.Mathlib.Omega.{arith}
use native.Mathlib.Nat.{zero-add}
use lib.ListN.{length, take}
use lib.IntN.{ℤ}
use Rattle.rules.specs.declared.Book.{Book}
use Rattle.rules.specs.declared.Played.{Played}
use Rattle.rules.specs.declared.Position.{Position}
use Rattle.rules.specs.Clicks.{Desk, Play, desk, done}
use Rattle.rules.specs.Book.{book_of, events_of, part_of}
use Rattle.rules.specs.Printout.{book_board, book_desk, book_plays}
use Rattle.cells.specs.Promises.{Leaves, play}
use Rattle.book.proofs.Accepting.{events_part}
use Rattle.book.proofs.Writing.{accepted_writable}
use Rattle.flows.specs.Runs.{flow_on}
use Rattle.game.proofs.Counting.{plays_counted}
use Rattle.printing.specs.Boards.{Fit, Begun}
use Rattle.printing.proofs.Beginning.{end_lawful}
use Rattle.player.specs.Rooms.{Enough}
use Rattle.player.proofs.Refusing.{book_fit}
use Rattle.rules.specs.Claims.{book_last}
use Rattle.endings.specs.Ends.{LastPlayed}

module _ (s : List ℕ) (b : Book) (e : b ≡ book_of s) (z : b.number ≡ 0) {events : List ℕ} (ee : events ≡ part_of s b.events_at (3 * b.events)) where
  events_are : events ≡ events_of s b
  events_are = ee ∙ events_part s b e ∙ ap (events_of s) (sym e)

  pub events_whole : length events % 3 ≡ 0
  events_whole =
      rw events_are (subst (λ (x : Book). x.number ≡ 0 → length (events_of s x) % 3 ≡ 0) (sym e) (λ q. (accepted_writable s q).whole) z)

  pub last_played : {p : Position} {B : List ℤ} {shown bits work₀ work : List ℕ} → Begun s b work₀ p B shown bits work
      → {r : Played} {shown' bits' work' : List ℕ} → Leaves (play r shown' bits') (flow_on B events (desk p shown bits)) work work' → LastPlayed s b r
  last_played {p} {B} {shown} {bits} g {r} {shown'} {bits'} h =
      let same : play r shown' bits' ≡ flow_on (book_board s b) (events_of s b) (book_desk s b) =
      h.outcome ∙ ap (λ (x : List ℤ). flow_on x events (desk p shown bits)) g.board
      ∙ ap₂ (λ (x : List ℕ) (d : Desk). flow_on (book_board s b) x d) events_are g.fresh in
      let answer : r.answer ≡ (book_last s b).answer = ap (λ (o : Play). o.answer) same in
      let position : r.position ≡ (book_last s b).desk.position = ap (λ (o : Play). o.desk.position) same in
      record {
        answer = answer;
        position = position;
        few = let f = (end_lawful s b e z).few in rw position f;
        number = λ big. ap (λ (x : Position). x.events + 1) position ∙ plays_counted (book_board s b) (events_of s b) (done 0 (book_desk s b)) (omega arith) (rw answer at big) ∙ zero-add (length (book_plays s b));
      }

-- the book's boards are parts of the rooms for every book
module _ (s : List ℕ) (b : Book) (e : b ≡ book_of s) (z : b.number ≡ 0) {cells : ℕ} (k : cells ≡ b.settings.rows * b.settings.columns) where
  pub rooms_fit : (mines : List ℤ) (shown bits work : List ℕ) → 2048 ≡ length mines → 2048 ≡ length shown → 256 ≡ length bits → 16392 ≡ length work
      → Fit b.settings (take cells mines) (take cells shown) (take ((cells + 7) / 8) bits) work
  rooms_fit mines shown bits work m n o q =
      let enough : Enough 0 (length mines) (length shown) (length bits) (length work) 172184 =
      record { mine = omega arith; cell = omega arith; byte = omega arith; room = omega arith; place = omega arith; text = omega arith } in
      book_fit s b e z k mines shown bits work enough
