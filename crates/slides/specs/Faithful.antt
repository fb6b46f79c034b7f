-- What is shown of the slider: what a true room is, and what is asked of slots that keep it so.
use Rattle.std.specs.Prelude.{◌≡◌, true, false, List, ℕ, suc, ◌*◌, ◌≤◌, ◌<◌, length}
use Rattle.rules.specs.Clicks.{Desk, Play}
use Rattle.rules.specs.Slides.{Tape, Slots, Kept, refused_by, run_to, flow_number}

-- the answer, with position, shown board and bits, is that of the first n events from the start
pub record Same (t : Tape) (n : ℕ) (o : Play) : Type 0 where
  pub desk : o.desk ≡ (run_to t n).desk
  pub number : flow_number o ≡ flow_number (run_to t n)

abbrev pub AcceptedTo : Tape → ℕ → Type 0
AcceptedTo t m = refused_by (run_to t m) ≡ false

-- slot j below the number kept holds the desk after (j + 1) k accepted events, in a room of its length
pub record RoomTrue (t : Tape) (s : Slots) (k size : ℕ) (h : Kept) : Type 0 where
  pub long : length h.room ≡ size
  pub few : h.count ≤ s.most
  pub desk : (j : ℕ) → j < h.count → s.get j h.room ≡ (run_to t (suc j * k)).desk
  pub accepted : (j : ℕ) → j < h.count → AcceptedTo t (suc j * k)

-- a desk of the game that is put into a slot stands there, the slots before it stay, and such a desk is right
pub record Faithful (t : Tape) (s : Slots) (size : ℕ) : Type 0 where
  pub long : (j : ℕ) (d : Desk) (room : List ℕ) → length (s.put j d room) ≡ length room
  pub back : (j m : ℕ) (room : List ℕ) → length room ≡ size → j < s.most → AcceptedTo t m → s.get j (s.put j (run_to t m).desk room) ≡ (run_to t m).desk
  pub other : (i j m : ℕ) (room : List ℕ) → length room ≡ size → i < j → j < s.most → AcceptedTo t m → s.get i (s.put j (run_to t m).desk room) ≡ s.get i room
  pub right : (m : ℕ) → AcceptedTo t m → s.right m (run_to t m).desk ≡ true
