-- What the inner functions ensure.
use Rattle.std.specs.Prelude.{Bool, not, ◌&&◌, ◌||◌, List, ℕ, ltb, leb, eqb, length, ℤ}
use Rattle.rules.specs.declared.Position.{Position}
use Rattle.rules.specs.declared.Answer.{Answer}
use Rattle.rules.specs.Words.{pick}
use Rattle.rules.specs.Grid.{size_ok}
use Rattle.rules.specs.Clicks.{Desk}
use Rattle.rules.specs.Step.{pointer_of}
use Rattle.rules.specs.Calls.{answers, refuses}
use Rattle.rules.specs.Book.{byte_at, mine_count_at}
use Rattle.rules.specs.Noflag.{class_lent_refusal}
use Rattle.noflag.specs.Class.{forbids}

-- the refusal in another mode than 0, by the full game's refusal n: 20 to 24 come before 25
abbrev pub other_moded : ℕ → ℕ
other_moded n = pick (leb 20 n && leb n 24) n 25

-- the full game's refusal n, with 25 in its place where the mode is not 0
abbrev pub moded : ℕ → ℕ → ℕ
moded mode n = pick (eqb mode 0) n (other_moded n)

-- what is answered for an event that is not played: 20 to 264, or 30, 31, 34
abbrev pub unplayed_of : List ℤ → ℕ → ℕ → Desk → List ℕ → Answer
unplayed_of B r c d work =
    pick (eqb (class_lent_refusal B d work) 0)
    (answers (forbids (ltb d.position.events 65535) (pointer_of d.position.settings r c)) d.position 0)
    (refuses B d.position (class_lent_refusal B d work))

-- a refusal with another position
abbrev pub given_back : Answer → Position → Answer
given_back a p = pick (leb 20 a.number) (record { number = a.number; place = a.place; position = p; value = a.value }) a

-- of a book's settings: question and size are right, and the mode is not 0
abbrev pub mode_wrong : List ℕ → Bool
mode_wrong s = leb (byte_at s 4) 1 && (size_ok (byte_at s 1) (byte_at s 2) && not (eqb (byte_at s 3) 0))

-- and every test before these passes too
unfoldable pub other_mode : List ℕ → Bool
other_mode s = leb 1 (length s) && ((eqb (byte_at s 0) 4 || eqb (byte_at s 0) 5) && (leb (mine_count_at s) (length s) && mode_wrong s))
