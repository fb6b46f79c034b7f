-- What a whole write and a whole read do to the bytes that a writer holds and that a reader has left, where its type says which these are.
use Rattle.std.specs.Prelude.{ℕ, List, ◌<◌, length, take}
use Rattle.std.specs.declared.option.Option.{Option}
use Rattle.std.specs.Io.KnownBytes.{Appends, Consumes, IsAtEnd}

-- a write that failed took a front of the text, and not all of it
abbrev pub AppendsPart : Option (List ℕ) → Option (List ℕ) → List ℕ → Type 0
AppendsPart old new text = (n : ℕ) × (n < length text) × Appends old new (take n text)

-- the n bytes that were read stand at the front of the room, and where they do not fill it the input has ended
abbrev pub ConsumesFull : Option (List ℕ) → Option (List ℕ) → List ℕ → ℕ → Type 0
ConsumesFull old new room n = Consumes old new (take n room) × (n < length room → IsAtEnd new)

-- a read that failed had filled a front of the room, and not all of it
abbrev pub ConsumesPart : Option (List ℕ) → Option (List ℕ) → List ℕ → Type 0
ConsumesPart old new room = (n : ℕ) × (n < length room) × Consumes old new (take n room)
