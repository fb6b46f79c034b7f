-- The refusals by number, and the number that a test answers: that of its refusal, or 0.
use Rattle.std.specs.Prelude.{ℕ, Result, Ok, Err}
use Rattle.rules.specs.declared.Refusal.{Refusal}
use Rattle.rules.specs.declared.Refusal.TheVariants.{Size, Length, Value, Number, AllMines, Mode, Pointer, Full, PreFlag, Event, Forbidden, Short, Byte, MineList, Surplus, TooMany, Rules, Mark, Measure, Maximum, Cell, End, Stop, Stride, Room, Claims, Shown, Bits, Counts, States}

abbrev pub refusal_number : Refusal → ℕ
refusal_number Size = 20
refusal_number Length = 21
refusal_number Value = 22
refusal_number Number = 23
refusal_number AllMines = 24
refusal_number Mode = 25
refusal_number Pointer = 30
refusal_number Full = 31
refusal_number PreFlag = 32
refusal_number Event = 33
refusal_number Forbidden = 34
refusal_number Short = 40
refusal_number Byte = 41
refusal_number MineList = 42
refusal_number Surplus = 43
refusal_number TooMany = 44
refusal_number Rules = 45
refusal_number Mark = 60
refusal_number Measure = 61
refusal_number Maximum = 62
refusal_number Cell = 63
refusal_number End = 64
refusal_number Stop = 70
refusal_number Stride = 71
refusal_number Room = 72
refusal_number Claims = 80
refusal_number Shown = 261
refusal_number Bits = 262
refusal_number Counts = 263
refusal_number States = 264

abbrev pub found_number : Result Unit Refusal → ℕ
found_number (Ok _) = 0
found_number (Err r) = refusal_number r
