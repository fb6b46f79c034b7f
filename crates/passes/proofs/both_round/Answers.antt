-- `passes::both_round` meets its contract: what the flag pass leaves is ready for the chord pass.
use mathlib.Core.Path.{refl}
use Rattle.passes.proofs.Turns.{prepared_flaggable, turn_asks, turn_is}
use Rattle.passes.proofs.both_round.Goals as goal

pub flag_pass-q-requires : goal.flag_pass-q-requires
flag_pass-q-requires c = let whole = prepared_flaggable _ _ _ c.requires in record { flaggable = whole.0; shown_bound = whole.1 }

pub chord_pass-s-requires : goal.chord_pass-s-requires
chord_pass-s-requires c = let whole = turn_asks _ _ _ _ c.requires c.flag_pass-q.ensures in record { laid_at = whole.0; pass_room_at = whole.1 }

pub returns : goal.returns
returns c = turn_is _ _ _ _ c.requires c.flag_pass-q.ensures _ _ _ _ c.chord_pass-s.ensures refl c.goes_on-any.ensures
