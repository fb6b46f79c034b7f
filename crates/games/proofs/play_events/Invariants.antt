-- `games::play_events` meets its contract. The invariant: what was played and written leads, with the events left, to the whole row and its lines.
use Rattle.games.proofs.Telling.{Going}
use Rattle.games.proofs.play_events.Given as goal

abbrev pub invariant-loop-event : goal.invariant-loop-event
invariant-loop-event l = Going l.mines l.events l.at l.initial.o l.initial.shown l.initial.bits l.initial.work l.initial.out l.number l.place l.o l.shown l.bits l.work l.out l.event-iterator.size l.event-iterator.rest.now
