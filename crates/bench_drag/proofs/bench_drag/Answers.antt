-- `bench_drag::bench_drag` meets its contract: the slider's own.
use mathlib.Core.Path.{ap}
use Rattle.rules.specs.Slides.{Dragged}
use Rattle.bench_drag.proofs.bench_drag.Goals as goal

pub returns : goal.returns
returns c = (ap (λ (o : Dragged). o.kept) c.drag_to-o.ensures, ap (λ (o : Dragged). o.lent) c.drag_to-o.ensures)
