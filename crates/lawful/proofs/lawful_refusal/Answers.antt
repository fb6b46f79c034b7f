-- `lawful::lawful_refusal` meets its contract: the first part that fails gives its number.
use native.Mathlib.Omega.{arith}
use Rattle.lawful.proofs.Tests.{opens_fit, unopened_is, counted_right, refused_shown, refused_bits, refused_counts, refused_states, refused_none}
use mathlib.Core.Path.{ap}
use mathlib.Core.Bool.{not}
use Rattle.lawful.proofs.lawful_refusal.Goals as goal

pub returns-then-not-shown_lawful : goal.returns-then-not-shown_lawful
returns-then-not-shown_lawful c = refused_shown _ _ (c.shown_lawful.ensures _) (ap not c.if-not-shown_lawful.true)

pub returns-then-not-bits_lawful : goal.returns-then-not-bits_lawful
returns-then-not-bits_lawful c = refused_bits _ _ (c.shown_lawful.ensures _) (ap not c.if-not-shown_lawful.false) (c.bits_lawful.ensures _ _) (ap not c.if-not-bits_lawful.true)

pub safe_cells-safe-requires : goal.safe_cells-safe-requires
safe_cells-safe-requires c = record { valued = c.requires.valued; mines_len_bound = omega (arith, c.requires.same, c.requires.cells) }

pub overflow_sub-unopened : goal.overflow_sub-unopened
overflow_sub-unopened c = opens_fit _ _ _ (c.shown_lawful.ensures c.args.bits.now) (ap not c.if-not-shown_lawful.false) c.requires.same c.take_census-c.ensures c.safe_cells-safe.ensures

pub returns-then-not-counts_lawful : goal.returns-then-not-counts_lawful
returns-then-not-counts_lawful c = let shown = c.shown_lawful.ensures c.args.bits.now in
    let right = unopened_is _ _ _ shown (ap not c.if-not-shown_lawful.false) c.requires.same c.take_census-c.ensures c.safe_cells-safe.ensures in
    refused_counts _ _ shown (ap not c.if-not-shown_lawful.false) (c.bits_lawful.ensures _ _) (ap not c.if-not-bits_lawful.false) (c.counts_lawful.ensures _ _ _ c.take_census-c.ensures right) (ap not c.if-not-counts_lawful.true)

pub returns-then-not-states_lawful : goal.returns-then-not-states_lawful
returns-then-not-states_lawful c = let shown = c.shown_lawful.ensures c.args.bits.now in
    let right = unopened_is _ _ _ shown (ap not c.if-not-shown_lawful.false) c.requires.same c.take_census-c.ensures c.safe_cells-safe.ensures in
    let counts = c.counts_lawful.ensures _ _ c.args.bits.now c.take_census-c.ensures right in
    refused_states _ _ shown (ap not c.if-not-shown_lawful.false) (c.bits_lawful.ensures _ _) (ap not c.if-not-bits_lawful.false) counts (ap not c.if-not-counts_lawful.false) (c.states_lawful.ensures _ _ _ c.take_census-c.ensures (counted_right _ _ counts (ap not c.if-not-counts_lawful.false))) (ap not c.if-not-states_lawful.true)

pub returns : goal.returns
returns c = let shown = c.shown_lawful.ensures c.args.bits.now in
    let right = unopened_is _ _ _ shown (ap not c.if-not-shown_lawful.false) c.requires.same c.take_census-c.ensures c.safe_cells-safe.ensures in
    let counts = c.counts_lawful.ensures _ _ c.args.bits.now c.take_census-c.ensures right in
    refused_none _ _ shown (ap not c.if-not-shown_lawful.false) (c.bits_lawful.ensures _ _) (ap not c.if-not-bits_lawful.false) counts (ap not c.if-not-counts_lawful.false) (c.states_lawful.ensures _ _ _ c.take_census-c.ensures (counted_right _ _ counts (ap not c.if-not-counts_lawful.false))) (ap not c.if-not-states_lawful.false)
