-- `opening::touch` meets its contract: each way through the code is a case of the definition. Assumes nothing.
use mathlib.Core.Path.{sym, ◌∙◌}
use native.Mathlib.Omega.{arith}
use Rattle.opening.proofs.Touching.{roomy_closed, moved_zero, moved_mine, moved_number, moved_shut}
use Rattle.opening.proofs.Ticking.{ticked_none, ticked_number, ticked_mine, safe_number, open_most}
use Rattle.opening.proofs.touch.Goals as goal

pub face_at-v-requires : goal.face_at-v-requires
face_at-v-requires c = let l = (roomy_closed _ _ _ _ _ c.requires.roomy (sym c.closed.ensures ∙ c.if-closed.true)).0 in record { cell_in_bounds = omega (arith, c.requires.roomy.same); valued = c.requires.roomy.valued }

pub bounds-shown-q : goal.bounds-shown-q
bounds-shown-q c = let l = (roomy_closed _ _ _ _ _ c.requires.roomy (sym c.closed.ensures ∙ c.if-closed.true)).0 in omega arith

pub returns-then-v-eq15 : goal.returns-then-v-eq15
returns-then-v-eq15 c = let e = sym c.closed.ensures ∙ c.if-closed.true in
    (moved_mine _ _ _ _ _ _ _ e c.face_at-v.ensures c.if-v-eq15.true, ticked_mine _ _ _ _ e c.if-v-eq15.true)

pub overflow_add-opened : goal.overflow_add-opened
overflow_add-opened c = let o = open_most c.args.shown.now in
    record { fits = omega (arith, o, c.requires.opened_bound, c.requires.roomy.small) }

pub overflow_cast-work : goal.overflow_cast-work
overflow_cast-work c = let l = (roomy_closed _ _ _ _ _ c.requires.roomy (sym c.closed.ensures ∙ c.if-closed.true)).1.0 in omega arith

pub bounds-work-past : goal.bounds-work-past
bounds-work-past c = let l = (roomy_closed _ _ _ _ _ c.requires.roomy (sym c.closed.ensures ∙ c.if-closed.true)).1.1 in omega arith

pub returns-then-v-eq0 : goal.returns-then-v-eq0
returns-then-v-eq0 c = let e = sym c.closed.ensures ∙ c.if-closed.true in
    (moved_zero _ _ _ _ _ _ _ e c.face_at-v.ensures c.if-v-eq0.true (roomy_closed _ _ _ _ _ c.requires.roomy e).1.1, ticked_number _ _ _ _ e (safe_number c.args.mines.now c.args.shown.now c.args.q _ c.requires.roomy.valued c.requires.roomy.same e c.face_at-v.ensures c.if-v-eq15.false))

pub returns-then-closed : goal.returns-then-closed
returns-then-closed c = let e = sym c.closed.ensures ∙ c.if-closed.true in
    (moved_number _ _ _ _ _ _ _ e c.face_at-v.ensures c.if-v-eq0.false c.if-v-eq15.false, ticked_number _ _ _ _ e (safe_number c.args.mines.now c.args.shown.now c.args.q _ c.requires.roomy.valued c.requires.roomy.same e c.face_at-v.ensures c.if-v-eq15.false))

pub returns : goal.returns
returns c = (moved_shut _ _ _ _ _ _ (sym c.closed.ensures ∙ c.if-closed.false), ticked_none _ _)
