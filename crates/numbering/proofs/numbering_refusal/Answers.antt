-- `numbering::numbering_refusal` meets its contract: each return is one case of the chain. Assumes nothing.
use mathlib.Core.Path.{◌∙◌, sym}
use Rattle.boards.proofs.Tests.{says_no, says_yes}
use Rattle.numbering.proofs.Numbering.{numbering_size, numbering_long, numbering_odd, numbering_wrong, numbering_full, numbering_passed}
use mathlib.Core.Path.{ap}
use mathlib.Core.Bool.{not}
use Rattle.numbering.proofs.numbering_refusal.Goals as goal

pub returns-then-not-size_ok : goal.returns-then-not-size_ok
returns-then-not-size_ok c = numbering_size _ _ _ _ (says_no c.size_ok.ensures (ap not c.if-not-size_ok.true))

pub returns-then-mines-cell_count : goal.returns-then-mines-cell_count
returns-then-mines-cell_count c = numbering_long _ _ _ _ (says_yes c.size_ok.ensures (ap not c.if-not-size_ok.false))
    (λ e. c.if-mines-cell_count.true (e ∙ sym c.cell_count.ensures.0))

pub returns-then-list-ne0 : goal.returns-then-list-ne0
returns-then-list-ne0 c = numbering_odd _ _ _ _ (says_yes c.size_ok.ensures (ap not c.if-not-size_ok.false))
    (c.if-mines-cell_count.false ∙ c.cell_count.ensures.0) c.if-list-ne0.true

pub returns-then-not-mines_ok : goal.returns-then-not-mines_ok
returns-then-not-mines_ok c = numbering_wrong _ _ _ _
    (says_yes c.size_ok.ensures (ap not c.if-not-size_ok.false))
    (c.if-mines-cell_count.false ∙ c.cell_count.ensures.0) c.if-list-ne0.false
    (says_no c.mines_ok.ensures (ap not c.if-not-mines_ok.true))

pub returns-then-mines-list : goal.returns-then-mines-list
returns-then-mines-list c = numbering_full _ _ _ _
    (says_yes c.size_ok.ensures
    (ap not c.if-not-size_ok.false))
    (c.if-mines-cell_count.false ∙ c.cell_count.ensures.0)
    c.if-list-ne0.false (says_yes c.mines_ok.ensures (ap not c.if-not-mines_ok.false)) c.if-mines-list.true

pub returns : goal.returns
returns c = numbering_passed _ _ _ _
    (says_yes c.size_ok.ensures
    (ap not c.if-not-size_ok.false))
    (c.if-mines-cell_count.false ∙ c.cell_count.ensures.0)
    c.if-list-ne0.false (says_yes c.mines_ok.ensures (ap not c.if-not-mines_ok.false)) c.if-mines-list.false
