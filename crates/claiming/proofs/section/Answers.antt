use Rattle.claiming.proofs.Sections.{counts_are, counts_room, state_room, section_made}
use Rattle.claiming.proofs.section.Goals as goal

pub put_fours-last-requires : goal.put_fours-last-requires
put_fours-last-requires c = rw (counts_are c.args.p c.ten_values-values.ensures) (counts_room c.args.p c.put_byte-first.ensures)

pub put_byte-requires : goal.put_byte-requires
put_byte-requires c =
    let counts = rw (counts_are c.args.p c.ten_values-values.ensures) at c.put_fours-last.ensures in
    state_room c.args.p c.put_byte-first.ensures counts c.from.ensures

pub returns : goal.returns
returns c =
    let counts = rw (counts_are c.args.p c.ten_values-values.ensures) at c.put_fours-last.ensures in
    section_made c.args.p c.put_byte-first.ensures counts c.from.ensures c.put_byte.ensures
