-- `last_board::play_to_end` meets its contract: the rooms are enough for every book.
use Rattle.last_board.proofs.Played.{ends}
use Rattle.last_board.proofs.play_to_end.Goals as goal

pub returns : goal.returns
returns c = ends _ _ _ _ _ _ c.requires.s_len_bound c.mine_board-mines.ensures c.requires.value.0 c.flag_bits-bits.ensures c.work_room-work.ensures c.requires.value.1 c.print_book.ensures c.print_book.auto.shown
