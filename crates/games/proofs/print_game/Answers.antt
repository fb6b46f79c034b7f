-- `games::print_game` meets its contract: each part finds what the one before it left, and the three texts make the printout.
use mathlib.Core.Path.{◌∙◌}
use Rattle.games.proofs.Games.{game_lawful_lem, game_blank, game_events, game_ends, game_printed}
use Rattle.games.proofs.print_game.Goals as goal

pub play_events-t-requires : goal.play_events-t-requires
play_events-t-requires c = let args = c.args in record { lawful_at = game_lawful_lem _ args.b c.requires.b_value.0 c.requires.b_value.1 c.begin-p.ensures; blank = game_blank _ args.b c.requires.b_value.0 c.requires.b_value.1 c.begin-p.ensures; events_fit = game_events _ args.b c.requires.b_value.0 c.requires.b_value.1 c.begin-p.ensures c.requires.in_bounds c.put_game_line-first.ensures c.events-events.ensures }

pub finish-requires : goal.finish-requires
finish-requires c = let args = c.args in let whole = game_ends _ args.b c.requires.b_value.0 c.requires.b_value.1 c.begin-p.ensures c.requires.in_bounds c.put_game_line-first.ensures c.events-events.ensures c.play_events-t.ensures in record { mined = whole.0; blank = whole.1.0; rows_fit = whole.1.1 }

pub shape_of-mines : goal.shape_of-mines
shape_of-mines c = c.begin-p.auto.mines

pub shape_of-shown : goal.shape_of-shown
shape_of-shown c = c.play_events-t.auto.shown ∙ c.begin-p.auto.shown

pub shape_of-bits : goal.shape_of-bits
shape_of-bits c = c.play_events-t.auto.bits ∙ c.begin-p.auto.bits

pub shape_of-work : goal.shape_of-work
shape_of-work c = c.finish.auto.work ∙ c.play_events-t.auto.work ∙ c.begin-p.auto.work

pub returns : goal.returns
returns c = let args = c.args in game_printed _ args.b c.requires.b_value.0 c.requires.b_value.1 c.begin-p.ensures c.requires.in_bounds c.put_game_line-first.ensures c.events-events.ensures c.play_events-t.ensures c.finish.ensures
