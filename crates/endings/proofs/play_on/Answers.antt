use Rattle.games.proofs.Games.{game_lawful_lem, game_blank}
use Rattle.endings.proofs.Ending.{events_whole, last_played}
use Rattle.endings.proofs.play_on.Goals as goal

-- src/lib.rt:25:5
pub flow-requires : goal.flow-requires
flow-requires c = record { lawful_at = game_lawful_lem _ c.args.b c.requires.b_value.0 c.requires.b_value.1 c.begin-p.ensures; blank = game_blank _ c.args.b c.requires.b_value.0 c.requires.b_value.1 c.begin-p.ensures; events_len = events_whole _ c.args.b c.requires.b_value.0 c.requires.b_value.1 c.events-events.ensures }

-- src/lib.rt:11:1
pub returns : goal.returns
returns c = last_played _ c.args.b c.requires.b_value.0 c.requires.b_value.1 c.events-events.ensures c.begin-p.ensures c.flow.ensures
