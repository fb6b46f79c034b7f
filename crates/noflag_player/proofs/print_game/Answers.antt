-- `noflag_player::print_game` meets its contract: each part finds what the one before it left, and the four texts make the printout.
use mathlib.Core.Path.{◌∙◌, sym}
use lib.Seq.{length-take-le}
use Rattle.games.proofs.Games.{game_lawful_lem, game_blank, game_events}
use Rattle.noflag_player.proofs.Games.{book_same, cut_fit, barred_fits, ends, printed}
use Rattle.noflag_player.proofs.print_game.Goals as goal

pub begin-p-requires : goal.begin-p-requires
begin-p-requires c = let a = c.args in record { b_value = (book_same _ a.b c.requires.b_value.0 c.requires.b_value.1, c.requires.b_value.1); fit = c.requires.fit }

pub free-n-requires : goal.free-n-requires
free-n-requires c = let a = c.args in (game_events _ a.b (book_same _ a.b c.requires.b_value.0 c.requires.b_value.1) c.requires.b_value.1 c.begin-p.ensures c.requires.in_bounds c.put_game_line-first.ensures c.events-events.ensures).whole

pub slice_bounds-play_events-end : goal.slice_bounds-play_events-end
slice_bounds-play_events-end c = sym (length-take-le _ _ c.free-n.ensures.within)

pub play_events-t-requires : goal.play_events-t-requires
play_events-t-requires c = let a = c.args in let same = book_same _ a.b c.requires.b_value.0 c.requires.b_value.1 in record { lawful_at = game_lawful_lem _ a.b same c.requires.b_value.1 c.begin-p.ensures; blank = game_blank _ a.b same c.requires.b_value.1 c.begin-p.ensures; events_fit = cut_fit _ a.b c.requires.b_value.0 c.requires.b_value.1 c.begin-p.ensures c.requires.in_bounds c.put_game_line-first.ensures c.events-events.ensures c.free-n.ensures }

pub put_barred-at-requires : goal.put_barred-at-requires
put_barred-at-requires c = let a = c.args in barred_fits _ a.b c.requires.b_value.0 c.requires.b_value.1 c.begin-p.ensures c.requires.in_bounds c.put_game_line-first.ensures c.events-events.ensures c.free-n.ensures c.play_events-t.ensures

pub finish-requires : goal.finish-requires
finish-requires c = let a = c.args in let whole = ends _ a.b c.requires.b_value.0 c.requires.b_value.1 c.begin-p.ensures c.requires.in_bounds c.put_game_line-first.ensures c.events-events.ensures c.free-n.ensures c.play_events-t.ensures c.put_barred-at.ensures in record { mined = whole.0; blank = whole.1.0; rows_fit = whole.1.1 }

pub shape_of-mines : goal.shape_of-mines
shape_of-mines c = c.begin-p.auto.mines

pub shape_of-shown : goal.shape_of-shown
shape_of-shown c = c.play_events-t.auto.shown ∙ c.begin-p.auto.shown

pub shape_of-bits : goal.shape_of-bits
shape_of-bits c = c.play_events-t.auto.bits ∙ c.begin-p.auto.bits

pub shape_of-work : goal.shape_of-work
shape_of-work c = c.finish.auto.work ∙ (c.play_events-t.auto.work ∙ c.begin-p.auto.work)

pub shape_of-out : goal.shape_of-out
shape_of-out c = c.finish.auto.out ∙ (c.put_barred-at.auto.out ∙ (c.play_events-t.auto.out ∙ c.put_game_line-first.auto.out))

pub returns : goal.returns
returns c = let a = c.args in printed _ a.b c.requires.b_value.0 c.requires.b_value.1 c.begin-p.ensures c.requires.in_bounds c.put_game_line-first.ensures c.events-events.ensures c.free-n.ensures c.play_events-t.ensures c.put_barred-at.ensures c.finish.ensures
