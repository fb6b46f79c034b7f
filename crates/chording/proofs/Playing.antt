-- Whether a game is being played: the derived equality as the definition has it.
use mathlib.Core.Path.{◌≡◌, refl, sym, ◌∙◌}
use mathlib.Core.Bool.{Bool, true, false, not}
use borrow.Author.Tests.{not-true, not-false}
use denote.Enum.Bare.{sameb}
use Rattle.rules.specs.contracts.GameState.{the_type}
use Rattle.rules.specs.declared.GameState.{GameState}
use Rattle.rules.specs.declared.GameState.TheVariants.{Ready, Playing, Win, Loss, PreFlaging}
use Rattle.rules.specs.States.{is_playing}

pub playing_is : (g : GameState) → sameb the_type g Playing ≡ is_playing g
playing_is Ready = refl
playing_is Playing = refl
playing_is Win = refl
playing_is Loss = refl
playing_is PreFlaging = refl

-- from the test that it is not
pub is_over : (g : GameState) (ne : Bool) → ne ≡ not (sameb the_type g Playing) → ne ≡ true → is_playing g ≡ false
is_over g ne e t = sym (playing_is g) ∙ not-true _ (sym e ∙ t)

pub is_on : (g : GameState) (ne : Bool) → ne ≡ not (sameb the_type g Playing) → ne ≡ false → is_playing g ≡ true
is_on g ne e t = sym (playing_is g) ∙ not-false _ (sym e ∙ t)
