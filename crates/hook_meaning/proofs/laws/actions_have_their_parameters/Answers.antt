use Rattle.std.proofs.Common.{◌≡◌, Option, Some, None, refl}
use Rattle.std.specs.Option.{option_map}
use Rattle.filter_state.specs.States.{Action}
use Rattle.filter_state.specs.Actions.{has_serial}
use Rattle.filter_state.specs.Tables.{first_where}
use Rattle.hook_meaning.specs.Stated.{ActionTerms, action_stated}
use Rattle.hook_meaning.proofs.laws.actions_have_their_parameters.Goals as goal

same_params : (o : Option Action) → option_map (λ (terms : ActionTerms). terms.params) (option_map action_stated o) ≡ option_map (λ (action : Action). action.params) o
same_params None = refl
same_params (Some action) = refl

pub returns : goal.returns
returns c = λ s serial. same_params (first_where (has_serial serial) s.actions)
