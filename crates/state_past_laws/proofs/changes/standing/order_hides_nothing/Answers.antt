use Rattle.std.proofs.Common.{List, ap, sym}
use Rattle.std.specs.Option.{option_map}
use Rattle.filter_state.specs.States.{Action}
use Rattle.filter_state.specs.Actions.{has_serial}
use Rattle.filter_state.specs.Tables.{first_where}
use Rattle.state_past_laws.proofs.OfChanges.Stood.{slot_same, words_same}
use Rattle.state_past_laws.proofs.changes.standing.order_hides_nothing.Goals as goal

pub returns-clause-slots : goal.returns-clause-slots
returns-clause-slots c = slot_same

pub returns-clause-masks : goal.returns-clause-masks
returns-clause-masks c = words_same

pub returns-clause-actions : goal.returns-clause-actions
returns-clause-actions c = λ s t same serial. ap (λ (xs : List Action). option_map (λ (action : Action). action.params) (first_where (has_serial serial) xs)) (sym same.actions)
