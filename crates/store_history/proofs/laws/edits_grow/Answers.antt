use Rattle.std.proofs.lemmas.List.Elements.{filter_map-append}
use Rattle.store_history.proofs.laws.edits_grow.Goals as goal

pub returns : goal.returns
returns g c = λ h rest. filter_map-append _ h rest
