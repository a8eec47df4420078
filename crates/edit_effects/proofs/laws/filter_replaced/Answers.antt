use Rattle.std.proofs.Common.{ap}
use Rattle.filter_state.specs.Steps.{replace_or_add}
use Rattle.edit_effects.proofs.OfEffects.InPlace.{replaced_in_place}
use Rattle.edit_effects.proofs.OfEffects.Moved.{replaced_key, replaced_mask}
use Rattle.edit_effects.proofs.laws.filter_replaced.Goals as goal

pub returns-clause-in_place : goal.returns-clause-in_place
returns-clause-in_place c = replaced_in_place

pub returns-clause-other_key : goal.returns-clause-other_key
returns-clause-other_key c = replaced_key

pub returns-clause-other_mask : goal.returns-clause-other_mask
returns-clause-other_mask c = λ s t line pref handle serials row sound e is differs.
    let moved = replaced_mask s t line pref handle serials row sound e is differs in
    (moved.0, moved.1, moved.2, moved.3.0, moved.3.1, moved.3.2, moved.3.3)

pub returns-clause-added : goal.returns-clause-added
returns-clause-added c = λ s line is. ap (replace_or_add s line) is
