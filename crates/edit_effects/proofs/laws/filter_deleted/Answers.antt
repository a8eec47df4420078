use Rattle.edit_effects.proofs.OfEffects.Deleting.{filter_deleted, table_deleted}
use Rattle.edit_effects.proofs.laws.filter_deleted.Goals as goal

pub returns-clause-from_mask : goal.returns-clause-from_mask
returns-clause-from_mask c = λ s t hook protocol chain pref handle done sound e.
    let left = filter_deleted s t hook protocol chain pref handle done sound e in
    (left.0, left.1.0, left.1.1, left.1.2, left.1.3)

pub returns-clause-table : goal.returns-clause-table
returns-clause-table c = table_deleted
