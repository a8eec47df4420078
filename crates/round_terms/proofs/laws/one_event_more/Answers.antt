use Rattle.std.proofs.Common.{refl}
use Rattle.std.specs.Prelude.{◌||◌}
use Rattle.run_report.specs.Counts.{is_accepted}
use Rattle.round_terms.proofs.Standing.{is_turned}
use Rattle.round_terms.proofs.laws.one_event_more.Goals as goal

pub returns : goal.returns
returns c = λ files controls before journal later events places control file place text line next kind under named more met.
    is_turned (record { under = under; named = named }) control file place text line next more later kind (file.force || is_accepted kind) met refl
