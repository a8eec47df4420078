use Rattle.std.proofs.Common.{◌≤◌, length}
use Rattle.batch_run.proofs.Logging.{AreLater}
use Rattle.round_terms.proofs.new_names.first_later.Given as goal

abbrev pub invariant-loop-first : goal.invariant-loop-first
invariant-loop-first l = record { within : l.first ≤ length l.entries; later : AreLater l.before l.first l.entries }

abbrev pub decreases-loop-first : goal.decreases-loop-first
decreases-loop-first l = l.first
