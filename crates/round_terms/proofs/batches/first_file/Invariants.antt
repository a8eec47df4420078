use Rattle.std.proofs.Common.{◌≡◌, take}
use Rattle.lawful_runs.specs.Given.{batches_named}
use Rattle.round_terms.proofs.batches.first_file.Given as goal

abbrev pub invariant-loop-at : goal.invariant-loop-at
invariant-loop-at l = l.first ≡ batches_named (take l.at l.rounds)
