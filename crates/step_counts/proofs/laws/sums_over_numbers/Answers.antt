use Rattle.step_counts.proofs.Sums.{sums_once}
use Rattle.step_counts.proofs.laws.sums_over_numbers.Goals as goal

pub returns : goal.returns
returns c = λ weight bound numbers each. sums_once weight bound numbers each
