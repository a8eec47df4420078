use Rattle.step_counts.proofs.EachOnce.{each_once}
use Rattle.step_counts.proofs.laws.each_number_once.Goals as goal

pub returns : goal.returns
returns c = λ bound last first others each all. each_once bound last first others each all
