use Rattle.report_laws.proofs.OfLineCuts.Tails.{number_split, numbers_same}
use Rattle.report_laws.proofs.line_cuts.laws.ended_numbers.Goals as goal

pub returns-clause-one : goal.returns-clause-one
returns-clause-one c = number_split

pub returns-clause-many : goal.returns-clause-many
returns-clause-many c = numbers_same
