use Rattle.desk_parts.proofs.OfFilterNames.Answering.{answered}
use Rattle.desk_parts.proofs.filter_names.laws.lines_of_filters_answer.Goals as goal

pub returns : goal.returns
returns c = answered
