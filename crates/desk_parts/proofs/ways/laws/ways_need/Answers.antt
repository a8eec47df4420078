use Rattle.desk_parts.proofs.OfWays.Needed.{ways_need}
use Rattle.desk_parts.proofs.ways.laws.ways_need.Goals as goal

pub returns : goal.returns
returns c = λ h b y t done way a. ways_need h b y t done a way
