use Rattle.walk_fate_laws.proofs.Meeting.{ways_are_once}
use Rattle.walk_fate_laws.proofs.Telling.{all_rise}
use Rattle.walk_fate_laws.proofs.laws.ways_rise.Goals as goal

pub returns-clause-rise : goal.returns-clause-rise
returns-clause-rise c = all_rise

pub returns-clause-differ : goal.returns-clause-differ
returns-clause-differ c = ways_are_once
