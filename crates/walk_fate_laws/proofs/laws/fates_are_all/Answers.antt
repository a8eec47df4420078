use Rattle.walk_fate_laws.proofs.Telling.{can_have, had_is_told, told_once, told_is_witness}
use Rattle.walk_fate_laws.proofs.laws.fates_are_all.Goals as goal

pub returns-clause-had : goal.returns-clause-had
returns-clause-had c = can_have

pub returns-clause-all : goal.returns-clause-all
returns-clause-all c = λ states before ceiling hook bytes fate few.
    had_is_told states before ceiling hook bytes few fate

pub returns-clause-once : goal.returns-clause-once
returns-clause-once c = told_once

pub returns-clause-witness : goal.returns-clause-witness
returns-clause-witness c = told_is_witness
