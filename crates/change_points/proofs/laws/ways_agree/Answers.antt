use Rattle.std.proofs.Common.{List, length, take, ap}
use Rattle.std.specs.Prelude.{nat_lt}
use Rattle.walk_rules.specs.Questions.{Answer}
use Rattle.walk_rules.specs.Steps.{Standing}
use Rattle.walk_fate_laws.specs.declared.limits.TheConstants.{WAYS_MAX}
use Rattle.walk_fate_laws.specs.Ways.{Way}
use Rattle.walk_fate_laws.specs.Told.{first_fates}
use Rattle.change_points.proofs.Answered.{ways_same}
use Rattle.change_points.proofs.laws.ways_agree.Goals as goal

pub returns-clause-ways : goal.returns-clause-ways
returns-clause-ways c = λ change ceiling bytes. ways_same change ceiling bytes

pub returns-clause-fates : goal.returns-clause-fates
returns-clause-fates c = λ change ceiling bytes.
    ap (λ (ways : List (Way Standing Answer)). first_fates (take WAYS_MAX ways)) (ways_same change ceiling bytes)

pub returns-clause-more : goal.returns-clause-more
returns-clause-more c = λ change ceiling bytes.
    ap (λ (ways : List (Way Standing Answer)). nat_lt WAYS_MAX (length ways)) (ways_same change ceiling bytes)
