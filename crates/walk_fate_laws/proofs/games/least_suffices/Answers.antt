use Rattle.walk_fate_laws.proofs.Bounds.{walk_below}
use Rattle.walk_fate_laws.proofs.games.least_suffices.Goals as goal

pub returns : goal.returns
returns c = λ start g ceiling st end low high points answers less walk.
    walk_below g ceiling points answers st end low high less walk
