use Rattle.walk_fate_laws.proofs.Differing.{one_way}
use Rattle.walk_fate_laws.proofs.games.ways_differ.Goals as goal

pub returns : goal.returns
returns c = λ start g exact depth ceiling st low one other there also is.
    one_way g ceiling exact depth st low one other there also is
