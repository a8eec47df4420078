use Rattle.walk_fate_laws.proofs.Searching.{way_is_walk, walk_has_way}
use Rattle.walk_fate_laws.proofs.games.ways_are_all.Goals as goal

pub returns-clause-walks : goal.returns-clause-walks
returns-clause-walks c = λ start g depth ceiling st low way there.
    way_is_walk g ceiling depth st low way there

pub returns-clause-all : goal.returns-clause-all
returns-clause-all c = λ start g exact depth ceiling st end low points answers walk few.
    walk_has_way g ceiling exact depth st end low points answers walk few
