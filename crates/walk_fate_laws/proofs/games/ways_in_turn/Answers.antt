use Rattle.walk_fate_laws.proofs.Turning.{goes_down, ends_here, turns_on, drops_back}
use Rattle.walk_fate_laws.proofs.games.ways_in_turn.Goals as goal

pub returns-clause-down : goal.returns-clause-down
returns-clause-down c = λ start g ceiling turns turn asks are. goes_down g ceiling turns turn asks are

pub returns-clause-end : goal.returns-clause-end
returns-clause-end c = λ start g ceiling turns depth st low is. ends_here g ceiling turns depth st low is

pub returns-clause-next : goal.returns-clause-next
returns-clause-next c = λ start g ceiling turns turn branch others are.
    turns_on g ceiling turns turn branch others are

pub returns-clause-back : goal.returns-clause-back
returns-clause-back c = λ start g ceiling turns turn are. drops_back g ceiling turns turn are
