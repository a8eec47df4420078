use Rattle.desk_heads.proofs.OfMoves.Done.{begins_empty, done_gives}
use Rattle.desk_heads.proofs.moves.laws.built_masks.Goals as goal

pub returns-clause-begins : goal.returns-clause-begins
returns-clause-begins c = begins_empty

pub returns-clause-gives : goal.returns-clause-gives
returns-clause-gives c = done_gives
