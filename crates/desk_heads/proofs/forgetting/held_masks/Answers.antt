use Rattle.desk_heads.proofs.Held.{held_apart, rows_once, held_whole}
use Rattle.desk_heads.proofs.forgetting.held_masks.Goals as goal

pub returns-clause-apart : goal.returns-clause-apart
returns-clause-apart c = held_apart

pub returns-clause-rows : goal.returns-clause-rows
returns-clause-rows c = rows_once

pub returns-clause-whole : goal.returns-clause-whole
returns-clause-whole c = held_whole
