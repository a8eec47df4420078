use Rattle.batch_trace.proofs.Parts.{walk_traced, walk_each}
use Rattle.batch_trace.proofs.laws.walks_are_traced.Goals as goal

pub returns-clause-text : goal.returns-clause-text
returns-clause-text c = walk_traced

pub returns-clause-each : goal.returns-clause-each
returns-clause-each c = walk_each
