use Rattle.store_history.proofs.Histories.{named_longer, named_push, named_later}
use Rattle.store_history.proofs.laws.named_blocks_grow.Goals as goal

pub returns-clause-kept : goal.returns-clause-kept
returns-clause-kept g c = named_longer

pub returns-clause-added : goal.returns-clause-added
returns-clause-added g c = named_push

pub returns-clause-later : goal.returns-clause-later
returns-clause-later g c = named_later
