use Rattle.hook_law.proofs.Slots.{slot_is, bucket_slotted}
use Rattle.hook_law.proofs.reader_laws.slots_tell.Goals as goal

pub returns-clause-slot : goal.returns-clause-slot
returns-clause-slot g c = slot_is g.T.Terms.meaning g.T.Terms.codec

pub returns-clause-filters : goal.returns-clause-filters
returns-clause-filters g c = bucket_slotted g.T.Terms.meaning g.T.Terms.codec
