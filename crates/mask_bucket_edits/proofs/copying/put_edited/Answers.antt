use Rattle.std.proofs.Common.{ap, slice_get}
use Rattle.mask_bucket_edits.specs.Putting.{listed}
use Rattle.mask_bucket_edits.proofs.copying.put_edited.Goals as goal

pub put_changed-requires-clause-storable : goal.put_changed-requires-clause-storable
put_changed-requires-clause-storable g c = c.requires.storable c.in-Some.filter.now (0, ap (λ w. slice_get (listed w) 0) c.in-Some.is)
