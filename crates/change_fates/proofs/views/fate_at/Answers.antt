use Rattle.std.specs.List.{slice_get}
use Rattle.change_fates.proofs.Viewed.{is_seen}
use Rattle.change_fates.proofs.views.fate_at.Goals as goal

pub returns : goal.returns
returns c =
    is_seen (slice_get c.args.fates.now c.args.place) c.verdict.result c.length.result c.meta.result c.bytes.result.now c.points.result.now c.verdict.ensures c.length.ensures c.meta.ensures c.bytes.ensures
    c.points.ensures
