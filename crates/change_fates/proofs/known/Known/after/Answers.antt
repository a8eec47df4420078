use Rattle.std.proofs.Common.{◌∙◌, List, length, sym, ap}
use Rattle.change_fates.specs.Told.{ChangeAt}
use Rattle.change_fates.proofs.Knowing.{long}
use Rattle.change_fates.proofs.known.Known.after.Goals as goal

pub returns : goal.returns
returns c =
    c.point.ensures ∙ c.self.invariant.kept.remembers.point ∙ sym (long c.self.inside.applied.now c.self.inside.origins.now c.self.invariant)
    ∙ ap (λ (change : ChangeAt). length change.entries) c.self.view_is
