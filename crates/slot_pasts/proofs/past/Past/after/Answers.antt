use Rattle.std.proofs.Common.{◌∙◌, subst}
use Rattle.slot_pasts.specs.Next.{IsNextPut}
use Rattle.slot_pasts.proofs.Next.{steady_to}
use Rattle.slot_pasts.proofs.past.Past.after.Goals as goal

pub returns : goal.returns
returns g c =
    let next = subst (λ p. IsNextPut p c.args.point c.first_after.result)
    (c.deref.ensures.value ∙ c.self.view_is) c.first_after.ensures in
    record { next = next; steady = steady_to _ c.args.point _ next.least }
