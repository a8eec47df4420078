use Rattle.std.proofs.Common.{◌∙◌, ℕ, sym, ap}
use Rattle.hook_lists.specs.States.{state_of}
use Rattle.state_laws.proofs.OfOrder.States.{same_state_refl}
use Rattle.state_past_laws.specs.OfChanges.Serials.{serial_named}
use Rattle.state_past.specs.Told.{named_in}
use Rattle.state_past.proofs.following.named_before.Goals as goal

pub returns-in-ActionChange : goal.returns-in-ActionChange
returns-in-ActionChange c = let s = state_of c.args.lists.now in c.serial_named.ensures s (same_state_refl s)
    ∙ (ap (λ (n : ℕ). serial_named s c.in-ActionChange.line.kind n) c.unwrap_or.ensures ∙ sym (ap (named_in s) c.in-ActionChange.is))

pub returns-in-ActionDel : goal.returns-in-ActionDel
returns-in-ActionDel c = let s = state_of c.args.lists.now in c.serial_named-in-ActionDel.ensures s (same_state_refl s) ∙ sym (ap (named_in s) c.in-ActionDel.is)
