use Rattle.std.proofs.Common.{subst}
use Rattle.pin_store.specs.Calls.{seen_by}
use Rattle.hook_law.specs.Keeping.{IsAtRest}
use Rattle.hook_store_law.specs.Stated.{hook_meaning}
use Rattle.hook_store_law.specs.Blocks.{hook_codec}
use Rattle.shared_hook.specs.Views.{DeskView}
use Rattle.shared_hook.proofs.desk.Desk.lists.Goals as goal

-- src/desk.rt:61:5
pub returns-clause-rest : goal.returns-clause-rest
returns-clause-rest c = subst (λ (d : DeskView). IsAtRest hook_meaning hook_codec (seen_by d.place)) c.self.view_is c.self.invariant.desk.whole.rest
