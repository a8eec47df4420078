use Rattle.std.proofs.Common.{◌≡◌, ◌≢◌, subst}
use Rattle.desk_needs.specs.declared.needs.Needs.{Needs}
use Rattle.shared_hook.specs.OfDeskEdits.Spent.{HasRoom}
use Rattle.shared_hook.proofs.OfPlans.Roomy.{means_fit}
use Rattle.shared_hook.proofs.plans.means.Means.new.Goals as goal

pub returns-clause-room : goal.returns-clause-room
returns-clause-room c = let is = c.needs-needs.ensures in let again = c.blocks_with_rows-again.result in
    means_fit c.args.way.now _ again _ _ c.requires.few c.laid_filters-to.ensures
    (subst (λ (n : Needs). n.rows ≢ 0 → again ≡ n.blocks) is c.blocks_with_rows-again.ensures)
    (subst (λ (n : Needs). HasRoom c.in_ok-room_for.field-0.numbers n.blocks n.rows) is c.in_ok-room_for.ensures.numbers)
    (subst (λ (n : Needs). HasRoom c.in_ok-room_for-2.field-0.numbers again n.rows) is c.in_ok-room_for-2.ensures.numbers)
    c.in_ok-room_for.ensures.filters c.in_ok-room_for-2.ensures.filters
