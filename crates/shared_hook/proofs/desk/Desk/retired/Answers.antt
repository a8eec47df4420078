use Rattle.std.proofs.Common.{◌≡◌, ◌∙◌, ◌+◌, ap, subst, arith}
use Rattle.pin_store.specs.Calls.{seen_by}
use Rattle.hook_store_law.specs.OfEdits.Premises.{now}
use Rattle.desk_needs.specs.Live.{live_of, size_of_pool}
use Rattle.desk_actions.specs.OfLedgers.Kept.{commits}
use Rattle.shared_hook.specs.declared.counts.PoolCounts.{PoolCounts}
use Rattle.shared_hook.specs.Views.{DeskView, count_of}
use Rattle.shared_hook.proofs.Shorts.{view_adds_up}
use Rattle.shared_hook.proofs.desk.Desk.retired.Goals as goal

pub returns-clause-all : goal.returns-clause-all
returns-clause-all c = let parts = c.self.inside.parts in let sum = view_adds_up parts.pools (now (commits parts.ledger)) c.self.invariant.counted c.args.pool in
    let left = c.of.ensures ∙ ap (λ (p : PoolCounts). count_of p c.args.pool) c.left_in.ensures in
    subst (λ (d : DeskView). count_of d.free c.args.pool + c.of.result + live_of (now (seen_by d.place)) c.args.pool ≡ size_of_pool c.args.pool) c.self.view_is (omega (arith, sum, left))
