use Rattle.std.proofs.Common.{◌∙◌, ◌≤◌, ◌++◌, ap, subst}
use Rattle.store_history.specs.declared.history.Commit.{Commit}
use Rattle.pin_store.specs.Calls.{seen_by}
use Rattle.filter_state.specs.declared.edit.Edit.{Edit}
use Rattle.hook_store_law.specs.OfEdits.Premises.{now}
use Rattle.desk_actions.specs.OfLedgers.Kept.{commits}
use Rattle.desk_pools.specs.OfTidying.Tidied.{empty_at, emptying}
use Rattle.desk_pools.proofs.OfTidying.Emptied.{mapped_at}
use Rattle.shared_hook.specs.Views.{DeskView, count_of, free_in, journal}
use Rattle.shared_hook.proofs.Rising.{free_rises}
use Rattle.shared_hook.proofs.Shorts.{counted_on}
use Rattle.shared_hook.proofs.Roominess.{same_now}
use Rattle.shared_hook.proofs.desk.Desk.tidy.Goals as goal

-- src/desk.rt:169:5
pub returns-clause-lists : goal.returns-clause-lists
returns-clause-lists c = let v = c.self.view_is in (c.tidy.ensures.lists ∙ ap (λ (d : DeskView). d.lists) v, c.tidy.ensures.journal ∙ ap journal v)

-- src/desk.rt:169:5
pub returns-clause-seen : goal.returns-clause-seen
returns-clause-seen c = let e = c.tidy.ensures.seen in let point = c.self.inside.parts.ledger.point in (
  emptying point e.roots,
  e.seen ∙ ap (λ (d : DeskView). seen_by d.place ++ emptying point e.roots) c.self.view_is,
  λ at d there. let m = mapped_at (empty_at point) e.roots at d there in (ap (λ (x : Commit Edit). x.edit) m.2, ap (λ (x : Commit Edit). x.named.chain) m.2),
)

-- src/desk.rt:169:5
pub returns-clause-free : goal.returns-clause-free
returns-clause-free c = λ pool. subst (λ (d : DeskView). count_of d.free pool ≤ count_of (free_in c.tidy.new.self.pools) pool) c.self.view_is
    (free_rises c.self.inside.parts.pools c.tidy.new.self.pools c.tidy.ensures.tidied pool)

pub invariant_of-self : goal.invariant_of-self
invariant_of-self c = let was = c.self.inside.parts in let after = c.tidy.new.self in let told = c.tidy.ensures in record {
  desk = told.desk;
  counted = counted_on was.pools after.pools (now (commits was.ledger)) (now (commits after.ledger)) told.tidied (same_now (commits was.ledger) (commits after.ledger) told.journal) c.self.invariant.counted;
}
