use Rattle.std.proofs.Common.{ℕ, Vec, Global, sym, subst}
use Rattle.hook_store_law.specs.OfEdits.Premises.{now}
use Rattle.filter_lists.specs.Spells.{Spells}
use Rattle.desk_parts.specs.declared.parts.Parts.{Parts}
use Rattle.desk_actions.specs.OfLedgers.Kept.{commits}
use Rattle.desk_parts.specs.OfLineActions.Gone.{NamesGone}
use Rattle.shared_hook.proofs.plans.plan.plan_filters.Goals as goal

pub returns-clause-plan : goal.returns-clause-plan
returns-clause-plan c = let told = c.in_ok-means.ensures in record {
  filters = c.requires.filters;
  is = c.way_of-way.ensures.way;
  few = c.way_of-way.ensures.few;
  gone = subst (λ (v : Vec ℕ Global). NamesGone (now (commits c.args.parts.now.ledger)) c.args.edit.now v.items) (sym told.gone)
      (c.in_ok-gone.ensures (now (commits c.args.parts.now.ledger)) (subst (λ (p : Parts). Spells p.ledger.lists (now (commits c.args.parts.now.ledger))) (sym c.way_of-way.ensures.same) c.requires.desk.whole.spells));
  has = told.room;
}
