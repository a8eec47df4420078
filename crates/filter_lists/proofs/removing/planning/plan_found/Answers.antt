use Rattle.std.proofs.Common.{Ok, sym, subst}
use Rattle.filter_tables.specs.Rows.{tables_on}
use Rattle.filter_tables.proofs.Moves.{item_there}
use Rattle.hook_lists.specs.States.{both_of, state_of}
use Rattle.hook_lists.proofs.Sought.{place_within}
use Rattle.filter_lists.specs.declared.removing.removal.Removal.TheVariants as removals
use Rattle.filter_lists.specs.OfRemoving.Planning.{step_found}
use Rattle.filter_lists.specs.OfRemoving.Removals.{IsPlanned}
use Rattle.filter_lists.proofs.OfRemoving.Planned.{table_planned}
use Rattle.filter_lists.proofs.removing.planning.plan_found.Goals as goal

pub returns-in-None : goal.returns-in-None
returns-in-None c =
    let kept = c.args.kept.now in
    let t = item_there (tables_on c.args.hook (both_of kept)) c.args.table (place_within _ _ _ c.requires.place) in
    subst (λ handle. IsPlanned kept (Ok (removals.WholeTable c.args.hook c.args.chain c.args.pref c.args.table)) (step_found (state_of kept) c.args.hook c.args.chain c.args.pref handle))
    (sym c.in-None.is) (table_planned kept c.args.hook c.args.chain c.args.pref c.args.table t.0 c.requires.place t.1)
