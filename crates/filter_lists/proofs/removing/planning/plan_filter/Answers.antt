use Rattle.std.proofs.Common.{sym, ◌∙◌}
use Rattle.filter_tables.specs.Seen.{plain_table}
use Rattle.hook_lists.proofs.Sought.{place_within}
use Rattle.filter_lists.proofs.OfRemoving.Planned.{refused_no_filter, filter_planned}
use Rattle.filter_lists.proofs.removing.planning.plan_filter.Goals as goal

pub table_at-requires : goal.table_at-requires
table_at-requires c = place_within _ _ _ c.requires.place

pub returns-in-None : goal.returns-in-None
returns-in-None c =
    refused_no_filter c.args.kept.now c.args.hook c.args.chain c.args.pref c.args.table c.args.handle (plain_table c.table_at.result.now) c.requires.kept c.requires.place c.table_at.ensures
    (sym c.find_handle.ensures ∙ c.in-None.is)

pub returns-in-Some : goal.returns-in-Some
returns-in-Some c =
    filter_planned c.args.kept.now c.args.hook c.args.chain c.args.pref c.args.table c.args.handle c.in-Some.mask (plain_table c.table_at.result.now) c.requires.kept c.requires.place
    c.table_at.ensures (sym c.find_handle.ensures ∙ c.in-Some.is)
