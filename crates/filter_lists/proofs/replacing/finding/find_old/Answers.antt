use Rattle.std.proofs.Common.{sym, ◌∙◌, subst}
use Rattle.filter_tables.specs.Seen.{plain_table}
use Rattle.hook_lists.proofs.Sought.{place_within}
use Rattle.filter_lists.specs.OfReplacing.Replacements.{IsFound}
use Rattle.filter_lists.proofs.OfReplacing.Found.{no_table, no_old, old_found}
use Rattle.filter_lists.proofs.replacing.finding.find_old.Goals as goal

pub table_at-requires : goal.table_at-requires
table_at-requires c = place_within _ _ _ (sym c.find_table.ensures ∙ c.in_ok-table.was)

pub returns-in_err-table : goal.returns-in_err-table
returns-in_err-table c =
    subst (IsFound c.args.kept.now c.args.line.now) (sym c.from_residual.ensures)
    (no_table c.args.kept.now c.args.line.now c.unwrap_or-pref.result c.unwrap_or-handle.result c.unwrap_or-pref.ensures c.unwrap_or-handle.ensures (sym c.find_table.ensures ∙ c.in_err-table.was))

pub returns-in_err-mask : goal.returns-in_err-mask
returns-in_err-mask c =
    subst (IsFound c.args.kept.now c.args.line.now) (sym c.from_residual-in_err-mask.ensures)
    (no_old c.args.kept.now c.args.line.now c.unwrap_or-pref.result c.unwrap_or-handle.result c.unwrap_or-pref.ensures c.unwrap_or-handle.ensures c.in_ok-table.table (plain_table c.table_at.result.now) c.requires
    (sym c.find_table.ensures ∙ c.in_ok-table.was) c.table_at.ensures (sym c.find_handle.ensures ∙ c.in_err-mask.was))

pub returns : goal.returns
returns c =
    old_found c.args.kept.now c.args.line.now c.unwrap_or-pref.result c.unwrap_or-handle.result c.unwrap_or-pref.ensures c.unwrap_or-handle.ensures c.in_ok-table.table c.in_ok-mask.mask (plain_table c.table_at.result.now)
    c.requires (sym c.find_table.ensures ∙ c.in_ok-table.was) c.table_at.ensures (sym c.find_handle.ensures ∙ c.in_ok-mask.was)
