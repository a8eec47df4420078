use Rattle.std.proofs.Common.{◌≡◌, ◌∙◌, ◌<◌, ◌++◌, List, length, map, Some, sym, ap, subst}
use Rattle.std.proofs.lemmas.List.{length-map}
use Rattle.filter_tables.specs.Plain.{PlainTable}
use Rattle.filter_tables.specs.Places.{item_at}
use Rattle.filter_tables.specs.Seen.{plain_table}
use Rattle.state_past.specs.declared.gone_filters.going.GoingFilter.{GoingFilter}
use Rattle.state_past.specs.OfGoneFilters.Marks.{marked, marks_of}
use Rattle.hook_lists.proofs.Sought.{place_within, its_names}
use Rattle.state_past.proofs.OfGoneFilters.Finding.{no_marks, table_marks}
use Rattle.state_past.proofs.gone_filters.telling.going_of_table.Goals as goal

pub table_at-table-requires : goal.table_at-table-requires
table_at-table-requires c = subst (λ n. c.in-Some.place < n) (ap length (sym c.tables-tables.ensures.tables) ∙ length-map c.tables-tables.result.now plain_table)
    (place_within _ _ _ (sym c.find_table.ensures ∙ c.in-Some.is))

pub returns-in_default : goal.returns-in_default
returns-in_default c = ap (λ (gs : List GoingFilter). map marked gs) c.new-going.ensures.items
    ∙ no_marks c.args.lists.now c.tables-tables.ensures.kept c.args.hook c.args.chain c.args.pref (sym c.find_table.ensures ∙ c.in_default.is)

pub returns : goal.returns
returns c = let here = subst (λ (ts : List PlainTable). item_at ts c.in-Some.place ≡ Some (plain_table c.table_at-table.result.now)) c.tables-tables.ensures.tables c.table_at-table.ensures in
    let t = plain_table c.table_at-table.result.now in
    c.in_ok-add_table.ensures ∙ (ap (λ (gs : List GoingFilter). map marked gs ++ marks_of c.args.hook t) c.new-going.ensures.items
    ∙ table_marks c.args.lists.now c.tables-tables.ensures.kept c.args.hook c.args.chain c.args.pref c.in-Some.place t here (its_names _ _ _ _ _ (sym c.find_table.ensures ∙ c.in-Some.is) here))
