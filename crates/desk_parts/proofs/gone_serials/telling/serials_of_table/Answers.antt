use Rattle.std.proofs.Common.{◌≡◌, ◌∙◌, ◌<◌, ◌++◌, ℕ, List, length, map, Some, sym, ap, subst}
use Rattle.std.specs.List.{flat_map}
use Rattle.std.proofs.lemmas.List.{length-map}
use Rattle.filter_state.specs.Tables.{in_table}
use Rattle.filter_tables.specs.Plain.{PlainMask, PlainTable}
use Rattle.filter_tables.specs.Places.{item_at}
use Rattle.filter_tables.specs.Rows.{tables_on}
use Rattle.filter_tables.specs.Seen.{plain_table}
use Rattle.filter_tables.specs.SeenMask.{plain_mask}
use Rattle.filter_tables.specs.Changes.{is_table}
use Rattle.hook_lists.specs.States.{both_of}
use Rattle.hook_lists.proofs.Sought.{place_within, its_names, place_nowhere}
use Rattle.desk_parts.specs.OfGoneSerials.Same.{serials_in}
use Rattle.desk_parts.proofs.OfGoneSerials.Tables.{table_has, no_table_has}
use Rattle.desk_parts.proofs.OfGoneSerials.Members.{same_and, rows_have}
use Rattle.desk_parts.proofs.gone_serials.telling.serials_of_table.Goals as goal

pub table_at-table-requires : goal.table_at-table-requires
table_at-table-requires c = subst (λ n. c.in-Some.place < n) (ap length (sym c.tables-tables.ensures.tables) ∙ length-map c.tables-tables.result.now plain_table)
    (place_within _ _ _ (sym c.find_table.ensures ∙ c.in-Some.is))

pub returns-in_default : goal.returns-in_default
returns-in_default c = λ s spells. let both = both_of c.args.lists.now in let hook = c.args.hook in
    let none = place_nowhere (is_table c.args.chain c.args.pref) (tables_on hook both) (sym c.find_table.ensures ∙ c.in_default.is) in
    same_and c.new-gone.result.items _ _ (c.new-gone.ensures.items ∙ no_table_has both hook c.args.chain c.args.pref none) (rows_have (in_table hook c.args.chain c.args.pref) spells.rows)

pub returns : goal.returns
returns c = λ s spells. let both = both_of c.args.lists.now in let hook = c.args.hook in
    let here = subst (λ (ts : List PlainTable). item_at ts c.in-Some.place ≡ Some (plain_table c.table_at-table.result.now)) c.tables-tables.ensures.tables c.table_at-table.ensures in
    let t = plain_table c.table_at-table.result.now in
    let told : c.add_masks.new.gone.items ≡ flat_map (λ (m : PlainMask). serials_in m.filters) t.masks =
    c.in_ok-add_masks.ensures ∙ (ap (λ (l : List ℕ). l ++ flat_map (λ (m : PlainMask). serials_in m.filters) (map plain_mask c.as_slice.result.now)) c.new-gone.ensures.items
    ∙ ap (flat_map (λ (m : PlainMask). serials_in m.filters)) c.as_slice.ensures) in
    same_and c.add_masks.new.gone.items _ _
    (told ∙ table_has both hook c.args.chain c.args.pref c.in-Some.place t c.tables-tables.ensures.kept.whole here (its_names _ _ _ _ _ (sym c.find_table.ensures ∙ c.in-Some.is) here))
    (rows_have (in_table hook c.args.chain c.args.pref) spells.rows)
