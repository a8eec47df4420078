use Rattle.std.proofs.Common.{◌≡◌, ◌∙◌, ◌<◌, List, length, Some, sym, ap, subst}
use Rattle.std.proofs.lemmas.List.{length-map}
use Rattle.filter_state.specs.Tables.{mask_row}
use Rattle.filter_tables.specs.Plain.{PlainTable}
use Rattle.filter_tables.specs.Places.{item_at}
use Rattle.filter_tables.specs.Seen.{plain_table}
use Rattle.filter_tables.specs.SeenMask.{plain_mask}
use Rattle.hook_lists.proofs.Sought.{place_within, its_names}
use Rattle.state_past.specs.OfGoneFilters.Marks.{IsMaskRow}
use Rattle.state_past.proofs.OfGoneFilters.Finding.{no_mask_there, lacks_mask, has_mask}
use Rattle.state_past.proofs.gone_filters.masks.mask_serial.Goals as goal

pub table_at-table-requires : goal.table_at-table-requires
table_at-table-requires c = subst (λ n. c.in_ok-place.place < n) (ap length (sym c.tables-tables.ensures.tables) ∙ length-map c.tables-tables.result.now plain_table)
    (place_within _ _ _ (sym c.find_table.ensures ∙ c.in_ok-place.was))

pub mask_at-requires : goal.mask_at-requires
mask_at-requires c = place_within _ _ _ (sym c.find_mask.ensures ∙ c.in_ok-at.was)

pub returns-in_err-place-clause-none : goal.returns-in_err-place-clause-none
returns-in_err-place-clause-none c = λ none s spells. no_mask_there c.args.lists.now c.tables-tables.ensures.kept c.args.hook c.args.chain c.args.pref c.args.words.now.words s spells (sym c.find_table.ensures ∙ c.in_err-place.was)

pub returns-in_err-at-clause-none : goal.returns-in_err-at-clause-none
returns-in_err-at-clause-none c = λ none s spells. let here = subst (λ (ts : List PlainTable). item_at ts c.in_ok-place.place ≡ Some (plain_table c.table_at-table.result.now)) c.tables-tables.ensures.tables c.table_at-table.ensures in
    lacks_mask c.args.lists.now c.tables-tables.ensures.kept c.args.hook c.args.chain c.args.pref c.in_ok-place.place (plain_table c.table_at-table.result.now) here (its_names _ _ _ _ _ (sym c.find_table.ensures ∙ c.in_ok-place.was) here)
    c.args.words.now.words s spells (sym c.find_mask.ensures ∙ c.in_err-at.was)

pub returns-clause-some : goal.returns-clause-some
returns-clause-some c = λ s spells. let here = subst (λ (ts : List PlainTable). item_at ts c.in_ok-place.place ≡ Some (plain_table c.table_at-table.result.now)) c.tables-tables.ensures.tables c.table_at-table.ensures in
    subst (λ n. IsMaskRow n (mask_row c.args.hook c.args.chain c.args.pref c.args.words.now.words s.rows)) (sym c.serial.ensures)
    (has_mask c.args.lists.now c.tables-tables.ensures.kept c.args.hook c.args.chain c.args.pref c.in_ok-place.place (plain_table c.table_at-table.result.now) here (its_names _ _ _ _ _ (sym c.find_table.ensures ∙ c.in_ok-place.was) here)
    c.args.words.now.words s spells c.in_ok-at.at (plain_mask c.mask_at.result.now) c.mask_at.ensures (sym c.find_mask.ensures ∙ c.in_ok-at.was))
