use Rattle.std.proofs.Common.{◌≡◌, ◌∙◌, ◌<◌, List, length, map, Option, Some, refl, sym, ap, subst}
use Rattle.std.proofs.lemmas.List.{length-map}
use Rattle.filter_tables.specs.Plain.{PlainTable}
use Rattle.filter_tables.specs.Places.{item_at}
use Rattle.filter_tables.specs.Seen.{plain_table}
use Rattle.filter_tables.specs.SeenMask.{plain_mask}
use Rattle.hook_lists.proofs.Sought.{place_within, its_names}
use Rattle.hook_store_law.specs.OfEdits.Premises.{now}
use Rattle.desk_actions.specs.OfLedgers.Kept.{commits}
use Rattle.std.specs.Prelude.{find, option_copied}
use Rattle.filter_index.specs.declared.filter.Filter.{Filter}
use Rattle.filter_index.specs.Listed as listed
use Rattle.filter_tables.specs.Changes.{has_handle_in}
use Rattle.hook_lists.proofs.Sought.{place_nowhere, place_passes}
use Rattle.desk_parts.proofs.OfFinding.Finding.{no_row, lacks_filter, found_none, counted, has_filter}
use Rattle.desk_parts.proofs.finding.filters.find_filter.Goals as goal

pub table_at-table-requires : goal.table_at-table-requires
table_at-table-requires c = subst (λ n. c.in_ok-place.place < n) (ap length (sym c.tables-tables_of.ensures.tables) ∙ length-map c.tables-tables_of.result.now plain_table)
    (place_within _ _ _ (sym c.find_table.ensures ∙ c.in_ok-place.was))

pub mask_at-found-requires : goal.mask_at-found-requires
mask_at-found-requires c = place_within _ _ _ (sym c.find_handle.ensures ∙ c.in_ok-at.was)

pub returns-in_err-place-clause-none : goal.returns-in_err-place-clause-none
returns-in_err-place-clause-none c = λ none. no_row c.args.ledger.now.lists c.tables-tables_of.ensures.kept (now (commits c.args.ledger.now)) c.requires.whole.spells c.args.hook c.args.chain c.args.pref c.args.handle (sym c.find_table.ensures ∙ c.in_err-place.was)

pub slot_at-requires-clause-there : goal.slot_at-requires-clause-there
slot_at-requires-clause-there c = let here = subst (λ (ts : List PlainTable). item_at ts c.in_ok-place.place ≡ Some (plain_table c.table_at-table.result.now)) c.tables-tables_of.ensures.tables c.table_at-table.ensures in (plain_table c.table_at-table.result.now, plain_mask c.mask_at-found.result.now, here, c.mask_at-found.ensures)

pub returns-in_err-at-clause-none : goal.returns-in_err-at-clause-none
returns-in_err-at-clause-none c = λ none. let here = subst (λ (ts : List PlainTable). item_at ts c.in_ok-place.place ≡ Some (plain_table c.table_at-table.result.now)) c.tables-tables_of.ensures.tables c.table_at-table.ensures in
    lacks_filter c.args.ledger.now.lists c.tables-tables_of.ensures.kept (now (commits c.args.ledger.now)) c.requires.whole.spells c.args.hook c.args.chain c.args.pref c.in_ok-place.place (plain_table c.table_at-table.result.now) here (its_names _ _ _ _ _ (sym c.find_table.ensures ∙ c.in_ok-place.was) here)
    c.args.handle (place_nowhere (has_handle_in c.args.handle) c.table_at-table.result.now.masks.masks (sym c.find_handle.ensures ∙ c.in_err-at.was))

pub returns-in_err-filter-clause-none : goal.returns-in_err-filter-clause-none
returns-in_err-filter-clause-none c = λ none. let there = place_passes _ _ _ _ (sym c.find_handle.ensures ∙ c.in_ok-at.was) c.mask_at-found.ensures in
    let missing = found_none (listed.has_handle c.args.handle) c.mask_at-found.result.now.filters.filters
    (ap (λ r. find (listed.has_handle c.args.handle) r.filters) (sym c.filters.ensures) ∙ (sym c.with_handle.ensures ∙ ap option_copied c.in_err-filter.was)) in
    absurd (cc (there, missing))

pub returns-clause-some : goal.returns-clause-some
returns-clause-some c = let here = subst (λ (ts : List PlainTable). item_at ts c.in_ok-place.place ≡ Some (plain_table c.table_at-table.result.now)) c.tables-tables_of.ensures.tables c.table_at-table.ensures in let t = plain_table c.table_at-table.result.now in let m = plain_mask c.mask_at-found.result.now in
    let names = its_names _ _ _ _ _ (sym c.find_table.ensures ∙ c.in_ok-place.was) here in
    let found = ap (λ r. find (listed.has_handle c.args.handle) r.filters) (sym c.filters.ensures) ∙ (sym c.with_handle.ensures ∙ ap option_copied c.in_ok-filter.was) in
    let count = counted c.args.ledger.now.lists c.tables-tables_of.ensures.kept (now (commits c.args.ledger.now)) c.requires.whole.spells c.args.hook c.args.chain c.args.pref c.in_ok-place.place t here names c.in_ok-at.at m c.mask_at-found.ensures in
    record {
      row = _;
      there = has_filter c.args.ledger.now.lists c.tables-tables_of.ensures.kept (now (commits c.args.ledger.now)) c.requires.whole.spells c.args.hook c.args.chain c.args.pref c.in_ok-place.place t here names c.in_ok-at.at m c.mask_at-found.ensures c.args.handle c.in_ok-filter.filter.now found;
      stands = record {
        same = c.serial.ensures;
        at = c.slot_at.ensures t m here c.mask_at-found.ensures;
        count = c.len.ensures ∙ (ap (λ r. length r.filters) c.filters-2.ensures ∙ count);
      };
      words = ap (λ k. k.words) c.mask.ensures;
      key = refl;
      actions = refl;
    }
