use Rattle.std.proofs.Common.{◌≡◌, ◌∙◌, ◌<◌, ◌++◌, [], ◌∷◌, List, length, map, Some, sym, ap, subst}
use Rattle.std.specs.Prelude.{find, option_copied}
use Rattle.std.proofs.lemmas.List.{length-map}
use Rattle.filter_index.specs.Listed as listed
use Rattle.filter_tables.specs.Plain.{PlainTable}
use Rattle.filter_tables.specs.Places.{item_at}
use Rattle.filter_tables.specs.Seen.{plain_table}
use Rattle.filter_tables.specs.SeenMask.{plain_mask}
use Rattle.filter_tables.specs.Changes.{has_handle_in}
use Rattle.hook_lists.proofs.Sought.{place_within, its_names, place_nowhere, place_passes}
use Rattle.state_past.specs.declared.gone_filters.going.GoingFilter.{GoingFilter}
use Rattle.state_past.specs.OfGoneFilters.Marks.{Mark, marked}
use Rattle.state_past.proofs.OfGoneFilters.Finding.{no_filter_there, filter_lacks, filter_there, found_none}
use Rattle.state_past.proofs.gone_filters.telling.going_of_filter.Goals as goal

pub table_at-table-requires : goal.table_at-table-requires
table_at-table-requires c = subst (λ n. c.in-Some.place < n) (ap length (sym c.tables-tables.ensures.tables) ∙ length-map c.tables-tables.result.now plain_table)
    (place_within _ _ _ (sym c.find_table.ensures ∙ c.in-Some.is))

pub mask_at-mask-requires : goal.mask_at-mask-requires
mask_at-mask-requires c = place_within _ _ _ (sym c.find_handle.ensures ∙ c.in-Some-find_handle.is)

pub returns-in_default : goal.returns-in_default
returns-in_default c = ap (λ (gs : List GoingFilter). map marked gs) c.new-going.ensures.items
    ∙ no_filter_there c.args.lists.now c.tables-tables.ensures.kept c.args.hook c.args.chain c.args.pref c.args.handle (sym c.find_table.ensures ∙ c.in_default.is)

pub returns-in_default-find_handle : goal.returns-in_default-find_handle
returns-in_default-find_handle c = let here = subst (λ (ts : List PlainTable). item_at ts c.in-Some.place ≡ Some (plain_table c.table_at-table.result.now)) c.tables-tables.ensures.tables c.table_at-table.ensures in
    ap (λ (gs : List GoingFilter). map marked gs) c.new-going.ensures.items
    ∙ filter_lacks c.args.lists.now c.tables-tables.ensures.kept c.args.hook c.args.chain c.args.pref c.in-Some.place (plain_table c.table_at-table.result.now) here (its_names _ _ _ _ _ (sym c.find_table.ensures ∙ c.in-Some.is) here)
    c.args.handle (place_nowhere (has_handle_in c.args.handle) c.table_at-table.result.now.masks.masks (sym c.find_handle.ensures ∙ c.in_default-find_handle.is))

pub returns-in_default-with_handle : goal.returns-in_default-with_handle
returns-in_default-with_handle c = let there = place_passes _ _ _ _ (sym c.find_handle.ensures ∙ c.in-Some-find_handle.is) c.mask_at-mask.ensures in
    let missing = found_none (listed.has_handle c.args.handle) c.mask_at-mask.result.now.filters.filters
    (ap (λ r. find (listed.has_handle c.args.handle) r.filters) (sym c.filters.ensures) ∙ (sym c.with_handle.ensures ∙ ap option_copied c.in_default-with_handle.is)) in
    absurd (cc (there, missing))

pub returns : goal.returns
returns c = let here = subst (λ (ts : List PlainTable). item_at ts c.in-Some.place ≡ Some (plain_table c.table_at-table.result.now)) c.tables-tables.ensures.tables c.table_at-table.ensures in
    let t = plain_table c.table_at-table.result.now in let m = plain_mask c.mask_at-mask.result.now in
    let found = ap (λ r. find (listed.has_handle c.args.handle) r.filters) (sym c.filters.ensures) ∙ (sym c.with_handle.ensures ∙ ap option_copied c.in-Some-with_handle.is) in
    ap (λ (gs : List GoingFilter). map marked gs) c.in_ok-push.ensures.items
    ∙ (ap (λ (gs : List GoingFilter). map marked (gs ++ (c.in_ok-mark.field-0 ∷ []))) c.new-going.ensures.items
    ∙ (ap (λ (mark : Mark). mark ∷ []) c.in_ok-mark.ensures
    ∙ filter_there c.args.lists.now c.tables-tables.ensures.kept c.args.hook c.args.chain c.args.pref c.in-Some.place t here (its_names _ _ _ _ _ (sym c.find_table.ensures ∙ c.in-Some.is) here)
    c.in-Some-find_handle.at m c.mask_at-mask.ensures c.args.handle c.in-Some-with_handle.filter.now found))
