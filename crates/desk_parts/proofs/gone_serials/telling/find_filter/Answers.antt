use Rattle.std.proofs.Common.{◌≡◌, ◌∙◌, ◌<◌, List, length, Option, Some, None, refl, sym, ap, subst, Bor}
use Rattle.std.specs.Prelude.{find, option_copied, IfSome}
use Rattle.std.proofs.lemmas.List.{length-map}
use Rattle.filter_state.specs.States.{Row, State}
use Rattle.filter_state.specs.Tables.{filter_row}
use Rattle.filter_index.specs.declared.filter.Filter.{Filter}
use Rattle.filter_index.specs.Listed as listed
use Rattle.filter_tables.specs.Plain.{PlainTable}
use Rattle.filter_tables.specs.Places.{item_at}
use Rattle.filter_tables.specs.Seen.{plain_table}
use Rattle.filter_tables.specs.SeenMask.{plain_mask}
use Rattle.filter_tables.specs.Changes.{has_handle_in}
use Rattle.filter_lists.specs.Spells.{Spells}
use Rattle.hook_lists.proofs.Sought.{place_within, its_names, place_nowhere, place_passes}
use Rattle.desk_parts.proofs.OfFinding.Finding.{no_row, lacks_filter, found_none, has_filter}
use Rattle.desk_parts.proofs.gone_serials.telling.find_filter.Goals as goal

pub returns-in_err-place-clause-none : goal.returns-in_err-place-clause-none
returns-in_err-place-clause-none c = λ none s spells. no_row c.args.lists.now c.tables-tables.ensures.kept s spells c.args.hook c.args.chain c.args.pref c.args.handle (sym c.find_table.ensures ∙ c.in_err-place.was)

pub table_at-table-requires : goal.table_at-table-requires
table_at-table-requires c = subst (λ n. c.in_ok-place.place < n) (ap length (sym c.tables-tables.ensures.tables) ∙ length-map c.tables-tables.result.now plain_table)
    (place_within _ _ _ (sym c.find_table.ensures ∙ c.in_ok-place.was))

pub returns-in_err-at-clause-none : goal.returns-in_err-at-clause-none
returns-in_err-at-clause-none c = λ none s spells. let here = subst (λ (ts : List PlainTable). item_at ts c.in_ok-place.place ≡ Some (plain_table c.table_at-table.result.now)) c.tables-tables.ensures.tables c.table_at-table.ensures in
    lacks_filter c.args.lists.now c.tables-tables.ensures.kept s spells c.args.hook c.args.chain c.args.pref c.in_ok-place.place (plain_table c.table_at-table.result.now) here (its_names _ _ _ _ _ (sym c.find_table.ensures ∙ c.in_ok-place.was) here)
    c.args.handle (place_nowhere (has_handle_in c.args.handle) c.table_at-table.result.now.masks.masks (sym c.find_handle.ensures ∙ c.in_err-at.was))

pub mask_at-requires : goal.mask_at-requires
mask_at-requires c = place_within _ _ _ (sym c.find_handle.ensures ∙ c.in_ok-at.was)

-- what is found, seen as the filter that the list has
found_so : (P : Filter → Type 0) (r : Option (Bor Filter)) (x : Option Filter) → option_copied r ≡ x → ((f : Filter) → x ≡ Some f → P f) → IfSome r (λ found. P found.now)
found_so P (Some b) x is so = so b.now (sym is)
found_so P None x is so = tt

pub returns-clause-some : goal.returns-clause-some
returns-clause-some c = let here = subst (λ (ts : List PlainTable). item_at ts c.in_ok-place.place ≡ Some (plain_table c.table_at-table.result.now)) c.tables-tables.ensures.tables c.table_at-table.ensures in
    let t = plain_table c.table_at-table.result.now in let m = plain_mask c.mask_at.result.now in
    let names = its_names _ _ _ _ _ (sym c.find_table.ensures ∙ c.in_ok-place.was) here in
    found_so (λ (f : Filter). (s : State) → Spells c.args.lists.now s → (row : Row) × (filter_row c.args.hook c.args.chain c.args.pref c.args.handle s.rows ≡ Some row) × (f.actions ≡ row.actions))
    c.with_handle.result (find (listed.has_handle c.args.handle) m.filters) (c.with_handle.ensures ∙ ap (λ r. find (listed.has_handle c.args.handle) r.filters) c.filters.ensures)
    (λ f found s spells. (
      _,
      has_filter c.args.lists.now c.tables-tables.ensures.kept s spells c.args.hook c.args.chain c.args.pref c.in_ok-place.place t here names c.in_ok-at.at m c.mask_at.ensures c.args.handle f found,
      refl,
    ))

pub returns-clause-none : goal.returns-clause-none
returns-clause-none c = λ none s spells. let there = place_passes _ _ _ _ (sym c.find_handle.ensures ∙ c.in_ok-at.was) c.mask_at.ensures in
    let missing = found_none (listed.has_handle c.args.handle) c.mask_at.result.now.filters.filters
    (ap (λ r. find (listed.has_handle c.args.handle) r.filters) (sym c.filters.ensures) ∙ (sym c.with_handle.ensures ∙ ap option_copied none)) in
    absurd (cc (there, missing))
