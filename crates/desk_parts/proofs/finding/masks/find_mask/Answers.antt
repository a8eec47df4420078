use Rattle.std.proofs.Common.{◌≡◌, ◌∙◌, ◌<◌, List, length, map, Option, Some, sym, ap, subst}
use Rattle.std.proofs.lemmas.List.{length-map}
use Rattle.filter_tables.specs.Plain.{PlainTable}
use Rattle.filter_tables.specs.Places.{item_at}
use Rattle.filter_tables.specs.Seen.{plain_table}
use Rattle.filter_tables.specs.SeenMask.{plain_mask}
use Rattle.hook_lists.proofs.Sought.{place_within, its_names}
use Rattle.hook_store_law.specs.OfEdits.Premises.{now}
use Rattle.desk_actions.specs.OfLedgers.Kept.{commits}
use Rattle.desk_parts.specs.OfFinding.Found.{IsStanding}
use Rattle.desk_parts.proofs.OfFinding.Finding.{no_mask, lacks_mask, counted, has_mask}
use Rattle.desk_parts.proofs.finding.masks.find_mask.Goals as goal

pub table_at-table-requires : goal.table_at-table-requires
table_at-table-requires c = subst (λ n. c.in_ok-place.place < n) (ap length (sym c.tables-tables_of.ensures.tables) ∙ length-map c.tables-tables_of.result.now plain_table)
    (place_within _ _ _ (sym c.find_table.ensures ∙ c.in_ok-place.was))

pub mask_at-found-requires : goal.mask_at-found-requires
mask_at-found-requires c = place_within _ _ _ (sym c.find_mask.ensures ∙ c.in_ok-at.was)

pub returns-in_err-place-clause-none : goal.returns-in_err-place-clause-none
returns-in_err-place-clause-none c = λ none. no_mask c.args.ledger.now.lists c.tables-tables_of.ensures.kept (now (commits c.args.ledger.now)) c.requires.whole.spells c.args.hook c.args.chain c.args.pref c.args.mask.now.words (sym c.find_table.ensures ∙ c.in_err-place.was)

pub returns-in_err-at-clause-none : goal.returns-in_err-at-clause-none
returns-in_err-at-clause-none c = λ none. let here = subst (λ (ts : List PlainTable). item_at ts c.in_ok-place.place ≡ Some (plain_table c.table_at-table.result.now)) c.tables-tables_of.ensures.tables c.table_at-table.ensures in
    lacks_mask c.args.ledger.now.lists c.tables-tables_of.ensures.kept (now (commits c.args.ledger.now)) c.requires.whole.spells c.args.hook c.args.chain c.args.pref c.in_ok-place.place (plain_table c.table_at-table.result.now) here (its_names _ _ _ _ _ (sym c.find_table.ensures ∙ c.in_ok-place.was) here)
    c.args.mask.now.words (sym c.find_mask.ensures ∙ c.in_err-at.was)

pub slot_at-requires-clause-there : goal.slot_at-requires-clause-there
slot_at-requires-clause-there c = let here = subst (λ (ts : List PlainTable). item_at ts c.in_ok-place.place ≡ Some (plain_table c.table_at-table.result.now)) c.tables-tables_of.ensures.tables c.table_at-table.ensures in (plain_table c.table_at-table.result.now, plain_mask c.mask_at-found.result.now, here, c.mask_at-found.ensures)

pub returns-clause-some : goal.returns-clause-some
returns-clause-some c = let here = subst (λ (ts : List PlainTable). item_at ts c.in_ok-place.place ≡ Some (plain_table c.table_at-table.result.now)) c.tables-tables_of.ensures.tables c.table_at-table.ensures in let t = plain_table c.table_at-table.result.now in let m = plain_mask c.mask_at-found.result.now in
    let names = its_names _ _ _ _ _ (sym c.find_table.ensures ∙ c.in_ok-place.was) here in
    let row = has_mask c.args.ledger.now.lists c.tables-tables_of.ensures.kept (now (commits c.args.ledger.now)) c.requires.whole.spells c.args.hook c.args.chain c.args.pref c.in_ok-place.place t here names
    c.in_ok-at.at m c.mask_at-found.ensures c.args.mask.now.words (sym c.find_mask.ensures ∙ c.in_ok-at.was) in
    let count = counted c.args.ledger.now.lists c.tables-tables_of.ensures.kept (now (commits c.args.ledger.now)) c.requires.whole.spells c.args.hook c.args.chain c.args.pref c.in_ok-place.place t here names c.in_ok-at.at m c.mask_at-found.ensures in
    record {
      row = row.0;
      there = row.1;
      stands = subst (λ n. IsStanding (commits c.args.ledger.now) n (record { serial = c.serial.result; slot = c.slot_at.result; count = c.len.result })) (sym row.2) (record {
        same = c.serial.ensures;
        at = c.slot_at.ensures t m here c.mask_at-found.ensures;
        count = c.len.ensures ∙ (ap (λ r. length r.filters) c.filters.ensures ∙ count);
      });
    }
