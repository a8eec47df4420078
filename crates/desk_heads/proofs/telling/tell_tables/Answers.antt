use Rattle.std.specs.Prelude.{All}
use Rattle.std.proofs.Common.{◌∙◌, List, ◌∷◌, ◌++◌, [], take, map, Some, sym, ap, subst, arith}
use Rattle.std.proofs.lemmas.List.{take_more, take_all}
use Rattle.std.proofs.lemmas.Option.{slice_get-get_or}
use Rattle.block_codec.specs.declared.table.StoredTable.{StoredTable}
use Rattle.filter_tables.specs.Plain.{PlainTable}
use Rattle.head_laws.specs.Heads.{head_of}
use Rattle.hook_store_law.specs.Stated.{table_stated}
use Rattle.desk_masks.specs.OfHeadChains.Chains.{stated_of}
use Rattle.desk_heads.specs.Slots.{AreInSlots, FitsNumbers}
use Rattle.desk_heads.proofs.Told.{all_more, tables_fit, masks_fit, told, told_more, told_count, mask_told}
use Rattle.desk_heads.proofs.telling.tell_tables.Goals as goal

pub stored_table-requires-clause-few : goal.stored_table-requires-clause-few
stored_table-requires-clause-few c = let tables = c.tables-tables.result.now in let n = c.loop-place.place in let t = c.index-tables-place.result in
    masks_fit c.args.lists.now c.args.hook tables n t c.tables-tables.ensures.kept c.tables-tables.ensures.tables (slice_get-get_or tables n t c.loop-place-test.true ∙ ap Some (sym c.index-tables-place.is))

pub stored_table-requires-clause-near : goal.stored_table-requires-clause-near
stored_table-requires-clause-near c = let few = tables_fit c.args.lists.now c.args.hook c.tables-tables.result.now c.tables-tables.ensures.kept c.tables-tables.ensures.tables in
    let test = c.loop-place-test.true in omega (arith, few, test)

pub stored_table-requires-clause-known : goal.stored_table-requires-clause-known
stored_table-requires-clause-known c = λ among serial has. let tables = c.tables-tables.result.now in let n = c.loop-place.place in let t = c.index-tables-place.result in
    c.requires.known c.tables-tables.ensures.kept serial
    (mask_told c.args.lists.now c.args.hook tables n among serial t c.tables-tables.ensures.tables (slice_get-get_or tables n t c.loop-place-test.true ∙ ap Some (sym c.index-tables-place.is)) has)

pub push-requires : goal.push-requires
push-requires c = let few = tables_fit c.args.lists.now c.args.hook c.tables-tables.result.now c.tables-tables.ensures.kept c.tables-tables.ensures.tables in
    let count = told_count c.tables-tables.result.now c.loop-place.place c.loop-place.into c.loop-place.auto.place-end c.loop-place.invariant.stated in
    let test = c.loop-place-test.true in omega (arith, few, count, test)

pub loop-place-init : goal.loop-place-init
loop-place-init c = let empty = sym c.requires.empty in record {
  stated = ap (map stated_of) c.requires.empty;
  slots = subst (All (λ (table : StoredTable). AreInSlots c.args.old.now c.args.built.now table.masks)) empty (λ k d less. absurd (omega (arith, less)));
  numbers = subst (All FitsNumbers) empty (λ k d less. absurd (omega (arith, less)));
}

pub loop-place-preserved : goal.loop-place-preserved
loop-place-preserved c =
    let tables = c.tables-tables.result.now in let n = c.loop-place.place in let t = c.index-tables-place.result in let old = c.loop-place.invariant in
    let more = take_more tables n t c.loop-place-test.true ∙ ap (λ u. take n tables ++ u ∷ []) (sym c.index-tables-place.is) in record {
      stated = ap (map stated_of) c.push.ensures ∙ told_more tables n t c.loop-place.into c.stored_table.result more c.stored_table.ensures.stated old.stated;
      slots = subst (All (λ (table : StoredTable). AreInSlots c.args.old.now c.args.built.now table.masks)) (sym c.push.ensures)
          (all_more (λ (table : StoredTable). AreInSlots c.args.old.now c.args.built.now table.masks) c.loop-place.into c.stored_table.result old.slots c.stored_table.ensures.slots);
      numbers = subst (All FitsNumbers) (sym c.push.ensures) (all_more FitsNumbers c.loop-place.into c.stored_table.result old.numbers c.stored_table.ensures.numbers);
    }

pub returns-clause-stated : goal.returns-clause-stated
returns-clause-stated c = let test = c.loop-place-test.false in
    c.loop-place.invariant.stated ∙ (ap told (take_all c.loop-place.place c.tables-tables.result.now test) ∙ ap (λ (ps : List PlainTable). map table_stated (map head_of ps)) c.tables-tables.ensures.tables)
