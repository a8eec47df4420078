use Rattle.std.proofs.Common.{◌∙◌, ◌+◌, sym, ap, subst, arith}
use Rattle.std.proofs.lemmas.List.{take_all}
use Rattle.visit_room.specs.declared.names.MaskName.{MaskName}
use Rattle.mask_writer.specs.Masks.{Masks}
use Rattle.desk_pools.specs.declared.pools.Pools.{Pools}
use Rattle.desk_parts.specs.Desk.{AreSized}
use Rattle.shared_hook.specs.OfDeskEdits.Parting.{gone_of, HaveLeft}
use Rattle.shared_hook.proofs.OfDeskEdits.Partings.{SomeParting, SomeLeft, stays_parting, stays_left, goes_parting, goes_left}
use Rattle.shared_hook.proofs.desk_edits.leaving.part_with_some.Goals.{then-not-is_named, else-not-is_named}
use Rattle.shared_hook.proofs.desk_edits.leaving.part_with_some.Goals as goal

abbrev no_name : MaskName
no_name = record { serial = 0; slot = 0 }

-- src/leaving.rt:69:5
pub loop-name-preserved : goal.loop-name-preserved
loop-name-preserved c = let masks0 = c.args.masks.now in let pools0 = c.args.pools.now in let tables = c.args.tables.now in let names = c.args.names.now in let i = c.loop-name.name-index in let inv = c.loop-name.invariant in let less = c.loop-name-test.true in
    elim c.if-not-is_named.branch [
      | then-not-is_named w ↦ let gone = sym c.is_named.ensures ∙ w.if-not-is_named.true in let told = w.part_with.ensures in record {
        parting = subst (λ (q : Masks). SomeParting masks0 pools0 tables names q c.if-not-is_named.pools (i + 1)) (sym w.masks-is)
            (subst (λ (q : Pools). SomeParting masks0 pools0 tables names w.part_with.new.masks q (i + 1)) (sym w.pools-is)
            (goes_parting masks0 pools0 tables names i no_name less c.loop-name.masks c.loop-name.pools inv.parting inv.left gone w.part_with.new.masks w.part_with.new.pools told.parting));
        left = subst (λ (q : Pools). SomeLeft masks0 pools0 tables names q (i + 1)) (sym w.pools-is)
            (goes_left masks0 pools0 tables names i no_name less c.loop-name.masks c.loop-name.pools inv.parting inv.left gone w.part_with.new.masks w.part_with.new.pools told.left);
        sized = subst AreSized (sym w.pools-is) told.sized;
      }
      | else-not-is_named w ↦ let named = sym c.is_named.ensures ∙ w.if-not-is_named.false in record {
        parting = subst (λ (q : Masks). SomeParting masks0 pools0 tables names q c.if-not-is_named.pools (i + 1)) (sym w.masks-is)
            (subst (λ (q : Pools). SomeParting masks0 pools0 tables names c.loop-name.masks q (i + 1)) (sym w.pools-is)
            (stays_parting masks0 pools0 tables names i no_name less c.loop-name.masks c.loop-name.pools inv.parting inv.left named));
        left = subst (λ (q : Pools). SomeLeft masks0 pools0 tables names q (i + 1)) (sym w.pools-is)
            (stays_left masks0 pools0 tables names i no_name less c.loop-name.masks c.loop-name.pools inv.parting inv.left named);
        sized = subst AreSized (sym w.pools-is) inv.sized;
      }
    ]

-- src/leaving.rt:53:1
pub returns-clause-left : goal.returns-clause-left
returns-clause-left c = λ at. let end = c.loop-name-test.false in let inv = c.loop-name.invariant in
    subst (HaveLeft at.count c.args.pools.now c.loop-name.pools) (ap (gone_of c.args.tables.now) (take_all c.loop-name.name-index c.args.names.now (omega (arith, end)))) (inv.left at)
