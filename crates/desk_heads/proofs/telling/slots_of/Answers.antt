use Rattle.std.specs.Prelude.{All}
use Rattle.std.proofs.Common.{◌∙◌, ◌<◌, ◌^◌, ℕ, ◌∷◌, ◌++◌, [], take, map, sym, ap, subst, arith}
use Rattle.std.proofs.lemmas.List.{take_more, take_all}
use Rattle.std.proofs.lemmas.Option.{slice_get-get_or}
use Rattle.std.proofs.Common.{Some}
use Rattle.filter_tables.specs.SeenMask.{plain_mask}
use Rattle.visit_room.specs.declared.names.MaskName.{MaskName}
use Rattle.head_laws.specs.Heads.{serials_of}
use Rattle.desk_heads.specs.Slots.{HasSlotIn, AreInSlots}
use Rattle.desk_heads.proofs.Told.{all_more, slots_more, serials_more, names_count, mask_serial_at}
use Rattle.desk_heads.proofs.telling.slots_of.Goals as goal

pub slot_for-slot-requires-clause-known : goal.slot_for-slot-requires-clause-known
slot_for-slot-requires-clause-known c = let masks = c.args.masks.now in let n = c.loop-mask.mask-index in
    subst (λ (serial : ℕ). (slot : ℕ) × HasSlotIn c.args.old.now c.args.built.now serial slot) (sym c.serial-serial.ensures)
    (c.requires.known n c.mask-item.result.serial (mask_serial_at masks n c.mask-item.result (slice_get-get_or masks n c.mask-item.result c.loop-mask-test.true ∙ ap Some (sym c.mask-item.is))))

pub push-requires : goal.push-requires
push-requires c = let count = names_count c.args.masks.now c.loop-mask.mask-index c.loop-mask.slots c.loop-mask.auto.mask-index-end c.loop-mask.invariant.serials in
    let few = c.requires.few in let test = c.loop-mask-test.true in omega (arith, count, few, test)

pub loop-mask-preserved : goal.loop-mask-preserved
loop-mask-preserved c =
    let masks = c.args.masks.now in let n = c.loop-mask.mask-index in let mask = c.mask-item.result in let old = c.loop-mask.invariant in
    let name : MaskName = record { serial = c.serial-serial.result; slot = c.slot_for-slot.result } in
    let more = take_more masks n mask c.loop-mask-test.true ∙ ap (λ m. take n masks ++ m ∷ []) (sym c.mask-item.is) in record {
      serials = ap (map (λ (x : MaskName). x.serial)) c.push.ensures ∙ serials_more masks n mask c.loop-mask.slots name more c.serial-serial.ensures old.serials;
      slots = subst (AreInSlots c.args.old.now c.args.built.now) (sym c.push.ensures) (slots_more c.args.old.now c.args.built.now c.loop-mask.slots name old.slots c.slot_for-slot.ensures);
      numbers = subst (All (λ (x : MaskName). x.serial < 2 ^ 32)) (sym c.push.ensures) (all_more (λ (x : MaskName). x.serial < 2 ^ 32) c.loop-mask.slots name old.numbers c.serial-serial.type_inv);
    }

pub returns-clause-serials : goal.returns-clause-serials
returns-clause-serials c = let test = c.loop-mask-test.false in c.loop-mask.invariant.serials ∙ ap (λ ms. serials_of (map plain_mask ms)) (take_all c.loop-mask.mask-index c.args.masks.now test)
