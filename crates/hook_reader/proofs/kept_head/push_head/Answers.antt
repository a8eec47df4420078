use Rattle.std.proofs.Common.{◌∙◌, [], ◌∷◌, ◌++◌, length, take, get_or, List, sym, ap, arith}
use Rattle.std.proofs.lemmas.List.{take_all, take_more, length-take-le}
use Rattle.visit_room.specs.declared.names.MaskName.{MaskName}
use Rattle.visit_room.specs.Heads.{last_masks, with_mask_behind}
use Rattle.miniq_pair.proofs.Putting.{below}
use Rattle.hook_reader.proofs.Copies.{with_masks, last_is, mask_put}
use Rattle.hook_reader.proofs.kept_head.push_head.Goals as goal

pub loop-mask-init : goal.loop-mask-init
loop-mask-init c = record { told = c.push.ensures.tables }

pub push_mask-requires : goal.push_mask-requires
push_mask-requires c = let test = c.loop-mask-test.true in let same = c.as_slice-mask-items.ensures.same in let few = c.as_slice-mask-items.ensures.few in let long = ap length same in
    let taken = length-take-le c.loop-mask.mask-index c.args.head.now.masks (omega arith) in
    below c.loop-mask.into.tables (take c.loop-mask.mask-index c.args.head.now.masks) (ap last_masks c.loop-mask.invariant.told ∙ last_is c.args.into.now.tables c.args.head.now (take c.loop-mask.mask-index c.args.head.now.masks)) (omega arith)

pub loop-mask-preserved : goal.loop-mask-preserved
loop-mask-preserved c = let test = c.loop-mask-test.true in let same = c.as_slice-mask-items.ensures.same in let long = ap length same in
    let masks = c.args.head.now.masks in let index = c.loop-mask.mask-index in record {
      told = c.push_mask.ensures.tables ∙ (ap (with_mask_behind _) c.loop-mask.invariant.told ∙ (mask_put c.args.into.now.tables c.args.head.now (take index masks) _
          ∙ ap (λ (ms : List MaskName). c.args.into.now.tables ++ with_masks c.args.head.now ms ∷ [])
          (ap (λ (ms : List MaskName). take index masks ++ get_or ms index _ ∷ []) same ∙ sym (take_more masks index _ (omega arith)))));
    }

pub returns : goal.returns
returns c = let test = c.loop-mask-test.false in let long = ap length c.as_slice-mask-items.ensures.same in
    c.loop-mask.invariant.told ∙ ap (λ (ms : List MaskName). c.args.into.now.tables ++ with_masks c.args.head.now ms ∷ []) (take_all c.loop-mask.mask-index c.args.head.now.masks (omega arith))
