use Rattle.std.proofs.Common.{◌≡◌, ◌∙◌, ◌++◌, ◌∷◌, [], take, length, option_map, sym, ap, arith}
use Rattle.std.proofs.lemmas.List.{take_more}
use Rattle.visit_room.specs.Heads.{last_masks, with_mask_behind}
use Rattle.walk_steps.specs.Told.{heads_told}
use Rattle.classify_walk.proofs.Telling.{behind_none, mask_told, count_more, below}
use Rattle.classify_walk.proofs.heads.tell_masks.Goals as goal

pub loop-place-init : goal.loop-place-init
loop-place-init c = record {
  told = sym (behind_none (heads_told c.args.into.now.tables));
  count = ap (option_map length) c.requires.bare;
}

pub push_mask-requires : goal.push_mask-requires
push_mask-requires c = below c.loop-place.place (last_masks c.loop-place.into.tables) c.loop-place.invariant.count (omega (arith, c.requires.few, c.loop-place-test.true))

pub loop-place-preserved : goal.loop-place-preserved
loop-place-preserved c =
    let told_is : c.push_mask.new.self.tables ≡ with_mask_behind (record { serial = c.index-masks-place.result.serial; slot = c.slot_of.result }) c.loop-place.into.tables =
    c.push_mask.ensures.tables ∙ ap (λ n. with_mask_behind (record { serial = n; slot = c.slot_of.result }) c.loop-place.into.tables) c.serial.ensures in
    let masks = c.args.masks.now in
    let place = c.loop-place.place in
    let mask = c.index-masks-place.result in
    record {
      told = mask_told masks place mask c.slot_of.result c.args.into.now.tables c.loop-place.into.tables c.push_mask.new.self.tables
          (take_more masks place mask c.loop-place-test.true ∙ ap (λ m. take place masks ++ (m ∷ [])) (sym c.index-masks-place.is)) told_is c.loop-place.invariant.told;
      count = count_more (record { serial = mask.serial; slot = c.slot_of.result }) place c.loop-place.into.tables c.push_mask.new.self.tables told_is c.loop-place.invariant.count;
    }
