use Rattle.std.proofs.Common.{length, option_map, sym, ap, arith}
use Rattle.std.proofs.lemmas.List.{take_more}
use Rattle.visit_room.specs.Heads.{last_masks}
use Rattle.walk_steps.specs.Told.{heads_told}
use Rattle.classify_walk.proofs.Telling.{behind_none, count_more, below}
use Rattle.change_points.proofs.Telling.{one_told}
use Rattle.change_points.proofs.kept_table.tell_masks.Goals as goal

pub loop-serial-init : goal.loop-serial-init
loop-serial-init c = record {
  told = sym (behind_none (heads_told c.args.into.now.tables));
  count = ap (option_map length) c.requires.bare;
}

pub push_mask-requires : goal.push_mask-requires
push_mask-requires c =
    below c.loop-serial.serial-index (last_masks c.loop-serial.into.tables) c.loop-serial.invariant.count
    (omega (arith, c.requires.few, c.loop-serial-test.true))

pub loop-serial-preserved : goal.loop-serial-preserved
loop-serial-preserved c = record {
  told = one_told c.args.serials.now c.loop-serial.serial-index _ 0 c.args.into.now.tables
      c.loop-serial.into.tables c.push_mask.new.self.tables c.push_mask.ensures.tables
      (take_more c.args.serials.now c.loop-serial.serial-index _ c.loop-serial-test.true)
      c.loop-serial.invariant.told;
  count = count_more _ c.loop-serial.serial-index c.loop-serial.into.tables c.push_mask.new.self.tables
      c.push_mask.ensures.tables c.loop-serial.invariant.count;
}
