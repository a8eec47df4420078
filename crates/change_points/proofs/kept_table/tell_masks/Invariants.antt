use Rattle.std.proofs.Common.{◌≡◌, take, length, Some, option_map}
use Rattle.visit_room.specs.Heads.{last_masks}
use Rattle.walk_steps.specs.Told.{heads_told}
use Rattle.classify_walk.specs.Heads.{with_masks_behind}
use Rattle.change_points.proofs.kept_table.tell_masks.Given as goal

abbrev pub invariant-loop-serial : goal.invariant-loop-serial
invariant-loop-serial l = record {
  told : heads_told l.into.tables
      ≡ with_masks_behind (take l.serial-index l.serials) (heads_told l.initial.into.tables);
  count : option_map length (last_masks l.into.tables) ≡ Some l.serial-index;
}
