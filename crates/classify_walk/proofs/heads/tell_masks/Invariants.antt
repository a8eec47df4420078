use Rattle.std.proofs.Common.{◌≡◌, take, length, Some, option_map}
use Rattle.std.specs.Prelude.{map}
use Rattle.filter_tables.specs.SeenMask.{plain_mask}
use Rattle.visit_room.specs.Heads.{last_masks}
use Rattle.walk_steps.specs.Told.{heads_told}
use Rattle.head_laws.specs.Heads.{serials_of}
use Rattle.classify_walk.specs.Heads.{with_masks_behind}
use Rattle.classify_walk.proofs.heads.tell_masks.Given as goal

abbrev pub invariant-loop-place : goal.invariant-loop-place
invariant-loop-place l = record {
  told : heads_told l.into.tables ≡ with_masks_behind (serials_of (map plain_mask (take l.place l.masks))) (heads_told l.initial.into.tables);
  count : option_map length (last_masks l.into.tables) ≡ Some l.place;
}
