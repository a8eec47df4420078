use Rattle.std.proofs.Common.{◌≡◌, ◌^◌, ◌<◌, map, take}
use Rattle.std.specs.Prelude.{All}
use Rattle.filter_tables.specs.SeenMask.{plain_mask}
use Rattle.visit_room.specs.declared.names.MaskName.{MaskName}
use Rattle.head_laws.specs.Heads.{serials_of}
use Rattle.desk_heads.specs.Slots.{AreInSlots}
use Rattle.desk_heads.proofs.telling.slots_of.Given as goal

abbrev pub invariant-loop-mask : goal.invariant-loop-mask
invariant-loop-mask l = record {
  serials : map (λ (name : MaskName). name.serial) l.slots ≡ serials_of (map plain_mask (take l.mask-index l.masks));
  slots : AreInSlots l.old l.built l.slots;
  numbers : All (λ (name : MaskName). name.serial < 2 ^ 32) l.slots;
}
