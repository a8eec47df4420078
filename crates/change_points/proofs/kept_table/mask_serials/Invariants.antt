use Rattle.std.proofs.Common.{◌≡◌, take}
use Rattle.std.specs.Prelude.{map}
use Rattle.filter_tables.specs.SeenMask.{plain_mask}
use Rattle.head_laws.specs.Heads.{serials_of}
use Rattle.change_points.proofs.kept_table.mask_serials.Given as goal

abbrev pub invariant-loop-mask : goal.invariant-loop-mask
invariant-loop-mask l = l.serials.items ≡ serials_of (map plain_mask (take l.mask-index l.masks))
