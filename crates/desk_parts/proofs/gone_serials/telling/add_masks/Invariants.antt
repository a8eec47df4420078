use Rattle.std.proofs.Common.{◌≡◌, ◌++◌, take}
use Rattle.std.specs.List.{flat_map}
use Rattle.filter_tables.specs.SeenMask.{plain_mask}
use Rattle.desk_parts.specs.OfGoneSerials.Same.{serials_in}
use Rattle.desk_parts.proofs.gone_serials.telling.add_masks.Given as goal

abbrev pub invariant-loop-mask : goal.invariant-loop-mask
invariant-loop-mask l = l.gone.items ≡ l.fn.gone.items ++ flat_map (λ m. serials_in (plain_mask m).filters) (take l.mask-index l.masks)
