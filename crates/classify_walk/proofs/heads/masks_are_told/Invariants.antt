use Rattle.std.proofs.Common.{◌≡◌, take}
use Rattle.std.specs.Prelude.{map}
use Rattle.filter_tables.specs.SeenMask.{plain_mask}
use Rattle.walk_steps.specs.Told.{mask_serials}
use Rattle.head_laws.specs.Heads.{serials_of}
use Rattle.classify_walk.proofs.heads.masks_are_told.Given as goal

abbrev pub invariant-loop-place : goal.invariant-loop-place
invariant-loop-place l = mask_serials (take l.place l.names) ≡ serials_of (map plain_mask (take l.place l.masks))
