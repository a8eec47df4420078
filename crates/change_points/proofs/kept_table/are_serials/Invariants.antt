use Rattle.std.proofs.Common.{◌≡◌, take}
use Rattle.std.specs.Prelude.{map}
use Rattle.filter_tables.specs.SeenMask.{plain_mask}
use Rattle.head_laws.specs.Heads.{serials_of}
use Rattle.change_points.proofs.kept_table.are_serials.Given as goal

abbrev pub invariant-loop-place : goal.invariant-loop-place
invariant-loop-place l = take l.place l.serials ≡ serials_of (map plain_mask (take l.place l.masks))
