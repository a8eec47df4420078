use Rattle.std.proofs.Common.{◌++◌, take, drop}
use Rattle.desk_parts.specs.Desk.{AreSized}
use Rattle.shared_hook.specs.OfDeskEdits.Parting.{names_in, gone_of, HaveLeft, IsParting, MayAllPart}
use Rattle.shared_hook.proofs.desk_edits.leaving.part_with_gone.Given as goal

abbrev pub invariant-loop-place : goal.invariant-loop-place
invariant-loop-place l = record {
  parting : (at : MayAllPart l.fn.masks l.fn.pools l.tables (names_in l.old)) → IsParting l.masks l.pools at.shape at.cells at.h at.b at.count l.tables (names_in (drop l.place l.old) ++ at.rest);
  left : (at : MayAllPart l.fn.masks l.fn.pools l.tables (names_in l.old)) → HaveLeft at.count l.fn.pools l.pools (gone_of l.tables (names_in (take l.place l.old)));
  sized : AreSized l.pools;
}
