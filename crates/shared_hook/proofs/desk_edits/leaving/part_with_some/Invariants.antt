use Rattle.std.proofs.Common.{◌++◌, take, drop}
use Rattle.desk_parts.specs.Desk.{AreSized}
use Rattle.shared_hook.specs.OfDeskEdits.Parting.{gone_of, HaveLeft, IsParting, MayAllPart}
use Rattle.shared_hook.proofs.desk_edits.leaving.part_with_some.Given as goal

abbrev pub invariant-loop-name : goal.invariant-loop-name
invariant-loop-name l = record {
  parting : (at : MayAllPart l.fn.masks l.fn.pools l.tables l.names) → IsParting l.masks l.pools at.shape at.cells at.h at.b at.count l.tables (drop l.name-index l.names ++ at.rest);
  left : (at : MayAllPart l.fn.masks l.fn.pools l.tables l.names) → HaveLeft at.count l.fn.pools l.pools (gone_of l.tables (take l.name-index l.names));
  sized : AreSized l.pools;
}
