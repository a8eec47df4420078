use Rattle.std.proofs.Common.{◌≡◌, ◌≤◌, Option, drop, take}
use Rattle.tc_base.specs.Outside.{Held, Appended}
use Rattle.tool_run.specs.Asks.{output_names}
use Rattle.tool_run.specs.OfOutputs.Outputs.{outputs_from}
use Rattle.tool_run.specs.OfOutputs.Puts.{ArePut, ArePutUpTo}
use Rattle.tool_run.specs.OfOutputs.Ready.{AreReady}
use Rattle.tool_run.proofs.outputs.putting.put_rounds.Given as goal

abbrev pub invariant-loop-index : goal.invariant-loop-index
invariant-loop-index g l = record {
  put : (new : Option Held)
      → ArePut (g.S.Shelf.held l.shelf) new (outputs_from (drop l.index l.rounds) l.left (drop l.index l.records))
      → ArePut (g.S.Shelf.held l.fn.shelf) new (outputs_from l.rounds l.captures l.records);
  up_to : (new : Option Held)
      → ArePutUpTo (g.S.Shelf.held l.shelf) new (outputs_from (drop l.index l.rounds) l.left (drop l.index l.records))
      → ArePutUpTo (g.S.Shelf.held l.fn.shelf) new (outputs_from l.rounds l.captures l.records);
  ready : AreReady (drop l.index l.rounds) l.left (drop l.index l.records);
  fetched : g.S.Shelf.fetched l.shelf ≡ g.S.Shelf.fetched l.fn.shelf;
  put_names : Appended (g.S.Shelf.put_names l.fn.shelf) (g.S.Shelf.put_names l.shelf) (output_names (take l.index l.rounds));
  later : g.S.Shelf.write_faults l.fn.shelf ≤ g.S.Shelf.write_faults l.shelf;
}
