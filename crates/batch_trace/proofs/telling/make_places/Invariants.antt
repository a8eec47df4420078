use Rattle.std.proofs.Common.{◌≤◌, List, length}
use Rattle.tc_base.specs.declared.hook.Hook.{Hook}
use Rattle.filter_state.specs.Sound.{Each}
use Rattle.filter_origins.specs.Entries.{Entry}
use Rattle.batch_trace.specs.Kept.{IsKept}
use Rattle.batch_trace.proofs.telling.make_places.Given as goal

abbrev pub invariant-loop : goal.invariant-loop
invariant-loop l = record {
  many : l.counter ≤ length l.kept.items;
  kept : (entries : List Entry) (hook : Hook) → Each (IsKept entries hook) l.kept.items;
}
