use Rattle.std.proofs.Common.{◌≡◌, List, length}
use Rattle.filter_state.specs.declared.edit.Edit.{Edit}
use Rattle.filter_state.specs.Sound.{Each}
use Rattle.report_check.specs.Walks.{StandsIn}
use Rattle.report_trace.proofs.writing.first_walkers.Given as goal

abbrev pub invariant-loop-number : goal.invariant-loop-number
invariant-loop-number l = record {
  many : length l.walkers.items ≡ l._number;
  stand : (journal : List Edit) → Each (StandsIn journal) l.walkers.items;
}
