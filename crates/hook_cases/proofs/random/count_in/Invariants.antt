use Rattle.hook_cases.proofs.random.count_in.Given as goal

abbrev pub invariant-loop-mask : goal.invariant-loop-mask
invariant-loop-mask l = Unit {0}

abbrev pub invariant-loop-table : goal.invariant-loop-table
invariant-loop-table l = Unit {0}
