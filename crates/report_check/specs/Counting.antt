-- The lines of a run's counters (this project's own).
use Rattle.std.specs.Prelude.{ℕ, List, map}
use Rattle.batch_run.specs.declared.made_action.MadeAction.{MadeAction}
use Rattle.walk_ends.specs.declared.counts.Count.{Count}
use Rattle.walk_texts.specs.Texts.{counter_line}
use Rattle.run_counts.specs.Counting.{count_of}

-- one for each of these actions, in order
abbrev pub counted_lines : List Count → List MadeAction → List (List ℕ)
counted_lines counts made = map (λ (m : MadeAction). counter_line m (count_of counts m.serial)) made
