use Rattle.std.proofs.Common.{◌∙◌}
use Rattle.capture_walk.proofs.Counting.{none-counted}
use Rattle.capture_walk.proofs.counts.no_counts.Goals as goal

pub returns : goal.returns
returns c = c.in_ok-vec.ensures.items_if_clones_equal (λ y h. h) ∙ none-counted c.args.actions
