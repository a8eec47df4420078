use Rattle.std.proofs.Common.{◌∙◌, ℕ, List, ◌++◌, sym, ap}
use Rattle.gen_files.specs.Generated.{filter_line}
use Rattle.gen_files.proofs.Growing.{batch_more}
use Rattle.gen_files.proofs.batch.gen_batch.Goals as goal

pub loop-index-preserved : goal.loop-index-preserved
loop-index-preserved c =
    c.in_ok-push_filter.ensures ∙ ap (λ (out : List ℕ). out ++ filter_line c.loop-index.index) c.loop-index.invariant ∙ sym (batch_more c.loop-index.index)
