-- What is counted of a list that was cleared before.
use Rattle.std.proofs.Common.{◌≡◌, ◌∙◌, ℕ, ◌+◌, List, [], ◌++◌, ap}
use Rattle.walk_trace.specs.Tallies.{count_at, times_in}

pub listed_times : (old new : List ℕ) (edit : ℕ) (lent items cleared decided : List ℕ) → lent ≡ items → items ≡ cleared ++ decided → cleared ≡ []
    → count_at new edit ≡ count_at old edit + times_in lent edit → count_at new edit ≡ count_at old edit + times_in decided edit
listed_times old new edit lent items cleared decided same is none counts =
    counts ∙ ap (λ (edits : List ℕ). count_at old edit + times_in edits edit) (same ∙ is ∙ ap (λ (edits : List ℕ). edits ++ decided) none)
