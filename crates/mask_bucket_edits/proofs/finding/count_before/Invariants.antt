use Rattle.std.proofs.Common.{◌≡◌, ◌<◌, ℕ, slice_get, Some}
use Rattle.mask_bucket_edits.specs.Finding.{HasHandle}
use Rattle.mask_bucket_edits.proofs.finding.count_before.Given as goal

abbrev pub invariant-loop-count : goal.invariant-loop-count
invariant-loop-count l = (place b : ℕ) → place < l.count → slice_get l.blocks place ≡ Some b → HasHandle l.mirror.filters.items l.handle b → ⊥
