-- What a list of values is after a field was put.
use Rattle.std.proofs.Common.{◌≡◌, ℕ, List, slice_set, ap, ◌∙◌}

-- the list before, and the number that was put, may be written in another way
pub put : (old past new : List ℕ) (field a b : ℕ) → new ≡ slice_set old field a → old ≡ past → a ≡ b → new ≡ slice_set past field b
put old past new field a b set before number = set ∙ ap (λ list. slice_set list field a) before ∙ ap (slice_set past field) number
