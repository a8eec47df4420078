-- What the tags of a frame put, by where its network header starts.
use Rattle.std.proofs.Common.{◌≡◌, ℕ, ◌<◌, ◌≤◌, List, refl, ap, ◌∙◌}
use Rattle.std.proofs.lemmas.Bool.{lt-leb, le-leb, ne_eqb}
use mathlib.Core.Logic.{◌≢◌}
use Rattle.flow_dissect.specs.Steps.{with_first_tag, with_second_tag, with_tags}

-- a header that starts before byte 18 has no tag before it
pub no_tag : (bytes values : List ℕ) (start : ℕ) → start < 18 → values ≡ with_tags bytes start values
no_tag bytes values start less = rw (lt-leb 18 start less) refl

-- one that starts elsewhere than at byte 22 has one
pub one_tag : (bytes old new : List ℕ) (start : ℕ) → 18 ≤ start → start ≢ 22 → new ≡ with_first_tag bytes old → new ≡ with_tags bytes start old
one_tag bytes old new start least other first = rw (le-leb 18 start least) (rw (ne_eqb start 22 other) first)

-- and one that starts there has two
pub two_tags : (bytes old once new : List ℕ) (start : ℕ) → start ≡ 22 → once ≡ with_first_tag bytes old → new ≡ with_second_tag bytes once → new ≡ with_tags bytes start old
two_tags bytes old once new start at first second = rw at (second ∙ ap (with_second_tag bytes) first)
