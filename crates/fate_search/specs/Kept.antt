-- How the fates of a packet are kept: their bytes and points one behind the other, each at its place.
use Rattle.std.specs.Prelude.{ℕ, ◌-◌, ◌≤◌, List, length, take, drop}
use Rattle.fate_search.specs.declared.fates.KeptFate.{KeptFate}
use Rattle.fate_search.specs.Found.{Found}

-- those from one place on, before another
abbrev pub cut : List ℕ → ℕ → ℕ → List ℕ
cut numbers from to = take (to - from) (drop from numbers)

abbrev pub found_in : List ℕ → List ℕ → KeptFate → Found
found_in bytes points kept = record {
  verdict = kept.verdict;
  length = kept.length;
  meta = kept.meta;
  bytes = cut bytes kept.bytes_from kept.bytes_to;
  points = cut points kept.points_from kept.points_to;
}

-- both places are there
pub record IsKept (bytes points : List ℕ) (kept : KeptFate) : Type 0 where
  pub bytes_ordered : kept.bytes_from ≤ kept.bytes_to
  pub bytes_there : kept.bytes_to ≤ length bytes
  pub points_ordered : kept.points_from ≤ kept.points_to
  pub points_there : kept.points_to ≤ length points
