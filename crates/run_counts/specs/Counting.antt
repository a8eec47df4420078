-- How often each action ran, by serial (this project's own).
use Rattle.std.specs.Prelude.{ℕ, ◌+◌, ◌≤◌, ◌==◌, List, get_or, count_by, sum_by, if◌then◌else◌}
use Rattle.walk_ends.specs.declared.counts.Count.{Count}

abbrev pub no_count : Count
no_count = record { packets = 0; bytes = 0 }

-- the count of a serial; a serial that never ran has none
abbrev pub count_of : List Count → ℕ → Count
count_of counts serial = get_or counts serial no_count

-- what these executions, each a serial and a length, come to for a serial
abbrev pub counted_in : List (ℕ × ℕ) → ℕ → Count
counted_in executed serial = record {
  packets = count_by (λ (e : ℕ × ℕ). e.0 == serial) executed;
  bytes = sum_by (λ (e : ℕ × ℕ). if e.0 == serial then e.1 else 0) executed;
}

abbrev pub both : Count → Count → Count
both one other = record { packets = one.packets + other.packets; bytes = one.bytes + other.bytes }

-- no count is greater
abbrev pub AreAtMost : ℕ → List Count → Type 0
AreAtMost most counts =
    (serial : ℕ) → ((count_of counts serial).packets ≤ most) × ((count_of counts serial).bytes ≤ most)
