-- How often the filters of each edit decided (this project's own).
use Rattle.std.specs.Prelude.{ℕ, ◌==◌, List, get_or, count_by}

-- how often an edit is among edits
abbrev pub times_in : List ℕ → ℕ → ℕ
times_in edits edit = count_by (λ (e : ℕ). e == edit) edits

-- the count of an edit; those that aren't counted have 0
abbrev pub count_at : List ℕ → ℕ → ℕ
count_at counts edit = get_or counts edit 0
