use Rattle.std.proofs.Common.{◌≡◌, ◌<◌, ℕ, true, get_or, length}
use Rattle.visit_room.specs.declared.table_head.TableHead.{TableHead}
use Rattle.walk_fate_laws.specs.Walks.{same_head}
use Rattle.walk_steps.specs.Told.{head_told}
use Rattle.fate_search.proofs.same_answers.are_same_tables.Given as goal

-- as far as the loop has come
abbrev pub invariant-loop-place : goal.invariant-loop-place
invariant-loop-place l = record {
  long : length l.tables ≡ length l.others;
  same : (k : ℕ) (d : TableHead) → k < l.place
      → same_head (head_told (get_or l.tables k d)) (head_told (get_or l.others k d)) ≡ true;
}
