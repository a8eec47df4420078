use Rattle.std.proofs.Common.{◌≡◌, ◌<◌, ℕ, true, get_or, length}
use Rattle.std.specs.Prelude.{nat_eq}
use Rattle.visit_room.specs.declared.names.ActionName.{ActionName}
use Rattle.fate_search.proofs.same_answers.are_same_actions.Given as goal

-- as far as the loop has come
abbrev pub invariant-loop-place : goal.invariant-loop-place
invariant-loop-place l = record {
  long : length l.actions ≡ length l.others;
  same : (k : ℕ) (d : ActionName) → k < l.place
      → nat_eq (get_or l.actions k d).serial (get_or l.others k d).serial ≡ true;
}
