use Rattle.std.proofs.Common.{◌≡◌, ◌<◌, ℕ, true, get_or, length}
use Rattle.std.specs.Prelude.{nat_eq}
use Rattle.visit_room.specs.declared.names.MaskName.{MaskName}
use Rattle.fate_search.proofs.same_answers.are_same_masks.Given as goal

-- as far as the loop has come
abbrev pub invariant-loop-place : goal.invariant-loop-place
invariant-loop-place l = record {
  long : length l.masks ≡ length l.others;
  same : (k : ℕ) (d : MaskName) → k < l.place
      → nat_eq (get_or l.masks k d).serial (get_or l.others k d).serial ≡ true;
}
