use Rattle.std.proofs.Common.{◌≤◌, List, sym, subst, arith, le_refl}
use mathlib.Core.List.{IsPrefix}
use Rattle.store_history.specs.declared.history.Commit.{Commit}
use Rattle.store_history.proofs.Histories.{prefix_self}
use Rattle.pin_store.specs.Calls.{seen_by}
use Rattle.filter_state.specs.declared.edit.Edit.{Edit}
use Rattle.hook_law.specs.Meaning.{point_of}
use Rattle.hook_reader.specs.Seats.{first_head_of}
use Rattle.hook_reader.proofs.Reading.{start_none, outside_reading}
use Rattle.hook_reader.proofs.Copies.{heads_longer}
use Rattle.kept_records.proofs.Kept.{records_longer}
use Rattle.hook_reader.proofs.reader.HookReader.leave_walk.Goals as goal

pub invariant_of-self : goal.invariant_of-self
invariant_of-self c = let s = c.self.inside in let e = c.leave.ensures in let q = c.leave.new.self.place in let start = start_none q e.floor in (
  outside_reading s.reader.place q s.visits s.latest s.latest (first_head_of s.head) s.points c.self.invariant.0
      (subst (IsPrefix (seen_by s.reader.place)) (sym e.seen) (prefix_self (seen_by s.reader.place))) (omega (arith, start)) (le_refl s.latest)
      (subst (λ (h : List (Commit Edit)). s.latest ≤ point_of h) (sym e.seen) c.self.invariant.0.late),
  heads_longer (seen_by s.reader.place) (seen_by q) s.ingress s.egress (subst (IsPrefix (seen_by s.reader.place)) (sym e.seen) (prefix_self (seen_by s.reader.place))) c.self.invariant.1,
  records_longer (seen_by s.reader.place) (seen_by q) s.records (subst (IsPrefix (seen_by s.reader.place)) (sym e.seen) (prefix_self (seen_by s.reader.place))) c.self.invariant.2,
)
