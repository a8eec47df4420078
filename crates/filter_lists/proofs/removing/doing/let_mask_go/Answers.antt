use Rattle.std.proofs.Common.{[], ◌∷◌, drop, ◌+◌, sym, subst}
use Rattle.action_plan.specs.Bound.{AreBound}
use Rattle.filter_index.specs.Listed.{those_there}
use Rattle.filter_lists.specs.OfRemoving.Leaving.{HaveLeft}
use Rattle.filter_lists.proofs.OfRemoving.Going.{IsGoing, serials_one, going_last, going_on, going_bound, going_past}
use Rattle.filter_lists.proofs.OfRemoving.Fronts.{slot_there, slot_empty, slots_over}
use Rattle.filter_lists.proofs.removing.doing.let_mask_go.Goals as goal
use Rattle.filter_lists.proofs.removing.doing.let_mask_go.Goals.{in-Some, in_default}

pub let_go-requires-clause-bound : goal.let_go-requires-clause-bound
let_go-requires-clause-bound c =
    let slots = c.args.slots.now in
    let i = c.loop-slot.slot-index in
    let f = c.in-Some.filter in
    subst (λ ns. AreBound ns c.loop-slot.kept.actions.entries) (serials_one f)
    (going_bound (those_there slots) (those_there (drop i slots)) (f ∷ []) (those_there (drop (i + 1) slots)) c.args.kept.now c.loop-slot.kept
    (slot_there slots i c.slot-item.result f c.loop-slot-test.true c.slot-item.is c.in-Some.is) c.loop-slot.invariant)

pub loop-slot-preserved : goal.loop-slot-preserved
loop-slot-preserved c =
    let slots = c.args.slots.now in
    let i = c.loop-slot.slot-index in
    let all = those_there slots in
    let rest = those_there (drop i slots) in
    let more = those_there (drop (i + 1) slots) in
    elim c.match-slot.branch [
      | in-Some w ↦ subst (IsGoing all more c.args.kept.now) (sym w.kept-is)
          (going_on all rest (w.in-Some.filter ∷ []) more c.args.kept.now c.loop-slot.kept w.let_go.new.kept
          (slot_there slots i c.slot-item.result w.in-Some.filter c.loop-slot-test.true c.slot-item.is w.in-Some.is) c.loop-slot.invariant
          (subst (λ ns. HaveLeft ns 1 c.loop-slot.kept w.let_go.new.kept) (sym (serials_one w.in-Some.filter)) w.let_go.ensures))
      | in_default w ↦ subst (IsGoing all more c.args.kept.now) (sym w.kept-is)
          (going_past all rest more c.args.kept.now c.loop-slot.kept (slot_empty slots i c.slot-item.result c.loop-slot-test.true c.slot-item.is w.in_default.is) c.loop-slot.invariant)
    ]

pub returns : goal.returns
returns c =
    let slots = c.args.slots.now in
    let i = c.loop-slot.slot-index in
    going_last (those_there slots) (those_there (drop i slots)) c.args.kept.now c.loop-slot.kept (slots_over slots i c.loop-slot-test.false) c.loop-slot.invariant
