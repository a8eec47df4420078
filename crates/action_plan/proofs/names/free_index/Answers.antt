use Rattle.std.proofs.Common.{arith, ◌≡◌, false, Bool, sym, ◌∙◌, ap, subst, length, true, ℕ}
use Rattle.std.specs.Prelude.{is_some, Option}
use Rattle.act_kinds.specs.Params.{kind_number}
use Rattle.act_registry.specs.Entries as entries
use Rattle.filter_state.specs.Actions.{is_live}
use Rattle.action_plan.specs.Plans.{made_of, carried}
use Rattle.action_plan.proofs.Counts.{few_made}
use Rattle.action_plan.proofs.Named.{live_serial}
use Rattle.action_plan.proofs.Free.{registry_within, from_lowest, used_on, unused_here}
use Rattle.action_plan.proofs.names.free_index.Goals as goal

pub overflow_sub-left : goal.overflow_sub-left
overflow_sub-left c =
    omega (arith, ap length c.entries.ensures.entries, registry_within c.number.result c.args.registry.now.entries c.free_index-index.result c.free_index-index.ensures.index)

pub loop-left-init : goal.loop-left-init
loop-left-init c =
    let within = registry_within c.number.result c.args.registry.now.entries c.free_index-index.result c.free_index-index.ensures.index in
    let few = few_made c.args.parts.now in
    record {
      same = from_lowest c.args.kind c.args.registry.now c.args.parts.now c.free_index-index.result _ c.requires.fit c.free_index-index.ensures.lowest.from_one
          (omega (arith, ap length c.entries.ensures.entries, within, c.requires.made))
          (λ below from less. subst (λ n. entries.is_used kind_number n c.args.registry.now.entries below ≡ true) c.number.ensures (c.free_index-index.ensures.lowest.lower below from less));
      few = omega (arith, ap length c.entries.ensures.entries, within, c.requires.made, c.requires.few, few, c.entries.ensures.live.few);
    }

pub loop-left-preserved : goal.loop-left-preserved
loop-left-preserved c =
    let m = carried (made_of c.args.registry.now) c.args.parts.now in
    let used : ℕ → Bool = λ n. is_live c.args.kind n m.actions in
    let here : used c.loop-left.index ≡ true =
    live_serial c.args.kind c.loop-left.index m.actions ∙ ap (λ (o : Option ℕ). is_some o) (sym c.serial_of.ensures) ∙ sym c.is_some.ensures ∙ c.if-is_some.true in
    record {
      same = sym (used_on used c.loop-left.left c.loop-left.index c.loop-left-test.true here) ∙ c.loop-left.invariant.same;
      few = omega (arith, c.loop-left.invariant.few, c.loop-left-test.true);
    }

pub returns-else-is_some : goal.returns-else-is_some
returns-else-is_some c =
    let m = carried (made_of c.args.registry.now) c.args.parts.now in
    let used : ℕ → Bool = λ n. is_live c.args.kind n m.actions in
    let here : used c.loop-left.index ≡ false = live_serial c.args.kind c.loop-left.index m.actions ∙ ap (λ (o : Option ℕ). is_some o) (sym c.serial_of.ensures) ∙ sym c.is_some.ensures ∙ c.if-is_some.false in
    sym (unused_here used c.loop-left.left c.loop-left.index here) ∙ c.loop-left.invariant.same
