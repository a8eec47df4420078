use Rattle.std.proofs.Common.{sym, ap, ◌∙◌, refl}
use Rattle.std.specs.Option.{option_copied}
use Rattle.act_registry.specs.Kept.{delete_refusal}
use Rattle.filter_lists.proofs.Gone.{found_by, delete_is, bound_del, free_del, free_refusal}
use Rattle.filter_lists.proofs.Planned.{refused_as}
use Rattle.filter_lists.proofs.shared.plan_action_del.Goals as goal

pub returns-then-entry-gt0 : goal.returns-then-entry-gt0
returns-then-entry-gt0 c =
    let kept = c.args.kept.now in
    let found = found_by kept c.args.kind c.args.index c.number.result _ c.number.ensures (sym (ap option_copied c.in-Some.is) ∙ c.find.ensures) in
    refused_as kept _ _ _ (bound_del kept c.args.kind c.args.index c.in-Some.entry.now found c.if-entry-gt0.true) refl

pub returns-in-None : goal.returns-in-None
returns-in-None c =
    let kept = c.args.kept.now in
    let found = found_by kept c.args.kind c.args.index c.number.result _ c.number.ensures (sym (ap option_copied c.in-None.is) ∙ c.find.ensures) in
    refused_as kept _ _ _ (delete_is kept c.args.kind c.args.index _ found) refl

pub returns-else-entry-gt0 : goal.returns-else-entry-gt0
returns-else-entry-gt0 c =
    let kept = c.args.kept.now in
    let found = found_by kept c.args.kind c.args.index c.number.result _ c.number.ensures (sym (ap option_copied c.in-Some.is) ∙ c.find.ensures) in (
      ap delete_refusal found ∙ free_refusal c.in-Some.entry.now c.if-entry-gt0.false,
      free_del kept c.args.kind c.args.index c.in-Some.entry.now found c.if-entry-gt0.false,
    )
