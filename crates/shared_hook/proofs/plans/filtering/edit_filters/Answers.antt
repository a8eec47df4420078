use Rattle.std.proofs.Common.{subst}
use Rattle.desk_parts.specs.declared.ways.way.Way.{Way}
use Rattle.shared_hook.specs.OfPlans.Plans.{MayEdit}
use Rattle.shared_hook.proofs.plans.filtering.edit_filters.Goals as goal

pub into_mask-requires-clause-may : goal.into_mask-requires-clause-may
into_mask-requires-clause-may g c = subst (λ (way : Way). MayEdit c.args.parts.now g.E.EditName.edit c.args.prepared way c.args.means) c.in-IntoMask.is c.requires.may

pub in_place-requires-clause-may : goal.in_place-requires-clause-may
in_place-requires-clause-may g c = subst (λ (way : Way). MayEdit c.args.parts.now g.E.EditName.edit c.args.prepared way c.args.means) c.in-InPlace.is c.requires.may

pub out_of_mask-requires-clause-may : goal.out_of_mask-requires-clause-may
out_of_mask-requires-clause-may g c = subst (λ (way : Way). MayEdit c.args.parts.now g.E.EditName.edit c.args.prepared way c.args.means) c.in-OutOfMask.is c.requires.may

pub with_masks-requires-clause-may : goal.with_masks-requires-clause-may
with_masks-requires-clause-may g c = subst (λ (way : Way). MayEdit c.args.parts.now g.E.EditName.edit c.args.prepared way c.args.means) c.in-Closes.is c.requires.may

pub with_mask-requires-clause-may : goal.with_mask-requires-clause-may
with_mask-requires-clause-may g c = (_, subst (λ (way : Way). MayEdit c.args.parts.now g.E.EditName.edit c.args.prepared way c.args.means) c.in-WithMask.is c.requires.may)

pub with_other_key-requires-clause-may : goal.with_other_key-requires-clause-may
with_other_key-requires-clause-may g c = (_, subst (λ (way : Way). MayEdit c.args.parts.now g.E.EditName.edit c.args.prepared way c.args.means) c.in-OtherKey.is c.requires.may)

pub with_other_mask-requires-clause-may : goal.with_other_mask-requires-clause-may
with_other_mask-requires-clause-may g c = (_, subst (λ (way : Way). MayEdit c.args.parts.now g.E.EditName.edit c.args.prepared way c.args.means) c.in-OtherMask.is c.requires.may)
