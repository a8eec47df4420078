use Rattle.std.proofs.Common.{◌+◌, ◌<◌, ◌^◌, length, refl, sym, subst}
use Rattle.pin_store.specs.Calls.{sheet_of, IsSeatOf}
use Rattle.filter_lists.specs.Edits.{MayStep}
use Rattle.shared_hook.specs.Applied.{IsApplied, IsRefused, IsHeld}
use Rattle.shared_hook.specs.Views.{DeskView, journal, view_of}
use Rattle.shared_hook.proofs.Following.{refused_then}
use Rattle.shared_hook.proofs.desk.Desk.try_apply.Goals as goal

pub apply_as-requires-clause-store : goal.apply_as-requires-clause-store
apply_as-requires-clause-store c = subst (λ (d : DeskView). IsSeatOf c.args.store.now d.place) (sym c.self.view_is) c.requires.store

pub apply_as-requires-clause-edit : goal.apply_as-requires-clause-edit
apply_as-requires-clause-edit c = refl

pub apply_as-requires-clause-desk : goal.apply_as-requires-clause-desk
apply_as-requires-clause-desk c = c.self.invariant

pub apply_as-requires-clause-may : goal.apply_as-requires-clause-may
apply_as-requires-clause-may c = subst (λ (d : DeskView). MayStep d.lists) (sym c.self.view_is) c.requires.may

pub apply_as-requires-clause-few : goal.apply_as-requires-clause-few
apply_as-requires-clause-few c = subst (λ (d : DeskView). ((sheet_of d.place).epoch < 2 ^ 61) × (length (journal d) + 1 < 2 ^ 32)) (sym c.self.view_is) c.requires.few

pub returns-clause-applied : goal.returns-clause-applied
returns-clause-applied c done is = subst (λ (d : DeskView). IsApplied d (view_of c.apply_as.new.parts) c.args.edit.now done) c.self.view_is (c.apply_as.ensures.applied done is)

pub returns-clause-refused : goal.returns-clause-refused
returns-clause-refused c refusal is = subst (λ (d : DeskView). IsRefused d (view_of c.apply_as.new.parts) c.args.edit.now refusal) c.self.view_is (c.apply_as.ensures.refused refusal is)

pub returns-clause-held : goal.returns-clause-held
returns-clause-held c pool reader pin needed free is =
    subst (λ (d : DeskView). IsHeld d (view_of c.apply_as.new.parts) c.args.edit.now pool reader pin needed free) c.self.view_is (c.apply_as.ensures.held pool reader pin needed free is)

pub returns-clause-exact : goal.returns-clause-exact
returns-clause-exact c refusal is = refused_then c.args.self.now (view_of c.apply_as.new.parts) c.args.edit.now refusal is c.apply_as.result
    (returns-clause-applied c) (returns-clause-refused c) (returns-clause-held c)
