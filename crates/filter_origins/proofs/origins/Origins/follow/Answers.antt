use Rattle.std.proofs.Common.{◌≡◌, ◌∙◌, ◌++◌, ℕ, List, length, take_at, Option, Some, ap, subst, arith}
use Rattle.std.specs.Prelude.{IfSome}
use Rattle.act_kinds.specs.declared.params.Params.{Params}
use Rattle.act_registry.specs.Kept as registries
use Rattle.slot_pasts.specs.Pasts.{stood}
use Rattle.slot_pasts.specs.Names.{past_of}
use Rattle.slot_pasts.specs.Serials.{past_at}
use Rattle.state_past_laws.specs.OfChanges.Going.{line_in}
use Rattle.state_past.specs.declared.coming.Coming.{Coming}
use Rattle.state_past.specs.declared.gone_filters.going.GoingFilter.{GoingFilter}
use Rattle.state_past.specs.Brought.{Brought as AreBrought}
use Rattle.state_past.specs.Told.{coming_slots}
use Rattle.state_past.proofs.Bringing.{on_ok, brought_up_to}
use Rattle.filter_origins.specs.declared.brought.Brought.{Brought}
use Rattle.filter_origins.specs.declared.origins.Origins.{Origins}
use Rattle.filter_origins.specs.Noted.{all_taken, brought_by}
use Rattle.filter_origins.proofs.Followed.{its_edit, its_room, for_memory, slots_early, actions_early, followed}
use Rattle.filter_origins.proofs.origins.Origins.follow.Goals as goal

pub step-requires-clause-line : goal.step-requires-clause-line
step-requires-clause-line c = its_edit c.args.self.now c.args.lists.now c.requires.0 c.requires.1 c.requires.2 c.args.edit.now c.args.by c.requires.3

pub step-requires-clause-may : goal.step-requires-clause-may
step-requires-clause-may c = its_room c.args.self.now c.args.lists.now c.requires.0 c.requires.1 c.requires.2 c.args.edit.now c.args.by c.requires.3

pub memory_of-requires : goal.memory_of-requires
memory_of-requires c = for_memory c.args.self.now c.args.lists.now c.requires.0 c.requires.1 c.requires.2 c.args.edit.now c.args.by c.requires.3 c.step.new.self c.in-Err.refusal c.in-Err.ensures

pub put_filter-requires : goal.put_filter-requires
put_filter-requires c = slots_early c.args.self.now c.args.lists.now c.requires.0 c.requires.1 c.requires.2 c.args.edit.now c.args.by c.requires.3

pub put_changed-requires : goal.put_changed-requires
put_changed-requires c = actions_early c.args.self.now c.args.lists.now c.requires.0 c.requires.1 c.requires.2 c.args.edit.now c.args.by c.requires.3

pub put_made-requires : goal.put_made-requires
put_made-requires c = brought_up_to c.args.by.edit stood (λ serial. Some c.args.by) _ (past_at c.args.self.now.actions) (past_at c.put_changed.new.actions) c.in_ok-put_changed.ensures

if_some : {X : Type 0} (P : X → Type 0) (o : Option X) (x : X) → IfSome o P → o ≡ Some x → P x
if_some P o x told is = subst (λ (p : Option _). IfSome p P) is told

pub returns : goal.returns
returns c = λ entries count follows next.
    let old = c.args.self.now in let by = c.args.by in let going = c.in_ok-going.going.items in let coming = c.coming_in-coming.result in
    let whole : length c.take_filters.new.brought ≡ old.brought.len = omega (arith, c.take_filters.auto.brought, c.deref_mut.ensures.len) in
    let taken = take_at c.take_filters.new.brought _ old.brought.len whole ∙ c.take_filters.ensures ∙ ap (λ (gs : List GoingFilter). all_taken by.edit old.slots gs c.deref_mut.result.now) c.deref.ensures.value ∙ ap (all_taken by.edit old.slots going) c.deref_mut.ensures.value in
    let new : Origins = record { alloc = old.alloc; slots = c.put_filter.new.slots; actions = c.put_made.new.actions; brought = c.put_filter.new.brought } in
    let slots = subst (λ (n : ℕ). AreBrought by.edit stood (λ name. Some n) (coming_slots coming) (past_of old.slots) (past_of c.put_filter.new.slots)) (ap length taken) c.in_ok-put_filter.ensures.slots in
    let brought = c.in_ok-put_filter.ensures.brought ∙ ap (λ (l : List Brought). l ++ brought_by by coming) taken in
    on_ok _ _ c.put_made.result (λ making. followed old c.args.lists.now entries count follows c.args.edit.now by next new c.step.new.self c.in-Ok.done going coming c.changed_action-changed.result c.made-made.result c.made.result
    (past_at c.put_changed.new.actions) c.actions.ensures.kept c.in-Ok.ensures c.in_ok-going.ensures c.changed_action-changed.ensures
    (c.made-made.ensures ∙ ap (λ (r : registries.Kept Params). r.made) c.actions.ensures.actions) (c.made.ensures ∙ ap (λ (r : registries.Kept Params). r.made) c.actions-2.ensures.actions)
    c.coming_in-coming.ensures.row (λ x is. if_some (λ (y : Coming). line_in c.args.edit.now ≡ Some y.line.now) coming x c.coming_in-coming.ensures.line is)
    slots brought c.in_ok-put_changed.ensures making) c.put_made.ensures
