-- What holds stays so where there is more room.
use Rattle.std.proofs.Common.{◌≡◌, ℕ, ◌+◌, ◌<◌, ◌≤◌, Bool, List, length, Option, Some, None, refl, sym, ◌∙◌, ap, subst}
use Rattle.std.specs.Prelude.{IfSome}
use Rattle.act_kinds.specs.declared.params.Params.{Params}
use Rattle.act_registry.specs.Kept as registries
use Rattle.filter_state.specs.declared.edit.FilterLine.{FilterLine}
use Rattle.filter_state.specs.Sound.{Sound}
use Rattle.filter_state.specs.Actions.{Made}
use Rattle.filter_state.specs.States.{State}
use Rattle.filter_tables.specs.Plain.{PlainTable}
use Rattle.filter_tables.specs.Changes.{is_table}
use Rattle.filter_tables.specs.Places.{place_where}
use Rattle.filter_tables.specs.Rows.{BothHooks, BothWhole, tables_on, all_rows}
use Rattle.action_plan.specs.Plans.{made_of, carried, made_by, AreFit}
use Rattle.action_plan.specs.declared.planned.PlannedAction.{PlannedAction}
use Rattle.hook_lists.specs.declared.kept.Kept.{Kept}
use Rattle.hook_lists.specs.States.{both_of, state_of, AreKept}
use Rattle.hook_lists.specs.Steps.{IsRoomier, PlanFits}
use Rattle.hook_lists.proofs.Sought.{place_within}
use Rattle.filter_lists.specs.declared.adding.looking.Found.{Found}
use Rattle.filter_lists.specs.OfAdding.Looks.{place_refusal, limit_refusal, resolved_by_plan, IsFound}
use Rattle.filter_state.specs.Steps.{filter_add, filter_added}

pub both_same : (old new : Kept) → IsRoomier old new → both_of new ≡ both_of old
both_same old new more = rw (more.ingress, more.egress) refl

pub made_same : (old new : Kept) → IsRoomier old new → made_of new.actions ≡ made_of old.actions
made_same old new more = rw (more.entries, more.made) refl

pub state_same : (old new : Kept) → IsRoomier old new → state_of new ≡ state_of old
state_same old new more = rw (more.hooked, more.ingress, more.egress, more.entries, more.made, more.tables_made, more.masks_made) refl

pub more_twice : (a b c : Kept) → IsRoomier a b → IsRoomier b c → IsRoomier a c
more_twice a b c more again = record {
  hooked = again.hooked ∙ more.hooked;
  ingress = again.ingress ∙ more.ingress;
  egress = again.egress ∙ more.egress;
  entries = again.entries ∙ more.entries;
  made = again.made ∙ more.made;
  tables_made = again.tables_made ∙ more.tables_made;
  masks_made = again.masks_made ∙ more.masks_made;
  filters = again.filters ∙ more.filters;
}

pub kept_later : (old new : Kept) → IsRoomier old new → AreKept old → AreKept new
kept_later old new more are = record {
  whole = subst BothWhole (sym (both_same old new more)) are.whole;
  sound = subst Sound (sym (state_same old new more)) are.sound;
  filters = more.filters ∙ are.filters ∙ ap (λ both. length (all_rows both)) (sym (both_same old new more));
}

-- what was found, of the tables, the actions and the state
abbrev FoundIn : BothHooks → Made → State → FilterLine → Found → Type 0
FoundIn both made s line found =
    (found.place ≡ place_where (is_table line.chain found.pref) (tables_on line.hook both)) × (place_refusal s line found.pref ≡ None) × AreFit made found.actions
    × (limit_refusal s line found.pref (carried made found.actions) ≡ None) × (filter_add s line ≡ filter_added s line found.pref (resolved_by_plan made found.actions))

pub found_later : (old new : Kept) (line : FilterLine) (found : Found) → IsRoomier old new → IsFound old line found → IsFound new line found
found_later old new line found more is =
    let here : FoundIn (both_of old) (made_of old.actions) (state_of old) line found = (is.place, is.placed, is.fit, is.limits, is.accepted) in
    let there : FoundIn (both_of new) (made_of new.actions) (state_of new) line found =
    subst (λ both. FoundIn both (made_of new.actions) (state_of new) line found) (sym (both_same old new more))
    (subst (λ made. FoundIn (both_of old) made (state_of new) line found) (sym (made_same old new more))
    (subst (λ s. FoundIn (both_of old) (made_of old.actions) s line found) (sym (state_same old new more)) here)) in
    record { place = there.0; placed = there.1; fit = there.2; limits = there.3; accepted = there.4 }

-- where a table was found there is one
pub found_within : (test : PlainTable → Bool) (tables : List PlainTable) (place : Option ℕ) → place ≡ place_where test tables → IfSome place (λ table. table < length tables)
found_within test tables None is = tt
found_within test tables (Some place) is = place_within test tables place (sym is)

-- a plan fits where the actions stay the same
pub fits_later : (old new : Kept) (plan : List PlannedAction) → new.actions ≡ old.actions → PlanFits old plan → PlanFits new plan
fits_later old new plan same fits = record {
  fit = subst (λ (r : registries.Kept Params). AreFit (made_of r) plan) (sym same) fits.fit;
  room = subst (λ (r : registries.Kept Params). made_by plan ≤ r.spare) (sym same) fits.room;
  few = subst (λ (r : registries.Kept Params). length r.entries + made_by plan ≤ 1024) (sym same) fits.few;
  in_run = subst (λ (r : registries.Kept Params). r.made + made_by plan ≤ 16384) (sym same) fits.in_run;
}
