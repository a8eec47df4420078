-- From the state of the lists to each state that they spell.
use Rattle.std.proofs.Common.{◌≡◌, Result, Ok, Err, refl, sym, ◌∙◌, subst}
use Rattle.act_kinds.specs.Params.{kind_of}
use Rattle.filter_state.specs.Actions.{index_or_free}
use Rattle.filter_state.specs.declared.edit.Edit.{Edit}
use Rattle.filter_state.specs.declared.refusal.Done.{Done}
use Rattle.filter_state.specs.declared.refusal.Refusal.{Refusal}
use Rattle.filter_state.specs.States.{State}
use Rattle.filter_state.specs.Sound.{Sound}
use Rattle.filter_state.specs.Lines.{IsLine}
use Rattle.filter_state.specs.Order.{SameStepped}
use Rattle.filter_state.specs.Steps.{Stepped, step}
use Rattle.filter_state.specs.Journals.{state_after}
use Rattle.state_laws.proofs.Steps.{step_sound}
use Rattle.state_laws.proofs.OfOrder.States.{same_state_sym, same_state_trans}
use Rattle.state_laws.proofs.OfOrder.Steps.{step_same}
use Rattle.state_laws.proofs.OfOrder.Soundness.{sound_same}
use Rattle.hook_lists.specs.declared.kept.Kept.{Kept}
use Rattle.hook_lists.specs.States.{state_of, AreKept}
use Rattle.hook_lists.specs.Steps.{IsRoomier}
use Rattle.hook_lists.specs.Done.{IsDone, IsDoneAtOnce}
use Rattle.filter_lists.proofs.OfAdding.Later.{kept_later, state_same}
use Rattle.filter_lists.specs.declared.plan.Plan.{Plan}
use Rattle.filter_lists.specs.declared.plan.Plan.TheVariants as plans
use Rattle.filter_lists.specs.Spells.{Spells}
use Rattle.filter_lists.specs.Edits.{IsPrepared, IsFinished, IsStepped}
use Rattle.filter_lists.specs.Plans.{Leads, IsPlanned}
use Rattle.filter_lists.proofs.Made.{made_accepted}
use Rattle.filter_lists.proofs.Registries.{accepted}

-- ---- a plan that leads anywhere leads to an accepted edit
pub record LeadsTo (kept : Kept) (plan : Plan) (stepped : Stepped) : Type 0 where
  pub next : State
  pub said : Done
  pub leads : Leads kept plan (Ok (next, said))
  pub is : stepped ≡ accepted next said

abbrev IsAccepted : Stepped → Type 0
IsAccepted (Ok next) = Unit {0}
IsAccepted (Err refusal) = ⊥

none_refused : (kept : Kept) (plan : Plan) (refusal : Refusal) → Leads kept plan (Err refusal) → ⊥
none_refused kept plans.HookAdd refusal leads = subst IsAccepted (sym leads) tt
none_refused kept plans.HookDel refusal leads = subst IsAccepted (sym leads) tt
none_refused kept (plans.Add addition) refusal leads = leads
none_refused kept (plans.Replace replacement) refusal leads = leads
none_refused kept (plans.Remove removal) refusal leads = leads
none_refused kept (plans.MakeAction index params) refusal leads =
    subst IsAccepted (sym (leads.1 ∙ made_accepted kept params index (index_or_free index (kind_of params) (state_of kept).actions) leads.0.free)) tt
none_refused kept (plans.ChangeAction index params) refusal leads = subst IsAccepted (sym leads.1) tt
none_refused kept (plans.DelAction kind index) refusal leads = subst IsAccepted (sym leads.1) tt

pub leads_to : (kept : Kept) (plan : Plan) (stepped : Stepped) → Leads kept plan stepped → LeadsTo kept plan stepped
leads_to kept plan (Ok (next, said)) leads = record { next = next; said = said; leads = leads; is = refl }
leads_to kept plan (Err refusal) leads = absurd (none_refused kept plan refusal leads)

-- ---- prepared
prepared_as : {P : Type 0} (prepared : P) (kept : Kept) (plan : Plan) (st other : Stepped) → SameStepped st other → Leads kept plan st → IsPrepared (Ok prepared) other
prepared_as prepared kept plan (Ok (next, said)) (Ok (to, answer)) same leads = tt
prepared_as prepared kept plan (Ok (next, said)) (Err refusal) same leads = absurd same
prepared_as prepared kept plan (Err refusal) other same leads = absurd (none_refused kept plan refusal leads)

refused_alike : (P : Type 0) (kept : Kept) (refusal : Refusal) (st other : Stepped) → SameStepped st other → IsPlanned kept (Err refusal) st → IsPrepared {P = P} (Err refusal) other
refused_alike P kept refusal (Ok (next, said)) (Ok (to, answer)) same planned = planned
refused_alike P kept refusal (Ok (next, said)) (Err other) same planned = absurd same
refused_alike P kept refusal (Err said) (Ok (to, answer)) same planned = absurd same
refused_alike P kept refusal (Err said) (Err other) same planned = planned ∙ same

pub all_prepared : {P : Type 0} (prepared : P) (old new : Kept) (plan : Plan) (edit : Edit) (s : State) → AreKept old → Spells old s →
    IsPlanned new (Ok plan) (step (state_of old) edit) → IsPrepared (Ok prepared) (step s edit)
all_prepared prepared old new plan edit s kept spells planned =
    prepared_as prepared new plan (step (state_of old) edit) (step s edit) (step_same (state_of old) s edit spells kept.sound) planned

pub all_refused : (P : Type 0) (old new : Kept) (refusal : Refusal) (edit : Edit) (s : State) → AreKept old → Spells old s →
    IsPlanned new (Err refusal) (step (state_of old) edit) → IsPrepared {P = P} (Err refusal) (step s edit)
all_refused P old new refusal edit s kept spells planned =
    refused_alike P new refusal (step (state_of old) edit) (step s edit) (step_same (state_of old) s edit spells kept.sound) planned

-- ---- finished
finished_as : (new : Kept) (done said : Done) (next : State) (other : Stepped) → SameStepped (Ok (next, said)) other → IsDone new done next said → IsFinished new done other
finished_as new done said next (Ok (to, answer)) same is = (is.answer ∙ same.1, same_state_trans is.state same.0)
finished_as new done said next (Err refusal) same is = absurd same

pub all_finished : (old new : Kept) (done said : Done) (next : State) (edit : Edit) (s : State) → AreKept old → Spells old s → step (state_of old) edit ≡ accepted next said →
    IsDone new done next said → IsFinished new done (step s edit)
all_finished old new done said next edit s kept spells is done_so =
    finished_as new done said next (step s edit) (subst (λ st. SameStepped st (step s edit)) is (step_same (state_of old) s edit spells kept.sound)) done_so

pub still_kept : (old new : Kept) (done said : Done) (next : State) (edit : Edit) → AreKept old → IsLine edit → step (state_of old) edit ≡ accepted next said →
    IsDone new done next said → AreKept new
still_kept old new done said next edit kept line is done_so = record {
  whole = done_so.whole;
  sound = sound_same next (state_of new) (same_state_sym done_so.state)
      (subst (λ st. Sound (state_after (state_of old) st)) is (step_sound (state_of old) edit kept.sound line));
  filters = done_so.filters;
}

-- ---- done at once
pub planned_refused : (old new : Kept) (refusal : Refusal) (st : Stepped) → IsPlanned new (Err refusal) st → IsRoomier old new → IsDoneAtOnce old new (Err refusal) st
planned_refused old new refusal (Ok next) planned roomier = (planned, roomier)
planned_refused old new refusal (Err said) planned roomier = (planned, roomier)

pub accepted_done : (old new : Kept) (done said : Done) (next : State) (st : Stepped) → st ≡ accepted next said → IsDone new done next said → IsDoneAtOnce old new (Ok done) st
accepted_done old new done said next st is done_so = subst (IsDoneAtOnce old new (Ok done)) (sym is) done_so

kept_by : (old new : Kept) (result : Result Done Refusal) (edit : Edit) (st : Stepped) → step (state_of old) edit ≡ st → AreKept old → IsLine edit → IsDoneAtOnce old new result st →
    AreKept new
kept_by old new (Ok done) edit (Ok (next, said)) is kept line told = still_kept old new done said next edit kept line is told
kept_by old new (Ok done) edit (Err said) is kept line told = absurd told
kept_by old new (Err refusal) edit (Ok next) is kept line told = kept_later old new told.1 kept
kept_by old new (Err refusal) edit (Err said) is kept line told = kept_later old new told.1 kept

pub kept_at_once : (old new : Kept) (result : Result Done Refusal) (edit : Edit) → AreKept old → IsLine edit → IsDoneAtOnce old new result (step (state_of old) edit) → AreKept new
kept_at_once old new result edit kept line told = kept_by old new result edit (step (state_of old) edit) refl kept line told

stepped_as : (old new : Kept) (result : Result Done Refusal) (st other : Stepped) → SameStepped st other → IsDoneAtOnce old new result st → IsStepped old new result other
stepped_as old new (Ok done) (Ok (next, said)) (Ok (to, answer)) same told = (told.answer ∙ same.1, same_state_trans told.state same.0)
stepped_as old new (Ok done) (Ok (next, said)) (Err other) same told = absurd same
stepped_as old new (Ok done) (Err said) other same told = absurd told
stepped_as old new (Err refusal) (Ok (next, said)) (Ok (to, answer)) same told = (told.0, state_same old new told.1)
stepped_as old new (Err refusal) (Ok (next, said)) (Err other) same told = absurd same
stepped_as old new (Err refusal) (Err said) (Ok (to, answer)) same told = absurd same
stepped_as old new (Err refusal) (Err said) (Err other) same told = (told.0 ∙ same, state_same old new told.1)

pub stepped_at_once : (old new : Kept) (result : Result Done Refusal) (edit : Edit) (s : State) → AreKept old → Spells old s → IsDoneAtOnce old new result (step (state_of old) edit) →
    IsStepped old new result (step s edit)
stepped_at_once old new result edit s kept spells told =
    stepped_as old new result (step (state_of old) edit) (step s edit) (step_same (state_of old) s edit spells kept.sound) told

-- ---- the lists are still as they were left
pub leads_here : (kept left : Kept) (plan : Plan) (edit : Edit) → kept ≡ left → Leads left plan (step (state_of left) edit) → LeadsTo kept plan (step (state_of kept) edit)
leads_here kept left plan edit same leads =
    subst (λ k. LeadsTo k plan (step (state_of k) edit)) (sym same) (leads_to left plan (step (state_of left) edit) leads)
