-- How many actions an edit makes is how many its plan makes.
use Rattle.std.proofs.Common.{◌≡◌, ◌⊎◌, inl, inr, ℕ, ◌+◌, sym, ◌∙◌, ap, subst, arith}
use Rattle.filter_state.specs.declared.edit.Edit.{Edit}
use Rattle.filter_state.specs.declared.refusal.Done.{Done}
use Rattle.filter_state.specs.Lines.{IsLine}
use Rattle.filter_state.specs.States.{State}
use Rattle.filter_state.specs.Order.{SameStepped}
use Rattle.filter_state.specs.Steps.{Stepped, step, made_of}
use Rattle.filter_state.specs.Actions.{index_or_free}
use Rattle.act_kinds.specs.declared.params.Kind.{Kind}
use Rattle.act_kinds.specs.declared.params.Params.{Params}
use Rattle.act_kinds.specs.Params.{kind_of}
use Rattle.state_laws.proofs.OfOrder.Steps.{step_same}
use Rattle.action_plan.specs.Plans.{made_by}
use Rattle.action_plan.proofs.Counts.{made_carried}
use Rattle.hook_lists.specs.declared.kept.Kept.{Kept}
use Rattle.hook_lists.specs.States.{state_of, AreKept}
use Rattle.filter_lists.specs.declared.removing.removal.Removal.{Removal}
use Rattle.filter_lists.specs.declared.removing.removal.Removal.TheVariants as removals
use Rattle.filter_lists.specs.declared.plan.Plan.{Plan}
use Rattle.filter_lists.specs.declared.plan.Plan.TheVariants as plans
use Rattle.filter_lists.specs.Spells.{Spells}
use Rattle.filter_lists.specs.Plans.{Leads}
use Rattle.filter_lists.specs.Ready.{Ready}
use Rattle.filter_lists.proofs.Made.{made_accepted}
use Rattle.filter_lists.proofs.Registries.{state_in, accepted}
use Rattle.filter_lists.proofs.Stepping.{leads_to}

-- how many actions a plan makes
abbrev pub makes : Plan → ℕ
makes (plans.Add addition) = made_by addition.actions
makes (plans.Replace replacement) = made_by replacement.actions
makes (plans.MakeAction index params) = 1
makes plans.HookAdd = 0
makes plans.HookDel = 0
makes (plans.Remove removal) = 0
makes (plans.ChangeAction index params) = 0
makes (plans.DelAction kind index) = 0

abbrev made_in : State → Stepped → ℕ
made_in other st = (state_in other st).actions_made

plan_makes : (kept : Kept) (plan : Plan) (next : State) (said : Done) → Leads kept plan (accepted next said) → next.actions_made ≡ (state_of kept).actions_made + makes plan
plan_makes kept plans.HookAdd next said leads = let same = ap (made_in next) leads in omega (arith, same)
plan_makes kept plans.HookDel next said leads = let same = ap (made_in next) leads in omega (arith, same)
plan_makes kept (plans.Add addition) next said leads = ap (λ (s : State). s.actions_made) (sym leads.1) ∙ made_carried (made_of (state_of kept)) addition.actions
plan_makes kept (plans.Replace r) next said leads = ap (λ (s : State). s.actions_made) (sym leads.4) ∙ made_carried (made_of (state_of kept)) r.actions
plan_makes kept (plans.Remove (removals.OneFilter hook chain pref handle table mask)) next said leads = let same = ap (λ (s : State). s.actions_made) leads.1 in omega (arith, same)
plan_makes kept (plans.Remove (removals.WholeTable hook chain pref table)) next said leads = let same = ap (λ (s : State). s.actions_made) leads.1 in omega (arith, same)
plan_makes kept (plans.MakeAction index params) next said leads = ap (made_in next) (leads.1 ∙ made_accepted kept params index (index_or_free index (kind_of params) (state_of kept).actions) leads.0.free)
plan_makes kept (plans.ChangeAction index params) next said leads = let same = ap (made_in next) leads.1 in omega (arith, same)
plan_makes kept (plans.DelAction kind index) next said leads = let same = ap (made_in next) leads.1 in omega (arith, same)

-- seen from a state that the lists spell
spelled_makes : (kept : Kept) (plan : Plan) (s next t : State) (said done : Done) (other : Stepped) → Spells kept s → SameStepped (accepted next said) other → other ≡ accepted t done
    → next.actions_made ≡ (state_of kept).actions_made + makes plan → t.actions_made ≡ s.actions_made + makes plan
spelled_makes kept plan s next t said done other spells same is counted =
    let at = subst (SameStepped (accepted next said)) is same in let made = at.0.actions_made in let now = spells.actions_made in omega (arith, made, now, counted)

pub edit_makes : (kept : Kept) (plan : Plan) (edit : Edit) (s t : State) (done : Done) → AreKept kept → Leads kept plan (step (state_of kept) edit) → Spells kept s
    → step s edit ≡ accepted t done → t.actions_made ≡ s.actions_made + makes plan
edit_makes kept plan edit s t done are leads spells is = let l = leads_to kept plan (step (state_of kept) edit) leads in
    spelled_makes kept plan s l.next t l.said done (step s edit) spells (subst (λ st. SameStepped st (step s edit)) l.is (step_same (state_of kept) s edit spells are.sound)) is
    (plan_makes kept plan l.next l.said l.leads)

-- what is seen of a prepared edit tells it
pub told : (lists : Kept) (edit : Edit) (ready : Ready) (plan : Plan) (result : ℕ) → record { lists = lists; edit = edit } ≡ ready
    → IsLine edit × Leads lists plan (step (state_of lists) edit) × AreKept lists → makes plan ≡ result
    → (s t : State) (done : Done) → Spells ready.lists s → step s ready.edit ≡ accepted t done → t.actions_made ≡ s.actions_made + result
told lists edit ready plan result seen keeps so_many s t done spells is =
    edit_makes lists plan edit s t done keeps.2 keeps.1 (subst (λ (r : Ready). Spells r.lists s) (sym seen) spells) (ap (λ (r : Ready). step s r.edit) seen ∙ is)
    ∙ ap (λ (n : ℕ). s.actions_made + n) so_many

-- the other plans make none
pub makes_none : (plan : Plan) → (plan ≡ plans.HookAdd) ⊎ ((plan ≡ plans.HookDel) ⊎ (((removal : Removal) × (plan ≡ plans.Remove removal))
    ⊎ (((index : ℕ) × (params : Params) × (plan ≡ plans.ChangeAction index params)) ⊎ ((kind : Kind) × (index : ℕ) × (plan ≡ plans.DelAction kind index))))) → makes plan ≡ 0
makes_none plan (inl is) = ap makes is
makes_none plan (inr (inl is)) = ap makes is
makes_none plan (inr (inr (inl is))) = ap makes is.1
makes_none plan (inr (inr (inr (inl is)))) = ap makes is.2
makes_none plan (inr (inr (inr (inr is)))) = ap makes is.2
