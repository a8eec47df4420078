-- A line that is met behind a journal.
use Rattle.std.proofs.Common.{◌≡◌, ◌≢◌, ◌∙◌, ℕ, ◌≤◌, List, [], ◌∷◌, ◌++◌, length, Ok, Err, refl, sym, ap, subst, arith, inl, inr}
use Rattle.filter_state.specs.declared.edit.Edit.{Edit}
use Rattle.filter_state.specs.declared.refusal.Done.{Done}
use Rattle.filter_state.specs.declared.refusal.Refusal.{Refusal}
use Rattle.filter_state.specs.declared.refusal.Refusal.TheVariants as refusals
use Rattle.filter_state.specs.States.{Action, State, no_state}
use Rattle.filter_state.specs.Steps.{Stepped, step}
use Rattle.filter_state.specs.Journals.{state_after, state_from}
use Rattle.hook_lists.specs.declared.kept.Kept.{Kept}
use Rattle.hook_lists.specs.States.{state_of}
use Rattle.filter_lists.specs.Spells.{Spells}
use Rattle.filter_lists.specs.Edits.{Stays, MayStep}
use Rattle.filter_state.specs.Order.{SameState}
use Rattle.batch_run.specs.declared.made_action.MadeAction.{MadeAction}
use Rattle.batch_run.specs.Made.{later_names, made_since}
use Rattle.lawful_runs.specs.Lawful.{made_by}
use Rattle.round_terms.specs.Underway.{made_behind}
use Rattle.round_terms.proofs.Making.{few_from, one_behind, made_further}
use Rattle.state_past.specs.Remembering.{IsFollowed}
use Rattle.tc_base.specs.Memory.{no_memory}

-- ---- before the step
pub may_step : (journal : List Edit) (lists : Kept) → Spells lists (state_from no_state journal) → length journal ≤ 262144 → MayStep lists
may_step journal lists spells short =
    let few = few_from no_state journal in
    let tables = spells.tables_made in
    let masks = spells.masks_made in
    let a = few.tables in
    let b = few.masks in
    record { tables = omega (arith, a, tables, short); masks = omega (arith, b, masks, short) }

-- ---- behind the step
pub record HasStepped (new : Kept) (done : Done) (it : Stepped) : Type 0 where
  pub next : State
  pub steps : it ≡ Ok (next, done)
  pub spells : Spells new next

pub followed_ok : (old new : Kept) (done : Done) (it : Stepped) → IsFollowed old new (Ok done) it → HasStepped new done it
followed_ok old new done (Ok (next, said)) is = record { next = next; steps = ap (λ (d : Done). Ok (next, d)) (sym is.0); spells = is.1 }
followed_ok old new done (Err said) is = absurd is

pub record HasRefused (old new : Kept) (refusal : Refusal) (it : Stepped) : Type 0 where
  pub steps : it ≡ Err refusal
  pub stays : Stays old new

pub followed_err : (old new : Kept) (refusal : Refusal) (it : Stepped) → IsFollowed old new (Err refusal) it → refusal ≢ refusals.NoMemory no_memory → HasRefused old new refusal it
followed_err old new refusal (Ok next) is other = absurd (other is)
followed_err old new refusal (Err said) (inl want) other = absurd (other want)
followed_err old new refusal (Err said) (inr is) other = record { steps = ap (λ (r : Refusal). Err r) (sym is.0); stays = is.1 }

pub spells_still : (old new : Kept) (s : State) → Stays old new → Spells old s → Spells new s
spells_still old new s stays spells = subst (λ (t : State). SameState t s) (sym stays) spells

-- ---- the names of the actions that were made
pub record AreNamed (old new : Kept) (before : ℕ) (names : List Action) : Type 0 where
  pub count : before ≡ old.actions.made
  pub names_are : names ≡ (state_of new).actions

pub made_more : (journal : List Edit) (edit : Edit) (done : Done) (old new : Kept) (before : ℕ) (names : List Action) (made now_made : List MadeAction) → Spells old (state_from no_state journal)
    → HasStepped new done (step (state_from no_state journal) edit) → AreNamed old new before names → made ≡ made_by no_state journal → now_made ≡ made ++ later_names before names
    → now_made ≡ made_by no_state (journal ++ (edit ∷ []))
made_more journal edit done old new before names made now_made spells stepped named is more =
    let s : State = state_from no_state journal in
    let later : List Edit = journal ++ (edit ∷ []) in
    let since : later_names before names ≡ made_since s stepped.next =
    ap (λ (n : ℕ). later_names n names) (named.count ∙ spells.actions_made) ∙ ap (later_names s.actions_made) (named.names_are ∙ stepped.spells.actions) in
    let own : made_since s stepped.next ≡ made_behind journal later =
    ap (made_since s) (sym (ap (state_after s) stepped.steps)) ∙ sym (one_behind journal later edit refl) in
    made_further [] journal (edit ∷ []) journal later made now_made refl refl is (more ∙ ap (λ (ns : List MadeAction). made ++ ns) (since ∙ own))
