-- What a desk answers a line, read as what becomes of it.
use Rattle.std.proofs.Common.{◌≡◌, ◌≢◌, ◌∙◌, ℕ, List, [], ◌∷◌, Ok, Err, refl, sym, ap, append-nil}
use Rattle.store_history.specs.History.{edits_of}
use Rattle.filter_state.specs.declared.edit.Edit.{Edit}
use Rattle.filter_state.specs.declared.refusal.Done.{Done}
use Rattle.filter_state.specs.declared.refusal.Refusal.{Refusal}
use Rattle.filter_state.specs.declared.refusal.Refusal.TheVariants as refusals
use Rattle.filter_state.specs.States.{State, no_state}
use Rattle.filter_state.specs.Steps.{Stepped, step}
use Rattle.filter_state.specs.Journals.{state_from}
use Rattle.tc_batch.specs.Grammar.{Gives}
use Rattle.round_terms.specs.EventKind.TheVariants as kinds
use Rattle.pin_store.specs.Calls.{seen_by}
use Rattle.hook_store_law.specs.OfEdits.Premises.{now}
use Rattle.shared_hook.specs.Views.{DeskView, journal}
use Rattle.shared_hook.specs.Applied.{stepped, IsCause, IsApplied, IsRefused}
use Rattle.round_terms.specs.Underway.{IsMet}
use Rattle.job_rounds.specs.OfRoundState.Turns.{IsUntouched}
use Rattle.job_rounds.proofs.OfRoundState.Counts.{now_is}
use Rattle.tc_base.specs.Memory.{no_memory}

pub met_accepted : (old new : DeskView) (words : List (List ℕ)) (edit : Edit) (done : Done) → Gives words edit → IsApplied old new edit done → IsMet (journal old) (journal new) words (kinds.Accepted done)
met_accepted old new words edit done gives is =
    let from : step (state_from no_state (journal old)) edit ≡ Ok (now (seen_by new.place), done) = ap (λ (s : State). step s edit) (sym (now_is (seen_by old.place))) ∙ is.steps in
    (now (seen_by new.place), edit ∷ [], (edit, gives, from, refl), is.journal_is)

-- want of memory is told apart, so any other refusal is the step's
cause_of : (refusal : Refusal) (it : Stepped) → refusal ≢ refusals.NoMemory no_memory → IsCause refusal it → it ≡ Err refusal
cause_of refusal (Ok next) other want = absurd (other want)
cause_of refusal (Err said) other same = ap (λ (r : Refusal). Err r) (sym same)

pub same_journal : (old new : DeskView) → new.place ≡ old.place → journal new ≡ journal old
same_journal old new same = ap (λ place. edits_of (seen_by place)) same

pub met_refused : (old new : DeskView) (words : List (List ℕ)) (edit : Edit) (refusal : Refusal) → Gives words edit → refusal ≢ refusals.NoMemory no_memory → IsRefused old new edit refusal
    → IsMet (journal old) (journal new) words (kinds.Refused refusal)
met_refused old new words edit refusal gives other is =
    let from : step (state_from no_state (journal old)) edit ≡ Err refusal = ap (λ (s : State). step s edit) (sym (now_is (seen_by old.place))) ∙ cause_of refusal (stepped old edit) other is.cause in
    (state_from no_state (journal old), [], (edit, gives, from, refl, refl), same_journal old new is.place ∙ sym (append-nil (journal old)))

pub untouched : (old new : DeskView) (edit : Edit) (refusal : Refusal) → IsRefused old new edit refusal → IsUntouched old new
untouched old new edit refusal is = record { place = is.place; lists = is.lists; free = is.free; left = is.left }
