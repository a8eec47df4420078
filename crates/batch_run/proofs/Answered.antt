-- What the lists answer an edit, read as what becomes of its line.
use Rattle.std.proofs.Common.{◌≡◌, ℕ, List, Some, None, Ok, Err, refl, sym, ap, subst}
use Rattle.filter_state.specs.declared.edit.Edit.{Edit}
use Rattle.filter_state.specs.declared.refusal.Done.{Done}
use Rattle.filter_state.specs.declared.refusal.Refusal.{Refusal}
use Rattle.filter_state.specs.declared.refusal.Refusal.TheVariants as refusals
use Rattle.filter_state.specs.States.{State}
use Rattle.filter_state.specs.Order.{SameState}
use Rattle.filter_state.specs.Steps.{Stepped, step}
use Rattle.filter_lists.specs.Passed.{Kept}
use Rattle.filter_lists.specs.Spells.{Spells}
use Rattle.filter_lists.specs.Edits.{Stays, IsStepped}
use Rattle.tc_batch.specs.Grammar.{Gives}
use Rattle.batch_run.specs.declared.stop.Stop.TheVariants as stops
use Rattle.batch_run.specs.Applied.{IsApplied}
use Rattle.tc_base.specs.Memory.{no_memory}

-- the lists that stay still spell the state
pub still : (old new : Kept) (s : State) → Stays old new → Spells old s → Spells new s
still old new s stays spells = subst (λ (t : State). SameState t s) (sym stays) spells

accepted_step : (old new : Kept) (done : Done) (stepped : Stepped) → IsStepped old new (Ok done) stepped → (next : State) × (said : Done) × (stepped ≡ Ok (next, said)) × Spells new next
accepted_step old new done (Ok (next, said)) (same, spells) = (next, said, refl, spells)
accepted_step old new done (Err said) h = absurd h

pub accepts : (old new : Kept) (s : State) (words : List (List ℕ)) (line : ℕ) (edit : Edit) (done : Done) → Gives words edit → IsStepped old new (Ok done) (step s edit) → IsApplied s new words line None
accepts old new s words line edit done gives is =
    let it = accepted_step old new done (step s edit) is in
    (edit, gives, it.0, it.1, it.2, it.3)

-- want of memory is told apart, so any other refusal is the step's
refused_step : (old new : Kept) (refusal : Refusal) (stepped : Stepped) → (refusal ≡ refusals.NoMemory no_memory → ⊥) → IsStepped old new (Err refusal) stepped → (stepped ≡ Err refusal) × Stays old new
refused_step old new refusal (Ok next) other (want, stays) = absurd (other want)
refused_step old new refusal (Err said) other (same, stays) = (ap (λ (r : Refusal). Err r) (sym same), stays)

pub refuses : (old new : Kept) (s : State) (words : List (List ℕ)) (line : ℕ) (edit : Edit) (refusal : Refusal) → (refusal ≡ refusals.NoMemory no_memory → ⊥) → Gives words edit → Spells old s
    → IsStepped old new (Err refusal) (step s edit) → IsApplied s new words line (Some (stops.Refused line refusal))
refuses old new s words line edit refusal other gives spells is =
    let it = refused_step old new refusal (step s edit) other is in
    (edit, gives, it.0, refl, still old new s it.1 spells)
