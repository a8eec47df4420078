-- What the lists say of an edit that they have done.
use Rattle.std.proofs.Common.{◌≡◌, Ok, Err, sym, ap}
use Rattle.filter_state.specs.declared.refusal.Done.{Done}
use Rattle.filter_state.specs.States.{State}
use Rattle.filter_state.specs.Steps.{Stepped}
use Rattle.filter_state.specs.Journals.{state_after}
use Rattle.hook_lists.specs.declared.kept.Kept.{Kept}
use Rattle.filter_lists.specs.Edits.{IsFinished}

-- the step of the state says it too
pub said : (s : State) (new : Kept) (done : Done) (r : Stepped) → IsFinished new done r → r ≡ Ok (state_after s r, done)
said s new done (Ok (t, told)) f = ap (λ (d : Done). Ok (t, d)) (sym f.0)
said s new done (Err refusal) f = absurd f
