-- What holds of a refusal and of what follows where nothing is refused holds of the answer.
use Rattle.std.proofs.Common.{◌≡◌, Option, Some, None, Result, Ok, Err, refl}
use Rattle.filter_state.specs.declared.refusal.Refusal.{Refusal}
use Rattle.filter_state.specs.Actions.{and_then}
use Rattle.filter_state.specs.Steps.{Stepped, unless}

module _ (P : Stepped → Type 0) (refusals : (refusal : Refusal) → P (Err refusal)) where
  pub unless_refused : (refused : Option Refusal) (rest : Stepped) → P rest → P (unless refused rest)
  unless_refused (Some refusal) rest holds = refusals refusal
  unless_refused None rest holds = holds

  pub followed : {A : Type 0} (more : A → Stepped) (first : Result A Refusal) → ((a : A) → first ≡ Ok a → P (more a)) → P (and_then more first)
  followed more (Ok a) holds = holds a refl
  followed more (Err refusal) holds = refusals refusal
