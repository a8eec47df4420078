-- What an accepted edit tells: none of its refusals applied, and the state and the answer are those behind
-- them.
use Rattle.std.proofs.Common.{◌≡◌, ℕ, List, Option, Some, None, Result, Ok, refl, ap}
use Rattle.filter_state.specs.declared.refusal.Done.{Done}
use Rattle.filter_state.specs.declared.refusal.Done.TheVariants as dones
use Rattle.filter_state.specs.declared.refusal.Refusal.{Refusal}
use Rattle.filter_state.specs.States.{State}
use Rattle.filter_state.specs.Steps.{unless}
use Rattle.state_laws.proofs.Answers.{ok, same_ok, err_ok}

pub not_unless : {A : Type 0} (refused : Option Refusal) (rest : Result A Refusal) (a : A) → unless refused rest ≡ Ok a → (refused ≡ None) × (rest ≡ Ok a)
not_unless (Some refusal) rest a e = absurd (err_ok refusal a e)
not_unless None rest a e = (refl, e)

pub same_step : (s t : State) (one other : Done) → ok {A = State × Done} (s, one) ≡ Ok (t, other) → (s ≡ t) × (one ≡ other)
same_step s t one other e = let same = same_ok {A = State × Done} (s, one) (t, other) e in (ap (λ step. step.0) same, ap (λ step. step.1) same)

pub same_filter : (pref pref' handle handle' : ℕ) (serials serials' : List ℕ) → dones.Filter pref handle serials ≡ dones.Filter pref' handle' serials' →
    (pref ≡ pref') × (handle ≡ handle') × (serials ≡ serials')
same_filter pref pref' handle handle' serials serials' e = (cc, cc, cc)
