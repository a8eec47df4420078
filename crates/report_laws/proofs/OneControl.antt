-- Events of one control.
use Rattle.std.proofs.Common.{◌≡◌, ◌∙◌, ℕ, Bool, true, false, List, [], ◌∷◌, ◌++◌, refl, ap, arith}
use Rattle.std.specs.Prelude.{if◌then◌else◌}
use Rattle.std.proofs.lemmas.Bool.Decides.{nat_tests}
use Rattle.std.proofs.lemmas.List.Elements.{filter-append}
use Rattle.filter_state.specs.Sound.{Each}
use Rattle.run_report.specs.declared.events.Event.{Event}
use Rattle.lawful_runs.specs.Events.{is_of, events_of}

abbrev pub IsBy : ℕ → Event → Type 0
IsBy control event = event.control ≡ control

pub events_of-append : (control : ℕ) (xs ys : List Event) → events_of control (xs ++ ys) ≡ events_of control xs ++ events_of control ys
events_of-append control xs ys = filter-append (is_of control) xs ys

kept_if : (b : Bool) (event : Event) (rest : List Event) → b ≡ true → (if b then event ∷ rest else rest) ≡ event ∷ rest
kept_if true event rest is = refl
kept_if false event rest is = absurd (cc is)

its_own : (control : ℕ) (event : Event) → IsBy control event → is_of control event ≡ true
its_own control event is = grind (arith, nat_tests, is)

pub all_own : (control : ℕ) (events : List Event) → Each (IsBy control) events → events_of control events ≡ events
all_own control [] each = refl
all_own control (event ∷ events) each =
    kept_if (is_of control event) event (events_of control events) (its_own control event each.0) ∙ ap (λ (es : List Event). event ∷ es) (all_own control events each.1)
