-- Events of one control, among those of others.
use Rattle.std.proofs.Common.{◌≡◌, ◌∙◌, ℕ, ◌<◌, Bool, true, false, List, [], ◌∷◌, refl, arith}
use Rattle.std.specs.Prelude.{if◌then◌else◌}
use Rattle.std.proofs.lemmas.Bool.Decides.{nat_tests}
use Rattle.filter_state.specs.Sound.{Each}
use Rattle.run_report.specs.declared.events.Event.{Event}
use Rattle.lawful_runs.specs.Events.{is_of, events_of}
use Rattle.report_laws.proofs.OneControl.{IsBy}

left_if : (b : Bool) (event : Event) (rest : List Event) → b ≡ false → (if b then event ∷ rest else rest) ≡ rest
left_if true event rest is = absurd (cc is)
left_if false event rest is = refl

anothers : (control other : ℕ) (event : Event) → IsBy control event → control < other → is_of other event ≡ false
anothers control other event is less = grind (arith, nat_tests, is, less)

anothers_below : (control other : ℕ) (event : Event) → IsBy control event → other < control → is_of other event ≡ false
anothers_below control other event is less = grind (arith, nat_tests, is, less)

pub none_above : (control other : ℕ) (events : List Event) → Each (IsBy control) events → control < other → events_of other events ≡ []
none_above control other [] each less = refl
none_above control other (event ∷ events) each less =
    left_if (is_of other event) event (events_of other events) (anothers control other event each.0 less) ∙ none_above control other events each.1 less

pub none_below : (control other : ℕ) (events : List Event) → Each (IsBy control) events → other < control → events_of other events ≡ []
none_below control other [] each less = refl
none_below control other (event ∷ events) each less =
    left_if (is_of other event) event (events_of other events) (anothers_below control other event each.0 less) ∙ none_below control other events each.1 less
