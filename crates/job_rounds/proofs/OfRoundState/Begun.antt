-- A round's state at its beginning.
use Rattle.std.proofs.Common.{◌≡◌, ◌∙◌, ℕ, List, [], length, Option, sym, ap}
use Rattle.std.specs.Prelude.{replicate}
use Rattle.tc_base.specs.declared.ear.EventName.{EventName}
use Rattle.filter_state.specs.declared.edit.Edit.{Edit}
use Rattle.round_terms.specs.MadeAction.{MadeAction}
use Rattle.round_terms.specs.Event.{Event}
use Rattle.round_terms.specs.LoadedJob.{LoadedJob}
use Rattle.round_terms.specs.Given.{IsLoaded}
use Rattle.round_terms.specs.declared.place.Place.{Place}
use Rattle.round_terms.specs.Files.{files_of}
use Rattle.round_terms.specs.Hearing.{EarView, ear_of}
use Rattle.round_terms.specs.Underway.{made_behind}
use Rattle.round_terms.proofs.Making.{none_behind}
use Rattle.round_terms.proofs.JobFiles.{are_files}
use Rattle.round_terms.proofs.Beginning.{start_place, begins_with, hears_none}
use Rattle.shared_hook.specs.Views.{DeskView, journal}
use Rattle.job_rounds.specs.OfRoundState.Rounds.{StoreName, IsDeskOf, IsRoundOf}

none_made : (before journal : List Edit) (made : List MadeAction) → journal ≡ before → made ≡ [] → made ≡ made_behind before journal
none_made before journal made same none =
    none ∙ sym (ap (made_behind before) same ∙ none_behind before)

pub begun : {E : Type 0} (name : E → ℕ) (heard : E → Option (List EventName)) (spare : E → ℕ) (store : StoreName) (job : LoadedJob) (number controls : ℕ) (before : List Edit) (first : EarView) (desk : DeskView) (ear : E)
    (events : List Event) (made : List MadeAction) (places : List Place) → IsDeskOf store desk → journal desk ≡ before → ear_of name heard spare ear ≡ first → controls ≡ job.job.controls → IsLoaded job
    → events ≡ [] → made ≡ [] → places ≡ replicate controls start_place
    → IsRoundOf name heard spare store job number before first (record { desk = desk; events = events; made = made; places = places; ear = ear })
begun name heard spare store job number controls before first desk ear events made places own same ear_is many loaded no_events no_made all = record {
  desk = own;
  under = begins_with (files_of job number) job.job.controls controls before (journal desk) events places (are_files job number loaded) same no_events all many;
  made = none_made before (journal desk) made same no_made;
  hears = hears_none name heard spare first ear number (length before) events ear_is no_events;
}
