-- What lies under the lock of a round (this project's own).
use Rattle.std.specs.Prelude.{ℕ, List, length, Option}
use Rattle.atomic_table.specs.Seated.{TableId}
use Rattle.tc_base.specs.declared.ear.EventName.{EventName}
use Rattle.pin_store.specs.declared.shape.Shape.{Shape}
use Rattle.pin_store.specs.declared.store.Store.{Store}
use Rattle.pin_store.specs.Calls.{IsSeatAt}
use Rattle.filter_state.specs.declared.edit.Edit.{Edit}
use Rattle.round_terms.specs.MadeAction.{MadeAction}
use Rattle.round_terms.specs.Event.{Event}
use Rattle.round_terms.specs.LoadedJob.{LoadedJob}
use Rattle.round_terms.specs.declared.place.Place.{Place}
use Rattle.round_terms.specs.Files.{files_of}
use Rattle.round_terms.specs.Hearing.{EarView, HasHeard}
use Rattle.round_terms.specs.Underway.{IsUnderway, IsMadeSince}
use Rattle.shared_hook.specs.Views.{DeskView, journal}

-- which store it is, and how large
pub record StoreName : Type 0 where
  pub table : TableId
  pub shape : Shape

abbrev pub store_name : {L E : Type 0} → Store L E → StoreName
store_name store = record { table = store.words.shared.table_id; shape = store.shape }

-- the desk writes that store
abbrev pub IsDeskOf : StoreName → DeskView → Type 0
IsDeskOf store desk = IsSeatAt store.table store.shape desk.place

-- the desk, what happened in the round, the actions that it made, how far each control has come, and the ear
pub record Underway (E : Type 0) : Type 0 where
  pub desk : DeskView
  pub events : List Event
  pub made : List MadeAction
  pub places : List Place
  pub ear : E

-- WHAT HOLDS whenever the lock is free. The events are an interleaving of the lines that the controls have
-- met, none behind a line at which its batch stops; each has its result; the journal is the one before the
-- round with the accepted edits behind it; and the ear has heard of these, in order.
pub record IsRoundOf {E : Type 0} (name : E → ℕ) (heard : E → Option (List EventName)) (spare : E → ℕ)
    (store : StoreName) (job : LoadedJob) (round : ℕ) (before : List Edit) (first : EarView)
    (state : Underway E) : Type 0 where
  pub desk : IsDeskOf store state.desk
  pub under : IsUnderway (files_of job round) job.job.controls before (journal state.desk) state.events
      state.places
  pub made : IsMadeSince before (journal state.desk) state.made
  pub hears : HasHeard name heard spare first state.ear round (length before) state.events
