-- The events of a round whose controls are through.
use Rattle.std.proofs.Common.{◌≡◌, ℕ, List, sym, subst}
use Rattle.filter_state.specs.declared.edit.Edit.{Edit}
use Rattle.round_terms.specs.Event.{Event}
use Rattle.round_terms.specs.declared.place.Place.{Place}
use Rattle.round_terms.specs.Files.{RoundFile, AreFiles}
use Rattle.round_terms.specs.Underway.{IsUnderway}
use Rattle.round_terms.proofs.Ending.{all_in_order}
use Rattle.job_rounds.specs.OfOneRound.Rounds.{AreThrough, AreEvents}

pub events_over : (files : List RoundFile) (controls : ℕ) (before journal later : List Edit) (events now : List Event) (places : List Place) → IsUnderway files controls before journal events places → AreFiles files controls
    → AreThrough files controls events → now ≡ events → later ≡ journal → AreEvents files before later now
events_over files controls before journal later events now places under named through same stays =
    subst (λ (es : List Edit). AreEvents files before es now) (sym stays)
    (subst (AreEvents files before journal) (sym same) (record {
      edits = under.edits;
      journal_is = under.journal_is;
      results = under.results;
      order = all_in_order files controls events named through;
    }))
