-- A round whose controls are all through.
use Rattle.std.proofs.Common.{ℕ, ◌≤◌, List, refl, subst}
use Rattle.run_report.specs.declared.events.Event.{Event}
use Rattle.lawful_runs.specs.Given.{GivenBatch}
use Rattle.lawful_runs.specs.Events.{IsThrough, AreInOrder, events_of}
use Rattle.round_terms.specs.Files.{RoundFile, AreFiles, batches_of}
use Rattle.round_terms.specs.Coming.{IsThroughAll}
use Rattle.round_terms.proofs.Counting.{file_at}

pub all_in_order : (files : List RoundFile) (controls : ℕ) (events : List Event) → AreFiles files controls → ((control : ℕ) → 1 ≤ control → control ≤ controls → IsThroughAll files control events) → AreInOrder (batches_of files) events
all_in_order files controls events named through = λ batch among.
    let it = file_at files among.0 batch among.1 in
    let own = named.numbered it.at it.file it.there in
    subst (λ (b : GivenBatch). IsThrough b.force b.commands (events_of b.control events)) it.same (through it.file.control own.0 own.1 it.at it.file it.there refl)
