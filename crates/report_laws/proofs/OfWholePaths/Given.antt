-- The controls of a round rise.
use Rattle.std.proofs.Common.{ℕ, ◌<◌, List, [], ◌∷◌, length, drop}
use Rattle.std.specs.List.{AllByRecursion}
use Rattle.filter_state.specs.Sound.{Each, EachPair}
use Rattle.pcap_io.specs.declared.capture.Capture.{Capture}
use Rattle.job_lines.specs.declared.job.BatchName.{BatchName}
use Rattle.job_lines.specs.declared.job.Round.{Round}
use Rattle.job_lines.specs.Jobs.{ByControl, IsRound as IsJobRound, IsJob}
use Rattle.lawful_runs.specs.declared.loaded.LoadedJob.{LoadedJob}
use Rattle.lawful_runs.specs.Given.{GivenBatch, GivenRound, given_batches, capture_count, rounds_from, given_rounds}
use Rattle.report_laws.proofs.OfWholePaths.Finishing.{Before}

later_controls : (control : ℕ) (names : List BatchName) (files : List (List ℕ)) → AllByRecursion (λ (later : BatchName). control < later.control) names
    → Each (λ (batch : GivenBatch). control < batch.control) (given_batches names files)
later_controls control [] files all = tt
later_controls control (name ∷ names) [] all = tt
later_controls control (name ∷ names) (bytes ∷ files) all = (all.0, later_controls control names files all.1)

batches_rise : (names : List BatchName) (files : List (List ℕ)) → ByControl names → EachPair Before (given_batches names files)
batches_rise [] files by = tt
batches_rise (name ∷ names) [] by = tt
batches_rise (name ∷ names) (bytes ∷ files) by = (later_controls name.control names files by.0, batches_rise names files by.1)

abbrev pub Rises : GivenRound → Type 0
Rises round = EachPair Before round.batches

rounds_rise : (controls : ℕ) (rounds : List Round) (files : List (List ℕ)) (captures : List Capture) → AllByRecursion (IsJobRound controls) rounds → Each Rises (rounds_from rounds files captures)
rounds_rise controls [] files captures all = tt
rounds_rise controls (round ∷ rounds) files captures all =
    (batches_rise round.batches files all.0.1, rounds_rise controls rounds (drop (length round.batches) files) (drop (capture_count round.capture) captures) all.1)

pub all_rise : (loaded : LoadedJob) → IsJob loaded.job → Each Rises (given_rounds loaded)
all_rise loaded is = rounds_rise loaded.job.controls loaded.job.rounds loaded.batches loaded.captures is.4
