-- A job that is held has a file for each name, and frames of no more than the most bytes.
use Rattle.std.proofs.Common.{◌≡◌, ◌∙◌, ℕ, ◌+◌, List, [], ◌∷◌, ◌++◌, length, Option, Some, None, refl, sym, ap, ap₂, arith, length-append}
use Rattle.std.specs.List.{AllZip, AllByRecursion}
use Rattle.std.proofs.lemmas.List.{append-nil}
use Rattle.std.proofs.lemmas.List.Elements.{All-from_recursion}
use Rattle.std.proofs.lemmas.List.Sums.{sum_by-cons}
use Rattle.std.proofs.lemmas.Slice.Zip.{AllZip-long}
use Rattle.tc_base.specs.Outside.{Held}
use Rattle.pcap_io.specs.declared.capture.Capture.{Capture}
use Rattle.pcap_io.specs.Captures.{AreShort}
use Rattle.pcap_io.proofs.Stand.{StandFrom-short}
use Rattle.job_lines.specs.declared.job.BatchName.{BatchName}
use Rattle.job_lines.specs.declared.job.CaptureName.{CaptureName}
use Rattle.job_lines.specs.declared.job.Round.{Round}
use Rattle.lawful_runs.specs.declared.loaded.LoadedJob.{LoadedJob}
use Rattle.lawful_runs.specs.Given.{IsLoaded, batches_named, captures_named, capture_count}
use Rattle.job_files.specs.OfInputs.Holdings.{Holds}
use Rattle.job_files.specs.Named.{batch_files, capture_files, round_files, rounds_files, batches_in, captures_in}
use Rattle.job_files.specs.Holdings.{HoldsCapture, HasJob}
use Rattle.job_files.proofs.Joined.{batches_joined, captures_joined}

-- ---- how many files rounds name
batches_of_batches : (batches : List BatchName) → length (batches_in (batch_files batches)) ≡ length batches
batches_of_batches [] = refl
batches_of_batches (batch ∷ batches) = let rest = batches_of_batches batches in omega arith

captures_of_batches : (batches : List BatchName) → captures_in (batch_files batches) ≡ []
captures_of_batches [] = refl
captures_of_batches (batch ∷ batches) = captures_of_batches batches

batches_of_capture : (capture : Option CaptureName) → batches_in (capture_files capture) ≡ []
batches_of_capture None = refl
batches_of_capture (Some capture) = refl

captures_of_capture : (capture : Option CaptureName)
    → length (captures_in (capture_files capture)) ≡ capture_count capture
captures_of_capture None = refl
captures_of_capture (Some capture) = refl

batches_of_round : (round : Round) → length (batches_in (round_files round)) ≡ length round.batches
batches_of_round round =
    ap length (batches_joined (batch_files round.batches) (capture_files round.capture)
    ∙ ap (λ (names : List (List ℕ)). batches_in (batch_files round.batches) ++ names)
    (batches_of_capture round.capture) ∙ append-nil (batches_in (batch_files round.batches)))
    ∙ batches_of_batches round.batches

captures_of_round : (round : Round) → length (captures_in (round_files round)) ≡ capture_count round.capture
captures_of_round round =
    ap length (captures_joined (batch_files round.batches) (capture_files round.capture)
    ∙ ap (λ (names : List (List ℕ)). names ++ captures_in (capture_files round.capture))
    (captures_of_batches round.batches))
    ∙ captures_of_capture round.capture

batches_of_rounds : (rounds : List Round) → length (batches_in (rounds_files rounds)) ≡ batches_named rounds
batches_of_rounds [] = refl
batches_of_rounds (round ∷ rounds) =
    ap length (batches_joined (round_files round) (rounds_files rounds))
    ∙ length-append (batches_in (round_files round)) (batches_in (rounds_files rounds))
    ∙ ap₂ (λ (m n : ℕ). m + n) (batches_of_round round) (batches_of_rounds rounds)
    ∙ sym (sum_by-cons (λ (r : Round). length r.batches) round rounds)

captures_of_rounds : (rounds : List Round) → length (captures_in (rounds_files rounds)) ≡ captures_named rounds
captures_of_rounds [] = refl
captures_of_rounds (round ∷ rounds) =
    ap length (captures_joined (round_files round) (rounds_files rounds))
    ∙ length-append (captures_in (round_files round)) (captures_in (rounds_files rounds))
    ∙ ap₂ (λ (m n : ℕ). m + n) (captures_of_round round) (captures_of_rounds rounds)
    ∙ sym (sum_by-cons (λ (r : Round). capture_count r.capture) round rounds)

-- ---- frames
short_each : (told : Option Held) (names : List (List ℕ)) (captures : List Capture)
    → AllZip (HoldsCapture told) names captures
    → AllByRecursion (λ (capture : Capture). AreShort capture.packets) captures
short_each told [] [] each = tt
short_each told [] (capture ∷ captures) each = absurd each
short_each told (name ∷ names) [] each = absurd each
short_each told (name ∷ names) (capture ∷ captures) each = (
  StandFrom-short capture.big each.0.0 24 capture.packets (length each.0.0) each.0.2.packets,
  short_each told names captures each.1,
)

-- ---- the job
pub job_is_loaded : (told : Option Held) (name : List ℕ) (loaded : LoadedJob) → HasJob told name loaded
    → IsLoaded loaded
job_is_loaded told name loaded has = record {
  job = has.job.is.0.0;
  rounds = has.job.is.1;
  batches =
      AllZip-long (Holds told) (batches_in (rounds_files loaded.job.rounds)) loaded.batches has.files.batches_held
      ∙ batches_of_rounds loaded.job.rounds;
  captures =
      AllZip-long (HoldsCapture told) (captures_in (rounds_files loaded.job.rounds)) loaded.captures
      has.files.captures_held ∙ captures_of_rounds loaded.job.rounds;
  commands = has.files.few_commands;
  packets = has.files.few_packets;
  frames =
      All-from_recursion (λ (capture : Capture). AreShort capture.packets) loaded.captures
      (short_each told (captures_in (rounds_files loaded.job.rounds)) loaded.captures has.files.captures_held);
}
