-- What is ready before a round.
use Rattle.batch_run.specs.declared.limit.TheConstants.{COMMANDS_MAX}
use Rattle.std.proofs.Common.{◌≡◌, ◌∙◌, ℕ, zero, suc, ◌+◌, ◌-◌, ◌<◌, ◌≤◌, max, List, [], ◌∷◌, length, get_or, Some, sym, subst, arith}
use Rattle.std.specs.Prelude.{All}
use Rattle.std.specs.List.{slice_get}
use Rattle.std.proofs.lemmas.Option.{slice_get-get_or}
use Rattle.run_report.specs.declared.outcomes.Outcome.{Outcome}
use Rattle.lawful_runs.specs.declared.loaded.LoadedJob.{LoadedJob}
use Rattle.lawful_runs.specs.Given.{IsLoaded}
use Rattle.lawful_runs.specs.OfLogs.Logs.{ArePointsTo}
use Rattle.worker_rounds.specs.declared.worker.Worker.{Worker}
use Rattle.job_rounds.specs.OfRoundState.Rounds.{StoreName}
use Rattle.job_rounds.specs.OfOneRound.Rounds.{IsRoundWithRoom}
use Rattle.job_rounds.specs.OfOneRound.Hands.{AreReady}
use Rattle.job_rounds.specs.OfOneRound.Ends.{HaveSeen}
use Rattle.job_rounds.proofs.OfOneRound.Zips.{zip_long, zip_at}
use Rattle.job_rounds.specs.Left.{commands_left}
use Rattle.job_rounds.specs.Taught.{IsAway, IsTaught, AreTaught}
use Rattle.job_rounds.specs.SoFar.{IsBetween}
use Rattle.job_rounds.proofs.RoundCommands.{round_split}

-- ---- the journal and the ear have room for a round
pub with_room : (loaded : LoadedJob) (number before spare : ℕ) → IsLoaded loaded → 1 ≤ number → number ≤ length loaded.job.rounds
    → before + commands_left loaded (number - 1) ≤ COMMANDS_MAX → commands_left loaded (number - 1) ≤ spare → IsRoundWithRoom loaded number before spare
with_room loaded number before spare is first last few room =
    let parts = round_split loaded number is first last in
    record {
      loaded = is;
      first = first;
      last = last;
      few = omega (arith, few, parts);
      enough = omega (arith, room, parts);
    }

-- ---- the workers
pub within_by : {X : Type 0} (xs : List X) (at : ℕ) (x : X) → slice_get xs at ≡ Some x → at < length xs
within_by [] at x is = absurd (cc is)
within_by (y ∷ xs) zero x is = omega arith
within_by (y ∷ xs) (suc at) x is = let rest = within_by xs at x is in omega (arith, rest)

max_first : (edits old new : ℕ) → new ≡ max old edits → old ≤ new
max_first edits old new is = omega (arith, is)

max_second : (edits old new : ℕ) → new ≡ max old edits → edits ≤ new
max_second edits old new is = omega (arith, is)

pub more_points : (most more : ℕ) (points : List ℕ) → most ≤ more → ArePointsTo most points → ArePointsTo more points
more_points most more [] less each = tt
more_points most more (point ∷ points) less each = let own = each.0 in (omega (arith, own, less), more_points most more points less each.1)

module _ (store : StoreName) (left : ℕ) (earlier : List Outcome) (workers : List Worker)
    (between : (at : ℕ) (worker : Worker) → slice_get workers at ≡ Some worker → IsBetween store left earlier at worker) where
  pub all_away : All (IsAway store) workers
  all_away k d less = let it = between k (get_or workers k d) (slice_get-get_or workers k d less) in record { own = it.own; outside = it.outside }

  module _ (edits : ℕ) (taught : List Worker) (are : AreTaught store edits workers taught) where
    -- the worker at a place was one of those before
    pub record Was (at : ℕ) (now : Worker) : Type 0 where
      pub old : Worker
      pub there : IsBetween store left earlier at old
      pub is : IsTaught store edits old now

    pub was_at : (at : ℕ) (now : Worker) → slice_get taught at ≡ Some now → Was at now
    was_at at now is =
        let long = zip_long (IsTaught store edits) workers taught are in
        let pair = zip_at (IsTaught store edits) workers taught at are (subst (λ (n : ℕ). at < n) long (within_by taught at now is)) in
        let same : pair.right ≡ now = let one = sym pair.right_there ∙ is in cc one in
        record {
          old = pair.left;
          there = between at pair.left pair.left_there;
          is = subst (IsTaught store edits pair.left) same pair.holds;
        }

    -- they are ready for the packets of the next round, of those that are left
    pub are_ready : (count rest many : ℕ) → left ≡ count + rest → length workers ≡ many → AreReady store count many taught
    are_ready count rest many parts long = record {
      many_are = zip_long (IsTaught store edits) workers taught are ∙ long;
      each = λ at now is.
          let was = was_at at now is in
          let few = was.there.few in
          let pin = was.is.pin in
          (was.is.number ∙ was.there.number, record { own = was.is.away.own; outside = was.is.away.outside; few = omega (arith, few, pin, parts) });
    }

    -- and have seen all that came before
    pub have_seen : HaveSeen edits earlier taught
    have_seen at now is =
        let was = was_at at now is in
        let latest = was.is.latest in (
          max_second edits was.old.reader.latest now.reader.latest latest,
          λ place outcome there by.
              more_points was.old.reader.latest now.reader.latest outcome.points (max_first edits was.old.reader.latest now.reader.latest latest) (was.there.seen place outcome there (by ∙ was.is.number)),
        )
