-- The workers behind a round.
use Rattle.std.proofs.Common.{◌≡◌, ◌∙◌, ℕ, zero, suc, ◌+◌, ◌<◌, ◌≤◌, ◌⊎◌, inl, inr, List, [], ◌∷◌, ◌++◌, length, Some, refl, sym, ap, subst, arith}
use Rattle.walk_ends.specs.declared.limits.TheConstants.{PACKETS_MAX}
use Rattle.walk_rules.specs.declared.limits.TheConstants.{VISITS_MAX}
use Rattle.std.specs.List.{slice_get, flat_map}
use Rattle.std.proofs.lemmas.List.{length-append}
use Rattle.tc_base.specs.declared.hook.Hook.{Hook}
use Rattle.pcap_io.specs.declared.capture.Packet.{Packet}
use Rattle.filter_state.specs.declared.edit.Edit.{Edit}
use Rattle.filter_state.specs.Sound.{Each}
use Rattle.step_counts.specs.Claims.{HasEachBelow}
use Rattle.worker_rounds.specs.OfLogs.Rows.{numbers_of}
use Rattle.run_report.specs.declared.outcomes.Outcome.{Outcome}
use Rattle.lawful_runs.specs.Given.{Arrival}
use Rattle.lawful_runs.specs.OfLogs.Logs.{LogRow, AreRows, ArePointsTo}
use Rattle.worker_rounds.specs.OfWalks.Walked.{journal_of}
use Rattle.worker_rounds.specs.declared.worker.Worker.{Worker}
use Rattle.worker_rounds.specs.Worked.{arrivals_of}
use Rattle.job_rounds.specs.OfRoundState.Rounds.{StoreName}
use Rattle.job_rounds.specs.OfOneRound.Ends.{IsWorkedAt, HaveWalked}
use Rattle.job_rounds.proofs.OfOneRound.Zips.{there_within}
use Rattle.job_rounds.proofs.OfOneRound.Visits.{AreBy, points_in, counted_up, few_visits, both_visits, told_visits}
use Rattle.job_rounds.specs.Visited.{visits_by}
use Rattle.job_rounds.specs.Taught.{AreTaught}
use Rattle.job_rounds.specs.SoFar.{IsBetween}
use Rattle.job_rounds.proofs.Ready.{Was, was_at, more_points, within_by}

-- ---- a log has no more rows than the round has packets
row_late : (worker start : ℕ) (journal : List Edit) (arrivals : List Arrival) (rows : List LogRow) → AreRows worker start journal arrivals rows → (at : ℕ) (it : LogRow) → slice_get rows at ≡ Some it → at ≤ it.number
row_late worker start journal arrivals rows are zero it is = omega arith
row_late worker start journal arrivals rows are (suc at) it is =
    let less : at < length rows = (let within = within_by rows (suc at) it is in omega (arith, within)) in
    let prior = there_within rows at less in
    let early = row_late worker start journal arrivals rows are at prior.0 prior.1 in
    let rises = ((are (suc at) it is).behind at prior.0 (omega arith) prior.1).0 in
    omega (arith, early, rises)

some_rows : (worker start : ℕ) (journal : List Edit) (arrivals : List Arrival) (rows : List LogRow) (last : ℕ) → AreRows worker start journal arrivals rows → length rows ≡ suc last → length rows ≤ length arrivals
some_rows worker start journal arrivals rows last are long =
    let less : last < length rows = omega (arith, long) in
    let end = there_within rows last less in
    let late = row_late worker start journal arrivals rows are last end.0 end.1 in
    let row = are last end.0 end.1 in
    let within = within_by arrivals end.0.number row.arrival row.there in
    omega (arith, long, late, within)

rows_by : (worker start : ℕ) (journal : List Edit) (arrivals : List Arrival) (rows : List LogRow) (count : ℕ) → AreRows worker start journal arrivals rows → length rows ≡ count → length rows ≤ length arrivals
rows_by worker start journal arrivals rows zero are long = omega (arith, long)
rows_by worker start journal arrivals rows (suc last) are long = some_rows worker start journal arrivals rows last are long

pub few_rows : (worker start : ℕ) (journal : List Edit) (arrivals : List Arrival) (rows : List LogRow) → AreRows worker start journal arrivals rows → length rows ≤ length arrivals
few_rows worker start journal arrivals rows are = rows_by worker start journal arrivals rows (length rows) are refl

-- ---- an outcome among more is one of the first, or one of the others
among : {X : Type 0} (xs ys : List X) (at : ℕ) (x : X) → slice_get (xs ++ ys) at ≡ Some x → ((place : ℕ) × (slice_get xs place ≡ Some x)) ⊎ ((place : ℕ) × (slice_get ys place ≡ Some x))
among [] ys at x is = inr (at, is)
among (first ∷ xs) ys zero x is = inl (0, is)
among (first ∷ xs) ys (suc at) x is = elim (among xs ys at x is) [
  | inl here ↦ inl (suc here.0, here.1)
  | inr there ↦ inr there
]

pub many_arrivals : (hook : Hook) (packets : List Packet) → length (arrivals_of hook packets) ≡ length packets
many_arrivals hook [] = refl
many_arrivals hook (packet ∷ packets) = let rest = many_arrivals hook packets in omega (arith, rest)

module _ (store : StoreName) (left : ℕ) (earlier : List Outcome) (workers : List Worker)
    (between : (at : ℕ) (worker : Worker) → slice_get workers at ≡ Some worker → IsBetween store left earlier at worker)
    (edits : ℕ) (taught : List Worker) (are : AreTaught store edits workers taught)
    (hook : Hook) (packets : List Packet) (journal : List Edit) (last : List Worker) (outcomes : List Outcome)
    (walked : HaveWalked store hook packets journal taught last outcomes) (rest : ℕ) (parts : left ≡ length packets + rest)
    (of_run : length earlier + length outcomes ≤ PACKETS_MAX) (brief : Each (λ (outcome : Outcome). length outcome.points ≤ VISITS_MAX) (earlier ++ outcomes)) where
  -- the rows of each log are its worker's
  are_by : AreBy 1 walked.logs
  are_by index rows log at it is =
      let within = within_by walked.logs index rows log in
      let many = walked.many_logs in
      let own = walked.each index (omega (arith, within, many)) in
      let same : own.rows ≡ rows = (let both = sym own.log ∙ log in cc both) in
      let row = own.worked.are_rows at it (subst (λ (rs : List LogRow). slice_get rs at ≡ Some it) (sym same) is) in
      let was = was_at store left earlier workers between edits taught are index own.worker own.was_there in
      let number : own.worker.number ≡ index + 1 = was.is.number ∙ was.there.number in
      let by = row.by in
      omega (arith, by, number)

  -- a reader's count goes on by the points of the worker's outcomes
  visits_now : (at : ℕ) (own : IsWorkedAt store hook packets journal taught last walked.logs at) → Was store left earlier workers between edits taught are at own.worker → own.now.reader.visits ≡ visits_by (at + 1) (earlier ++ outcomes)
  visits_now at own was =
      let told = told_visits walked.logs outcomes (subst (λ (n : ℕ). HasEachBelow n (flat_map numbers_of walked.logs)) (sym walked.many) walked.each_once) walked.placed at own.rows are_by own.log in
      let both = both_visits (at + 1) earlier outcomes in
      let most = few_visits (at + 1) VISITS_MAX (earlier ++ outcomes) brief in
      let long = length-append earlier outcomes in
      let before : own.worker.reader.visits ≡ visits_by (at + 1) earlier = was.is.visits ∙ was.there.visited in
      let fits : own.worker.reader.visits + points_in own.rows ≤ 18446744073709551615 = omega (arith, told, both, most, long, before, of_run) in
      let counted = own.worked.counted ∙ counted_up own.worker.reader.visits own.rows fits in
      omega (arith, counted, told, both, before)

  -- an outcome of the round by a worker is that of one of its rows
  seen_here : (at : ℕ) (now : Worker) → IsWorkedAt store hook packets journal taught last walked.logs at → (place : ℕ) (outcome : Outcome) → slice_get outcomes place ≡ Some outcome → outcome.worker ≡ now.number → now.number ≡ at + 1
      → (most : ℕ) → ((row : ℕ) (it : LogRow) (rows : List LogRow) → slice_get walked.logs at ≡ Some rows → slice_get rows row ≡ Some it → ArePointsTo most it.outcome.points) → ArePointsTo most outcome.points
  seen_here at now own place outcome is by number most rows =
      let placed = walked.placed place outcome is in
      let there = within_logs placed.index placed.rows placed.log in
      let other = walked.each placed.index there in
      let log : other.rows ≡ placed.rows = (let both = sym other.log ∙ placed.log in cc both) in
      let row = other.worked.are_rows placed.at placed.it (subst (λ (rs : List LogRow). slice_get rs placed.at ≡ Some placed.it) (sym log) placed.there) in
      let was = was_at store left earlier workers between edits taught are placed.index other.worker other.was_there in
      let worker : outcome.worker ≡ placed.index + 1 = ap (λ (o : Outcome). o.worker) (sym placed.same) ∙ row.by ∙ was.is.number ∙ was.there.number in
      let same : placed.index ≡ at = omega (arith, worker, by, number) in
      subst (λ (o : Outcome). ArePointsTo most o.points) placed.same
      (rows placed.at placed.it placed.rows (subst (λ (n : ℕ). slice_get walked.logs n ≡ Some placed.rows) same placed.log) placed.there)
    where
      within_logs : (index : ℕ) (rs : List LogRow) → slice_get walked.logs index ≡ Some rs → index < length taught
      within_logs index rs log = let within = within_by walked.logs index rs log in let many = walked.many_logs in omega (arith, within, many)

  pub between_next : (at : ℕ) (now : Worker) → slice_get last at ≡ Some now → IsBetween store rest (earlier ++ outcomes) at now
  between_next at now is =
      let within = within_by last at now is in
      let many = walked.many_last in
      let own = walked.each at (omega (arith, within, many)) in
      let same : own.now ≡ now = (let both = sym own.is_there ∙ is in cc both) in
      let was = was_at store left earlier workers between edits taught are at own.worker own.was_there in
      let number : own.now.number ≡ at + 1 = own.number ∙ was.is.number ∙ was.there.number in
      let rows = few_rows own.worker.number own.worker.reader.latest (journal_of own.now.reader) (arrivals_of hook packets) own.rows own.worked.are_rows in
      let count = many_arrivals hook packets in
      let walks = own.worked.walks in
      let pin = was.is.pin in
      let few = was.there.few in
      subst (IsBetween store rest (earlier ++ outcomes) at) same (record {
        number = number;
        own = own.own;
        outside = own.outside;
        few = omega (arith, rows, count, walks, pin, few, parts);
        seen = λ place outcome there by. seen at own was number place outcome by (among earlier outcomes place outcome there);
        visited = visits_now at own was;
      })
    where
      seen : (at : ℕ) (own : IsWorkedAt store hook packets journal taught last walked.logs at) → Was store left earlier workers between edits taught are at own.worker → own.now.number ≡ at + 1 → (place : ℕ) (outcome : Outcome) → outcome.worker ≡ own.now.number
          → ((p : ℕ) × (slice_get earlier p ≡ Some outcome)) ⊎ ((p : ℕ) × (slice_get outcomes p ≡ Some outcome)) → ArePointsTo own.now.reader.latest outcome.points
      seen at own was number place outcome by (inl before) =
          let latest = was.is.latest in
          let late = own.worked.late in
          more_points was.old.reader.latest own.now.reader.latest outcome.points (omega (arith, latest, late))
          (was.there.seen before.0 outcome before.1 (by ∙ own.number ∙ was.is.number))
      seen at own was number place outcome by (inr here) =
          seen_here at own.now own here.0 outcome here.1 by number own.now.reader.latest
          (λ row it rs log there. own.worked.seen row it (subst (λ (xs : List LogRow). slice_get xs row ≡ Some it) (let both = sym log ∙ own.log in cc both) there))
