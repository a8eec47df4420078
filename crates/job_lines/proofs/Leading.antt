-- A line that a job has behind a state leads on from it.
use Rattle.std.proofs.Common.{◌≡◌, ◌∙◌, ◌⊎◌, inl, inr, ℕ, ◌<◌, ◌≤◌, List, [], ◌∷◌, ◌++◌, Option, Some, None, refl, sym, ap, subst, append_assoc, append-nil, arith}
use Rattle.std.specs.Prelude.{map, codes}
use Rattle.std.specs.List.{AllByRecursion}
use Rattle.std.specs.Option.{option_map}
use Rattle.job_lines.specs.declared.job.BatchName.{BatchName}
use Rattle.job_lines.specs.declared.job.CaptureName.{CaptureName}
use Rattle.job_lines.specs.declared.job.Round.{Round}
use Rattle.job_lines.specs.declared.job.Job.{Job}
use Rattle.job_lines.specs.Jobs.{Words, header_line, count_line, round_line, end_line, batch_line, capture_line, capture_lines, rounds_lines, IsBatch, IsCapture, IsRound}
use Rattle.job_lines.specs.States.{State}
use Rattle.job_lines.specs.Steps.{round_of, with_round, without_rounds, after_round, after_batches, in_round, next_state}
use Rattle.job_lines.proofs.LineWords.{count-to, batch-to, capture-to}
use Rattle.job_lines.proofs.Languages.{with_rounds, Rising, AfterRounds, Few, Language, opened, with_none, rising, above_zero_all}
use Rattle.job_lines.proofs.Moves.{joined}

-- the state behind a line
pub record Leads (spelled : Job) (state : State) (words : Words) (more : List Words) : Type 0 where
  pub next : State
  pub goes : next_state state words ≡ Some next
  pub after : Language spelled next more

-- ---- behind whole rounds
record RoundLeads (spelled job : Job) (words : Words) (more : List Words) : Type 0 where
  is : (words ≡ round_line) ⊎ (words ≡ end_line)
  next : State
  goes : after_round job words ≡ Some next
  after : Language spelled next more

round_by : (spelled job : Job) (words : Words) (more : List Words) (later : List Round) → AllByRecursion (IsRound job.controls) later → spelled ≡ with_rounds job later → words ∷ more ≡ rounds_lines later → RoundLeads spelled job words more
round_by spelled job words more [] rounds whole e =
    let first : words ≡ end_line = cc e in
    let left : more ≡ [] = cc e in
    record { is = inr first; next = State.Ended job; goes = ap (after_round job) first; after = (whole ∙ with_none job, left) }
round_by spelled job words more (round ∷ later) rounds whole e =
    let line : words ∷ more ≡ round_line ∷ (map batch_line round.batches ++ (capture_lines round.capture ++ rounds_lines later)) = e ∙ opened round later in
    let first : words ≡ round_line = cc line in
    let left : more ≡ map batch_line round.batches ++ (capture_lines round.capture ++ rounds_lines later) = cc line in
    let each = rounds.0 in
    record {
      is = inl first;
      next = State.Open job [] 0;
      goes = ap (after_round job) first;
      after = record {
        more = round.batches;
        capture = round.capture;
        later = later;
        each = each.0;
        rising = rising 0 round.batches (above_zero_all job.controls round.batches each.0) each.1;
        named = each.2;
        rounds = rounds.1;
        whole = whole;
        are = left;
      };
    }

round_leads : (spelled job : Job) (words : Words) (more : List Words) → AfterRounds spelled job (words ∷ more) → RoundLeads spelled job words more
round_leads spelled job words more h = round_by spelled job words more h.later h.rounds h.whole h.are

-- ---- in a round
-- neither `round` nor `end` is a batch or a capture
through : (job : Job) (batches : List BatchName) (last : ℕ) (words : Words) → (words ≡ round_line) ⊎ (words ≡ end_line) → next_state (State.Open job batches last) words ≡ after_round (with_round job (round_of batches None)) words
through job batches last words (inl is) = subst (λ (w : Words). next_state (State.Open job batches last) w ≡ after_round (with_round job (round_of batches None)) w) (sym is) refl
through job batches last words (inr is) = subst (λ (w : Words). next_state (State.Open job batches last) w ≡ after_round (with_round job (round_of batches None)) w) (sym is) refl

-- a round that has ended is a whole one
closed : (spelled job : Job) (batches : List BatchName) (capture : Option CaptureName) (later : List Round) → spelled ≡ with_rounds job (round_of (batches ++ []) capture ∷ later) → spelled ≡ with_rounds (with_round job (round_of batches capture)) later
closed spelled job batches capture later whole =
    whole ∙ ap (λ (bs : List BatchName). with_rounds job (round_of bs capture ∷ later)) (append-nil batches) ∙ sym (joined job (round_of batches capture) later)

capture_goes : (job : Job) (batches : List BatchName) (last : ℕ) (capture : CaptureName) → IsCapture (Some capture)
    → next_state (State.Open job batches last) (capture_line capture) ≡ Some (State.Ready (with_round job (round_of batches (Some capture))))
capture_goes job batches last capture named = ap (after_batches job batches (capture_line capture)) (capture-to capture named)

batch_goes : (job : Job) (batches : List BatchName) (last : ℕ) (batch : BatchName) → job.controls ≤ 4 → IsBatch job.controls batch → last < batch.control
    → next_state (State.Open job batches last) (batch_line batch) ≡ Some (State.Open job (batches ++ (batch ∷ [])) batch.control)
batch_goes job batches last batch few good above = ap (in_round job batches (batch_line batch)) (batch-to job.controls last batch (omega arith) good above)

in_round_leads : (spelled job : Job) (batches : List BatchName) (last : ℕ) (words : Words) (lines : List Words) (more : List BatchName) (capture : Option CaptureName) (later : List Round)
    → job.controls ≤ 4 → AllByRecursion (IsBatch job.controls) more → Rising last more → IsCapture capture → AllByRecursion (IsRound job.controls) later
    → spelled ≡ with_rounds job (round_of (batches ++ more) capture ∷ later) → words ∷ lines ≡ map batch_line more ++ (capture_lines capture ++ rounds_lines later) → Leads spelled (State.Open job batches last) words lines
in_round_leads spelled job batches last words lines [] None later few each up named rounds whole e =
    let led = round_by spelled (with_round job (round_of batches None)) words lines later rounds (closed spelled job batches None later whole) e in
    record { next = led.next; goes = through job batches last words led.is ∙ led.goes; after = led.after }
in_round_leads spelled job batches last words lines [] (Some capture) later few each up named rounds whole e =
    let first : words ≡ capture_line capture = cc e in
    let left : lines ≡ rounds_lines later = cc e in
    record {
      next = State.Ready (with_round job (round_of batches (Some capture)));
      goes = ap (next_state (State.Open job batches last)) first ∙ capture_goes job batches last capture named;
      after = record { later = later; rounds = rounds; whole = closed spelled job batches (Some capture) later whole; are = left };
    }
in_round_leads spelled job batches last words lines (batch ∷ more) capture later few each up named rounds whole e =
    let first : words ≡ batch_line batch = cc e in
    let left : lines ≡ map batch_line more ++ (capture_lines capture ++ rounds_lines later) = cc e in
    record {
      next = State.Open job (batches ++ (batch ∷ [])) batch.control;
      goes = ap (next_state (State.Open job batches last)) first ∙ batch_goes job batches last batch few each.0 up.0;
      after = record {
        more = more;
        capture = capture;
        later = later;
        each = each.1;
        rising = up.1;
        named = named;
        rounds = rounds;
        whole = whole ∙ ap (λ (bs : List BatchName). with_rounds job (round_of bs capture ∷ later)) (sym (append_assoc batches (batch ∷ []) more));
        are = left;
      };
    }

-- ---- from each state
pub leads : (spelled : Job) (state : State) (words : Words) (more : List Words) → Few state → Language spelled state (words ∷ more) → Leads spelled state words more
leads spelled State.Begun words more few (good, e) =
    let first : words ≡ header_line = cc e in
    let left : more ≡ count_line (codes "workers") spelled.workers ∷ count_line (codes "controls") spelled.controls ∷ rounds_lines spelled.rounds = cc e in
    record { next = State.Headed; goes = ap (next_state State.Begun) first; after = (good, left) }
leads spelled State.Headed words more few (good, e) =
    let first : words ≡ count_line (codes "workers") spelled.workers = cc e in
    let left : more ≡ count_line (codes "controls") spelled.controls ∷ rounds_lines spelled.rounds = cc e in
    record {
      next = State.Staffed spelled.workers;
      goes = ap (next_state State.Headed) first ∙ ap (option_map State.Staffed) (count-to (codes "workers") 8 spelled.workers (omega arith) good.0 good.1);
      after = (refl, (good.2, good.3, good.4), left);
    }
leads spelled (State.Staffed workers) words more few (same, good, e) =
    let first : words ≡ count_line (codes "controls") spelled.controls = cc e in
    let left : more ≡ rounds_lines spelled.rounds = cc e in
    record {
      next = State.Ready (without_rounds workers spelled.controls);
      goes =
          ap (next_state (State.Staffed workers)) first
          ∙ ap (option_map (λ controls. State.Ready (without_rounds workers controls))) (count-to (codes "controls") 4 spelled.controls (omega arith) good.0 good.1);
      after = record {
        later = spelled.rounds;
        rounds = good.2;
        whole = ap (λ (n : ℕ). let j : Job = record { workers = n; controls = spelled.controls; rounds = spelled.rounds } in j) (sym same);
        are = left;
      };
    }
leads spelled (State.Ready job) words more few h = let led = round_leads spelled job words more h in record { next = led.next; goes = led.goes; after = led.after }
leads spelled (State.Open job batches last) words more few h = in_round_leads spelled job batches last words more h.more h.capture h.later few h.each h.rising h.named h.rounds h.whole h.are
leads spelled (State.Ended job) words more few (whole, e) = absurd (cc e)
