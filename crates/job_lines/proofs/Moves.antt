-- One line on: which lines lead from a state to which one, and that the language of a state is those lines
-- and the next language.
use Rattle.std.proofs.Common.{◌≡◌, ◌∙◌, ◌⊎◌, inl, inr, ℕ, ◌+◌, ◌<◌, ◌≤◌, Bool, true, false, List, [], ◌∷◌, ◌++◌, length, length-append, Option, Some, None, refl, sym, ap, subst, append_assoc, append-nil, arith}
use Rattle.std.specs.Prelude.{codes, if◌then◌else◌}
use Rattle.std.specs.List.{AllByRecursion}
use Rattle.std.specs.Option.{option_map}
use Rattle.tc_words.specs.Texts.{words_are}
use Rattle.job_lines.specs.declared.job.BatchName.{BatchName}
use Rattle.job_lines.specs.declared.job.CaptureName.{CaptureName}
use Rattle.job_lines.specs.declared.job.Round.{Round}
use Rattle.job_lines.specs.declared.job.Job.{Job}
use Rattle.job_lines.specs.Jobs.{Words, header_line, count_line, round_line, end_line, batch_line, capture_line, capture_lines, rounds_lines, IsBatch, IsCapture, IsRound}
use Rattle.job_lines.specs.States.{State, begun_in}
use Rattle.job_lines.specs.Steps.{count_of, batch_of, capture_of, round_of, with_round, without_rounds, after_round, after_batches, in_round, next_state}
use Rattle.job_lines.proofs.LineWords.{are_these, count-from, batch-from, capture-from}
use Rattle.job_lines.proofs.Languages.{with_rounds, AfterRounds, AfterBatches, Few, Language, opened, with_none, by_control}

-- ---- the lines that lead on
pub record HasCount (keyword : List ℕ) (most : ℕ) (words : Words) (count : ℕ) : Type 0 where
  pub low : 1 ≤ count
  pub high : count ≤ most
  pub is : words ≡ count_line keyword count

abbrev pub RoundMoves : Job → Words → State → Type 0
RoundMoves job words next = ((words ≡ round_line) × (next ≡ State.Open job [] 0)) ⊎ ((words ≡ end_line) × (next ≡ State.Ended job))

pub record BatchMoves (job : Job) (batches : List BatchName) (last : ℕ) (words : Words) (next : State) : Type 0 where
  pub batch : BatchName
  pub good : IsBatch job.controls batch
  pub above : last < batch.control
  pub is : words ≡ batch_line batch
  pub leads : next ≡ State.Open job (batches ++ (batch ∷ [])) batch.control

pub record CaptureMoves (job : Job) (batches : List BatchName) (words : Words) (next : State) : Type 0 where
  pub capture : CaptureName
  pub good : IsCapture (Some capture)
  pub is : words ≡ capture_line capture
  pub leads : next ≡ State.Ready (with_round job (round_of batches (Some capture)))

abbrev pub Moves : State → Words → State → Type 0
Moves State.Begun words next = (words ≡ header_line) × (next ≡ State.Headed)
Moves State.Headed words next = (count : ℕ) × HasCount (codes "workers") 8 words count × (next ≡ State.Staffed count)
Moves (State.Staffed workers) words next = (count : ℕ) × HasCount (codes "controls") 4 words count × (next ≡ State.Ready (without_rounds workers count))
Moves (State.Ready job) words next = RoundMoves job words next
Moves (State.Open job batches last) words next = BatchMoves job batches last words next ⊎ (CaptureMoves job batches words next ⊎ RoundMoves (with_round job (round_of batches None)) words next)
Moves (State.Ended job) words next = ⊥

-- ---- each step is such a move
text_move : (a : Bool) (words texts : Words) (state next : State) → (a ≡ true → words ≡ texts) → (if a then Some state else None) ≡ Some next → (words ≡ texts) × (next ≡ state)
text_move true words texts state next found e = (found refl, cc e)
text_move false words texts state next found e = absurd (cc e)

count_move : (keyword : List ℕ) (most : ℕ) (words : Words) (to : ℕ → State) (next : State) (o : Option ℕ) → most < 10 → count_of keyword most words ≡ o → option_map to o ≡ Some next → (count : ℕ) × HasCount keyword most words count × (next ≡ to count)
count_move keyword most words to next None small found e = absurd (cc e)
count_move keyword most words to next (Some count) small found e =
    let is = count-from keyword most words count small found in
    (count, record { low = is.1; high = is.2; is = is.0 }, cc e)

round_by : (a b : Bool) (job : Job) (words : Words) (next : State) → (a ≡ true → words ≡ round_line) → (b ≡ true → words ≡ end_line) → (if a then Some (State.Open job [] 0) else if b then Some (State.Ended job) else None) ≡ Some next → RoundMoves job words next
round_by true b job words next first second e = inl (first refl, cc e)
round_by false true job words next first second e = inr (second refl, cc e)
round_by false false job words next first second e = absurd (cc e)

round_move : (job : Job) (words : Words) (next : State) → after_round job words ≡ Some next → RoundMoves job words next
round_move job words next e = round_by (words_are words round_line) (words_are words end_line) job words next (are_these words round_line) (are_these words end_line) e

capture_move : (job : Job) (batches : List BatchName) (words : Words) (next : State) (o : Option CaptureName) → capture_of words ≡ o → after_batches job batches words o ≡ Some next
    → CaptureMoves job batches words next ⊎ RoundMoves (with_round job (round_of batches None)) words next
capture_move job batches words next None found e = inr (round_move (with_round job (round_of batches None)) words next e)
capture_move job batches words next (Some capture) found e =
    let is = capture-from words capture found in
    inl (record { capture = capture; good = is.1; is = is.0; leads = cc e })

batch_move : (job : Job) (batches : List BatchName) (last : ℕ) (words : Words) (next : State) (o : Option BatchName) → job.controls ≤ 4 → batch_of job.controls last words ≡ o → in_round job batches words o ≡ Some next
    → Moves (State.Open job batches last) words next
batch_move job batches last words next None few found e = inr (capture_move job batches words next (capture_of words) refl e)
batch_move job batches last words next (Some batch) few found e =
    let is = batch-from job.controls last words batch (omega arith) found in
    inl (record { batch = batch; good = is.1; above = is.2; is = is.0; leads = cc e })

pub moves : (state : State) (words : Words) (next : State) → Few state → next_state state words ≡ Some next → Moves state words next
moves State.Begun words next few e = text_move (words_are words header_line) words header_line State.Headed next (are_these words header_line) e
moves State.Headed words next few e = count_move (codes "workers") 8 words State.Staffed next (count_of (codes "workers") 8 words) (omega arith) refl e
moves (State.Staffed workers) words next few e =
    count_move (codes "controls") 4 words (λ controls. State.Ready (without_rounds workers controls)) next (count_of (codes "controls") 4 words) (omega arith) refl e
moves (State.Ready job) words next few e = round_move job words next e
moves (State.Open job batches last) words next few e = batch_move job batches last words next (batch_of job.controls last words) few refl e
moves (State.Ended job) words next few e = absurd (cc e)

-- ---- what a move keeps
round_few : (job : Job) (words : Words) (next : State) → job.controls ≤ 4 → RoundMoves job words next → Few next
round_few job words next few (inl (is, leads)) = subst Few (sym leads) few
round_few job words next few (inr (is, leads)) = subst Few (sym leads) tt

pub few_on : (state : State) (words : Words) (next : State) → Few state → Moves state words next → Few next
few_on State.Begun words next few (is, leads) = subst Few (sym leads) tt
few_on State.Headed words next few (count, has, leads) = subst Few (sym leads) tt
few_on (State.Staffed workers) words next few (count, has, leads) = subst Few (sym leads) has.high
few_on (State.Ready job) words next few move = round_few job words next few move
few_on (State.Open job batches last) words next few (inl move) = subst Few (sym move.leads) few
few_on (State.Open job batches last) words next few (inr (inl move)) = subst Few (sym move.leads) few
few_on (State.Open job batches last) words next few (inr (inr move)) = round_few (with_round job (round_of batches None)) words next few move
few_on (State.Ended job) words next few move = absurd move

-- a line `round` begins a round, and no other line does
abbrev pub round_count : Words → ℕ
round_count words = if words_are words round_line then 1 else 0

-- the rounds that were begun, with those of a line
abbrev Counts : State → Words → State → Type 0
Counts state words next = begun_in next ≡ begun_in state + round_count words

counts_by : (state : State) (words line : Words) (next to : State) → words ≡ line → next ≡ to → Counts state line to → Counts state words next
counts_by state words line next to is leads h = subst (λ (w : Words). Counts state w next) (sym is) (subst (Counts state line) (sym leads) h)

round_counted : (state : State) (job : Job) (words : Words) (next : State) → begun_in state ≡ length job.rounds → RoundMoves job words next → Counts state words next
round_counted state job words next so_far (inl (is, leads)) = counts_by state words round_line next (State.Open job [] 0) is leads (omega (arith, so_far))
round_counted state job words next so_far (inr (is, leads)) = counts_by state words end_line next (State.Ended job) is leads (omega (arith, so_far))

more_rounds : (job : Job) (round : Round) → length (with_round job round).rounds ≡ length job.rounds + 1
more_rounds job round = simp length-append

pub counted : (state : State) (words : Words) (next : State) → Moves state words next → Counts state words next
counted State.Begun words next (is, leads) = counts_by State.Begun words header_line next State.Headed is leads refl
counted State.Headed words next (count, has, leads) = counts_by State.Headed words (count_line (codes "workers") count) next (State.Staffed count) has.is leads refl
counted (State.Staffed workers) words next (count, has, leads) =
    counts_by (State.Staffed workers) words (count_line (codes "controls") count) next (State.Ready (without_rounds workers count)) has.is leads refl
counted (State.Ready job) words next move = round_counted (State.Ready job) job words next refl move
counted (State.Open job batches last) words next (inl move) =
    counts_by (State.Open job batches last) words (batch_line move.batch) next (State.Open job (batches ++ (move.batch ∷ [])) move.batch.control) move.is move.leads (omega arith)
counted (State.Open job batches last) words next (inr (inl move)) =
    counts_by (State.Open job batches last) words (capture_line move.capture) next (State.Ready (with_round job (round_of batches (Some move.capture)))) move.is move.leads (omega (arith, more_rounds job (round_of batches (Some move.capture))))
counted (State.Open job batches last) words next (inr (inr move)) =
    round_counted (State.Open job batches last) (with_round job (round_of batches None)) words next (sym (more_rounds job (round_of batches None))) move
counted (State.Ended job) words next move = absurd move

-- ---- back: what the next state's lines spell is spelled by the line and these
-- the job of rounds one behind the other
pub joined : (job : Job) (round : Round) (later : List Round) → with_rounds (with_round job round) later ≡ with_rounds job (round ∷ later)
joined job round later = ap (λ (rounds : List Round). let j : Job = record { workers = job.workers; controls = job.controls; rounds = rounds } in j) (append_assoc job.rounds (round ∷ []) later)

round_from : (spelled job : Job) (words : Words) (more : List Words) (next : State) → RoundMoves job words next → Language spelled next more → AfterRounds spelled job (words ∷ more)
round_from spelled job words more next (inl (is, leads)) h =
    let at : AfterBatches spelled job [] 0 more = subst (λ (s : State). Language spelled s more) leads h in
    record {
      later = round_of at.more at.capture ∷ at.later;
      rounds = ((at.each, by_control 0 at.more at.rising, at.named), at.rounds);
      whole = at.whole;
      are = ap (λ (w : Words). w ∷ more) is ∙ ap (λ (ls : List Words). round_line ∷ ls) at.are ∙ sym (opened (round_of at.more at.capture) at.later);
    }
round_from spelled job words more next (inr (is, leads)) h =
    let at : (spelled ≡ job) × (more ≡ []) = subst (λ (s : State). Language spelled s more) leads h in
    record {
      later = [];
      rounds = tt;
      whole = at.0 ∙ sym (with_none job);
      are = ap (λ (w : Words). w ∷ more) is ∙ ap (λ (ls : List Words). end_line ∷ ls) at.1;
    }

-- the round ends without a capture, or with one
ended : (spelled job : Job) (batches : List BatchName) (last : ℕ) (capture : Option CaptureName) (lines : List Words) → IsCapture capture → AfterRounds spelled (with_round job (round_of batches capture)) lines
    → AfterBatches spelled job batches last (capture_lines capture ++ lines)
ended spelled job batches last capture lines named h = record {
  more = [];
  capture = capture;
  later = h.later;
  each = tt;
  rising = tt;
  named = named;
  rounds = h.rounds;
  whole = h.whole ∙ joined job (round_of batches capture) h.later ∙ ap (λ (bs : List BatchName). with_rounds job (round_of bs capture ∷ h.later)) (sym (append-nil batches));
  are = ap (λ (ls : List Words). capture_lines capture ++ ls) h.are;
}

batched : (spelled job : Job) (batches : List BatchName) (last : ℕ) (batch : BatchName) (lines : List Words) → IsBatch job.controls batch → last < batch.control
    → AfterBatches spelled job (batches ++ (batch ∷ [])) batch.control lines → AfterBatches spelled job batches last (batch_line batch ∷ lines)
batched spelled job batches last batch lines good above h = record {
  more = batch ∷ h.more;
  capture = h.capture;
  later = h.later;
  each = (good, h.each);
  rising = (above, h.rising);
  named = h.named;
  rounds = h.rounds;
  whole = h.whole ∙ ap (λ (bs : List BatchName). with_rounds job (round_of bs h.capture ∷ h.later)) (append_assoc batches (batch ∷ []) h.more);
  are = ap (λ (ls : List Words). batch_line batch ∷ ls) h.are;
}

pub back : (spelled : Job) (state : State) (words : Words) (more : List Words) (next : State) → Moves state words next → Language spelled next more → Language spelled state (words ∷ more)
back spelled State.Begun words more next (is, leads) h =
    let at : Language spelled State.Headed more = subst (λ (s : State). Language spelled s more) leads h in
    (at.0, ap (λ (w : Words). w ∷ more) is ∙ ap (λ (ls : List Words). header_line ∷ ls) at.1)
back spelled State.Headed words more next (count, has, leads) h =
    let at : Language spelled (State.Staffed count) more = subst (λ (s : State). Language spelled s more) leads h in
    let same : count ≡ spelled.workers = at.0 in (
      (subst (λ (n : ℕ). 1 ≤ n) same has.low, subst (λ (n : ℕ). n ≤ 8) same has.high, at.1.0, at.1.1, at.1.2),
      ap (λ (w : Words). w ∷ more) (has.is ∙ ap (count_line (codes "workers")) same) ∙ ap (λ (ls : List Words). count_line (codes "workers") spelled.workers ∷ ls) at.2,
    )
back spelled (State.Staffed workers) words more next (count, has, leads) h =
    let at : AfterRounds spelled (without_rounds workers count) more = subst (λ (s : State). Language spelled s more) leads h in
    let same_workers : workers ≡ spelled.workers = sym (ap (λ (j : Job). j.workers) at.whole) in
    let same : count ≡ spelled.controls = sym (ap (λ (j : Job). j.controls) at.whole) in
    let rounds : at.later ≡ spelled.rounds = sym (ap (λ (j : Job). j.rounds) at.whole) in
    let all : AllByRecursion (IsRound spelled.controls) spelled.rounds = subst (λ (n : ℕ). AllByRecursion (IsRound n) spelled.rounds) same (subst (AllByRecursion (IsRound count)) rounds at.rounds) in (
      same_workers,
      (subst (λ (n : ℕ). 1 ≤ n) same has.low, subst (λ (n : ℕ). n ≤ 4) same has.high, all),
      ap (λ (w : Words). w ∷ more) (has.is ∙ ap (count_line (codes "controls")) same) ∙ ap (λ (ls : List Words). count_line (codes "controls") spelled.controls ∷ ls) (at.are ∙ ap rounds_lines rounds),
    )
back spelled (State.Ready job) words more next move h = round_from spelled job words more next move h
back spelled (State.Open job batches last) words more next (inl move) h =
    let at : Language spelled (State.Open job (batches ++ (move.batch ∷ [])) move.batch.control) more = subst (λ (s : State). Language spelled s more) move.leads h in
    subst (λ (w : Words). AfterBatches spelled job batches last (w ∷ more)) (sym move.is) (batched spelled job batches last move.batch more move.good move.above at)
back spelled (State.Open job batches last) words more next (inr (inl move)) h =
    let at : Language spelled (State.Ready (with_round job (round_of batches (Some move.capture)))) more = subst (λ (s : State). Language spelled s more) move.leads h in
    subst (λ (w : Words). AfterBatches spelled job batches last (w ∷ more)) (sym move.is) (ended spelled job batches last (Some move.capture) more move.good at)
back spelled (State.Open job batches last) words more next (inr (inr move)) h =
    ended spelled job batches last None (words ∷ more) tt (round_from spelled (with_round job (round_of batches None)) words more next move h)
back spelled (State.Ended job) words more next move h = absurd move
