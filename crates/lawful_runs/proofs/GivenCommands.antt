-- What a job gives to the controls of a round: the controls rise and are few, and the lines of each batch
-- rise, so an event's line names one command.
use Rattle.std.proofs.Common.{◌≡◌, ◌∙◌, ℕ, zero, suc, ◌+◌, ◌<◌, ◌≤◌, ◌==◌, Bool, true, false, List, [], ◌∷◌, length, drop, sym, ap, subst, arith}
use Rattle.std.specs.Prelude.{if◌then◌else◌}
use Rattle.std.specs.List.{AllByRecursion}
use Rattle.filter_state.specs.Sound.{Each, EachPair}
use Rattle.filter_state.proofs.Pairs.{each_weaker}
use Rattle.pcap_io.specs.declared.capture.Capture.{Capture}
use Rattle.job_lines.specs.declared.job.BatchName.{BatchName}
use Rattle.job_lines.specs.declared.job.Round.{Round}
use Rattle.job_lines.specs.Jobs.{IsBatch, ByControl, IsRound as IsJobRound, IsJob}
use Rattle.tc_words.specs.Lines.{lines_of, words_of}
use Rattle.batch_run.specs.Commands.{Command, commands_from}
use Rattle.run_report.specs.declared.events.Event.{Event}
use Rattle.lawful_runs.specs.declared.loaded.LoadedJob.{LoadedJob}
use Rattle.lawful_runs.specs.Given.{GivenBatch, GivenRound, given_batches, capture_count, rounds_from, given_rounds}
use Rattle.lawful_runs.specs.Events.{IsAmong, IsLineOf}
use Rattle.filter_state.proofs.Places.{each_at}

-- ---- one element of a key
-- the keys rise
abbrev pub Rises : {X : Type 0} → (X → ℕ) → X → X → Type 0
Rises key x y = key x < key y

pub one_of_key : {X : Type 0} (key : X → ℕ) (xs : List X) (x y : X) → EachPair (Rises key) xs → IsAmong x xs → IsAmong y xs → key x ≡ key y → x ≡ y
one_of_key key [] x y rise (place, is) (there, at) same = absurd (cc is)
one_of_key key (first ∷ xs) x y rise (zero, is) (zero, at) same = cc
one_of_key key (first ∷ xs) x y rise (zero, is) (suc there, at) same =
    let here : first ≡ x = cc in
    let less : key first < key y = each_at (Rises key first) xs there y rise.0 at in
    let low = ap key here in
    absurd (omega (arith, less, low, same))
one_of_key key (first ∷ xs) x y rise (suc place, is) (zero, at) same =
    let here : first ≡ y = cc in
    let less : key first < key x = each_at (Rises key first) xs place x rise.0 is in
    let low = ap key here in
    absurd (omega (arith, less, low, same))
one_of_key key (first ∷ xs) x y rise (suc place, is) (suc there, at) same = one_of_key key xs x y rise.1 (place, is) (there, at) same

-- ---- what a job gives: its controls rise, and so do the lines of each batch
pub record AreNumbered (number : ℕ) (commands : List Command) : Type 0 where
  pub from : Each (λ (command : Command). number ≤ command.line) commands
  pub rise : EachPair (Rises (λ (command : Command). command.line)) commands

pub numbered : (number : ℕ) (texts : List (List ℕ)) → AreNumbered number (commands_from number texts)
numbered number [] = record { from = tt; rise = tt }
numbered number (text ∷ texts) = by_test (length (words_of text) == 0) (numbered (number + 1) texts)
  where
    later : (command : Command) → number + 1 ≤ command.line → number ≤ command.line
    later command least = omega (arith, least)

    behind : (command : Command) → number + 1 ≤ command.line → number < command.line
    behind command least = omega (arith, least)

    by_test : (b : Bool) → AreNumbered (number + 1) (commands_from (number + 1) texts)
        → AreNumbered number (if b then commands_from (number + 1) texts else record { line = number; words = words_of text } ∷ commands_from (number + 1) texts)
    by_test true rest = record { from = each_weaker (λ (c : Command). number + 1 ≤ c.line) (λ (c : Command). number ≤ c.line) later (commands_from (number + 1) texts) rest.from; rise = rest.rise }
    by_test false rest = record {
      from = (omega arith, each_weaker (λ (c : Command). number + 1 ≤ c.line) (λ (c : Command). number ≤ c.line) later (commands_from (number + 1) texts) rest.from);
      rise = (each_weaker (λ (c : Command). number + 1 ≤ c.line) (λ (c : Command). number < c.line) behind (commands_from (number + 1) texts) rest.from, rest.rise);
    }

pub record AreGiven (batches : List GivenBatch) : Type 0 where
  pub controls : EachPair (Rises (λ (batch : GivenBatch). batch.control)) batches
  pub few : Each (λ (batch : GivenBatch). batch.control ≤ 4) batches
  pub lines : Each (λ (batch : GivenBatch). EachPair (Rises (λ (command : Command). command.line)) batch.commands) batches

later_controls : (control : ℕ) (names : List BatchName) (files : List (List ℕ)) → AllByRecursion (λ (later : BatchName). control < later.control) names
    → Each (λ (batch : GivenBatch). control < batch.control) (given_batches names files)
later_controls control [] files all = tt
later_controls control (name ∷ names) [] all = tt
later_controls control (name ∷ names) (bytes ∷ files) all = (all.0, later_controls control names files all.1)

batches_given : (controls : ℕ) (names : List BatchName) (files : List (List ℕ)) → controls ≤ 4 → AllByRecursion (IsBatch controls) names → ByControl names → AreGiven (given_batches names files)
batches_given controls [] files most each by = record { controls = tt; few = tt; lines = tt }
batches_given controls (name ∷ names) [] most each by = record { controls = tt; few = tt; lines = tt }
batches_given controls (name ∷ names) (bytes ∷ files) most each by =
    let rest = batches_given controls names files most each.1 by.1 in
    let own = each.0.1 in
    record {
      controls = (later_controls name.control names files by.0, rest.controls);
      few = (omega (arith, own, most), rest.few);
      lines = ((numbered 1 (lines_of bytes)).rise, rest.lines);
    }

rounds_given : (controls : ℕ) (rounds : List Round) (files : List (List ℕ)) (captures : List Capture) → controls ≤ 4 → AllByRecursion (IsJobRound controls) rounds
    → Each (λ (given : GivenRound). AreGiven given.batches) (rounds_from rounds files captures)
rounds_given controls [] files captures most all = tt
rounds_given controls (round ∷ rounds) files captures most all =
    (batches_given controls round.batches files most all.0.0 all.0.1, rounds_given controls rounds (drop (length round.batches) files) (drop (capture_count round.capture) captures) most all.1)

pub all_given : (loaded : LoadedJob) → IsJob loaded.job → Each (λ (given : GivenRound). AreGiven given.batches) (given_rounds loaded)
all_given loaded is = rounds_given loaded.job.controls loaded.job.rounds loaded.batches loaded.captures is.3 is.4

-- ---- one batch of a control, one command of a line
pub one_batch : (batches : List GivenBatch) (one other : GivenBatch) → AreGiven batches → IsAmong one batches → IsAmong other batches → one.control ≡ other.control → one ≡ other
one_batch batches one other given here there same = one_of_key (λ (b : GivenBatch). b.control) batches one other given.controls here there same

-- events of one control and one line have the same words
pub one_words : (batches : List GivenBatch) (event other : Event) (words more : List (List ℕ)) → AreGiven batches → event.control ≡ other.control → event.line ≡ other.line
    → IsLineOf batches event words → IsLineOf batches other more → words ≡ more
one_words batches event other words more given by at line again =
    let control : line.batch.control ≡ again.batch.control = line.control ∙ by ∙ sym again.control in
    let batch : line.batch ≡ again.batch = one_batch batches line.batch again.batch given line.given again.given control in
    let rise = each_at (λ (b : GivenBatch). EachPair (Rises (λ (c : Command). c.line)) b.commands) batches line.given.0 line.batch given.lines line.given.1 in
    let there : IsAmong again.command line.batch.commands = subst (λ (b : GivenBatch). IsAmong again.command b.commands) (sym batch) again.there in
    let command : line.command ≡ again.command = one_of_key (λ (c : Command). c.line) line.batch.commands line.command again.command rise line.there there (line.line ∙ at ∙ sym again.line) in
    line.words_are ∙ ap (λ (c : Command). c.words) command ∙ sym again.words_are

pub control_small : (batches : List GivenBatch) (event : Event) (words : List (List ℕ)) → AreGiven batches → IsLineOf batches event words → event.control ≤ 4
control_small batches event words given line =
    let own = each_at (λ (b : GivenBatch). b.control ≤ 4) batches line.given.0 line.batch given.few line.given.1 in
    let same = line.control in
    omega (arith, own, same)
