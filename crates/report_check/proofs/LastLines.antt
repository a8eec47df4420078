-- The lines behind the rounds, and what a whole report comes to.
use Rattle.std.proofs.Common.{◌≡◌, ◌∙◌, ℕ, zero, suc, ◌+◌, ◌-◌, ◌^◌, ◌<◌, ◌≤◌, List, [], ◌∷◌, ◌++◌, length, map, take, drop, Option, Some, None, refl, sym, ap, subst, arith, append-nil}
use Rattle.std.specs.Prelude.{slice_get, codes, if◌then◌else◌}
use Rattle.std.proofs.lemmas.List.{length-append}
use Rattle.std.proofs.lemmas.List.Sums.{sum_by-append, sum_by-cons}
use Rattle.filter_state.specs.declared.edit.Edit.{Edit}
use Rattle.filter_state.specs.States.{no_state}
use Rattle.batch_run.specs.declared.made_action.MadeAction.{MadeAction}
use Rattle.walk_ends.specs.declared.counts.Count.{Count}
use Rattle.walk_ends.specs.Passing.{is_pass}
use Rattle.walk_texts.specs.declared.summary.Summary.{Summary}
use Rattle.walk_texts.specs.Texts.{counter_line, summary_line}
use Rattle.run_report.specs.declared.outcomes.Outcome.{Outcome}
use Rattle.run_report.specs.declared.rounds.RoundRecord.{RoundRecord}
use Rattle.run_report.specs.declared.record.RunRecord.{RunRecord}
use Rattle.run_report.specs.Counts.{passed_count, edits_in, events_in, packets_in, passed_in, summary_of}
use Rattle.run_report.specs.Reports.{counter_lines, report_text}
use Rattle.lawful_runs.specs.declared.loaded.LoadedJob.{LoadedJob}
use Rattle.lawful_runs.specs.Given.{GivenRound, IsLoaded, given_rounds, packet_count}
use Rattle.lawful_runs.specs.Lawful.{made_by, counter_of, counters_of, outcomes_in, executed_in, IsRunWith, IsLawfulReport}
use Rattle.report_laws.specs.OfLineCuts.Cuts.{cut, joined}
use Rattle.report_laws.specs.Stands.{Stand, start, closing, run_of, last_lines, settled, settled_at, Takes, IsPath, journal_length}
use Rattle.report_laws.specs.OfWholePaths.FirstBadLines.{IsFirstBadLine, IsOpen}
use Rattle.report_laws.proofs.Paths.{path_append}
use Rattle.report_laws.proofs.OnePath.{path_grows}
use Rattle.report_laws.proofs.ShortJournals.{journal_few}
use Rattle.report_laws.proofs.OfWholePaths.Completing.{completes}
use Rattle.report_laws.proofs.OfWholePaths.Reached.{run_of_path}
use Rattle.report_laws.proofs.OfWholePaths.Cutting.{joined_cut}
use Rattle.report_laws.proofs.OfWholePaths.Exact.{bad_line, cut_short, whole_report}
use Rattle.tool_words.specs.declared.reason.Reason.TheVariants as reasons
use Rattle.report_check.specs.Reasons.{IsReasonAt, due_reason}
use Rattle.report_check.specs.declared.events.cursor.Cursor.{Cursor}
use Rattle.report_check.specs.OfEvents.Cursors.{lines_left, IsNextLine, IsAt, GetsStuck, IsStuck, IsRefused, MustBe}
use Rattle.journal_replay.specs.declared.replay.Replay.{Replay}
use Rattle.report_check.specs.declared.rounds.Progress.{Progress}
use Rattle.run_counts.specs.Counting.{count_of, counted_in}
use Rattle.report_check.specs.Counting.{counted_lines}
use Rattle.report_check.specs.Checks.{IsUntitled}
use Rattle.report_check.specs.Replayed.{IsReplayOf}
use Rattle.journal_replay.specs.Placed.{places_in}
use Rattle.journal_replay.specs.Replays.{IsKept}
use Rattle.report_check.specs.Walked.{AreWalkers}
use Rattle.report_check.specs.Between.{IsBetween}
use Rattle.report_check.proofs.Captures.{given_end}

-- ---- a line of those that are left
pub left_open : (run : RunRecord) (journal : List Edit) (line : List ℕ) (left : List (List ℕ)) → IsOpen (closing run journal (line ∷ left))
left_open run journal line left = λ other others is. cc is

pub left_must_be : (loaded : LoadedJob) (bytes : List ℕ) (cursor : Cursor) (run : RunRecord) (journal : List Edit) (line : List ℕ) (left : List (List ℕ)) → MustBe loaded bytes cursor (closing run journal (line ∷ left)) line
left_must_be loaded bytes cursor run journal line left = λ next_line next is_next takes. takes.0

pub left_takes : (loaded : LoadedJob) (run : RunRecord) (journal : List Edit) (line : List ℕ) (left : List (List ℕ)) → Takes loaded (closing run journal (line ∷ left)) line (closing run journal left)
left_takes loaded run journal line left = (refl, refl)

-- ---- the counters
counter_one : (executed : List (ℕ × ℕ)) (counts : List Count) (made : MadeAction) → ((serial : ℕ) → count_of counts serial ≡ counted_in executed serial)
    → counter_line made (counted_in executed made.serial) ≡ counter_line made (count_of counts made.serial)
counter_one executed counts made are = ap (counter_line made) (sym (are made.serial))

counters_from : (executed : List (ℕ × ℕ)) (counts : List Count) (made : List MadeAction) → ((serial : ℕ) → count_of counts serial ≡ counted_in executed serial)
    → counter_lines (map (counter_of executed) made) ≡ counted_lines counts made
counters_from executed counts [] are = refl
counters_from executed counts (action ∷ made) are =
    ap (λ (line : List ℕ). line ∷ counter_lines (map (counter_of executed) made)) (counter_one executed counts action are) ∙ ap (λ (lines : List (List ℕ)). counter_line action (count_of counts action.serial) ∷ lines) (counters_from executed counts made are)

-- ---- the summary
passed_push : (xs ys : List Outcome) → passed_count (xs ++ ys) ≡ passed_count xs + passed_count ys
passed_push xs ys = sum_by-append (λ (o : Outcome). if is_pass o.verdict then 1 else 0) xs ys

passed_all : (its : List RoundRecord) → passed_count (outcomes_in its) ≡ passed_in its
passed_all [] = refl
passed_all (it ∷ its) =
    let rest = passed_all its in
    let push = passed_push it.outcomes (outcomes_in its) in
    let sum = sum_by-cons (λ (r : RoundRecord). passed_count r.outcomes) it its in
    omega (arith, rest, push, sum)

packets_all : (its : List RoundRecord) → length (outcomes_in its) ≡ packets_in its
packets_all [] = refl
packets_all (it ∷ its) =
    let rest = packets_all its in
    let push = length-append it.outcomes (outcomes_in its) in
    let sum = sum_by-cons (λ (r : RoundRecord). length r.outcomes) it its in
    omega (arith, rest, push, sum)

summary_from : (a b c d e f g h : ℕ) → a ≡ e → b ≡ f → c ≡ g → d ≡ h → ◌≡◌ {A = Summary} (record { edits = a; refused = b; passed = c; dropped = d }) (record { edits = e; refused = f; passed = g; dropped = h })
summary_from a b c d e f g h one two three four =
    ap (λ (n : ℕ). record { edits = n; refused = b; passed = c; dropped = d }) one
    ∙ ap (λ (n : ℕ). record { edits = e; refused = n; passed = c; dropped = d }) two
    ∙ ap (λ (n : ℕ). record { edits = e; refused = f; passed = n; dropped = d }) three
    ∙ ap (λ (n : ℕ). record { edits = e; refused = f; passed = g; dropped = n }) four

-- ---- behind the rounds
abbrev pub summary_at : Progress → Summary
summary_at progress = record { edits = length progress.replay.journal.items; refused = progress.replay.refused; passed = progress.walkers.passed; dropped = progress.walkers.dropped }

abbrev pub end_lines : Progress → List (List ℕ)
end_lines progress = summary_line (summary_at progress) ∷ codes "end\n" ∷ []

module _ (loaded : LoadedJob) (bytes : List ℕ) (progress : Progress) (b : IsBetween loaded bytes (length loaded.job.rounds) progress) where
  summary_is : summary_at progress ≡ summary_of b.its
  summary_is =
      let edits = b.edits in
      let refused = b.refused in
      let passed = b.are.passed in
      let all = b.are.all in
      let one = passed_all b.its in
      let other = packets_all b.its in
      summary_from (length progress.replay.journal.items) progress.replay.refused progress.walkers.passed progress.walkers.dropped (edits_in b.its) (events_in b.its - edits_in b.its) (passed_in b.its) (packets_in b.its - passed_in b.its) (sym edits) (omega (arith, edits, refused)) (passed ∙ one) (omega (arith, passed, all, one, other))

  counters_are : counter_lines (counters_of progress.replay.journal.items b.its) ≡ counted_lines progress.walkers.counts progress.replay.made.items
  counters_are =
      counters_from (executed_in (outcomes_in b.its)) progress.walkers.counts (made_by no_state progress.replay.journal.items) b.are.counts
      ∙ ap (counted_lines progress.walkers.counts) (sym b.kept.made_is)

  pub at_closing : IsAt loaded bytes progress.cursor (closing (run_of b.its progress.replay.journal.items) progress.replay.journal.items (counted_lines progress.walkers.counts progress.replay.made.items ++ end_lines progress))
  at_closing =
      let run : RunRecord = run_of b.its progress.replay.journal.items in
      let none : slice_get (given_rounds loaded) (length b.its) ≡ None = ap (slice_get (given_rounds loaded)) b.count_is ∙ given_end loaded.job.rounds loaded.batches loaded.captures in
      let closed : settled loaded b.its progress.replay.journal.items ≡ closing run progress.replay.journal.items (last_lines run) = ap (λ (o : Option GivenRound). settled_at o b.its progress.replay.journal.items) none in
      let lines : last_lines run ≡ counted_lines progress.walkers.counts progress.replay.made.items ++ end_lines progress =
      ap (λ (ls : List (List ℕ)). ls ++ (summary_line (summary_of b.its) ∷ codes "end\n" ∷ [])) counters_are
      ∙ ap (λ (s : Summary). counted_lines progress.walkers.counts progress.replay.made.items ++ (summary_line s ∷ codes "end\n" ∷ [])) (sym summary_is) in
      subst (λ (ls : List (List ℕ)). IsAt loaded bytes progress.cursor (closing run progress.replay.journal.items ls)) lines (subst (IsAt loaded bytes progress.cursor) closed b.is_at)

-- ---- a counter is due before two lines at least
due_three : (first : List ℕ) (lines : List (List ℕ)) → 2 ≤ length lines → reasons.Counter ≡ due_reason (first ∷ lines)
due_three first [] two = absurd (omega (arith, two))
due_three first (last ∷ []) two = absurd (omega (arith, two))
due_three first (summary ∷ last ∷ left) two = refl

pub counter_due : (first : List ℕ) (lines left : List (List ℕ)) → 2 ≤ length left → reasons.Counter ≡ due_reason (first ∷ (lines ++ left))
counter_due first lines left two = due_three first (lines ++ left) (let sum = length-append lines left in omega (arith, sum, two))

-- ---- what is answered
pub short_path : (loaded : LoadedJob) (stand : Stand) (lines : List (List ℕ)) → IsLoaded loaded → IsPath loaded start lines stand → journal_length stand < 2 ^ 64
short_path loaded stand lines is path =
    let whole = completes loaded stand lines is path in
    let grows = path_grows loaded stand (closing whole.run whole.journal []) whole.more whole.path in
    let ran = run_of_path loaded whole.run whole.journal (lines ++ whole.more) (path_append loaded start stand (closing whole.run whole.journal []) lines whole.more path whole.path) in
    let few = journal_few loaded whole.run whole.journal is ran.0 in
    omega (arith, grows, few)

pub first_bad : (loaded : LoadedJob) (bytes : List ℕ) (cursor : Cursor) → IsLoaded loaded → IsStuck loaded bytes cursor → IsFirstBadLine loaded bytes (cursor.line + 1)
first_bad loaded bytes cursor is it = by_lines (lines_left bytes cursor) it.is_at.gone it.stuck
  where
    number : length it.is_at.lines + 1 ≡ cursor.line + 1
    number = ap (λ (n : ℕ). n + 1) it.is_at.counted

    by_lines : (lines : List (List ℕ)) → cut bytes ≡ it.is_at.lines ++ lines → GetsStuck loaded it.stand lines → IsFirstBadLine loaded bytes (cursor.line + 1)
    by_lines [] gone unended =
        let all : cut bytes ≡ it.is_at.lines = gone ∙ append-nil it.is_at.lines in
        let path = subst (λ (ls : List (List ℕ)). IsPath loaded start ls it.stand) (sym all) it.is_at.path in
        subst (IsFirstBadLine loaded bytes) (ap (λ (ls : List (List ℕ)). length ls + 1) all ∙ number) (cut_short loaded bytes it.stand is path (short_path loaded it.stand (cut bytes) is path) unended)
    by_lines (line ∷ rest) gone none =
        subst (IsFirstBadLine loaded bytes) number (bad_line loaded bytes it.stand it.is_at.lines rest line is gone it.is_at.path (short_path loaded it.stand it.is_at.lines is it.is_at.path) none)

-- and why none goes on with it
pub reason_at : (loaded : LoadedJob) (bytes : List ℕ) (cursor : Cursor) → IsStuck loaded bytes cursor → IsReasonAt loaded bytes (cursor.line + 1) cursor.reason
reason_at loaded bytes cursor it = record {
  before = it.is_at.lines;
  left = lines_left bytes cursor;
  stand = it.stand;
  whole = it.is_at.gone;
  count = ap (λ (n : ℕ). n + 1) (sym it.is_at.counted);
  path = it.is_at.path;
  why = it.why;
}

pub is_lawful : (loaded : LoadedJob) (bytes : List ℕ) (cursor : Cursor) (run : RunRecord) (journal : List Edit) → IsAt loaded bytes cursor (closing run journal []) → lines_left bytes cursor ≡ [] → IsLawfulReport loaded bytes
is_lawful loaded bytes cursor run journal at none =
    let all : cut bytes ≡ at.lines = at.gone ∙ ap (λ (ls : List (List ℕ)). at.lines ++ ls) none ∙ append-nil at.lines in
    whole_report loaded bytes run journal (subst (λ (ls : List (List ℕ)). IsPath loaded start ls (closing run journal [])) (sym all) at.path)

-- and the run that it is the report of
pub lawful_run : (loaded : LoadedJob) (bytes : List ℕ) (cursor : Cursor) (run : RunRecord) (journal : List Edit) → IsAt loaded bytes cursor (closing run journal []) → lines_left bytes cursor ≡ []
    → IsRunWith loaded run journal × (bytes ≡ report_text run)
lawful_run loaded bytes cursor run journal at none =
    let all : cut bytes ≡ at.lines = at.gone ∙ ap (λ (ls : List (List ℕ)). at.lines ++ ls) none ∙ append-nil at.lines in
    let it = run_of_path loaded run journal (cut bytes) (subst (λ (ls : List (List ℕ)). IsPath loaded start ls (closing run journal [])) (sym all) at.path) in
    (it.0, sym (joined_cut bytes) ∙ ap joined it.1)

-- with what its journal leads to
pub replay_of : (loaded : LoadedJob) (report : List ℕ) (replay : Replay) (run : RunRecord) → IsLoaded loaded → IsKept replay → replay.places.items ≡ places_in run.rounds → IsRunWith loaded run replay.journal.items × (report ≡ report_text run)
    → IsReplayOf loaded report replay
replay_of loaded report replay run is kept placed (lawful, reported) = record {
  kept = kept;
  few = journal_few loaded run replay.journal.items is lawful;
  run = run;
  lawful = lawful;
  reported = reported;
  placed = placed;
}

-- a line behind the last one
pub too_many : (loaded : LoadedJob) (bytes : List ℕ) (cursor : Cursor) (run : RunRecord) (journal : List Edit) → IsRefused loaded bytes cursor (closing run journal []) reasons.Behind
too_many loaded bytes cursor run journal = λ line is_next. ((λ next takes. takes), refl)

-- the summary with the journal's length as it is counted
pub at_end : (loaded : LoadedJob) (bytes : List ℕ) (progress : Progress) (cursor : Cursor) (run : RunRecord) (journal : List Edit) (edits : ℕ) → edits ≡ length progress.replay.journal.items → IsAt loaded bytes cursor (closing run journal (end_lines progress))
    → IsAt loaded bytes cursor (closing run journal (summary_line (record { edits = edits; refused = progress.replay.refused; passed = progress.walkers.passed; dropped = progress.walkers.dropped }) ∷ codes "end\n" ∷ []))
at_end loaded bytes progress cursor run journal edits is at =
    subst (λ (n : ℕ). IsAt loaded bytes cursor (closing run journal (summary_line (record { edits = n; refused = progress.replay.refused; passed = progress.walkers.passed; dropped = progress.walkers.dropped }) ∷ codes "end\n" ∷ []))) (sym is) at

-- ---- the lines of counters, one after the other
pub counters_next : (counts : List Count) (made : List MadeAction) (place : ℕ) (action : MadeAction) (line : List ℕ) → slice_get made place ≡ Some action → line ≡ counter_line action (count_of counts action.serial)
    → counted_lines counts (drop place made) ≡ line ∷ counted_lines counts (drop (place + 1) made)
counters_next counts [] place action line is text = absurd (cc is)
counters_next counts (first ∷ made) zero action line is text =
    let same : first ≡ action = cc in
    ap (λ (l : List ℕ). l ∷ counted_lines counts made) (ap (λ (m : MadeAction). counter_line m (count_of counts m.serial)) same ∙ sym text)
counters_next counts (first ∷ made) (suc place) action line is text =
    let more : suc place + 1 ≡ suc (place + 1) = omega arith in
    counters_next counts made place action line is text ∙ ap (λ (n : ℕ). line ∷ counted_lines counts (drop n (first ∷ made))) (sym more)

-- ---- before the first round
pub at_title : (loaded : LoadedJob) (bytes : List ℕ) (cursor : Cursor) → cursor ≡ record { at = 0; line = 0; reason = reasons.Cut } → IsAt loaded bytes cursor start
at_title loaded bytes cursor is = subst (λ (c : Cursor). IsAt loaded bytes c start) (sym is) (record { lines = []; gone = refl; counted = refl; path = refl })

pub title_must_be : (loaded : LoadedJob) (bytes : List ℕ) (cursor : Cursor) → MustBe loaded bytes cursor start (codes "clsact report 1\n")
title_must_be loaded bytes cursor = λ line next is_next takes. takes.0

pub title_takes : (loaded : LoadedJob) → Takes loaded start (codes "clsact report 1\n") (settled loaded [] [])
title_takes loaded = (refl, refl)

pub titled : (bytes : List ℕ) (cursor : Cursor) → cursor ≡ record { at = 0; line = 0; reason = reasons.Cut } → IsNextLine bytes cursor (codes "clsact report 1\n") → IsUntitled bytes → ⊥
titled bytes cursor is next untitled =
    let from : IsNextLine bytes (record { at = 0; line = 0; reason = reasons.Cut }) (codes "clsact report 1\n") = subst (λ (c : Cursor). IsNextLine bytes c (codes "clsact report 1\n")) is next in
    untitled _ from.first

pub start_open : IsOpen start
start_open = λ run journal is. cc is

pub first_between : (loaded : LoadedJob) (bytes : List ℕ) (progress : Progress) → IsAt loaded bytes progress.cursor (settled loaded [] []) → IsKept progress.replay → progress.replay.journal.items ≡ [] → progress.replay.places.items ≡ [] → progress.replay.refused ≡ 0
    → AreWalkers loaded.job.workers [] [] progress.walkers → progress.captures ≡ 0 → IsBetween loaded bytes 0 progress
first_between loaded bytes progress at kept none unplaced unrefused are captures = record {
  its = [];
  count_is = refl;
  is_at = subst (λ (es : List Edit). IsAt loaded bytes progress.cursor (settled loaded [] es)) (sym none) at;
  kept = kept;
  placed = unplaced;
  edits = sym (ap length none);
  refused = (let zero_edits : edits_in [] ≡ 0 = refl in let zero_events : events_in [] ≡ 0 = refl in omega (arith, unrefused, zero_edits, zero_events));
  fewer = omega (arith, unrefused);
  are = subst (λ (es : List Edit). AreWalkers loaded.job.workers es [] progress.walkers) (sym none) are;
  captures_is = captures;
  packets_is = (let all = are.all in let zero_packets : packet_count (take 0 loaded.captures) ≡ 0 = refl in let same = ap (λ (n : ℕ). packet_count (take n loaded.captures)) captures in omega (arith, all, zero_packets, same));
}

pub counter_text : (before line : List ℕ) (action : MadeAction) (count : Count) (counts : List Count) → line ≡ before ++ counter_line action count → before ≡ [] → count ≡ count_of counts action.serial → line ≡ counter_line action (count_of counts action.serial)
counter_text before line action count counts is none counted =
    is ∙ ap (λ (ls : List ℕ). ls ++ counter_line action count) none ∙ ap (counter_line action) counted
