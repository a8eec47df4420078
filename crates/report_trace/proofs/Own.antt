-- What a trace tells of the report's own.
use Rattle.std.proofs.Common.{◌≡◌, ◌∙◌, ℕ, ◌+◌, List, [], ◌∷◌, ◌++◌, length, refl, sym, ap, ap₂, arith}
use Rattle.std.specs.Prelude.{codes}
use Rattle.std.proofs.lemmas.List.Concat.{flat_map-append}
use Rattle.filter_state.specs.declared.edit.Edit.{Edit}
use Rattle.walk_texts.specs.Texts.{joined, summary_line}
use Rattle.run_report.specs.declared.outcomes.Outcome.{Outcome}
use Rattle.run_report.specs.declared.rounds.RoundRecord.{RoundRecord}
use Rattle.run_report.specs.declared.record.RunRecord.{RunRecord}
use Rattle.run_report.specs.Counts.{accepted_count, edits_in, summary_of}
use Rattle.run_report.specs.EventTexts.{event_lines}
use Rattle.run_report.specs.PacketTexts.{packet_line, packet_lines}
use Rattle.run_report.specs.Reports.{numbered_line, counter_lines, round_lines, rounds_lines, report_text}
use Rattle.lawful_runs.specs.declared.loaded.LoadedJob.{LoadedJob}
use Rattle.lawful_runs.specs.Given.{Arrival, GivenRound, given_rounds}
use Rattle.lawful_runs.specs.Lawful.{AreRounds, IsRunWith}
use Rattle.report_check.proofs.Passed.{packets_from, packets_are, round_text_is, rounds_from, rounds_lines_are, edits_cons}
use Rattle.batch_trace.specs.Passed.{Entry}
use Rattle.batch_trace.specs.Traced.{own, told, own_of, own_in}
use Rattle.report_trace.specs.Traced.{packet_parts, round_parts, rounds_parts, decisions, decided_lines, entries_in, trace_parts}
use Rattle.report_trace.specs.Writing.{lines_from}
use Rattle.report_trace.specs.Rounds.{lines_of_rounds}

joined_append : (xs ys : List (List ℕ)) → joined (xs ++ ys) ≡ joined xs ++ joined ys
joined_append xs ys = flat_map-append (λ (line : List ℕ). line) xs ys

-- ---- lines by their numbers
pub packets_lines : (outcomes : List Outcome) → packet_lines outcomes ≡ lines_from 1 outcomes
packets_lines outcomes = packets_are 1 outcomes ∙ from_number 1 outcomes
  where
    from_number : (n : ℕ) (os : List Outcome) → packets_from n os ≡ lines_from n os
    from_number n [] = refl
    from_number n (o ∷ os) = ap (λ (ls : List (List ℕ)). packet_line n o ∷ ls) (from_number (n + 1) os)

from_round : (n before : ℕ) (its : List RoundRecord) → rounds_from n before its ≡ lines_of_rounds (n + 1) before its
from_round n before [] = refl
from_round n before (it ∷ its) =
    let one = edits_cons it [] in
    let none : edits_in [] ≡ 0 = refl in
    let same : before + accepted_count it.events ≡ before + edits_in (it ∷ []) = omega (arith, one, none) in
    ap₂ (λ (xs ys : List (List ℕ)). xs ++ ys) (sym (round_text_is (n + 1) before it)) (from_round (n + 1) (before + accepted_count it.events) its ∙ ap (λ (k : ℕ). lines_of_rounds (n + 1 + 1) k its) same)

pub rounds_by_number : (its : List RoundRecord) → rounds_lines its ≡ lines_of_rounds 1 0 its
rounds_by_number its = rounds_lines_are its ∙ from_round 0 0 its

-- ---- packets
module _ (entries : List Entry) where
  own_packets : (number : ℕ) (arrivals : List Arrival) (outcomes : List Outcome) → length outcomes ≡ length arrivals → own_in (packet_parts entries number arrivals outcomes) ≡ joined (lines_from number outcomes)
  own_packets number [] [] same = refl
  own_packets number [] (outcome ∷ outcomes) same = absurd (omega (arith, same))
  own_packets number (arrival ∷ arrivals) [] same = absurd (omega (arith, same))
  own_packets number (arrival ∷ arrivals) (outcome ∷ outcomes) same =
      ap (λ (ls : List ℕ). packet_line number outcome ++ ls) (own_packets (number + 1) arrivals outcomes (omega (arith, same)))

  -- ---- rounds
  own_round : (number before : ℕ) (round : GivenRound) (it : RoundRecord) → length it.outcomes ≡ length round.arrivals → own_in (round_parts entries number before round it) ≡ joined (round_lines number before it)
  own_round number before round it same =
      let first : List ℕ = numbered_line (codes "round ") number in
      let last : List ℕ = numbered_line (codes "end round ") number in
      let events : List ℕ = joined (event_lines before it.events) in
      ap (λ (ls : List ℕ). first ++ (events ++ ls))
      (flat_map-append own_of (packet_parts entries 1 round.arrivals it.outcomes) (own last ∷ [])
      ∙ ap (λ (ls : List ℕ). ls ++ (last ++ [])) (own_packets 1 round.arrivals it.outcomes same ∙ ap joined (sym (packets_lines it.outcomes)))
      ∙ sym (joined_append (packet_lines it.outcomes) (last ∷ [])))
      ∙ ap (λ (ls : List ℕ). first ++ ls) (sym (joined_append (event_lines before it.events) (packet_lines it.outcomes ++ (last ∷ []))))

  own_rounds : (workers number count : ℕ) (rounds : List GivenRound) (before : List Edit) (earlier : List Outcome) (its : List RoundRecord) (journal : List Edit) → AreRounds workers rounds before earlier its journal
      → own_in (rounds_parts entries number count rounds its) ≡ joined (lines_of_rounds number count its)
  own_rounds workers number count [] before earlier [] journal are = refl
  own_rounds workers number count [] before earlier (it ∷ its) journal are = absurd are
  own_rounds workers number count (round ∷ rounds) before earlier [] journal are = absurd are
  own_rounds workers number count (round ∷ rounds) before earlier (it ∷ its) journal (edits, one, more) =
      flat_map-append own_of (round_parts entries number count round it) (rounds_parts entries (number + 1) (count + edits_in (it ∷ [])) rounds its)
      ∙ ap₂ (λ (xs ys : List ℕ). xs ++ ys) (own_round number count round it one.walked.one_each) (own_rounds workers (number + 1) (count + edits_in (it ∷ [])) rounds (before ++ edits) (earlier ++ it.outcomes) its journal more)
      ∙ sym (joined_append (round_lines number count it) (lines_of_rounds (number + 1) (count + edits_in (it ∷ [])) its))

-- ---- the whole
pub nothing_else : (loaded : LoadedJob) (run : RunRecord) (journal : List Edit) → IsRunWith loaded run journal → own_in (trace_parts loaded run (entries_in run journal)) ≡ report_text run
nothing_else loaded run journal is =
    let entries : List Entry = entries_in run journal in
    let title : List ℕ = codes "clsact report 1\n" in
    let counters : List ℕ = joined (counter_lines run.counters) in
    let summary : List ℕ = summary_line (summary_of run.rounds) in
    let decided : List ℕ = joined (decided_lines entries (decisions entries (given_rounds loaded) run.rounds)) in
    ap (λ (ls : List ℕ). title ++ ls)
    (flat_map-append own_of (rounds_parts entries 1 0 (given_rounds loaded) run.rounds) (told decided ∷ own counters ∷ own summary ∷ own (codes "end\n") ∷ [])
    ∙ ap (λ (ls : List ℕ). ls ++ (counters ++ (summary ++ (codes "end\n" ++ []))))
    (own_rounds entries loaded.job.workers 1 0 (given_rounds loaded) [] [] run.rounds journal is.rounds ∙ ap joined (sym (rounds_by_number run.rounds)))
    ∙ ap (λ (ls : List ℕ). joined (rounds_lines run.rounds) ++ ls) (sym (joined_append (counter_lines run.counters) (summary ∷ codes "end\n" ∷ [])))
    ∙ sym (joined_append (rounds_lines run.rounds) (counter_lines run.counters ++ (summary ∷ codes "end\n" ∷ []))))
