-- What a run comes to that is over with its batch before its first packet (this project's own).
use Rattle.std.specs.Prelude.{◌≡◌, List, [], ◌∷◌, ◌++◌, ℕ, is_some, codes}
use Rattle.tc_base.specs.declared.hook.Hook.{Hook}
use Rattle.pcap_io.specs.declared.capture.Capture.{Capture}
use Rattle.walk_rules.specs.Walks.{Outcome as WalkOutcome}
use Rattle.batch_run.specs.Runs.{Ran}
use Rattle.capture_walk.specs.Captures.{outcomes_of, passed}
use Rattle.walk_texts.specs.Texts.{joined, summary_line}
use Rattle.batch_walk.specs.Walked.{refused_count, closing_text}
use Rattle.run_report.specs.declared.outcomes.Outcome.{Outcome}
use Rattle.run_report.specs.declared.rounds.RoundRecord.{RoundRecord}
use Rattle.run_report.specs.declared.record.RunRecord.{RunRecord}
use Rattle.run_report.specs.Counts.{summary_of}
use Rattle.run_report.specs.Reports.{counter_lines}
use Rattle.lawful_runs.specs.Given.{arrivals_at}
use Rattle.lawful_runs.specs.Outcomes.{IsRecordOf, passed_of}

-- the lines of a run's report behind its rounds: the counters, the summary, `end`
abbrev pub closing_of : RunRecord → List ℕ
closing_of run = joined (counter_lines run.counters ++ (summary_line (summary_of run.rounds) ∷ codes "end\n" ∷ []))

-- a record of each walk, in order
abbrev pub AreRecordsOf : List Outcome → List WalkOutcome → Type 0
AreRecordsOf [] [] = Unit {0}
AreRecordsOf [] (walk ∷ walks) = ⊥
AreRecordsOf (outcome ∷ outcomes) [] = ⊥
AreRecordsOf (outcome ∷ outcomes) (walk ∷ walks) = IsRecordOf outcome walk × AreRecordsOf outcomes walks

-- THE RUN COMES TO WHAT `walk` COMES TO for a batch that ran so: each packet's walk is the plain walk of the
-- state that the batch left, those that passed are those of these walks, and all that is counted is told in
-- the same words
pub record ComesToWalk (ran : Ran) (hook : Hook) (capture : Capture) (run : RunRecord) : Type 0 where
  pub applied : RoundRecord
  pub replayed : RoundRecord
  pub rounds : run.rounds ≡ applied ∷ replayed ∷ []
  pub walked : AreRecordsOf replayed.outcomes (outcomes_of ran.state hook capture.packets)
  pub passed : passed_of (arrivals_at hook capture) replayed.outcomes ≡ passed ran.state hook capture.packets
  pub closing : closing_of run ≡ closing_text ran hook capture.packets
  pub refused : (summary_of run.rounds).refused ≡ refused_count (is_some ran.stop)
