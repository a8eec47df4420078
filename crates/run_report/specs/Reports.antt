-- The report of a run. It is this project's own.
use Rattle.std.specs.Prelude.{ℕ, ◌+◌, List, [], ◌∷◌, ◌++◌, map, take, codes}
use Rattle.std.specs.List.{flat_map, enumerate_from}
use Rattle.walk_texts.specs.Texts.{joined, counted, counter_line, summary_line}
use Rattle.run_report.specs.declared.counters.CounterLine.{CounterLine}
use Rattle.run_report.specs.declared.rounds.RoundRecord.{RoundRecord}
use Rattle.run_report.specs.declared.record.RunRecord.{RunRecord}
use Rattle.run_report.specs.Counts.{edits_in, summary_of}
use Rattle.run_report.specs.EventTexts.{event_lines}
use Rattle.run_report.specs.PacketTexts.{packet_lines}

-- the line of a label and a number
unfoldable pub numbered_line : List ℕ → ℕ → List ℕ
numbered_line label number = counted label number ++ codes "\n"

-- the lines of the round of that number, before which so many edits were accepted
abbrev pub round_lines : ℕ → ℕ → RoundRecord → List (List ℕ)
round_lines number before round =
    numbered_line (codes "round ") number
    ∷ (event_lines before round.events
    ++ (packet_lines round.outcomes ++ (numbered_line (codes "end round ") number ∷ [])))

-- the lines of the rounds, numbered from 1: the round at a place stands behind the edits that were accepted
-- in the rounds before it
abbrev pub rounds_lines : List RoundRecord → List (List ℕ)
rounds_lines rounds = flat_map
    (λ (placed : ℕ × RoundRecord). round_lines (placed.0 + 1) (edits_in (take placed.0 rounds)) placed.1)
    (enumerate_from 0 rounds)

abbrev pub counter_lines : List CounterLine → List (List ℕ)
counter_lines counters = map (λ (c : CounterLine).
    counter_line (record { serial = c.serial; kind = c.kind; index = c.index })
    (record { packets = c.packets; bytes = c.bytes })) counters

-- THE REPORT OF A RUN, line by line
abbrev pub report_lines : RunRecord → List (List ℕ)
report_lines run =
    codes "clsact report 1\n"
    ∷ (rounds_lines run.rounds
    ++ (counter_lines run.counters ++ (summary_line (summary_of run.rounds) ∷ codes "end\n" ∷ [])))

abbrev pub report_text : RunRecord → List ℕ
report_text run = joined (report_lines run)
