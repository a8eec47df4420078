-- The line of a packet as its number and what it tells behind that. This serves the proofs: no clause of a public
-- call speaks of it.
use Rattle.std.specs.Prelude.{◌≡◌, List, ℕ, ◌++◌, length, codes, Option, Some, None}
use Rattle.walk_texts.specs.Texts.{counted, end_text}
use Rattle.run_report.specs.declared.outcomes.Outcome.{Outcome}
use Rattle.run_report.specs.declared.outcomes.OutcomeView.{OutcomeView}
use Rattle.run_report.specs.declared.line_head.LineHead.{LineHead}
use Rattle.run_report.specs.declared.packet_tails.Tails.{Tails}
use Rattle.run_report.specs.Kept.{outcome_seen}
use Rattle.run_report.specs.PacketTexts.{points_text}

-- the text is the label and that number
abbrev pub IsHead : LineHead → Type 0
IsHead head = head.text.items ≡ counted (codes "packet ") head.number

-- what stands behind the number
abbrev pub packet_tail : Outcome → List ℕ
packet_tail outcome =
    counted (codes " worker ") outcome.worker
    ++ (end_text outcome.verdict (length outcome.bytes) outcome.meta ++ (points_text outcome.points ++ codes "\n"))

-- where there is a packet, the text is what its line tells so
abbrev pub IsTold : Option OutcomeView → List ℕ → Type 0
IsTold None text = Unit {0}
IsTold (Some outcome) text = text ≡ packet_tail (outcome_seen outcome)

-- so are both tails
abbrev pub AreTold : Tails → Type 0
AreTold tails =
    IsTold tails.passed.outcome tails.passed.text.items × IsTold tails.dropped.outcome tails.dropped.text.items
