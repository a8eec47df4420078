-- The packets of a round that accepts no edit: what their plain walks leave.
use Rattle.std.proofs.Common.{◌≡◌, ◌∙◌, ℕ, suc, List, [], ◌∷◌, ◌++◌, length, map, Some, refl, sym, ap, ap₂, arith}
use Rattle.std.specs.List.{slice_get}
use Rattle.std.proofs.lemmas.List.{map-append}
use Rattle.tc_base.specs.declared.hook.Hook.{Hook}
use Rattle.pcap_io.specs.declared.capture.Packet.{Packet}
use Rattle.filter_state.specs.States.{State}
use Rattle.walk_rules.specs.declared.verdict.Verdict.{Verdict}
use Rattle.walk_rules.specs.Steps.{Execution}
use Rattle.walk_rules.specs.Walks.{Outcome as WalkOutcome}
use Rattle.walk_rules.specs.Plain.{plain_walk}
use Rattle.walk_ends.specs.Passing.{regrown, passed_by}
use Rattle.capture_walk.specs.Captures.{outcomes_of, passed_one, passed, executed_in}
use Rattle.run_report.specs.declared.outcomes.Outcome.{Outcome}
use Rattle.lawful_runs.specs.Outcomes.{IsRecordOf, left_packet, passed_of}
use Rattle.lawful_runs.specs.Lawful.{executed_in as recorded_in}
use Rattle.tool_run.specs.OfQuietJobs.Ends.{AreRecordsOf}

-- a record at each place is a record of each walk
pub records_from : (s : State) (hook : Hook) (packets : List Packet) (outcomes : List Outcome) → length outcomes ≡ length packets
    → ((place : ℕ) (packet : Packet) (outcome : Outcome) → slice_get packets place ≡ Some packet → slice_get outcomes place ≡ Some outcome → IsRecordOf outcome (plain_walk s hook packet.bytes))
    → AreRecordsOf outcomes (outcomes_of s hook packets)
records_from s hook [] [] long each = tt
records_from s hook [] (outcome ∷ outcomes) long each = absurd (omega (arith, long))
records_from s hook (packet ∷ packets) [] long each = absurd (omega (arith, long))
records_from s hook (packet ∷ packets) (outcome ∷ outcomes) long each =
    (each 0 packet outcome refl refl, records_from s hook packets outcomes (omega (arith, long)) (λ place p o came is. each (suc place) p o came is))

-- ---- the packets that pass
one_passed : (packet : Packet) (outcome : Outcome) (walk : WalkOutcome) → IsRecordOf outcome walk → passed_by outcome.verdict (left_packet packet outcome) ≡ passed_one packet walk
one_passed packet outcome walk is =
    let left : List ℕ → Packet = λ bytes. record {
      seconds = packet.seconds;
      fraction = packet.fraction;
      original = regrown packet.original (length packet.bytes) (length bytes);
      bytes = bytes;
    } in
    ap (λ (v : Verdict). passed_by v (left outcome.bytes)) is.verdict ∙ ap (λ (bytes : List ℕ). passed_by walk.verdict (left bytes)) is.bytes

pub same_passed : (s : State) (hook : Hook) (packets : List Packet) (outcomes : List Outcome) → AreRecordsOf outcomes (outcomes_of s hook packets)
    → passed_of (map (λ (packet : Packet). record { hook = hook; packet = packet }) packets) outcomes ≡ passed s hook packets
same_passed s hook [] [] are = refl
same_passed s hook [] (outcome ∷ outcomes) are = absurd are
same_passed s hook (packet ∷ packets) [] are = absurd are
same_passed s hook (packet ∷ packets) (outcome ∷ outcomes) are =
    ap₂ (λ (xs ys : List Packet). xs ++ ys) (one_passed packet outcome (plain_walk s hook packet.bytes) are.0) (same_passed s hook packets outcomes are.1)

-- ---- the executions
abbrev pub pairs_of : List Execution → List (ℕ × ℕ)
pairs_of executed = map (λ (e : Execution). (e.serial, e.length)) executed

pub same_executed : (outcomes : List Outcome) (walks : List WalkOutcome) → AreRecordsOf outcomes walks → recorded_in outcomes ≡ pairs_of (executed_in walks)
same_executed [] [] are = refl
same_executed [] (walk ∷ walks) are = absurd are
same_executed (outcome ∷ outcomes) [] are = absurd are
same_executed (outcome ∷ outcomes) (walk ∷ walks) are =
    ap₂ (λ (xs ys : List (ℕ × ℕ)). xs ++ ys) are.0.executed (same_executed outcomes walks are.1)
    ∙ sym (map-append (λ (e : Execution). (e.serial, e.length)) walk.executed (executed_in walks))
