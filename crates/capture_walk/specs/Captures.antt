-- What the walks of a capture leave: each packet by the plain walk of one state (this project's own).
use Rattle.walk_rules.specs.declared.limits.TheConstants.{VISITS_MAX}
use Rattle.std.specs.Prelude.{ℕ, zero, suc, ◌+◌, ◌*◌, ◌≤◌, ◌==◌, List, [], ◌∷◌, length, map, sum_by}
use Rattle.std.specs.Prelude.{count_by, if◌then◌else◌}
use Rattle.std.specs.List.{flat_map}
use Rattle.tc_base.specs.declared.hook.Hook.{Hook}
use Rattle.pcap_io.specs.declared.capture.Packet.{Packet}
use Rattle.pcap_io.specs.declared.capture.Capture.{Capture}
use Rattle.filter_state.specs.States.{State}
use Rattle.filter_state.specs.Sound.{Each}
use Rattle.walk_rules.specs.Steps.{Execution}
use Rattle.walk_rules.specs.Walks.{Outcome}
use Rattle.walk_rules.specs.Plain.{plain_walk}
use Rattle.walk_ends.specs.declared.counts.Count.{Count}
use Rattle.walk_ends.specs.Passing.{regrown, passed_by}
use Rattle.capture_walk.specs.declared.ends.PacketEnd.{PacketEnd}

-- the walk of each packet, on its own
abbrev pub outcomes_of : State → Hook → List Packet → List Outcome
outcomes_of s hook packets = map (λ (p : Packet). plain_walk s hook p.bytes) packets

abbrev pub end_of : Outcome → PacketEnd
end_of outcome = record {
  verdict = outcome.verdict;
  length = length outcome.frame.bytes;
  meta = outcome.frame.meta;
}

-- ---- the packets that pass
-- a packet as its walk left it
abbrev pub walked_packet : Packet → Outcome → Packet
walked_packet packet outcome = record {
  seconds = packet.seconds;
  fraction = packet.fraction;
  original = regrown packet.original (length packet.bytes) (length outcome.frame.bytes);
  bytes = outcome.frame.bytes;
}

abbrev pub passed_one : Packet → Outcome → List Packet
passed_one packet outcome = passed_by outcome.verdict (walked_packet packet outcome)

-- those that pass, in order, as their walks left them
abbrev pub passed : State → Hook → List Packet → List Packet
passed s hook packets = flat_map (λ (p : Packet). passed_one p (plain_walk s hook p.bytes)) packets

-- the capture of those that pass, in the order of bytes and with the fractions of the input
abbrev pub output_of : State → Hook → Capture → Capture
output_of s hook capture = record {
  big = capture.big;
  nanos = capture.nanos;
  packets = passed s hook capture.packets;
}

-- ---- counts
-- all executions, in order
abbrev pub executed_in : List Outcome → List Execution
executed_in outcomes = flat_map (λ (outcome : Outcome). outcome.executed) outcomes

-- how often the action of a serial ran, and on how many bytes
abbrev pub count_at : List Execution → ℕ → Count
count_at executed serial = record {
  packets = count_by (λ (e : Execution). e.serial == serial) executed;
  bytes = sum_by (λ (e : Execution). if e.serial == serial then e.length else 0) executed;
}

abbrev pub counts_from : ℕ → ℕ → List Execution → List Count
counts_from serial zero executed = []
counts_from serial (suc more) executed = count_at executed serial ∷ counts_from (serial + 1) more executed

-- the counts of so many actions, by serial from 1
abbrev pub counts_of : ℕ → List Execution → List Count
counts_of actions executed = counts_from 1 actions executed

-- ---- counts that grow
abbrev pub no_counts : ℕ → List Count
no_counts actions = counts_of actions []

abbrev pub together : Count → Count → Count
together a b = record { packets = a.packets + b.packets; bytes = a.bytes + b.bytes }

-- counts by serial from one on, with further executions
abbrev pub each_added : ℕ → List Count → List Execution → List Count
each_added serial [] executed = []
each_added serial (count ∷ counts) executed = together count (count_at executed serial)
    ∷ each_added (serial + 1) counts executed

-- what so many walks can count
abbrev pub AreFew : ℕ → List Count → Type 0
AreFew walks counts = Each (λ (count : Count). (count.packets ≤ walks * VISITS_MAX)
    × (count.bytes ≤ walks * 17179869184)) counts
