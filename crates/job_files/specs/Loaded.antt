-- Files that were loaded, with a count of what stands in them. This serves the proofs: no clause of a public
-- call speaks of it.
use Rattle.walk_ends.specs.declared.limits.TheConstants.{PACKETS_MAX}
use Rattle.batch_run.specs.declared.limit.TheConstants.{COMMANDS_MAX}
use Rattle.std.specs.Prelude.{◌≡◌, ℕ, ◌≤◌, List}
use Rattle.pcap_io.specs.declared.capture.Capture.{Capture}
use Rattle.lawful_runs.specs.Given.{command_count, packet_count}

pub record Loaded : Type 0 where
  pub batches : List (List ℕ)
  pub captures : List Capture

-- so many commands and packets, within the limits
pub record IsCounted (batches : List (List ℕ)) (captures : List Capture) (commands packets : ℕ) : Type 0 where
  pub commands_are : commands ≡ command_count batches
  pub packets_are : packets ≡ packet_count captures
  pub few_commands : commands ≤ COMMANDS_MAX
  pub few_packets : packets ≤ PACKETS_MAX
