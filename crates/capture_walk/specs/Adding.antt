-- What the walk of one packet more leaves.
use Rattle.std.specs.Prelude.{◌≡◌, [], ◌∷◌, ◌++◌}
use Rattle.std.specs.List.{flat_map}
use Rattle.pcap_io.specs.declared.capture.Packet.{Packet}
use Rattle.pcap_io.specs.Written.{packet_bytes}
use Rattle.walk_rules.specs.Walks.{Outcome}
use Rattle.capture_walk.specs.declared.walking.Leaving.{Leaving}
use Rattle.capture_walk.specs.Captures.{end_of, passed_one, each_added}

-- behind what was left before
pub record IsAdded (packet : Packet) (old new : Leaving) (outcome : Outcome) : Type 0 where
  pub ends : new.ends ≡ old.ends ++ (end_of outcome ∷ [])
  pub output : new.output.bytes
      ≡ old.output.bytes ++ flat_map (packet_bytes old.output.of.big) (passed_one packet outcome)
  pub counts : new.counts.items ≡ each_added 1 old.counts.items outcome.executed
