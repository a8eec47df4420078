-- Which packets pass, and how long they are then (this project's own).
use Rattle.std.specs.Prelude.{ℕ, ◌+◌, ◌-◌, min, Bool, true, false, List, [], ◌∷◌}
use Rattle.pcap_io.specs.declared.capture.Packet.{Packet}
use Rattle.walk_rules.specs.declared.verdict.Verdict.{Verdict}
use Rattle.walk_rules.specs.declared.verdict.Verdict.TheVariants as verdicts

abbrev pub is_pass : Verdict → Bool
is_pass verdicts.Pass = true
is_pass verdicts.Drop = false

-- an original length, and a frame's growth, held between 0 and 2^32 - 1
abbrev pub regrown : ℕ → ℕ → ℕ → ℕ
regrown original before after = min (original + after - before) 4294967295

abbrev pub passed_by : Verdict → Packet → List Packet
passed_by verdicts.Pass packet = packet ∷ []
passed_by verdicts.Drop packet = []
