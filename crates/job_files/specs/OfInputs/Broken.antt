-- Where and how a capture breaks its form, where there is room for so many packets.
use Rattle.std.specs.Prelude.{◌≡◌, ◌⊎◌, ℕ, ◌<◌, List, length, Option, Some, None}
use Rattle.pcap_io.specs.declared.capture.Capture.{Capture}
use Rattle.pcap_io.specs.declared.fault.CaptureFault.{CaptureFault}
use Rattle.pcap_io.specs.declared.fault.CaptureFault.TheVariants as faults
use Rattle.pcap_io.specs.Captures.{IsCapture, IsFault}
use Rattle.tool_words.specs.declared.status.Break.{Break}
use Rattle.tool_words.specs.declared.status.InputKind.{InputKind}
use Rattle.tool_words.specs.declared.status.InputKind.TheVariants as kinds
use Rattle.tool_words.specs.declared.status.Status.{Status}
use Rattle.tool_words.specs.declared.status.Status.TheVariants as statuses
use Rattle.tc_base.specs.Memory.{no_memory}

-- the byte offset of a fault; the magic, the version and the link type stand at 0, 4 and 20
abbrev pub break_of : CaptureFault → Option Break
break_of (faults.CutHeader offset) = Some (record { place = offset; kind = kinds.CutHeader })
break_of faults.BadMagic = Some (record { place = 0; kind = kinds.BadMagic })
break_of faults.BadVersion = Some (record { place = 4; kind = kinds.BadVersion })
break_of faults.NotEthernet = Some (record { place = 20; kind = kinds.NotEthernet })
break_of (faults.CutRecord offset) = Some (record { place = offset; kind = kinds.CutRecord })
break_of (faults.TooLong offset len) = Some (record { place = offset; kind = kinds.TooLong len })
break_of (faults.NoMemory memory) = None

-- the bytes have this fault, or are a capture of more packets than there is room for
abbrev pub IsBroken : ℕ → List ℕ → ℕ → InputKind → Type 0
IsBroken room bytes at what =
    ((fault : CaptureFault) × IsFault bytes fault
    × (break_of fault ≡ Some (record { place = at; kind = what })))
    ⊎ ((at ≡ 0) × (what ≡ kinds.TooManyPackets)
    × ((capture : Capture) × IsCapture bytes capture × (room < length capture.packets)))

-- too many packets are told, unless memory ran out
abbrev pub IsTooMany : ℕ → List ℕ → ℕ → Status → Type 0
IsTooMany room name count status =
    (room < count)
    × ((status ≡ statuses.NoMemory no_memory) ⊎ (status ≡ statuses.BadInput name 0 kinds.TooManyPackets))
