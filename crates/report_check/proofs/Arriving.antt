-- The packets of a round, one after the other.
use Rattle.std.proofs.Common.{◌≡◌, ◌∙◌, ℕ, zero, suc, List, [], ◌∷◌, map, Some, refl, ap}
use Rattle.std.specs.Prelude.{slice_get}
use Rattle.tc_base.specs.declared.hook.Hook.{Hook}
use Rattle.pcap_io.specs.declared.capture.Packet.{Packet}
use Rattle.lawful_runs.specs.Given.{Arrival}
use Rattle.report_check.specs.declared.events.cursor.Cursor.{Cursor}
use Rattle.journal_replay.specs.declared.replay.Replay.{Replay}
use Rattle.report_check.specs.declared.walkers.Walkers.{Walkers}
use Rattle.report_check.specs.Rounds.{ToldRound, AreWalked, IsNextPacket, IsAtPackets}

abbrev arrival_of : Hook → Packet → Arrival
arrival_of hook packet = record { hook = hook; packet = packet }

at_hook : (hook : Hook) (packets : List Packet) (place : ℕ) (packet : Packet) → slice_get packets place ≡ Some packet → slice_get (map (arrival_of hook) packets) place ≡ Some (arrival_of hook packet)
at_hook hook [] place packet is = absurd (cc is)
at_hook hook (first ∷ packets) zero packet is = let same : first ≡ packet = cc in ap (λ (p : Packet). Some (arrival_of hook p)) same
at_hook hook (first ∷ packets) (suc place) packet is = at_hook hook packets place packet is

pub next_packet : (told : ToldRound) (bytes : List ℕ) (first cursor : Cursor) (replay : Replay) (before walkers : Walkers) (least place : ℕ) (hook : Hook) (packets : List Packet) (packet : Packet) → IsAtPackets told bytes first replay before least hook packets
    → AreWalked told bytes cursor walkers place → slice_get packets place ≡ Some packet → IsNextPacket told bytes cursor replay walkers least place hook packet.bytes
next_packet told bytes first cursor replay before walkers least place hook packets packet it walked is = record {
  of = it.of;
  walked = walked;
  packet = record {
    arrival = arrival_of hook packet;
    there = ap (λ (xs : List Arrival). slice_get xs place) it.arrivals ∙ at_hook hook packets place packet is;
    hook_is = refl;
    frame_is = refl;
  };
  before_is = it.before_is;
}
