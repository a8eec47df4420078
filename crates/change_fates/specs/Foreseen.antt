-- THE TEXT THAT FORESEES A CHANGE (this project's own).
use Rattle.std.specs.Prelude.{ℕ, List, [], ◌∷◌, ◌++◌, length, codes}
use Rattle.tc_base.specs.declared.hook.Hook.{Hook}
use Rattle.pcap_io.specs.declared.capture.Packet.{Packet}
use Rattle.walk_texts.specs.Texts.{joined}
use Rattle.filter_origins.specs.Entries.{entries_of}
use Rattle.change_lines.specs.Passed.{Changed, first_point, last_point, journal_of}
use Rattle.change_lines.specs.Lines.{places_in, stop_lines, change_lines}
use Rattle.change_fates.specs.Texts.{change_line, summary_line}
use Rattle.change_fates.specs.Told.{ChangeAt, packets_lines, kinds_in, counts_of, shaken}

-- the edits of a change with their places, and its hook
abbrev pub change_at : Changed → Hook → ChangeAt
change_at it hook = record {
  entries = entries_of (places_in it) (journal_of it);
  hook = hook;
  before = first_point it;
}

-- The line at which the batch stopped, if it did; between which points the change lies; what became of each of
-- its lines; what each packet can meet meanwhile; and how many packets are of each kind
abbrev pub foreseen_lines : Changed → Hook → List Packet → List (List ℕ)
foreseen_lines it hook packets = stop_lines it
    ++ (change_line (first_point it) (last_point it) ∷ (change_lines it
    ++ (packets_lines (change_at it hook) 1 packets
    ++ (summary_line (length packets) (counts_of (kinds_in (change_at it hook) packets)) ∷ codes "end\n" ∷ []))))

unfoldable pub foreseen_text : Changed → Hook → List Packet → List ℕ
foreseen_text it hook packets = joined (foreseen_lines it hook packets)

-- HOW MANY PACKETS AREN'T HITLESS: they are between, mixed or open
abbrev pub not_hitless : Changed → Hook → List Packet → ℕ
not_hitless it hook packets = shaken (counts_of (kinds_in (change_at it hook) packets))
