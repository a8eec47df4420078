-- The text of the filters that stand at the end.
use Rattle.std.proofs.Common.{◌≡◌, ◌∙◌, ℕ, List, [], ◌++◌, ap}
use Rattle.std.specs.List.{flat_map}
use Rattle.tc_base.specs.declared.hook.Hook.{Hook}
use Rattle.pcap_io.specs.declared.capture.Packet.{Packet}
use Rattle.walk_texts.specs.Texts.{joined}
use Rattle.filter_origins.specs.declared.brought.Brought.{Brought}
use Rattle.filter_origins.specs.Entries.{Entry}
use Rattle.filter_origins.specs.Origins.{brought_of}
use Rattle.walk_trace.specs.Tallies.{times_in}
use Rattle.batch_trace.specs.Meeting.{shown_standing}
use Rattle.batch_trace.specs.Traced.{decisions, decided_lines}
use Rattle.batch_trace.proofs.Parts.{standing_shown, same_counts}

pub decided_made : (hook : Hook) (entries : List Entry) (packets : List Packet) (counts : ℕ → ℕ) (brought : List Brought) (old new : List ℕ) → old ≡ [] → brought ≡ brought_of entries
    → ((edit : ℕ) → counts edit ≡ times_in (decisions entries hook packets) edit) → new ≡ old ++ flat_map (shown_standing hook counts) brought → new ≡ joined (decided_lines entries hook packets)
decided_made hook entries packets counts brought old new empty are same made =
    made ∙ ap (λ (text : List ℕ). text ++ flat_map (shown_standing hook counts) brought) empty
    ∙ ap (flat_map (shown_standing hook counts)) are
    ∙ standing_shown hook counts (brought_of entries)
    ∙ ap joined (same_counts hook counts (times_in (decisions entries hook packets)) (brought_of entries) same)
