-- The lines of a walk. They are this project's own.
use Rattle.std.specs.Prelude.{ℕ, ◌+◌, ◌-◌, ◌≤◌, List, [], ◌∷◌, ◌++◌, get_or, map, codes}
use Rattle.batch_run.specs.declared.made_action.MadeAction.{MadeAction}
use Rattle.walk_ends.specs.declared.counts.Count.{Count}
use Rattle.walk_texts.specs.declared.summary.Summary.{Summary}
use Rattle.walk_texts.specs.Texts.{counted, end_text, counter_line, summary_line}
use Rattle.capture_walk.specs.declared.ends.PacketEnd.{PacketEnd}

-- `packet N`, and how it ended
abbrev pub packet_line : ℕ → PacketEnd → List ℕ
packet_line number end = counted (codes "packet ") number ++ end_text end.verdict end.length end.meta
    ++ codes "\n"

-- a line for each packet, numbered from here
abbrev pub packet_lines : ℕ → List PacketEnd → List (List ℕ)
packet_lines number [] = []
packet_lines number (end ∷ ends) = packet_line number end ∷ packet_lines (number + 1) ends

abbrev pub nothing_counted : Count
nothing_counted = record { packets = 0; bytes = 0 }

-- there is a count for the action's serial; the first is that of serial 1
abbrev pub HasCount : ℕ → MadeAction → Type 0
HasCount counts made = (1 ≤ made.serial) × (made.serial ≤ counts)

-- a line for each action that was made
abbrev pub counter_lines : List MadeAction → List Count → List (List ℕ)
counter_lines made counts =
    map (λ (m : MadeAction). counter_line m (get_or counts (m.serial - 1) nothing_counted)) made

-- the lines behind the packets' lines
abbrev pub closing_lines : List MadeAction → List Count → Summary → List (List ℕ)
closing_lines made counts summary = counter_lines made counts ++ (summary_line summary ∷ codes "end\n" ∷ [])
