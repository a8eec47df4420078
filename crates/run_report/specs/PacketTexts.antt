-- The lines of a round's packets. They are this project's own.
use Rattle.std.specs.Prelude.{ℕ, List, ◌++◌, length, map, codes}
use Rattle.std.specs.List.{flat_map, enumerate_from}
use Rattle.frame_edit.specs.declared.meta.Meta.{Meta}
use Rattle.walk_rules.specs.declared.verdict.Verdict.{Verdict}
use Rattle.walk_texts.specs.Texts.{counted, end_text}
use Rattle.run_report.specs.declared.outcomes.Outcome.{Outcome}

-- `packet N worker W`
unfoldable pub packet_name : ℕ → ℕ → List ℕ
packet_name number worker = counted (codes "packet ") number ++ counted (codes " worker ") worker

-- ` points`, and the point of each visit in order
unfoldable pub points_text : List ℕ → List ℕ
points_text points = codes " points" ++ flat_map (λ (point : ℕ). counted (codes " ") point) points

-- the line of a packet, by what it shows: the packet's number, its worker, how its walk ended and at which
-- points
abbrev pub shown_packet : ℕ → ℕ → Verdict → ℕ → Meta → List ℕ → List ℕ
shown_packet number worker verdict bytes meta points =
    packet_name number worker ++ end_text verdict bytes meta ++ points_text points ++ codes "\n"

abbrev pub packet_line : ℕ → Outcome → List ℕ
packet_line number outcome =
    shown_packet number outcome.worker outcome.verdict (length outcome.bytes) outcome.meta outcome.points

-- a line for each packet, numbered from 1
abbrev pub packet_lines : List Outcome → List (List ℕ)
packet_lines outcomes =
    map (λ (numbered : ℕ × Outcome). packet_line numbered.0 numbered.1) (enumerate_from 1 outcomes)
