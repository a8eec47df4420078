-- The line of a packet, and what it tells behind its number (this project's own).
use Rattle.std.specs.Prelude.{◌≡◌, ℕ, List, ◌++◌, length, codes}
use Rattle.capture_walk.specs.declared.ends.PacketEnd.{PacketEnd}
use Rattle.walk_texts.specs.Texts.{counted, end_text}
use Rattle.batch_walk.specs.Texts.{packet_line}
use Rattle.tool_run.specs.declared.packet_line.PacketLine.{PacketLine}

-- how the packet ended, to the end of the line
abbrev pub ending_of : PacketEnd → List ℕ
ending_of end = end_text end.verdict end.length end.meta ++ codes "\n"

-- the text is that packet's line, and its number ends at that place
pub record IsLine (line : PacketLine) : Type 0 where
  pub text : line.text.items ≡ packet_line line.number line.end
  pub digits : line.digits_end ≡ length (counted (codes "packet ") line.number)
