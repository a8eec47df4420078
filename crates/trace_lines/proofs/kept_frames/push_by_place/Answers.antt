use Rattle.std.proofs.Common.{rules}
use Rattle.flow_fields.specs.Values.{values_of}
use Rattle.trace_lines.specs.Parts.{frame_words_of}
use Rattle.trace_lines.proofs.Kept.{behind_line}
use Rattle.trace_lines.proofs.kept_frames.push_by_place.Goals as goal

pub returns-in-Some : goal.returns-in-Some
returns-in-Some c =
    behind_line c.extend_from_slice.result c.args.line.now.items c.extend_from_slice.new.self.items c.in-Some.words.now
    (frame_words_of c.args.ether (values_of c.args.key.now.words)) (search rules) c.in-Some.ensures (search rules)
