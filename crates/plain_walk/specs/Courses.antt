-- What a walk hands on from table to table, and what the plain walk carries there (this project's own).
use Rattle.frame_edit.specs.declared.limits.TheConstants.{FRAME_MAX}
use Rattle.std.specs.Prelude.{◌≡◌, ℕ, ◌+◌, ◌≤◌, true, List, [], length, map, Option, Some, None, unwrap_or}
use Rattle.std.specs.Prelude.{if◌then◌else◌}
use Rattle.frame_edit.specs.EditedFrame.{EditedFrame, loaded_frame}
use Rattle.frame_edit.specs.Tags.{ether_type_of}
use Rattle.flow_fields.specs.Values.{values_of}
use Rattle.flow_dissect.specs.Fields.{frame_values}
use Rattle.walk_rules.specs.declared.limits.TheConstants.{VISITS_MAX}
use Rattle.walk_rules.specs.Plain.{Carried}
use Rattle.walk_steps.specs.Told.{execution}
use Rattle.plain_walk.specs.declared.course.Course.{Course}

-- the bytes of the frame where an action came that changes bytes
abbrev pub edited_of : Course → Option (List ℕ)
edited_of c = if c.is_edited then Some c.frame.bytes else None

-- the frame as it is, of one that came with these bytes
abbrev pub bytes_from : List ℕ → Course → List ℕ
bytes_from came c = unwrap_or (edited_of c) came

abbrev pub frame_from : List ℕ → Course → EditedFrame
frame_from came c = record { bytes = bytes_from came c; loaded = length came; meta = c.frame.meta }

abbrev pub carried_from : List ℕ → Course → Carried
carried_from came c = record { frame = frame_from came c; executed = map execution c.executed }

-- a frame that came with these bytes, before anything ran
abbrev pub begun : List ℕ → Carried
begun came = record { frame = loaded_frame came; executed = [] }

-- what holds of the walk of a frame that came with these bytes
pub record IsCourse (came : List ℕ) (c : Course) : Type 0 where
  pub short : length came ≤ FRAME_MAX
  pub loaded : c.is_edited ≡ true → c.frame.loaded ≡ length came
  pub fields : values_of c.key.words ≡ frame_values (bytes_from came c)
  pub ether : c.ether ≡ ether_type_of (bytes_from came c)
  pub room : length c.executed + c.left ≤ VISITS_MAX
