-- A frame that is being edited. Its limits are this project's own.
use Rattle.frame_edit.specs.declared.limits.TheConstants.{FRAME_MAX}
use Rattle.std.specs.Prelude.{◌≡◌, ℕ, ◌+◌, ◌≤◌, Bool, ◌&&◌, ◌||◌, nat_lt, List, length}
use Rattle.frame_edit.specs.declared.meta.Meta.{Meta}
use Rattle.frame_edit.specs.Metadata.{no_meta}
use Rattle.frame_edit.specs.Tags.{has_ethernet}

-- its bytes, the length of the bytes that were loaded last, and its metadata
pub record EditedFrame : Type 0 where
  pub bytes : List ℕ
  pub loaded : ℕ
  pub meta : Meta

-- a frame just loaded with these bytes
abbrev pub loaded_frame : List ℕ → EditedFrame
loaded_frame bytes = record { bytes = bytes; loaded = length bytes; meta = no_meta }

-- other bytes in the same frame
abbrev pub with_bytes : EditedFrame → List ℕ → EditedFrame
with_bytes frame bytes = record { bytes = bytes; loaded = frame.loaded; meta = frame.meta }

-- four bytes more would be more than 64 past the loaded length, or more than 262,144. A frame that no tag is
-- pushed into lacks no room.
abbrev pub lacks_room : EditedFrame → Bool
lacks_room frame =
    has_ethernet frame.bytes
    && (nat_lt (frame.loaded + 64) (length frame.bytes + 4) || nat_lt FRAME_MAX (length frame.bytes + 4))

-- where a frame lies in its buffer of 64 and 262,144 bytes, so that `end` stands 64 past the loaded length
pub record IsPlaced (buffer : List ℕ) (start end : ℕ) : Type 0 where
  pub room : length buffer ≡ 262208
  pub ordered : start ≤ end
  pub head : 64 ≤ end
  pub inside : end ≤ 262208
  pub within : end ≤ start + FRAME_MAX
