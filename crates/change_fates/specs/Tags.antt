-- The tags of a frame (this project's own, after IEEE 802.1Q, clause 9).
use Rattle.std.specs.Prelude.{ℕ, zero, suc, ◌+◌, ◌&&◌, nat_le, Bool, List, [], ◌∷◌, length, if◌then◌else◌}
use Rattle.frame_edit.specs.Tags.{two_at, is_tag_type}
use Rattle.change_fates.specs.declared.tags.Tag.{Tag}

-- one stands at that place, and the EtherType behind it is in the frame too
abbrev pub is_tag_at : List ℕ → ℕ → Bool
is_tag_at bytes at = is_tag_type (two_at bytes at) && nat_le (at + 6) (length bytes)

abbrev pub tag_at : List ℕ → ℕ → Tag
tag_at bytes at = record { tpid = two_at bytes at; tci = two_at bytes (at + 2) }

-- those that stand one behind the other from there, so many at most
abbrev pub tags_from : ℕ → List ℕ → ℕ → List Tag
tags_from zero bytes at = []
tags_from (suc most) bytes at =
    if is_tag_at bytes at then tag_at bytes at ∷ tags_from most bytes (at + 4) else []

-- THE TAGS OF A FRAME, the outermost first: they stand behind the two addresses
abbrev pub tags_of : List ℕ → List Tag
tags_of bytes = tags_from (length bytes) bytes 12
