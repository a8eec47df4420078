-- The filter that a mask has for a key, where it isn't the one to be left out.
use Rattle.std.specs.Prelude.{ℕ, ◌==◌, Option, Some, None, if◌then◌else◌}
use Rattle.filter_index.specs.declared.filter.Filter.{Filter}

-- the handle of a filter that was found, unless it is the one to be left out
abbrev pub unless_left_out : Option ℕ → Option Filter → Option ℕ
unless_left_out left None = None
unless_left_out None (Some f) = Some f.handle
unless_left_out (Some handle) (Some f) = if f.handle == handle then None else Some f.handle
