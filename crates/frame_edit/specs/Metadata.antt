-- The metadata of a frame: the packet's priority, mark and queue mapping of tc-skbedit(8). That all three
-- start at 0 is this project's own.
use Rattle.std.specs.Prelude.{◌≡◌}
use Rattle.frame_edit.specs.declared.meta.Meta.{Meta}

abbrev pub no_meta : Meta
no_meta = record { priority = 0; mark = 0; queue = 0 }

abbrev pub IsUnset : Meta → Type 0
IsUnset meta = meta ≡ no_meta
