-- For how many filters more a mask has room (this project's own).
use Rattle.std.specs.Prelude.{ℕ}
use Rattle.filter_tables.specs.declared.mask_list.MaskList.{MaskList}

abbrev pub filter_room : MaskList → ℕ
filter_room m = m.filters.spare
