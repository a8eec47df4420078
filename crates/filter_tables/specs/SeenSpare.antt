-- For how much more a table has room (this project's own).
use Rattle.filter_tables.specs.declared.filter_table.FilterTable.{FilterTable}
use Rattle.filter_tables.specs.Room.{Spare}

abbrev pub table_spare : FilterTable → Spare
table_spare t = record { masks = t.masks.spare; filters = t.masks.spares }
