-- A table as contracts see it.
use Rattle.filter_tables.specs.declared.filter_table.FilterTable.{FilterTable}
use Rattle.filter_tables.specs.Plain.{PlainTable}

abbrev pub plain_table : FilterTable → PlainTable
plain_table t = record {
  serial = t.serial;
  chain = t.chain;
  pref = t.pref;
  protocol = t.protocol;
  masks = t.masks.masks;
}
