-- The rows of a plain state that tables spell.
use Rattle.std.specs.Prelude.{List, ◌++◌, map}
use Rattle.std.specs.List.{flat_map}
use Rattle.tc_base.specs.declared.hook.Hook.{Hook}
use Rattle.tc_base.specs.declared.hook.Hook.TheVariants as hooks
use Rattle.filter_state.specs.States.{Row}
use Rattle.filter_index.specs.declared.filter.Filter.{Filter}
use Rattle.filter_tables.specs.Plain.{PlainMask, PlainTable}
use Rattle.filter_tables.specs.Whole.{AreWhole}

-- a filter with all that it stands under
abbrev pub row_of : Hook → PlainTable → PlainMask → Filter → Row
row_of hook table mask filter = record {
  hook = hook;
  chain = table.chain;
  pref = table.pref;
  protocol = table.protocol;
  table = table.serial;
  mask_serial = mask.serial;
  mask = mask.mask;
  handle = filter.handle;
  key = filter.key.words;
  actions = filter.actions;
}

abbrev pub rows_of_mask : Hook → PlainTable → PlainMask → List Row
rows_of_mask hook table mask = map (row_of hook table mask) mask.filters

abbrev pub rows_of_table : Hook → PlainTable → List Row
rows_of_table hook table = flat_map (rows_of_mask hook table) table.masks

-- the rows of a hook's tables, in the order of the lists
unfoldable pub rows_of : Hook → List PlainTable → List Row
rows_of hook tables = flat_map (rows_of_table hook) tables

-- the tables of the two hooks
pub record BothHooks : Type 0 where
  pub ingress : List PlainTable
  pub egress : List PlainTable

abbrev pub tables_on : Hook → BothHooks → List PlainTable
tables_on hooks.Ingress both = both.ingress
tables_on hooks.Egress both = both.egress

-- a change of the tables of one hook
abbrev pub on_hook : Hook → (List PlainTable → List PlainTable) → BothHooks → BothHooks
on_hook hooks.Ingress change both = record both { ingress = change both.ingress }
on_hook hooks.Egress change both = record both { egress = change both.egress }

-- the rows of both hooks
abbrev pub all_rows : BothHooks → List Row
all_rows both = rows_of hooks.Ingress both.ingress ++ rows_of hooks.Egress both.egress

-- the tables of both hooks are whole
pub record BothWhole (both : BothHooks) : Type 0 where
  pub ingress : AreWhole both.ingress
  pub egress : AreWhole both.egress
