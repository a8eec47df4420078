-- What blocks read as, in the records of the hook's law (this project's own).
use Rattle.std.specs.Prelude.{map}
use Rattle.std.specs.Option.{option_map}
use Rattle.visit_room.specs.declared.names.ActionName.{ActionName}
use Rattle.visit_room.specs.declared.names.MaskName.{MaskName}
use Rattle.block_codec.specs.declared.action.StoredAction.{StoredAction}
use Rattle.block_codec.specs.declared.filter.StoredFilter.{StoredFilter}
use Rattle.block_codec.specs.declared.mask.StoredMask.{StoredMask}
use Rattle.block_codec.specs.declared.table.StoredTable.{StoredTable}
use Rattle.block_codec.specs.OfReadings.Read.{action_of_words, filter_in, mask_of_words, table_in}
use Rattle.hook_law.specs.Records.{Slotted, TableRecord, MaskRecord, FilterRecord, ActionRecord, Codec}
use Rattle.hook_meaning.specs.Stated.{TableNames, ActionTerms}

abbrev pub mask_slotted : MaskName → Slotted
mask_slotted name = record { serial = name.serial; slot = name.slot }

abbrev pub action_slotted : ActionName → Slotted
action_slotted name = record { serial = name.serial; slot = name.slot }

abbrev pub table_record : StoredTable → TableRecord TableNames
table_record table = record {
  serial = table.serial;
  names = record { chain = table.chain; pref = table.pref; protocol = table.protocol };
  masks = map mask_slotted table.masks;
}

abbrev pub mask_record : StoredMask → MaskRecord
mask_record mask = record {
  serial = mask.serial;
  size = mask.size;
  words = mask.mask.words;
  rows = mask.rows;
}

abbrev pub filter_record : StoredFilter → FilterRecord
filter_record f = record { handle = f.handle; key = f.key.words; actions = map action_slotted f.actions }

abbrev pub action_record : StoredAction → ActionRecord ActionTerms
action_record action = record {
  serial = action.serial;
  params = record { index = action.index; params = action.params };
}

-- THE CODEC: the words of a block read as the table, the mask, the filter or the action whose words they are
abbrev pub hook_codec : Codec TableNames ActionTerms
hook_codec = record {
  table = λ words. option_map table_record (table_in words);
  mask = λ words. option_map mask_record (mask_of_words words);
  filter = λ words. option_map filter_record (filter_in words);
  action = λ words. option_map action_record (action_of_words words);
}
