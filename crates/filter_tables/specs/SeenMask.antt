-- A mask as contracts see it.
use Rattle.filter_tables.specs.declared.mask_list.MaskList.{MaskList}
use Rattle.filter_tables.specs.Plain.{PlainMask}

abbrev pub plain_mask : MaskList → PlainMask
plain_mask m = record { serial = m.serial; mask = m.mask.words; filters = m.filters.filters }
