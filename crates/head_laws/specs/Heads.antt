-- The tables of lists as heads, and where a mask stands among the heads of a hook (this project's own).
use Rattle.std.specs.Prelude.{◌≡◌, ℕ, ◌==◌, Bool, List, map, Some}
use Rattle.filter_tables.specs.Plain.{PlainMask, PlainTable}
use Rattle.filter_tables.specs.Places.{item_at}
use Rattle.walk_rules.specs.Questions.{Head}

-- a mask by its serial
abbrev pub is_mask : ℕ → PlainMask → Bool
is_mask serial mask = mask.serial == serial

abbrev pub serials_of : List PlainMask → List ℕ
serials_of masks = map (λ (mask : PlainMask). mask.serial) masks

abbrev pub head_of : PlainTable → Head
head_of table = record {
  serial = table.serial;
  chain = table.chain;
  pref = table.pref;
  protocol = table.protocol;
  masks = serials_of table.masks;
}

-- the mask of that serial stands at a place of the table at a place
pub record IsMaskAt (heads : List Head) (table place serial : ℕ) : Type 0 where
  pub head : Head
  pub table_there : item_at heads table ≡ Some head
  pub mask_there : item_at head.masks place ≡ Some serial
