-- A stored table (this project's own).
use Rattle.std.specs.Prelude.{◌≡◌, ℕ, ◌^◌, ◌<◌, ◌≤◌, List, ◌∷◌, map, length, Option, All}
use Rattle.tc_base.specs.declared.hook.Proto.{Proto}
use Rattle.tc_base.specs.declared.hook.Proto.TheVariants as protocols
use Rattle.act_kinds.specs.Ranges.{IsChain}
use Rattle.block_codec.specs.declared.table.StoredTable.{StoredTable}
use Rattle.block_codec.specs.Blocks.{both, block, IsLink}
use Rattle.block_codec.specs.Names.{mask_word, IsMaskName}

-- an EtherType, or 65,536 for all protocols
abbrev pub protocol_number : Proto → ℕ
protocol_number protocols.All = 65536
protocol_number (protocols.Ether number) = number

-- the kind of block, serial and pref, chain and protocol, how many masks there are, and the masks
abbrev pub table_words : StoredTable → List ℕ
table_words stored = 3 ∷ both stored.serial stored.pref ∷ both stored.chain (protocol_number stored.protocol)
    ∷ length stored.masks ∷ map mask_word stored.masks

-- the limits of a table's numbers
pub record IsStorableTable (stored : StoredTable) : Type 0 where
  pub chain : IsChain stored.chain
  pub pref : (1 ≤ stored.pref) × (stored.pref ≤ 65535)
  pub masks : All IsMaskName stored.masks

-- an EtherType has 16 bits
abbrev pub FitsProtocol : Proto → Type 0
FitsProtocol protocols.All = Unit {0}
FitsProtocol (protocols.Ether number) = number < 2 ^ 16

-- these are the words of that table, with that link
pub record IsTableBlock (words : List ℕ) (it : StoredTable × Option ℕ) : Type 0 where
  pub storable : IsStorableTable it.0
  pub serial : it.0.serial < 2 ^ 32
  pub protocol : FitsProtocol it.0.protocol
  pub few : length it.0.masks ≤ 16
  pub link : IsLink it.1
  pub words_are : words ≡ block (table_words it.0) it.1
