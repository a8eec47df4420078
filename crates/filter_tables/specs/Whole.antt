-- What holds of the tables of a hook, beside the rows that they spell.
use Rattle.std.specs.Prelude.{◌<◌, List, [], ◌∷◌}
use Rattle.filter_state.specs.Sound.{Each, EachPair}
use Rattle.filter_tables.specs.Plain.{PlainMask, PlainTable}
use Rattle.filter_tables.specs.Room.{AreRising}

abbrev pub HasSome : {X : Type 0} → List X → Type 0
HasSome [] = ⊥
HasSome (x ∷ xs) = Unit {0}

-- a table has a mask, each of its masks has a filter, and the masks stand by rising serial
pub record IsFull (table : PlainTable) : Type 0 where
  pub some : HasSome table.masks
  pub each : Each (λ (m : PlainMask). HasSome m.filters) table.masks
  pub rising : EachPair (λ (m n : PlainMask). m.serial < n.serial) table.masks

-- the tables of a hook: none is empty, and they stand by rising chain, then rising pref
pub record AreWhole (tables : List PlainTable) : Type 0 where
  pub full : Each IsFull tables
  pub rising : AreRising tables
