-- Tables and masks, and for how much more there is room: what a call that may take no memory asks for (this
-- project's own).
use Rattle.std.specs.Prelude.{◌≡◌, ℕ, zero, suc, List, [], ◌∷◌, true}
use Rattle.filter_state.specs.Sound.{EachPair}
use Rattle.filter_tables.specs.Plain.{PlainMask, PlainTable}
use Rattle.filter_tables.specs.Changes.{comes_before}

-- the masks of a table, for how many masks more there is room, and for how many filters more in each of the
-- masks
pub record MaskRoom : Type 0 where
  pub masks : List PlainMask
  pub spare : ℕ
  pub spares : List ℕ

-- how much room the masks of a table have
pub record Spare : Type 0 where
  pub masks : ℕ
  pub filters : List ℕ

-- the tables of a hook, for how many tables more there is room, and how much room each table has
pub record TableRoom : Type 0 where
  pub tables : List PlainTable
  pub spare : ℕ
  pub spares : List Spare

-- the number at a place, or 0 where there is none
abbrev pub spare_at : List ℕ → ℕ → ℕ
spare_at [] place = 0
spare_at (n ∷ ns) zero = n
spare_at (n ∷ ns) (suc place) = spare_at ns place

-- for how many masks more there is room in the table at a place, and for how many filters more in its mask at
-- a place
abbrev pub masks_spare : List Spare → ℕ → ℕ
masks_spare [] table = 0
masks_spare (s ∷ ss) zero = s.masks
masks_spare (s ∷ ss) (suc table) = masks_spare ss table

abbrev pub filters_spare : List Spare → ℕ → ℕ → ℕ
filters_spare [] table mask = 0
filters_spare (s ∷ ss) zero mask = spare_at s.filters mask
filters_spare (s ∷ ss) (suc table) mask = filters_spare ss table mask

-- the tables of a hook stand by rising chain, then rising pref
abbrev pub AreRising : List PlainTable → Type 0
AreRising tables = EachPair (λ t u. comes_before t u ≡ true) tables
