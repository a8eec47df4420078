-- What blocks read as, and the same things as a state has them, without slots (this project's own). The names
-- of a table, such as its chain and preference, are of a type N, and an action's parameters, its index among
-- them, of a type P.
use Rattle.std.specs.Prelude.{ℕ, List, map, Option}

-- a mask or an action with the slot where it is
pub record Slotted : Type 0 where
  pub serial : ℕ
  pub slot : ℕ

pub record TableRecord (N : Type 0) : Type 0 where
  pub serial : ℕ
  pub names : N
  pub masks : List Slotted

-- the mask's words, and the numbers of its rows
pub record MaskRecord : Type 0 where
  pub serial : ℕ
  pub size : ℕ
  pub words : List ℕ
  pub rows : List ℕ

pub record FilterRecord : Type 0 where
  pub handle : ℕ
  pub key : List ℕ
  pub actions : List Slotted

pub record ActionRecord (P : Type 0) : Type 0 where
  pub serial : ℕ
  pub params : P

-- how the words of a block read
pub record Codec (N P : Type 0) : Type 0 where
  pub table : List ℕ → Option (TableRecord N)
  pub mask : List ℕ → Option MaskRecord
  pub filter : List ℕ → Option FilterRecord
  pub action : List ℕ → Option (ActionRecord P)

pub record StatedTable (N : Type 0) : Type 0 where
  pub serial : ℕ
  pub names : N
  pub masks : List ℕ

pub record StatedFilter : Type 0 where
  pub handle : ℕ
  pub key : List ℕ
  pub actions : List ℕ

abbrev pub serials_of : List Slotted → List ℕ
serials_of named = map (λ (x : Slotted). x.serial) named

abbrev pub stated_table : {N : Type 0} → TableRecord N → StatedTable N
stated_table t = record { serial = t.serial; names = t.names; masks = serials_of t.masks }

abbrev pub stated_filter : FilterRecord → StatedFilter
stated_filter f = record { handle = f.handle; key = f.key; actions = serials_of f.actions }
