-- What holds of every state that edits lead to.
use Rattle.act_kinds.specs.Passed.{ACTIONS_MAX, MADE_MAX}
use Rattle.filter_state.specs.declared.limits.TheConstants.{TABLES_MAX, MASKS_MAX, FILTERS_MAX}
use Rattle.filter_state.specs.declared.limits.TheConstants.{LINE_ACTIONS_MAX}
use Rattle.std.specs.Prelude.{◌≡◌, ℕ, ◌+◌, ◌<◌, ◌≤◌, ◌==◌, ◌⊎◌, true, List, [], ◌∷◌, length, IsTrue}
use Rattle.std.specs.List.{list_any, flat_map, count_by}
use Rattle.tc_base.specs.declared.hook.Hook.{Hook}
use Rattle.act_kinds.specs.Params.{kind_of}
use Rattle.act_kinds.specs.Ranges.{IsChain, AreParams}
use Rattle.filter_state.specs.Fields.{AreKeys}
use Rattle.filter_state.specs.Lines.{IsPref, IsIndex, IsProtocol}
use Rattle.filter_state.specs.States.{Row, Action, State}
use Rattle.filter_state.specs.Actions.{has_serial}
use Rattle.filter_state.specs.Tables.{table_count, mask_count}

-- all elements, and all pairs of an element and a later one
abbrev pub Each : {X : Type 0} → (X → Type 0) → List X → Type 0
Each P [] = Unit {0}
Each P (x ∷ xs) = P x × Each P xs

abbrev pub EachPair : {X : Type 0} → (X → X → Type 0) → List X → Type 0
EachPair R [] = Unit {0}
EachPair R (x ∷ xs) = Each (R x) xs × EachPair R xs

-- two filters: those of one table agree in all that a table has, and those of one mask in its words; and no
-- two filters of a table have the same handle, or the same mask and key
pub record GoTogether (x y : Row) : Type 0 where
  pub same_table : x.table ≡ y.table → (x.hook ≡ y.hook) × (x.chain ≡ y.chain) × (x.pref ≡ y.pref)
      × (x.protocol ≡ y.protocol)
  pub one_table : x.hook ≡ y.hook → x.chain ≡ y.chain → x.pref ≡ y.pref → x.table ≡ y.table
  pub same_mask : x.mask_serial ≡ y.mask_serial → (x.table ≡ y.table) × (x.mask ≡ y.mask)
  pub one_mask : x.table ≡ y.table → x.mask ≡ y.mask → x.mask_serial ≡ y.mask_serial
  pub handles : x.table ≡ y.table → x.handle ≡ y.handle → ⊥
  pub matches : x.table ≡ y.table → x.mask ≡ y.mask → x.key ≡ y.key → ⊥

-- one filter of a state: its numbers are in their ranges, its serials were given, and each action that it
-- names is live
pub record IsRow (s : State) (row : Row) : Type 0 where
  pub chain : IsChain row.chain
  pub pref : IsPref row.pref
  pub protocol : IsProtocol row.protocol
  pub handle : IsIndex row.handle
  pub keys : AreKeys row.key row.mask
  pub table : (1 ≤ row.table) × (row.table ≤ s.tables_made)
  pub mask : (1 ≤ row.mask_serial) × (row.mask_serial ≤ s.masks_made)
  pub most : length row.actions ≤ LINE_ACTIONS_MAX
  pub live : Each (λ serial. IsTrue (list_any (has_serial serial) s.actions)) row.actions

-- two actions: serials rise, and no two have the same kind and index
pub record StandApart (x y : Action) : Type 0 where
  pub rising : x.serial < y.serial
  pub names : kind_of x.params ≡ kind_of y.params → x.index ≡ y.index → ⊥

-- all places of filters, by the serials that they name
abbrev pub places : List Row → List ℕ
places rows = flat_map (λ (row : Row). row.actions) rows

-- one action of a state: its binds are the places that name it, and it may have one reference of its own
pub record IsAction (s : State) (action : Action) : Type 0 where
  pub serial : (1 ≤ action.serial) × (action.serial ≤ s.actions_made)
  pub index : IsIndex action.index
  pub params : AreParams action.params
  pub binds : action.binds ≡ count_by (λ serial. serial == action.serial) (places s.rows)
  pub references : (action.references ≡ action.binds) ⊎ (action.references ≡ action.binds + 1)
  pub held : 1 ≤ action.references

pub record Sound (s : State) : Type 0 where
  pub rows : Each (IsRow s) s.rows
  pub together : EachPair GoTogether s.rows
  pub actions : Each (IsAction s) s.actions
  pub apart : EachPair StandApart s.actions
  pub hooked : 0 < length s.rows → s.hooked ≡ true
  pub tables : (hook : Hook) → table_count hook s.rows ≤ TABLES_MAX
  pub masks : (hook : Hook) (chain pref : ℕ) → mask_count hook chain pref s.rows ≤ MASKS_MAX
  pub filters : length s.rows ≤ FILTERS_MAX
  pub live : length s.actions ≤ ACTIONS_MAX
  pub made : s.actions_made ≤ MADE_MAX
