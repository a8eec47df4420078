-- The plain state of the two hooks: one flat list of filters, and the shared actions.
use Rattle.std.specs.Prelude.{ℕ, Bool, List, [], false}
use Rattle.tc_base.specs.declared.hook.Hook.{Hook}
use Rattle.tc_base.specs.declared.hook.Proto.{Proto}
use Rattle.act_kinds.specs.declared.params.Params.{Params}

-- One filter, with all that it stands under. A table is the rows with its serial, and so is a mask: neither
-- is kept apart, so that a table without filters can't be.
pub record Row : Type 0 where
  pub hook : Hook
  pub chain : ℕ
  pub pref : ℕ
  pub protocol : Proto
  pub table : ℕ
  pub mask_serial : ℕ
  pub mask : List ℕ
  pub handle : ℕ
  pub key : List ℕ
  pub actions : List ℕ

-- a live action; its kind is that of its parameters
pub record Action : Type 0 where
  pub serial : ℕ
  pub index : ℕ
  pub params : Params
  pub references : ℕ
  pub binds : ℕ

-- rows in the order in which they were accepted, actions by rising serial, and how many tables, masks and
-- actions were made so far
pub record State : Type 0 where
  pub hooked : Bool
  pub rows : List Row
  pub actions : List Action
  pub tables_made : ℕ
  pub masks_made : ℕ
  pub actions_made : ℕ

-- no qdisc, and nothing made
abbrev pub no_state : State
no_state = record {
  hooked = false;
  rows = [];
  actions = [];
  tables_made = 0;
  masks_made = 0;
  actions_made = 0;
}
