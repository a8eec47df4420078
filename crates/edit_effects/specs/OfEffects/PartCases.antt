-- A small state, worked out by hand: two filters of mask 1 with a filter of mask 2 between them, and action
-- 3.
use Rattle.std.specs.Prelude.{ℕ, true, List, [], ◌∷◌}
use Rattle.tc_base.specs.declared.hook.Hook.TheVariants as hooks
use Rattle.tc_base.specs.declared.hook.Proto.TheVariants as protocols
use Rattle.act_kinds.specs.declared.params.Control.TheVariants as controls
use Rattle.act_kinds.specs.declared.params.Params.{Params}
use Rattle.act_kinds.specs.declared.params.Params.TheVariants as params
use Rattle.filter_state.specs.States.{Row, State}
use Rattle.edit_effects.specs.OfEffects.Parts.{Filter}

-- a filter of table 1 under a mask of one word, with a key of one word and no actions
abbrev pub row_of : ℕ → ℕ → ℕ → ℕ → Row
row_of mask_serial word handle key = record {
  hook = hooks.Ingress;
  chain = 0;
  pref = 10;
  protocol = protocols.All;
  table = 1;
  mask_serial = mask_serial;
  mask = word ∷ [];
  handle = handle;
  key = key ∷ [];
  actions = [];
}

abbrev pub dropping : Params
dropping = params.Gact controls.Shot

abbrev pub small_state : State
small_state = record {
  hooked = true;
  rows = row_of 1 255 7 1 ∷ row_of 2 15 8 1 ∷ row_of 1 255 9 2 ∷ [];
  actions = record { serial = 3; index = 1; params = dropping; references = 1; binds = 0 } ∷ [];
  tables_made = 1;
  masks_made = 2;
  actions_made = 3;
}

-- a filter with that handle and key
abbrev pub filter_with : ℕ → ℕ → Filter
filter_with handle key = record { handle = handle; key = key ∷ []; actions = [] }
