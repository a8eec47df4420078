-- The flat state of what the lists keep.
use Rattle.std.specs.Prelude.{◌≡◌, ℕ, Option, length}
use Rattle.tc_base.specs.declared.hook.Hook.{Hook}
use Rattle.tc_base.specs.declared.hook.Hook.TheVariants as hooks
use Rattle.filter_state.specs.States.{State}
use Rattle.filter_state.specs.Sound.{Sound}
use Rattle.filter_tables.specs.Changes.{is_table}
use Rattle.filter_tables.specs.Places.{place_where}
use Rattle.filter_tables.specs.Room.{TableRoom}
use Rattle.filter_tables.specs.Rows.{BothHooks, tables_on, all_rows, BothWhole}
use Rattle.action_plan.specs.Entries.{actions_of}
use Rattle.hook_lists.specs.declared.kept.Kept.{Kept}

-- the tables of the two hooks
abbrev pub both_of : Kept → BothHooks
both_of kept = record { ingress = kept.ingress.tables; egress = kept.egress.tables }

-- where the table of a chain and pref stands among those of a hook
abbrev pub place_on : Hook → ℕ → ℕ → Kept → Option ℕ
place_on hook chain pref kept = place_where (is_table chain pref) (tables_on hook (both_of kept))

-- the tables of a hook, with their room
abbrev pub room_on : Hook → Kept → TableRoom
room_on hooks.Ingress kept = kept.ingress
room_on hooks.Egress kept = kept.egress

-- the state in whose rows the filters stand as they do in the lists
abbrev pub state_of : Kept → State
state_of kept = record {
  hooked = kept.hooked;
  rows = all_rows (both_of kept);
  actions = actions_of kept.actions.entries;
  tables_made = kept.tables_made;
  masks_made = kept.masks_made;
  actions_made = kept.actions.made;
}

-- what holds of the lists at all times: their tables are whole, their state is sound, and the filters are
-- counted
pub record AreKept (kept : Kept) : Type 0 where
  pub whole : BothWhole (both_of kept)
  pub sound : Sound (state_of kept)
  pub filters : kept.filters ≡ length (all_rows (both_of kept))
