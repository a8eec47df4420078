-- What commits tell of tables, masks and filters, as readers of the store take it (this project's own). `h`
-- is a list of commits, and k is a number of the edits that they carry.
use Rattle.std.specs.Prelude.{ℕ, List, map}
use Rattle.tc_base.specs.declared.hook.Hook.{Hook}
use Rattle.visit_room.specs.declared.names.ActionName.{ActionName}
use Rattle.store_history.specs.declared.history.Commit.{Commit}
use Rattle.store_history.specs.History.{edits_of}
use Rattle.filter_state.specs.declared.edit.Edit.{Edit}
use Rattle.filter_state.specs.States.{State}
use Rattle.filter_state.specs.Journals.{state_at}
use Rattle.edit_effects.specs.OfEffects.Parts.{words_of}
use Rattle.walk_rules.specs.Questions.{Head}
use Rattle.walk_rules.specs.Heads.{heads_on}
use Rattle.block_codec.specs.declared.filter.StoredFilter.{StoredFilter}
use Rattle.hook_law.specs.Records.{Slotted, FilterRecord, StatedFilter}
use Rattle.hook_law.specs.Standing.{IsMaskAt}
use Rattle.hook_law.specs.Slots.{slotted}
use Rattle.miniq_pair.specs.Heads.{PlainTable}
use Rattle.hook_meaning.specs.Stated.{filters_at}
use Rattle.hook_meaning.specs.Blocks.{hook_codec}

abbrev pub plain_table : Head → PlainTable
plain_table head = record {
  serial = head.serial;
  chain = head.chain;
  pref = head.pref;
  protocol = head.protocol;
  masks = head.masks;
}

abbrev pub action_name : Slotted → ActionName
action_name x = record { serial = x.serial; slot = x.slot }

abbrev pub stored_filter : FilterRecord → StoredFilter
stored_filter f = record {
  handle = f.handle;
  key = record { words = f.key };
  actions = map action_name f.actions;
}

-- the state after the first k edits
abbrev pub state_after_edits : List (Commit Edit) → ℕ → State
state_after_edits h k = state_at k (edits_of h)

-- the tables of a hook after the first k edits
abbrev pub heads_after : List (Commit Edit) → ℕ → Hook → List PlainTable
heads_after h k hook = map plain_table (heads_on hook (state_after_edits h k))

-- a head names the mask with this slot
abbrev pub stands_at : List (Commit Edit) → ℕ → ℕ → Type 0
stands_at h slot mask = IsMaskAt hook_codec h mask slot

-- the words of a mask after the first k edits
abbrev pub words_after : List (Commit Edit) → ℕ → ℕ → List ℕ
words_after h k mask = words_of (state_after_edits h k) mask

-- a state's filter as it is stored, with its actions at the slots to which the commits put them
abbrev pub with_slots : List (Commit Edit) → StatedFilter → StoredFilter
with_slots h f = stored_filter (slotted hook_codec h f)

-- the filters of a mask after the first k edits
abbrev pub filters_after : List (Commit Edit) → ℕ → ℕ → List StoredFilter
filters_after h k mask = map (with_slots h) (filters_at (state_after_edits h k) mask)
