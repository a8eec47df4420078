-- The live actions of a registry as those of a flat state.
use Rattle.std.specs.Prelude.{List, map}
use Rattle.act_kinds.specs.declared.params.Params.{Params}
use Rattle.act_registry.specs.declared.entry.Entry.{Entry}
use Rattle.filter_state.specs.States.{Action}

abbrev pub action_of : Entry Params → Action
action_of entry = record {
  serial = entry.serial;
  index = entry.index;
  params = entry.params;
  references = entry.references;
  binds = entry.binds;
}

abbrev pub actions_of : List (Entry Params) → List Action
actions_of entries = map action_of entries
