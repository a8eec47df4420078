-- What edits do to a plain state, and what the law of a hook reads off it (this project's own).
use Rattle.std.specs.Prelude.{ℕ, zero, suc, List, [], map, Option}
use Rattle.std.specs.Option.{option_map}
use Rattle.tc_base.specs.declared.hook.Hook.TheVariants as hooks
use Rattle.tc_base.specs.declared.hook.Proto.{Proto}
use Rattle.act_kinds.specs.declared.params.Params.{Params}
use Rattle.flow_mask.specs.Hashes.{hash_of}
use Rattle.flow_mask.specs.Sizes.{size_of}
use Rattle.filter_state.specs.declared.edit.Edit.{Edit}
use Rattle.filter_state.specs.States.{Action, State, no_state}
use Rattle.filter_state.specs.Actions.{has_serial}
use Rattle.filter_state.specs.Tables.{first_where}
use Rattle.filter_state.specs.Steps.{step}
use Rattle.filter_state.specs.Journals.{state_after, IsLawful}
use Rattle.edit_effects.specs.OfEffects.Parts.{Filter, filters_of, words_of}
use Rattle.walk_rules.specs.Questions.{Head}
use Rattle.walk_rules.specs.Heads.{heads_on}
use Rattle.hook_law.specs.Records.{StatedTable, StatedFilter}
use Rattle.hook_law.specs.Meaning.{Meaning}

-- what names a table in its hook, and the protocol that it is for
pub record TableNames : Type 0 where
  pub chain : ℕ
  pub pref : ℕ
  pub protocol : Proto

-- what an action is, beside its serial: the index that its users name, and its parameters
pub record ActionTerms : Type 0 where
  pub index : ℕ
  pub params : Params

abbrev pub table_stated : Head → StatedTable TableNames
table_stated head = record {
  serial = head.serial;
  names = record { chain = head.chain; pref = head.pref; protocol = head.protocol };
  masks = head.masks;
}

abbrev pub filter_stated : Filter → StatedFilter
filter_stated f = record { handle = f.handle; key = f.key; actions = f.actions }

abbrev pub action_stated : Action → ActionTerms
action_stated action = record { index = action.index; params = action.params }

-- the tables of a hook by its number: ingress is 0, egress is 1, and there is no other
abbrev pub tables_at : State → ℕ → List (StatedTable TableNames)
tables_at s zero = map table_stated (heads_on hooks.Ingress s)
tables_at s (suc zero) = map table_stated (heads_on hooks.Egress s)
tables_at s (suc (suc more)) = []

abbrev pub filters_at : State → ℕ → List StatedFilter
filters_at s mask = map filter_stated (filters_of s mask)

abbrev pub action_at : State → ℕ → Option ActionTerms
action_at s serial = option_map action_stated (first_where (has_serial serial) s.actions)

-- THE MEANING OF EDITS: they lead from the state without a qdisc to others, a refused one to no other, and
-- the law reads a state's tables, masks, filters and actions
abbrev pub hook_meaning : Meaning Edit State TableNames ActionTerms
hook_meaning = record {
  start = no_state;
  step = λ s edit. state_after s (step s edit);
  Lawful = IsLawful;
  heads = tables_at;
  words = words_of;
  filters = filters_at;
  params = action_at;
  hash = hash_of;
  size_for = size_of;
}
