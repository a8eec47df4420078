-- How far a line has come, with all that was read of it.
use Rattle.std.specs.Prelude.{ℕ, List}
use Rattle.tc_base.specs.declared.hook.Hook.{Hook}
use Rattle.act_kinds.specs.declared.params.Kind.{Kind}
use Rattle.filter_state.specs.declared.action_line.ActionLine.{ActionLine}
use Rattle.filter_state.specs.declared.edit.Edit.{Edit}
use Rattle.filter_state.specs.declared.edit.Edit.TheVariants as edits
use Rattle.tc_batch.specs.declared.keywords.QdiscVerb.{QdiscVerb}
use Rattle.tc_batch.specs.declared.keywords.FilterVerb.{FilterVerb}
use Rattle.tc_batch.specs.declared.keywords.ActionVerb.{ActionVerb}
use Rattle.tc_batch.specs.declared.keywords.OptionName.{OptionName}
use Rattle.tc_batch.specs.declared.action_keywords.Site.{Site}
use Rattle.tc_batch.specs.declared.action_keywords.Site.TheVariants as sites
use Rattle.tc_batch.specs.declared.field_name.FieldName.{FieldName}
use Rattle.tc_batch.specs.declared.options.Options.{Options}
use Rattle.tc_batch.specs.declared.draft.Head.{Head}
use Rattle.tc_batch.specs.declared.draft.Draft.{Draft}
use Rattle.tc_batch.specs.declared.stage.Place.{Place}
use Rattle.tc_batch.specs.declared.stage.Ending.{Ending}
use Rattle.tc_batch.specs.declared.stage.Ending.TheVariants as endings
use Rattle.tc_batch.specs.declared.stage.Stage.{Stage}
use Rattle.tc_batch.specs.declared.stage.Stage.TheVariants as stages
use Rattle.tc_batch.specs.Options.{qdisc_edit, del_edit}

-- the line that an action stands in: of a filter, the actions before it, and how many may come after it
pub data Context : Type 0 where
  Filter : Head → List ActionLine → ℕ → Context
  Add : Context
  Change : Context

pub data State : Type 0 where
  Start : State
  Qdisc : State
  QdiscDev : QdiscVerb → State
  QdiscName : QdiscVerb → State
  QdiscClsact : QdiscVerb → State
  FilterLine : State
  FilterDev : FilterVerb → State
  FilterName : FilterVerb → State
  FilterHook : FilterVerb → State
  Settings : FilterVerb → Hook → Options → State
  SettingValue : FilterVerb → Hook → Options → OptionName → State
  Fielding : Head → State
  FieldValue : Head → FieldName → State
  Listed : Head → List ActionLine → ℕ → State
  Acting : Context → Place → State
  Actions : State
  ActionsAction : ActionVerb → State
  DelKind : State
  DelIndex : Kind → State
  DelNumber : Kind → State
  Done : Edit → State

abbrev pub context_of : Draft → Site → Context
context_of draft sites.Filter = Context.Filter draft.head draft.actions draft.more
context_of draft sites.Add = Context.Add
context_of draft sites.Change = Context.Change

abbrev pub ending_edit : Draft → Ending → Edit
ending_edit draft (endings.Qdisc verb) = qdisc_edit verb
ending_edit draft endings.FilterDel = del_edit draft.head.hook draft.head.options
ending_edit draft (endings.ActionAdd action) = edits.ActionAdd action
ending_edit draft (endings.ActionChange action) = edits.ActionChange action
ending_edit draft (endings.ActionDel kind index) = edits.ActionDel kind index

-- the state of a stage and a draft
abbrev pub state_of : Draft → Stage → State
state_of draft stages.Start = State.Start
state_of draft stages.Qdisc = State.Qdisc
state_of draft (stages.QdiscDev verb) = State.QdiscDev verb
state_of draft (stages.QdiscName verb) = State.QdiscName verb
state_of draft (stages.QdiscClsact verb) = State.QdiscClsact verb
state_of draft stages.Filter = State.FilterLine
state_of draft (stages.FilterDev verb) = State.FilterDev verb
state_of draft (stages.FilterName verb) = State.FilterName verb
state_of draft (stages.FilterHook verb) = State.FilterHook verb
state_of draft (stages.Settings verb) = State.Settings verb draft.head.hook draft.head.options
state_of draft (stages.SettingValue verb name) =
    State.SettingValue verb draft.head.hook draft.head.options name
state_of draft stages.Fielding = State.Fielding draft.head
state_of draft (stages.FieldValue name) = State.FieldValue draft.head name
state_of draft stages.Listed = State.Listed draft.head draft.actions draft.more
state_of draft (stages.Acting site place) = State.Acting (context_of draft site) place
state_of draft stages.Actions = State.Actions
state_of draft (stages.ActionsAction verb) = State.ActionsAction verb
state_of draft stages.DelKind = State.DelKind
state_of draft (stages.DelIndex kind) = State.DelIndex kind
state_of draft (stages.DelNumber kind) = State.DelNumber kind
state_of draft (stages.Done ending) = State.Done (ending_edit draft ending)
