-- What may still follow in each state, for the line to give an edit.
use Rattle.std.proofs.Common.{ℕ, List, [], ◌∷◌, ◌++◌, Some}
use Rattle.std.specs.Prelude.{codes}
use Rattle.act_kinds.specs.declared.params.Control.TheVariants as controls
use Rattle.act_kinds.specs.Params.{with_control}
use Rattle.filter_state.specs.declared.action_line.ActionLine.{ActionLine}
use Rattle.filter_state.specs.declared.edit.Edit.{Edit}
use Rattle.filter_state.specs.declared.edit.Edit.TheVariants as edits
use Rattle.tc_batch.specs.declared.keywords.LineKind.TheVariants as lines
use Rattle.tc_batch.specs.declared.keywords.ActionVerb.TheVariants as action_verbs
use Rattle.tc_batch.specs.States.{Context, State}
use Rattle.tc_batch.specs.declared.stage.Place.{Place}
use Rattle.tc_batch.specs.declared.stage.Place.TheVariants as places
use Rattle.tc_batch.specs.States.{State}
use Rattle.tc_batch.specs.Keywords.{hook_word}
use Rattle.tc_batch.specs.Options.{chain_number, index_number, no_options, with_option, option_setting, qdisc_edit}
use Rattle.tc_batch.specs.Fields.{head_takes, field_setting}
use Rattle.tc_batch.specs.Actions.{with_tag, tag_setting, with_mark, mark_setting, full_action, named_action}
use Rattle.tc_batch.specs.Grammar.{Then, Reads, Ends, Pairs, Tail, Placed, AfterTag, AfterMarks, AfterKind, Action, ActionList, AfterFields, AfterSettings, FilterRest, ActionsRest, LineRest, Gives}
use Rattle.tc_batch.specs.Machine.{site_of}

-- what follows a whole action
abbrev pub After : Edit → Context → ActionLine → List (List ℕ) → Type 0
After edit (Context.Filter head actions more) action words = ActionList more head edit (actions ++ (action ∷ [])) words
After edit Context.Add action words = Ends edit (edits.ActionAdd action) words
After edit Context.Change action words = Ends edit (edits.ActionChange action) words

abbrev pub ActionLanguage : Edit → Context → Place → List (List ℕ) → Type 0
ActionLanguage edit context places.Begun words = Action (site_of context) (After edit context) words
ActionLanguage edit context (places.Kinded kind) words = AfterKind (site_of context) (After edit context) kind words
ActionLanguage edit context (places.Tagging verb tag) words = Pairs tag_setting (AfterTag (site_of context) (After edit context) verb) tag words
ActionLanguage edit context (places.TagValue verb tag name) words = Reads (with_tag tag name) (Pairs tag_setting (AfterTag (site_of context) (After edit context) verb)) words
ActionLanguage edit context (places.Marking set) words = Pairs mark_setting (AfterMarks (site_of context) (After edit context)) set words
ActionLanguage edit context (places.MarkValue set name) words = Reads (with_mark set name) (Pairs mark_setting (AfterMarks (site_of context) (After edit context))) words
ActionLanguage edit context (places.Placed base) words = Placed (site_of context) (After edit context) base words
ActionLanguage edit context (places.JumpNumber base) words = Reads chain_number (λ n. Tail (site_of context) (After edit context) (with_control base (controls.Jump n))) words
ActionLanguage edit context (places.GotoChain base) words = Then (codes "chain") (Reads chain_number (λ n. Tail (site_of context) (After edit context) (with_control base (controls.Goto n)))) words
ActionLanguage edit context (places.GotoNumber base) words = Reads chain_number (λ n. Tail (site_of context) (After edit context) (with_control base (controls.Goto n))) words
ActionLanguage edit context (places.Whole given) words = Tail (site_of context) (After edit context) given words
ActionLanguage edit context (places.FullIndex given) words = Reads index_number (λ n. After edit context (full_action given (Some n))) words
ActionLanguage edit context (places.NamedIndex kind) words = Reads index_number (λ n. After edit context (named_action kind n)) words

abbrev pub Language : Edit → State → List (List ℕ) → Type 0
Language edit State.Start words = Gives words edit
Language edit State.Qdisc words = LineRest edit lines.Qdisc words
Language edit (State.QdiscDev verb) words = Then (codes "dev") (Then (codes "eth0") (Then (codes "clsact") (Ends edit (qdisc_edit verb)))) words
Language edit (State.QdiscName verb) words = Then (codes "eth0") (Then (codes "clsact") (Ends edit (qdisc_edit verb))) words
Language edit (State.QdiscClsact verb) words = Then (codes "clsact") (Ends edit (qdisc_edit verb)) words
Language edit State.FilterLine words = LineRest edit lines.Filter words
Language edit (State.FilterDev verb) words = FilterRest edit verb words
Language edit (State.FilterName verb) words = Then (codes "eth0") (Reads hook_word (λ hook. Pairs option_setting (AfterSettings verb hook edit) no_options)) words
Language edit (State.FilterHook verb) words = Reads hook_word (λ hook. Pairs option_setting (AfterSettings verb hook edit) no_options) words
Language edit (State.Settings verb hook options) words = Pairs option_setting (AfterSettings verb hook edit) options words
Language edit (State.SettingValue verb hook options name) words = Reads (with_option options name) (Pairs option_setting (AfterSettings verb hook edit)) words
Language edit (State.Fielding head) words = Pairs field_setting (AfterFields edit) head words
Language edit (State.FieldValue head name) words = Reads (head_takes head name) (Pairs field_setting (AfterFields edit)) words
Language edit (State.Listed head actions more) words = ActionList more head edit actions words
Language edit (State.Acting context place) words = ActionLanguage edit context place words
Language edit State.Actions words = LineRest edit lines.Actions words
Language edit (State.ActionsAction verb) words = Then (codes "action") (ActionsRest edit verb) words
Language edit State.DelKind words = ActionsRest edit action_verbs.Del words
Language edit (State.DelIndex kind) words = Then (codes "index") (Reads index_number (λ n. Ends edit (edits.ActionDel kind n))) words
Language edit (State.DelNumber kind) words = Reads index_number (λ n. Ends edit (edits.ActionDel kind n)) words
Language edit (State.Done given) words = Ends edit given words
