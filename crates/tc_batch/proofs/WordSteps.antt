-- In each state the language goes on by the state after the next word.
use Rattle.std.proofs.Common.{ℕ, List, ◌∷◌, Some}
use Rattle.std.specs.Prelude.{codes}
use Rattle.act_kinds.specs.declared.params.Control.TheVariants as controls
use Rattle.act_kinds.specs.Params.{with_control}
use Rattle.filter_state.specs.declared.edit.Edit.{Edit}
use Rattle.filter_state.specs.declared.edit.Edit.TheVariants as edits
use Rattle.tc_batch.specs.declared.stage.Place.TheVariants as places
use Rattle.tc_batch.specs.States.{State}
use Rattle.tc_batch.specs.Keywords.{line_kind, qdisc_verb, filter_verb, action_verb, hook_word}
use Rattle.tc_batch.specs.ActionKeywords.{kind_word}
use Rattle.tc_batch.specs.Options.{chain_number, index_number, no_options, with_option, qdisc_edit}
use Rattle.tc_batch.specs.Fields.{head_takes}
use Rattle.tc_batch.specs.Actions.{with_tag, with_mark, full_action, named_action}
use Rattle.tc_batch.specs.Grammar.{Then}
use Rattle.tc_batch.specs.Machine.{after_kind, acted, after_actions, next_state}
use Rattle.tc_batch.proofs.Languages.{Language}
use Rattle.tc_batch.proofs.Choices.{Goes, map_to, map_from, not_nil, text_to, text_from}
use Rattle.tc_batch.proofs.LineSteps.{kind_to, kind_from, verb_to, verb_from, settings_to, settings_from, listed_to, listed_from, fields_to, fields_from}
use Rattle.tc_batch.proofs.ControlSteps.{whole_to, whole_from, placed_to, placed_from}
use Rattle.tc_batch.proofs.ActionSteps.{tagging_to, tagging_from, marking_to, marking_from, kinded_to, kinded_from, begun_to, begun_from, acted_to, acted_from}

-- each word on
pub step_to : (edit : Edit) (state : State) (word : List ℕ) (words : List (List ℕ)) → Language edit state (word ∷ words) → Goes edit (next_state state word) words
step_to edit State.Start word words h = map_to (line_kind word) after_kind _ (λ s. Language edit s words) (kind_to edit words) h
step_to edit State.Qdisc word words h = map_to (qdisc_verb word) State.QdiscDev _ (λ s. Language edit s words) (λ _ it. it) h
step_to edit (State.QdiscDev verb) word words h = text_to edit (codes "dev") (State.QdiscName verb) word words h
step_to edit (State.QdiscName verb) word words h = text_to edit (codes "eth0") (State.QdiscClsact verb) word words h
step_to edit (State.QdiscClsact verb) word words h = text_to edit (codes "clsact") (State.Done (qdisc_edit verb)) word words h
step_to edit State.FilterLine word words h = map_to (filter_verb word) State.FilterDev _ (λ s. Language edit s words) (λ _ it. it) h
step_to edit (State.FilterDev verb) word words h = text_to edit (codes "dev") (State.FilterName verb) word words h
step_to edit (State.FilterName verb) word words h = text_to edit (codes "eth0") (State.FilterHook verb) word words h
step_to edit (State.FilterHook verb) word words h = map_to (hook_word word) (λ hook. State.Settings verb hook no_options) _ (λ s. Language edit s words) (λ _ it. it) h
step_to edit (State.Settings verb hook options) word words h = settings_to edit verb hook options word words h
step_to edit (State.SettingValue verb hook options name) word words h = map_to (with_option options name word) (State.Settings verb hook) _ (λ s. Language edit s words) (λ _ it. it) h
step_to edit (State.Fielding head) word words h = fields_to edit head word words h
step_to edit (State.FieldValue head name) word words h = map_to (head_takes head name word) State.Fielding _ (λ s. Language edit s words) (λ _ it. it) h
step_to edit (State.Listed head actions more) word words h = listed_to edit head actions more word words h
step_to edit (State.Acting context places.Begun) word words h = begun_to edit context word words h
step_to edit (State.Acting context (places.Kinded kind)) word words h = kinded_to edit context kind word words h
step_to edit (State.Acting context (places.Tagging verb tag)) word words h = tagging_to edit context verb tag word words h
step_to edit (State.Acting context (places.TagValue verb tag name)) word words h = map_to (with_tag tag name word) (λ t. State.Acting context (places.Tagging verb t)) _ (λ s. Language edit s words) (λ _ it. it) h
step_to edit (State.Acting context (places.Marking set)) word words h = marking_to edit context set word words h
step_to edit (State.Acting context (places.MarkValue set name)) word words h = map_to (with_mark set name word) (λ t. State.Acting context (places.Marking t)) _ (λ s. Language edit s words) (λ _ it. it) h
step_to edit (State.Acting context (places.Placed base)) word words h = placed_to edit context base word words h
step_to edit (State.Acting context (places.JumpNumber base)) word words h = map_to (chain_number word) (λ n. State.Acting context (places.Whole (with_control base (controls.Jump n)))) _ (λ s. Language edit s words) (λ _ it. it) h
step_to edit (State.Acting context (places.GotoChain base)) word words h = text_to edit (codes "chain") (State.Acting context (places.GotoNumber base)) word words h
step_to edit (State.Acting context (places.GotoNumber base)) word words h = map_to (chain_number word) (λ n. State.Acting context (places.Whole (with_control base (controls.Goto n)))) _ (λ s. Language edit s words) (λ _ it. it) h
step_to edit (State.Acting context (places.Whole given)) word words h = whole_to edit context given word words h
step_to edit (State.Acting context (places.FullIndex given)) word words h = map_to (index_number word) (λ n. acted context (full_action given (Some n))) _ (λ s. Language edit s words) (λ n it. acted_to edit context (full_action given (Some n)) words it) h
step_to edit (State.Acting context (places.NamedIndex kind)) word words h = map_to (index_number word) (λ n. acted context (named_action kind n)) _ (λ s. Language edit s words) (λ n it. acted_to edit context (named_action kind n) words it) h
step_to edit State.Actions word words h = map_to (action_verb word) State.ActionsAction _ (λ s. Language edit s words) (λ _ it. it) h
step_to edit (State.ActionsAction verb) word words (is, h) = text_to edit (codes "action") (after_actions verb) word words (is, verb_to edit words verb h)
step_to edit State.DelKind word words h = map_to (kind_word word) State.DelIndex _ (λ s. Language edit s words) (λ _ it. it) h
step_to edit (State.DelIndex kind) word words h = text_to edit (codes "index") (State.DelNumber kind) word words h
step_to edit (State.DelNumber kind) word words h = map_to (index_number word) (λ n. State.Done (edits.ActionDel kind n)) _ (λ s. Language edit s words) (λ _ it. it) h
step_to edit (State.Done given) word words (ends, is) = not_nil word words ends

-- and back
pub step_from : (edit : Edit) (state : State) (word : List ℕ) (words : List (List ℕ)) → Goes edit (next_state state word) words → Language edit state (word ∷ words)
step_from edit State.Start word words h = map_from (line_kind word) after_kind _ (λ s. Language edit s words) (kind_from edit words) h
step_from edit State.Qdisc word words h = map_from (qdisc_verb word) State.QdiscDev _ (λ s. Language edit s words) (λ _ it. it) h
step_from edit (State.QdiscDev verb) word words h = text_from edit (codes "dev") (State.QdiscName verb) word words h
step_from edit (State.QdiscName verb) word words h = text_from edit (codes "eth0") (State.QdiscClsact verb) word words h
step_from edit (State.QdiscClsact verb) word words h = text_from edit (codes "clsact") (State.Done (qdisc_edit verb)) word words h
step_from edit State.FilterLine word words h = map_from (filter_verb word) State.FilterDev _ (λ s. Language edit s words) (λ _ it. it) h
step_from edit (State.FilterDev verb) word words h = text_from edit (codes "dev") (State.FilterName verb) word words h
step_from edit (State.FilterName verb) word words h = text_from edit (codes "eth0") (State.FilterHook verb) word words h
step_from edit (State.FilterHook verb) word words h = map_from (hook_word word) (λ hook. State.Settings verb hook no_options) _ (λ s. Language edit s words) (λ _ it. it) h
step_from edit (State.Settings verb hook options) word words h = settings_from edit verb hook options word words h
step_from edit (State.SettingValue verb hook options name) word words h = map_from (with_option options name word) (State.Settings verb hook) _ (λ s. Language edit s words) (λ _ it. it) h
step_from edit (State.Fielding head) word words h = fields_from edit head word words h
step_from edit (State.FieldValue head name) word words h = map_from (head_takes head name word) State.Fielding _ (λ s. Language edit s words) (λ _ it. it) h
step_from edit (State.Listed head actions more) word words h = listed_from edit head actions more word words h
step_from edit (State.Acting context places.Begun) word words h = begun_from edit context word words h
step_from edit (State.Acting context (places.Kinded kind)) word words h = kinded_from edit context kind word words h
step_from edit (State.Acting context (places.Tagging verb tag)) word words h = tagging_from edit context verb tag word words h
step_from edit (State.Acting context (places.TagValue verb tag name)) word words h = map_from (with_tag tag name word) (λ t. State.Acting context (places.Tagging verb t)) _ (λ s. Language edit s words) (λ _ it. it) h
step_from edit (State.Acting context (places.Marking set)) word words h = marking_from edit context set word words h
step_from edit (State.Acting context (places.MarkValue set name)) word words h = map_from (with_mark set name word) (λ t. State.Acting context (places.Marking t)) _ (λ s. Language edit s words) (λ _ it. it) h
step_from edit (State.Acting context (places.Placed base)) word words h = placed_from edit context base word words h
step_from edit (State.Acting context (places.JumpNumber base)) word words h = map_from (chain_number word) (λ n. State.Acting context (places.Whole (with_control base (controls.Jump n)))) _ (λ s. Language edit s words) (λ _ it. it) h
step_from edit (State.Acting context (places.GotoChain base)) word words h = text_from edit (codes "chain") (State.Acting context (places.GotoNumber base)) word words h
step_from edit (State.Acting context (places.GotoNumber base)) word words h = map_from (chain_number word) (λ n. State.Acting context (places.Whole (with_control base (controls.Goto n)))) _ (λ s. Language edit s words) (λ _ it. it) h
step_from edit (State.Acting context (places.Whole given)) word words h = whole_from edit context given word words h
step_from edit (State.Acting context (places.FullIndex given)) word words h = map_from (index_number word) (λ n. acted context (full_action given (Some n))) _ (λ s. Language edit s words) (λ n it. acted_from edit context (full_action given (Some n)) words it) h
step_from edit (State.Acting context (places.NamedIndex kind)) word words h = map_from (index_number word) (λ n. acted context (named_action kind n)) _ (λ s. Language edit s words) (λ n it. acted_from edit context (named_action kind n) words it) h
step_from edit State.Actions word words h = map_from (action_verb word) State.ActionsAction _ (λ s. Language edit s words) (λ _ it. it) h
step_from edit (State.ActionsAction verb) word words h =
    let is : Then (codes "action") (Language edit (after_actions verb)) (word ∷ words) = text_from edit (codes "action") (after_actions verb) word words h in
    (is.0, verb_from edit words verb is.1)
step_from edit State.DelKind word words h = map_from (kind_word word) State.DelIndex _ (λ s. Language edit s words) (λ _ it. it) h
step_from edit (State.DelIndex kind) word words h = text_from edit (codes "index") (State.DelNumber kind) word words h
step_from edit (State.DelNumber kind) word words h = map_from (index_number word) (λ n. State.Done (edits.ActionDel kind n)) _ (λ s. Language edit s words) (λ _ it. it) h
step_from edit (State.Done given) word words h = absurd h
