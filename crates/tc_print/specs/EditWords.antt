-- The line that an edit is printed as (tc(8), tc-flower(8), tc-actions(8)). Which of the forms that a line
-- can take is printed is this project's own.
use Rattle.std.specs.Prelude.{ℕ, List, [], ◌∷◌, ◌++◌, Option, Some, None, codes}
use Rattle.std.specs.List.{join_with_byte}
use Rattle.std.specs.Fmt.{decimal}
use Rattle.line_texts.specs.Texts.{handle_text, protocol_text}
use Rattle.tc_base.specs.declared.hook.Hook.{Hook}
use Rattle.tc_base.specs.declared.hook.Hook.TheVariants.{Ingress, Egress}
use Rattle.tc_base.specs.declared.hook.Proto.{Proto}
use Rattle.filter_state.specs.declared.edit.FilterLine.{FilterLine}
use Rattle.filter_state.specs.declared.edit.Edit.{Edit}
use Rattle.filter_state.specs.declared.edit.Edit.TheVariants as edits
use Rattle.tc_batch.specs.KindNames.{kind_text}
use Rattle.tc_print.specs.ActionWords.{number_words, action_words, list_words}
use Rattle.tc_print.specs.FieldWords.{fields_words}

-- tc-clsact(8): the two hooks
abbrev pub hook_text : Hook → List ℕ
hook_text Ingress = codes "ingress"
hook_text Egress = codes "egress"

-- the protocol of a table, where there is one
abbrev pub protocol_words : Option Proto → List (List ℕ)
protocol_words None = []
protocol_words (Some protocol) = codes "protocol" ∷ protocol_text protocol ∷ []

-- a handle of a filter, as tc(8) shows it
abbrev pub handle_words : Option ℕ → List (List ℕ)
handle_words None = []
handle_words (Some handle) = codes "handle" ∷ handle_text handle ∷ []

-- the table that a filter stands in, and the filter's handle
abbrev pub option_words : Option Proto → Option ℕ → ℕ → Option ℕ → List (List ℕ)
option_words protocol pref chain handle =
    protocol_words protocol
    ++ (number_words (codes "pref") pref ++ (codes "chain" ∷ decimal chain ∷ handle_words handle))

-- the first words of a line on a hook
abbrev pub hook_words : List ℕ → Hook → List (List ℕ)
hook_words verb hook = codes "filter" ∷ verb ∷ codes "dev" ∷ codes "eth0" ∷ hook_text hook ∷ []

-- tc-flower(8): what a filter compares and does
abbrev pub body_words : FilterLine → List (List ℕ)
body_words line = codes "flower" ∷ (fields_words line.key.words line.mask.words ++ list_words line.actions)

-- a line that makes a filter
abbrev pub filter_words : List ℕ → FilterLine → List (List ℕ)
filter_words verb line = hook_words verb line.hook
    ++ (option_words (Some line.protocol) line.pref line.chain line.handle ++ body_words line)

-- only a line that names one filter names its kind
abbrev pub flower_words : Option ℕ → List (List ℕ)
flower_words None = []
flower_words (Some handle) = codes "flower" ∷ []

-- a line that removes a filter, or a whole table
abbrev pub removal_words : Hook → Option Proto → ℕ → ℕ → Option ℕ → List (List ℕ)
removal_words hook protocol chain pref handle =
    hook_words (codes "del") hook ++ (option_words protocol (Some pref) chain handle ++ flower_words handle)

-- tc-clsact(8): a line that puts the hooks on the device, or takes them off
abbrev pub qdisc_words : List ℕ → List (List ℕ)
qdisc_words verb = codes "qdisc" ∷ verb ∷ codes "dev" ∷ codes "eth0" ∷ codes "clsact" ∷ []

-- the words of an edit
abbrev pub edit_words : Edit → List (List ℕ)
edit_words edits.HookAdd = qdisc_words (codes "add")
edit_words edits.HookDel = qdisc_words (codes "del")
edit_words (edits.FilterAdd line) = filter_words (codes "add") line
edit_words (edits.FilterReplace line) = filter_words (codes "replace") line
edit_words (edits.FilterDel hook protocol chain pref handle) = removal_words hook protocol chain pref handle
edit_words (edits.ActionAdd action) = codes "actions" ∷ codes "add" ∷ action_words action
edit_words (edits.ActionChange action) = codes "actions" ∷ codes "change" ∷ action_words action
edit_words (edits.ActionDel kind index) = codes "actions" ∷ codes "del" ∷ codes "action" ∷ kind_text kind
    ∷ number_words (codes "index") (Some index)

-- the text of an edit: its words, with one space between
abbrev pub printed : Edit → List ℕ
printed edit = join_with_byte 32 (edit_words edit)
