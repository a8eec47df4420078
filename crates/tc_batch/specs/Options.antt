-- What may stand between a hook and `flower`, and the edits that come of it.
use Rattle.act_kinds.specs.declared.limits.TheConstants.{CHAIN_MAX}
use Rattle.std.specs.Prelude.{ℕ, Bool, true, false, ◌&&◌, not, List, Option, Some, None, is_some}
use Rattle.std.specs.Prelude.{if◌then◌else◌}
use Rattle.std.specs.Option.{option_map, unwrap_or}
use Rattle.line_words.specs.Forms.{number_between, protocol_of}
use Rattle.tc_base.specs.declared.hook.Hook.{Hook}
use Rattle.filter_state.specs.declared.edit.Edit.{Edit}
use Rattle.filter_state.specs.declared.edit.Edit.TheVariants as edits
use Rattle.tc_batch.specs.declared.keywords.QdiscVerb.{QdiscVerb}
use Rattle.tc_batch.specs.declared.keywords.QdiscVerb.TheVariants as qdisc_verbs
use Rattle.tc_batch.specs.declared.keywords.FilterVerb.{FilterVerb}
use Rattle.tc_batch.specs.declared.keywords.FilterVerb.TheVariants as filter_verbs
use Rattle.tc_batch.specs.declared.keywords.OptionName.{OptionName}
use Rattle.tc_batch.specs.declared.keywords.OptionName.TheVariants as option_names
use Rattle.tc_batch.specs.declared.options.Options.{Options}
use Rattle.tc_batch.specs.Keywords.{option_name}

-- a chain, or a place to jump to
abbrev pub chain_number : List ℕ → Option ℕ
chain_number word = number_between 0 CHAIN_MAX word

-- a handle of a filter, or an index of an action
abbrev pub index_number : List ℕ → Option ℕ
index_number word = number_between 1 4294967295 word

-- a pref
abbrev pub pref_number : List ℕ → Option ℕ
pref_number word = number_between 1 65535 word

-- nothing stood yet
abbrev pub no_options : Options
no_options = record { protocol = None; pref = None; chain = None; handle = None }

-- the word stood before
abbrev pub is_given : Options → OptionName → Bool
is_given options option_names.Protocol = is_some options.protocol
is_given options option_names.Pref = is_some options.pref
is_given options option_names.Chain = is_some options.chain
is_given options option_names.Handle = is_some options.handle

-- the options with the value of a name
abbrev pub with_option : Options → OptionName → List ℕ → Option Options
with_option options option_names.Protocol word =
    option_map (λ p. record options { protocol = Some p }) (protocol_of word)
with_option options option_names.Pref word =
    option_map (λ n. record options { pref = Some n }) (pref_number word)
with_option options option_names.Chain word =
    option_map (λ n. record options { chain = Some n }) (chain_number word)
with_option options option_names.Handle word =
    option_map (λ n. record options { handle = Some n }) (index_number word)

-- what a name with its value makes of what is set so far, where the name may stand
abbrev pub set_once : {S N : Type 0} → (S → N → Bool) → (S → N → List ℕ → Option S) → S → List ℕ → Option N
    → Option S
set_once refuses takes s value None = None
set_once refuses takes s value (Some name) = if refuses s name then None else takes s name value

-- an option and its value
abbrev pub option_setting : Options → List ℕ → List ℕ → Option Options
option_setting options name value = set_once is_given with_option options value (option_name name)

-- `flower` may follow: a replace needs pref and handle before it, and a del needs pref
abbrev pub may_flower : FilterVerb → Options → Bool
may_flower filter_verbs.Add options = true
may_flower filter_verbs.Replace options = is_some options.pref && is_some options.handle
may_flower filter_verbs.Del options = is_some options.pref

-- the line may end before `flower`: a del without handle
abbrev pub may_end : FilterVerb → Options → Bool
may_end filter_verbs.Add options = false
may_end filter_verbs.Replace options = false
may_end filter_verbs.Del options = is_some options.pref && not (is_some options.handle)

-- the edit of a qdisc line
abbrev pub qdisc_edit : QdiscVerb → Edit
qdisc_edit qdisc_verbs.Add = edits.HookAdd
qdisc_edit qdisc_verbs.Del = edits.HookDel

-- a chain that isn't given is 0
abbrev pub del_edit : Hook → Options → Edit
del_edit hook options = edits.FilterDel hook options.protocol (unwrap_or options.chain 0)
    (unwrap_or options.pref 0) options.handle
