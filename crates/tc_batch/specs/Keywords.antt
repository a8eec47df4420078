-- The keywords of a batch line (tc(8), tc-flower(8)).
use Rattle.std.specs.Prelude.{List, ℕ, codes, Option, Some, None, if◌then◌else◌}
use Rattle.std.specs.Str.{bytes_eq}
use Rattle.tc_base.specs.declared.hook.Hook.{Hook}
use Rattle.tc_base.specs.declared.hook.Hook.TheVariants.{Ingress, Egress}
use Rattle.tc_batch.specs.declared.keywords.LineKind.{LineKind}
use Rattle.tc_batch.specs.declared.keywords.LineKind.TheVariants as lines
use Rattle.tc_batch.specs.declared.keywords.QdiscVerb.{QdiscVerb}
use Rattle.tc_batch.specs.declared.keywords.QdiscVerb.TheVariants as qdisc_verbs
use Rattle.tc_batch.specs.declared.keywords.FilterVerb.{FilterVerb}
use Rattle.tc_batch.specs.declared.keywords.FilterVerb.TheVariants as filter_verbs
use Rattle.tc_batch.specs.declared.keywords.ActionVerb.{ActionVerb}
use Rattle.tc_batch.specs.declared.keywords.ActionVerb.TheVariants as action_verbs
use Rattle.tc_batch.specs.declared.keywords.OptionName.{OptionName}
use Rattle.tc_batch.specs.declared.keywords.OptionName.TheVariants as option_names

-- the first word of a line
abbrev pub line_kind : List ℕ → Option LineKind
line_kind word =
    if bytes_eq word (codes "qdisc") then Some lines.Qdisc
    else if bytes_eq word (codes "filter") then Some lines.Filter
    else if bytes_eq word (codes "actions") then Some lines.Actions
    else None

-- tc-clsact(8)
abbrev pub qdisc_verb : List ℕ → Option QdiscVerb
qdisc_verb word =
    if bytes_eq word (codes "add") then Some qdisc_verbs.Add
    else if bytes_eq word (codes "del") then Some qdisc_verbs.Del
    else None

-- tc-flower(8)
abbrev pub filter_verb : List ℕ → Option FilterVerb
filter_verb word =
    if bytes_eq word (codes "add") then Some filter_verbs.Add
    else if bytes_eq word (codes "replace") then Some filter_verbs.Replace
    else if bytes_eq word (codes "del") then Some filter_verbs.Del
    else None

-- tc-actions(8)
abbrev pub action_verb : List ℕ → Option ActionVerb
action_verb word =
    if bytes_eq word (codes "add") then Some action_verbs.Add
    else if bytes_eq word (codes "change") then Some action_verbs.Change
    else if bytes_eq word (codes "del") then Some action_verbs.Del
    else None

-- the two hooks of clsact
abbrev pub hook_word : List ℕ → Option Hook
hook_word word =
    if bytes_eq word (codes "ingress") then Some Ingress
    else if bytes_eq word (codes "egress") then Some Egress
    else None

-- the four spellings of pref are one word
abbrev pub option_name : List ℕ → Option OptionName
option_name word =
    if bytes_eq word (codes "protocol") then Some option_names.Protocol
    else if bytes_eq word (codes "pref") then Some option_names.Pref
    else if bytes_eq word (codes "prio") then Some option_names.Pref
    else if bytes_eq word (codes "priority") then Some option_names.Pref
    else if bytes_eq word (codes "preference") then Some option_names.Pref
    else if bytes_eq word (codes "chain") then Some option_names.Chain
    else if bytes_eq word (codes "handle") then Some option_names.Handle
    else None
