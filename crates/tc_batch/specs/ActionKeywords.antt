-- The keywords of an action (tc-actions(8), tc-vlan(8), tc-skbedit(8)).
use Rattle.std.specs.Prelude.{List, ℕ, codes, Option, Some, None, if◌then◌else◌}
use Rattle.std.specs.Str.{bytes_eq}
use Rattle.act_kinds.specs.declared.params.Kind.{Kind}
use Rattle.act_kinds.specs.declared.params.Kind.TheVariants as kinds
use Rattle.act_kinds.specs.declared.params.Control.TheVariants as controls
use Rattle.tc_batch.specs.KindNames.{kind_text}
use Rattle.tc_batch.specs.declared.action_keywords.Site.{Site}
use Rattle.tc_batch.specs.declared.action_keywords.Site.TheVariants as sites
use Rattle.tc_batch.specs.declared.action_keywords.ControlWord.{ControlWord}
use Rattle.tc_batch.specs.declared.action_keywords.ControlWord.TheVariants as control_words
use Rattle.tc_batch.specs.declared.action_keywords.VlanVerb.{VlanVerb}
use Rattle.tc_batch.specs.declared.action_keywords.VlanVerb.TheVariants as vlan_verbs
use Rattle.tc_batch.specs.declared.action_keywords.TagVerb.TheVariants as tag_verbs
use Rattle.tc_batch.specs.declared.action_keywords.TagName.{TagName}
use Rattle.tc_batch.specs.declared.action_keywords.TagName.TheVariants as tag_names
use Rattle.tc_batch.specs.declared.action_keywords.MarkName.{MarkName}
use Rattle.tc_batch.specs.declared.action_keywords.MarkName.TheVariants as mark_names

-- the kinds of actions, each by its name
abbrev pub kind_word : List ℕ → Option Kind
kind_word word =
    if bytes_eq word (kind_text kinds.Gact) then Some kinds.Gact
    else if bytes_eq word (kind_text kinds.Vlan) then Some kinds.Vlan
    else if bytes_eq word (kind_text kinds.Skbedit) then Some kinds.Skbedit
    else None

-- only an action that is written in a filter goes to a chain
abbrev pub goto_word : Site → Option ControlWord
goto_word sites.Filter = Some control_words.Goto
goto_word sites.Add = None
goto_word sites.Change = None

-- the first word of a control; `pass` is `ok`, and `shot` is `drop`
abbrev pub control_word : Site → List ℕ → Option ControlWord
control_word site word =
    if bytes_eq word (codes "goto") then goto_word site
    else if bytes_eq word (codes "ok") then Some (control_words.Plain controls.Accept)
    else if bytes_eq word (codes "pass") then Some (control_words.Plain controls.Accept)
    else if bytes_eq word (codes "drop") then Some (control_words.Plain controls.Shot)
    else if bytes_eq word (codes "shot") then Some (control_words.Plain controls.Shot)
    else if bytes_eq word (codes "continue") then Some (control_words.Plain controls.Unspec)
    else if bytes_eq word (codes "pipe") then Some (control_words.Plain controls.Pipe)
    else if bytes_eq word (codes "reclassify") then Some (control_words.Plain controls.Reclassify)
    else if bytes_eq word (codes "jump") then Some control_words.Jump
    else None

-- tc-vlan(8)
abbrev pub vlan_verb : List ℕ → Option VlanVerb
vlan_verb word =
    if bytes_eq word (codes "push") then Some (vlan_verbs.Tagged tag_verbs.Push)
    else if bytes_eq word (codes "pop") then Some vlan_verbs.Pop
    else if bytes_eq word (codes "modify") then Some (vlan_verbs.Tagged tag_verbs.Modify)
    else None

-- the parts of a tag
abbrev pub tag_name : List ℕ → Option TagName
tag_name word =
    if bytes_eq word (codes "id") then Some tag_names.Id
    else if bytes_eq word (codes "priority") then Some tag_names.Priority
    else if bytes_eq word (codes "protocol") then Some tag_names.Protocol
    else None

-- tc-skbedit(8)
abbrev pub mark_name : List ℕ → Option MarkName
mark_name word =
    if bytes_eq word (codes "priority") then Some mark_names.Priority
    else if bytes_eq word (codes "mark") then Some mark_names.Mark
    else if bytes_eq word (codes "queue_mapping") then Some mark_names.Queue
    else None
