-- What an action's words set: the tag of vlan, the marks of skbedit, and the action that comes of them.
use Rattle.std.specs.Prelude.{ℕ, Bool, ◌||◌, List, Option, Some, None, is_some}
use Rattle.std.specs.Option.{option_map, unwrap_or}
use Rattle.line_words.specs.Forms.{number_between, tpid_of, class_of}
use Rattle.act_kinds.specs.declared.params.Kind.{Kind}
use Rattle.act_kinds.specs.declared.params.Control.TheVariants as controls
use Rattle.act_kinds.specs.declared.params.VlanOp.TheVariants as ops
use Rattle.act_kinds.specs.declared.params.Params.{Params}
use Rattle.act_kinds.specs.declared.params.Params.TheVariants as params
use Rattle.act_kinds.specs.Params.{kind_of}
use Rattle.filter_state.specs.declared.action_line.ActionLine.{ActionLine}
use Rattle.tc_batch.specs.declared.action_keywords.TagVerb.{TagVerb}
use Rattle.tc_batch.specs.declared.action_keywords.TagVerb.TheVariants as tag_verbs
use Rattle.tc_batch.specs.declared.action_keywords.TagName.{TagName}
use Rattle.tc_batch.specs.declared.action_keywords.TagName.TheVariants as tag_names
use Rattle.tc_batch.specs.declared.action_keywords.MarkName.{MarkName}
use Rattle.tc_batch.specs.declared.action_keywords.MarkName.TheVariants as mark_names
use Rattle.tc_batch.specs.declared.tag.Tag.{Tag}
use Rattle.tc_batch.specs.declared.marks.Marks.{Marks}
use Rattle.tc_batch.specs.ActionKeywords.{tag_name, mark_name}
use Rattle.tc_batch.specs.Options.{set_once}

-- what stood of a tag
abbrev pub no_tag : Tag
no_tag = record { id = None; priority = None; protocol = None }

-- the part stood before
abbrev pub is_tagged : Tag → TagName → Bool
is_tagged tag tag_names.Id = is_some tag.id
is_tagged tag tag_names.Priority = is_some tag.priority
is_tagged tag tag_names.Protocol = is_some tag.protocol

-- the tag with the value of a part
abbrev pub with_tag : Tag → TagName → List ℕ → Option Tag
with_tag tag tag_names.Id word = option_map (λ n. record tag { id = Some n }) (number_between 0 4094 word)
with_tag tag tag_names.Priority word =
    option_map (λ n. record tag { priority = Some n }) (number_between 0 7 word)
with_tag tag tag_names.Protocol word = option_map (λ n. record tag { protocol = Some n }) (tpid_of word)

-- a part of a tag and its value
abbrev pub tag_setting : Tag → List ℕ → List ℕ → Option Tag
tag_setting tag name value = set_once is_tagged with_tag tag value (tag_name name)

-- a tag without protocol is a customer's (0x8100). A pushed tag without priority has the priority 0; a
-- changed one keeps its own.
abbrev pub tag_params : TagVerb → Tag → Params
tag_params tag_verbs.Push tag = params.Vlan
    (ops.Push (unwrap_or tag.protocol 0x8100) (unwrap_or tag.id 0) (unwrap_or tag.priority 0)) controls.Pipe
tag_params tag_verbs.Modify tag =
    params.Vlan (ops.Modify (unwrap_or tag.protocol 0x8100) (unwrap_or tag.id 0) tag.priority) controls.Pipe

-- no mark stood yet
abbrev pub no_marks : Marks
no_marks = record { priority = None; mark = None; queue = None }

-- the mark stood before
abbrev pub is_marked : Marks → MarkName → Bool
is_marked set mark_names.Priority = is_some set.priority
is_marked set mark_names.Mark = is_some set.mark
is_marked set mark_names.Queue = is_some set.queue

-- the marks with the value of one
abbrev pub with_mark : Marks → MarkName → List ℕ → Option Marks
with_mark set mark_names.Priority word = option_map (λ n. record set { priority = Some n }) (class_of word)
with_mark set mark_names.Mark word =
    option_map (λ n. record set { mark = Some n }) (number_between 0 4294967295 word)
with_mark set mark_names.Queue word =
    option_map (λ n. record set { queue = Some n }) (number_between 0 65535 word)

-- a mark and its value
abbrev pub mark_setting : Marks → List ℕ → List ℕ → Option Marks
mark_setting set name value = set_once is_marked with_mark set value (mark_name name)

-- skbedit needs one of its three
abbrev pub has_mark : Marks → Bool
has_mark set = is_some set.priority || is_some set.mark || is_some set.queue

-- what skbedit does if no control follows
abbrev pub mark_params : Marks → Params
mark_params set = params.Skbedit set.priority set.mark set.queue controls.Pipe

-- an action with its parameters
abbrev pub full_action : Params → Option ℕ → ActionLine
full_action given index = record { kind = kind_of given; index = index; params = Some given }

-- an action by its kind and index alone
abbrev pub named_action : Kind → ℕ → ActionLine
named_action kind index = record { kind = kind; index = Some index; params = None }
