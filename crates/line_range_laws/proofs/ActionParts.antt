-- Tags, marks and controls of an action are in their ranges.
use Rattle.std.proofs.Common.{◌≡◌, ℕ, Bool, true, false, ◌^◌, ◌<◌, List, Option, Some, None, refl, arith, inl, inr}
use Rattle.std.specs.Prelude.{◌||◌, ◌⊎◌, is_some, IfSome, if◌then◌else◌, codes}
use Rattle.std.specs.Option.{unwrap_or}
use Rattle.std.specs.Str.{bytes_eq}
use Rattle.line_words.specs.Forms.{number_between, tpid_of, class_of}
use Rattle.act_kinds.specs.declared.params.Control.{Control}
use Rattle.act_kinds.specs.declared.params.Control.TheVariants as controls
use Rattle.act_kinds.specs.declared.params.Params.{Params}
use Rattle.act_kinds.specs.declared.params.Params.TheVariants as params
use Rattle.act_kinds.specs.Params.{with_control}
use Rattle.act_kinds.specs.Ranges.{IsTpid, IsVlanId, IsVlanPriority, IsControl, AreParams}
use Rattle.filter_state.specs.Lines.{control_of, GoesToNoChain}
use Rattle.tc_batch.specs.declared.action_keywords.Site.{Site}
use Rattle.tc_batch.specs.declared.action_keywords.Site.TheVariants as sites
use Rattle.tc_batch.specs.declared.action_keywords.ControlWord.{ControlWord}
use Rattle.tc_batch.specs.declared.action_keywords.ControlWord.TheVariants as control_words
use Rattle.tc_batch.specs.declared.action_keywords.TagVerb.{TagVerb}
use Rattle.tc_batch.specs.declared.action_keywords.TagVerb.TheVariants as tag_verbs
use Rattle.tc_batch.specs.declared.action_keywords.TagName.{TagName}
use Rattle.tc_batch.specs.declared.action_keywords.TagName.TheVariants as tag_names
use Rattle.tc_batch.specs.declared.action_keywords.MarkName.{MarkName}
use Rattle.tc_batch.specs.declared.action_keywords.MarkName.TheVariants as mark_names
use Rattle.tc_batch.specs.declared.tag.Tag.{Tag}
use Rattle.tc_batch.specs.declared.marks.Marks.{Marks}
use Rattle.tc_batch.specs.ActionKeywords.{goto_word, control_word, tag_name, mark_name}
use Rattle.tc_batch.specs.Actions.{no_tag, is_tagged, with_tag, tag_setting, tag_params, no_marks, is_marked, with_mark, mark_setting, has_mark, mark_params}
use Rattle.line_range_laws.proofs.Rules.{mapped, set_keeps}
use Rattle.line_range_laws.proofs.WordRanges.{vlan_id_range, vlan_priority_range, tag_protocol_range, mark_range, queue_range, priority_range}

-- the tag of vlan
pub record IsTag (tag : Tag) : Type 0 where
  pub id : IfSome tag.id IsVlanId
  pub priority : IfSome tag.priority IsVlanPriority
  pub protocol : IfSome tag.protocol IsTpid

pub none_tagged : IsTag no_tag
none_tagged = record { id = tt; priority = tt; protocol = tt }

tagged_more : (tag : Tag) (name : TagName) (word : List ℕ) (next : Tag) → IsTag tag → is_tagged tag name ≡ false → with_tag tag name word ≡ Some next → IsTag next
tagged_more tag tag_names.Id word next h free e = mapped (λ n. record tag { id = Some n }) (number_between 0 4094 word) IsTag (λ n is. record { id = vlan_id_range word n is; priority = h.priority; protocol = h.protocol }) next e
tagged_more tag tag_names.Priority word next h free e =
    mapped (λ n. record tag { priority = Some n }) (number_between 0 7 word) IsTag (λ n is. record { id = h.id; priority = vlan_priority_range word n is; protocol = h.protocol }) next e
tagged_more tag tag_names.Protocol word next h free e = mapped (λ n. record tag { protocol = Some n }) (tpid_of word) IsTag (λ n is. record { id = h.id; priority = h.priority; protocol = tag_protocol_range word n is }) next e

pub tag_kept : (tag : Tag) (name value : List ℕ) (next : Tag) → IsTag tag → tag_setting tag name value ≡ Some next → IsTag next
tag_kept tag name value next h e = set_keeps is_tagged with_tag IsTag tagged_more tag value (tag_name name) next h e

protocol_or_first : (protocol : Option ℕ) → IfSome protocol IsTpid → IsTpid (unwrap_or protocol 0x8100)
protocol_or_first None h = inl refl
protocol_or_first (Some n) h = h

id_or_zero : (id : Option ℕ) → IfSome id IsVlanId → IsVlanId (unwrap_or id 0)
id_or_zero None h = omega arith
id_or_zero (Some n) h = h

priority_or_zero : (priority : Option ℕ) → IfSome priority IsVlanPriority → IsVlanPriority (unwrap_or priority 0)
priority_or_zero None h = omega arith
priority_or_zero (Some n) h = h

-- the marks of skbedit
pub record IsMarked (set : Marks) : Type 0 where
  pub priority : IfSome set.priority (λ n. n < 2 ^ 32)
  pub mark : IfSome set.mark (λ n. n < 2 ^ 32)
  pub queue : IfSome set.queue (λ n. n < 2 ^ 16)

pub none_marked : IsMarked no_marks
none_marked = record { priority = tt; mark = tt; queue = tt }

marked_more : (set : Marks) (name : MarkName) (word : List ℕ) (next : Marks) → IsMarked set → is_marked set name ≡ false → with_mark set name word ≡ Some next → IsMarked next
marked_more set mark_names.Priority word next h free e = mapped (λ n. record set { priority = Some n }) (class_of word) IsMarked (λ n is. record { priority = priority_range word n is; mark = h.mark; queue = h.queue }) next e
marked_more set mark_names.Mark word next h free e = mapped (λ n. record set { mark = Some n }) (number_between 0 4294967295 word) IsMarked (λ n is. record { priority = h.priority; mark = mark_range word n is; queue = h.queue }) next e
marked_more set mark_names.Queue word next h free e = mapped (λ n. record set { queue = Some n }) (number_between 0 65535 word) IsMarked (λ n is. record { priority = h.priority; mark = h.mark; queue = queue_range word n is }) next e

pub mark_kept : (set : Marks) (name value : List ℕ) (next : Marks) → IsMarked set → mark_setting set name value ≡ Some next → IsMarked next
mark_kept set name value next h e = set_keeps is_marked with_mark IsMarked marked_more set value (mark_name name) next h e

some_mark : (a b c : Bool) → (a || b || c) ≡ true → (a ≡ true) ⊎ (b ≡ true) ⊎ (c ≡ true)
some_mark true b c e = inl refl
some_mark false true c e = inr (inl refl)
some_mark false false c e = inr (inr e)

-- controls: only in a filter one goes to a chain
abbrev pub GoesFrom : Site → Control → Type 0
GoesFrom sites.Filter control = Unit {0}
GoesFrom sites.Add control = GoesToNoChain control
GoesFrom sites.Change control = GoesToNoChain control

pub record IsControlAt (site : Site) (control : Control) : Type 0 where
  pub in_range : IsControl control
  pub goes : GoesFrom site control

abbrev pub MayGo : Site → Type 0
MayGo sites.Filter = Unit {0}
MayGo sites.Add = ⊥
MayGo sites.Change = ⊥

abbrev pub MayStand : Site → ControlWord → Type 0
MayStand site (control_words.Plain control) = IsControlAt site control
MayStand site control_words.Jump = Unit {0}
MayStand site control_words.Goto = MayGo site

pub stays : (site : Site) (control : Control) → GoesToNoChain control → GoesFrom site control
stays sites.Filter control h = tt
stays sites.Add control h = h
stays sites.Change control h = h

goto_stands : (site : Site) → IfSome (goto_word site) (MayStand site)
goto_stands sites.Filter = tt
goto_stands sites.Add = tt
goto_stands sites.Change = tt

either_word : (b : Bool) (site : Site) (here there : Option ControlWord) → IfSome here (MayStand site) → IfSome there (MayStand site) → IfSome (if b then here else there) (MayStand site)
either_word true site here there h more = h
either_word false site here there h more = more

plain_word : (b : Bool) (site : Site) (control : Control) (there : Option ControlWord) → IsControl control → GoesToNoChain control → IfSome there (MayStand site) → IfSome (if b then Some (control_words.Plain control) else there) (MayStand site)
plain_word b site control there is goes more = either_word b site (Some (control_words.Plain control)) there (record { in_range = is; goes = stays site control goes }) more

pub control_word_stands : (site : Site) (word : List ℕ) → IfSome (control_word site word) (MayStand site)
control_word_stands site word =
    either_word (bytes_eq word (codes "goto")) site (goto_word site) _ (goto_stands site)
    (plain_word (bytes_eq word (codes "ok")) site controls.Accept _ tt tt
    (plain_word (bytes_eq word (codes "pass")) site controls.Accept _ tt tt
    (plain_word (bytes_eq word (codes "drop")) site controls.Shot _ tt tt
    (plain_word (bytes_eq word (codes "shot")) site controls.Shot _ tt tt
    (plain_word (bytes_eq word (codes "continue")) site controls.Unspec _ tt tt
    (plain_word (bytes_eq word (codes "pipe")) site controls.Pipe _ tt tt
    (plain_word (bytes_eq word (codes "reclassify")) site controls.Reclassify _ tt tt
    (either_word (bytes_eq word (codes "jump")) site (Some control_words.Jump) None tt tt))))))))

-- parameters of an action that stands there
pub record AreParamsAt (site : Site) (given : Params) : Type 0 where
  pub params : AreParams given
  pub goes : GoesFrom site (control_of given)

pub gact_params : (site : Site) → AreParamsAt site (params.Gact controls.Accept)
gact_params site = record { params = tt; goes = stays site controls.Accept tt }

pub tag_in_range : (site : Site) (verb : TagVerb) (tag : Tag) → IsTag tag → AreParamsAt site (tag_params verb tag)
tag_in_range site tag_verbs.Push tag h =
    record { params = ((protocol_or_first tag.protocol h.protocol, id_or_zero tag.id h.id, priority_or_zero tag.priority h.priority), tt); goes = stays site controls.Pipe tt }
tag_in_range site tag_verbs.Modify tag h = record { params = ((protocol_or_first tag.protocol h.protocol, id_or_zero tag.id h.id, h.priority), tt); goes = stays site controls.Pipe tt }

pub marks_in_range : (site : Site) (set : Marks) → IsMarked set → has_mark set ≡ true → AreParamsAt site (mark_params set)
marks_in_range site set h some =
    record { params = ((some_mark (is_some set.priority) (is_some set.mark) (is_some set.queue) some, h.priority, h.mark, h.queue), tt); goes = stays site controls.Pipe tt }

pub controlled : (site : Site) (base : Params) (control : Control) → AreParamsAt site base → IsControlAt site control → AreParamsAt site (with_control base control)
controlled site (params.Gact old) control h is = record { params = is.in_range; goes = is.goes }
controlled site (params.Vlan op old) control h is = record { params = (h.params.0, is.in_range); goes = is.goes }
controlled site (params.Skbedit priority mark queue old) control h is = record { params = (h.params.0, is.in_range); goes = is.goes }
