-- Each state can be completed to a line.
use Rattle.std.proofs.Common.{◌≡◌, ◌∙◌, ℕ, zero, suc, Bool, true, false, List, [], ◌∷◌, ◌++◌, Option, Some, None, refl, sym, ap, subst, inl}
use Rattle.std.specs.Prelude.{◌&&◌, ◌||◌, is_some, if◌then◌else◌, codes, IsSomeAnd}
use Rattle.std.specs.Option.{option_map}
use Rattle.tc_words.specs.Numbers as numbers
use Rattle.tc_words.specs.Hexadecimal as hexadecimal
use Rattle.tc_words.specs.Addresses as addresses
use Rattle.tc_words.specs.MacAddresses as mac_addresses
use Rattle.line_words.specs.Forms as forms
use Rattle.tc_base.specs.declared.hook.Hook.TheVariants.{Ingress}
use Rattle.tc_base.specs.declared.hook.Proto.TheVariants.{All}
use Rattle.tc_base.specs.declared.hook.Hook.{Hook}
use Rattle.act_kinds.specs.declared.params.Kind.{Kind}
use Rattle.act_kinds.specs.declared.params.Kind.TheVariants as kinds
use Rattle.act_kinds.specs.declared.params.Control.TheVariants as controls
use Rattle.act_kinds.specs.declared.params.Params.{Params}
use Rattle.act_kinds.specs.declared.params.Params.TheVariants as params
use Rattle.act_kinds.specs.Params.{with_control}
use Rattle.filter_state.specs.declared.action_line.ActionLine.{ActionLine}
use Rattle.filter_state.specs.declared.edit.Edit.{Edit}
use Rattle.filter_state.specs.declared.edit.Edit.TheVariants as edits
use Rattle.tc_batch.specs.declared.keywords.QdiscVerb.{QdiscVerb}
use Rattle.tc_batch.specs.declared.keywords.QdiscVerb.TheVariants as qdisc_verbs
use Rattle.tc_batch.specs.declared.keywords.FilterVerb.{FilterVerb}
use Rattle.tc_batch.specs.declared.keywords.FilterVerb.TheVariants as filter_verbs
use Rattle.tc_batch.specs.declared.keywords.ActionVerb.{ActionVerb}
use Rattle.tc_batch.specs.declared.keywords.ActionVerb.TheVariants as action_verbs
use Rattle.tc_batch.specs.declared.keywords.OptionName.{OptionName}
use Rattle.tc_batch.specs.declared.keywords.OptionName.TheVariants as option_names
use Rattle.tc_batch.specs.declared.action_keywords.TagVerb.{TagVerb}
use Rattle.tc_batch.specs.declared.action_keywords.TagVerb.TheVariants as tag_verbs
use Rattle.tc_batch.specs.declared.action_keywords.TagName.{TagName}
use Rattle.tc_batch.specs.declared.action_keywords.TagName.TheVariants as tag_names
use Rattle.tc_batch.specs.declared.action_keywords.MarkName.{MarkName}
use Rattle.tc_batch.specs.declared.action_keywords.MarkName.TheVariants as mark_names
use Rattle.tc_batch.specs.declared.field_name.FieldName.{FieldName}
use Rattle.tc_batch.specs.declared.field_name.FieldName.TheVariants as names
use Rattle.tc_batch.specs.declared.options.Options.{Options}
use Rattle.tc_batch.specs.declared.fields.Fields.{Fields}
use Rattle.tc_batch.specs.declared.tag.Tag.{Tag}
use Rattle.tc_batch.specs.declared.marks.Marks.{Marks}
use Rattle.tc_batch.specs.declared.draft.Head.{Head}
use Rattle.tc_batch.specs.States.{Context, State}
use Rattle.tc_batch.specs.declared.stage.Place.{Place}
use Rattle.tc_batch.specs.declared.stage.Place.TheVariants as places
use Rattle.tc_batch.specs.States.{State}
use Rattle.tc_batch.specs.Options.{no_options, may_flower, qdisc_edit, del_edit}
use Rattle.tc_batch.specs.Fields.{filter_head, filter_edit, with_field}
use Rattle.tc_batch.specs.Actions.{no_tag, tag_params, no_marks, has_mark, mark_params, full_action, named_action}
use Rattle.tc_batch.specs.Grammar.{ActionList}
use Rattle.tc_batch.specs.Machine.{after_flower, acted, after_actions, next_state}
use Rattle.tc_batch.proofs.Languages.{Language}
use Rattle.tc_batch.proofs.WordSteps.{step_from}

-- some words complete the state to a line
abbrev pub Completes : State → Type 0
Completes state = (words : List (List ℕ)) × (edit : Edit) × Language edit state words

-- one word more in front
word_more : (state next : State) (word : List ℕ) → next_state state word ≡ Some next → Completes next → Completes state
word_more state next word is (words, edit, h) =
    (word ∷ words, edit, step_from edit state word words (subst (λ (o : Option State). IsSomeAnd o (λ s. Language edit s words)) (sym is) h))

list_done : (head : Head) (actions : List ActionLine) (more : ℕ) → ActionList more head (filter_edit head actions) actions []
list_done head actions zero = (refl, refl)
list_done head actions (suc more) = inl (refl, refl)

listed_alive : (head : Head) (actions : List ActionLine) (more : ℕ) → Completes (State.Listed head actions more)
listed_alive head actions more = ([], filter_edit head actions, list_done head actions more)

done_alive : (edit : Edit) → Completes (State.Done edit)
done_alive edit = ([], edit, (refl, refl))

acted_alive : (context : Context) (action : ActionLine) → Completes (acted context action)
acted_alive (Context.Filter head actions more) action = listed_alive head (actions ++ (action ∷ [])) more
acted_alive Context.Add action = done_alive (edits.ActionAdd action)
acted_alive Context.Change action = done_alive (edits.ActionChange action)

-- an action ends by "index 1"
full_alive : (context : Context) (given : Params) → Completes (State.Acting context (places.FullIndex given))
unfolding numbers.number_of numbers.decimal_of
full_alive context given = word_more (State.Acting context (places.FullIndex given)) (acted context (full_action given (Some 1))) (codes "1") refl (acted_alive context (full_action given (Some 1)))

whole_alive : (context : Context) (given : Params) → Completes (State.Acting context (places.Whole given))
whole_alive context given = word_more (State.Acting context (places.Whole given)) (State.Acting context (places.FullIndex given)) (codes "index") refl (full_alive context given)

ok_alive : (context : Context) → Completes (State.Acting context (places.Whole (params.Gact controls.Accept)))
ok_alive context = whole_alive context (params.Gact controls.Accept)

goto_alive : (context : Context) (base : Params) → Completes (State.Acting context (places.GotoNumber base))
unfolding numbers.number_of numbers.decimal_of
goto_alive context base = word_more (State.Acting context (places.GotoNumber base)) (State.Acting context (places.Whole (with_control base (controls.Goto 1)))) (codes "1") refl (whole_alive context (with_control base (controls.Goto 1)))

placed_alive : (context : Context) (base : Params) → Completes (State.Acting context (places.Placed base))
placed_alive context base = word_more (State.Acting context (places.Placed base)) (State.Acting context (places.FullIndex base)) (codes "index") refl (full_alive context base)

-- a tag with its id ends
id_alive : (context : Context) (verb : TagVerb) (tag : Tag) (id : Option ℕ) → tag.id ≡ id → Completes (State.Acting context (places.Tagging verb tag))
unfolding numbers.number_of numbers.decimal_of
id_alive context verb tag (Some n) is =
    word_more (State.Acting context (places.Tagging verb tag)) (State.Acting context (places.FullIndex (tag_params verb tag))) (codes "index")
    (ap (λ (o : Option ℕ). if is_some o then Some (State.Acting context (places.FullIndex (tag_params verb tag))) else None) is) (full_alive context (tag_params verb tag))
id_alive context verb tag None is =
    word_more (State.Acting context (places.Tagging verb tag)) (State.Acting context (places.TagValue verb tag tag_names.Id)) (codes "id")
    (ap (λ (o : Option ℕ). if is_some o then None else Some (State.Acting context (places.TagValue verb tag tag_names.Id))) is)
    (word_more (State.Acting context (places.TagValue verb tag tag_names.Id)) (State.Acting context (places.Tagging verb (record tag { id = Some 1 }))) (codes "1") refl
    (word_more (State.Acting context (places.Tagging verb (record tag { id = Some 1 }))) (State.Acting context (places.FullIndex (tag_params verb (record tag { id = Some 1 })))) (codes "index") refl
    (full_alive context (tag_params verb (record tag { id = Some 1 })))))

tag_alive : (context : Context) (verb : TagVerb) (tag : Tag) → Completes (State.Acting context (places.Tagging verb tag))
tag_alive context verb tag = id_alive context verb tag tag.id refl

tag_value_alive : (context : Context) (verb : TagVerb) (tag : Tag) (name : TagName) → Completes (State.Acting context (places.TagValue verb tag name))
unfolding numbers.number_of numbers.decimal_of forms.tpid_of
tag_value_alive context verb tag tag_names.Id = word_more (State.Acting context (places.TagValue verb tag tag_names.Id)) (State.Acting context (places.Tagging verb (record tag { id = Some 1 }))) (codes "1") refl (tag_alive context verb (record tag { id = Some 1 }))
tag_value_alive context verb tag tag_names.Priority = word_more (State.Acting context (places.TagValue verb tag tag_names.Priority)) (State.Acting context (places.Tagging verb (record tag { priority = Some 1 }))) (codes "1") refl (tag_alive context verb (record tag { priority = Some 1 }))
tag_value_alive context verb tag tag_names.Protocol = word_more (State.Acting context (places.TagValue verb tag tag_names.Protocol)) (State.Acting context (places.Tagging verb (record tag { protocol = Some 33024 }))) (codes "802.1Q") refl (tag_alive context verb (record tag { protocol = Some 33024 }))

marked_alive : (context : Context) (set : Marks) → has_mark set ≡ true → Completes (State.Acting context (places.Marking set))
marked_alive context set is =
    word_more (State.Acting context (places.Marking set)) (State.Acting context (places.FullIndex (mark_params set))) (codes "index")
    (ap (λ (b : Bool). if b then Some (State.Acting context (places.FullIndex (mark_params set))) else None) is) (full_alive context (mark_params set))

mark_value_alive : (context : Context) (set : Marks) (name : MarkName) → Completes (State.Acting context (places.MarkValue set name))
unfolding numbers.number_of numbers.decimal_of hexadecimal.hex_of forms.class_of
mark_value_alive context set mark_names.Priority = word_more (State.Acting context (places.MarkValue set mark_names.Priority)) (State.Acting context (places.Marking (record set { priority = Some 65537 }))) (codes "1:1") refl (marked_alive context (record set { priority = Some 65537 }) refl)
mark_value_alive context set mark_names.Mark = word_more (State.Acting context (places.MarkValue set mark_names.Mark)) (State.Acting context (places.Marking (record set { mark = Some 1 }))) (codes "1") refl (marked_alive context (record set { mark = Some 1 }) (has-second (is_some set.priority) (is_some set.queue)))
  where
    has-second : (a c : Bool) → (a || true || c) ≡ true
    has-second true c = refl
    has-second false c = refl
mark_value_alive context set mark_names.Queue = word_more (State.Acting context (places.MarkValue set mark_names.Queue)) (State.Acting context (places.Marking (record set { queue = Some 1 }))) (codes "1") refl (marked_alive context (record set { queue = Some 1 }) (has-third (is_some set.priority) (is_some set.mark)))
  where
    has-third : (a b : Bool) → (a || b || true) ≡ true
    has-third true b = refl
    has-third false true = refl
    has-third false false = refl

mark_alive : (context : Context) (set : Marks) (priority : Option ℕ) → set.priority ≡ priority → Completes (State.Acting context (places.Marking set))
mark_alive context set (Some n) is = marked_alive context set (has-first (is_some set.priority) (is_some set.mark) (is_some set.queue) (ap (λ (o : Option ℕ). is_some o) is))
  where
    has-first : (a b c : Bool) → a ≡ true → (a || b || c) ≡ true
    has-first true b c h = refl
    has-first false b c h = absurd (cc h)
mark_alive context set None is =
    word_more (State.Acting context (places.Marking set)) (State.Acting context (places.MarkValue set mark_names.Priority)) (codes "priority")
    (ap (λ (o : Option ℕ). if is_some o then None else Some (State.Acting context (places.MarkValue set mark_names.Priority))) is) (mark_value_alive context set mark_names.Priority)

kinded_alive : (context : Context) (kind : Kind) → Completes (State.Acting context (places.Kinded kind))
kinded_alive context kinds.Gact = word_more (State.Acting context (places.Kinded kinds.Gact)) (State.Acting context (places.Whole (params.Gact controls.Accept))) (codes "ok") refl (ok_alive context)
kinded_alive context kinds.Vlan = word_more (State.Acting context (places.Kinded kinds.Vlan)) (State.Acting context (places.Tagging tag_verbs.Push no_tag)) (codes "push") refl (tag_alive context tag_verbs.Push no_tag)
kinded_alive context kinds.Skbedit = word_more (State.Acting context (places.Kinded kinds.Skbedit)) (State.Acting context (places.MarkValue no_marks mark_names.Priority)) (codes "priority") refl (mark_value_alive context no_marks mark_names.Priority)

place_alive : (context : Context) (place : Place) → Completes (State.Acting context place)
unfolding numbers.number_of numbers.decimal_of
place_alive context places.Begun = word_more (State.Acting context places.Begun) (State.Acting context (places.Whole (params.Gact controls.Accept))) (codes "ok") refl (ok_alive context)
place_alive context (places.Kinded kind) = kinded_alive context kind
place_alive context (places.Tagging verb tag) = tag_alive context verb tag
place_alive context (places.TagValue verb tag name) = tag_value_alive context verb tag name
place_alive context (places.Marking set) = mark_alive context set set.priority refl
place_alive context (places.MarkValue set name) = mark_value_alive context set name
place_alive context (places.Placed base) = placed_alive context base
place_alive context (places.JumpNumber base) = word_more (State.Acting context (places.JumpNumber base)) (State.Acting context (places.Whole (with_control base (controls.Jump 1)))) (codes "1") refl (whole_alive context (with_control base (controls.Jump 1)))
place_alive context (places.GotoChain base) = word_more (State.Acting context (places.GotoChain base)) (State.Acting context (places.GotoNumber base)) (codes "chain") refl (goto_alive context base)
place_alive context (places.GotoNumber base) = goto_alive context base
place_alive context (places.Whole given) = whole_alive context given
place_alive context (places.FullIndex given) = full_alive context given
place_alive context (places.NamedIndex kind) = word_more (State.Acting context (places.NamedIndex kind)) (acted context (named_action kind 1)) (codes "1") refl (acted_alive context (named_action kind 1))

fields_alive : (head : Head) → Completes (State.Fielding head)
fields_alive head = ([], filter_edit head [], list_done head [] 16)

-- a word that is a value of the field
field_alive : (head : Head) (name : FieldName) (word : List ℕ) (fields : Fields) → with_field head.fields name word ≡ Some fields → Completes (State.FieldValue head name)
field_alive head name word fields is =
    word_more (State.FieldValue head name) (State.Fielding (record head { fields = fields })) word
    (ap (λ (o : Option Fields). option_map State.Fielding (option_map (λ f. record head { fields = f }) o)) is) (fields_alive (record head { fields = fields }))

field_value_alive : (head : Head) (name : FieldName) → Completes (State.FieldValue head name)
unfolding numbers.number_of numbers.decimal_of hexadecimal.hex_of hexadecimal.marked_hex_of addresses.address_of addresses.ipv4_of mac_addresses.mac_address_of mac_addresses.mac_of forms.ether_type_of forms.ip_protocol_of forms.masked_hex_of forms.masked_octet_of
field_value_alive head names.DstMac = field_alive head names.DstMac (codes "00:00:00:00:00:00") _ refl
field_value_alive head names.SrcMac = field_alive head names.SrcMac (codes "00:00:00:00:00:00") _ refl
field_value_alive head names.VlanId = field_alive head names.VlanId (codes "1") _ refl
field_value_alive head names.VlanPrio = field_alive head names.VlanPrio (codes "1") _ refl
field_value_alive head names.VlanEthtype = field_alive head names.VlanEthtype (codes "ip") _ refl
field_value_alive head names.IpProto = field_alive head names.IpProto (codes "tcp") _ refl
field_value_alive head names.SrcIp = field_alive head names.SrcIp (codes "0.0.0.0") _ refl
field_value_alive head names.DstIp = field_alive head names.DstIp (codes "0.0.0.0") _ refl
field_value_alive head names.SrcPort = field_alive head names.SrcPort (codes "1") _ refl
field_value_alive head names.DstPort = field_alive head names.DstPort (codes "1") _ refl
field_value_alive head names.TcpFlags = field_alive head names.TcpFlags (codes "1") _ refl
field_value_alive head names.CvlanId = field_alive head names.CvlanId (codes "1") _ refl
field_value_alive head names.CvlanPrio = field_alive head names.CvlanPrio (codes "1") _ refl
field_value_alive head names.CvlanEthtype = field_alive head names.CvlanEthtype (codes "ip") _ refl
field_value_alive head names.IpTos = field_alive head names.IpTos (codes "1") _ refl
field_value_alive head names.IpTtl = field_alive head names.IpTtl (codes "1") _ refl

-- after `flower` the line may end
after_alive : (verb : FilterVerb) (hook : Hook) (options : Options) → Completes (after_flower verb hook options)
after_alive filter_verbs.Add hook options = fields_alive (filter_head false hook options)
after_alive filter_verbs.Replace hook options = fields_alive (filter_head true hook options)
after_alive filter_verbs.Del hook options = done_alive (del_edit hook options)

flower_alive : (verb : FilterVerb) (hook : Hook) (options : Options) → may_flower verb options ≡ true → Completes (State.Settings verb hook options)
flower_alive verb hook options may =
    word_more (State.Settings verb hook options) (after_flower verb hook options) (codes "flower") (ap (λ (b : Bool). if b then Some (after_flower verb hook options) else None) may) (after_alive verb hook options)

pref_first : (verb : FilterVerb) (hook : Hook) (options : Options) (pref : Option ℕ) → options.pref ≡ pref
    → ((more : Options) → is_some more.pref ≡ true → more.handle ≡ options.handle → Completes (State.Settings verb hook more)) → Completes (State.Settings verb hook options)
unfolding numbers.number_of numbers.decimal_of
pref_first verb hook options (Some n) is go = go options (ap (λ (x : Option ℕ). is_some x) is) refl
pref_first verb hook options None is go =
    word_more (State.Settings verb hook options) (State.SettingValue verb hook options option_names.Pref) (codes "pref") (ap (λ (x : Option ℕ). if is_some x then None else Some (State.SettingValue verb hook options option_names.Pref)) is)
    (word_more (State.SettingValue verb hook options option_names.Pref) (State.Settings verb hook (record options { pref = Some 1 })) (codes "1") refl (go (record options { pref = Some 1 }) refl refl))

handle_first : (verb : FilterVerb) (hook : Hook) (options : Options) (handle : Option ℕ) → options.handle ≡ handle
    → ((more : Options) → is_some more.handle ≡ true → more.pref ≡ options.pref → Completes (State.Settings verb hook more)) → Completes (State.Settings verb hook options)
unfolding numbers.number_of numbers.decimal_of
handle_first verb hook options (Some n) is go = go options (ap (λ (x : Option ℕ). is_some x) is) refl
handle_first verb hook options None is go =
    word_more (State.Settings verb hook options) (State.SettingValue verb hook options option_names.Handle) (codes "handle") (ap (λ (x : Option ℕ). if is_some x then None else Some (State.SettingValue verb hook options option_names.Handle)) is)
    (word_more (State.SettingValue verb hook options option_names.Handle) (State.Settings verb hook (record options { handle = Some 1 })) (codes "1") refl (go (record options { handle = Some 1 }) refl refl))

both : (a b : Bool) → a ≡ true → b ≡ true → (a && b) ≡ true
both true true p q = refl
both true false p q = q
both false b p q = p

settings_alive : (verb : FilterVerb) (hook : Hook) (options : Options) → Completes (State.Settings verb hook options)
settings_alive filter_verbs.Add hook options = flower_alive filter_verbs.Add hook options refl
settings_alive filter_verbs.Replace hook options =
    pref_first filter_verbs.Replace hook options options.pref refl
    (λ more p h. handle_first filter_verbs.Replace hook more more.handle refl (λ last l q. flower_alive filter_verbs.Replace hook last (both (is_some last.pref) (is_some last.handle) (ap (λ (x : Option ℕ). is_some x) q ∙ p) l)))
settings_alive filter_verbs.Del hook options = pref_first filter_verbs.Del hook options options.pref refl (λ more p h. flower_alive filter_verbs.Del hook more p)

value_alive : (verb : FilterVerb) (hook : Hook) (options : Options) (name : OptionName) → Completes (State.SettingValue verb hook options name)
unfolding numbers.number_of numbers.decimal_of forms.protocol_of
value_alive verb hook options option_names.Protocol = word_more (State.SettingValue verb hook options option_names.Protocol) (State.Settings verb hook (record options { protocol = Some All })) (codes "all") refl (settings_alive verb hook (record options { protocol = Some All }))
value_alive verb hook options option_names.Pref = word_more (State.SettingValue verb hook options option_names.Pref) (State.Settings verb hook (record options { pref = Some 1 })) (codes "1") refl (settings_alive verb hook (record options { pref = Some 1 }))
value_alive verb hook options option_names.Chain = word_more (State.SettingValue verb hook options option_names.Chain) (State.Settings verb hook (record options { chain = Some 1 })) (codes "1") refl (settings_alive verb hook (record options { chain = Some 1 }))
value_alive verb hook options option_names.Handle = word_more (State.SettingValue verb hook options option_names.Handle) (State.Settings verb hook (record options { handle = Some 1 })) (codes "1") refl (settings_alive verb hook (record options { handle = Some 1 }))

clsact_alive : (verb : QdiscVerb) → Completes (State.QdiscClsact verb)
clsact_alive verb = word_more (State.QdiscClsact verb) (State.Done (qdisc_edit verb)) (codes "clsact") refl (done_alive (qdisc_edit verb))

name_alive : (verb : QdiscVerb) → Completes (State.QdiscName verb)
name_alive verb = word_more (State.QdiscName verb) (State.QdiscClsact verb) (codes "eth0") refl (clsact_alive verb)

dev_alive : (verb : QdiscVerb) → Completes (State.QdiscDev verb)
dev_alive verb = word_more (State.QdiscDev verb) (State.QdiscName verb) (codes "dev") refl (name_alive verb)

hook_alive : (verb : FilterVerb) → Completes (State.FilterHook verb)
hook_alive verb = word_more (State.FilterHook verb) (State.Settings verb Ingress no_options) (codes "ingress") refl (settings_alive verb Ingress no_options)

filter_name_alive : (verb : FilterVerb) → Completes (State.FilterName verb)
filter_name_alive verb = word_more (State.FilterName verb) (State.FilterHook verb) (codes "eth0") refl (hook_alive verb)

filter_dev_alive : (verb : FilterVerb) → Completes (State.FilterDev verb)
filter_dev_alive verb = word_more (State.FilterDev verb) (State.FilterName verb) (codes "dev") refl (filter_name_alive verb)

number_alive : (kind : Kind) → Completes (State.DelNumber kind)
unfolding numbers.number_of numbers.decimal_of
number_alive kind = word_more (State.DelNumber kind) (State.Done (edits.ActionDel kind 1)) (codes "1") refl (done_alive (edits.ActionDel kind 1))

index_alive : (kind : Kind) → Completes (State.DelIndex kind)
index_alive kind = word_more (State.DelIndex kind) (State.DelNumber kind) (codes "index") refl (number_alive kind)

kind_alive : Completes State.DelKind
kind_alive = word_more State.DelKind (State.DelIndex kinds.Gact) (codes "gact") refl (index_alive kinds.Gact)

verb_alive : (verb : ActionVerb) → Completes (after_actions verb)
verb_alive action_verbs.Add = place_alive Context.Add places.Begun
verb_alive action_verbs.Change = place_alive Context.Change places.Begun
verb_alive action_verbs.Del = kind_alive

action_alive : (verb : ActionVerb) → Completes (State.ActionsAction verb)
action_alive verb = word_more (State.ActionsAction verb) (after_actions verb) (codes "action") refl (verb_alive verb)

qdisc_alive : Completes State.Qdisc
qdisc_alive = word_more State.Qdisc (State.QdiscDev qdisc_verbs.Add) (codes "add") refl (dev_alive qdisc_verbs.Add)

pub alive : (state : State) → Completes state
alive State.Start = word_more State.Start State.Qdisc (codes "qdisc") refl qdisc_alive
alive State.Qdisc = qdisc_alive
alive (State.QdiscDev verb) = dev_alive verb
alive (State.QdiscName verb) = name_alive verb
alive (State.QdiscClsact verb) = clsact_alive verb
alive State.FilterLine = word_more State.FilterLine (State.FilterDev filter_verbs.Add) (codes "add") refl (filter_dev_alive filter_verbs.Add)
alive (State.FilterDev verb) = filter_dev_alive verb
alive (State.FilterName verb) = filter_name_alive verb
alive (State.FilterHook verb) = hook_alive verb
alive (State.Settings verb hook options) = settings_alive verb hook options
alive (State.SettingValue verb hook options name) = value_alive verb hook options name
alive (State.Fielding head) = fields_alive head
alive (State.FieldValue head name) = field_value_alive head name
alive (State.Listed head actions more) = listed_alive head actions more
alive (State.Acting context place) = place_alive context place
alive State.Actions = word_more State.Actions (State.ActionsAction action_verbs.Add) (codes "add") refl (action_alive action_verbs.Add)
alive (State.ActionsAction verb) = action_alive verb
alive State.DelKind = kind_alive
alive (State.DelIndex kind) = index_alive kind
alive (State.DelNumber kind) = number_alive kind
alive (State.Done edit) = done_alive edit
