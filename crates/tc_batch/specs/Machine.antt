-- The reading of a line word by word: the state after each word, and the edit of a line that ends in a state.
use Rattle.filter_state.specs.declared.limits.TheConstants.{LINE_ACTIONS_MAX}
use Rattle.std.specs.Prelude.{ℕ, ◌-◌, Bool, true, false, List, [], ◌∷◌, ◌++◌, Option, Some, None, is_some}
use Rattle.std.specs.Prelude.{codes, if◌then◌else◌, ◌==◌}
use Rattle.std.specs.Option.{option_map, option_and_then}
use Rattle.std.specs.Str.{bytes_eq}
use Rattle.tc_base.specs.declared.hook.Hook.{Hook}
use Rattle.act_kinds.specs.declared.params.Kind.{Kind}
use Rattle.act_kinds.specs.declared.params.Kind.TheVariants as kinds
use Rattle.act_kinds.specs.declared.params.Control.TheVariants as controls
use Rattle.act_kinds.specs.declared.params.VlanOp.TheVariants as ops
use Rattle.act_kinds.specs.declared.params.Params.{Params}
use Rattle.act_kinds.specs.declared.params.Params.TheVariants as params
use Rattle.act_kinds.specs.Params.{with_control}
use Rattle.filter_state.specs.declared.action_line.ActionLine.{ActionLine}
use Rattle.filter_state.specs.declared.edit.Edit.{Edit}
use Rattle.filter_state.specs.declared.edit.Edit.TheVariants as edits
use Rattle.tc_batch.specs.declared.keywords.LineKind.{LineKind}
use Rattle.tc_batch.specs.declared.keywords.LineKind.TheVariants as lines
use Rattle.tc_batch.specs.declared.keywords.FilterVerb.{FilterVerb}
use Rattle.tc_batch.specs.declared.keywords.FilterVerb.TheVariants as filter_verbs
use Rattle.tc_batch.specs.declared.keywords.ActionVerb.{ActionVerb}
use Rattle.tc_batch.specs.declared.keywords.ActionVerb.TheVariants as action_verbs
use Rattle.tc_batch.specs.declared.action_keywords.Site.{Site}
use Rattle.tc_batch.specs.declared.action_keywords.Site.TheVariants as sites
use Rattle.tc_batch.specs.declared.action_keywords.ControlWord.{ControlWord}
use Rattle.tc_batch.specs.declared.action_keywords.ControlWord.TheVariants as control_words
use Rattle.tc_batch.specs.declared.action_keywords.VlanVerb.{VlanVerb}
use Rattle.tc_batch.specs.declared.action_keywords.VlanVerb.TheVariants as vlan_verbs
use Rattle.tc_batch.specs.declared.action_keywords.TagVerb.{TagVerb}
use Rattle.tc_batch.specs.declared.options.Options.{Options}
use Rattle.tc_batch.specs.declared.tag.Tag.{Tag}
use Rattle.tc_batch.specs.declared.marks.Marks.{Marks}
use Rattle.tc_batch.specs.declared.draft.Head.{Head}
use Rattle.tc_batch.specs.States.{Context, State}
use Rattle.tc_batch.specs.declared.stage.Place.{Place}
use Rattle.tc_batch.specs.declared.stage.Place.TheVariants as places
use Rattle.tc_batch.specs.States.{State}
use Rattle.tc_batch.specs.Keywords.{line_kind, qdisc_verb, filter_verb, action_verb, hook_word, option_name}
use Rattle.tc_batch.specs.ActionKeywords.{kind_word, control_word, vlan_verb, tag_name, mark_name}
use Rattle.tc_batch.specs.FieldNames.{field_name}
use Rattle.tc_batch.specs.Options.{chain_number, index_number, no_options, is_given, with_option, may_flower}
use Rattle.tc_batch.specs.Options.{may_end, qdisc_edit, del_edit}
use Rattle.tc_batch.specs.Fields.{head_refuses, head_takes, filter_head, filter_edit}
use Rattle.tc_batch.specs.Actions.{no_tag, is_tagged, with_tag, tag_params, no_marks, is_marked, with_mark}
use Rattle.tc_batch.specs.Actions.{has_mark, mark_params, full_action, named_action}

-- the next state after one fixed word
abbrev pub on_text : List ℕ → State → List ℕ → Option State
on_text text next word = if bytes_eq word text then Some next else None

-- where an action stands, by its line
abbrev pub site_of : Context → Site
site_of (Context.Filter head actions more) = sites.Filter
site_of Context.Add = sites.Add
site_of Context.Change = sites.Change

-- the state after the first word of a line
abbrev pub after_kind : LineKind → State
after_kind lines.Qdisc = State.Qdisc
after_kind lines.Filter = State.FilterLine
after_kind lines.Actions = State.Actions

-- the state after `flower`
abbrev pub after_flower : FilterVerb → Hook → Options → State
after_flower filter_verbs.Add hook options = State.Fielding (filter_head false hook options)
after_flower filter_verbs.Replace hook options = State.Fielding (filter_head true hook options)
after_flower filter_verbs.Del hook options = State.Done (del_edit hook options)

-- a name that may stand waits for its value
abbrev pub on_name : {N : Type 0} → (N → Bool) → (N → State) → Option State → Option N → Option State
on_name refuses waits other None = other
on_name refuses waits other (Some name) = if refuses name then None else Some (waits name)

-- `flower`, where it may stand
abbrev pub on_flower : FilterVerb → Hook → Options → List ℕ → Option State
on_flower verb hook options word = if may_flower verb options
    then on_text (codes "flower") (after_flower verb hook options) word else None

-- a word behind the hook: the name of an option, or `flower`
abbrev pub on_setting : FilterVerb → Hook → Options → List ℕ → Option State
on_setting verb hook options word = on_name (is_given options) (State.SettingValue verb hook options)
    (on_flower verb hook options word) (option_name word)

-- the state after a whole action
abbrev pub acted : Context → ActionLine → State
acted (Context.Filter head actions more) action = State.Listed head (actions ++ (action ∷ [])) more
acted Context.Add action = State.Done (edits.ActionAdd action)
acted Context.Change action = State.Done (edits.ActionChange action)

-- `action`, where so many may come
abbrev pub on_listed : Head → List ActionLine → ℕ → List ℕ → Option State
on_listed head actions more word =
    if more == 0 then None
    else on_text (codes "action") (State.Acting (Context.Filter head actions (more - 1)) places.Begun) word

-- a word behind `flower`: the name of a field, or `action`
abbrev pub on_field : Head → List ℕ → Option State
on_field head word =
    on_name (head_refuses head) (State.FieldValue head) (on_listed head [] LINE_ACTIONS_MAX word) (field_name word)

-- the state after the first word of a control
abbrev pub after_control : Context → Params → ControlWord → State
after_control context base (control_words.Plain control) =
    State.Acting context (places.Whole (with_control base control))
after_control context base control_words.Jump = State.Acting context (places.JumpNumber base)
after_control context base control_words.Goto = State.Acting context (places.GotoChain base)

-- a word where a control has to stand
abbrev pub on_control : Context → Params → List ℕ → Option State
on_control context base word = option_map (after_control context base) (control_word (site_of context) word)

-- only in a filter an action is named alone
abbrev pub may_name : Context → Bool
may_name (Context.Filter head actions more) = true
may_name Context.Add = false
may_name Context.Change = false

-- a word that ends an action without index: the next `action` of a filter
abbrev pub after_whole : Context → Params → List ℕ → Option State
after_whole (Context.Filter head actions more) given word =
    on_listed head (actions ++ (full_action given None ∷ [])) more word
after_whole Context.Add given word = None
after_whole Context.Change given word = None

-- a control, or a word that ends the action
abbrev pub after_placed : Context → Params → List ℕ → Option ControlWord → Option State
after_placed context base word None = after_whole context base word
after_placed context base word (Some it) = Some (after_control context base it)

-- a word behind the parts of an action: `index`, a control, or a word that ends the action
abbrev pub on_placed : Context → Params → List ℕ → Option State
on_placed context base word = if bytes_eq word (codes "index")
    then Some (State.Acting context (places.FullIndex base))
    else after_placed context base word (control_word (site_of context) word)

-- a word behind push or modify: the name of a part of the tag, or what may follow once it has its id
abbrev pub on_tagging : Context → TagVerb → Tag → List ℕ → Option State
on_tagging context verb tag word = on_name (is_tagged tag)
    (λ n. State.Acting context (places.TagValue verb tag n)) (if is_some tag.id
    then on_placed context (tag_params verb tag) word else None) (tag_name word)

-- a word behind skbedit: the name of a mark, or what may follow once there is one
abbrev pub on_marking : Context → Marks → List ℕ → Option State
on_marking context set word = on_name (is_marked set) (λ n. State.Acting context (places.MarkValue set n))
    (if has_mark set then on_placed context (mark_params set) word else None) (mark_name word)

-- the state after the verb of vlan
abbrev pub after_vlan : Context → VlanVerb → State
after_vlan context (vlan_verbs.Tagged verb) = State.Acting context (places.Tagging verb no_tag)
after_vlan context vlan_verbs.Pop = State.Acting context (places.Placed (params.Vlan ops.Pop controls.Pipe))

-- a word behind the kind of an action in full
abbrev pub on_kind : Context → Kind → List ℕ → Option State
on_kind context kinds.Gact word = on_control context (params.Gact controls.Accept) word
on_kind context kinds.Vlan word = option_map (after_vlan context) (vlan_verb word)
on_kind context kinds.Skbedit word = on_marking context no_marks word

-- a word behind the kind: `index` alone in a filter, or what an action in full goes on with
abbrev pub on_kinded : Context → Kind → List ℕ → Option State
on_kinded context kind word = if bytes_eq word (codes "index")
    then (if may_name context then Some (State.Acting context (places.NamedIndex kind)) else None)
    else on_kind context kind word

-- a word behind `action`: a kind, or the control of gact
abbrev pub on_begun : Context → List ℕ → Option Kind → Option State
on_begun context word (Some kind) = Some (State.Acting context (places.Kinded kind))
on_begun context word None = on_control context (params.Gact controls.Accept) word

-- a word of an action
abbrev pub on_acting : Context → Place → List ℕ → Option State
on_acting context places.Begun word = on_begun context word (kind_word word)
on_acting context (places.Kinded kind) word = on_kinded context kind word
on_acting context (places.Tagging verb tag) word = on_tagging context verb tag word
on_acting context (places.TagValue verb tag name) word =
    option_map (λ t. State.Acting context (places.Tagging verb t)) (with_tag tag name word)
on_acting context (places.Marking set) word = on_marking context set word
on_acting context (places.MarkValue set name) word =
    option_map (λ t. State.Acting context (places.Marking t)) (with_mark set name word)
on_acting context (places.Placed base) word = on_placed context base word
on_acting context (places.JumpNumber base) word = option_map
    (λ n. State.Acting context (places.Whole (with_control base (controls.Jump n)))) (chain_number word)
on_acting context (places.GotoChain base) word =
    on_text (codes "chain") (State.Acting context (places.GotoNumber base)) word
on_acting context (places.GotoNumber base) word = option_map
    (λ n. State.Acting context (places.Whole (with_control base (controls.Goto n)))) (chain_number word)
on_acting context (places.Whole given) word = if bytes_eq word (codes "index")
    then Some (State.Acting context (places.FullIndex given)) else after_whole context given word
on_acting context (places.FullIndex given) word =
    option_map (λ n. acted context (full_action given (Some n))) (index_number word)
on_acting context (places.NamedIndex kind) word =
    option_map (λ n. acted context (named_action kind n)) (index_number word)

-- the state after `action` of an actions line
abbrev pub after_actions : ActionVerb → State
after_actions action_verbs.Add = State.Acting Context.Add places.Begun
after_actions action_verbs.Change = State.Acting Context.Change places.Begun
after_actions action_verbs.Del = State.DelKind

-- the state after one word more, or none where no line goes on so
abbrev pub next_state : State → List ℕ → Option State
next_state State.Start word = option_map after_kind (line_kind word)
next_state State.Qdisc word = option_map State.QdiscDev (qdisc_verb word)
next_state (State.QdiscDev verb) word = on_text (codes "dev") (State.QdiscName verb) word
next_state (State.QdiscName verb) word = on_text (codes "eth0") (State.QdiscClsact verb) word
next_state (State.QdiscClsact verb) word = on_text (codes "clsact") (State.Done (qdisc_edit verb)) word
next_state State.FilterLine word = option_map State.FilterDev (filter_verb word)
next_state (State.FilterDev verb) word = on_text (codes "dev") (State.FilterName verb) word
next_state (State.FilterName verb) word = on_text (codes "eth0") (State.FilterHook verb) word
next_state (State.FilterHook verb) word =
    option_map (λ hook. State.Settings verb hook no_options) (hook_word word)
next_state (State.Settings verb hook options) word = on_setting verb hook options word
next_state (State.SettingValue verb hook options name) word =
    option_map (State.Settings verb hook) (with_option options name word)
next_state (State.Fielding head) word = on_field head word
next_state (State.FieldValue head name) word = option_map State.Fielding (head_takes head name word)
next_state (State.Listed head actions more) word = on_listed head actions more word
next_state (State.Acting context place) word = on_acting context place word
next_state State.Actions word = option_map State.ActionsAction (action_verb word)
next_state (State.ActionsAction verb) word = on_text (codes "action") (after_actions verb) word
next_state State.DelKind word = option_map State.DelIndex (kind_word word)
next_state (State.DelIndex kind) word = on_text (codes "index") (State.DelNumber kind) word
next_state (State.DelNumber kind) word =
    option_map (λ n. State.Done (edits.ActionDel kind n)) (index_number word)
next_state (State.Done edit) word = None

-- the edit of a line that ends with an action without index
abbrev pub ends_action : Context → Params → Option Edit
ends_action (Context.Filter head actions more) given =
    Some (filter_edit head (actions ++ (full_action given None ∷ [])))
ends_action Context.Add given = Some (edits.ActionAdd (full_action given None))
ends_action Context.Change given = None

-- the edit of a line that ends in an action
abbrev pub ends_place : Context → Place → Option Edit
ends_place context (places.Whole given) = ends_action context given
ends_place context (places.Placed given) = ends_action context given
ends_place context (places.Tagging verb tag) = if is_some tag.id
    then ends_action context (tag_params verb tag) else None
ends_place context (places.Marking set) = if has_mark set then ends_action context (mark_params set) else None
ends_place context place = None

-- the edit of a line that ends in a state
abbrev pub edit_at : State → Option Edit
edit_at (State.Done edit) = Some edit
edit_at (State.Settings verb hook options) = if may_end verb options then Some (del_edit hook options)
    else None
edit_at (State.Fielding head) = Some (filter_edit head [])
edit_at (State.Listed head actions more) = Some (filter_edit head actions)
edit_at (State.Acting context place) = ends_place context place
edit_at state = None

-- the state after some words
abbrev pub run : State → List (List ℕ) → Option State
run state [] = Some state
run state (word ∷ words) = option_and_then (λ next. run next words) (next_state state word)
