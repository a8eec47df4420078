-- The grammar of a batch line: which lists of words are lines, and which edit each gives (tc(8),
-- tc-flower(8), tc-vlan(8), tc-skbedit(8), tc-actions(8), in this project's own selection).
--
-- A rule is a set of lists of words, and takes as its last argument but one what may follow it.
use Rattle.filter_state.specs.declared.limits.TheConstants.{LINE_ACTIONS_MAX}
use Rattle.std.specs.Prelude.{◌≡◌, ℕ, zero, suc, true, false, List, [], ◌∷◌, ◌++◌, Option, Some, None}
use Rattle.std.specs.Prelude.{is_some, IsSomeAnd, codes, ◌⊎◌}
use Rattle.std.specs.Str.{bytes_eq}
use Rattle.tc_base.specs.declared.hook.Hook.{Hook}
use Rattle.act_kinds.specs.declared.params.Kind.{Kind}
use Rattle.act_kinds.specs.declared.params.Kind.TheVariants as kinds
use Rattle.act_kinds.specs.declared.params.Control.{Control}
use Rattle.act_kinds.specs.declared.params.Control.TheVariants as controls
use Rattle.act_kinds.specs.declared.params.VlanOp.TheVariants as ops
use Rattle.act_kinds.specs.declared.params.Params.{Params}
use Rattle.act_kinds.specs.declared.params.Params.TheVariants as params
use Rattle.act_kinds.specs.Params.{with_control}
use Rattle.filter_state.specs.declared.action_line.ActionLine.{ActionLine}
use Rattle.filter_state.specs.declared.edit.Edit.{Edit}
use Rattle.filter_state.specs.declared.edit.Edit.TheVariants as edits
use Rattle.tc_batch.specs.declared.keywords.LineKind.{LineKind}
use Rattle.tc_batch.specs.declared.keywords.LineKind.TheVariants as lines
use Rattle.tc_batch.specs.declared.keywords.FilterVerb.{FilterVerb}
use Rattle.tc_batch.specs.declared.keywords.FilterVerb.TheVariants as filter_verbs
use Rattle.tc_batch.specs.declared.keywords.ActionVerb.{ActionVerb}
use Rattle.tc_batch.specs.declared.keywords.ActionVerb.TheVariants as action_verbs
use Rattle.tc_batch.specs.declared.action_keywords.Site.{Site}
use Rattle.tc_batch.specs.declared.action_keywords.Site.TheVariants as sites
use Rattle.tc_batch.specs.declared.action_keywords.ControlWord.{ControlWord}
use Rattle.tc_batch.specs.declared.action_keywords.ControlWord.TheVariants as control_words
use Rattle.tc_batch.specs.declared.action_keywords.VlanVerb.{VlanVerb}
use Rattle.tc_batch.specs.declared.action_keywords.VlanVerb.TheVariants as vlan_verbs
use Rattle.tc_batch.specs.declared.action_keywords.TagVerb.{TagVerb}
use Rattle.tc_batch.specs.declared.options.Options.{Options}
use Rattle.tc_batch.specs.declared.tag.Tag.{Tag}
use Rattle.tc_batch.specs.declared.marks.Marks.{Marks}
use Rattle.tc_batch.specs.declared.draft.Head.{Head}
use Rattle.tc_batch.specs.Keywords.{line_kind, qdisc_verb, filter_verb, action_verb, hook_word}
use Rattle.tc_batch.specs.ActionKeywords.{kind_word, control_word, vlan_verb}
use Rattle.tc_batch.specs.Options.{chain_number, index_number, no_options, option_setting, may_flower}
use Rattle.tc_batch.specs.Options.{may_end, qdisc_edit, del_edit}
use Rattle.tc_batch.specs.Fields.{field_setting, filter_head, filter_edit}
use Rattle.tc_batch.specs.Actions.{no_tag, tag_setting, tag_params, no_marks, mark_setting, has_mark}
use Rattle.tc_batch.specs.Actions.{mark_params, full_action, named_action}

-- this word, and then
abbrev pub Then : List ℕ → (List (List ℕ) → Type 0) → List (List ℕ) → Type 0
Then text More [] = ⊥
Then text More (word ∷ words) = (bytes_eq word text ≡ true) × More words

-- a word that says something, and then
abbrev pub Reads : {A : Type 0} → (List ℕ → Option A) → (A → List (List ℕ) → Type 0) → List (List ℕ) → Type 0
Reads says More [] = ⊥
Reads says More (word ∷ words) = IsSomeAnd (says word) (λ it. More it words)

-- the end of a line that gives this edit
abbrev pub Ends : Edit → Edit → List (List ℕ) → Type 0
Ends edit given words = (words ≡ []) × (edit ≡ given)

-- names with their values, each where it may stand, and then
abbrev pub Pairs : {S : Type 0} → (S → List ℕ → List ℕ → Option S) → (S → List (List ℕ) → Type 0) → S
    → List (List ℕ) → Type 0
Pairs sets More s [] = More s []
Pairs sets More s (word ∷ []) = More s (word ∷ [])
Pairs sets More s (name ∷ value ∷ words) = More s (name ∷ value ∷ words)
    ⊎ IsSomeAnd (sets s name value) (λ next. Pairs sets More next words)

-- [ "index" N ], and just "index" N in `actions change`
abbrev pub Tail : Site → (ActionLine → List (List ℕ) → Type 0) → Params → List (List ℕ) → Type 0
Tail sites.Change More given words =
    Then (codes "index") (Reads index_number (λ n. More (full_action given (Some n)))) words
Tail sites.Add More given words = More (full_action given None) words
    ⊎ Then (codes "index") (Reads index_number (λ n. More (full_action given (Some n)))) words
Tail sites.Filter More given words = More (full_action given None) words
    ⊎ Then (codes "index") (Reads index_number (λ n. More (full_action given (Some n)))) words

-- control = "ok" | "pass" | "drop" | .. | "jump" N | "goto" "chain" N: what follows its first word
abbrev pub ControlRest : Site → (Control → List (List ℕ) → Type 0) → ControlWord → List (List ℕ) → Type 0
ControlRest site More (control_words.Plain control) words = More control words
ControlRest site More control_words.Jump words = Reads chain_number (λ n. More (controls.Jump n)) words
ControlRest site More control_words.Goto words =
    Then (codes "chain") (Reads chain_number (λ n. More (controls.Goto n))) words

-- control
abbrev pub Controlled : Site → (Control → List (List ℕ) → Type 0) → List (List ℕ) → Type 0
Controlled site More words = Reads (control_word site) (ControlRest site More) words

-- control [ "index" N ], the control put into what the action does
abbrev pub ControlledBy : Site → (ActionLine → List (List ℕ) → Type 0) → Params → List (List ℕ) → Type 0
ControlledBy site More base words =
    Controlled site (λ control. Tail site More (with_control base control)) words

-- [ control ] [ "index" N ]
abbrev pub Placed : Site → (ActionLine → List (List ℕ) → Type 0) → Params → List (List ℕ) → Type 0
Placed site More base words = Tail site More base words ⊎ ControlledBy site More base words

-- behind the parts of a tag, which needs its id: [ control ] [ "index" N ]
abbrev pub AfterTag : Site → (ActionLine → List (List ℕ) → Type 0) → TagVerb → Tag → List (List ℕ) → Type 0
AfterTag site More verb tag words = (is_some tag.id ≡ true) × Placed site More (tag_params verb tag) words

-- behind the marks of skbedit, which needs one of its three: [ control ] [ "index" N ]
abbrev pub AfterMarks : Site → (ActionLine → List (List ℕ) → Type 0) → Marks → List (List ℕ) → Type 0
AfterMarks site More set words = (has_mark set ≡ true) × Placed site More (mark_params set) words

-- "push" { "id" N | "priority" N | "protocol" TPID } .., "modify" alike, or "pop" ..: what follows the verb
-- (tc-vlan(8))
abbrev pub VlanRest : Site → (ActionLine → List (List ℕ) → Type 0) → VlanVerb → List (List ℕ) → Type 0
VlanRest site More (vlan_verbs.Tagged verb) words = Pairs tag_setting (AfterTag site More verb) no_tag words
VlanRest site More vlan_verbs.Pop words = Placed site More (params.Vlan ops.Pop controls.Pipe) words

-- control [ "index" N ], behind "gact" or without it
abbrev pub GactRest : Site → (ActionLine → List (List ℕ) → Type 0) → List (List ℕ) → Type 0
GactRest site More words = ControlledBy site More (params.Gact controls.Accept) words

-- "index" N alone, behind the kind
abbrev pub Named : Kind → (ActionLine → List (List ℕ) → Type 0) → List (List ℕ) → Type 0
Named kind More words = Then (codes "index") (Reads index_number (λ n. More (named_action kind n))) words

-- an action in full: what follows its kind
abbrev pub KindRest : Site → (ActionLine → List (List ℕ) → Type 0) → Kind → List (List ℕ) → Type 0
KindRest site More kinds.Gact words = GactRest site More words
KindRest site More kinds.Vlan words = Reads vlan_verb (VlanRest site More) words
KindRest site More kinds.Skbedit words = Pairs mark_setting (AfterMarks site More) no_marks words

-- after the kind: only in a filter an action is named alone
abbrev pub AfterKind : Site → (ActionLine → List (List ℕ) → Type 0) → Kind → List (List ℕ) → Type 0
AfterKind sites.Filter More kind words = KindRest sites.Filter More kind words ⊎ Named kind More words
AfterKind sites.Add More kind words = KindRest sites.Add More kind words
AfterKind sites.Change More kind words = KindRest sites.Change More kind words

-- act = full | kind "index" N
abbrev pub Action : Site → (ActionLine → List (List ℕ) → Type 0) → List (List ℕ) → Type 0
Action site More words = GactRest site More words ⊎ Reads kind_word (AfterKind site More) words

-- { "action" act }, at most so many
abbrev pub ActionList : ℕ → Head → Edit → List ActionLine → List (List ℕ) → Type 0
ActionList zero head edit actions words = Ends edit (filter_edit head actions) words
ActionList (suc n) head edit actions words =
    Ends edit (filter_edit head actions) words
    ⊎ Then (codes "action")
    (Action sites.Filter (λ action. ActionList n head edit (actions ++ (action ∷ [])))) words

-- behind the fields of a filter: its actions, `LINE_ACTIONS_MAX` at most
abbrev pub AfterFields : Edit → Head → List (List ℕ) → Type 0
AfterFields edit head words = ActionList LINE_ACTIONS_MAX head edit [] words

-- behind "flower": fields and actions, or the end of a del
abbrev pub AfterFlower : FilterVerb → Hook → Options → Edit → List (List ℕ) → Type 0
AfterFlower filter_verbs.Add hook options edit words =
    Pairs field_setting (AfterFields edit) (filter_head false hook options) words
AfterFlower filter_verbs.Replace hook options edit words =
    Pairs field_setting (AfterFields edit) (filter_head true hook options) words
AfterFlower filter_verbs.Del hook options edit words = Ends edit (del_edit hook options) words

-- behind the options: the end of a del without handle, or "flower" where it may stand
abbrev pub AfterSettings : FilterVerb → Hook → Edit → Options → List (List ℕ) → Type 0
AfterSettings verb hook edit options words =
    ((may_end verb options ≡ true) × Ends edit (del_edit hook options) words)
    ⊎ ((may_flower verb options ≡ true) × Then (codes "flower") (AfterFlower verb hook options edit) words)

-- "filter" verb "dev" "eth0" hook options ..: what follows the verb (tc-flower(8))
abbrev pub FilterRest : Edit → FilterVerb → List (List ℕ) → Type 0
FilterRest edit verb words = Then (codes "dev")
    (Then (codes "eth0")
    (Reads hook_word (λ hook. Pairs option_setting (AfterSettings verb hook edit) no_options))) words

-- "actions" verb "action" ..: what follows "action" (tc-actions(8))
abbrev pub ActionsRest : Edit → ActionVerb → List (List ℕ) → Type 0
ActionsRest edit action_verbs.Add words =
    Action sites.Add (λ action. Ends edit (edits.ActionAdd action)) words
ActionsRest edit action_verbs.Change words =
    Action sites.Change (λ action. Ends edit (edits.ActionChange action)) words
ActionsRest edit action_verbs.Del words = Reads kind_word
    (λ kind. Then (codes "index") (Reads index_number (λ n. Ends edit (edits.ActionDel kind n)))) words

-- a line: what follows its first word
abbrev pub LineRest : Edit → LineKind → List (List ℕ) → Type 0
LineRest edit lines.Qdisc words = Reads qdisc_verb
    (λ verb. Then (codes "dev") (Then (codes "eth0") (Then (codes "clsact") (Ends edit (qdisc_edit verb)))))
    words
LineRest edit lines.Filter words = Reads filter_verb (FilterRest edit) words
LineRest edit lines.Actions words =
    Reads action_verb (λ verb. Then (codes "action") (ActionsRest edit verb)) words

-- the words are a line, and it gives this edit
abbrev pub Gives : List (List ℕ) → Edit → Type 0
Gives words edit = Reads line_kind (LineRest edit) words
