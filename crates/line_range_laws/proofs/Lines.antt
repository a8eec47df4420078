-- Each line gives an edit in its ranges.
use Rattle.std.proofs.Common.{◌≡◌, ℕ, zero, suc, ◌+◌, ◌≤◌, Bool, true, false, List, [], ◌∷◌, ◌++◌, length, length-append, Some, refl, sym, subst, arith, inl, inr}
use Rattle.std.specs.Prelude.{codes, is_some, if◌then◌else◌}
use Rattle.tc_base.specs.declared.hook.Hook.{Hook}
use Rattle.filter_state.specs.declared.action_line.ActionLine.{ActionLine}
use Rattle.filter_state.specs.declared.edit.Edit.{Edit}
use Rattle.filter_state.specs.declared.edit.Edit.TheVariants as edits
use Rattle.filter_state.specs.Lines.{IsFilterAction, AreFilterActions, IsFilter, IsLine}
use Rattle.tc_batch.specs.declared.keywords.LineKind.{LineKind}
use Rattle.tc_batch.specs.declared.keywords.LineKind.TheVariants as lines
use Rattle.tc_batch.specs.declared.keywords.FilterVerb.{FilterVerb}
use Rattle.tc_batch.specs.declared.keywords.FilterVerb.TheVariants as filter_verbs
use Rattle.tc_batch.specs.declared.keywords.ActionVerb.{ActionVerb}
use Rattle.tc_batch.specs.declared.keywords.ActionVerb.TheVariants as action_verbs
use Rattle.tc_batch.specs.declared.action_keywords.Site.TheVariants as sites
use Rattle.tc_batch.specs.declared.field_name.FieldName.{FieldName}
use Rattle.tc_batch.specs.declared.options.Options.{Options}
use Rattle.tc_batch.specs.declared.draft.Head.{Head}
use Rattle.tc_batch.specs.Keywords.{line_kind, qdisc_verb, filter_verb, action_verb, hook_word}
use Rattle.tc_batch.specs.ActionKeywords.{kind_word}
use Rattle.tc_batch.specs.FieldNames.{field_name}
use Rattle.tc_batch.specs.Options.{index_number, no_options, option_setting, may_flower, qdisc_edit, del_edit}
use Rattle.tc_batch.specs.Fields.{with_field, head_refuses, head_takes, field_setting, filter_head, filter_line, filter_edit}
use Rattle.tc_batch.specs.Grammar.{Then, Reads, Ends, Pairs, Action, ActionList, AfterFields, AfterFlower, AfterSettings, FilterRest, ActionsRest, LineRest, Gives}
use Rattle.line_range_laws.proofs.Rules.{mapped, reads, follows, set_keeps, pairs}
use Rattle.line_range_laws.proofs.WordRanges.{index_range}
use Rattle.line_range_laws.proofs.Options.{AreOptions, none_given, option_kept, chain_or_zero, protocol_or_all, both_true, del_has_pref, del_in_range, qdisc_in_range}
use Rattle.line_range_laws.proofs.Actions.{action}
use Rattle.line_range_laws.proofs.Keys.{AreGiven, keys_in_range}
use Rattle.line_range_laws.proofs.Keys.{none_given as no_field_given}
use Rattle.line_range_laws.proofs.Fields.{field_kept}

-- a filter line that has come so far
pub record IsHead (head : Head) : Type 0 where
  pub options : AreOptions head.options
  pub fields : AreGiven head.fields
  pub both : head.replaces ≡ true → (is_some head.options.pref ≡ true) × (is_some head.options.handle ≡ true)

head_more : (head : Head) (name : FieldName) (word : List ℕ) (next : Head) → IsHead head → head_refuses head name ≡ false → head_takes head name word ≡ Some next → IsHead next
head_more head name word next h free e =
    mapped (λ fields. record head { fields = fields }) (with_field head.fields name word) IsHead (λ fields is. record { options = h.options; fields = field_kept head.fields name word fields h.fields free is; both = h.both }) next e

head_kept : (head : Head) (name value : List ℕ) (next : Head) → IsHead head → field_setting head name value ≡ Some next → IsHead next
head_kept head name value next h e = set_keeps head_refuses head_takes IsHead head_more head value (field_name name) next h e

-- the edit of a filter line
filter_is : (head : Head) (actions : List ActionLine) → IsHead head → AreFilterActions actions → length actions ≤ 16 → IsFilter (filter_line head actions)
filter_is head actions h each most =
    record {
      protocol = protocol_or_all head.options.protocol h.options.protocol;
      chain = chain_or_zero head.options.chain h.options.chain;
      pref = h.options.pref;
      handle = h.options.handle;
      keys = keys_in_range head.fields h.fields;
      actions = each;
      most = most;
    }

filter_by : (replaces : Bool) (head : Head) (actions : List ActionLine) → (replaces ≡ true → (is_some head.options.pref ≡ true) × (is_some head.options.handle ≡ true)) → IsFilter (filter_line head actions)
    → IsLine (if replaces then edits.FilterReplace (filter_line head actions) else edits.FilterAdd (filter_line head actions))
filter_by true head actions both is = let given = both refl in (is, given.0, given.1)
filter_by false head actions both is = is

filter_in_range : (head : Head) (actions : List ActionLine) → IsHead head → AreFilterActions actions → length actions ≤ 16 → IsLine (filter_edit head actions)
filter_in_range head actions h each most = filter_by head.replaces head actions h.both (filter_is head actions h each most)

-- the end of a line
ended : (edit given : Edit) (words : List (List ℕ)) → IsLine given → Ends edit given words → IsLine edit
ended edit given words h (ends, is) = subst IsLine (sym is) h

-- the list of actions
one_more : (actions : List ActionLine) (action : ActionLine) → AreFilterActions actions → IsFilterAction action → AreFilterActions (actions ++ (action ∷ []))
one_more [] action each is = (is, tt)
one_more (first ∷ actions) action (one, each) is = (one, one_more actions action each is)

counted : (actions : List ActionLine) (action : ActionLine) (n : ℕ) → length actions + suc n ≤ 16 → length (actions ++ (action ∷ [])) + n ≤ 16
counted actions action n most = simp length-append (omega arith)

actions_in_range : (n : ℕ) (head : Head) (edit : Edit) (actions : List ActionLine) (words : List (List ℕ)) → IsHead head → AreFilterActions actions → length actions + n ≤ 16 → ActionList n head edit actions words → IsLine edit
actions_in_range zero head edit actions words h each most it = ended edit (filter_edit head actions) words (filter_in_range head actions h each (omega arith)) it
actions_in_range (suc n) head edit actions words h each most (inl it) = ended edit (filter_edit head actions) words (filter_in_range head actions h each (omega arith)) it
actions_in_range (suc n) head edit actions words h each most (inr it) =
    follows (codes "action") (Action sites.Filter (λ action. ActionList n head edit (actions ++ (action ∷ [])))) (IsLine edit) words
    (λ rest more. action sites.Filter (λ action. ActionList n head edit (actions ++ (action ∷ []))) (IsLine edit)
    (λ next last is list. actions_in_range n head edit (actions ++ (next ∷ [])) last h (one_more actions next each is) (counted actions next n most) list) rest more) it

-- a filter line
fields_in_range : (replaces : Bool) (hook : Hook) (options : Options) (edit : Edit) (words : List (List ℕ)) → AreOptions options → (replaces ≡ true → (is_some options.pref ≡ true) × (is_some options.handle ≡ true))
    → Pairs field_setting (AfterFields edit) (filter_head replaces hook options) words → IsLine edit
fields_in_range replaces hook options edit words h both it =
    pairs field_setting (AfterFields edit) IsHead (IsLine edit) head_kept (λ head rest is more. actions_in_range 16 head edit [] rest is tt (omega arith) more)
    (filter_head replaces hook options) words (record { options = h; fields = no_field_given; both = both }) it

flower_in_range : (verb : FilterVerb) (hook : Hook) (options : Options) (edit : Edit) (words : List (List ℕ)) → AreOptions options → may_flower verb options ≡ true → AfterFlower verb hook options edit words → IsLine edit
flower_in_range filter_verbs.Add hook options edit words h may it = fields_in_range false hook options edit words h (λ is. absurd (cc is)) it
flower_in_range filter_verbs.Replace hook options edit words h may it = fields_in_range true hook options edit words h (λ is. both_true (is_some options.pref) (is_some options.handle) may) it
flower_in_range filter_verbs.Del hook options edit words h may it = ended edit (del_edit hook options) words (del_in_range hook options h may) it

settings_in_range : (verb : FilterVerb) (hook : Hook) (edit : Edit) (options : Options) (words : List (List ℕ)) → AreOptions options → AfterSettings verb hook edit options words → IsLine edit
settings_in_range verb hook edit options words h (inl (may, it)) = ended edit (del_edit hook options) words (del_in_range hook options h (del_has_pref verb options may)) it
settings_in_range verb hook edit options words h (inr (may, it)) =
    follows (codes "flower") (AfterFlower verb hook options edit) (IsLine edit) words (λ rest more. flower_in_range verb hook options edit rest h may more) it

filter_rest : (edit : Edit) (verb : FilterVerb) (words : List (List ℕ)) → FilterRest edit verb words → IsLine edit
filter_rest edit verb words it =
    follows (codes "dev") (Then (codes "eth0") (Reads hook_word (λ hook. Pairs option_setting (AfterSettings verb hook edit) no_options))) (IsLine edit) words
    (λ second. follows (codes "eth0") (Reads hook_word (λ hook. Pairs option_setting (AfterSettings verb hook edit) no_options)) (IsLine edit) second
    (λ third. reads hook_word (λ hook. Pairs option_setting (AfterSettings verb hook edit) no_options) (IsLine edit) third
    (λ word hook rest is. pairs option_setting (AfterSettings verb hook edit) AreOptions (IsLine edit) option_kept (λ options last h. settings_in_range verb hook edit options last h) no_options rest none_given))) it

-- a line of actions apart from filters
actions_rest : (edit : Edit) (verb : ActionVerb) (words : List (List ℕ)) → ActionsRest edit verb words → IsLine edit
actions_rest edit action_verbs.Add words it =
    action sites.Add (λ action. Ends edit (edits.ActionAdd action)) (IsLine edit) (λ next rest is more. ended edit (edits.ActionAdd next) rest is more) words it
actions_rest edit action_verbs.Change words it =
    action sites.Change (λ action. Ends edit (edits.ActionChange action)) (IsLine edit) (λ next rest is more. ended edit (edits.ActionChange next) rest is more) words it
actions_rest edit action_verbs.Del words it =
    reads kind_word (λ kind. Then (codes "index") (Reads index_number (λ n. Ends edit (edits.ActionDel kind n)))) (IsLine edit) words
    (λ word kind second is. follows (codes "index") (Reads index_number (λ n. Ends edit (edits.ActionDel kind n))) (IsLine edit) second
    (λ third. reads index_number (λ n. Ends edit (edits.ActionDel kind n)) (IsLine edit) third (λ number n rest given more. ended edit (edits.ActionDel kind n) rest (index_range number n given) more))) it

-- a line
line_rest : (edit : Edit) (kind : LineKind) (words : List (List ℕ)) → LineRest edit kind words → IsLine edit
line_rest edit lines.Qdisc words it =
    reads qdisc_verb (λ verb. Then (codes "dev") (Then (codes "eth0") (Then (codes "clsact") (Ends edit (qdisc_edit verb))))) (IsLine edit) words
    (λ word verb second is. follows (codes "dev") (Then (codes "eth0") (Then (codes "clsact") (Ends edit (qdisc_edit verb)))) (IsLine edit) second
    (λ third. follows (codes "eth0") (Then (codes "clsact") (Ends edit (qdisc_edit verb))) (IsLine edit) third
    (λ fourth. follows (codes "clsact") (Ends edit (qdisc_edit verb)) (IsLine edit) fourth (λ rest more. ended edit (qdisc_edit verb) rest (qdisc_in_range verb) more)))) it
line_rest edit lines.Filter words it = reads filter_verb (FilterRest edit) (IsLine edit) words (λ word verb rest is more. filter_rest edit verb rest more) it
line_rest edit lines.Actions words it =
    reads action_verb (λ verb. Then (codes "action") (ActionsRest edit verb)) (IsLine edit) words
    (λ word verb second is. follows (codes "action") (ActionsRest edit verb) (IsLine edit) second (λ rest more. actions_rest edit verb rest more)) it

pub says : (words : List (List ℕ)) (edit : Edit) → Gives words edit → IsLine edit
says words edit it = reads line_kind (LineRest edit) (IsLine edit) words (λ word kind rest is more. line_rest edit kind rest more) it
