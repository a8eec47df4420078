-- Each action that the grammar gives is in its ranges.
use Rattle.std.proofs.Common.{ℕ, List, Some, None, refl, inl, inr}
use Rattle.std.specs.Prelude.{IsSome, codes}
use Rattle.act_kinds.specs.declared.params.Kind.{Kind}
use Rattle.act_kinds.specs.declared.params.Kind.TheVariants as kinds
use Rattle.act_kinds.specs.declared.params.Control.TheVariants as controls
use Rattle.act_kinds.specs.declared.params.VlanOp.TheVariants as ops
use Rattle.act_kinds.specs.declared.params.Params.{Params}
use Rattle.act_kinds.specs.declared.params.Params.TheVariants as params
use Rattle.act_kinds.specs.Params.{with_control}
use Rattle.filter_state.specs.declared.action_line.ActionLine.{ActionLine}
use Rattle.filter_state.specs.Lines.{IsIndex, IsFilterAction, IsSharedAction}
use Rattle.tc_batch.specs.declared.action_keywords.Site.{Site}
use Rattle.tc_batch.specs.declared.action_keywords.Site.TheVariants as sites
use Rattle.tc_batch.specs.declared.action_keywords.ControlWord.{ControlWord}
use Rattle.tc_batch.specs.declared.action_keywords.ControlWord.TheVariants as control_words
use Rattle.tc_batch.specs.declared.action_keywords.VlanVerb.{VlanVerb}
use Rattle.tc_batch.specs.declared.action_keywords.VlanVerb.TheVariants as vlan_verbs
use Rattle.tc_batch.specs.ActionKeywords.{kind_word, control_word, vlan_verb}
use Rattle.tc_batch.specs.Options.{chain_number, index_number}
use Rattle.tc_batch.specs.Actions.{no_tag, tag_setting, tag_params, no_marks, mark_setting, mark_params, full_action, named_action}
use Rattle.tc_batch.specs.Grammar.{Then, Reads, Tail, ControlRest, ControlledBy, Placed, AfterTag, AfterMarks, VlanRest, Named, KindRest, AfterKind, Action}
use Rattle.line_range_laws.proofs.Rules.{known, reads, follows, pairs}
use Rattle.line_range_laws.proofs.WordRanges.{chain_range, index_range}
use Rattle.line_range_laws.proofs.ActionParts.{IsTag, none_tagged, tag_kept, IsMarked, none_marked, mark_kept, MayStand, stays, control_word_stands, AreParamsAt, gact_params, tag_in_range, marks_in_range, controlled}

-- the ranges of an action, by where it stands
abbrev pub IsActionAt : Site → ActionLine → Type 0
IsActionAt sites.Filter action = IsFilterAction action
IsActionAt sites.Add action = IsSharedAction action
IsActionAt sites.Change action = IsSharedAction action × IsSome action.index

-- some set of lists of words holds behind an action in its ranges
abbrev Behind : Site → (ActionLine → List (List ℕ) → Type 0) → Type 0 → Type 0
Behind site More R = (action : ActionLine) (words : List (List ℕ)) → IsActionAt site action → More action words → R

indexed : (site : Site) (given : Params) (n : ℕ) → AreParamsAt site given → IsIndex n → IsActionAt site (full_action given (Some n))
indexed sites.Filter given n h is = (refl, h.params, is)
indexed sites.Add given n h is = ((refl, h.params, is), h.goes)
indexed sites.Change given n h is = (((refl, h.params, is), h.goes), refl)

-- the rules of an action, from the last word on
index_end : (site : Site) (More : ActionLine → List (List ℕ) → Type 0) (R : Type 0) (given : Params) (words : List (List ℕ)) → AreParamsAt site given → Behind site More R
    → Then (codes "index") (Reads index_number (λ n. More (full_action given (Some n)))) words → R
index_end site More R given words h each it =
    follows (codes "index") (Reads index_number (λ n. More (full_action given (Some n)))) R words
    (λ rest. reads index_number (λ n. More (full_action given (Some n))) R rest (λ word n last is more. each (full_action given (Some n)) last (indexed site given n h (index_range word n is)) more)) it

tail : (site : Site) (More : ActionLine → List (List ℕ) → Type 0) (R : Type 0) (given : Params) (words : List (List ℕ)) → AreParamsAt site given → Behind site More R → Tail site More given words → R
tail sites.Filter More R given words h each (inl it) = each (full_action given None) words (refl, h.params, tt) it
tail sites.Filter More R given words h each (inr it) = index_end sites.Filter More R given words h each it
tail sites.Add More R given words h each (inl it) = each (full_action given None) words ((refl, h.params, tt), h.goes) it
tail sites.Add More R given words h each (inr it) = index_end sites.Add More R given words h each it
tail sites.Change More R given words h each it = index_end sites.Change More R given words h each it

control_end : (site : Site) (More : ActionLine → List (List ℕ) → Type 0) (R : Type 0) (base : Params) (words : List (List ℕ)) → AreParamsAt site base → Behind site More R → (it : ControlWord) → MayStand site it
    → ControlRest site (λ control. Tail site More (with_control base control)) it words → R
control_end site More R base words h each (control_words.Plain control) may it = tail site More R (with_control base control) words (controlled site base control h may) each it
control_end site More R base words h each control_words.Jump may it =
    reads chain_number (λ n. Tail site More (with_control base (controls.Jump n))) R words
    (λ word n rest is more. tail site More R (with_control base (controls.Jump n)) rest (controlled site base (controls.Jump n) h (record { in_range = chain_range word n is; goes = stays site (controls.Jump n) tt })) each more) it
control_end sites.Filter More R base words h each control_words.Goto may it =
    follows (codes "chain") (Reads chain_number (λ n. Tail sites.Filter More (with_control base (controls.Goto n)))) R words
    (λ rest. reads chain_number (λ n. Tail sites.Filter More (with_control base (controls.Goto n))) R rest
    (λ word n last is more. tail sites.Filter More R (with_control base (controls.Goto n)) last (controlled sites.Filter base (controls.Goto n) h (record { in_range = chain_range word n is; goes = tt })) each more)) it
control_end sites.Add More R base words h each control_words.Goto may it = absurd may
control_end sites.Change More R base words h each control_words.Goto may it = absurd may

controlled_by : (site : Site) (More : ActionLine → List (List ℕ) → Type 0) (R : Type 0) (base : Params) (words : List (List ℕ)) → AreParamsAt site base → Behind site More R → ControlledBy site More base words → R
controlled_by site More R base words h each it =
    reads (control_word site) (ControlRest site (λ control. Tail site More (with_control base control))) R words
    (λ word which rest is more. control_end site More R base rest h each which (known (control_word site word) (MayStand site) which (control_word_stands site word) is) more) it

placed : (site : Site) (More : ActionLine → List (List ℕ) → Type 0) (R : Type 0) (base : Params) (words : List (List ℕ)) → AreParamsAt site base → Behind site More R → Placed site More base words → R
placed site More R base words h each (inl it) = tail site More R base words h each it
placed site More R base words h each (inr it) = controlled_by site More R base words h each it

-- the kinds
vlan : (site : Site) (More : ActionLine → List (List ℕ) → Type 0) (R : Type 0) → Behind site More R → (words : List (List ℕ)) (verb : VlanVerb) → VlanRest site More verb words → R
vlan site More R each words (vlan_verbs.Tagged verb) it =
    pairs tag_setting (AfterTag site More verb) IsTag R tag_kept (λ tag rest h more. placed site More R (tag_params verb tag) rest (tag_in_range site verb tag h) each more.1) no_tag words none_tagged it
vlan site More R each words vlan_verbs.Pop it =
    placed site More R (params.Vlan ops.Pop controls.Pipe) words (record { params = (tt, tt); goes = stays site controls.Pipe tt }) each it

of_kind : (site : Site) (More : ActionLine → List (List ℕ) → Type 0) (R : Type 0) → Behind site More R → (kind : Kind) (words : List (List ℕ)) → KindRest site More kind words → R
of_kind site More R each kinds.Gact words it = controlled_by site More R (params.Gact controls.Accept) words (gact_params site) each it
of_kind site More R each kinds.Vlan words it = reads vlan_verb (VlanRest site More) R words (λ word verb rest is more. vlan site More R each rest verb more) it
of_kind site More R each kinds.Skbedit words it =
    pairs mark_setting (AfterMarks site More) IsMarked R mark_kept (λ set rest h more. placed site More R (mark_params set) rest (marks_in_range site set h more.0) each more.1) no_marks words none_marked it

named : (More : ActionLine → List (List ℕ) → Type 0) (R : Type 0) → Behind sites.Filter More R → (kind : Kind) (words : List (List ℕ)) → Named kind More words → R
named More R each kind words it =
    follows (codes "index") (Reads index_number (λ n. More (named_action kind n))) R words
    (λ rest. reads index_number (λ n. More (named_action kind n)) R rest (λ word n last is more. each (named_action kind n) last (index_range word n is) more)) it

after_kind : (site : Site) (More : ActionLine → List (List ℕ) → Type 0) (R : Type 0) → Behind site More R → (kind : Kind) (words : List (List ℕ)) → AfterKind site More kind words → R
after_kind sites.Filter More R each kind words (inl it) = of_kind sites.Filter More R each kind words it
after_kind sites.Filter More R each kind words (inr it) = named More R each kind words it
after_kind sites.Add More R each kind words it = of_kind sites.Add More R each kind words it
after_kind sites.Change More R each kind words it = of_kind sites.Change More R each kind words it

pub action : (site : Site) (More : ActionLine → List (List ℕ) → Type 0) (R : Type 0) → ((action : ActionLine) (words : List (List ℕ)) → IsActionAt site action → More action words → R) → (words : List (List ℕ)) → Action site More words → R
action site More R each words (inl it) = controlled_by site More R (params.Gact controls.Accept) words (gact_params site) each it
action site More R each words (inr it) = reads kind_word (AfterKind site More) R words (λ word kind rest is more. after_kind site More R each kind rest more) it
