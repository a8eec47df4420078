-- The printed words of an action hold no blank and no number sign.
use Rattle.std.proofs.Common.{◌≡◌, ◌∙◌, ℕ, ◌^◌, ◌<◌, ◌≤◌, true, List, [], ◌∷◌, ◌++◌, Option, Some, None, refl, inl, inr, arith}
use Rattle.std.specs.Prelude.{codes, IfSome}
use Rattle.std.specs.List.{list_all}
use Rattle.std.specs.Fmt.{decimal}
use Rattle.std.proofs.lemmas.List.Folds.{list_all-append}
use Rattle.line_texts.specs.CleanWords.{is_clean}
use Rattle.line_texts.specs.Texts.{ether_type_text, class_text}
use Rattle.line_texts.proofs.Joins.{and-both}
use Rattle.line_texts.proofs.Decimals.{decimal-clean}
use Rattle.line_texts.proofs.EtherTypes.{ether_type-clean}
use Rattle.line_texts.proofs.Classes.{class-clean}
use Rattle.act_kinds.specs.declared.params.Control.{Control}
use Rattle.act_kinds.specs.declared.params.Control.TheVariants as controls
use Rattle.act_kinds.specs.declared.params.Kind.{Kind}
use Rattle.act_kinds.specs.declared.params.Kind.TheVariants as kinds
use Rattle.act_kinds.specs.declared.params.VlanOp.{VlanOp}
use Rattle.act_kinds.specs.declared.params.VlanOp.TheVariants as ops
use Rattle.act_kinds.specs.declared.params.Params.{Params}
use Rattle.act_kinds.specs.declared.params.Params.TheVariants as params
use Rattle.act_kinds.specs.Ranges.{IsTpid, IsVlanId, IsVlanOp, IsControl, AreMarks, AreParams}
use Rattle.filter_state.specs.declared.action_line.ActionLine.{ActionLine}
use Rattle.filter_state.specs.Lines.{IsIndex, IsOfFilter, IsSharedAction, IsFilterAction, AreFilterActions}
use Rattle.tc_batch.specs.KindNames.{kind_text}
use Rattle.tc_print.specs.ActionWords.{control_words, number_words, index_words, tag_words, op_words, class_words, mark_words, params_words, given_words, action_words, list_words}

pub clean_joined : (a b : List (List ℕ)) → list_all is_clean a ≡ true → list_all is_clean b ≡ true → list_all is_clean (a ++ b) ≡ true
clean_joined a b clean_a clean_b = list_all-append is_clean a b ∙ and-both (list_all is_clean a) (list_all is_clean b) clean_a clean_b

pub clean_more : (word : List ℕ) (words : List (List ℕ)) → is_clean word ≡ true → list_all is_clean words ≡ true → list_all is_clean (word ∷ words) ≡ true
clean_more word words clean more = and-both (is_clean word) (list_all is_clean words) clean more

pub clean_number : (name : List ℕ) (number : Option ℕ) → is_clean name ≡ true → IfSome number (λ n. n < 2 ^ 64) → list_all is_clean (number_words name number) ≡ true
clean_number name None clean fits = refl
clean_number name (Some number) clean fits = clean_more name (decimal number ∷ []) clean (clean_more (decimal number) [] (decimal-clean number fits) refl)

pub wider : (number : Option ℕ) (P : ℕ → Type 0) → ((n : ℕ) → P n → n < 2 ^ 64) → IfSome number P → IfSome number (λ n. n < 2 ^ 64)
wider None P small h = h
wider (Some number) P small h = small number h

pub kind_clean : (kind : Kind) → is_clean (kind_text kind) ≡ true
kind_clean kinds.Gact = refl
kind_clean kinds.Vlan = refl
kind_clean kinds.Skbedit = refl

pub index_clean : (index : Option ℕ) → IfSome index IsIndex → list_all is_clean (index_words index) ≡ true
index_clean index h = clean_number (codes "index") index refl (wider index IsIndex (λ n (least, most). omega arith) h)

control_clean : (control : Control) → IsControl control → list_all is_clean (control_words control) ≡ true
control_clean controls.Accept h = refl
control_clean controls.Shot h = refl
control_clean controls.Unspec h = refl
control_clean controls.Pipe h = refl
control_clean controls.Reclassify h = refl
control_clean (controls.Jump place) h = clean_more (decimal place) [] (decimal-clean place (omega arith)) refl
control_clean (controls.Goto chain) h = clean_more (decimal chain) [] (decimal-clean chain (omega arith)) refl

tag_clean : (tpid id : ℕ) → IsTpid tpid → IsVlanId id → list_all is_clean (tag_words tpid id) ≡ true
tag_clean tpid id is_tpid is_id =
    clean_more (ether_type_text tpid) (codes "id" ∷ decimal id ∷ []) (ether_type-clean tpid (elim is_tpid [ inl is ↦ omega arith | inr is ↦ omega arith ]))
    (clean_more (decimal id) [] (decimal-clean id (omega arith)) refl)

op_clean : (op : VlanOp) → IsVlanOp op → list_all is_clean (op_words op) ≡ true
op_clean (ops.Push tpid id priority) (is_tpid, is_id, is_priority) =
    clean_joined (tag_words tpid id) (number_words (codes "priority") (Some priority)) (tag_clean tpid id is_tpid is_id) (clean_number (codes "priority") (Some priority) refl (omega arith))
op_clean ops.Pop h = refl
op_clean (ops.Modify tpid id priority) (is_tpid, is_id, is_priority) =
    clean_joined (tag_words tpid id) (number_words (codes "priority") priority) (tag_clean tpid id is_tpid is_id)
    (clean_number (codes "priority") priority refl (wider priority (λ n. n ≤ 7) (λ n most. omega arith) is_priority))

class_words_clean : (priority : Option ℕ) → IfSome priority (λ n. n < 2 ^ 32) → list_all is_clean (class_words priority) ≡ true
class_words_clean None h = refl
class_words_clean (Some class) h = clean_more (class_text class) [] (class-clean class h) refl

marks_clean : (priority mark queue : Option ℕ) → AreMarks priority mark queue → list_all is_clean (mark_words priority mark queue) ≡ true
marks_clean priority mark queue (one, p, m, q) =
    clean_joined (number_words (codes "queue_mapping") queue) (class_words priority ++ number_words (codes "mark") mark)
    (clean_number (codes "queue_mapping") queue refl (wider queue (λ n. n < 2 ^ 16) (λ n h. omega arith) q))
    (clean_joined (class_words priority) (number_words (codes "mark") mark) (class_words_clean priority p)
    (clean_number (codes "mark") mark refl (wider mark (λ n. n < 2 ^ 32) (λ n h. omega arith) m)))

params_clean : (given : Params) → AreParams given → list_all is_clean (params_words given) ≡ true
params_clean (params.Gact control) p = control_clean control p
params_clean (params.Vlan op control) (is_op, p) = clean_joined (op_words op) (control_words control) (op_clean op is_op) (control_clean control p)
params_clean (params.Skbedit priority mark queue control) (marked, p) =
    clean_joined (mark_words priority mark queue) (control_words control) (marks_clean priority mark queue marked) (control_clean control p)

given_clean : (kind : Kind) (index : Option ℕ) (given : Option Params) → IsOfFilter given (record { kind = kind; index = index; params = given })
    → list_all is_clean (given_words kind given ++ index_words index) ≡ true
given_clean kind index (Some given) (is, p, i) = clean_joined (params_words given) (index_words index) (params_clean given p) (index_clean index i)
given_clean kind (Some index) None h = clean_more (kind_text kind) (index_words (Some index)) (kind_clean kind) (index_clean (Some index) h)
given_clean kind None None h = absurd h

pub action_clean : (action : ActionLine) → IsFilterAction action → list_all is_clean (action_words action) ≡ true
action_clean action h = given_clean action.kind action.index action.params h

shared_is : (kind : Kind) (index : Option ℕ) (given : Option Params) → IsSharedAction (record { kind = kind; index = index; params = given })
    → IsOfFilter given (record { kind = kind; index = index; params = given })
shared_is kind index None h = absurd h
shared_is kind index (Some given) (is, none) = is

-- an action that stands alone may stand in a filter
pub shared_action : (action : ActionLine) → IsSharedAction action → IsFilterAction action
shared_action action h = shared_is action.kind action.index action.params h

pub list_clean : (actions : List ActionLine) → AreFilterActions actions → list_all is_clean (list_words actions) ≡ true
list_clean [] h = refl
list_clean (action ∷ actions) (one, h) = clean_joined (action_words action) (list_words actions) (action_clean action one) (list_clean actions h)
