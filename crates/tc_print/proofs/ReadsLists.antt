-- The actions of an edit are read back: those of a filter in their list, and one that stands alone.
use Rattle.std.proofs.Common.{◌≡◌, ◌∙◌, ℕ, zero, suc, ◌≤◌, List, [], ◌∷◌, ◌++◌, length, append-nil, append_assoc, Option, Some, None, refl, sym, ap, subst, inl, inr, arith}
use Rattle.std.specs.Prelude.{IfSome, IsSome, IsSomeAnd}
use Rattle.std.specs.Fmt.{decimal}
use Rattle.act_kinds.specs.declared.params.Kind.{Kind}
use Rattle.act_kinds.specs.declared.params.Kind.TheVariants as kinds
use Rattle.act_kinds.specs.declared.params.Params.{Params}
use Rattle.act_kinds.specs.declared.params.Params.TheVariants as params
use Rattle.act_kinds.specs.Params.{kind_of}
use Rattle.act_kinds.specs.Ranges.{IsControl, AreParams}
use Rattle.filter_state.specs.declared.action_line.ActionLine.{ActionLine}
use Rattle.filter_state.specs.declared.edit.Edit.{Edit}
use Rattle.filter_state.specs.Lines.{IsIndex, control_of, GoesToNoChain, IsOfFilter, IsSharedAction, AreFilterActions}
use Rattle.tc_batch.specs.declared.action_keywords.Site.{Site}
use Rattle.tc_batch.specs.declared.action_keywords.Site.TheVariants as sites
use Rattle.tc_batch.specs.declared.draft.Head.{Head}
use Rattle.tc_batch.specs.Options.{index_number}
use Rattle.tc_batch.specs.Fields.{filter_edit}
use Rattle.tc_batch.specs.Actions.{named_action}
use Rattle.tc_batch.specs.Grammar.{Action, ActionList}
use Rattle.tc_print.specs.ActionWords.{index_words, given_words, list_words}
use Rattle.tc_print.proofs.Pairs.{reads_is, joined_is}
use Rattle.tc_print.proofs.ReadsControls.{index_read, HasIndex, HasControl}
use Rattle.tc_print.proofs.ReadsActions.{full_is}

-- an action by its parts
abbrev action_of : Kind → Option ℕ → Option Params → ActionLine
action_of kind index given = record { kind = kind; index = index; params = given }

params_control : (given : Params) → AreParams given → IsControl (control_of given)
params_control (params.Gact control) p = p
params_control (params.Vlan op control) (_, p) = p
params_control (params.Skbedit priority mark queue control) (_, p) = p

-- in full
given_is : (site : Site) (More : ActionLine → List (List ℕ) → Type 0) (kind : Kind) (index : Option ℕ) (given : Params) (rest : List (List ℕ))
    → kind ≡ kind_of given → AreParams given → HasControl site (control_of given) → HasIndex site index → More (action_of kind index (Some given)) rest
    → Action site More (given_words kind (Some given) ++ (index_words index ++ rest))
given_is site More kind index given rest is p c i more =
    full_is site More given index rest p c i (subst (λ (k : Kind). More (action_of k index (Some given)) rest) is more)

-- by kind and index alone
named_is : (More : ActionLine → List (List ℕ) → Type 0) (kind : Kind) (index : ℕ) (rest : List (List ℕ)) → IsIndex index
    → More (named_action kind index) rest → Action sites.Filter More (given_words kind None ++ (index_words (Some index) ++ rest))
named_is More kinds.Gact n rest h more = inr (inr (refl, reads_is index_number (λ m. More (named_action kinds.Gact m)) (decimal n) rest n (index_read n h) more))
named_is More kinds.Vlan n rest h more = inr (inr (refl, reads_is index_number (λ m. More (named_action kinds.Vlan m)) (decimal n) rest n (index_read n h) more))
named_is More kinds.Skbedit n rest h more = inr (inr (refl, reads_is index_number (λ m. More (named_action kinds.Skbedit m)) (decimal n) rest n (index_read n h) more))

of_filter : (More : ActionLine → List (List ℕ) → Type 0) (kind : Kind) (index : Option ℕ) (given : Option Params) (rest : List (List ℕ))
    → IsOfFilter given (action_of kind index given) → More (action_of kind index given) rest
    → Action sites.Filter More (given_words kind given ++ (index_words index ++ rest))
of_filter More kind index (Some given) rest (is, p, i) more = given_is sites.Filter More kind index given rest is p (params_control given p) i more
of_filter More kind (Some index) None rest h more = named_is More kind index rest h more
of_filter More kind None None rest h more = absurd h

-- the actions of a filter
pub list_is : (head : Head) (edit : Edit) (before actions : List ActionLine) (most : ℕ) → AreFilterActions actions → length actions ≤ most
    → edit ≡ filter_edit head (before ++ actions) → ActionList most head edit before (list_words actions)
list_is head edit before [] zero h le is = (refl, is ∙ ap (filter_edit head) (append-nil before))
list_is head edit before [] (suc most) h le is = inl (refl, is ∙ ap (filter_edit head) (append-nil before))
list_is head edit before (action ∷ actions) zero h le is = absurd (omega arith)
list_is head edit before (action ∷ actions) (suc most) (one, h) le is =
    let More : ActionLine → List (List ℕ) → Type 0 = λ it. ActionList most head edit (before ++ (it ∷ [])) in
    inr (
      refl,
      joined_is (Action sites.Filter More) (given_words action.kind action.params) (index_words action.index) (list_words actions)
          (of_filter More action.kind action.index action.params (list_words actions) one
          (list_is head edit (before ++ (action ∷ [])) actions most h (omega arith) (is ∙ ap (filter_edit head) (sym (append_assoc before (action ∷ []) actions))))),
    )

alone_is : (site : Site) (More : ActionLine → List (List ℕ) → Type 0) (kind : Kind) (index : Option ℕ) (given : Option Params)
    → IsSomeAnd given (λ it. (kind ≡ kind_of it) × AreParams it × IfSome index IsIndex × HasControl site (control_of it)) → HasIndex site index
    → More (action_of kind index given) [] → Action site More (given_words kind given ++ index_words index)
alone_is site More kind index None h i more = absurd h
alone_is site More kind index (Some given) (is, p, _, c) i more =
    subst (λ (ws : List (List ℕ)). Action site More (given_words kind (Some given) ++ ws)) (append-nil (index_words index))
    (given_is site More kind index given [] is p c i more)

shared_control : (kind : Kind) (index : Option ℕ) (given : Option Params)
    → IsSharedAction (action_of kind index given)
    → IsSomeAnd given (λ it. (kind ≡ kind_of it) × AreParams it × IfSome index IsIndex × (IsControl (control_of it) × GoesToNoChain (control_of it)))
shared_control kind index None h = absurd h
shared_control kind index (Some given) ((is, p, i), none) = (is, p, i, (params_control given p, none))

shared_index : (kind : Kind) (index : Option ℕ) (given : Option Params) → IsSharedAction (action_of kind index given) → IfSome index IsIndex
shared_index kind index None h = absurd h
shared_index kind index (Some given) ((_, _, i), _) = i

needed_index : (index : Option ℕ) → IsSome index → IfSome index IsIndex → IsSomeAnd index IsIndex
needed_index None h i = absurd (cc h)
needed_index (Some index) h i = i

-- an action that is added or changed apart from filters
pub added_is : (More : ActionLine → List (List ℕ) → Type 0) (action : ActionLine) → IsSharedAction action → More action []
    → Action sites.Add More (given_words action.kind action.params ++ index_words action.index)
added_is More action h more =
    alone_is sites.Add More action.kind action.index action.params (shared_control action.kind action.index action.params h)
    (shared_index action.kind action.index action.params h) more

pub changed_is : (More : ActionLine → List (List ℕ) → Type 0) (action : ActionLine) → IsSharedAction action → IsSome action.index → More action []
    → Action sites.Change More (given_words action.kind action.params ++ index_words action.index)
changed_is More action h some more =
    alone_is sites.Change More action.kind action.index action.params (shared_control action.kind action.index action.params h)
    (needed_index action.index some (shared_index action.kind action.index action.params h)) more
