-- The words that an action is printed as (tc-actions(8), tc-vlan(8), tc-skbedit(8)). That each part which has
-- a value is written out, and in which order, is this project's own.
use Rattle.std.specs.Prelude.{ℕ, List, [], ◌∷◌, ◌++◌, Option, Some, None, codes}
use Rattle.std.specs.Fmt.{decimal}
use Rattle.line_texts.specs.Texts.{ether_type_text, class_text}
use Rattle.act_kinds.specs.declared.params.Control.{Control}
use Rattle.act_kinds.specs.declared.params.Control.TheVariants as controls
use Rattle.act_kinds.specs.declared.params.Kind.{Kind}
use Rattle.act_kinds.specs.declared.params.Kind.TheVariants as kinds
use Rattle.tc_batch.specs.KindNames.{kind_text}
use Rattle.act_kinds.specs.declared.params.VlanOp.{VlanOp}
use Rattle.act_kinds.specs.declared.params.VlanOp.TheVariants as ops
use Rattle.act_kinds.specs.declared.params.Params.{Params}
use Rattle.act_kinds.specs.declared.params.Params.TheVariants as params
use Rattle.filter_state.specs.declared.action_line.ActionLine.{ActionLine}

-- tc-actions(8), CONTROL: how the list of actions goes on
abbrev pub control_words : Control → List (List ℕ)
control_words controls.Accept = codes "ok" ∷ []
control_words controls.Shot = codes "drop" ∷ []
control_words controls.Unspec = codes "continue" ∷ []
control_words controls.Pipe = codes "pipe" ∷ []
control_words controls.Reclassify = codes "reclassify" ∷ []
control_words (controls.Jump place) = codes "jump" ∷ decimal place ∷ []
control_words (controls.Goto chain) = codes "goto" ∷ codes "chain" ∷ decimal chain ∷ []

-- a name and its number, where there is one
abbrev pub number_words : List ℕ → Option ℕ → List (List ℕ)
number_words name None = []
number_words name (Some number) = name ∷ decimal number ∷ []

-- tc-actions(8), INDEX: the action's own number
abbrev pub index_words : Option ℕ → List (List ℕ)
index_words index = number_words (codes "index") index

-- tc-vlan(8), PUSH and MODIFY: the tag's EtherType and its VLAN
abbrev pub tag_words : ℕ → ℕ → List (List ℕ)
tag_words tpid id = codes "protocol" ∷ ether_type_text tpid ∷ codes "id" ∷ decimal id ∷ []

-- tc-vlan(8): what is done to the tag
abbrev pub op_words : VlanOp → List (List ℕ)
op_words (ops.Push tpid id priority) =
    codes "push" ∷ (tag_words tpid id ++ number_words (codes "priority") (Some priority))
op_words ops.Pop = codes "pop" ∷ []
op_words (ops.Modify tpid id priority) =
    codes "modify" ∷ (tag_words tpid id ++ number_words (codes "priority") priority)

-- tc-skbedit(8), priority: a class
abbrev pub class_words : Option ℕ → List (List ℕ)
class_words None = []
class_words (Some class) = codes "priority" ∷ class_text class ∷ []

-- tc-skbedit(8): what a packet is given
abbrev pub mark_words : Option ℕ → Option ℕ → Option ℕ → List (List ℕ)
mark_words priority mark queue = number_words (codes "queue_mapping") queue
    ++ (class_words priority ++ number_words (codes "mark") mark)

-- what an action does, and its control
abbrev pub params_words : Params → List (List ℕ)
params_words (params.Gact control) = kind_text kinds.Gact ∷ control_words control
params_words (params.Vlan op control) = kind_text kinds.Vlan ∷ (op_words op ++ control_words control)
params_words (params.Skbedit priority mark queue control) =
    kind_text kinds.Skbedit ∷ (mark_words priority mark queue ++ control_words control)

-- in full, or the kind alone
abbrev pub given_words : Kind → Option Params → List (List ℕ)
given_words kind None = kind_text kind ∷ []
given_words kind (Some given) = params_words given

-- one action, from the word `action` on
abbrev pub action_words : ActionLine → List (List ℕ)
action_words action = codes "action" ∷ (given_words action.kind action.params ++ index_words action.index)

-- actions, in order
abbrev pub list_words : List ActionLine → List (List ℕ)
list_words [] = []
list_words (action ∷ actions) = action_words action ++ list_words actions
