-- The five words of an action's parameters (this project's own).
use Rattle.std.specs.Prelude.{◌≡◌, ℕ, ◌+◌, ◌^◌, ◌<◌, List, [], ◌∷◌, Option, Some, None, IfSome}
use Rattle.act_kinds.specs.declared.params.Control.{Control}
use Rattle.act_kinds.specs.declared.params.Control.TheVariants as controls
use Rattle.act_kinds.specs.declared.params.VlanOp.{VlanOp}
use Rattle.act_kinds.specs.declared.params.VlanOp.TheVariants as ops
use Rattle.act_kinds.specs.declared.params.Params.{Params}
use Rattle.act_kinds.specs.declared.params.Params.TheVariants as params
use Rattle.act_kinds.specs.Ranges.{IsControl}
use Rattle.block_codec.specs.Blocks.{both, plus_one}

-- the number of a control, and the place or the chain that it goes to
abbrev pub control_word : Control → ℕ
control_word controls.Accept = both 1 0
control_word controls.Shot = both 2 0
control_word controls.Unspec = both 3 0
control_word controls.Pipe = both 4 0
control_word controls.Reclassify = both 5 0
control_word (controls.Jump place) = both 6 place
control_word (controls.Goto chain) = both 7 chain

-- the number of what is done to a tag, id and TPID, and the priority plus 1
abbrev pub vlan_words : VlanOp → List ℕ
vlan_words (ops.Push tpid id priority) = 1 ∷ both id tpid ∷ (priority + 1) ∷ []
vlan_words ops.Pop = 2 ∷ 0 ∷ 0 ∷ []
vlan_words (ops.Modify tpid id priority) = 3 ∷ both id tpid ∷ plus_one priority ∷ []

-- a flag where a number is given
abbrev pub flag_of : ℕ → Option ℕ → ℕ
flag_of flag None = 0
flag_of flag (Some number) = flag

-- a number, or 0 where it isn't given
abbrev pub number_of : Option ℕ → ℕ
number_of None = 0
number_of (Some number) = number

-- which of the three are given, priority and mark, and the queue
abbrev pub skbedit_words : Option ℕ → Option ℕ → Option ℕ → List ℕ
skbedit_words priority mark queue = (flag_of 1 priority + flag_of 2 mark + flag_of 4 queue)
    ∷ both (number_of priority) (number_of mark) ∷ number_of queue ∷ []

-- the kind, the control, and three words by the kind
abbrev pub params_words : Params → List ℕ
params_words (params.Gact control) = 1 ∷ control_word control ∷ 0 ∷ 0 ∷ 0 ∷ []
params_words (params.Vlan op control) = 2 ∷ control_word control ∷ vlan_words op
params_words (params.Skbedit priority mark queue control) =
    3 ∷ control_word control ∷ skbedit_words priority mark queue

-- the limits of parameters: a chain and a place to jump to
abbrev pub AreStorable : Params → Type 0
AreStorable (params.Gact control) = IsControl control
AreStorable (params.Vlan op control) = IsControl control
AreStorable (params.Skbedit priority mark queue control) = IsControl control

-- each number fits its type
abbrev pub FitsOp : VlanOp → Type 0
FitsOp (ops.Push tpid id priority) = (tpid < 2 ^ 16) × (id < 2 ^ 16) × (priority < 2 ^ 8)
FitsOp ops.Pop = Unit {0}
FitsOp (ops.Modify tpid id priority) = (tpid < 2 ^ 16) × (id < 2 ^ 16) × IfSome priority (λ n. n < 2 ^ 8)

abbrev pub FitParams : Params → Type 0
FitParams (params.Gact control) = Unit {0}
FitParams (params.Vlan op control) = FitsOp op
FitParams (params.Skbedit priority mark queue control) = IfSome priority (λ n. n < 2 ^ 32)
    × IfSome mark (λ n. n < 2 ^ 32) × IfSome queue (λ n. n < 2 ^ 16)

-- these are the words of those parameters
pub record AreParamsIn (words : List ℕ) (given : Params) : Type 0 where
  pub storable : AreStorable given
  pub fit : FitParams given
  pub words_are : words ≡ params_words given
