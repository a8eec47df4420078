-- Small batches, on which the steps of the plain state can be followed by hand.
use Rattle.std.specs.Prelude.{ℕ, List, [], ◌∷◌, Option, Some, None, Result, Ok, Err}
use Rattle.tc_base.specs.declared.hook.Hook.TheVariants as hooks
use Rattle.tc_base.specs.declared.hook.Proto.{Proto}
use Rattle.tc_base.specs.declared.hook.Proto.TheVariants as protocols
use Rattle.act_kinds.specs.declared.params.Kind.TheVariants as kinds
use Rattle.act_kinds.specs.declared.params.Control.{Control}
use Rattle.act_kinds.specs.declared.params.Control.TheVariants as controls
use Rattle.act_kinds.specs.declared.params.Params.TheVariants as params
use Rattle.filter_state.specs.declared.action_line.ActionLine.{ActionLine}
use Rattle.filter_state.specs.declared.edit.FilterLine.{FilterLine}
use Rattle.filter_state.specs.declared.edit.Edit.{Edit}
use Rattle.filter_state.specs.declared.edit.Edit.TheVariants as edits
use Rattle.filter_state.specs.declared.refusal.Done.{Done}
use Rattle.filter_state.specs.declared.refusal.Refusal.{Refusal}
use Rattle.filter_state.specs.States.{Action, no_state}
use Rattle.filter_state.specs.Steps.{Stepped, step}
use Rattle.filter_state.specs.Journals.{state_from}

abbrev pub ip : Proto
ip = protocols.Ether 0x0800

-- `action drop` and its like, and `action gact index N`
abbrev pub gact : Control → ActionLine
gact control = record { kind = kinds.Gact; index = None; params = Some (params.Gact control) }

abbrev pub drop : ActionLine
drop = gact controls.Shot

abbrev pub named : ℕ → ActionLine
named index = record { kind = kinds.Gact; index = Some index; params = None }

-- a filter of chain 0 at the ingress hook, whose mask and key have one word each
abbrev pub filter_of : Proto → Option ℕ → Option ℕ → ℕ → ℕ → List ActionLine → FilterLine
filter_of protocol pref handle mask key actions = record {
  hook = hooks.Ingress;
  protocol = protocol;
  chain = 0;
  pref = pref;
  handle = handle;
  mask = record { words = mask ∷ [] };
  key = record { words = key ∷ [] };
  actions = actions;
}

-- `filter add .. protocol ip pref 10 flower dst_ip A action drop`, A being the key
abbrev pub on_address : ℕ → Edit
on_address key = edits.FilterAdd (filter_of ip (Some 10) None 255 key (drop ∷ []))

-- what the last of some edits is answered, after those before it
abbrev pub answered : List Edit → Edit → Stepped
answered before edit = step (state_from no_state before) edit

-- the refusal, or what was done
abbrev pub said : Stepped → Result Done Refusal
said (Ok (next, done)) = Ok done
said (Err refusal) = Err refusal

abbrev pub says : List Edit → Edit → Result Done Refusal
says before edit = said (answered before edit)

-- the serial, index, references and binds of each live action
abbrev pub counts_of : List Action → List (List ℕ)
counts_of [] = []
counts_of (action ∷ actions) = (action.serial ∷ action.index ∷ action.references ∷ action.binds ∷ [])
    ∷ counts_of actions
