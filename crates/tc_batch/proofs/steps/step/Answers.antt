use Rattle.std.proofs.Common.{◌≡◌, ◌∙◌, ℕ, List, Option, sym, ap}
use Rattle.tc_batch.specs.declared.draft.Draft.{Draft}
use Rattle.tc_batch.specs.declared.stage.Stage.{Stage}
use Rattle.tc_batch.specs.declared.stage.Stage.TheVariants as stages
use Rattle.tc_batch.specs.States.{State, state_of}
use Rattle.tc_batch.specs.Machine.{next_state}
use Rattle.tc_batch.proofs.steps.step.Goals as goal

-- the stage is the one that the match found
found : (draft : Draft) (stage at : Stage) (word : List ℕ) (next : Option State) → stage ≡ at → next ≡ next_state (state_of draft at) word → next ≡ next_state (state_of draft stage) word
found draft stage at word next is goes = goes ∙ sym (ap (λ (s : Stage). next_state (state_of draft s) word) is)

pub returns-in-Start : goal.returns-in-Start
returns-in-Start c = found c.args.draft.now c.args.stage.now stages.Start c.args.word.now _ c.in-Start.is (c.after_start.ensures c.args.draft.now)

pub returns-in-Qdisc : goal.returns-in-Qdisc
returns-in-Qdisc c = found c.args.draft.now c.args.stage.now stages.Qdisc c.args.word.now _ c.in-Qdisc.is (c.after_qdisc.ensures c.args.draft.now)

pub returns-in-QdiscDev : goal.returns-in-QdiscDev
returns-in-QdiscDev c = found c.args.draft.now c.args.stage.now (stages.QdiscDev c.in-QdiscDev.verb) c.args.word.now _ c.in-QdiscDev.is (c.after_text.ensures c.args.draft.now)

pub returns-in-QdiscName : goal.returns-in-QdiscName
returns-in-QdiscName c = found c.args.draft.now c.args.stage.now (stages.QdiscName c.in-QdiscName.verb) c.args.word.now _ c.in-QdiscName.is (c.after_text-in-QdiscName.ensures c.args.draft.now)

pub returns-in-QdiscClsact : goal.returns-in-QdiscClsact
returns-in-QdiscClsact c = found c.args.draft.now c.args.stage.now (stages.QdiscClsact c.in-QdiscClsact.verb) c.args.word.now _ c.in-QdiscClsact.is (c.after_text-in-QdiscClsact.ensures c.args.draft.now)

pub returns-in-Filter : goal.returns-in-Filter
returns-in-Filter c = found c.args.draft.now c.args.stage.now stages.Filter c.args.word.now _ c.in-Filter.is (c.after_filter.ensures c.args.draft.now)

pub returns-in-FilterDev : goal.returns-in-FilterDev
returns-in-FilterDev c = found c.args.draft.now c.args.stage.now (stages.FilterDev c.in-FilterDev.verb) c.args.word.now _ c.in-FilterDev.is (c.after_text-in-FilterDev.ensures c.args.draft.now)

pub returns-in-FilterName : goal.returns-in-FilterName
returns-in-FilterName c = found c.args.draft.now c.args.stage.now (stages.FilterName c.in-FilterName.verb) c.args.word.now _ c.in-FilterName.is (c.after_text-in-FilterName.ensures c.args.draft.now)

pub returns-in-Actions : goal.returns-in-Actions
returns-in-Actions c = found c.args.draft.now c.args.stage.now stages.Actions c.args.word.now _ c.in-Actions.is (c.after_actions.ensures c.args.draft.now)

pub returns-in-DelKind : goal.returns-in-DelKind
returns-in-DelKind c = found c.args.draft.now c.args.stage.now stages.DelKind c.args.word.now _ c.in-DelKind.is (c.after_del.ensures c.args.draft.now)

pub returns-in-DelIndex : goal.returns-in-DelIndex
returns-in-DelIndex c = found c.args.draft.now c.args.stage.now (stages.DelIndex c.in-DelIndex.kind) c.args.word.now _ c.in-DelIndex.is (c.after_text-in-DelIndex.ensures c.args.draft.now)

pub returns-in-DelNumber : goal.returns-in-DelNumber
returns-in-DelNumber c = found c.args.draft.now c.args.stage.now (stages.DelNumber c.in-DelNumber.kind) c.args.word.now _ c.in-DelNumber.is (c.after_del_index.ensures c.args.draft.now)

pub returns-in-ActionsAction : goal.returns-in-ActionsAction
returns-in-ActionsAction c =
    found c.args.draft.now c.args.stage.now (stages.ActionsAction c.in-ActionsAction.verb) c.args.word.now _ c.in-ActionsAction.is (c.after_action_verb.ensures c.args.draft.now)
