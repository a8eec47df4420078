use Rattle.std.proofs.Common.{◌≡◌, ◌∙◌, List, Bool, Result, Ok, Err, sym, ap, subst}
use Rattle.std.specs.Prelude.{IfOk, OnOk}
use Rattle.batch_run.specs.Commands.{Command, commands_from, commands_of, commands_in}
use Rattle.change_fates.specs.Passed.{Changed, IsChanged}
use Rattle.tool_run.specs.Foresights.{IsChangeOf}
use Rattle.tool_run.proofs.run_foresee.tell.Given as given
use Rattle.tool_run.proofs.run_foresee.tell.Goals as goal

-- the commands that were read are those of the files
same_change : (batch change read_batch read_change : List Command) (force : Bool) (changed : Changed)
    → read_batch ≡ batch → read_change ≡ change → IsChanged batch change force changed
    → IsChanged read_batch read_change force changed
same_change batch change read_batch read_change force changed one other is =
    subst (λ (it : List Command). IsChanged it read_change force changed) (sym one)
    (subst (λ (it : List Command). IsChanged batch it force changed) (sym other) is)

its : (g : given.Over) (c : goal.After-drop-batch-2 g) → (changed : Changed)
    → IsChangeOf c.args.files.now c.args.force changed
    → IsChanged (commands_in c.deref.result.now) (commands_in c.deref-2.result.now) c.args.force changed
its g c changed =
    same_change (commands_of c.args.files.now.batch) (commands_of c.args.files.now.change)
    (commands_in c.deref.result.now) (commands_in c.deref-2.result.now) c.args.force changed
    (ap commands_in c.deref.ensures.value ∙ ap (commands_from 1) c.in_ok-batch.ensures
    ∙ ap commands_of c.as_slice.ensures)
    (ap commands_in c.deref-2.ensures.value ∙ ap (commands_from 1) c.in_ok-change.ensures
    ∙ ap commands_of c.as_slice-2.ensures)

-- what is told of an Ok leads to another
on_ok : {A E P Q : Type 0} (it : Result A E) → OnOk it P → (P → Q) → OnOk it Q
on_ok (Ok a) told leads = leads told
on_ok (Err e) told leads = tt

both_ok : {A E : Type 0} {P Q R : A → Type 0} (it : Result A E) → IfOk it P → IfOk it Q
    → ((a : A) → P a → Q a → R a) → IfOk it R
both_ok (Ok a) one other leads = leads a one other
both_ok (Err e) one other leads = tt

pub returns-clause-all : goal.returns-clause-all
returns-clause-all g c =
    on_ok c.foresee.result c.foresee.ensures.all (λ all changed is. all changed (its g c changed is))

pub returns-clause-up_to : goal.returns-clause-up_to
returns-clause-up_to g c = λ changed is. c.foresee.ensures.up_to changed (its g c changed is)

pub returns-clause-counts : goal.returns-clause-counts
returns-clause-counts g c =
    both_ok c.foresee.result c.foresee.ensures.refused c.foresee.ensures.hitless
    (λ foreseen refused hitless changed is. (refused changed (its g c changed is), hitless changed (its g c changed is)))
