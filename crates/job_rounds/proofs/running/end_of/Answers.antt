use Rattle.std.proofs.Common.{List, map, Vec, Global, sym, ap, subst, ◌∙◌}
use Rattle.batch_run.specs.declared.made_action.MadeAction.{MadeAction}
use Rattle.run_report.specs.declared.rounds.RoundRecord.{RoundRecord}
use Rattle.lawful_runs.specs.Lawful.{outcomes_in}
use Rattle.job_rounds.specs.OfRoundState.Rounds.{store_name}
use Rattle.job_rounds.specs.SoFar.{all_made}
use Rattle.job_rounds.specs.Counted.{AreCounted, lines_of}
use Rattle.job_rounds.proofs.Whole.{job_ends}
use Rattle.job_rounds.proofs.running.end_of.Goals as goal

pub returns : goal.returns
returns g c = λ first far. let told = c.in-Ok.ensures in
    job_ends _ _ _ (store_name c.args.store.now) c.args.job.now first c.args.course far c.from_vec.result (sym c.from_vec.ensures) c.in-Ok.counters c.in-Ok-readers_of.readers told.0
    (subst (λ (rs : List RoundRecord). AreCounted (outcomes_in rs) told.0) c.deref.ensures.value told.1)
    (told.2 ∙ ap (λ (ms : List (Vec MadeAction Global)). lines_of told.0 (all_made (map (λ (m : Vec MadeAction Global). m.items) ms))) c.deref-2.ensures.value)
    c.in-Ok-readers_of.ensures
