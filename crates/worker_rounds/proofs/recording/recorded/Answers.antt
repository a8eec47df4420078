use Rattle.std.proofs.Common.{rules, map, ◌≡◌, ◌∙◌, ap, sym}
use Rattle.walk_rules.specs.Steps.{Execution}
use Rattle.walk_rules.specs.Walks.{Outcome as WalkOutcome, outcome_of}
use Rattle.worker_rounds.proofs.Recorded.{end_of_walk, executed_are, some_holds}
use Rattle.worker_rounds.proofs.recording.recorded.Goals as goal

pub returns-clause-recorded : goal.returns-clause-recorded
returns-clause-recorded c = λ done is.
    let st = c.args.walk.now.standing in
    let e = end_of_walk st done is in
    let bytes : c.bytes.result.now ≡ st.frame.bytes = search rules in
    let meta : c.meta.result ≡ st.frame.meta = search rules in
    record {
      verdict = some_holds (λ (o : WalkOutcome). c.verdict.result ≡ o.verdict) (outcome_of st) done is c.verdict.ensures;
      bytes = bytes ∙ ap (λ f. f.bytes) (sym e.0);
      meta = meta ∙ ap (λ f. f.meta) (sym e.0);
      executed = executed_are c.executed.result.now st.executed c.executed.ensures.same ∙ ap (map (λ (x : Execution). (x.serial, x.length))) (sym e.1);
    }
