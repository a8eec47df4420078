use Rattle.rehearsal.proofs.run_cases.running.run_loaded.Goals as goal

pub returns : goal.returns
returns g c = (_, c.in_ok-run.ensures.run)
