use Rattle.lawful_runs.proofs.laws.reports_of_runs.Goals as goal

pub returns : goal.returns
returns c = λ loaded run bytes lawful is. (run, lawful, is)
