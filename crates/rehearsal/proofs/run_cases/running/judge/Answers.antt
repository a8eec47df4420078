use Rattle.std.proofs.Common.{arith}
use Rattle.tool_run.proofs.Passed.{events_few, packets_few}
use Rattle.rehearsal.proofs.run_cases.running.judge.Goals as goal

pub write_report-requires-clause-events : goal.write_report-requires-clause-events
write_report-requires-clause-events c = let few = events_few c.args.job.now c.args.run.now c.requires.job c.requires.run in omega (arith, few)

pub write_report-requires-clause-packets : goal.write_report-requires-clause-packets
write_report-requires-clause-packets c = let few = packets_few c.args.job.now c.args.run.now c.requires.job c.requires.run in omega (arith, few)
