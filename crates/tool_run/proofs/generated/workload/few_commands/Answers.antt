use Rattle.tool_run.proofs.OfGenerated.LineFeeds.{few}
use Rattle.tool_run.proofs.generated.workload.few_commands.Goals as goal

pub returns : goal.returns
returns c = few
