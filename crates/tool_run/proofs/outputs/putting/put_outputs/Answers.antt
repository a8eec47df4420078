use Rattle.tool_run.proofs.OfOutputs.Finished.{finished_ready}
use Rattle.tool_run.proofs.outputs.putting.put_outputs.Goals as goal

pub put_rounds-requires : goal.put_rounds-requires
put_rounds-requires g c =
    rw (c.as_slice-rounds.ensures, c.as_slice-captures.ensures, c.as_slice.ensures)
    (finished_ready c.args.loaded.now c.args.run.now c.requires.loaded c.requires.run)
