use Rattle.std.proofs.Common.{◌≡◌, ◌∙◌, ◌<◌, List, length, take, get_or, ap, arith}
use Rattle.job_lines.specs.declared.job.Round.{Round}
use Rattle.lawful_runs.specs.Given.{batches_named}
use Rattle.round_terms.proofs.JobFiles.{there_at, round_few, first_few}
use Rattle.round_terms.proofs.batches.first_file.Goals as goal

pub overflow_add-first : goal.overflow_add-first
overflow_add-first c =
    let l = c.loop-at in
    let loaded = c.args.job.now in
    let few = first_few loaded l.at c.requires.loaded in
    let same : l.first ≡ batches_named (take l.at loaded.job.rounds) = l.invariant ∙ ap (λ (rs : List Round). batches_named (take l.at rs)) c.as_slice-rounds.ensures in
    let less = c.loop-at-test.true in
    let long = ap length c.as_slice-rounds.ensures in
    let range = c.requires.round.1 in
    let here : l.at < length c.as_slice-rounds.result.now = omega (arith, less, long, range) in
    let own = round_few loaded l.at (get_or c.as_slice-rounds.result.now l.at c.index-rounds-at.result) c.requires.loaded (there_at c.as_slice-rounds.result.now loaded.job.rounds l.at c.index-rounds-at.result c.as_slice-rounds.ensures here) in
    let size = ap length c.as_slice.ensures in
    let fits = c.ranges.round.fits in
    omega (arith, few, same, own, size, less, fits)
