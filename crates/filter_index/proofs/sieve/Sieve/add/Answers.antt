use Rattle.std.proofs.Common.{◌*◌, ◌/◌, ◌%◌, ◌^◌, bit_or, ap, ◌∙◌}
use Rattle.filter_index.specs.Sieves.{MarkedPlaces}
use Rattle.filter_index.proofs.Sieving.{mark_added}
use Rattle.filter_index.proofs.sieve.Sieve.add.Goals as goal

pub returns-clause-marks : goal.returns-clause-marks
returns-clause-marks c = λ other.
    mark_added c.args.self.now _ c.args.key.now.words other c.mark.result (c.mark.ensures.mark ∙ ap (λ sum. sum / 2 ^ 58) c.sum.ensures) c.mark.ensures.below
    (ap (λ (s : MarkedPlaces). record s { marks = bit_or s.marks (1 * 2 ^ c.mark.result % 2 ^ 64) }) c.self.view_is)
