use Rattle.std.proofs.Common.{◌≡◌, length, ◌∙◌, subst, arith}
use Rattle.flow_mask.specs.Places.{HasPlaces}
use Rattle.filter_index.proofs.Covering.{sum_is_digest}
use Rattle.filter_index.proofs.filters.Filters.with_frame.Goals as goal

pub with_masked-requires-clause-listed : goal.with_masked-requires-clause-listed
with_masked-requires-clause-listed c =
    let long : length c.args.mask.now.words ≡ 14 = omega arith in
    subst (λ n. HasPlaces c.args.mask.now.words n c.args.sieve.now.places c.args.sieve.now.count) long (c.requires.looks.listed c.requires.covered.fits)

pub with_masked-requires-clause-sought : goal.with_masked-requires-clause-sought
with_masked-requires-clause-sought c =
    c.requires.sum ∙ sum_is_digest c.args.sieve.now c.args.mask.now.words c.args.frame.now.words c.requires.looks c.requires.covered.fits (omega arith)
