use Rattle.std.proofs.Common.{◌-◌, get_or, refl}
use Rattle.round_terms.specs.Files.{files_of}
use Rattle.round_terms.proofs.JobFiles.{are_files}
use Rattle.round_terms.proofs.Lining.{IsStanding, if_none, standing, none_behind, line_there}
use Rattle.round_terms.proofs.next_lines.next_line.Goals as goal

pub returns-in_err-found-clause-none : goal.returns-in_err-found-clause-none
returns-in_err-found-clause-none c =
    let files = files_of c.args.job.now c.args.round in
    let batch = c.in_ok-batch.batch in
    let it : IsStanding files c.args.places.now c.args.control batch.force batch.bytes.now (get_or c.args.places.now (c.args.control - 1) _) =
    standing files c.args.places.now c.requires.within c.args.control batch.force batch.bytes.now _ c.in_ok-batch.ensures.some _ refl in
    if_none c.from_residual-in_err-found.result _ (none_behind files c.args.places.now c.args.job.now.job.controls (are_files c.args.job.now c.args.round c.requires.loaded) c.args.control batch.force batch.bytes.now _ it c.if-place.false c.in_err-found.ensures.none)

pub returns-clause-some : goal.returns-clause-some
returns-clause-some c =
    let files = files_of c.args.job.now c.args.round in
    let batch = c.in_ok-batch.batch in
    let found = c.in_ok-found.found in
    let it : IsStanding files c.args.places.now c.args.control batch.force batch.bytes.now (get_or c.args.places.now (c.args.control - 1) _) =
    standing files c.args.places.now c.requires.within c.args.control batch.force batch.bytes.now _ c.in_ok-batch.ensures.some _ refl in
    line_there files c.args.places.now c.args.control batch.force batch.bytes.now _ found.text.now found.line found.next it c.if-place.false c.in_ok-found.ensures.some
