use Rattle.std.proofs.Common.{ℕ, ◌-◌, ap}
use Rattle.batch_run.specs.declared.limit.TheConstants.{COMMANDS_MAX}
use Rattle.std.proofs.lemmas.Result.{err_from_is_err_and}
use Rattle.job_files.proofs.Asking.{asked_under}
use Rattle.job_files.proofs.Adding.{batch_grows}
use Rattle.job_files.proofs.files.LoadedFiles.add_batch.Goals as goal

pub returns-clause-done : goal.returns-clause-done
returns-clause-done g c =
    batch_grows (g.S.Shelf.held c.args.shelf.now) c.args.self.now c.self.inside.batches.items
    c.push.new.self.items c.self.inside.captures.items c.args.name.now c.text_of.result.now
    c.in_ok-batch.batch.bytes (COMMANDS_MAX - c.self.inside.commands) c.self.view_is c.text_of.ensures
    (ap (λ (n : ℕ). COMMANDS_MAX - n) c.self.invariant.commands_are) c.in_ok-batch.ensures.batch
    c.in_ok-push.ensures.items

pub returns-in_err-push-clause-fetched : goal.returns-in_err-push-clause-fetched
returns-in_err-push-clause-fetched g c =
    let p = err_from_is_err_and c.from_residual-in_err-push.result c.from_residual-in_err-push.ensures.1 in
    rw p.1 (asked_under (g.S.Shelf.fetched c.args.shelf.now) (g.S.Shelf.fetched c.load_batch.new.shelf)
    c.text_of.result.now c.args.name.now c.text_of.ensures c.in_ok-batch.ensures.fetched)
