use Rattle.std.proofs.Common.{ℕ, ◌-◌, ap}
use Rattle.walk_ends.specs.declared.limits.TheConstants.{PACKETS_MAX}
use Rattle.std.proofs.lemmas.Result.{err_from_is_err_and}
use Rattle.job_files.proofs.Asking.{asked_under}
use Rattle.job_files.proofs.Adding.{capture_grows}
use Rattle.job_files.proofs.files.LoadedFiles.add_capture.Goals as goal

pub returns-clause-done : goal.returns-clause-done
returns-clause-done g c =
    capture_grows (g.S.Shelf.held c.args.shelf.now) c.args.self.now c.self.inside.batches.items
    c.self.inside.captures.items c.push.new.self.items c.args.name.now c.text_of.result.now
    c.in_ok-capture.capture (PACKETS_MAX - c.self.inside.packets) c.self.view_is c.text_of.ensures
    (ap (λ (n : ℕ). PACKETS_MAX - n) c.self.invariant.packets_are) c.in_ok-capture.ensures.capture
    c.in_ok-push.ensures.items

pub returns-in_err-push-clause-fetched : goal.returns-in_err-push-clause-fetched
returns-in_err-push-clause-fetched g c =
    let p = err_from_is_err_and c.from_residual-in_err-push.result c.from_residual-in_err-push.ensures.1 in
    rw p.1 (asked_under (g.S.Shelf.fetched c.args.shelf.now) (g.S.Shelf.fetched c.load_capture.new.shelf)
    c.text_of.result.now c.args.name.now c.text_of.ensures c.in_ok-capture.ensures.fetched)
