use Rattle.std.proofs.Common.{rules, ◌≡◌, [], true, false, refl}
use Rattle.report_check.proofs.rechecking.closed_at.Goals as goal

pub returns-then-not-take_left-clause-check : goal.returns-then-not-take_left-clause-check
returns-then-not-take_left-clause-check c = λ loaded run journal is at.
    let no : c.take_left.result ≡ false = search rules in
    c.stuck_at.ensures.check loaded is (c.take_left.ensures.stuck no loaded run journal [] refl at)

pub returns-clause-check : goal.returns-clause-check
returns-clause-check c = λ loaded run journal is at.
    let yes : c.take_left.result ≡ true = search rules in
    c.ended_at.ensures.check loaded run journal is (c.take_left.ensures.taken yes loaded run journal [] at)

pub returns-clause-run : goal.returns-clause-run
returns-clause-run c = λ lawful loaded run journal at.
    let yes : c.take_left.result ≡ true = search rules in
    c.ended_at.ensures.run lawful loaded run journal (c.take_left.ensures.taken yes loaded run journal [] at)
