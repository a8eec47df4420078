use Rattle.std.proofs.Common.{◌≡◌, ◌∙◌, ℕ, Option, Some, None, sym}
use Rattle.report_check.proofs.OfReading.PacketParts.{shows_packet}
use Rattle.report_trace.proofs.telling.read_packet.Goals as goal

pub unreachable-requires : goal.unreachable-requires
unreachable-requires c =
    let r = c.requires in
    let shows = shows_packet c.args.line.now r.0 r.1 r.2 r.3 in
    let both = c.in_ok-worker.ensures.shown r.0 r.1.worker r.1.points shows in
    let none : ◌≡◌ {A = Option ℕ} None (Some r.1.worker) = sym c.in-None.is ∙ both.0 in
    absurd (cc none)

pub returns : goal.returns
returns c = λ number outcome small is.
    let shows = shows_packet c.args.line.now number outcome small is in
    let both = c.in_ok-worker.ensures.shown number outcome.worker outcome.points shows in
    let some : ◌≡◌ {A = Option ℕ} (Some c.in-Some.worker) (Some outcome.worker) = sym c.in-Some.is ∙ both.0 in
    (cc some, both.1)
