use Rattle.std.proofs.Common.{◌∙◌, ℕ, List, refl, ap}
use Rattle.std.specs.Prelude.{true, get_or}
use Rattle.walk_rules.specs.declared.limits.TheConstants.{VISITS_MAX}
use Rattle.walk_rules.specs.Steps.{begun}
use Rattle.batch_trace.specs.Passed.{answer_by}
use Rattle.trace_lines.specs.Steps.{steps_of}
use Rattle.walk_trace.specs.Tallies.{count_at}
use Rattle.batch_trace.proofs.Pages.{page_made, tally_made}
use Rattle.report_trace.proofs.Noted.{listed_times}
use Rattle.report_trace.proofs.Steps.{steps_told}
use Rattle.report_trace.proofs.telling.tell_packet.Goals as goal

pub returns-clause-page : goal.returns-clause-page
returns-clause-page c =
    let told = steps_told c.answers-answers.result c.args.known.now c.args.lists.now c.args.room.now.points.items c.args.hook c.args.bytes.now c.answers-answers.ensures c.actions-actions.ensures.kept c.requires.lists in
    let same = ap (λ (ps : List ℕ). steps_of (answer_by c.answers-answers.result) (λ visit. get_or ps visit 0) VISITS_MAX (begun c.args.hook c.args.bytes.now)) c.as_slice.ensures.value ∙ told in
    page_made c.push_text.result (record { packet = c.args.number; points = true }) c.args.known.now c.names-names.result _ _ c.clear.new.self c.tell_walk.new.page c.push_text.new.self
    _ _ _ c.args.line.now c.names-names.ensures same c.clear.ensures c.in_ok-tell_walk.ensures.text refl refl refl c.push_text.ensures

pub returns-clause-tally : goal.returns-clause-tally
returns-clause-tally c =
    let told = steps_told c.answers-answers.result c.args.known.now c.args.lists.now c.args.room.now.points.items c.args.hook c.args.bytes.now c.answers-answers.ensures c.actions-actions.ensures.kept c.requires.lists in
    let same = ap (λ (ps : List ℕ). steps_of (answer_by c.answers-answers.result) (λ visit. get_or ps visit 0) VISITS_MAX (begun c.args.hook c.args.bytes.now)) c.as_slice.ensures.value ∙ told in
    tally_made c.push_text.result c.args.known.now c.names-names.result _ _ (count_at c.args.tally.now) (count_at c.note.new.self) c.names-names.ensures same
    (λ edit. listed_times c.args.tally.now c.note.new.self edit c.deref.result.now c.tell_walk.new.decided.items c.clear-2.new.self.items _ c.deref.ensures.value c.in_ok-tell_walk.ensures.decided c.clear-2.ensures.items (c.in_ok-note.ensures.counts edit))
