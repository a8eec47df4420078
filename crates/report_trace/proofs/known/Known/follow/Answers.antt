use Rattle.std.proofs.Common.{◌∙◌, List, length, sym, ap, subst, arith}
use Rattle.filter_state.specs.declared.edit.Edit.{Edit}
use Rattle.filter_state.specs.Journals.{state_at, IsLawful}
use Rattle.filter_lists.specs.Spells.{Spells}
use Rattle.batch_trace.specs.Passed.{edits_of}
use Rattle.report_trace.proofs.Knowing.{journal_of, long}
use Rattle.report_trace.proofs.Walkers.{stands_at}
use Rattle.report_trace.proofs.known.Known.follow.Goals as goal

pub follow-requires-clause-lawful : goal.follow-requires-clause-lawful
follow-requires-clause-lawful c = subst IsLawful (sym c.deref.ensures.value) c.self.invariant.kept.remembers.lawful

pub follow-requires-clause-short : goal.follow-requires-clause-short
follow-requires-clause-short c = let few = c.self.invariant.few in let same = ap length c.deref.ensures.value in omega (arith, few, same)

pub follow-requires-clause-lists : goal.follow-requires-clause-lists
follow-requires-clause-lists c =
    let edits = edits_of c.args.self.now in
    let same = journal_of c.self.inside.replay.now c.self.inside.origins.now c.args.self.now c.self.invariant c.self.view_is ∙ sym c.deref.ensures.value in
    let stands = c.go_before.ensures.stands edits c.requires.stands in
    subst (λ (es : List Edit). Spells c.go_before.new.walker.lists (state_at c.go_before.new.walker.at es)) same stands.spells

pub follow-requires-clause-points : goal.follow-requires-clause-points
follow-requires-clause-points c =
    let many = long c.self.inside.replay.now c.self.inside.origins.now c.args.self.now c.self.invariant c.self.view_is in
    let same = ap length c.deref.ensures.value in
    let within = c.requires.point in
    (c.go_before.ensures.before, omega (arith, many, same, within))

pub returns-clause-stands : goal.returns-clause-stands
returns-clause-stands c =
    let edits = journal_of c.self.inside.replay.now c.self.inside.origins.now c.args.self.now c.self.invariant c.self.view_is in
    let many = long c.self.inside.replay.now c.self.inside.origins.now c.args.self.now c.self.invariant c.self.view_is in
    let same = ap length edits in
    let within = c.requires.point in
    stands_at c.follow.result c.deref.result.now (edits_of c.args.self.now) c.follow.new.self c.args.point (c.deref.ensures.value ∙ sym edits) (omega (arith, many, same, within)) c.follow.ensures.lists c.follow.ensures.at
