use Rattle.std.proofs.Common.{◌∙◌, sym, ap, subst}
use Rattle.filter_state.specs.Journals.{IsLawful}
use Rattle.filter_origins.specs.Entries.{edits_of}
use Rattle.change_fates.specs.Told.{ChangeAt}
use Rattle.change_lines.specs.Passed.{Remembers}
use Rattle.change_lines.specs.Passed.{KnowsHeads}
use Rattle.change_fates.proofs.Knowing.{answering, lawful}
use Rattle.change_fates.proofs.known.Known.answers.Goals as goal

pub new-requires-clause-remembers : goal.new-requires-clause-remembers
new-requires-clause-remembers c = subst (Remembers c.self.inside.applied.now.replay.past) (sym c.deref.ensures.value) c.self.invariant.kept.remembers

pub new-requires-clause-knows : goal.new-requires-clause-knows
new-requires-clause-knows c = subst (KnowsHeads c.self.inside.applied.now.heads) (sym c.deref.ensures.value) c.self.invariant.heads

pub returns-clause-is : goal.returns-clause-is
returns-clause-is c =
    answering c.self.inside.applied.now c.self.inside.origins.now c.self.invariant c.args.self.now c.new.result c.deref.result.now c.self.view_is c.new.ensures c.deref.ensures.value

pub returns-clause-lawful : goal.returns-clause-lawful
returns-clause-lawful c =
    subst (λ (change : ChangeAt). IsLawful (edits_of change.entries)) c.self.view_is (lawful c.self.inside.applied.now c.self.inside.origins.now c.self.invariant)
