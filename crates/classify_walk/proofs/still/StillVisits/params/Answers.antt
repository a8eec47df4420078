use Rattle.std.proofs.Common.{◌≡◌, ◌∙◌, Some, sym, ap, refl}
use Rattle.std.specs.Option.{option_copied}
use Rattle.classify_walk.proofs.Serials.{entry_of, entry_stands, entry_fits, params_answered}
use Rattle.classify_walk.proofs.still.StillVisits.params.Goals as goal
use Rattle.classify_walk.proofs.still.StillVisits.params.Goals.{In-Some}

found : (c : In-Some) → entry_of c.args.action.serial c.args.self.now.lists.now.actions.entries ≡ Some c.in-Some.entry.now
found c = ap (λ (kept : _). entry_of c.args.action.serial kept.entries) (sym c.actions.ensures.actions) ∙ sym c.of_serial.ensures ∙ ap option_copied c.in-Some.is

pub unreachable-requires : goal.unreachable-requires
unreachable-requires c =
    entry_stands c.args.self.now.lists.now c.args.action.serial c.requires.known
    (ap (λ (kept : _). entry_of c.args.action.serial kept.entries) (sym c.actions.ensures.actions) ∙ sym c.of_serial.ensures ∙ ap option_copied c.in_default.is)

pub returns-clause-told : goal.returns-clause-told
returns-clause-told c = (
  record {
    kept = c.actions.ensures.kept;
    answers = λ s spelled. params_answered c.args.self.now.lists.now c.args.action.serial c.in-Some.entry.now s (found (goal.at.returns-clause-told c).In-Some) spelled;
    here = refl;
  },
  refl,
)

pub returns-clause-fits : goal.returns-clause-fits
returns-clause-fits c =
    entry_fits c.args.self.now.lists.now c.args.action.serial c.in-Some.entry.now c.actions.ensures.kept (found (goal.at.returns-clause-fits c).In-Some)
