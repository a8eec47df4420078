use Rattle.std.proofs.Common.{◌≡◌, ◌∙◌, Some, sym, ap, option_map}
use Rattle.std.specs.Option.{option_copied}
use Rattle.action_plan.specs.Entries.{action_of}
use Rattle.filter_state.specs.Actions.{has_serial}
use Rattle.filter_state.specs.Tables.{first_where}
use Rattle.classify_walk.proofs.Serials.{entry_of, entry_stands, entry_fits, first_action}
use Rattle.plain_walk.proofs.actions.run_action.Goals as goal
use Rattle.plain_walk.proofs.actions.run_action.Goals.{In-Some}

found : (c : In-Some) → entry_of c.args.serial c.args.lists.now.actions.entries ≡ Some c.in-Some.entry.now
found c = ap (λ (kept : _). entry_of c.args.serial kept.entries) (sym c.actions.ensures.actions) ∙ sym c.of_serial.ensures ∙ ap option_copied c.in-Some.is

pub unreachable-requires : goal.unreachable-requires
unreachable-requires c =
    entry_stands c.args.lists.now c.args.serial c.requires.stands
    (ap (λ (kept : _). entry_of c.args.serial kept.entries) (sym c.actions.ensures.actions) ∙ sym c.of_serial.ensures ∙ ap option_copied c.in_default.is)

pub execute-requires-clause-fits : goal.execute-requires-clause-fits
execute-requires-clause-fits c =
    entry_fits c.args.lists.now c.args.serial c.in-Some.entry.now c.actions.ensures.kept (found (goal.at.execute-requires-clause-fits c).In-Some)

pub returns-clause-ran : goal.returns-clause-ran
returns-clause-ran c = λ s spelled. record {
  action = action_of c.in-Some.entry.now;
  live = ap (first_where (has_serial c.args.serial)) (sym spelled.actions)
      ∙ first_action c.args.serial c.args.lists.now.actions.entries
      ∙ ap (option_map action_of) (found (goal.at.returns-clause-ran c).In-Some);
  gave = c.execute.ensures.control;
  carried = c.execute.ensures.ran;
}
