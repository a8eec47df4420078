use Rattle.std.proofs.Common.{◌≡◌, ◌∙◌, Some, None, refl, sym, ap, rules}
use Rattle.std.specs.Prelude.{option_map}
use Rattle.std.specs.Option.{option_copied}
use Rattle.action_plan.specs.Entries.{action_of, actions_of}
use Rattle.filter_state.specs.Actions.{has_serial}
use Rattle.filter_state.specs.Tables.{first_where}
use Rattle.tc_report.proofs.Bound.{first_found, named_words}
use Rattle.tc_report.proofs.shown_filters.push_bound.Goals as goal

pub returns-in-Some : goal.returns-in-Some
returns-in-Some c =
    let e : first_where (has_serial c.args.serial) (actions_of c.args.actions.now.entries) ≡ Some (action_of c.in-Some.entry.now) =
    first_found c.args.serial c.args.actions.now.entries ∙ ap (option_map action_of) (sym c.of_serial.ensures ∙ ap option_copied c.in-Some.is) in
    rw (named_words _ _ e) (search rules)

pub returns-in-None : goal.returns-in-None
returns-in-None c =
    let e : first_where (has_serial c.args.serial) (actions_of c.args.actions.now.entries) ≡ None =
    first_found c.args.serial c.args.actions.now.entries ∙ ap (option_map action_of) (sym c.of_serial.ensures ∙ ap option_copied c.in-None.is) in
    rw e refl
