use Rattle.std.proofs.Common.{◌∙◌, ap, arith}
use Rattle.std.specs.Option.{option_and_then}
use Rattle.filter_state.specs.Journals.{state_at}
use Rattle.state_laws.proofs.Steps.{journal_sound}
use Rattle.filter_origins.specs.Entries.{edits_of, line_at}
use Rattle.filter_origins.proofs.Lived.{given, brought_there, has_maker}
use Rattle.filter_origins.proofs.laws.action_has_line.Goals as goal

pub returns : goal.returns
returns c = λ entries point serial lawful within live.
    let range = given (state_at point (edits_of entries)) serial (journal_sound (edits_of entries) point lawful) live in
    let it = brought_there (edits_of entries) lawful serial range.0 point within range.1 in
    let less = it.before in
    let by = has_maker entries it.place (omega (arith, less, within)) in
    (it.place, by.0, it.before, it.brought, by.1, ap (option_and_then (line_at entries)) it.brought ∙ by.1)
