use Rattle.std.proofs.Common.{◌∙◌, Some, sym, ap}
use Rattle.walk_rules.specs.Questions.{told_params}
use Rattle.fate_search.specs.Branches.{same_told}
use Rattle.fate_search.proofs.Alike.{decided}
use Rattle.fate_search.proofs.asked.ParamsAskedAsked.is_same.Goals as goal

pub returns-in-Some-clause-same : goal.returns-in-Some-clause-same
returns-in-Some-clause-same g c =
    decided c.are_same_params.result c.args.rooms.now.params c.in-Some.params c.are_same_params.ensures
    ∙ ap (same_told (Some (told_params c.args.rooms.now.params))) (sym c.in-Some.ensures.answer)
