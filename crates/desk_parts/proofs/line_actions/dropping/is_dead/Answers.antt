use Rattle.std.proofs.Common.{Some, None, refl, ap}
use Rattle.desk_parts.proofs.OfLineActions.Finding.{entry_terms}
use Rattle.desk_parts.proofs.line_actions.dropping.is_dead.Goals as goal

pub returns-in-Some : goal.returns-in-Some
returns-in-Some c = let there = entry_terms c.args.serial c.actions.result.now.entries c.args.lists.now.actions.entries (Some c.in-Some.field-0.now) (ap (λ r. r.entries) c.actions.ensures.actions) c.in-Some.ensures in
    ((λ dead. absurd (cc dead)), (λ none. absurd (cc (there, none))))

pub returns-in-None : goal.returns-in-None
returns-in-None c = let none = entry_terms c.args.serial c.actions.result.now.entries c.args.lists.now.actions.entries None (ap (λ r. r.entries) c.actions.ensures.actions) c.in-None.ensures in
    ((λ dead. none), (λ is. refl))
