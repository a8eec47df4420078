use Rattle.std.proofs.Common.{◌≡◌, ◌∙◌, ◌++◌, ◌∷◌, [], List, ap}
use Rattle.filter_state.specs.States.{no_state}
use Rattle.filter_state.specs.Journals.{state_from}
use Rattle.head_laws.proofs.ListedHeads.{heads_listed}
use Rattle.slot_pasts.specs.declared.past.Change.{Change}
use Rattle.slot_pasts.specs.Pasts.{value_at}
use Rattle.state_past_laws.proofs.Longer.{before_it, from_it}
use Rattle.walk_rules.specs.Questions.{Head}
use Rattle.change_points.proofs.Knowing.{first_known}
use Rattle.change_points.proofs.heads.HookHeads.begin.Goals as goal

pub returns-clause-knows : goal.returns-clause-knows
returns-clause-knows c = λ journal count spells.
    let value = c.in_ok-of.field-0 in
    let before = c.args.before in
    let is : c.put.new.self ≡ [] ++ (record { from = before; value = value } ∷ []) = c.in_ok-put.ensures.put
    ∙ ap (λ (past : List (Change (List Head))). past ++ (record { from = before; value = value } ∷ []))
    c.new-past.ensures in
    first_known c.args.hook before c.put.new.self value journal count
    (c.in_ok-of.ensures.tables ∙ heads_listed c.args.lists.now (state_from no_state journal) c.args.hook
    c.of.ensures.kept spells)
    (λ at less. ap (value_at at) is ∙ before_it at before value [] less)
    (λ at least. ap (value_at at) is ∙ from_it at before value [] least)
