use Rattle.std.proofs.Common.{sym, ap, ◌∙◌, arith}
use Rattle.std.proofs.lemmas.Result.{err_from_is_err_and}
use Rattle.act_kinds.specs.Params.{kind_of, kind_number, number_of_kind}
use Rattle.act_registry.specs.Kept.{make_refusal}
use Rattle.filter_state.specs.Actions.{index_or_free}
use Rattle.action_plan.specs.Entries.{actions_of}
use Rattle.filter_lists.specs.Faults.{refusal_for}
use Rattle.filter_lists.proofs.Made.{make_refused, make_accepted}
use Rattle.filter_lists.proofs.Planned.{refused_as, wants_memory, leads_to_make}
use Rattle.filter_lists.proofs.shared.plan_make.Goals as goal

pub returns-in-Err-clause-planned : goal.returns-in-Err-clause-planned
returns-in-Err-clause-planned c =
    let old = c.args.kept.now in
    let free = index_or_free c.args.index (kind_of c.args.params) (actions_of old.actions.entries) in
    let why = c.in-Err.ensures ∙ ap (λ n. make_refusal kind_number n c.args.index old.actions) (c.number.ensures ∙ ap number_of_kind c.kind.ensures) in
    refused_as old _ c.refusal_for.result _ (make_refused old c.args.params c.args.index free c.in-Err.fault why)
    (c.refusal_for.ensures ∙ ap (λ k. refusal_for k 0 c.in-Err.fault) c.kind-in-Err.ensures)

pub returns-clause-planned : goal.returns-clause-planned
returns-clause-planned c =
    let old = c.args.kept.now in
    let free = c.in-Ok.ensures ∙ ap (λ n. make_refusal kind_number n c.args.index old.actions) (c.number.ensures ∙ ap number_of_kind c.kind.ensures) in
    leads_to_make old c.reserve.new.self c.args.params c.args.index free c.in_ok-reserve.ensures.entries c.in_ok-reserve.ensures.made (omega (arith, c.in_ok-reserve.ensures.room))

pub returns-in_err-reserve-clause-planned : goal.returns-in_err-reserve-clause-planned
returns-in_err-reserve-clause-planned c =
    let old = c.args.kept.now in
    let index = index_or_free c.args.index (kind_of c.args.params) (actions_of old.actions.entries) in
    let free = c.in-Ok.ensures ∙ ap (λ n. make_refusal kind_number n c.args.index old.actions) (c.number.ensures ∙ ap number_of_kind c.kind.ensures) in
    let refused = err_from_is_err_and c.from_residual.result c.from_residual.ensures.1 in
    rw (refused.1, refused.2) (wants_memory old _ _ (make_accepted old c.args.params c.args.index index (sym free)))
