use Rattle.std.proofs.Common.{◌∙◌, ◌∷◌, ◌++◌, [], List, take, sym, ap, arith}
use Rattle.state_past.specs.declared.gone_filters.going.GoingFilter.{GoingFilter}
use Rattle.state_past.proofs.Bringing.{take_more, take_whole}
use Rattle.filter_origins.specs.Noted.{all_taken, taken_at, place_at}
use Rattle.filter_origins.proofs.Followed.{all_taken_more}
use Rattle.filter_origins.proofs.filters.take_filters.Goals as goal

pub loop-filter-preserved : goal.loop-filter-preserved
loop-filter-preserved c = let g = c.filter-item.result in let i = c.loop-filter.filter-index in let gs = c.args.going.now in
    let more = take_more gs i g (omega (arith, c.loop-filter-test.true)) ∙ ap (λ (x : GoingFilter). take i gs ++ (x ∷ [])) (sym c.filter-item.is) in
    c.take_filter.ensures ∙ ap (taken_at c.args.edit (place_at c.args.edit c.args.slots.now g)) c.loop-filter.invariant
    ∙ sym (all_taken_more c.args.edit c.args.slots.now (take i gs) g c.args.brought.now)
    ∙ ap (λ (l : List GoingFilter). all_taken c.args.edit c.args.slots.now l c.args.brought.now) (sym more)

pub returns : goal.returns
returns c = c.loop-filter.invariant ∙ ap (λ (l : List GoingFilter). all_taken c.args.edit c.args.slots.now l c.args.brought.now) (take_whole c.args.going.now c.loop-filter.filter-index (omega (arith, c.loop-filter-test.false)))
