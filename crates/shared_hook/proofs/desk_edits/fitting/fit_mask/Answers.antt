use Rattle.std.proofs.Common.{◌≡◌, ◌≢◌, ◌∙◌, ℕ, ◌/◌, sym, ap}
use Rattle.flow_mask.specs.Sizes.{size_of}
use Rattle.desk_needs.specs.OfEditNeeds.Told.{rows_anew}
use Rattle.shared_hook.proofs.OfDeskEdits.Settled.{desk_settled}
use Rattle.shared_hook.proofs.OfDeskEdits.Counts.{rows_when, counted_as}
use Rattle.shared_hook.proofs.desk_edits.fitting.fit_mask.Goals as goal

pub returns-then-size_for-clause-rows : goal.returns-then-size_for-clause-rows
returns-then-size_for-clause-rows g c = let was = c.args.parts.now in let u = c.requires.unsettled in let slot = c.args.slot in let before = c.args.before in let after = c.args.after in
    let it = u.1.has.masks.has u.0 slot u.1.at in
    let other : size_of after ≢ size_of before = λ same. c.if-size_for.true (c.size_for.ensures.size ∙ same ∙ sym c.size_for-2.ensures.size) in
    counted_as was.pools.rows c.resize_mask.new.parts.pools.rows (size_of after / 16) (rows_anew before after) (it.kept.mask.size / 16) (rows_anew after before)
    (sym (rows_when before after other)) (ap (λ (n : ℕ). n / 16) (u.3 it.kept it.stands) ∙ sym (rows_when after before (λ same. other (sym same)))) (c.resize_mask.ensures.rows it.kept it.stands)

pub returns-else-size_for-clause-desk : goal.returns-else-size_for-clause-desk
returns-else-size_for-clause-desk g c = let was = c.args.parts.now in let u = c.requires.unsettled in let slot = c.args.slot in let before = c.args.before in let after = c.args.after in
    let it = u.1.has.masks.has u.0 slot u.1.at in
    let same : size_of before ≡ size_of after = sym c.size_for-2.ensures.size ∙ sym c.if-size_for.false ∙ c.size_for.ensures.size in
    desk_settled was u.0 slot u.1 it.kept it.stands (u.3 it.kept it.stands ∙ same ∙ ap size_of u.2)
