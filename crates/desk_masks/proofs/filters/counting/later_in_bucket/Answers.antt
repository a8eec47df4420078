use Rattle.std.proofs.Common.{sym, subst}
use Rattle.store_history.specs.History.{root_of}
use Rattle.hook_store_law.specs.Stated.{filters_at}
use Rattle.hook_store_law.specs.OfEdits.Premises.{now}
use Rattle.desk_masks.specs.OfFilterCommits.Edits.{HasLater}
use Rattle.desk_masks.proofs.OfFilterCommits.Locating.{at_slot, later_there, found_later}
use Rattle.desk_masks.proofs.filters.counting.later_in_bucket.Goals as goal

pub later_than-requires-clause-slot : goal.later_than-requires-clause-slot
later_than-requires-clause-slot c = let t = c.requires.there in (at_slot t.2 c.args.masks.now t.0 t.1 t.5 c.args.slot t.3 t.6).small

pub later_than-requires-clause-there : goal.later_than-requires-clause-there
later_than-requires-clause-there c = let t = c.requires.there in
    (t.3, t.0, t.1, root_of t.2, _, _, _, t.6, t.5.named, later_there t.2 c.args.masks.now t.0 t.1 t.5 c.args.slot t.3 t.6 c.args.handle t.4 t.7)

pub returns-clause-count : goal.returns-clause-count
returns-clause-count c = λ shape cells h kept has stands. let d = c.later_than.ensures.count kept shape cells (root_of h) stands has.named in
    subst (HasLater kept.mask.size c.args.handle (filters_at (now h) kept.mask.serial)) (sym d.4) (found_later h c.args.masks.now shape cells has c.args.slot kept stands c.args.handle d.0 d.1 d.2 d.3)
