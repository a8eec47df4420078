use Rattle.std.proofs.Common.{◌∙◌, rules, tests}
use Rattle.std.proofs.lemmas.Iterator.{YieldsList-from_slice}
use Rattle.std.proofs.lemmas.Iterator.Search.{position_from_yields_List}
use Rattle.filter_tables.specs.SeenMask.{plain_mask}
use Rattle.filter_tables.specs.Changes.{has_words}
use Rattle.filter_tables.proofs.Places.{place_is_position}
use Rattle.filter_tables.proofs.mask_edits.place_of_mask.Goals as goal

pub returns : goal.returns
returns c =
    position_from_yields_List (λ m. has_words c.args.mask.now.words (plain_mask m)) _ _ c.position.result c.position.ensures.ran (YieldsList-from_slice c.args.lists.now c.iter.ensures.rest)
    (λ x b q k. search (rules, tests))
    ∙ place_is_position plain_mask (has_words c.args.mask.now.words) c.args.lists.now
