use Rattle.std.proofs.Common.{◌≡◌, ◌∙◌, slice_set, subst}
use Rattle.store_history.specs.History.{root_of}
use Rattle.pin_store.specs.Calls.{seen_by}
use Rattle.kept_records.specs.OfThings.Places.{place_of, kept_as}
use Rattle.kept_records.proofs.renewing.read_mask.Goals as goal

pub returns-clause-places : goal.returns-clause-places
returns-clause-places g c = subst (λ thing. c.keep.new.self ≡ slice_set c.args.masks.now (place_of c.args.root) (kept_as c.args.root c.args.word.stamp thing))
    (c.mask_of.ensures (root_of (seen_by c.args.reader.now.place) c.args.root).chain c.load_first-words.ensures.words) c.keep.ensures.places

pub returns-clause-there : goal.returns-clause-there
returns-clause-there g c = c.keep.ensures.there ∙ c.mask_of.ensures (root_of (seen_by c.args.reader.now.place) c.args.root).chain c.load_first-words.ensures.words
