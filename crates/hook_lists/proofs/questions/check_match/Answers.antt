use Rattle.std.proofs.Common.{ℕ, List, Option, sym, ◌∙◌, ap}
use Rattle.std.specs.Prelude.{find}
use Rattle.filter_index.specs.Listed.{FilterRoom, has_key}
use Rattle.filter_tables.specs.Seen.{plain_table}
use Rattle.filter_tables.specs.SeenMask.{plain_mask}
use Rattle.row_laws.specs.OfLookups.Asked.{unless_left_out}
use Rattle.hook_lists.proofs.Asked.{IsAt, existing, exists_found, exists_unmasked, exists_nowhere}
use Rattle.hook_lists.proofs.Sought.{place_within}
use Rattle.hook_lists.proofs.questions.check_match.Goals as goal

-- the filter of a key, unless it is the one to be left out
abbrev other_in : Option ℕ → List ℕ → FilterRoom → Option ℕ
other_in left key room = unless_left_out left (find (has_key key) room.filters)

pub returns-in_default : goal.returns-in_default
returns-in_default c =
    sym (exists_nowhere c.args.kept.now c.args.hook c.args.chain c.args.pref c.args.left c.args.mask.now.words c.args.key.now.words (sym c.requires.place ∙ c.in_default.is))

pub table_at-requires : goal.table_at-requires
table_at-requires c = place_within _ _ _ (sym c.requires.place ∙ c.in-Some.is)

pub returns-in_default-find_mask : goal.returns-in_default-find_mask
returns-in_default-find_mask c =
    let t = plain_table c.table_at.result.now in
    let at : IsAt c.args.kept.now c.args.hook c.args.chain c.args.pref c.in-Some.place t = record { found = sym c.requires.place ∙ c.in-Some.is; there = c.table_at.ensures } in
    sym (exists_unmasked c.args.kept.now c.args.hook c.args.chain c.args.pref c.in-Some.place c.args.left c.args.mask.now.words c.args.key.now.words t c.requires.kept at
    (sym c.find_mask.ensures ∙ c.in_default-find_mask.is))

pub mask_at-requires : goal.mask_at-requires
mask_at-requires c = place_within _ _ _ (sym c.find_mask.ensures ∙ c.in-Some-find_mask.is)

pub returns-in-Some-other_with_key : goal.returns-in-Some-other_with_key
returns-in-Some-other_with_key c =
    let t = plain_table c.table_at.result.now in
    let m = plain_mask c.mask_at.result.now in
    let at : IsAt c.args.kept.now c.args.hook c.args.chain c.args.pref c.in-Some.place t = record { found = sym c.requires.place ∙ c.in-Some.is; there = c.table_at.ensures } in
    sym (exists_found c.args.kept.now c.args.hook c.args.chain c.args.pref c.in-Some.place c.in-Some-find_mask.at c.args.left c.args.mask.now.words c.args.key.now.words t m c.requires.kept at
    (sym c.find_mask.ensures ∙ c.in-Some-find_mask.is) c.mask_at.ensures
    ∙ ap existing (ap (other_in c.args.left c.args.key.now.words) (sym c.filters.ensures) ∙ sym c.other_with_key.ensures ∙ c.in-Some-other_with_key.is))

pub returns-in-None : goal.returns-in-None
returns-in-None c =
    let t = plain_table c.table_at.result.now in
    let m = plain_mask c.mask_at.result.now in
    let at : IsAt c.args.kept.now c.args.hook c.args.chain c.args.pref c.in-Some.place t = record { found = sym c.requires.place ∙ c.in-Some.is; there = c.table_at.ensures } in
    sym (exists_found c.args.kept.now c.args.hook c.args.chain c.args.pref c.in-Some.place c.in-Some-find_mask.at c.args.left c.args.mask.now.words c.args.key.now.words t m c.requires.kept at
    (sym c.find_mask.ensures ∙ c.in-Some-find_mask.is) c.mask_at.ensures
    ∙ ap existing (ap (other_in c.args.left c.args.key.now.words) (sym c.filters.ensures) ∙ sym c.other_with_key.ensures ∙ c.in-None.is))
