use Rattle.std.proofs.Common.{◌≡◌, ℕ, false, List, subst}
use Rattle.std.specs.List.{list_any}
use Rattle.std.specs.Prelude.{map}
use Rattle.std.proofs.lemmas.Option.{IfSome_then}
use Rattle.tc_base.specs.declared.hook.Hook.TheVariants as hooks
use Rattle.filter_tables.specs.Plain.{PlainTable}
use Rattle.filter_tables.specs.Seen.{plain_table}
use Rattle.filter_tables.specs.SeenMask.{plain_mask}
use Rattle.classify_walk.specs.Found.{has_mask, IsMaskOf}
use Rattle.classify_walk.proofs.Searching.{stands_somewhere, some_if_not_none, found_on}
use Rattle.classify_walk.proofs.finding.mask_named.Goals as goal

abbrev HasNone : ℕ → List PlainTable → Type 0
HasNone serial tables = list_any (has_mask serial) tables ≡ false

pub returns-in-None-search : goal.returns-in-None-search
returns-in-None-search c =
    let lists = c.args.lists.now in
    let serial = c.args.mask.serial in
    some_if_not_none (λ list. IsMaskOf lists serial (plain_mask list.now)) (HasNone serial (map plain_table c.tables-in-None-search.result.now)) c.search-in-None-search.result
    (IfSome_then c.search-in-None-search.result c.search-in-None-search.ensures.found
    (λ list is. found_on lists hooks.Egress c.tables-in-None-search.result.now serial (plain_mask list.now) c.tables-in-None-search.ensures.kept c.tables-in-None-search.ensures.tables is))
    c.search-in-None-search.ensures.missing
    (λ there. stands_somewhere lists serial c.requires (subst (HasNone serial) c.tables.ensures.tables c.in-None-search.ensures.missing) (subst (HasNone serial) c.tables-in-None-search.ensures.tables there))
