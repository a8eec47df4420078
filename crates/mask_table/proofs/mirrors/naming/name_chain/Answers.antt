use Rattle.std.proofs.Common.{◌≡◌, ◌∙◌, ℕ, List, ◌++◌, length, get_or, slice_get, Some, sym, ap, subst, arith}
use Rattle.std.proofs.lemmas.Option.{slice_get-get_or}
use Rattle.store_history.specs.History.{IsLinked}
use Rattle.pin_store.specs.Layout.{links_of}
use Rattle.pin_store.specs.Calls.{sheet_of}
use Rattle.mask_table.specs.OfMirrors.Kept.{Spells}
use Rattle.mask_table.proofs.OfMirrors.Spelling.{few_blocks}
use Rattle.mask_table.proofs.OfMirrors.Chains.{spelled_low, linked_filters}
use Rattle.mask_table.proofs.mirrors.naming.name_chain.Goals as goal

pub gather-requires-clause-few : goal.gather-requires-clause-few
gather-requires-clause-few g c = λ blocks s. let short = few_blocks c.deref.result.now c.args.number blocks s in let none = ap length c.clear.ensures in omega arith

pub commit-requires-clause-within : goal.commit-requires-clause-within
commit-requires-clause-within g c = λ k d less. let chain = c.requires.chain.3 in let bs = c.requires.chain.2 in let wide = c.requires.shape.1 in
    let is = c.as_slice.ensures ∙ (c.gather.ensures bs (subst (λ (ns : List ℕ). Spells ns c.args.number bs) (sym c.deref.ensures.value) chain.spelled) ∙ ap (λ (xs : List ℕ). xs ++ bs) c.clear.ensures) in
    let there = subst (λ (xs : List ℕ). slice_get xs k ≡ Some (get_or c.as_slice.result.now k d)) is (slice_get-get_or c.as_slice.result.now k d less) in
    let low = spelled_low c.args.mirror.now.next.items c.args.number bs chain.spelled k (get_or c.as_slice.result.now k d) there in omega arith

pub commit-requires-clause-linked : goal.commit-requires-clause-linked
commit-requires-clause-linked g c = let chain = c.requires.chain.3 in let bs = c.requires.chain.2 in let shape = c.args.store.now.shape in let cells = (sheet_of c.args.writer.now.place).cells in
    let is = c.as_slice.ensures ∙ (c.gather.ensures bs (subst (λ (ns : List ℕ). Spells ns c.args.number bs) (sym c.deref.ensures.value) chain.spelled) ∙ ap (λ (xs : List ℕ). xs ++ bs) c.clear.ensures) in
    subst (λ (w : ℕ). IsLinked w (links_of shape cells c.as_slice.result.now)) (sym c.requires.shape.0)
    (subst (λ (xs : List ℕ). IsLinked 40 (links_of shape cells xs)) (sym is) (linked_filters c.args.mirror.now.filters.items shape cells c.requires.chain.0 c.requires.chain.1 bs chain.hold))
