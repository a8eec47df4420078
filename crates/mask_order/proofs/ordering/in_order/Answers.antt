use Rattle.std.proofs.Common.{ℕ, ◌+◌, ◌<◌, ◌∙◌, ◌++◌, List, length, map, get_or, ap, sym, subst, arith}
use Rattle.std.specs.List.{All}
use Rattle.std.specs.List.Sorted.{IsPermutation, IsNonDecreasingBy}
use Rattle.std.proofs.lemmas.List.Sorted.{All-permutation}
use Rattle.store_history.specs.declared.places.TheConstants.{POOL_BLOCKS}
use Rattle.mask_table.specs.OfMirrors.Lists.{age_of, kept_as, kept_in}
use Rattle.mask_table.proofs.OfMirrors.Forgetting.{few_gathered}
use Rattle.mask_order.proofs.Orders.{sorted_as}
use Rattle.mask_order.proofs.Buckets.{all_low, all_dated}
use Rattle.mask_order.proofs.ordering.in_order.Goals as goal

pub push_all-requires : goal.push_all-requires
push_all-requires c = let w = c.requires.kept in
    let few = few_gathered c.args.mirror.now w.1 w.2 w.3 c.args.slot w.0 w.4 w.5 w.0.mask.size (omega arith) in
    let long = ap length w.6 in let empty = ap length c.clear.ensures in omega arith

pub returns-clause-order : goal.returns-clause-order
returns-clause-order c = λ last fs has. let w = c.requires.kept in let mirror = c.args.mirror.now in let blocks = c.args.blocks.now in let sorted = c.sort_by_age.new.self in
    let there = c.push_all.ensures ∙ ap (λ (xs : List ℕ). xs ++ blocks) c.clear.ensures in
    sorted_as mirror 0 (age_of (last + 1) 0) blocks sorted has.dated
    (subst (λ (bs : List ℕ). IsPermutation (map (kept_in mirror) bs) (map kept_as has.dated)) (sym w.6) (all_dated mirror w.1 w.2 w.3 c.args.slot w.0 w.4 w.5 last fs has))
    (subst (λ (bs : List ℕ). IsPermutation bs sorted) there c.sort_by_age.ensures.permutation)
    (subst (λ (ages : List ℕ). IsNonDecreasingBy (λ b. get_or ages b 0) sorted) c.deref.ensures.value c.sort_by_age.ensures.sorted)
    has.rise

pub returns-clause-pool : goal.returns-clause-pool
returns-clause-pool c = let w = c.requires.kept in let blocks = c.args.blocks.now in
    let there = c.push_all.ensures ∙ ap (λ (xs : List ℕ). xs ++ blocks) c.clear.ensures in
    All-permutation (λ b. b < POOL_BLOCKS) c.push_all.new.self c.sort_by_age.new.self c.sort_by_age.ensures.permutation
    (subst (All (λ b. b < POOL_BLOCKS)) (sym (there ∙ w.6)) (all_low c.args.mirror.now w.1 w.2 w.3 c.args.slot w.0 w.4 w.5))
