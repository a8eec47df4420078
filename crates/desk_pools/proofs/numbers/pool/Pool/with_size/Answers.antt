use Rattle.std.proofs.Common.{◌≡◌, ◌∙◌, ◌<◌, ◌≤◌, ◌++◌, ◌∷◌, [], ℕ, List, length, ap, sym, arith}
use Rattle.std.proofs.lemmas.List.FromFn.{length-range_with_len}
use Rattle.desk_pools.proofs.OfNumbers.Counting.{one_more}
use Rattle.desk_pools.proofs.numbers.pool.Pool.with_size.Goals as goal

pub push_reserved-requires : goal.push_reserved-requires
push_reserved-requires c = let i = c.loop-number.invariant in let room = i.capacity in let less = c.loop-number-test.true in
    let long = ap (length {A = ℕ}) i.items ∙ length-range_with_len 0 c.loop-number.number in omega (arith, room, less, long)

pub loop-number-preserved : goal.loop-number-preserved
loop-number-preserved c = let i = c.loop-number.invariant in record {
  items = c.push_reserved.ensures.items
      ∙ (ap (λ (l : List ℕ). l ++ c.loop-number.number ∷ []) i.items ∙ sym (one_more c.loop-number.number));
  capacity = let room = i.capacity in let same = c.push_reserved.ensures.capacity in omega (arith, room, same);
}
