use Rattle.std.proofs.Common.{◌∙◌, ℕ, ◌+◌, List, [], ◌∷◌, ◌++◌, ap, sym, arith, length-set}
use Rattle.std.proofs.lemmas.List.{take_more_set}
use Rattle.miniq_pair.proofs.Linking.{range_more}
use Rattle.miniq_pair.proofs.filling.numbers_from.Goals as goal

pub loop-place-preserved : goal.loop-place-preserved
loop-place-preserved c = let v = c.loop-place.invariant in let test = c.loop-place-test.true in let few = c.requires.few in let long = v.long in record {
  long = rw length-set long;
  so_far = take_more_set c.loop-place.numbers c.loop-place.place (c.args.first + c.loop-place.place) (omega arith)
      ∙ (ap (λ (xs : List ℕ). xs ++ (c.args.first + c.loop-place.place) ∷ []) v.so_far ∙ sym (range_more c.args.first c.loop-place.place));
}
