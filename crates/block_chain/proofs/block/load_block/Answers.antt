use Rattle.std.proofs.Common.{◌≡◌, ◌≢◌, ◌∙◌, ◌<◌, length, get_or, arith, below_more, get_or-set_other, get_or-set_same, length-set}
use Rattle.block_chain.proofs.Chains.{same_words}
use Rattle.block_chain.proofs.Still.{still, still_named}
use Rattle.block_chain.proofs.block.load_block.Goals as goal

pub loop-place-preserved : goal.loop-place-preserved
loop-place-preserved g c = let h = c.loop-place.invariant in let w = c.load_word.ensures in let long = h.long in let test = c.loop-place-test.true in record {
  store = w.store;
  same = still h.same w.same;
  long = rw length-set h.long;
  words = λ d k named here low. below_more (λ k. get_or (lib.ListN.set c.loop-place.words c.loop-place.place c.load_word.result) k 0 ≡ get_or d.words k 0) c.loop-place.place
      (λ k below. let ne : k ≢ c.loop-place.place = omega arith in rw get_or-set_other (h.words d k named here below))
      (let inside : c.loop-place.place < length c.loop-place.words = omega arith in rw get_or-set_same (w.word d
      (still_named h.same d named) here))
      k low;
  loads = omega (arith, w.loads, h.loads);
  steps = omega (arith, w.steps, h.steps);
}

pub returns-clause-words : goal.returns-clause-words
returns-clause-words g c = λ l named here sized. same_words 40 _ _ c.loop-place.invariant.long (sized.1 ∙ c.requires.shape.0)
    (λ i low. let done = c.loop-place-test.false in c.loop-place.invariant.words l i named here (omega arith))
