use Rattle.std.proofs.Common.{◌≡◌, ◌∙◌, ℕ, ◌+◌, length, get_or, List, sym, refl, ap, arith, below_more, true, false}
use Rattle.block_chain.proofs.Still.{still, still_named}
use Rattle.kept_records.proofs.OfSearches.FilterWords.{key_same, key_at}
use Rattle.kept_records.proofs.searches.block.has_key.Goals as goal

pub load_word-requires-clause-told : goal.load_word-requires-clause-told
load_word-requires-clause-told g c = let told = c.requires.told in (told.0, still_named c.loop-place.invariant.same told.0 told.1, told.2)

pub returns-then-load_word-words-clause-same : goal.returns-then-load_word-words-clause-same
returns-then-load_word-words-clause-same g c = still c.loop-place.invariant.same c.load_word.ensures.same

pub returns-then-load_word-words-clause-key : goal.returns-then-load_word-words-clause-key
returns-then-load_word-words-clause-key g c = λ l named here shaped. let at = c.loop-place.place in
    let word : c.load_word.result ≡ get_or l.words (3 + at) 0 = c.load_word.ensures.word l (still_named c.loop-place.invariant.same l named) here in (
      λ (yes : ◌≡◌ false true). absurd (cc yes),
      λ same. absurd (c.if-load_word-words.true (word ∙ (key_at l.words c.args.key.now.words at same c.loop-place-test.true ∙ ap (λ (ws : List ℕ). get_or ws at 0) (sym c.words_of-words.ensures.words)))),
    )

pub loop-place-preserved : goal.loop-place-preserved
loop-place-preserved g c = let h = c.loop-place.invariant in let w = c.load_word.ensures in record {
  store = w.store;
  same = still h.same w.same;
  loads = omega (arith, w.loads, h.loads);
  steps = omega (arith, w.steps, h.steps);
  equal = λ d k named here low. below_more (λ (k : ℕ). get_or d.words (3 + k) 0 ≡ get_or c.words_of-words.result.now k 0) c.loop-place.place
      (λ k below. h.equal d k named here below)
      (sym (w.word d (still_named h.same d named) here) ∙ c.if-load_word-words.false)
      k low;
}

pub returns-clause-key : goal.returns-clause-key
returns-clause-key g c = λ l named here shaped. let count = c.words_of-words.ensures.count in let done = c.loop-place-test.false in (
  λ yes. key_same l.words c.args.key.now.words (shaped.1 ∙ c.requires.shape.0) (ap length (sym c.words_of-words.ensures.words) ∙ count)
      (λ k low. c.loop-place.invariant.equal l k named here (omega (arith, low, done)) ∙ ap (λ (ws : List ℕ). get_or ws k 0) c.words_of-words.ensures.words),
  λ same. refl,
)
