use Rattle.std.proofs.Common.{◌≡◌, ◌∙◌, ℕ, ◌+◌, [], ◌∷◌, ◌++◌, length, map, get_or, slice_index, slice_range, List, sym, ap, arith, length-append}
use Rattle.visit_room.specs.declared.names.ActionName.{ActionName}
use Rattle.block_codec.specs.Names.{action_in}
use Rattle.block_chain.proofs.Still.{still, still_named}
use Rattle.kept_records.proofs.OfSearches.FilterWords.{actions_more, no_actions}
use Rattle.kept_records.proofs.searches.block.tell_actions.Goals as goal

pub loop-place-init : goal.loop-place-init
loop-place-init g c = let w = c.load_word.ensures in record {
  store = w.store;
  same = w.same;
  loads = omega (arith, w.loads);
  steps = omega (arith, w.steps);
  told = λ d named here shaped. c.clear.ensures ∙ sym (no_actions d.words);
  long = ap length c.clear.ensures;
}

pub load_word-word-requires-clause-told : goal.load_word-word-requires-clause-told
load_word-word-requires-clause-told g c = let told = c.requires.told in (told.0, still_named c.loop-place.invariant.same told.0 told.1, told.2)

pub push-requires : goal.push-requires
push-requires g c = let long = c.loop-place.invariant.long in let test = c.loop-place-test.true in let most = c.min-count.ensures in omega (arith, long, test, most)

pub loop-place-preserved : goal.loop-place-preserved
loop-place-preserved g c = let h = c.loop-place.invariant in let w = c.load_word-word.ensures in let long = h.long in let test = c.loop-place-test.true in let most = c.min-count.ensures in
    let at = c.loop-place.place in let grown = length-append c.loop-place.into (c.action_in.result ∷ []) in record {
      store = w.store;
      same = still h.same w.same;
      loads = omega (arith, w.loads, h.loads);
      steps = omega (arith, w.steps, h.steps);
      told = λ d named here shaped. let wide = shaped.1 in let forty = c.requires.shape.0 in
          let word : c.load_word-word.result ≡ get_or d.words (17 + at) 0 = w.word d (still_named h.same d named) here in
          c.push.ensures ∙ (ap (λ (as_told : List ActionName). as_told ++ c.action_in.result ∷ []) (h.told d named here shaped)
          ∙ (ap (λ (it : ActionName). map action_in (slice_range d.words 17 (17 + at)) ++ it ∷ []) (c.action_in.ensures ∙ ap action_in word)
          ∙ sym (actions_more d.words at (omega (arith, wide, forty, test, most)))));
      long = ap length c.push.ensures ∙ (grown ∙ omega (arith, long));
    }

pub returns-clause-actions : goal.returns-clause-actions
returns-clause-actions g c = λ l named here shaped few. let w = c.load_word.ensures in let most = c.min-count.ensures in let end = c.loop-place.auto.place-end in let done = c.loop-place-test.false in
    let word : c.load_word.result ≡ slice_index l.words 2 = w.word l named here in
    c.loop-place.invariant.told l named here shaped ∙ ap (λ (n : ℕ). map action_in (slice_range l.words 17 (17 + n))) (omega (arith, word, most, end, done, few))
