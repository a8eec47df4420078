use Rattle.std.proofs.Common.{◌≡◌, ◌+◌, ◌∙◌, sym, subst, List, length, arith, take_at}
use Rattle.std.proofs.lemmas.Result.{on_ok_weaker}
use Rattle.walk_ends.specs.declared.counts.Count.{Count}
use Rattle.capture_walk.specs.Captures.{AreFew}
use Rattle.capture_walk.proofs.Counting.{few-more}
use Rattle.capture_walk.proofs.walking.Leaving.add.Goals as goal

pub returns-clause-few : goal.returns-clause-few
returns-clause-few c =
    let whole : length c.add_executed.new.counts ≡ c.args.self.now.counts.len = omega (arith, c.add_executed.auto.counts, c.deref_mut.ensures.len) in
    on_ok_weaker c.keep.result
    (λ _ walks few.
    subst (λ (counts : List Count). AreFew (walks + 1) counts)
    (sym (take_at c.add_executed.new.counts _ c.args.self.now.counts.len whole ∙ c.add_executed.ensures))
    (few-more walks c.deref_mut.result.now c.executed.result.now
    (subst (λ (counts : List Count). AreFew walks counts) (sym c.deref_mut.ensures.value) few)
    c.executed.ensures.short))
    c.keep.ensures.kept
