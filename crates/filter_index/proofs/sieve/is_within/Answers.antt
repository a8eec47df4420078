use borrow.Author.Count.{below_more}
use Rattle.std.proofs.Common.{◌≡◌, ◌∙◌, get_or, arith}
use Rattle.std.proofs.lemmas.Bool.{false≢true}
use Rattle.filter_index.proofs.Covering.{used_same, used_more, fits_counted, within_all}
use Rattle.filter_index.proofs.sieve.is_within.Goals as goal
use Rattle.filter_index.proofs.sieve.is_within.Goals.{then-mask-k-ne0, else-mask-k-ne0+else-key-k-ne0}

pub returns-clause-within : goal.returns-clause-within
returns-clause-within c = λ _. within_all c.args.mask.now c.args.key.now 14 (omega arith) (λ j here. c.loop-k.invariant.within j (omega arith))

pub loop-k-preserved : goal.loop-k-preserved
loop-k-preserved c =
    let h = c.loop-k.invariant in
    let mask = c.args.mask.now in
    let k = c.loop-k.k in
    let within = below_more (λ j. get_or mask j 0 ≡ 0 → get_or c.args.key.now j 0 ≡ 0) k h.within in
    elim c.if-mask-k-ne0.branch [
      | then-mask-k-ne0 w ↦
          record { used = w.used-is ∙ used_more mask k c.loop-k.used w.if-mask-k-ne0.true h.used; few = omega arith; within = within (λ unused. absurd (w.if-mask-k-ne0.true unused)) }
      | else-mask-k-ne0+else-key-k-ne0 w ↦
          record { used = w.used-is ∙ used_same mask k c.loop-k.used w.if-mask-k-ne0.false h.used; few = omega arith; within = within (λ _. w.if-key-k-ne0.false) }
    ]

pub returns-then-key-k-ne0-clause-fits : goal.returns-then-key-k-ne0-clause-fits
returns-then-key-k-ne0-clause-fits c = λ test. absurd (false≢true test)

pub returns-then-key-k-ne0-clause-within : goal.returns-then-key-k-ne0-clause-within
returns-then-key-k-ne0-clause-within c = λ test. absurd (false≢true test)

pub returns-clause-fits : goal.returns-clause-fits
returns-clause-fits c = λ test. fits_counted c.args.mask.now c.loop-k.k c.loop-k.used (omega arith) c.loop-k.invariant.used test
