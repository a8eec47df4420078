use Rattle.std.proofs.Common.{sym, ◌∙◌, arith}
use Rattle.tc_words.specs.Lines.{ends_word}
use Rattle.tc_words.proofs.NearEnds.{near_is}
use Rattle.tc_words.proofs.first_words.word_length.Goals as goal

pub returns-then-near-lt-LANES-clause-value : goal.returns-then-near-lt-LANES-clause-value
returns-then-near-lt-LANES-clause-value c =
    let near = c.near_length-near.ensures in
    near ∙ sym (near_is ends_word 16 c.args.text.now (omega (arith, c.if-text-ge-LANES.true)) (omega (arith, c.if-near-lt-LANES.true, near)))
