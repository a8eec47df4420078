use Rattle.std.proofs.Common.{◌≡◌, ◌∙◌, ◌-◌, ◌∷◌, List, ℕ, length, take, drop, ap, sym, arith}
use Rattle.std.proofs.lemmas.Grind.{common_steps}
use Rattle.tc_words.specs.Lines.{words_of}
use Rattle.tc_words.proofs.FirstWords.{no_word, word_and_more}
use Rattle.tc_words.proofs.first_words.first_word.Goals as goal

pub returns-then-length-eq0-clause-words : goal.returns-then-length-eq0-clause-words
returns-then-length-eq0-clause-words c = no_word c.args.rest.now c.without_blanks-text.result.now c.without_blanks-text.ensures (sym c.word_length-length.ensures.value ∙ omega arith)

pub returns-clause-words : goal.returns-clause-words
returns-clause-words c =
    let text = c.without_blanks-text.result.now in
    let n = c.word_length-length.result in
    let behind : take (length text - n) (drop n text) ≡ drop n text = grind (arith, common_steps) in
    word_and_more c.args.rest.now text n c.without_blanks-text.ensures c.word_length-length.ensures.value (omega arith)
    ∙ ap (λ (more : List ℕ). take n text ∷ words_of more) (sym behind)
