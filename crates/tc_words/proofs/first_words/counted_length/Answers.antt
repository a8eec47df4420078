use Rattle.std.proofs.Common.{◌∙◌, ap, length}
use Rattle.std.specs.Option.{unwrap_or}
use Rattle.tc_words.specs.Lines.{ends_word}
use Rattle.tc_words.proofs.FirstWords.{place_or_length}
use Rattle.tc_words.proofs.first_words.counted_length.Goals as goal

pub returns-clause-value : goal.returns-clause-value
returns-clause-value c = c.unwrap_or.ensures ∙ ap (λ o. unwrap_or o (length c.args.text.now)) c.end_place.ensures ∙ place_or_length ends_word c.args.text.now
