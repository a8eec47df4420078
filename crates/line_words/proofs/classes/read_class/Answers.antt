use Rattle.std.proofs.Common.{◌∙◌, sym}
use Rattle.line_words.proofs.WordParts.{no_colon, a_colon}
use Rattle.line_words.proofs.classes.read_class.Goals as goal

pub returns-in_err-major : goal.returns-in_err-major
returns-in_err-major c = c.from_residual.ensures ∙ sym (no_colon _ (sym c.in_err-major.ensures))

pub returns : goal.returns
returns c =
    let class = a_colon c.args.word.now c.in_ok-major.major.now c.in_ok-major.minor.now (sym c.in_ok-major.ensures) in
    cc (class, c.join_class.ensures, c.read_hex_digits.ensures.value, c.read_hex_digits-2.ensures.value)
