use Rattle.std.proofs.Common.{◌∙◌, sym, ap, length, List, ℕ, eqb}
use Rattle.std.specs.Str.Lines.{strip_carriage_return}
use Rattle.tc_words.specs.Lines.{cut_once, lines_of}
use Rattle.tc_words.proofs.LineCuts.{first_cut, last_cut, none_left, nothing_behind}
use Rattle.tc_words.proofs.file_lines.line_from.Goals as goal

pub returns-in-Some-clause-some : goal.returns-in-Some-clause-some
returns-in-Some-clause-some c =
    first_cut c.args.bytes.now c.args.at c.in-Some.line.now c.in-Some.field-0-1.now c.without_return.result.now c.requires
    (ap (cut_once 10) (sym c.bytes_from-rest.ensures) ∙ sym c.in-Some.ensures) c.without_return.ensures

pub returns-then-is_empty-clause-none : goal.returns-then-is_empty-clause-none
returns-then-is_empty-clause-none c = (
  nothing_behind c.args.bytes.now c.args.at c.requires (ap (λ (b : List ℕ). eqb (length b) 0) (sym c.bytes_from-rest.ensures) ∙ sym c.if-is_empty.ensures),
  ap lines_of (sym c.bytes_from-rest.ensures) ∙ none_left c.bytes_from-rest.result.now (sym c.in-None.ensures) (sym c.if-is_empty.ensures),
)

pub returns-else-is_empty-clause-some : goal.returns-else-is_empty-clause-some
returns-else-is_empty-clause-some c =
    last_cut c.args.bytes.now c.args.at c.without_return-else-is_empty.result.now (ap (cut_once 10) (sym c.bytes_from-rest.ensures) ∙ sym c.in-None.ensures)
    (ap (λ (b : List ℕ). eqb (length b) 0) (sym c.bytes_from-rest.ensures) ∙ sym c.if-is_empty.ensures)
    (c.without_return-else-is_empty.ensures ∙ ap strip_carriage_return c.bytes_from-rest.ensures)
