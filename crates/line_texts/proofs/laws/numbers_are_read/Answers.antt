use Rattle.line_texts.proofs.Decimals.{number-read_between, decimal-read}
use Rattle.line_texts.proofs.Handles.{handle-read}
use Rattle.line_texts.proofs.laws.numbers_are_read.Goals as goal

pub returns-clause-number : goal.returns-clause-number
returns-clause-number c = number-read_between

pub returns-clause-decimal : goal.returns-clause-decimal
returns-clause-decimal c = decimal-read

pub returns-clause-handle : goal.returns-clause-handle
returns-clause-handle c = handle-read
