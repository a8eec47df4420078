use Rattle.std.proofs.Common.{◌≡◌, take}
use Rattle.std.specs.Prelude.{fold}
use Rattle.tc_print.specs.FieldWords.{named_words}
use Rattle.tc_print.specs.Texts.{onto}
use Rattle.tc_print.proofs.fields.push_names.Given as goal

abbrev pub invariant-loop-name : goal.invariant-loop-name
invariant-loop-name l =
    l.out.items ≡ fold onto l.fn.out.items (named_words l.fn.key.words l.fn.mask.words (take l.name-index l.names))
