use Rattle.std.proofs.Common.{◌∷◌, []}
use Rattle.std.specs.Prelude.{codes}
use Rattle.std.specs.Fmt.{decimal}
use Rattle.trace_lines.specs.Lines.{by_words}
use Rattle.journal_names.specs.Decided.{place_words, gone_words}
use Rattle.journal_names.proofs.Grown.{grown_thrice}
use Rattle.journal_names.proofs.decided.push_words.Goals as goal

pub returns : goal.returns
returns c =
    let b = c.args.brought.now in
    grown_thrice c.push_gone.result c.args.line.now.items c.push_named.new.out.items c.push_by.new.line.items c.push_place.new.line.items c.push_gone.new.line.items
    (codes "decided" ∷ decimal c.args.times ∷ []) (by_words b.by) (place_words b) (gone_words b.gone)
    c.in_ok-push_named.ensures c.in_ok-push_by.ensures c.in_ok-push_place.ensures c.push_gone.ensures
