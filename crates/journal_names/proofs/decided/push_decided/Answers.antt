use Rattle.journal_names.specs.Decided.{decided_words}
use Rattle.journal_names.proofs.Grown.{line_put}
use Rattle.journal_names.proofs.decided.push_decided.Goals as goal

pub returns : goal.returns
returns c =
    let words = decided_words c.args.times c.args.brought.now in
    line_put c.extend_from_slice.result c.args.text.now.items c.extend_from_slice.new.self.items c.clear.new.self.items c.push_words.new.line.items c.push.new.self.items c.deref.result.now words
    c.clear.ensures.items c.in_ok-push_words.ensures c.in_ok-push.ensures.items c.deref.ensures.value c.extend_from_slice.ensures.items
