use Rattle.std.proofs.Common.{◌∙◌, ℕ, List, codes, fold, refl, ap, ap₂}
use Rattle.flow_fields.specs.Values.{values_of}
use Rattle.tc_print.specs.Texts.{onto}
use Rattle.trace_lines.specs.Fields.{sought_words}
use Rattle.trace_lines.specs.Lines.{match_origin, origin_words}
use Rattle.trace_lines.proofs.FieldTexts.{sought_same}
use Rattle.trace_lines.proofs.Grown.{same_words, both_words}
use Rattle.trace_lines.proofs.look_ups.push_match.Goals as goal

pub returns : goal.returns
returns g c =
    let names = g.N.Naming.names c.args.names.now in
    let values = values_of c.args.frame.now.words in
    let words = names.words c.args.point c.args.mask in
    let origin = match_origin names c.args.point c.args.mask values in
    let once = c.push_sought.new.line.items in
    let new = c.push_origin.new.line.items in
    both_words c.push_origin.result (onto c.args.line.now.items (codes "match")) once new (sought_words values words) (origin_words origin)
    (c.in_ok-push_sought.ensures
    ∙ ap₂ (λ (text : List ℕ) (ws : List (List ℕ)). fold onto text ws) c.in_ok-push_word.ensures
    (sought_same values c.known_mask.result.words words c.known_mask.ensures))
    (same_words c.push_origin.result once once new (origin_words c.args.origin) (origin_words origin) refl (ap origin_words c.requires) c.push_origin.ensures)
