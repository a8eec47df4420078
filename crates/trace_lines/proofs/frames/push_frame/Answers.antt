use Rattle.std.proofs.Common.{◌∙◌, ℕ, List, codes, ap}
use Rattle.line_texts.specs.Texts.{ether_type_text}
use Rattle.tc_print.specs.Texts.{onto}
use Rattle.trace_lines.proofs.FieldTexts.{frame_told}
use Rattle.trace_lines.proofs.Grown.{same_words}
use Rattle.trace_lines.proofs.frames.push_frame.Goals as goal

pub returns : goal.returns
returns c =
    same_words c.push_fields.result _ _ _ _ _
    (c.in_ok-push_protocol_word.ensures
    ∙ ap (λ (text : List ℕ). onto text (ether_type_text c.args.ether)) (c.in_ok-push_word-2.ensures
    ∙ ap (λ (text : List ℕ). onto text (codes "protocol")) c.in_ok-push_word.ensures))
    (frame_told c.args.key.now.words c.whole_mask.result.words c.whole_mask.ensures) c.push_fields.ensures
