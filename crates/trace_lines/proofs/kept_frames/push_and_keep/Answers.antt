use Rattle.std.proofs.Common.{rules, ◌∙◌, ◌≤◌, ℕ, List, length, drop, ap, subst, sym}
use Rattle.flow_fields.specs.Values.{values_of}
use Rattle.trace_lines.specs.Parts.{frame_words_of}
use Rattle.trace_lines.proofs.Kept.{kept_words, starts_within}
use Rattle.trace_lines.proofs.kept_frames.push_and_keep.Goals as goal

pub split_at-requires : goal.split_at-requires
split_at-requires c =
    subst (λ (l : List ℕ). c.len-start.result ≤ length l) (sym c.deref.ensures.value)
    (starts_within c.args.line.now.items c.push_frame.new.line.items c.len-start.result
    (frame_words_of c.args.ether (values_of c.args.key.now.words)) c.requires (search rules) c.in_ok-push_frame.ensures)

pub keep-requires : goal.keep-requires
keep-requires c =
    c.split_at.ensures.back ∙ ap (λ (l : List ℕ). drop c.len-start.result l) c.deref.ensures.value
    ∙ kept_words c.args.line.now.items c.push_frame.new.line.items c.len-start.result
    (frame_words_of c.args.ether (values_of c.args.key.now.words)) c.requires (search rules) c.in_ok-push_frame.ensures
