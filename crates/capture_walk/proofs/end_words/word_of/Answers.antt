use Rattle.std.proofs.Common.{ℕ, Bool, nat_le, ap, ◌∙◌}
use Rattle.std.specs.Prelude.{if◌then◌else◌}
use Rattle.walk_rules.specs.declared.verdict.Verdict.{Verdict}
use Rattle.walk_rules.specs.declared.verdict.Verdict.TheVariants as verdicts
use Rattle.capture_walk.specs.declared.ends.PacketEnd.{PacketEnd}
use Rattle.capture_walk.specs.declared.end_words.TheConstants.{NOTED}
use Rattle.capture_walk.specs.EndWords.{without}
use Rattle.capture_walk.proofs.end_words.word_of.Goals as goal

pub returns-clause-noted : goal.returns-clause-noted
returns-clause-noted c = ap (nat_le NOTED) c.marked.ensures.number ∙ c.marked-length.ensures.mark

pub returns-clause-end : goal.returns-clause-end
returns-clause-end c =
    let made : Verdict → ℕ → PacketEnd = λ verdict length. record { verdict = verdict; length = length; meta = c.args.end.meta } in
    ap (λ (dropped : Bool). made (if dropped then verdicts.Drop else verdicts.Pass) (without NOTED (without _ c.marked.result))) c.marked.ensures.mark
    ∙ ap (λ (verdict : Verdict). made verdict (without NOTED (without _ c.marked.result))) c.is_dropped.ensures
    ∙ ap (λ (word : ℕ). made c.args.end.verdict (without NOTED word)) c.marked.ensures.number
    ∙ ap (made c.args.end.verdict) c.marked-length.ensures.number
