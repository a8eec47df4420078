use Rattle.std.proofs.Common.{inl, inr, sym, subst}
use Rattle.report_check.specs.Reasons.{IsReason}
use Rattle.report_check.proofs.packets.refuse_shown.Goals as goal

pub returns-clause-stuck : goal.returns-clause-stuck
returns-clause-stuck c = λ is loaded stand at unended refused.
    c.refuse.ensures.stuck loaded stand at (λ none. unended) (λ line next. (
      refused.never line next,
      elim (c.in_ok-told.ensures line next) [
        | inl it ↦ subst (IsReason loaded stand line) (sym it.1) (refused.shown line next it.0)
        | inr it ↦ subst (IsReason loaded stand line) (sym it.1) (refused.none line next it.0)
      ],
    ))
