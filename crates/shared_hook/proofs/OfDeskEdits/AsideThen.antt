-- Commits that come one after another, none of them to a slot of actions.
use Rattle.std.proofs.Common.{◌∙◌, zero, suc, List, [], ◌∷◌, ◌++◌, ap, append_assoc}
use Rattle.store_history.specs.declared.history.Commit.{Commit}
use Rattle.filter_state.specs.declared.edit.Edit.{Edit}
use Rattle.desk_parts.specs.OfLineActions.Put.{HaveNoSlots}
use Rattle.shared_hook.specs.OfDeskEdits.Ahead.{GoesOnAside}

both_none : (xs ys : List (Commit Edit)) → HaveNoSlots xs → HaveNoSlots ys → HaveNoSlots (xs ++ ys)
both_none [] ys one two place c e = two place c e
both_none (x ∷ xs) ys one two zero c e = one zero c e
both_none (x ∷ xs) ys one two (suc place) c e = both_none xs ys (λ at d is. one (suc at) d is) two place c e

pub aside_then : (h k z : List (Commit Edit)) → GoesOnAside h k → GoesOnAside k z → GoesOnAside h z
aside_then h k z one two = record {
  more = one.more ++ two.more;
  seen = two.seen ∙ (ap (λ (l : List (Commit Edit)). l ++ two.more) one.seen ∙ append_assoc h one.more two.more);
  aside = both_none one.more two.more one.aside two.aside;
}
