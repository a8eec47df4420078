use Rattle.std.proofs.Common.{◌≡◌, ◌∙◌, ℕ, List, ◌++◌, OnOk, append_assoc, ap, subst, codes}
use Rattle.walk_texts.specs.Texts.{counted}
use Rattle.run_report.specs.EventTexts.{action_made_text}
use Rattle.run_report.proofs.done.push_action_made.Goals as goal

grown : (old middle : List ℕ) (index serial one other : ℕ) → middle ≡ old ++ counted (codes "action index ") one → one ≡ index → other ≡ serial →
    middle ++ counted (codes " serial ") other ≡ old ++ action_made_text index serial
unfolding action_made_text
grown old middle index serial one other put is is_other =
    ap (λ (t : List ℕ). t ++ counted (codes " serial ") other) (put ∙ ap (λ (n : ℕ). old ++ counted (codes "action index ") n) is)
    ∙ append_assoc old (counted (codes "action index ") index) (counted (codes " serial ") other)
    ∙ ap (λ (n : ℕ). old ++ (counted (codes "action index ") index ++ counted (codes " serial ") n)) is_other

pub returns : goal.returns
returns c =
    subst (λ (t : List ℕ). OnOk c.push_count-2.result (c.push_count-2.new.out.items ≡ t))
    (grown c.args.out.now.items _ _ _ _ _ c.in_ok-push_count.ensures c.from.ensures c.from-2.ensures) c.push_count-2.ensures
