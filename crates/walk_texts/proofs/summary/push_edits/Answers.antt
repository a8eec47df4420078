use Rattle.std.proofs.Common.{◌≡◌, ◌∙◌, ◌++◌, ℕ, List, OnOk, ap, subst, append_assoc}
use Rattle.std.specs.Prelude.{codes}
use Rattle.walk_texts.specs.Texts.{counted, edits_text}
use Rattle.walk_texts.proofs.summary.push_edits.Goals as goal

pub returns : goal.returns
unfolding edits_text
returns c =
    let out : List ℕ = c.args.out.now.items in
    let edits : List ℕ = counted (codes "summary edits ") c.args.summary.now.edits in
    let refused : List ℕ = counted (codes " refused ") c.args.summary.now.refused in
    subst (λ (x : List ℕ). OnOk c.push_count-2.result (c.push_count-2.new.out.items ≡ x))
    (ap (λ (x : List ℕ). x ++ refused) c.in_ok-push_count.ensures ∙ append_assoc out edits refused) c.push_count-2.ensures
