use Rattle.std.proofs.Common.{◌≡◌, ◌∙◌, ◌++◌, ◌∷◌, [], List, Option, None, sym, ap, subst, append_assoc, arith}
use Rattle.std.specs.Prelude.{option_to_list}
use Rattle.fate_search.specs.declared.branch_points.Branch.{Branch}
use Rattle.fate_search.specs.Paths.{AreBehind}
use Rattle.fate_search.proofs.Back.{turned_back, dropped_back, none_left, all_gone}
use Rattle.fate_search.proofs.Weights.{turned_higher}
use Rattle.fate_search.proofs.turning.turn_back.Goals as goal

pub returns-then-is_some-clause-turned : goal.returns-then-is_some-clause-turned
returns-then-is_some-clause-turned c = λ s ways behind.
    let path = c.pop.new.self.items in let branch = c.in-Some.branch in
    let popped : c.loop-branch.path.items ≡ path ++ (branch ∷ []) =
    c.pop.ensures.items ∙ ap (λ (o : Option Branch). path ++ option_to_list o) c.in-Some.is in
    turned_back s path branch ways
    (subst (λ (p : List Branch). AreBehind s p ways) popped (c.loop-branch.invariant.behind s ways behind))
    (sym c.is_some.ensures ∙ c.if-is_some.true)

pub returns-then-is_some-clause-higher : goal.returns-then-is_some-clause-higher
returns-then-is_some-clause-higher c = λ s ways behind.
    let path = c.pop.new.self.items in let branch = c.in-Some.branch in
    let popped : c.loop-branch.path.items ≡ path ++ (branch ∷ []) =
    c.pop.ensures.items ∙ ap (λ (o : Option Branch). path ++ option_to_list o) c.in-Some.is in
    let gone = c.loop-branch.invariant.dropped in
    turned_higher s c.args.path.now.items path gone.0 branch ways ways behind
    (subst (λ (p : List Branch). AreBehind s p ways) popped (c.loop-branch.invariant.behind s ways behind))
    (gone.1 ∙ ap (λ (p : List Branch). p ++ gone.0) popped) (sym c.is_some.ensures ∙ c.if-is_some.true)

pub loop-branch-preserved : goal.loop-branch-preserved
loop-branch-preserved c =
    let path = c.pop.new.self.items in let branch = c.in-Some.branch in
    let popped : c.loop-branch.path.items ≡ path ++ (branch ∷ []) =
    c.pop.ensures.items ∙ ap (λ (o : Option Branch). path ++ option_to_list o) c.in-Some.is in
    let gone = c.loop-branch.invariant.dropped in
    record {
      dropped = (
        branch ∷ gone.0,
        gone.1 ∙ ap (λ (p : List Branch). p ++ gone.0) popped
            ∙ append_assoc path (branch ∷ []) gone.0,
      );
      behind = λ s ways behind. dropped_back s path branch ways
          (subst (λ (p : List Branch). AreBehind s p ways) popped (c.loop-branch.invariant.behind s ways behind))
          (sym c.is_some.ensures ∙ c.if-is_some.false);
    }

pub returns-clause-turned : goal.returns-clause-turned
returns-clause-turned c = λ s ways behind.
    let path = c.loop-branch.path in let ok = path.ok.0 in
    let empty : path.items ≡ [] = none_left path.items (λ less.
    c.in_default.not-Some _ (c.pop.ensures.value (record { point = 0; next = None }) (omega (arith, less, ok)))) in
    all_gone s ways (subst (λ (p : List Branch). AreBehind s p ways) empty (c.loop-branch.invariant.behind s ways behind))
