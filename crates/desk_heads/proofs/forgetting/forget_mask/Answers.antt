use Rattle.std.proofs.Common.{ℕ, List, sym, subst}
use Rattle.store_history.specs.History.{root_of}
use Rattle.hook_law.specs.Standing.{IsIn}
use Rattle.desk_pools.specs.Steps.{IsInPool}
use Rattle.desk_heads.specs.Leaving.{MayAllLeave}
use Rattle.desk_heads.proofs.Forgotten.{forget_holds, all_leave}
use Rattle.desk_heads.proofs.Held.{gone_still}
use Rattle.desk_heads.proofs.forgetting.forget_mask.Goals as goal

pub forget-requires-clause-kept : goal.forget-requires-clause-kept
forget-requires-clause-kept c = let h = c.requires.holds in (h.0, h.1, root_of h.2, h.3.named)

pub returns-clause-holds : goal.returns-clause-holds
returns-clause-holds c = λ shape cells h holds gone. let f = c.forget.ensures in
    forget_holds c.args.masks.now c.args.slot c.requires.stands.0 c.requires.stands.1 shape cells h holds gone c.forget.new.self f.gone (f.kept shape cells (root_of h) holds.named) f.lists

pub returns-clause-rows : goal.returns-clause-rows
returns-clause-rows c = λ kept stands. c.forget.ensures.rows kept stands

pub returns-clause-blocks : goal.returns-clause-blocks
returns-clause-blocks c = λ kept shape cells h stands holds. c.forget.ensures.blocks kept shape cells (root_of h) stands holds.named

pub returns-clause-others : goal.returns-clause-others
returns-clause-others c = λ h other ne gone. gone_still c.args.masks.now c.forget.new.self h c.args.slot other c.forget.ensures.gone ne gone

pub returns-clause-left : goal.returns-clause-left
returns-clause-left c = λ shape cells h b pools holds gone low p slot_apart rows_apart. let f = c.forget.ensures in let kept = c.requires.stands.0 in let stands = c.requires.stands.1 in
    let rows = f.rows kept stands in let blocks = f.blocks kept shape cells (root_of h) stands holds.named in
    subst (λ (rs : List ℕ). MayAllLeave pools h c.args.slot rs c.forget.new.self.left_blocks) (sym rows)
    (subst (MayAllLeave pools h c.args.slot kept.mask.rows) (sym blocks)
    (all_leave c.args.masks.now c.args.slot kept stands shape cells h holds gone b pools low p slot_apart
    (subst (λ (rs : List ℕ). (row : ℕ) → IsIn row rs → IsInPool row pools.rows → ⊥) rows rows_apart)))
