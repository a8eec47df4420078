use Rattle.std.proofs.Common.{◌≡◌, ◌∙◌, ℕ, ◌+◌, ◌<◌, ◌≤◌, List, [], ◌∷◌, ◌++◌, length, ap, sym, subst, arith, append-nil}
use Rattle.store_history.specs.declared.history.Commit.{Commit}
use Rattle.filter_state.specs.declared.edit.Edit.{Edit}
use Rattle.pin_store.specs.declared.view.Sheet.{Sheet}
use Rattle.pin_store.specs.Calls.{seen_by, sheet_of}
use Rattle.pin_store.specs.Sheets.{base_of}
use Rattle.hook_store_law.specs.Kept.{KeepsHook}
use Rattle.desk_pools.specs.OfTidying.Tidied.{empty_at}
use Rattle.desk_pools.proofs.OfTidying.Emptied.{range_more, range_unused, range_seen}
use Rattle.desk_pools.proofs.tidying.emptying.empty_range.Goals as goal

pub commit-requires-clause-lawful : goal.commit-requires-clause-lawful
commit-requires-clause-lawful c = let p = c.args.writer.now.place in let h = seen_by p in let b = base_of (sheet_of p) in let i = c.loop-k.invariant in let r = c.requires.lawful in let k = c.loop-k.k in
    let less = c.loop-k-test.true in let one = empty_at c.args.point (c.args.first + k) in
    subst (λ (d : Sheet). KeepsHook (seen_by c.loop-k.writer.place ++ one ∷ []) (base_of d)) (sym i.sheet)
    (subst (λ (l : List (Commit Edit)). KeepsHook (l ++ one ∷ []) b) (sym i.seen)
    (range_more h b c.args.point r c.args.first k (range_unused h b c.args.first c.args.count (k + 1) (omega (arith, less)) c.requires.unused)))

pub loop-k-init : goal.loop-k-init
loop-k-init c = record { store = c.requires.store; seen = sym (append-nil (seen_by c.args.writer.now.place)); sheet = λ t. sheet_of c.args.writer.now.place }

pub loop-k-preserved : goal.loop-k-preserved
loop-k-preserved c = let i = c.loop-k.invariant in record {
  store = c.commit.ensures.store;
  seen = c.commit.ensures.seen ∙ range_seen (seen_by c.args.writer.now.place) (seen_by c.loop-k.writer.place) c.args.point c.args.first c.loop-k.k i.seen;
  sheet = c.commit.ensures.sheet ∙ i.sheet;
}
