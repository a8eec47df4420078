use Rattle.std.proofs.Common.{◌≡◌, ◌∙◌, ℕ, ◌+◌, ◌*◌, ◌<◌, ◌≤◌, List, [], ◌∷◌, ◌++◌, length, take, get_or, slice_get, Some, ap, sym, subst, arith, append-nil}
use Rattle.store_history.specs.declared.history.Commit.{Commit}
use Rattle.filter_state.specs.declared.edit.Edit.{Edit}
use Rattle.pin_store.specs.declared.view.Sheet.{Sheet}
use Rattle.pin_store.specs.Calls.{seen_by, sheet_of}
use Rattle.pin_store.specs.Sheets.{base_of}
use Rattle.hook_law.specs.Keeping.{Keeps}
use Rattle.hook_store_law.specs.Stated.{hook_meaning}
use Rattle.hook_store_law.specs.Blocks.{hook_codec}
use Rattle.desk_pools.proofs.OfTidying.Emptied.{part_kept, part_unused, part_seen, part_within}
use Rattle.desk_pools.proofs.tidying.emptying.empty_each.Goals as goal

pub empty_range-requires-clause-within : goal.empty_range-requires-clause-within
empty_range-requires-clause-within c = part_within c.args.numbers.now c.args.first c.args.width c.loop-at.at c.args.store.now.shape.roots c.loop-at-test.true c.requires.within

pub empty_range-requires-clause-lawful : goal.empty_range-requires-clause-lawful
empty_range-requires-clause-lawful c = let p = c.args.writer.now.place in let i = c.loop-at.invariant in let r = c.requires.lawful in
    part_kept (seen_by p) (base_of (sheet_of p)) c.args.point r c.args.numbers.now c.args.first c.args.width c.loop-at.at c.requires.unused (seen_by c.loop-at.writer.place) (base_of (sheet_of c.loop-at.writer.place)) i.seen (ap base_of i.sheet)

pub empty_range-requires-clause-unused : goal.empty_range-requires-clause-unused
empty_range-requires-clause-unused c = let p = c.args.writer.now.place in let i = c.loop-at.invariant in let r = c.requires.lawful in
    part_unused (seen_by p) (base_of (sheet_of p)) c.args.point r c.args.numbers.now c.args.first c.args.width c.loop-at.at c.loop-at-test.true c.requires.unused (seen_by c.loop-at.writer.place) (base_of (sheet_of c.loop-at.writer.place)) i.seen (ap base_of i.sheet)

pub loop-at-init : goal.loop-at-init
loop-at-init c = record { store = c.requires.store; seen = sym (append-nil (seen_by c.args.writer.now.place)); sheet = λ t. sheet_of c.args.writer.now.place }

pub loop-at-preserved : goal.loop-at-preserved
loop-at-preserved c = let i = c.loop-at.invariant in record {
  store = c.empty_range.ensures.store;
  seen = c.empty_range.ensures.seen ∙ part_seen (seen_by c.args.writer.now.place) (seen_by c.loop-at.writer.place) c.args.point c.args.numbers.now c.args.first c.args.width c.loop-at.at c.loop-at-test.true i.seen;
  sheet = c.empty_range.ensures.sheet ∙ i.sheet;
}
