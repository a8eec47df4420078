use Rattle.std.proofs.Common.{◌≡◌, ◌∙◌, inl, refl, ℕ, ◌≤◌, List, [], ◌∷◌, ◌++◌, length, true, ap, sym, subst, rules}
use Rattle.store_history.specs.declared.history.Commit.{Commit}
use Rattle.filter_state.specs.declared.edit.Edit.{Edit}
use Rattle.pin_store.specs.Calls.{seen_by, sheet_of}
use Rattle.pin_store.specs.Sheets.{base_of}
use Rattle.pin_store.specs.declared.scan.Scan.TheVariants.{Quiet}
use Rattle.hook_law.specs.Meaning.{point_of}
use Rattle.hook_law.specs.Keeping.{Keeps}
use Rattle.hook_law.proofs.Pushing.{keeps_rises}
use Rattle.hook_store_law.specs.Stated.{hook_meaning}
use Rattle.hook_store_law.specs.Blocks.{hook_codec}
use Rattle.desk_pools.specs.declared.pools.Pools.{Pools}
use Rattle.desk_pools.specs.Pools.{gone_roots, ArePools}
use Rattle.desk_pools.specs.OfTidying.Tidied.{emptying, Empties}
use Rattle.desk_pools.proofs.OfTidying.Freed.{blocks_freed}
use Rattle.desk_pools.proofs.OfTidying.Whole.{raised, kept_on, all_kept, all_emptied, all_pools}
use Rattle.desk_pools.proofs.tidying.tidying.tidy.Goals as goal

pub returns-then-ne-clause-pools : goal.returns-then-ne-clause-pools
returns-then-ne-clause-pools c = let p = c.args.writer.now.place in let q = c.settle-first.new.writer.place in
    raised c.args.pools.now (seen_by p) (seen_by q) (base_of (sheet_of p)) (base_of (sheet_of q)) c.settle-first.ensures.seen c.settle-first.ensures.risen c.requires.pools

pub returns-then-ne-clause-lawful : goal.returns-then-ne-clause-lawful
returns-then-ne-clause-lawful c = let p = c.args.writer.now.place in let q = c.settle-first.new.writer.place in
    kept_on (seen_by p) (seen_by q) (base_of (sheet_of p)) (base_of (sheet_of q)) c.args.point c.settle-first.ensures.seen c.settle-first.ensures.risen c.settle-first.ensures.low c.requires.lawful

pub empty_gone-requires-clause-lawful : goal.empty_gone-requires-clause-lawful
empty_gone-requires-clause-lawful c = let p = c.args.writer.now.place in let q = c.settle-first.new.writer.place in
    kept_on (seen_by p) (seen_by q) (base_of (sheet_of p)) (base_of (sheet_of q)) c.args.point c.settle-first.ensures.seen c.settle-first.ensures.risen c.settle-first.ensures.low c.requires.lawful

pub empty_gone-requires-clause-pools : goal.empty_gone-requires-clause-pools
empty_gone-requires-clause-pools c = let p = c.args.writer.now.place in let q = c.settle-first.new.writer.place in
    raised c.args.pools.now (seen_by p) (seen_by q) (base_of (sheet_of p)) (base_of (sheet_of q)) c.settle-first.ensures.seen c.settle-first.ensures.risen c.requires.pools

pub returns-then-eq-clause-seen : goal.returns-then-eq-clause-seen
returns-then-eq-clause-seen c = let p = c.args.writer.now.place in let q = c.settle-first.new.writer.place in let g = c.empty_gone.new.writer.place in
    let quiet : c.settle-first.result ≡ Quiet = search rules in let end = c.settle-first.ensures.quiet quiet ∙ ap (length {A = Commit Edit}) (sym c.settle-first.ensures.seen) in
    let low = c.settle-first.ensures.risen in let law = kept_on (seen_by p) (seen_by q) (base_of (sheet_of p)) (base_of (sheet_of q)) c.args.point c.settle-first.ensures.seen low c.settle-first.ensures.low c.requires.lawful in
    let pools = raised c.args.pools.now (seen_by p) (seen_by q) (base_of (sheet_of p)) (base_of (sheet_of q)) c.settle-first.ensures.seen low c.requires.pools in
    subst (Empties c.args.pools.now (seen_by p) c.args.point) (sym c.settle-second.ensures.seen)
    (subst (λ (l : List (Commit Edit)). Empties c.args.pools.now l c.args.point (seen_by g)) c.settle-first.ensures.seen
    (all_emptied c.args.pools.now (seen_by q) (seen_by g) (base_of (sheet_of q)) (base_of (sheet_of g)) c.args.point law end pools c.empty_gone.ensures.seen (ap base_of c.empty_gone.ensures.sheet)))

pub returns-then-eq-clause-lawful : goal.returns-then-eq-clause-lawful
returns-then-eq-clause-lawful c = let p = c.args.writer.now.place in let q = c.settle-first.new.writer.place in let g = c.empty_gone.new.writer.place in let last = c.settle-second.new.writer.place in
    let quiet : c.settle-first.result ≡ Quiet = search rules in let end = c.settle-first.ensures.quiet quiet ∙ ap (length {A = Commit Edit}) (sym c.settle-first.ensures.seen) in
    let low = c.settle-first.ensures.risen in let law = kept_on (seen_by p) (seen_by q) (base_of (sheet_of p)) (base_of (sheet_of q)) c.args.point c.settle-first.ensures.seen low c.settle-first.ensures.low c.requires.lawful in
    let pools = raised c.args.pools.now (seen_by p) (seen_by q) (base_of (sheet_of p)) (base_of (sheet_of q)) c.settle-first.ensures.seen low c.requires.pools in
    let after = all_kept c.args.pools.now (seen_by q) (seen_by g) (base_of (sheet_of q)) (base_of (sheet_of g)) c.args.point law end pools c.empty_gone.ensures.seen (ap base_of c.empty_gone.ensures.sheet) in
    kept_on (seen_by g) (seen_by last) (base_of (sheet_of g)) (base_of (sheet_of last)) c.args.point c.settle-second.ensures.seen c.settle-second.ensures.risen c.settle-second.ensures.low after

pub returns-then-eq-clause-pools : goal.returns-then-eq-clause-pools
returns-then-eq-clause-pools c = let p = c.args.writer.now.place in let q = c.settle-first.new.writer.place in let g = c.empty_gone.new.writer.place in let last = c.settle-second.new.writer.place in
    let quiet : c.settle-first.result ≡ Quiet = search rules in let end = c.settle-first.ensures.quiet quiet ∙ ap (length {A = Commit Edit}) (sym c.settle-first.ensures.seen) in
    let low = c.settle-first.ensures.risen in let law = kept_on (seen_by p) (seen_by q) (base_of (sheet_of p)) (base_of (sheet_of q)) c.args.point c.settle-first.ensures.seen low c.settle-first.ensures.low c.requires.lawful in
    let pools = raised c.args.pools.now (seen_by p) (seen_by q) (base_of (sheet_of p)) (base_of (sheet_of q)) c.settle-first.ensures.seen low c.requires.pools in
    let f = c.free_numbers.ensures in
    let numbers = all_pools c.args.pools.now (seen_by q) (seen_by g) (base_of (sheet_of q)) (base_of (sheet_of g)) c.args.point law end pools c.empty_gone.ensures.seen (ap base_of c.empty_gone.ensures.sheet)
    c.free_numbers.new.pools (f.rows.0, f.rows.1) (f.masks.0, f.masks.1) (f.actions.0, f.actions.1) f.blocks f.places in
    let all = raised c.free_numbers.new.pools (seen_by g) (seen_by last) (base_of (sheet_of g)) (base_of (sheet_of last)) c.settle-second.ensures.seen c.settle-second.ensures.risen numbers in
    let settled : c.settle-second.result ≡ Quiet = search rules in let b = c.free_blocks.ensures in
    blocks_freed c.free_numbers.new.pools c.free_blocks.new.pools (seen_by last) (base_of (sheet_of last)) (c.settle-second.ensures.quiet settled ∙ ap (length {A = Commit Edit}) (sym c.settle-second.ensures.seen)) all
    f.masks.1 f.actions.1 f.rows.1 b.rest b.blocks.0 b.blocks.1 b.places

pub returns-else-eq-clause-seen : goal.returns-else-eq-clause-seen
returns-else-eq-clause-seen c = let p = c.args.writer.now.place in let q = c.settle-first.new.writer.place in let g = c.empty_gone.new.writer.place in
    let quiet : c.settle-first.result ≡ Quiet = search rules in let end = c.settle-first.ensures.quiet quiet ∙ ap (length {A = Commit Edit}) (sym c.settle-first.ensures.seen) in
    let low = c.settle-first.ensures.risen in let law = kept_on (seen_by p) (seen_by q) (base_of (sheet_of p)) (base_of (sheet_of q)) c.args.point c.settle-first.ensures.seen low c.settle-first.ensures.low c.requires.lawful in
    let pools = raised c.args.pools.now (seen_by p) (seen_by q) (base_of (sheet_of p)) (base_of (sheet_of q)) c.settle-first.ensures.seen low c.requires.pools in
    subst (Empties c.args.pools.now (seen_by p) c.args.point) (sym c.settle-second.ensures.seen)
    (subst (λ (l : List (Commit Edit)). Empties c.args.pools.now l c.args.point (seen_by g)) c.settle-first.ensures.seen
    (all_emptied c.args.pools.now (seen_by q) (seen_by g) (base_of (sheet_of q)) (base_of (sheet_of g)) c.args.point law end pools c.empty_gone.ensures.seen (ap base_of c.empty_gone.ensures.sheet)))

pub returns-else-eq-clause-lawful : goal.returns-else-eq-clause-lawful
returns-else-eq-clause-lawful c = let p = c.args.writer.now.place in let q = c.settle-first.new.writer.place in let g = c.empty_gone.new.writer.place in let last = c.settle-second.new.writer.place in
    let quiet : c.settle-first.result ≡ Quiet = search rules in let end = c.settle-first.ensures.quiet quiet ∙ ap (length {A = Commit Edit}) (sym c.settle-first.ensures.seen) in
    let low = c.settle-first.ensures.risen in let law = kept_on (seen_by p) (seen_by q) (base_of (sheet_of p)) (base_of (sheet_of q)) c.args.point c.settle-first.ensures.seen low c.settle-first.ensures.low c.requires.lawful in
    let pools = raised c.args.pools.now (seen_by p) (seen_by q) (base_of (sheet_of p)) (base_of (sheet_of q)) c.settle-first.ensures.seen low c.requires.pools in
    let after = all_kept c.args.pools.now (seen_by q) (seen_by g) (base_of (sheet_of q)) (base_of (sheet_of g)) c.args.point law end pools c.empty_gone.ensures.seen (ap base_of c.empty_gone.ensures.sheet) in
    kept_on (seen_by g) (seen_by last) (base_of (sheet_of g)) (base_of (sheet_of last)) c.args.point c.settle-second.ensures.seen c.settle-second.ensures.risen c.settle-second.ensures.low after

pub returns-else-eq-clause-pools : goal.returns-else-eq-clause-pools
returns-else-eq-clause-pools c = let p = c.args.writer.now.place in let q = c.settle-first.new.writer.place in let g = c.empty_gone.new.writer.place in let last = c.settle-second.new.writer.place in
    let quiet : c.settle-first.result ≡ Quiet = search rules in let end = c.settle-first.ensures.quiet quiet ∙ ap (length {A = Commit Edit}) (sym c.settle-first.ensures.seen) in
    let low = c.settle-first.ensures.risen in let law = kept_on (seen_by p) (seen_by q) (base_of (sheet_of p)) (base_of (sheet_of q)) c.args.point c.settle-first.ensures.seen low c.settle-first.ensures.low c.requires.lawful in
    let pools = raised c.args.pools.now (seen_by p) (seen_by q) (base_of (sheet_of p)) (base_of (sheet_of q)) c.settle-first.ensures.seen low c.requires.pools in
    let f = c.free_numbers.ensures in
    let numbers = all_pools c.args.pools.now (seen_by q) (seen_by g) (base_of (sheet_of q)) (base_of (sheet_of g)) c.args.point law end pools c.empty_gone.ensures.seen (ap base_of c.empty_gone.ensures.sheet)
    c.free_numbers.new.pools (f.rows.0, f.rows.1) (f.masks.0, f.masks.1) (f.actions.0, f.actions.1) f.blocks f.places in
    let all = raised c.free_numbers.new.pools (seen_by g) (seen_by last) (base_of (sheet_of g)) (base_of (sheet_of last)) c.settle-second.ensures.seen c.settle-second.ensures.risen numbers in
    all
