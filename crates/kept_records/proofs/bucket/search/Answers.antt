use Rattle.std.proofs.Common.{◌≡◌, ◌∙◌, List, length, Some, sym, ap, subst, arith}
use mathlib.Core.List.{IsPrefix}
use Rattle.store_history.specs.declared.history.Commit.{Commit}
use Rattle.store_history.specs.History.{root_of}
use Rattle.store_history.specs.Reads.{read_all}
use Rattle.filter_state.specs.declared.edit.Edit.{Edit}
use Rattle.pin_store.specs.Calls.{seen_by}
use Rattle.block_codec.specs.OfReadings.Read.{filter_in}
use Rattle.kept_records.specs.Keeping.{IsKnown}
use Rattle.kept_records.proofs.Chains.{at_start}
use Rattle.kept_records.proofs.Kept.{all_on, right_again, known_kept}
use Rattle.kept_records.proofs.bucket.search.Goals as goal

pub find_from-found-requires-clause-before : goal.find_from-found-requires-clause-before
find_from-found-requires-clause-before g c = let e = c.load_root-word.ensures in let p = c.load_root-word.new.self.place in
    (0, at_start c.args.store.now.shape p c.args.root c.number_of-next.result (c.number_of-next.ensures (root_of (seen_by p) c.args.root).chain e.first) c.requires.shape.0 e.linked e.sized e.recent)

pub returns-clause-found : goal.returns-clause-found
returns-clause-found g c = λ there all. let e = c.load_root-word.ensures in let p = c.load_root-word.new.self.place in
    let before = at_start c.args.store.now.shape p c.args.root c.number_of-next.result (c.number_of-next.ensures (root_of (seen_by p) c.args.root).chain e.first) c.requires.shape.0 e.linked e.sized e.recent in
    c.find_from-found.ensures.found 0 there before (subst (λ (h : List (Commit Edit)). read_all filter_in (root_of h c.args.root).chain ≡ Some there) c.find_from-found.ensures.same.seen all)

pub returns-clause-few : goal.returns-clause-few
returns-clause-few g c = let e = c.load_root-word.ensures in let p = c.load_root-word.new.self.place in
    let before = at_start c.args.store.now.shape p c.args.root c.number_of-next.result (c.number_of-next.ensures (root_of (seen_by p) c.args.root).chain e.first) c.requires.shape.0 e.linked e.sized e.recent in
    let few = c.find_from-found.ensures.few 0 before in let one = e.loads in
    let same : length (root_of (seen_by c.find_from-found.new.reader.place) c.args.root).chain ≡ length (root_of (seen_by p) c.args.root).chain = ap (λ (h : List (Commit Edit)). length (root_of h c.args.root).chain) c.find_from-found.ensures.same.seen in
    omega (arith, few, one, same)

pub returns-then-tell_known-clause-kept : goal.returns-then-tell_known-clause-kept
returns-then-tell_known-clause-kept g c =
    all_on IsKnown (seen_by c.args.reader.now.place) (seen_by c.load_root-word.new.self.place) c.load_root-word.ensures.longer c.args.filters.now c.requires.kept

pub returns-then-tell_known-clause-found : goal.returns-then-tell_known-clause-found
returns-then-tell_known-clause-found g c = λ there all. let e = c.load_root-word.ensures in let told = c.tell_known.ensures c.if-tell_known.true in
    let known = right_again IsKnown (seen_by c.args.reader.now.place) (seen_by c.load_root-word.new.self.place) c.args.root c.load_root-word.result.stamp c.load_root-word.result.first c.args.filters.now told.0
    e.longer c.requires.kept e.stamp e.first (sym c.is_some.ensures ∙ c.if-is_some.true) told.1 e.lawful.stamps in
    let answer = known there all in (answer.0, answer.1, answer.2 ∙ told.2, told.3 ∙ answer.3)

pub returns-clause-kept : goal.returns-clause-kept
returns-clause-kept g c = let e = c.load_root-word.ensures in let p = c.load_root-word.new.self.place in let h = seen_by c.find_from-found.new.reader.place in
    let same : h ≡ seen_by p = c.find_from-found.ensures.same.seen in
    let before = at_start c.args.store.now.shape p c.args.root c.number_of-next.result (c.number_of-next.ensures (root_of (seen_by p) c.args.root).chain e.first) c.requires.shape.0 e.linked e.sized e.recent in
    known_kept (seen_by c.args.reader.now.place) h c.args.root c.load_root-word.result.stamp c.args.filters.now c.keep_known.new.filters (record { key = c.args.key.now; actions = c.find_from-found.new.into }) c.find_from-found.result
    (subst (IsPrefix (seen_by c.args.reader.now.place)) (sym same) e.longer) c.requires.kept (e.stamp ∙ ap (λ (s : List (Commit Edit)). (root_of s c.args.root).stamp) (sym same))
    (λ there all. c.find_from-found.ensures.found 0 there before (subst (λ (s : List (Commit Edit)). read_all filter_in (root_of s c.args.root).chain ≡ Some there) same all))
    c.keep_known.ensures.found c.keep_known.ensures.none
