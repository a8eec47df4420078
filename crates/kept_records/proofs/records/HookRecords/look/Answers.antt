use Rattle.std.proofs.Common.{◌≡◌, ◌∙◌, ℕ, ◌<◌, ◌≤◌, ◌+◌, ◌-◌, ◌*◌, List, length, take, Some, None, option_copied, ap, sym, subst, arith}
use Rattle.store_history.specs.declared.history.Commit.{Commit}
use Rattle.store_history.specs.declared.history.Named.{Named}
use Rattle.store_history.specs.History.{root_of}
use Rattle.store_history.specs.Reads.{read_all, read_first}
use Rattle.store_history.proofs.Histories.{prefix_length, prefix_take, prefix_trans}
use Rattle.filter_state.specs.declared.edit.Edit.{Edit}
use Rattle.pin_store.specs.Calls.{seen_by, floor_start, start_in, loads_of}
use Rattle.flow_mask.specs.Masks.{each_and}
use Rattle.block_codec.specs.declared.filter.StoredFilter.{StoredFilter}
use Rattle.block_codec.specs.OfReadings.Read.{filter_in, mask_of_words, action_of_words}
use Rattle.mask_table.specs.Buckets.{mask_root, bucket_root, bucket_for, IsAnswer}
use Rattle.mask_table.proofs.Limits.{within, root_low}
use Rattle.mask_table.proofs.Looking.{looked_up, one_of}
use Rattle.mask_table.proofs.Stamps.{no_record}
use Rattle.hook_store_law.specs.Told.{stands_at, words_after, filters_after}
use Rattle.hook_store_law.proofs.Masking.{slot_stood, mask_told}
use Rattle.hook_store_law.proofs.Bucketing.{bucket_told}
use Rattle.kept_records.specs.Keeping.{IsRead, IsKnown}
use Rattle.kept_records.proofs.Kept.{all_on}
use Rattle.kept_records.proofs.records.HookRecords.look.Goals as goal

pub returns-in_default-clause-kept : goal.returns-in_default-clause-kept
returns-in_default-clause-kept g c = let r = c.renew_mask-stamp.ensures in let k = c.requires.kept in
    let h0 = seen_by c.args.reader.now.place in let h1 = seen_by c.renew_mask-stamp.new.reader.place in record {
      masks = r.kept;
      filters = all_on IsKnown h0 h1 r.longer c.args.self.now.filters k.filters;
      actions = all_on (IsRead action_of_words) h0 h1 r.longer c.args.self.now.actions k.actions;
    }

pub returns-in_default-clause-stamps : goal.returns-in_default-clause-stamps
returns-in_default-clause-stamps g c = let r = c.renew_mask-stamp.ensures in
    no_record (seen_by c.args.reader.now.place) (seen_by c.renew_mask-stamp.new.reader.place) c.args.slot c.args.key.now.words c.renew_mask-stamp.result r.longer
    (sym r.mask ∙ (sym c.at.ensures ∙ ap option_copied c.in_default.is)) r.stamp

pub returns-in_default-clause-found : goal.returns-in_default-clause-found
returns-in_default-clause-found g c = λ n serial low high stands.
    let r = c.renew_mask-stamp.ensures in let slot = c.args.slot in let h0 = seen_by c.args.reader.now.place in let h1 = seen_by c.renew_mask-stamp.new.reader.place in let b = floor_start c.renew_mask-stamp.new.reader.place in
    let floor : b ≡ floor_start c.args.reader.now.place = ap start_in r.same.floor in let long = prefix_length h0 h1 r.longer in
    let s = slot_stood h1 b n slot serial r.lawful.law (omega arith) (omega arith) (subst (λ (z : List (Commit Edit)). stands_at z slot serial) (sym (prefix_take h0 h1 n r.longer high)) stands) in
    let late = s.late in let made = s.made in
    let a = mask_told h1 b s.at slot serial r.lawful.law (omega arith) made s.there in
    let none : read_first mask_of_words (root_of (take s.at h1) (mask_root slot)).chain ≡ None = ap (λ (z : Named). read_first mask_of_words z.chain) (sym s.same) ∙ (sym r.mask ∙ (sym c.at.ensures ∙ ap option_copied c.in_default.is)) in
    let some = a.read in absurd (cc (some, none))

pub root_for-root-requires-clause-size : goal.root_for-root-requires-clause-size
root_for-root-requires-clause-size g c = let r = c.renew_mask-stamp.ensures in
    (within (root_of (seen_by c.renew_mask-stamp.new.reader.place) (mask_root c.args.slot)).chain c.in-Some.mask.now (sym r.mask ∙ (sym c.at.ensures ∙ ap option_copied c.in-Some.is))).some

pub root_for-root-requires-clause-rows : goal.root_for-root-requires-clause-rows
root_for-root-requires-clause-rows g c = let r = c.renew_mask-stamp.ensures in
    (within (root_of (seen_by c.renew_mask-stamp.new.reader.place) (mask_root c.args.slot)).chain c.in-Some.mask.now (sym r.mask ∙ (sym c.at.ensures ∙ ap option_copied c.in-Some.is))).rows

pub root_for-root-requires-clause-small : goal.root_for-root-requires-clause-small
root_for-root-requires-clause-small g c = let r = c.renew_mask-stamp.ensures in
    (within (root_of (seen_by c.renew_mask-stamp.new.reader.place) (mask_root c.args.slot)).chain c.in-Some.mask.now (sym r.mask ∙ (sym c.at.ensures ∙ ap option_copied c.in-Some.is))).small

pub search-found-requires-clause-shape : goal.search-found-requires-clause-shape
search-found-requires-clause-shape g c = let r = c.renew_mask-stamp.ensures in let mask = c.in-Some.mask.now in
    let is = within (root_of (seen_by c.renew_mask-stamp.new.reader.place) (mask_root c.args.slot)).chain mask (sym r.mask ∙ (sym c.at.ensures ∙ ap option_copied c.in-Some.is)) in let some = is.some in
    let i = bucket_for mask.size c.masked-wanted.result.words in let less : i < mask.size = omega arith in
    let low = root_low mask i is less in let roots = c.requires.shape.1 in let root = c.root_for-root.ensures in (c.requires.shape.0, omega arith)

pub search-found-requires-clause-kept : goal.search-found-requires-clause-kept
search-found-requires-clause-kept g c =
    all_on IsKnown (seen_by c.args.reader.now.place) (seen_by c.renew_mask-stamp.new.reader.place) c.renew_mask-stamp.ensures.longer c.args.self.now.filters c.requires.kept.filters

pub returns-clause-longer : goal.returns-clause-longer
returns-clause-longer g c =
    prefix_trans (seen_by c.args.reader.now.place) (seen_by c.renew_mask-stamp.new.reader.place) (seen_by c.search-found.new.reader.place) c.renew_mask-stamp.ensures.longer c.search-found.ensures.longer

pub returns-clause-kept : goal.returns-clause-kept
returns-clause-kept g c = let r = c.renew_mask-stamp.ensures in let e = c.search-found.ensures in
    let h0 = seen_by c.args.reader.now.place in let h1 = seen_by c.renew_mask-stamp.new.reader.place in let h2 = seen_by c.search-found.new.reader.place in record {
      masks = all_on (IsRead mask_of_words) h1 h2 e.longer c.renew_mask-stamp.new.masks r.kept;
      filters = e.kept;
      actions = all_on (IsRead action_of_words) h0 h2 (prefix_trans h0 h1 h2 r.longer e.longer) c.args.self.now.actions c.requires.kept.actions;
    }

pub returns-clause-found : goal.returns-clause-found
returns-clause-found g c = λ n serial low high stands.
    let r = c.renew_mask-stamp.ensures in let slot = c.args.slot in let h0 = seen_by c.args.reader.now.place in let h1 = seen_by c.renew_mask-stamp.new.reader.place in
    let e = c.search-found.ensures in let h2 = seen_by c.search-found.new.reader.place in
    let long1 = prefix_length h0 h1 r.longer in let long2 = prefix_length h1 h2 e.longer in
    let floor1 : floor_start c.renew_mask-stamp.new.reader.place ≡ floor_start c.args.reader.now.place = ap start_in r.same.floor in
    let floor2 : floor_start c.search-found.new.reader.place ≡ floor_start c.renew_mask-stamp.new.reader.place = ap start_in e.same.floor in
    let b = floor_start c.search-found.new.reader.place in let mask = c.in-Some.mask.now in
    let s = slot_stood h1 (floor_start c.renew_mask-stamp.new.reader.place) n slot serial r.lawful.law (omega arith) (omega arith)
    (subst (λ (z : List (Commit Edit)). stands_at z slot serial) (sym (prefix_take h0 h1 n r.longer high)) stands) in
    let late = s.late in let made = s.made in
    let same = prefix_take h1 h2 s.at e.longer made in
    let stands2 = subst (λ (z : List (Commit Edit)). stands_at z slot serial) (sym same) s.there in
    let named : root_of (take s.at h2) (mask_root slot) ≡ root_of h1 (mask_root slot) = ap (λ (z : List (Commit Edit)). root_of z (mask_root slot)) same ∙ sym s.same in
    let first : read_first mask_of_words (root_of h1 (mask_root slot)).chain ≡ Some mask = sym r.mask ∙ (sym c.at.ensures ∙ ap option_copied c.in-Some.is) in
    let read : read_first mask_of_words (root_of (take s.at h2) (mask_root slot)).chain ≡ Some mask = ap (λ (z : Named). read_first mask_of_words z.chain) named ∙ first in
    let is = within (root_of h1 (mask_root slot)).chain mask first in let some = is.some in
    let i = bucket_for mask.size c.masked-wanted.result.words in
    let less : i < mask.size = omega arith in
    let o = bucket_told h2 b s.at slot serial i mask e.lawful.law (omega arith) (omega arith) stands2 read less in let late2 = o.late in let made2 = o.made in
    let a = mask_told h2 b s.at slot serial e.lawful.law (omega arith) (omega arith) stands2 in
    let d = mask_told h2 b o.at slot serial e.lawful.law (omega arith) made2 o.there in
    let key = c.masked-wanted.ensures.words in
    let root : c.root_for-root.result ≡ bucket_root mask i = c.root_for-root.ensures in
    let found = subst (λ (z : ℕ). (xs : List StoredFilter) → read_all filter_in (root_of h2 z).chain ≡ Some xs → IsAnswer xs (each_and c.args.key.now.words mask.mask.words) c.search-found.result.0 c.search-found.new.into) root
    (subst (λ (z : List ℕ). (xs : List StoredFilter) → read_all filter_in (root_of h2 c.root_for-root.result).chain ≡ Some xs → IsAnswer xs z c.search-found.result.0 c.search-found.new.into) key e.found) in
    let cost = subst (λ (z : ℕ). loads_of c.search-found.new.reader.place ≤ loads_of c.renew_mask-stamp.new.reader.place + 1 + 40 * length (root_of h2 z).chain) root e.few in let spent = r.few in
    let top = c.max.ensures in
    looked_up stands_at (λ (k : ℕ). words_after h2 k serial) (λ (k : ℕ). filters_after h2 k serial) h2 n s.at slot serial c.args.key.now.words mask c.search-found.result.0 c.search-found.new.into
    c.renew_mask-stamp.result c.search-found.result.1 c.max.result (loads_of c.search-found.new.reader.place - loads_of c.args.reader.now.place) i
    late (ap (bucket_for mask.size) key) read (ap (λ (z : Named). z.stamp) named ∙ sym r.stamp) o (ap (λ (z : ℕ). (root_of h2 z).stamp) (sym root) ∙ sym e.stamp) a d found (omega arith) (omega arith) (one_of c.renew_mask-stamp.result c.search-found.result.1 c.max.result top) (omega (arith, cost, spent))
    (ap length (sym c.words_of-words.ensures.words) ∙ c.words_of-words.ensures.count)
