use Rattle.std.proofs.Common.{◌≡◌, ◌≢◌, ◌∙◌, ℕ, ◌+◌, ◌-◌, List, length, slice_get, slice_range, true, false, Some, sym, refl, ap, subst, arith, below_more}
use Rattle.std.proofs.lemmas.Option.{slice_get_within}
use Rattle.store_history.specs.declared.history.Commit.{Commit}
use Rattle.store_history.specs.History.{root_of}
use Rattle.store_history.proofs.Lists.{get_drop}
use Rattle.pin_store.specs.Calls.{seen_by}
use Rattle.block_codec.specs.declared.filter.StoredFilter.{StoredFilter}
use Rattle.block_codec.specs.OfReadings.Read.{filter_in}
use Rattle.block_chain.specs.Ways.{IsBefore}
use Rattle.block_chain.proofs.Still.{still, still_named}
use Rattle.block_chain.proofs.Chains.{all_passed, read_at, read_length}
use Rattle.block_chain.proofs.Ways.{next_of, behind, narrow}
use Rattle.kept_records.proofs.OfSearches.FilterWords.{filter_is, get_ahead}
use Rattle.kept_records.proofs.searches.finding.find_from.Goals as goal

pub loop-ahead-init : goal.loop-ahead-init
loop-ahead-init g c = record {
  store = c.requires.store;
  same = record { seen = refl; number = refl; pin = refl; floor = refl };
  gone = 0;
  before = λ place b. let none : place ≡ place + 0 = omega arith in subst (λ (n : ℕ). IsBefore c.args.store.now.shape c.args.reader.now.place c.args.root n c.args.next) none b;
  loads = omega arith;
  grown = omega arith;
  steps = refl;
  absent = λ place j there f b all low. absurd (omega (arith, low));
}

pub overflow_cast-block : goal.overflow_cast-block
overflow_cast-block g c = let b = c.requires.before in let v = c.loop-ahead.invariant in
    let n = next_of c.args.store.now.shape c.loop-ahead.reader.place c.args.root (b.0 + v.gone) c.loop-ahead.ahead c.loop-ahead-test.true (v.before b.0 b.1) in let number = n.number in let low = n.sized.0 in
    let few = narrow c.args.store.now.shape c.requires.shape c.args.store.now.small in omega arith

pub has_key-requires-clause-shape : goal.has_key-requires-clause-shape
has_key-requires-clause-shape g c = let b = c.requires.before in let v = c.loop-ahead.invariant in
    let n = next_of c.args.store.now.shape c.loop-ahead.reader.place c.args.root (b.0 + v.gone) c.loop-ahead.ahead c.loop-ahead-test.true (v.before b.0 b.1) in let number = n.number in let low = n.sized.0 in
    (c.requires.shape, omega arith)

pub has_key-requires-clause-told : goal.has_key-requires-clause-told
has_key-requires-clause-told g c = let b = c.requires.before in let v = c.loop-ahead.invariant in
    let n = next_of c.args.store.now.shape c.loop-ahead.reader.place c.args.root (b.0 + v.gone) c.loop-ahead.ahead c.loop-ahead-test.true (v.before b.0 b.1) in let number = n.number in
    (n.link, n.named, omega arith)

pub tell_actions-requires-clause-shape : goal.tell_actions-requires-clause-shape
tell_actions-requires-clause-shape g c = let b = c.requires.before in let v = c.loop-ahead.invariant in
    let n = next_of c.args.store.now.shape c.loop-ahead.reader.place c.args.root (b.0 + v.gone) c.loop-ahead.ahead c.loop-ahead-test.true (v.before b.0 b.1) in let number = n.number in let low = n.sized.0 in
    (c.requires.shape, omega arith)

pub tell_actions-requires-clause-told : goal.tell_actions-requires-clause-told
tell_actions-requires-clause-told g c = let b = c.requires.before in let v = c.loop-ahead.invariant in
    let n = next_of c.args.store.now.shape c.loop-ahead.reader.place c.args.root (b.0 + v.gone) c.loop-ahead.ahead c.loop-ahead-test.true (v.before b.0 b.1) in let number = n.number in
    (n.link, still_named c.has_key.ensures.same n.link n.named, omega arith)

pub returns-then-has_key-clause-same : goal.returns-then-has_key-clause-same
returns-then-has_key-clause-same g c = still c.loop-ahead.invariant.same (still c.has_key.ensures.same c.tell_actions.ensures.same)

pub returns-then-has_key-clause-found : goal.returns-then-has_key-clause-found
returns-then-has_key-clause-found g c = λ place there b all. let v = c.loop-ahead.invariant in let h = seen_by c.args.reader.now.place in
    let n = next_of c.args.store.now.shape c.loop-ahead.reader.place c.args.root (place + v.gone) c.loop-ahead.ahead c.loop-ahead-test.true (v.before place b) in let number = n.number in
    let chain_at : slice_get (root_of h c.args.root).chain (place + v.gone) ≡ Some n.link = subst (λ (s : List (Commit g.row.L-Entry.Denot)). slice_get (root_of s c.args.root).chain (place + v.gone) ≡ Some n.link) v.same.seen n.there in
    let reads = read_at filter_in (root_of h c.args.root).chain there (place + v.gone) n.link all chain_at in let f = reads.0 in
    let is = filter_is n.link.words f reads.1 in let at : n.link.block ≡ c.loop-ahead.ahead - 1 = omega (arith, number) in
    let key = (c.has_key.ensures.key n.link n.named at n.sized).0 c.if-has_key.true in (
      f,
      (v.gone, get_ahead there place v.gone f reads.2),
      ap (λ (it : StoredFilter). it.key.words) is.0 ∙ key,
      c.tell_actions.ensures.actions n.link (still_named c.has_key.ensures.same n.link n.named) at n.sized is.1 ∙ ap (λ (it : StoredFilter). it.actions) (sym is.0),
    )

pub returns-then-has_key-clause-few : goal.returns-then-has_key-clause-few
returns-then-has_key-clause-few g c = λ place b. let v = c.loop-ahead.invariant in
    let n = next_of c.args.store.now.shape c.loop-ahead.reader.place c.args.root (place + v.gone) c.loop-ahead.ahead c.loop-ahead-test.true (v.before place b) in let inside = n.inside in
    let same = ap (λ (s : List (Commit g.row.L-Entry.Denot)). length (root_of s c.args.root).chain) v.same.seen in
    let loads = v.loads in let key = c.has_key.ensures.few in let acts = c.tell_actions.ensures.few in omega (arith, inside, same, loads, key, acts)

pub returns-then-has_key-clause-steps : goal.returns-then-has_key-clause-steps
returns-then-has_key-clause-steps g c = let one = c.loop-ahead.invariant.steps in let two = c.has_key.ensures.steps in let three = c.tell_actions.ensures.steps in omega (arith, one, two, three)

pub load_word-ahead-requires-clause-within : goal.load_word-ahead-requires-clause-within
load_word-ahead-requires-clause-within g c = let b = c.requires.before in let v = c.loop-ahead.invariant in
    let n = next_of c.args.store.now.shape c.loop-ahead.reader.place c.args.root (b.0 + v.gone) c.loop-ahead.ahead c.loop-ahead-test.true (v.before b.0 b.1) in let number = n.number in let low = n.sized.0 in let forty = c.requires.shape in
    (omega arith, omega (arith, forty))

pub load_word-ahead-requires-clause-told : goal.load_word-ahead-requires-clause-told
load_word-ahead-requires-clause-told g c = let b = c.requires.before in let v = c.loop-ahead.invariant in
    let n = next_of c.args.store.now.shape c.loop-ahead.reader.place c.args.root (b.0 + v.gone) c.loop-ahead.ahead c.loop-ahead-test.true (v.before b.0 b.1) in let number = n.number in
    (n.link, still_named c.has_key.ensures.same n.link n.named, omega arith)

pub loop-ahead-smaller : goal.loop-ahead-smaller
loop-ahead-smaller g c = let b = c.requires.before in let v = c.loop-ahead.invariant in
    let n = next_of c.args.store.now.shape c.loop-ahead.reader.place c.args.root (b.0 + v.gone) c.loop-ahead.ahead c.loop-ahead-test.true (v.before b.0 b.1) in let inside = n.inside in
    let same : length (root_of (seen_by c.loop-ahead.reader.place) c.args.root).chain ≡ length (root_of (seen_by c.args.reader.now.place) c.args.root).chain = ap (λ (s : List (Commit g.row.L-Entry.Denot)). length (root_of s c.args.root).chain) v.same.seen in
    let loads = v.loads in let steps = v.steps in let before = v.grown in let key = c.has_key.ensures.few in let more = c.has_key.ensures.steps in let grown = c.has_key.ensures.grown in let last = c.load_word-ahead.ensures.loads in let count = c.load_word-ahead.ensures.steps in omega (arith, inside, same, loads, steps, before, key, more, grown, last, count)

pub loop-ahead-preserved : goal.loop-ahead-preserved
loop-ahead-preserved g c = let v = c.loop-ahead.invariant in let w = c.load_word-ahead.ensures in let k = c.has_key.ensures in record {
  store = w.store;
  same = still v.same (still k.same w.same);
  gone = v.gone + 1;
  before = λ place b.
      let n = next_of c.args.store.now.shape c.loop-ahead.reader.place c.args.root (place + v.gone) c.loop-ahead.ahead c.loop-ahead-test.true (v.before place b) in let number = n.number in
      let at : n.link.block ≡ c.loop-ahead.ahead - 1 = omega (arith, number) in let one : place + v.gone + 1 ≡ place + (v.gone + 1) = omega arith in
      subst (λ (m : ℕ). IsBefore c.args.store.now.shape c.load_word-ahead.new.self.place c.args.root m c.load_word-ahead.result) one
      (behind c.args.store.now.shape c.loop-ahead.reader.place c.load_word-ahead.new.self.place c.args.root (place + v.gone) c.loop-ahead.ahead c.load_word-ahead.result n (still k.same w.same)
      (w.word n.link (still_named k.same n.link n.named) at) (v.before place b));
  loads = (let a = v.loads in let b = k.few in let d = w.loads in omega (arith, a, b, d));
  grown = (let a = v.grown in let b = k.grown in let d = w.loads in omega (arith, a, b, d));
  steps = (let a = v.steps in let b = k.steps in let d = w.loads in let e = w.steps in omega (arith, a, b, d, e));
  absent = λ place j there f b all low at. below_more (λ (m : ℕ). (f : StoredFilter) → slice_get there (place + m) ≡ Some f → f.key.words ≢ c.args.key.now.words) v.gone (λ m low f at. v.absent place m there f b all low at)
      (λ f at same.
      let n = next_of c.args.store.now.shape c.loop-ahead.reader.place c.args.root (place + v.gone) c.loop-ahead.ahead c.loop-ahead-test.true (v.before place b) in let number = n.number in
      let h = seen_by c.args.reader.now.place in
      let chain_at : slice_get (root_of h c.args.root).chain (place + v.gone) ≡ Some n.link = subst (λ (s : List (Commit g.row.L-Entry.Denot)). slice_get (root_of s c.args.root).chain (place + v.gone) ≡ Some n.link) v.same.seen n.there in
      let reads = read_at filter_in (root_of h c.args.root).chain there (place + v.gone) n.link all chain_at in
      let one : Some f ≡ Some reads.0 = sym at ∙ reads.2 in let own : f ≡ reads.0 = cc (one) in
      let is = filter_is n.link.words reads.0 reads.1 in let where_it_is : n.link.block ≡ c.loop-ahead.ahead - 1 = omega (arith, number) in
      let key : slice_range n.link.words 3 17 ≡ c.args.key.now.words = ap (λ (it : StoredFilter). it.key.words) (sym is.0 ∙ sym own) ∙ same in
      let yes = (c.has_key.ensures.key n.link n.named where_it_is n.sized).1 key in let no = c.if-has_key.false in let both : ◌≡◌ false true = sym no ∙ yes in absurd (cc both)) j low f at;
}

pub returns-clause-found : goal.returns-clause-found
returns-clause-found g c = λ place there b all f among same. let v = c.loop-ahead.invariant in let h = seen_by c.args.reader.now.place in let i = v.before place b in
    let over : place + v.gone ≡ length (root_of (seen_by c.loop-ahead.reader.place) c.args.root).chain = all_passed _ (place + v.gone) i.inside (sym c.loop-ahead-test.false ∙ i.next_is) in
    let still_long = ap (λ (s : List (Commit g.row.L-Entry.Denot)). length (root_of s c.args.root).chain) v.same.seen in
    let long = read_length filter_in (root_of h c.args.root).chain there all in let at = get_drop there place among.0 f among.1 in let less = slice_get_within there (place + among.0) f at in
    v.absent place among.0 there f b all (omega (arith, over, still_long, long, less)) at same

pub returns-clause-few : goal.returns-clause-few
returns-clause-few g c = λ place b. let v = c.loop-ahead.invariant in let i = v.before place b in let inside = i.inside in let loads = v.loads in
    let same = ap (λ (s : List (Commit g.row.L-Entry.Denot)). length (root_of s c.args.root).chain) v.same.seen in omega (arith, inside, loads, same)
