use Rattle.std.proofs.Common.{◌≡◌, ◌∙◌, arith, replicate, rules, ap, length}
use Rattle.std.proofs.lemmas.List.{length-replicate}
use Rattle.std.proofs.lemmas.List.Elements.{All-push}
use Rattle.pin_store.specs.Layout.{word_count}
use Rattle.pin_store.specs.Calls.{number_of, IsNewAt}
use Rattle.pin_store.proofs.Cells.{blocks_few, numbers_pushed}
use Rattle.pin_store.proofs.Keeping.{opens, splits_reader}
use Rattle.pin_store.proofs.Beginning.{made_more, reader_made_new, number_made}
use Rattle.pin_store.proofs.making.make_store.Goals as goal

pub of_words-requires : goal.of_words-requires
of_words-requires g c = let s = c.args.shape in let e : c.as_slice.result.now ≡ replicate (word_count s) 0 = search rules in
    rw e (opens g.L.Law.keeps s (blocks_few s c.requires.some.0 c.requires.small) g.L.Law.opens)

pub split_seat-seat-requires : goal.split_seat-seat-requires
split_seat-seat-requires g c = let t = c.in_ok-words.ensures in let e : c.as_slice.result.now ≡ replicate (word_count c.args.shape) 0 = search rules in
    let n : length c.as_slice.result.now ≡ word_count c.args.shape = ap length e ∙ length-replicate (word_count c.args.shape) 0 in
    let m : c.in_ok-words.words.shared.table_id.words ≡ length c.as_slice.result.now = t.0 in
    let v = c.loop-made.invariant.view in let low = c.loop-made-test.true in (
      c.loop-made.invariant.table,
      omega arith,
      rw t.5 (splits_reader g.L.Law.keeps c.args.shape _ _ (ap (λ m. m.0.writes) v) (rw v low)),
    )

pub loop-made-preserved : goal.loop-made-preserved
loop-made-preserved g c = let old = c.loop-made.invariant in let t = c.split_seat-seat.ensures in let n = c.new.ensures in let items = c.in_ok-push_back.ensures.items in
    let id = c.in_ok-words.words.shared.table_id in let me = c.loop-made.place.me in let shape = c.args.shape in let made = c.loop-made.made in record {
      table = t.0 ∙ old.table;
      view = made_more shape made me _ old.view t.2;
      readers = rw items (All-push (λ r. IsNewAt id shape r.place) c.loop-made.left.items _ old.readers (rw n (reader_made_new shape made id me c.split_seat-seat.result old.view (t.3 ∙ old.table) t.4)));
      numbers = rw items (numbers_pushed (λ r. number_of r.place) c.loop-made.left.items _ made old.numbers (rw n (number_made shape made me c.split_seat-seat.result old.view t.4)));
    }
