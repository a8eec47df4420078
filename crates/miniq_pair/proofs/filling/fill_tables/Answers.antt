use Rattle.std.proofs.Common.{◌≡◌, ◌≢◌, ◌∙◌, ℕ, ◌+◌, ◌≤◌, List, length, slice_get, Some, ap, sym, subst, arith, below_more}
use Rattle.std.proofs.lemmas.Option.{slice_get_within, get_or_from_slice_get}
use Rattle.store_history.specs.declared.history.Commit.{Commit}
use Rattle.pin_store.specs.Layout.{block_words}
use Rattle.pin_store.specs.Sheets.{base_of}
use Rattle.pin_store.specs.Calls.{seen_by, sheet_of, IsUnnamed}
use Rattle.block_codec.specs.declared.table.StoredTable.{StoredTable}
use Rattle.block_codec.specs.Blocks.{block}
use Rattle.block_codec.specs.Tables.{table_words}
use Rattle.miniq_pair.specs.Pairs.{link_at}
use Rattle.miniq_pair.proofs.Placing.{base_same, same_cells}
use Rattle.miniq_pair.proofs.filling.fill_tables.Goals as goal

pub fill-requires-clause-free : goal.fill-requires-clause-free
fill-requires-clause-free g c = let v = c.loop-place.invariant in
    subst (λ (h : List (Commit g.row.L-Entry.Denot)). IsUnnamed (base_of (sheet_of c.loop-place.writer.place)) h (c.args.first + c.loop-place.place)) (sym v.seen)
    (subst (λ (b : ℕ). IsUnnamed b (seen_by c.args.writer.now.place) (c.args.first + c.loop-place.place)) (sym (base_same (sheet_of c.args.writer.now.place) (sheet_of c.loop-place.writer.place) v.sheet))
    (c.requires.free c.loop-place.place c.loop-place-test.true))

pub loop-place-preserved : goal.loop-place-preserved
loop-place-preserved g c = let v = c.loop-place.invariant in let f = c.fill.ensures in let tables = c.args.tables.now in let at = c.loop-place.place in
    let within = c.loop-place-test.true in let room = c.requires.shape.1 in let s = c.args.store.now.shape in record {
      store = f.store;
      seen = f.seen ∙ v.seen;
      sheet = same_cells (sheet_of c.args.writer.now.place) (sheet_of c.loop-place.writer.place) (sheet_of c.fill.new.self.place) v.sheet f.sheet;
      words = λ place table low there. below_more
          (λ (k : ℕ). (t : StoredTable) → slice_get tables k ≡ Some t → block_words s (sheet_of c.fill.new.self.place).cells (c.args.first + k) ≡ block (table_words t) (link_at c.args.first k (length tables))) at
          (λ k less t is. let ne : c.args.first + k ≢ c.args.first + at = omega arith in f.others (c.args.first + k) ne (omega arith) ∙ v.words k t less is)
          (λ t is. let same : c.index-tables-place.result ≡ t = c.index-tables-place.is ∙ get_or_from_slice_get tables at t _ is in
          f.block ∙ c.write_table.ensures.words_are ∙ (ap (λ (o : _). block (table_words c.index-tables-place.result) o) c.link_from-link.ensures ∙ ap (λ (z : StoredTable). block (table_words z) (link_at c.args.first at (length tables))) same)) place low table there;
      few = λ place table low there. below_more (λ (k : ℕ). (t : StoredTable) → slice_get tables k ≡ Some t → length t.masks ≤ 16) at (λ k less t is. v.few k t less is)
          (λ t is. let same : c.index-tables-place.result ≡ t = c.index-tables-place.is ∙ get_or_from_slice_get tables at t _ is in subst (λ (z : StoredTable). length z.masks ≤ 16) same c.write_table.ensures.few) place low table there;
      others = λ other apart low. f.others other (apart at within) low ∙ v.others other apart low;
    }

pub returns-clause-words : goal.returns-clause-words
returns-clause-words g c = λ place table there. let over = c.loop-place-test.false in let low = slice_get_within c.args.tables.now place table there in c.loop-place.invariant.words place table (omega arith) there

pub returns-clause-few : goal.returns-clause-few
returns-clause-few g c = λ place table there. let over = c.loop-place-test.false in let low = slice_get_within c.args.tables.now place table there in c.loop-place.invariant.few place table (omega arith) there
