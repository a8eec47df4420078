use Rattle.std.proofs.Common.{◌≡◌, ◌≢◌, ◌∙◌, ℕ, ◌+◌, ◌<◌, ◌≤◌, List, [], ◌∷◌, ◌++◌, length, take, slice_get, Some, All, ap, sym, subst, arith}
use Rattle.store_history.specs.declared.history.Commit.{Commit}
use Rattle.store_history.specs.History.{IsLinked}
use Rattle.pin_store.specs.Layout.{block_words, links_of, commit_of}
use Rattle.pin_store.specs.Sheets.{base_of}
use Rattle.pin_store.specs.Calls.{seen_by, sheet_of, IsUnnamed}
use Rattle.block_codec.specs.declared.table.StoredTable.{StoredTable}
use Rattle.miniq_pair.specs.Heads.{head_root}
use Rattle.miniq_pair.specs.Pairs.{first_block_of, other_place, swap_commit}
use Rattle.miniq_pair.proofs.Placing.{base_same, places_within}
use Rattle.miniq_pair.proofs.Linking.{chain_is, linked, range_below}
use Rattle.miniq_pair.proofs.pair.HeadPair.swap.Goals as goal

pub fill_tables-requires-clause-free : goal.fill_tables-requires-clause-free
fill_tables-requires-clause-free g c = λ place low. let few = c.requires.few in let same = ap length c.as_slice.ensures in
    subst (λ (b : ℕ). IsUnnamed (base_of (sheet_of c.args.writer.now.place)) (seen_by c.args.writer.now.place) (b + place)) (sym c.first_block_of-first.ensures) (c.requires.idle place (omega arith))

pub commit-requires-clause-within : goal.commit-requires-clause-within
commit-requires-clause-within g c =
    let hook = c.args.self.now.hook in let place = other_place c.args.self.now.active in
    let few = c.requires.few in let same = ap length c.as_slice-count.ensures in let blocks = c.requires.shape.1 in let first = c.first_block_of-first.ensures in
    let all = places_within hook place (length c.args.tables.now) (omega arith) few in
    subst (All (λ b. b < c.args.store.now.shape.blocks)) (sym c.numbers_from-chain.ensures) (range_below c.first_block_of-first.result (length c.as_slice-count.result.now) c.args.store.now.shape.blocks (omega arith))

pub commit-requires-clause-linked : goal.commit-requires-clause-linked
commit-requires-clause-linked g c =
    let hook = c.args.self.now.hook in let place = other_place c.args.self.now.active in let tables = c.args.tables.now in
    let shape = c.args.store.now.shape in let cells = (sheet_of c.fill_tables.new.writer.place).cells in
    let numbers = take (length c.as_slice-count.result.now) c.numbers_from-chain.result in
    let chain = chain_is shape cells (first_block_of hook place) c.first_block_of-first.result tables c.as_slice.result.now c.as_slice-count.result.now numbers
    c.first_block_of-first.ensures c.as_slice.ensures c.as_slice-count.ensures c.numbers_from-chain.ensures c.fill_tables.ensures.words in
    let few = subst (λ (ts : List StoredTable). (at : ℕ) (table : StoredTable) → slice_get ts at ≡ Some table → length table.masks ≤ 16) c.as_slice.ensures c.fill_tables.ensures.few in
    subst (λ (w : ℕ). IsLinked w (links_of shape cells numbers)) (sym c.requires.shape.0) (subst (IsLinked 40) (sym chain) (linked (first_block_of hook place) tables few))

pub commit-requires-clause-lawful : goal.commit-requires-clause-lawful
commit-requires-clause-lawful g c =
    let hook = c.args.self.now.hook in let place = other_place c.args.self.now.active in let tables = c.args.tables.now in
    let shape = c.args.store.now.shape in let cells = (sheet_of c.fill_tables.new.writer.place).cells in
    let numbers = take (length c.as_slice-count.result.now) c.numbers_from-chain.result in
    let chain = chain_is shape cells (first_block_of hook place) c.first_block_of-first.result tables c.as_slice.result.now c.as_slice-count.result.now numbers
    c.first_block_of-first.ensures c.as_slice.ensures c.as_slice-count.ensures c.numbers_from-chain.ensures c.fill_tables.ensures.words in
    let f = c.fill_tables.ensures in let root : 1 + c.hook_number-root.result ≡ head_root hook = ap (λ (n : ℕ). 1 + n) c.hook_number-root.ensures in
    let commits : swap_commit hook place tables c.args.edit g.E.EditName.edit ≡ commit_of shape cells (1 + c.hook_number-root.result) numbers c.args.edit (Some c.args.edit) g.E.EditName.edit =
    λ t. record { root = sym root t; named = record { chain = sym chain t; stamp = c.args.edit }; edit = Some (c.args.edit, g.E.EditName.edit) } in
    subst (λ (b : ℕ). g.L.Law.keeps (seen_by c.fill_tables.new.writer.place ++ commit_of shape cells (1 + c.hook_number-root.result) numbers c.args.edit (Some c.args.edit) g.E.EditName.edit ∷ []) b)
    (sym (base_same (sheet_of c.args.writer.now.place) (sheet_of c.fill_tables.new.writer.place) f.sheet))
    (subst (λ (h : List (Commit g.row.L-Entry.Denot)). g.L.Law.keeps h (base_of (sheet_of c.args.writer.now.place))) (λ t. sym f.seen t ++ commits t ∷ []) c.requires.lawful)

pub returns-clause-seen : goal.returns-clause-seen
returns-clause-seen g c =
    let hook = c.args.self.now.hook in let place = other_place c.args.self.now.active in let tables = c.args.tables.now in
    let shape = c.args.store.now.shape in let cells = (sheet_of c.fill_tables.new.writer.place).cells in
    let numbers = take (length c.as_slice-count.result.now) c.numbers_from-chain.result in
    let chain = chain_is shape cells (first_block_of hook place) c.first_block_of-first.result tables c.as_slice.result.now c.as_slice-count.result.now numbers
    c.first_block_of-first.ensures c.as_slice.ensures c.as_slice-count.ensures c.numbers_from-chain.ensures c.fill_tables.ensures.words in
    let f = c.fill_tables.ensures in let root : 1 + c.hook_number-root.result ≡ head_root hook = ap (λ (n : ℕ). 1 + n) c.hook_number-root.ensures in
    c.commit.ensures.seen ∙ (λ t. f.seen t ++ record { root = root t; named = record { chain = chain t; stamp = c.args.edit }; edit = Some (c.args.edit, g.E.EditName.edit) } ∷ [])

pub returns-clause-others : goal.returns-clause-others
returns-clause-others g c = λ other apart low. let few = c.requires.few in let same = ap length c.as_slice.ensures in
    ap (λ s. block_words c.args.store.now.shape s.cells other) c.commit.ensures.sheet
    ∙ c.fill_tables.ensures.others other (λ at less. subst (λ (b : ℕ). other ≢ b + at) (sym c.first_block_of-first.ensures) (apart at (omega arith))) low
