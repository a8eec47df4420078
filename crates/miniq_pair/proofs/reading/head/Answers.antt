use Rattle.std.proofs.Common.{◌≡◌, ◌∙◌, [], ◌∷◌, ◌++◌, ℕ, ◌+◌, List, length, map, take, slice_get, Some, sym, ap, subst, le_refl, arith}
use Rattle.std.proofs.lemmas.List.{take_all, length-map, length-take-le}
use Rattle.std.proofs.lemmas.Option.{slice_get_within}
use Rattle.store_history.specs.declared.history.Commit.{Commit}
use Rattle.store_history.specs.History.{root_of}
use Rattle.pin_store.specs.Calls.{seen_by, floor_start}
use Rattle.block_codec.specs.OfReadings.Read.{table_in}
use Rattle.block_chain.proofs.Chains.{read_at, read_length}
use Rattle.block_chain.proofs.Still.{still}
use Rattle.miniq_pair.specs.Heads.{head_root, told_of, HeadTold}
use Rattle.miniq_pair.proofs.Putting.{at_end, few_tables, one_more}
use Rattle.miniq_pair.proofs.reading.head.Goals as goal

pub push_table-requires : goal.push_table-requires
push_table-requires g c =
    let h = seen_by c.along-stamp.new.reader.place in let hook = c.args.hook in let a = c.along-stamp.ensures in let v = c.loop-walk.invariant in
    let end = at_end (λ k. g.L.HeadLaw.heads h k hook) h hook (g.met.L.HeadLaw.tells h (floor_start c.along-stamp.new.reader.place) (length h) hook a.lawful a.before.recent (le_refl (length h))) in
    let n = c.next_block.ensures in let here = n.block c.loop-walk-test.true (head_root hook) v.place v.before in
    let first : seen_by c.loop-walk.reader.place ≡ h = v.same.seen in
    let chain_at = subst (λ (s : List (Commit g.row.L-Entry.Denot)). slice_get (root_of s (head_root hook)).chain v.place ≡ Some here.0) first here.1 in
    let reads = read_at table_in (root_of h (head_root hook)).chain end.tables v.place here.0 end.read chain_at in
    let few = few_tables (λ k. g.L.HeadLaw.heads h k hook) h hook end (λ k. g.met.L.HeadLaw.few h (floor_start c.along-stamp.new.reader.place) k hook a.lawful a.before.recent) in
    let inside = slice_get_within end.tables v.place reads.0 reads.2 in
    let taken = length-take-le v.place end.tables (omega arith) in let mapped = length-map (take v.place end.tables) told_of in let told = ap length (v.told end.tables end.read) in omega arith

pub loop-walk-preserved : goal.loop-walk-preserved
loop-walk-preserved g c =
    let hook = c.args.hook in let v = c.loop-walk.invariant in
    let h = seen_by c.along-stamp.new.reader.place in
    let n = c.next_block.ensures in let here = n.block c.loop-walk-test.true (head_root hook) v.place v.before in
    let first : seen_by c.loop-walk.reader.place ≡ h = v.same.seen in
    let chain_at = subst (λ (s : List (Commit g.row.L-Entry.Denot)). slice_get (root_of s (head_root hook)).chain v.place ≡ Some here.0) first here.1 in record {
      store = n.store;
      same = still v.same n.same;
      place = v.place + 1;
      before = here.3;
      loads = omega (arith, n.loads c.loop-walk-test.true, v.loads);
      steps = omega (arith, n.steps c.loop-walk-test.true, v.steps);
      told = λ tables read. let reads = read_at table_in (root_of h (head_root hook)).chain tables v.place here.0 read chain_at in
          let same : Some reads.0 ≡ Some c.in-Some.table = sym reads.1 ∙ (ap table_in (sym here.2) ∙ (sym c.table_in.ensures ∙ c.in-Some.is)) in
          c.push_table.ensures ∙ (ap (λ ts. ts ++ told_of c.in-Some.table ∷ []) (v.told tables read) ∙ sym (one_more told_of tables v.place c.in-Some.table (reads.2 ∙ same)));
    }

pub unreachable-requires : goal.unreachable-requires
unreachable-requires g c =
    let h = seen_by c.along-stamp.new.reader.place in let hook = c.args.hook in let a = c.along-stamp.ensures in let v = c.loop-walk.invariant in
    let end = at_end (λ k. g.L.HeadLaw.heads h k hook) h hook (g.met.L.HeadLaw.tells h (floor_start c.along-stamp.new.reader.place) (length h) hook a.lawful a.before.recent (le_refl (length h))) in
    let n = c.next_block.ensures in let here = n.block c.loop-walk-test.true (head_root hook) v.place v.before in
    let first : seen_by c.loop-walk.reader.place ≡ h = v.same.seen in
    let chain_at = subst (λ (s : List (Commit g.row.L-Entry.Denot)). slice_get (root_of s (head_root hook)).chain v.place ≡ Some here.0) first here.1 in
    let reads = read_at table_in (root_of h (head_root hook)).chain end.tables v.place here.0 end.read chain_at in
    let none = c.in-None.is in let is = c.table_in.ensures in let words = ap table_in here.2 in let some = reads.1 in cc (none, is, words, some)

pub returns-clause-told : goal.returns-clause-told
returns-clause-told g c =
    let h = seen_by c.along-stamp.new.reader.place in let hook = c.args.hook in let a = c.along-stamp.ensures in let v = c.loop-walk.invariant in
    let end = at_end (λ k. g.L.HeadLaw.heads h k hook) h hook (g.met.L.HeadLaw.tells h (floor_start c.along-stamp.new.reader.place) (length h) hook a.lawful a.before.recent (le_refl (length h))) in
    let n = c.next_block.ensures in
    let first : seen_by c.loop-walk.reader.place ≡ h = v.same.seen in
    let last : h ≡ seen_by c.next_block.new.reader.place = sym (n.same.seen ∙ v.same.seen) in
    let over : v.place ≡ length (root_of h (head_root hook)).chain = n.over c.loop-walk-test.false (head_root hook) v.place v.before ∙ ap (λ (s : List (Commit g.row.L-Entry.Denot)). length (root_of s (head_root hook)).chain) first in
    let long = read_length table_in (root_of h (head_root hook)).chain end.tables end.read in
    subst (λ (s : List (Commit g.row.L-Entry.Denot)). HeadTold (λ k. g.L.HeadLaw.heads s k hook) s hook c.loop-walk.into.tables c.along-stamp.result.1) last record {
      tables = end.tables;
      read = end.read;
      told_are = v.told end.tables end.read ∙ ap (map told_of) (take_all v.place end.tables (omega arith));
      early = let stamp = a.stamp ∙ ap (λ (r : ℕ). (root_of h r).stamp) (ap (λ (n : ℕ). 1 + n) c.hook_number.ensures) in let early = end.early in omega arith;
      are = λ k low high. let stamp = a.stamp ∙ ap (λ (r : ℕ). (root_of h r).stamp) (ap (λ (n : ℕ). 1 + n) c.hook_number.ensures) in end.are k (omega arith) high;
    }

pub returns-clause-stamp : goal.returns-clause-stamp
returns-clause-stamp g c =
    let n = c.next_block.ensures in let v = c.loop-walk.invariant in
    c.along-stamp.ensures.stamp ∙ λ t. (root_of (sym (n.same.seen ∙ v.same.seen) t) (1 + c.hook_number.ensures t)).stamp

pub returns-clause-loads : goal.returns-clause-loads
returns-clause-loads g c =
    let h = seen_by c.along-stamp.new.reader.place in let hook = c.args.hook in let a = c.along-stamp.ensures in let v = c.loop-walk.invariant in
    let end = at_end (λ k. g.L.HeadLaw.heads h k hook) h hook (g.met.L.HeadLaw.tells h (floor_start c.along-stamp.new.reader.place) (length h) hook a.lawful a.before.recent (le_refl (length h))) in
    let n = c.next_block.ensures in
    let over : v.place ≡ length (root_of h (head_root hook)).chain = n.over c.loop-walk-test.false (head_root hook) v.place v.before ∙ ap (λ (s : List (Commit g.row.L-Entry.Denot)). length (root_of s (head_root hook)).chain) v.same.seen in
    let long = read_length table_in (root_of h (head_root hook)).chain end.tables end.read in
    let count : length c.loop-walk.into.tables ≡ v.place = ap length (v.told end.tables end.read) ∙ (length-map (take v.place end.tables) told_of ∙ length-take-le v.place end.tables (omega arith)) in
    let none = (n.none c.loop-walk-test.false).0 in omega (arith, none, v.loads, a.loads, count)
