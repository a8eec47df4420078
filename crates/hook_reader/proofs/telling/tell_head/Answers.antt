use Rattle.std.proofs.Common.{◌≡◌, ◌∙◌, sym, ap, subst, arith}
use Rattle.store_history.proofs.Histories.{prefix_length, prefix_trans}
use Rattle.pin_store.specs.Calls.{seen_by, floor_start, start_in}
use Rattle.miniq_pair.specs.Heads.{head_root}
use Rattle.hook_reader.specs.KeptHeads.{IsKept}
use Rattle.hook_reader.proofs.Copies.{kept_longer, now_kept, few_told, told_by_word}
use Rattle.hook_reader.proofs.telling.tell_head.Goals as goal

pub returns-then-word-stamp-clause-told : goal.returns-then-word-stamp-clause-told
returns-then-word-stamp-clause-told c = let e = c.load_word-word.ensures in let place = c.load_word-word.new.reader.place in let word = c.load_word-word.result in
    let one = c.if-word-stamp.true in let two = c.stamp.ensures in let same : word.stamp ≡ c.args.kept.now.stamp = omega (arith, one, two) in
    told_by_word (seen_by c.args.reader.now.place) (seen_by place) (floor_start place) c.root_for.result word.stamp c.args.hook word.first c.args.kept.now c.tell.new.into.tables
    e.longer e.lawful e.recent e.rising c.root_for.ensures e.first e.stamp c.requires.kept (sym c.is_some.ensures ∙ c.if-is_some.true) same c.tell.ensures

pub returns-then-word-stamp-clause-kept : goal.returns-then-word-stamp-clause-kept
returns-then-word-stamp-clause-kept c =
    kept_longer (seen_by c.args.reader.now.place) (seen_by c.load_word-word.new.reader.place) (head_root c.args.hook) c.args.kept.now c.load_word-word.ensures.longer c.requires.kept

pub keep-requires : goal.keep-requires
keep-requires c = let e = c.load_word-word.ensures in let r = c.read_head-stamp.ensures in let place = c.read_head-stamp.new.reader.place in
    let recent = e.recent in let long = prefix_length (seen_by c.load_word-word.new.reader.place) (seen_by place) r.longer in let floor = ap start_in r.same.floor in
    few_told (seen_by place) (floor_start place) c.args.hook c.read_head-stamp.new.into.tables c.read_head-stamp.result r.lawful (omega (arith, recent, long, floor)) r.told

pub returns-clause-longer : goal.returns-clause-longer
returns-clause-longer c =
    prefix_trans (seen_by c.args.reader.now.place) (seen_by c.load_word-word.new.reader.place) (seen_by c.read_head-stamp.new.reader.place) c.load_word-word.ensures.longer c.read_head-stamp.ensures.longer

pub returns-clause-kept : goal.returns-clause-kept
returns-clause-kept c = let r = c.read_head-stamp.ensures in let h = seen_by c.read_head-stamp.new.reader.place in
    subst (IsKept h (head_root c.args.hook)) (sym c.keep.ensures) (now_kept h c.args.hook c.read_head-stamp.new.into.tables c.read_head-stamp.result r.stamp r.told)
