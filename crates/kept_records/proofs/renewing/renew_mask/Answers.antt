use Rattle.std.proofs.Common.{◌≡◌, ◌∙◌, List, sym, ap, subst}
use mathlib.Core.List.{IsPrefix}
use Rattle.store_history.specs.declared.history.Commit.{Commit}
use Rattle.store_history.specs.History.{root_of}
use Rattle.store_history.specs.Reads.{read_first}
use Rattle.filter_state.specs.declared.edit.Edit.{Edit}
use Rattle.pin_store.specs.Calls.{seen_by}
use Rattle.block_codec.specs.OfReadings.Read.{mask_of_words}
use Rattle.kept_records.specs.Keeping.{IsRead}
use Rattle.kept_records.proofs.Kept.{all_on, again, read_now, lent_some}
use Rattle.kept_records.proofs.renewing.renew_mask.Goals as goal

pub returns-then-is_some-2-clause-kept : goal.returns-then-is_some-2-clause-kept
returns-then-is_some-2-clause-kept g c =
    all_on (IsRead mask_of_words) (seen_by c.args.reader.now.place) (seen_by c.load_root-word.new.self.place) c.load_root-word.ensures.longer c.args.masks.now c.requires.kept

pub returns-then-is_some-2-clause-mask : goal.returns-then-is_some-2-clause-mask
returns-then-is_some-2-clause-mask g c = let e = c.load_root-word.ensures in let h = seen_by c.load_root-word.new.self.place in
    again mask_of_words (seen_by c.args.reader.now.place) h c.args.root c.load_root-word.result.stamp c.load_root-word.result.first c.args.masks.now e.longer c.requires.kept e.stamp e.first
    (sym c.is_some.ensures ∙ c.if-is_some.true) (lent_some c.at.result _ c.at.ensures (sym c.is_some-then-is_some.ensures ∙ c.if-is_some-2.true)) e.lawful.stamps

pub returns-clause-kept : goal.returns-clause-kept
returns-clause-kept g c = let e = c.load_root-word.ensures in let h1 = seen_by c.load_root-word.new.self.place in let h = seen_by c.read_mask.new.reader.place in
    let same : h ≡ h1 = c.read_mask.ensures.same.seen in
    read_now mask_of_words (seen_by c.args.reader.now.place) h c.args.root c.load_root-word.result.stamp c.args.masks.now c.read_mask.new.masks (read_first mask_of_words (root_of h1 c.args.root).chain)
    (subst (IsPrefix (seen_by c.args.reader.now.place)) (sym same) e.longer) c.requires.kept (e.stamp ∙ ap (λ (s : List (Commit Edit)). (root_of s c.args.root).stamp) (sym same))
    (ap (λ (s : List (Commit Edit)). read_first mask_of_words (root_of s c.args.root).chain) (sym same)) c.read_mask.ensures.places

pub returns-clause-mask : goal.returns-clause-mask
returns-clause-mask g c = let h1 = seen_by c.load_root-word.new.self.place in let h = seen_by c.read_mask.new.reader.place in
    let same : h ≡ h1 = c.read_mask.ensures.same.seen in
    c.read_mask.ensures.there ∙ ap (λ (s : List (Commit Edit)). read_first mask_of_words (root_of s c.args.root).chain) (sym same)
