use Rattle.std.proofs.Common.{◌≡◌, ◌∙◌, List, sym, ap, subst}
use mathlib.Core.List.{IsPrefix}
use Rattle.store_history.specs.declared.history.Commit.{Commit}
use Rattle.store_history.specs.History.{root_of}
use Rattle.store_history.specs.Reads.{read_first}
use Rattle.filter_state.specs.declared.edit.Edit.{Edit}
use Rattle.pin_store.specs.Calls.{seen_by}
use Rattle.block_codec.specs.OfReadings.Read.{action_of_words}
use Rattle.kept_records.specs.Keeping.{IsRead}
use Rattle.kept_records.proofs.Kept.{all_on, again, read_now, lent_some}
use Rattle.kept_records.proofs.renewing.renew_action.Goals as goal

pub returns-then-is_some-2-clause-kept : goal.returns-then-is_some-2-clause-kept
returns-then-is_some-2-clause-kept g c =
    all_on (IsRead action_of_words) (seen_by c.args.reader.now.place) (seen_by c.load_root-word.new.self.place) c.load_root-word.ensures.longer c.args.actions.now c.requires.kept

pub returns-then-is_some-2-clause-action : goal.returns-then-is_some-2-clause-action
returns-then-is_some-2-clause-action g c = let e = c.load_root-word.ensures in let h = seen_by c.load_root-word.new.self.place in
    again action_of_words (seen_by c.args.reader.now.place) h c.args.root c.load_root-word.result.stamp c.load_root-word.result.first c.args.actions.now e.longer c.requires.kept e.stamp e.first
    (sym c.is_some.ensures ∙ c.if-is_some.true) (lent_some c.at.result _ c.at.ensures (sym c.is_some-then-is_some.ensures ∙ c.if-is_some-2.true)) e.lawful.stamps

pub returns-clause-kept : goal.returns-clause-kept
returns-clause-kept g c = let e = c.load_root-word.ensures in let h1 = seen_by c.load_root-word.new.self.place in let h = seen_by c.read_action.new.reader.place in
    let same : h ≡ h1 = c.read_action.ensures.same.seen in
    read_now action_of_words (seen_by c.args.reader.now.place) h c.args.root c.load_root-word.result.stamp c.args.actions.now c.read_action.new.actions (read_first action_of_words (root_of h1 c.args.root).chain)
    (subst (IsPrefix (seen_by c.args.reader.now.place)) (sym same) e.longer) c.requires.kept (e.stamp ∙ ap (λ (s : List (Commit Edit)). (root_of s c.args.root).stamp) (sym same))
    (ap (λ (s : List (Commit Edit)). read_first action_of_words (root_of s c.args.root).chain) (sym same)) c.read_action.ensures.places

pub returns-clause-action : goal.returns-clause-action
returns-clause-action g c = let h1 = seen_by c.load_root-word.new.self.place in let h = seen_by c.read_action.new.reader.place in
    let same : h ≡ h1 = c.read_action.ensures.same.seen in
    c.read_action.ensures.there ∙ ap (λ (s : List (Commit Edit)). read_first action_of_words (root_of s c.args.root).chain) (sym same)
