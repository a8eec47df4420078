use Rattle.std.proofs.Common.{◌≡◌, ◌∙◌, ℕ, ◌+◌, List, [], ◌∷◌, ◌++◌, sym, ap, subst}
use Rattle.store_history.specs.declared.history.Commit.{Commit}
use Rattle.filter_state.specs.declared.edit.Edit.{Edit}
use Rattle.filter_state.specs.Steps.{step}
use Rattle.pin_store.specs.declared.view.Sheet.{Sheet}
use Rattle.pin_store.specs.Sheets.{base_of}
use Rattle.pin_store.specs.Calls.{seen_by}
use Rattle.filter_lists.specs.Edits.{IsFinished}
use Rattle.hook_store_law.specs.OfEdits.Premises.{now}
use Rattle.desk_actions.specs.OfLedgers.Ledger.{IsLedger}
use Rattle.desk_actions.specs.OfLedgers.Kept.{commits, base}
use Rattle.desk_actions.proofs.OfLedgers.Going.{done_is, mark_lawful, mark_ledger}
use Rattle.desk_actions.proofs.Said.{said}
use Rattle.desk_actions.proofs.ledgers.ledger.Ledger.mark.Goals as goal

pub commit-requires-clause-lawful : goal.commit-requires-clause-lawful
commit-requires-clause-lawful g c = let old = c.args.self.now in let h = commits old in let b = base old in let y = g.E.EditName.edit in let l = c.requires.whole in
    let f = subst (λ (e : Edit). IsFinished c.finish-done.new.self c.finish-done.result (step (now h) e)) c.requires.edit.0 (c.finish-done.ensures (now h) l.spells) in
    mark_lawful h b old.lists c.finish-done.new.self old.point y c.finish-done.result l (done_is h b old.lists c.finish-done.new.self old.point y c.finish-done.result l c.requires.edit.1 f) c.requires.edit.2

pub returns-clause-whole : goal.returns-clause-whole
returns-clause-whole g c = let old = c.args.self.now in let h = commits old in let b = base old in let y = g.E.EditName.edit in let l = c.requires.whole in
    let f = subst (λ (e : Edit). IsFinished c.finish-done.new.self c.finish-done.result (step (now h) e)) c.requires.edit.0 (c.finish-done.ensures (now h) l.spells) in
    let ledger = mark_ledger h b old.lists c.finish-done.new.self old.point y c.finish-done.result l (done_is h b old.lists c.finish-done.new.self old.point y c.finish-done.result l c.requires.edit.1 f) c.requires.edit.2 in
    subst (λ (d : Sheet). IsLedger (seen_by c.commit.new.self.place) (base_of d) c.finish-done.new.self (old.point + 1)) (sym c.commit.ensures.sheet)
    (subst (λ (k : List (Commit Edit)). IsLedger k b c.finish-done.new.self (old.point + 1)) (sym c.commit.ensures.seen) ledger)

pub returns-clause-done : goal.returns-clause-done
returns-clause-done g c = let h = commits c.args.self.now in
    said (now h) c.finish-done.new.self c.finish-done.result (step (now h) g.E.EditName.edit)
    (subst (λ (e : Edit). IsFinished c.finish-done.new.self c.finish-done.result (step (now h) e)) c.requires.edit.0 (c.finish-done.ensures (now h) c.requires.whole.spells))
