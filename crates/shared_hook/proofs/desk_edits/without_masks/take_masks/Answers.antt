use Rattle.std.proofs.Common.{◌≡◌, ◌∙◌, ℕ, List, length, sym, subst}
use Rattle.store_history.specs.declared.history.Commit.{Commit}
use Rattle.pin_store.specs.Calls.{sheet_of}
use Rattle.filter_state.specs.declared.edit.Edit.{Edit}
use Rattle.mask_table.proofs.OfMirrors.Keeping.{same_base}
use Rattle.hook_store_law.specs.OfEdits.Premises.{now, next}
use Rattle.desk_needs.specs.Live.{count_of}
use Rattle.desk_pools.specs.declared.pools.Pools.{Pools}
use Rattle.desk_pools.specs.Steps.{turned}
use Rattle.desk_actions.specs.declared.ledgers.ledger.Ledger.{Ledger}
use Rattle.desk_actions.specs.OfLedgers.Kept.{commits, base}
use Rattle.desk_actions.specs.Places.{Placed}
use Rattle.desk_parts.specs.OfLineActions.Dropped.{AreDropped}
use Rattle.desk_parts.specs.OfLineActions.Gone.{serials_gone}
use Rattle.shared_hook.specs.OfDeskEdits.Goes.{AreGone}
use Rattle.shared_hook.specs.OfDeskEdits.Parting.{HaveLeft}
use Rattle.shared_hook.proofs.OfDeskEdits.Behind.{fewer_may_go}
use Rattle.shared_hook.proofs.OfDeskEdits.Passing.{may_go}
use Rattle.shared_hook.proofs.OfDeskEdits.Kept.{pools_removed, base_removed, ledger_let, actions_left, places_closed, places_removed, commits_removed}
use Rattle.shared_hook.proofs.desk_edits.without_masks.take_masks.Goals as goal

pub let_go-requires-clause-gone : goal.let_go-requires-clause-gone
let_go-requires-clause-gone g c = let was = c.args.parts.now in let y = g.E.EditName.edit in let led = c.lead_removal-done.ensures in let ahead = c.lead_removal-done.new.parts in
    let told = c.close_in_head.ensures in let after = c.close_in_head.new.parts in
    let bases : base after.ledger ≡ base was.ledger = same_base (sheet_of ahead.ledger.writer.place) (sheet_of after.ledger.writer.place) told.sheet ∙ base_removed was ahead led.rest in
    let slots = actions_left c.args.hook ahead.pools after.pools told.left.2.others in (
      length (commits was.ledger),
      fewer_may_go after.ledger.lists after.pools after.actions (commits after.ledger) (base after.ledger) (length (commits was.ledger)) (serials_gone (now (commits was.ledger)) y) c.args.gone.now
          (may_go was ahead after y c.lead_removal-done.result c.requires.desk led.ahead led.still told.aside told.desk bases (places_closed ahead after told.rest) slots) c.requires.gone.each,
    )

pub returns-clause-left : goal.returns-clause-left
returns-clause-left g c = let was = c.args.parts.now in let y = g.E.EditName.edit in let led = c.lead_removal-done.ensures in let ahead = c.lead_removal-done.new.parts in
    let told = c.close_in_head.ensures in let mid = c.close_in_head.new.parts in let last = c.let_go.new.parts in let let_ = c.let_go.ensures in
    let hook = c.args.hook in let gone = c.args.gone.now in let left = told.left in
    let same = commits_removed was ahead led.rest in
    let places = places_closed ahead mid told.rest ∙ places_removed was ahead led.rest in (
      mid.pools,
      left.0,
      subst (λ (h : List (Commit Edit)). AreGone (now h) (next h y) left.0) same left.1,
      subst (λ (p : Pools). HaveLeft (count_of (now (commits was.ledger))) (turned hook p) mid.pools left.0) (pools_removed was ahead led.rest)
          (subst (λ (h : List (Commit Edit)). HaveLeft (count_of (now h)) (turned hook ahead.pools) mid.pools left.0) same left.2),
      subst (λ (l : Ledger). AreDropped mid.pools last.pools was.actions last.actions (commits l) (base l) gone) (sym (ledger_let mid last let_.rest))
          (subst (λ (a : Placed). AreDropped mid.pools last.pools a last.actions (commits mid.ledger) (base mid.ledger) gone) places let_.dropped),
    )
