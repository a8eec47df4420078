use Rattle.std.proofs.Common.{◌≡◌, ◌∙◌, inl, ℕ, ◌+◌, List, refl, sym, ap, subst, arith}
use Rattle.store_history.specs.declared.history.Commit.{Commit}
use Rattle.store_history.specs.History.{edits_of}
use Rattle.hook_law.proofs.Growing.{edits_more}
use Rattle.pin_store.specs.Sheets.{base_of}
use Rattle.pin_store.specs.Calls.{sheet_of}
use Rattle.filter_state.specs.declared.edit.Edit.{Edit}
use Rattle.hook_store_law.specs.OfEdits.Premises.{next, IsAccepted}
use Rattle.desk_pools.specs.Pools.{ArePools}
use Rattle.desk_actions.specs.OfLedgers.Ledger.{mark_at}
use Rattle.desk_actions.specs.OfLedgers.Kept.{commits, base}
use Rattle.desk_actions.specs.Places.{AreHere}
use Rattle.desk_parts.specs.Desk.{hook_shape}
use Rattle.desk_parts.proofs.OfPlainEdits.Desks.{qdisc_plain, desk_follows, same_words}
use Rattle.desk_parts.proofs.OfPlainEdits.Marked.{mark_here, mark_pools}
use Rattle.desk_parts.proofs.plain_edits.marking.mark_edit.Goals as goal

-- src/marking.rt:20:1
pub returns-clause-desk : goal.returns-clause-desk
returns-clause-desk g c = let was = c.args.parts.now in let d = c.requires.desk in let told = c.mark.ensures in let ledger = c.mark.new.self in let y = g.E.EditName.edit in
    let h = commits was.ledger in let b = base was.ledger in let number = was.ledger.point + 1 in let is = c.requires.edit.2 in
    let a : IsAccepted h b y (next h y) c.mark.result = record { keeps = d.whole.kept.keeps.law; low = d.whole.kept.low; line = c.requires.edit.1; steps = told.done } in
    let numbered = ap (λ (n : ℕ). n + 1) d.whole.kept.point_is in
    let same_base : base ledger ≡ b = ap base_of told.sheet in
    desk_follows was ledger was.pools was.actions y c.mark.result d (record {
      line = c.requires.edit.1;
      plain = qdisc_plain y is;
      steps = told.done;
      adds = record { commit = mark_at number y; number = number; seen = told.seen; carries = refl; aside = inl (omega arith) };
      shaped = told.store.shaped ∙ sym c.requires.store.shaped ∙ d.shaped;
      same_base = same_base;
      words = same_words hook_shape h (sheet_of was.ledger.writer.place) (sheet_of ledger.writer.place) told.sheet;
      whole = told.whole;
      pools_are = subst (ArePools was.pools (commits ledger)) (sym same_base)
          (subst (λ (k : List (Commit Edit)). ArePools was.pools k b) (sym told.seen) (mark_pools h b y (next h y) c.mark.result a is d.whole.rest number numbered was.pools d.pools));
      sized = d.sized;
      ingress = refl;
      egress = refl;
      actions = subst (AreHere was.actions) (sym told.seen) (mark_here h b y (next h y) c.mark.result a is d.whole.rest number numbered was.actions d.actions);
    })

-- src/marking.rt:20:1
pub returns-clause-journal : goal.returns-clause-journal
returns-clause-journal g c = let was = c.args.parts.now in let y = g.E.EditName.edit in let number = was.ledger.point + 1 in
    ap edits_of c.mark.ensures.seen ∙ edits_more (commits was.ledger) (mark_at number y) number y refl
