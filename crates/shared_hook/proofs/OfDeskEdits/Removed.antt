-- The lists are edited by an edit that deletes filters: no action comes, and nothing is to be put.
use Rattle.std.proofs.Common.{◌⊎◌, inl, inr, ℕ, List, arith}
use Rattle.store_history.specs.declared.history.Commit.{Commit}
use Rattle.filter_state.specs.declared.edit.Edit.{Edit}
use Rattle.filter_state.specs.declared.edit.Edit.TheVariants as edits
use Rattle.filter_state.specs.declared.refusal.Done.{Done}
use Rattle.hook_lists.specs.declared.kept.Kept.{Kept}
use Rattle.hook_law.specs.Meaning.{IsLive}
use Rattle.hook_store_law.specs.Stated.{hook_meaning}
use Rattle.hook_store_law.specs.OfEdits.Premises.{now, next, IsAccepted, IsOfFilters, NoneComes}
use Rattle.hook_store_law.proofs.OfEdits.OfFilters.{deletion_makes_none}
use Rattle.desk_pools.specs.Steps.{IsInPool}
use Rattle.desk_actions.specs.OfLedgers.Kept.{commits, base}
use Rattle.desk_actions.specs.Places.{slot_of, AreHereFor}
use Rattle.desk_parts.specs.OfLineActions.Put.{IsOfLine, IsPlaced}
use Rattle.desk_parts.proofs.OfLineActions.Balance.{edit_rises}
use Rattle.desk_parts.proofs.OfLineActions.Lasting.{live_place}
use Rattle.desk_parts.specs.declared.parts.Parts.{Parts}
use Rattle.desk_parts.specs.Desk.{IsDesk}
use Rattle.shared_hook.specs.OfDeskEdits.Ahead.{IsAhead}
use Rattle.shared_hook.proofs.OfDeskEdits.Led.{IsFirst}

none_comes : (h : List (Commit Edit)) (b : ℕ) (y : Edit) (done : Done) → IsAccepted h b y (next h y) done → IsOfFilters y → (IsOfLine y → ⊥) → NoneComes (now h) (next h y)
none_comes h b (edits.FilterDel hook protocol chain pref handle) done a is removal = deletion_makes_none h b hook protocol chain pref handle (next h (edits.FilterDel hook protocol chain pref handle)) done a
none_comes h b (edits.FilterAdd line) done a is removal = absurd (removal tt)
none_comes h b (edits.FilterReplace line) done a is removal = absurd (removal tt)
none_comes h b edits.HookAdd done a is removal = absurd is
none_comes h b edits.HookDel done a is removal = absurd is
none_comes h b (edits.ActionAdd line) done a is removal = absurd is
none_comes h b (edits.ActionChange line) done a is removal = absurd is
none_comes h b (edits.ActionDel kind index) done a is removal = absurd is

module _ (old : Parts) (lists : Kept) (y : Edit) (done : Done) (d : IsDesk old) (f : IsFirst (commits old.ledger) (base old.ledger) y lists done) (of : IsOfFilters y) (removal : IsOfLine y → ⊥) where
  abbrev h : List (Commit Edit)
  h = commits old.ledger

  abbrev b : ℕ
  b = base old.ledger

  none : NoneComes (now h) (next h y)
  none = none_comes h b y done f.accepted of removal

  here : AreHereFor old.actions h (next h y)
  here = record {
    long = d.actions.long;
    wide = d.actions.wide;
    slots = λ action live. d.actions.slots action (none action live);
    blocks = λ action live. d.actions.blocks action (none action live);
    made = λ action slot w. let low = d.actions.made action slot w in let rises = edit_rises (now h) (next h y) y done of f.accepted.steps in omega (arith, low, rises);
  }

  there : (action : ℕ) → IsLive hook_meaning (now h) action → IsPlaced old.actions h action × (IsInPool (slot_of old.actions action) old.pools.actions → ⊥)
  there action live = live_place old.pools old.actions h b action d.whole.kept.low d.whole.kept.keeps.law d.pools d.actions live

  apart : (action : ℕ) → IsLive hook_meaning (now h) action ⊎ IsLive hook_meaning (next h y) action → IsInPool (slot_of old.actions action) old.pools.actions → ⊥
  apart action (inl was) = (there action was).1
  apart action (inr is) = (there action (none action is)).1

  pub is_ahead_removal : IsAhead (record old { ledger = record old.ledger { lists = lists } }) y done
  is_ahead_removal = record {
    has = record {
      shaped = d.shaped;
      kept = record { low = d.whole.kept.low; keeps = d.whole.kept.keeps; point_is = d.whole.kept.point_is };
      pools = d.pools;
      sized = d.sized;
      masks = d.masks;
      ingress = d.ingress;
      egress = d.egress;
      idle_ingress = d.idle_ingress;
      idle_egress = d.idle_egress;
    };
    rest = d.whole.rest;
    line = f.accepted.line;
    steps = f.accepted.steps;
    spells = f.spells;
    made = λ action live. inl (none action live);
    actions = here;
    earlier = λ action was. (there action was).0;
    apart = apart;
    early = λ root no_slot. d.whole.kept.early root;
    recent = λ root. let low = d.whole.kept.early root in omega (arith, low);
  }
