-- What a plan rests on goes on while a desk is tidied.
use Rattle.std.proofs.Common.{◌≡◌, ℕ, List, Option, Some, None, Ok, sym, ap, subst, true}
use Rattle.store_history.specs.declared.history.Commit.{Commit}
use Rattle.store_history.specs.History.{edits_of}
use Rattle.tc_base.specs.declared.hook.Hook.{Hook}
use Rattle.filter_state.specs.declared.edit.Edit.{Edit}
use Rattle.filter_state.specs.declared.edit.FilterLine.{FilterLine}
use Rattle.filter_state.specs.Actions.{is_live}
use Rattle.filter_state.specs.Steps.{pref_for}
use Rattle.flow_mask.specs.Sizes.{size_of}
use Rattle.mask_writer.specs.Masks.{Masks}
use Rattle.mask_writer.specs.Standing.{StandsAt}
use Rattle.desk_masks.specs.OfFilterCommits.Edits.{HasLater}
use Rattle.desk_needs.specs.Live.{count_of}
use Rattle.desk_actions.specs.Kinds.{IsMaking, IsChanging}
use Rattle.desk_parts.specs.OfLineActions.Gone.{NamesGone}
use Rattle.shared_hook.proofs.OfDeskEdits.Found.{same_state}
use Rattle.filter_state.specs.States.{Row, State}
use Rattle.filter_state.specs.Tables.{mask_row, filter_row}
use Rattle.hook_store_law.specs.Stated.{filters_at}
use Rattle.hook_store_law.specs.Blocks.{hook_codec}
use Rattle.hook_law.specs.Standing.{IsMaskAt}
use Rattle.hook_store_law.specs.OfEdits.Premises.{now, IsAddOf, named_row}
use Rattle.desk_actions.specs.OfLedgers.Kept.{commits}
use Rattle.desk_parts.specs.declared.parts.Parts.{Parts}
use Rattle.desk_parts.specs.Desk.{IsDesk}
use Rattle.desk_parts.specs.declared.ways.way.Way.{Way}
use Rattle.desk_parts.specs.declared.ways.way.Way.TheVariants as ways
use Rattle.desk_parts.specs.OfWays.Ways.{IsMaskWith, Replaces, IsTarget, TakesMasks, IsWay}
use Rattle.shared_hook.specs.declared.plans.plan.Plan.{Plan}
use Rattle.shared_hook.specs.declared.plans.plan.Plan.TheVariants as plans
use Rattle.shared_hook.specs.OfPlans.Plans.{IsPlan}

module _ (old new : Parts) (was : IsDesk old) (is : IsDesk new) (journal : edits_of (commits new.ledger) ≡ edits_of (commits old.ledger)) (masks : new.masks ≡ old.masks) where
  abbrev h : List (Commit Edit)
  h = commits old.ledger

  abbrev k : List (Commit Edit)
  k = commits new.ledger

  goes : (P : State → Type 0) → P (now h) → P (now k)
  goes P it = subst P (sym (same_state h k journal)) it

  mask_stays : (mask slot : ℕ) → IsMaskAt hook_codec h mask slot → IsMaskAt hook_codec k mask slot
  mask_stays mask slot at = let has = was.masks.has mask slot at in
      subst (λ (m : ℕ). IsMaskAt hook_codec k m slot) has.serial (is.masks.only slot has.kept (subst (λ (ms : Masks). StandsAt ms slot has.kept) (sym masks) has.stands))

  with_stays : (serial slot count : ℕ) → IsMaskWith h serial slot count → IsMaskWith k serial slot count
  with_stays serial slot count m = record { at = mask_stays serial slot m.at; counted = goes (λ s. count ≡ count_of s serial) m.counted }

  replaces_stays : (y : Edit) (line : FilterLine) (row : Row) → Replaces h y line row → Replaces k y line row
  replaces_stays y line row r = record { is = r.is; there = goes (λ s. named_row s line ≡ Some row) r.there }

  target_stays : (a b : Option Row) (into : Option ℕ) (others : ℕ) → a ≡ b → IsTarget h a into others → IsTarget k b into others
  target_stays a b into others e t = subst (λ (o : Option Row). IsTarget k o into others) e (from a into t)
    where
      from : (o : Option Row) (i : Option ℕ) → IsTarget h o i others → IsTarget k o i others
      from None None it = it
      from (Some row) (Some slot) it = with_stays row.mask_serial slot others it
      from None (Some slot) it = absurd it
      from (Some row) None it = absurd it

  alone_stays : (hook : Hook) (chain pref : ℕ) (handle : Option ℕ) → TakesMasks h hook chain pref handle → TakesMasks k hook chain pref handle
  alone_stays hook chain pref None t = tt
  alone_stays hook chain pref (Some handle) t = record {
    row = t.row;
    there = goes (λ s. filter_row hook chain pref handle s.rows ≡ Some t.row) t.there;
    alone = goes (λ s. count_of s t.row.mask_serial ≡ 1) t.alone;
  }

  way_stays : (y : Edit) (way : Way) → IsWay h y way → IsWay k y way
  way_stays y (ways.IntoMask slot count) w = record {
    line = w.line;
    pref = w.pref;
    row = w.row;
    add = goes (λ s. IsAddOf s w.line y) w.add;
    chosen = goes (λ s. pref_for s w.line.hook w.line.chain w.line.pref ≡ Ok w.pref) w.chosen;
    there = goes (λ s. mask_row w.line.hook w.line.chain w.pref w.line.mask.words s.rows ≡ Some w.row) w.there;
    mask = with_stays w.row.mask_serial slot count w.mask;
  }
  way_stays y (ways.WithMask hook) w = record {
    line = w.line;
    add = goes (λ s. IsAddOf s w.line y) w.add;
    on = w.on;
    none = goes (λ s. (pref : ℕ) → pref_for s w.line.hook w.line.chain w.line.pref ≡ Ok pref → mask_row w.line.hook w.line.chain pref w.line.mask.words s.rows ≡ None) w.none;
  }
  way_stays y (ways.InPlace slot later) w = record {
    line = w.line;
    row = w.row;
    replaces = replaces_stays y w.line w.row w.replaces;
    same_mask = w.same_mask;
    same_key = w.same_key;
    at = mask_stays w.row.mask_serial slot w.at;
    behind = goes (λ s. HasLater (size_of (count_of s w.row.mask_serial)) w.row.handle (filters_at s w.row.mask_serial) later) w.behind;
  }
  way_stays y (ways.OtherKey hook slot count) w = record {
    line = w.line;
    row = w.row;
    replaces = replaces_stays y w.line w.row w.replaces;
    on = w.on;
    same_mask = w.same_mask;
    other_key = w.other_key;
    mask = with_stays w.row.mask_serial slot count w.mask;
  }
  way_stays y (ways.OtherMask hook slot count into others) w = record {
    line = w.line;
    row = w.row;
    replaces = replaces_stays y w.line w.row w.replaces;
    on = w.on;
    other_mask = w.other_mask;
    mask = with_stays w.row.mask_serial slot count w.mask;
    target = target_stays _ _ into others (ap (λ (s : State). mask_row w.line.hook w.line.chain w.row.pref w.line.mask.words s.rows) (sym (same_state h k journal))) w.target;
  }
  way_stays y (ways.OutOfMask slot count later) w = record {
    hook = w.hook;
    protocol = w.protocol;
    chain = w.chain;
    pref = w.pref;
    handle = w.handle;
    row = w.row;
    is = w.is;
    there = goes (λ s. filter_row w.hook w.chain w.pref w.handle s.rows ≡ Some w.row) w.there;
    mask = with_stays w.row.mask_serial slot count w.mask;
    others = w.others;
    behind = goes (λ s. HasLater (size_of (count_of s w.row.mask_serial)) w.row.handle (filters_at s w.row.mask_serial) later) w.behind;
  }
  way_stays y (ways.Closes hook) w = record {
    protocol = w.protocol;
    chain = w.chain;
    pref = w.pref;
    handle = w.handle;
    is = w.is;
    takes = alone_stays hook w.chain w.pref w.handle w.takes;
  }

  pub plan_stays : (y : Edit) (plan : Plan) → IsPlan h y plan → IsPlan k y plan
  plan_stays y plans.Mark p = p
  plan_stays y plans.MakeAction p = (p.0, goes (λ s. IsMaking s p.0 y) p.1)
  plan_stays y plans.ChangeAction p = (p.0, goes (λ s. IsChanging s p.0 y) p.1)
  plan_stays y plans.DeleteAction p = record { kind = p.kind; index = p.index; is = p.is; live = goes (λ s. is_live p.kind p.index s.actions ≡ true) p.live }
  plan_stays y (plans.Filters way means) p = record {
    filters = p.filters;
    is = way_stays y way p.is;
    few = p.few;
    gone = goes (λ s. NamesGone s y means.gone.items) p.gone;
    has = p.has;
  }
