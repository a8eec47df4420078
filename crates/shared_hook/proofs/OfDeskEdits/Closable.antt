-- The parts of a desk once the masks that went have left.
use Rattle.std.proofs.Common.{Option, ◌≡◌, ◌∙◌, ◌⊎◌, inl, inr, ℕ, false, List, [], ◌∷◌, ◌++◌, length, Some, None, sym, ap, subst, arith, length-append}
use mathlib.Core.List.{append-nil}
use Rattle.tc_base.specs.declared.hook.Hook.{Hook}
use Rattle.tc_base.specs.declared.hook.Proto.{Proto}
use Rattle.visit_room.specs.declared.names.MaskName.{MaskName}
use Rattle.store_history.specs.declared.history.Commit.{Commit}
use Rattle.filter_state.specs.declared.edit.Edit.{Edit}
use Rattle.filter_state.specs.declared.edit.Edit.TheVariants as edits
use Rattle.filter_state.specs.declared.refusal.Done.{Done}
use Rattle.filter_state.specs.States.{State}
use Rattle.block_codec.specs.declared.table.StoredTable.{StoredTable}
use Rattle.hook_store_law.specs.OfEffects.Parts.{Stands}
use Rattle.mask_table.specs.declared.mirrors.mirror.KeptMask.{KeptMask}
use Rattle.mask_writer.specs.Masks.{Masks}
use Rattle.miniq_pair.specs.Pairs.{swap_commit}
use Rattle.hook_law.specs.Standing.{IsIn, IsMaskAt}
use Rattle.hook_store_law.specs.Stated.{filters_at}
use Rattle.hook_store_law.specs.Blocks.{hook_codec}
use Rattle.hook_store_law.specs.OfEdits.Premises.{now, next, IsAccepted, LeavesOtherHook}
use Rattle.hook_store_law.proofs.OfEdits.Heading.{mask_gone_after, table_gone_after}
use Rattle.hook_store_law.proofs.OfEdits.OneMask.{loses_after}
use Rattle.desk_heads.proofs.OfHeadCommits.Standing.{stands_filters}
use Rattle.desk_pools.specs.declared.pools.Pools.{Pools}
use Rattle.desk_pools.specs.Pools.{ArePools}
use Rattle.desk_pools.specs.Steps.{turned}
use Rattle.desk_actions.specs.declared.ledgers.ledger.Ledger.{Ledger}
use Rattle.desk_actions.specs.OfLedgers.Kept.{commits, base}
use Rattle.desk_masks.specs.declared.hook_tables.HookTables.{HookTables}
use Rattle.desk_masks.specs.Masks.{HasMasks}
use Rattle.desk_parts.specs.declared.parts.Parts.{Parts}
use Rattle.desk_parts.specs.Desk.{hook_shape, cells}
use Rattle.shared_hook.specs.OfDeskEdits.Ahead.{IsAhead}
use Rattle.desk_heads.specs.Closes.{ClosesMasks, HoldsMasks, IsGone}
use Rattle.desk_heads.proofs.Held.{held_whole}
use Rattle.desk_needs.specs.Live.{count_of}
use Rattle.shared_hook.specs.OfDeskEdits.Swaps.{MaySwap, IsSwapped}
use Rattle.desk_parts.specs.OfWays.Ways.{IsAlone, TakesMasks, Closes}
use Rattle.shared_hook.specs.OfDeskEdits.Goes.{AreGone}
use Rattle.shared_hook.specs.OfDeskEdits.Parting.{is_named, names_in, gone_of, HaveLeft, IsParting, MayAllPart}
use Rattle.shared_hook.proofs.OfDeskEdits.Desked.{accepted, now_is_next}
use Rattle.shared_hook.proofs.OfDeskEdits.Begun.{begun, gone, are_gone, counted}

module _ (hook : Hook) (y : Edit) (old new : Ledger) (pools : Pools) (heads given : HookTables) (may : MaySwap hook y old pools heads) (masks : Masks) (has : HasMasks masks hook_shape (cells old) (commits old))
    (closes : ClosesMasks (commits old) (base old) y hook) (sw : IsSwapped hook y old new pools (turned hook pools) heads given) where
  abbrev count : ℕ → ℕ
  count = count_of (now (commits old))

  abbrev out : List ℕ
  out = gone (commits old) (base old) y hook may.kept.keeps closes heads may.tables (commits new) (base new) sw.kept.low sw.kept.keeps given sw.tables (now_is_next (commits old) (commits new) y sw.journal)

  out_are : AreGone (now (commits old)) (next (commits old) y) out
  out_are = are_gone (commits old) (base old) y hook may.kept.keeps closes heads may.tables (commits new) (base new) sw.kept.low sw.kept.keeps given sw.tables (now_is_next (commits old) (commits new) y sw.journal)

  module _ (holds : HoldsMasks masks hook_shape (cells new) (commits new)) (stays : (m s : ℕ) → IsMaskAt hook_codec (commits old) m s → Stands (next (commits old) y) m → IsMaskAt hook_codec (commits new) m s)
      (goes : (m s : ℕ) → IsMaskAt hook_codec (commits old) m s → (Stands (next (commits old) y) m → ⊥) → IsGone masks (commits new) s) (place : ℕ) (tables : List StoredTable) (number : ℕ)
      (seen : commits new ≡ commits old ++ swap_commit hook place tables number y ∷ [])
      (q : Pools) (q_is : q ≡ turned hook pools) (was : List StoredTable) (was_is : was ≡ heads.tables) (are : List StoredTable) (are_is : are ≡ given.tables) where
    pub parting_at : IsParting masks q hook_shape (cells new) (commits new) (base new) count are (names_in was ++ [])
    parting_at = subst (λ (p : Pools). IsParting masks p hook_shape (cells new) (commits new) (base new) count are (names_in was ++ [])) (sym q_is)
        (subst (λ (ts : List StoredTable). IsParting masks (turned hook pools) hook_shape (cells new) (commits new) (base new) count ts (names_in was ++ [])) (sym are_is)
        (subst (IsParting masks (turned hook pools) hook_shape (cells new) (commits new) (base new) count given.tables) (ap names_in (sym was_is) ∙ sym (append-nil (names_in was)))
        (begun (commits old) (base old) y hook may.kept.keeps closes heads may.tables (commits new) (base new) sw.kept.low sw.kept.keeps given sw.tables (now_is_next (commits old) (commits new) y sw.journal)
        masks hook_shape (cells old) (cells new) has pools may.pools_are sw.pools_are holds stays goes place tables number seen)))

    abbrev pub may_all : MayAllPart masks q are (names_in was)
    may_all = record { shape = hook_shape; cells = cells new; h = commits new; b = base new; count = count; rest = []; parting = parting_at }

    -- ---- afterwards
    module _ (masks2 : Masks) (pools2 : Pools) (parted : (at : MayAllPart masks q are (names_in was)) → IsParting masks2 pools2 at.shape at.cells at.h at.b at.count are at.rest)
        (left : (at : MayAllPart masks q are (names_in was)) → HaveLeft at.count q pools2 (gone_of are (names_in was))) where
      end : IsParting masks2 pools2 hook_shape (cells new) (commits new) (base new) count are []
      end = parted may_all

      pub closed_pools : ArePools pools2 (commits new) (base new)
      closed_pools = end.are

      pub closed_masks : HasMasks masks2 hook_shape (cells new) (commits new)
      closed_masks = held_whole masks2 hook_shape (cells new) (commits new) end.holds (λ s kept stands. pick s kept (end.only s kept stands))
        where
          pick : (s : ℕ) (kept : KeptMask) → IsMaskAt hook_codec (commits new) kept.mask.serial s ⊎ ((name : MaskName) × IsIn {A = MaskName} name [] × (name.slot ≡ s) × (is_named are name.serial ≡ false))
              → IsMaskAt hook_codec (commits new) kept.mask.serial s
          pick s kept (inl at) = at
          pick s kept (inr n) = let e = n.1.1 in absurd (cc e)

      pub closed_left : (went : List ℕ) × AreGone (now (commits old)) (next (commits old) y) went × HaveLeft count (turned hook pools) pools2 went
      closed_left = (
        out,
        out_are,
        subst (λ (p : Pools). HaveLeft count p pools2 out) q_is
            (subst (HaveLeft count q pools2) ((λ t. gone_of (are_is t) (names_in (was_is t)))) (left may_all)),
      )

-- ---- the edits that take masks
weaker : (hook : Hook) (P Q : ℕ → Type 0) (s t : State) → ((m : ℕ) → P m → Q m) → LeavesOtherHook hook P s t → LeavesOtherHook hook Q s t
weaker hook P Q s t more l = record { heads = l.heads; words = λ m none. l.words m (λ is. none (more m is)); filters = λ m none. l.filters m (λ is. none (more m is)); params = l.params }

module _ (parts : Parts) (y : Edit) (done : Done) (ahead : IsAhead parts y done) (hook : Hook) where
  abbrev h : List (Commit Edit)
  h = commits parts.ledger

  abbrev b : ℕ
  b = base parts.ledger

  abbrev Leaves : Edit → Type 0
  Leaves x = LeavesOtherHook hook (λ m. Stands (next h x) m → ⊥) (now h) (next h x)

  taken : (x : Edit) → y ≡ x → IsAccepted h b x (next h x) done
  taken x is = subst (λ (z : Edit). IsAccepted h b z (next h z) done) is (accepted parts y done ahead)

  module _ (protocol : Option Proto) (chain pref : ℕ) where
    -- the mask of a filter that was alone there has none left
    alone_goes : (handle : ℕ) → y ≡ edits.FilterDel hook protocol chain pref (Some handle) → (one : IsAlone h hook chain pref handle)
        → Stands (next h (edits.FilterDel hook protocol chain pref (Some handle))) one.row.mask_serial → ⊥
    alone_goes handle is one stands = let x : Edit = edits.FilterDel hook protocol chain pref (Some handle) in
        let l = loses_after h b hook protocol chain pref handle (next h x) done one.row (taken x is) one.there stands in
        let before = ap length l.loses.before in let after = ap length l.loses.after in let some = stands_filters (next h x) one.row.mask_serial stands in
        let count = counted (now h) one.row.mask_serial in let alone = one.alone in
        let whole = length-append l.earlier (l.old ∷ l.later) in let rest = length-append l.earlier l.later in omega (arith, before, after, some, count, alone, whole, rest)

    leaves : (handle : Option ℕ) → y ≡ edits.FilterDel hook protocol chain pref handle → TakesMasks h hook chain pref handle → Leaves y
    leaves (Some handle) is one = let x : Edit = edits.FilterDel hook protocol chain pref (Some handle) in
        subst Leaves (sym is) (weaker hook (λ m. m ≡ one.row.mask_serial) (λ m. Stands (next h x) m → ⊥) (now h) (next h x)
        (λ n same stands. alone_goes handle is one (subst (Stands (next h x)) same stands))
        (mask_gone_after h b hook protocol chain pref handle (next h x) done one.row (taken x is) one.there))
    leaves None is all = let x : Edit = edits.FilterDel hook protocol chain pref None in
        subst Leaves (sym is) (weaker hook (λ m. (filters_at (next h x) m ≡ []) × Stands (now h) m) (λ m. Stands (next h x) m → ⊥) (now h) (next h x)
        (λ m is stands. let some = stands_filters (next h x) m stands in let none = ap length is.0 in absurd (omega (arith, some, none)))
        (table_gone_after h b hook protocol chain pref (next h x) done (taken x is)))

  pub closes_masks : Closes h y hook → ClosesMasks h b y hook
  closes_masks takes = record {
    ready = record { state = next h y; done = done; accepted = accepted parts y done ahead; made = ahead.made };
    rest = ahead.rest;
    leaves = leaves takes.protocol takes.chain takes.pref takes.handle takes.is takes.takes;
  }
