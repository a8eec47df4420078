-- What the commits that give a hook its tables leave of a desk's parts.
use Rattle.std.proofs.Common.{◌≡◌, ◌≢◌, ◌∙◌, ℕ, ◌+◌, ◌<◌, ◌≤◌, List, [], ◌∷◌, ◌++◌, length, sym, ap, subst, arith, length-append}
use Rattle.tc_base.specs.declared.hook.Hook.{Hook}
use Rattle.tc_base.specs.declared.hook.Hook.TheVariants.{Ingress, Egress}
use Rattle.store_history.specs.declared.history.Commit.{Commit}
use Rattle.store_history.specs.History.{root_of, edits_of}
use Rattle.pin_store.specs.Sheets.{IsSameButCells}
use Rattle.pin_store.specs.Calls.{sheet_of, IsUnnamed}
use Rattle.filter_state.specs.declared.edit.Edit.{Edit}
use Rattle.mask_table.proofs.OfMirrors.Keeping.{same_base}
use Rattle.miniq_pair.specs.Pairs.{first_block_of, other_place}
use Rattle.hook_law.specs.Keeping.{IsAtRest}
use Rattle.hook_store_law.specs.Stated.{hook_meaning}
use Rattle.hook_store_law.specs.Blocks.{hook_codec}
use Rattle.hook_store_law.specs.Kept.{KeepsHook, IsKeptAt}
use Rattle.desk_pools.specs.declared.pools.Pools.{Pools}
use Rattle.desk_pools.specs.Pools.{IsIdle, ArePools}
use Rattle.desk_pools.specs.Steps.{turned}
use Rattle.desk_actions.specs.declared.ledgers.ledger.Ledger.{Ledger}
use Rattle.desk_actions.specs.OfLedgers.Kept.{commits, base}
use Rattle.desk_masks.specs.declared.hook_tables.HookTables.{HookTables}
use Rattle.desk_masks.specs.Tables.{HasTables}
use Rattle.desk_parts.specs.Desk.{shape_of}
use Rattle.desk_heads.specs.Handed.{idle_of}
use Rattle.shared_hook.specs.OfDeskEdits.Swaps.{MaySwap, IsSwapped}
use Rattle.shared_hook.proofs.OfDeskEdits.Commits.{AreAside, no_slots, aside_early}

is_idle : (hook : Hook) (pools : Pools) (h : List (Commit Edit)) (b : ℕ) → ArePools pools h b → IsIdle h b hook (idle_of hook pools)
is_idle Ingress pools h b p = p.ingress
is_idle Egress pools h b p = p.egress

module _ (hook : Hook) (y : Edit) (old : Ledger) (pools : Pools) (heads : HookTables) (may : MaySwap hook y old pools heads) where
  -- nothing has the blocks of the idle place
  pub may_fill : (at : ℕ) → at < 256 → IsUnnamed (base old) (commits old) (first_block_of hook (other_place heads.pair.active) + at)
  may_fill at less = let idle = is_idle hook pools (commits old) (base old) may.pools_are in
      subst (λ (place : ℕ). IsUnnamed (base old) (commits old) (first_block_of hook place + at)) may.idle (idle.free may.free at less)

  module _ (now : Ledger) (left : Pools) (given : HookTables) (more : List (Commit Edit)) (seen : commits now ≡ commits old ++ more) (aside : AreAside (old.point + 1) more)
      (journal : edits_of (commits now) ≡ edits_of (commits old) ++ y ∷ []) (lawful : KeepsHook (commits now) (base now)) (shaped : shape_of now.writer.place ≡ shape_of old.writer.place)
      (sheet : IsSameButCells (sheet_of old.writer.place) (sheet_of now.writer.place)) (point : now.point ≡ old.point + 1) where
    kept : IsKeptAt (commits now) (base now) now.point
    kept = record {
      low = (let same = same_base (sheet_of old.writer.place) (sheet_of now.writer.place) sheet in let low = may.kept.low in let long = ap length seen in let sum = length-append (commits old) more in omega (arith, same, low, long, sum));
      keeps = lawful;
      point_is = (let is = may.kept.point_is in let long = ap length journal in let sum = length-append (edits_of (commits old)) (y ∷ []) in omega (arith, is, long, sum, point));
      early = λ r. let less = subst (λ (k : List (Commit Edit)). (root_of k r).stamp ≤ old.point + 1) (sym seen) (aside_early (commits old) more (old.point + 1) r (may.recent r) aside) in omega (arith, less, point);
    }

    pub swaps : now.lists ≡ old.lists → IsAtRest hook_meaning hook_codec (commits now) → left ≡ turned hook pools → ArePools (turned hook pools) (commits now) (base now) → HasTables hook given (commits now)
        → given.pair.active ≡ other_place heads.pair.active → ((other : Hook) (kept : HookTables) → hook ≢ other → HasTables other kept (commits old) → HasTables other kept (commits now))
        → IsSwapped hook y old now pools left heads given
    swaps lists rest turns pools_are tables active others = record {
      shaped = shaped ∙ may.shaped;
      aside = record { more = more; seen = seen; aside = no_slots (old.point + 1) more aside };
      journal = journal;
      kept = kept;
      rest = rest;
      lists = lists;
      point = point;
      sheet = sheet;
      turns = turns;
      pools_are = subst (λ (q : Pools). ArePools q (commits now) (base now)) (sym turns) pools_are;
      tables = tables;
      active = active;
      others = others;
    }
