-- The lists are edited, and the actions that the edit makes are put.
use Rattle.std.proofs.Common.{◌≡◌, ◌∙◌, ◌⊎◌, inl, inr, ℕ, ◌+◌, ◌-◌, ◌≤◌, List, length, Ok, sym, ap, subst, arith}
use Rattle.tc_base.specs.declared.hook.Hook.{Hook}
use Rattle.tc_base.specs.declared.hook.Hook.TheVariants.{Ingress, Egress}
use Rattle.store_history.specs.declared.history.Named.{Named}
use Rattle.store_history.specs.declared.history.Commit.{Commit}
use Rattle.store_history.specs.History.{root_of}
use Rattle.pin_store.specs.Calls.{sheet_of}
use Rattle.filter_state.specs.declared.edit.Edit.{Edit}
use Rattle.filter_state.specs.declared.refusal.Done.{Done}
use Rattle.filter_state.specs.States.{State}
use Rattle.filter_state.specs.Lines.{IsLine}
use Rattle.filter_state.specs.Steps.{step}
use Rattle.hook_lists.specs.declared.kept.Kept.{Kept}
use Rattle.filter_lists.specs.Edits.{IsFinished}
use Rattle.filter_lists.specs.Spells.{Spells}
use Rattle.hook_law.specs.Meaning.{IsLive}
use Rattle.hook_law.specs.Numbered.{PutsActions}
use Rattle.hook_store_law.specs.Stated.{hook_meaning}
use Rattle.hook_store_law.specs.Blocks.{hook_codec}
use Rattle.hook_store_law.specs.Kept.{KeepsHook}
use Rattle.hook_store_law.specs.OfEdits.Premises.{now, next, IsAccepted}
use Rattle.hook_store_law.proofs.OfEdits.Accepted.{leads, sound}
use Rattle.desk_pools.specs.declared.pools.Pools.{Pools}
use Rattle.desk_pools.specs.Pools.{ArePools}
use Rattle.desk_pools.specs.Steps.{IsInPool}
use Rattle.desk_actions.specs.declared.ledgers.ledger.Ledger.{Ledger}
use Rattle.desk_actions.specs.OfLedgers.Ledger.{IsLedger}
use Rattle.desk_actions.specs.OfLedgers.Kept.{commits, base}
use Rattle.desk_actions.proofs.OfLedgers.Going.{IsDone, done_is}
use Rattle.desk_actions.specs.Places.{Placed, slot_of, AreHereFor}
use Rattle.desk_actions.specs.Effects.{KeepsBlocks}
use Rattle.desk_parts.specs.OfLineActions.Put.{IsOfLine, ArePut, IsPlaced, IsNoSlot}
use Rattle.desk_parts.proofs.OfLineActions.Living.{made_rises}
use Rattle.desk_masks.specs.declared.hook_tables.HookTables.{HookTables}
use Rattle.desk_masks.specs.Masks.{HasMasks}
use Rattle.desk_masks.specs.Tables.{HasTables}
use Rattle.desk_parts.specs.declared.parts.Parts.{Parts}
use Rattle.desk_parts.specs.Desk.{shape_of, hook_shape, cells, IsDesk}
use Rattle.shared_hook.specs.OfDeskEdits.Ahead.{HasParts, IsAhead}
use Rattle.desk_masks.proofs.Blocks.{named_low}
use Rattle.shared_hook.proofs.OfDeskEdits.Aside.{now_put, next_put, put_tables, put_masks}

-- ---- the lists are edited: the state's step accepts the edit too, and they spell what it leads to
pub record IsFirst (h : List (Commit Edit)) (b : ℕ) (y : Edit) (lists : Kept) (done : Done) : Type 0 where
  pub accepted : IsAccepted h b y (next h y) done
  pub spells : Spells lists (next h y)

pub first_is : (h : List (Commit Edit)) (b : ℕ) (old new : Kept) (point : ℕ) (y z : Edit) (done : Done) → IsLedger h b old point → IsLine y → z ≡ y
    → IsFinished new done (step (now h) z) → IsFirst h b y new done
first_is h b old new point y z done l line same f =
    let d : IsDone h b y new done = done_is h b old new point y done l line (subst (λ (e : Edit). IsFinished new done (step (now h) e)) same f) in
    let to : d.state ≡ next h y = sym (leads h b y d.state done d.accepted) in record {
      accepted = subst (λ (s : State). IsAccepted h b y s done) to d.accepted;
      spells = subst (Spells new) to d.spells;
    }

-- ---- how many actions the edit makes, by the numbers of the lists before and after it
module _ (h : List (Commit Edit)) (b : ℕ) (y : Edit) (old lists : Kept) (done : Done) (spells : Spells old (now h)) (f : IsFirst h b y lists done) (made : ℕ) (made_is : made ≡ old.actions.made) where
  pub so_many : (taken : ℕ) → (next h y).actions_made ≡ (now h).actions_made + taken → taken + made ≡ lists.actions.made
  so_many taken e = let new = f.spells.actions_made in let was = spells.actions_made in omega (arith, e, new, was, made_is)

  pub some_many : IsOfLine y → (lists.actions.made - made) + made ≡ lists.actions.made
  some_many is = let rises = made_rises (now h) (next h y) y done is f.accepted.steps in let new = f.spells.actions_made in let was = spells.actions_made in omega (arith, rises, new, was, made_is)

  pub enough_for : (free : ℕ) → (next h y).actions_made ≤ (now h).actions_made + free → lists.actions.made ≤ made + free
  enough_for free enough = let new = f.spells.actions_made in let was = spells.actions_made in omega (arith, enough, new, was, made_is)

-- ---- what is made of the parts of a desk that change
pub record Leads (old : Parts) (ledger : Ledger) (pools : Pools) (placed : Placed) (y : Edit) (done : Done) : Type 0 where
  pub first : IsFirst (commits old.ledger) (base old.ledger) y ledger.lists done
  pub put : ArePut (commits old.ledger) (commits ledger) (base old.ledger) old.ledger.point y
  pub point : ledger.point ≡ old.ledger.point
  pub shaped : shape_of ledger.writer.place ≡ hook_shape
  pub same_base : base ledger ≡ base old.ledger
  pub words : KeepsBlocks hook_shape (commits old.ledger) (sheet_of old.ledger.writer.place) (sheet_of ledger.writer.place)
  pub pools_are : ArePools pools (commits ledger) (base ledger)
  pub rest : pools ≡ record old.pools { blocks = pools.blocks; actions = pools.actions }
  pub block_size : pools.blocks.size ≡ old.pools.blocks.size
  pub slot_size : pools.actions.size ≡ old.pools.actions.size
  pub actions : AreHereFor placed (commits ledger) (next (commits old.ledger) y)
  pub earlier : (action : ℕ) → IsLive hook_meaning (now (commits old.ledger)) action
      → IsPlaced placed (commits ledger) action × (IsInPool (slot_of placed action) pools.actions → ⊥)
  pub apart : (action : ℕ) → IsLive hook_meaning (next (commits old.ledger) y) action → IsInPool (slot_of placed action) pools.actions → ⊥

module _ (old : Parts) (ledger : Ledger) (pools : Pools) (placed : Placed) (y : Edit) (done : Done) (d : IsDesk old) (f : Leads old ledger pools placed y done) where
  abbrev h : List (Commit Edit)
  h = commits old.ledger

  abbrev k : List (Commit Edit)
  k = commits ledger

  abbrev b : ℕ
  b = base old.ledger

  abbrev point : ℕ
  point = old.ledger.point

  same_now : now k ≡ now h
  same_now = now_put h k b point y f.put

  same_next : next k y ≡ next h y
  same_next = next_put h k b point y f.put

  masks : HasMasks old.masks hook_shape (cells ledger) k
  masks = put_masks h k b point y f.put old.masks hook_shape (cells old.ledger) (cells ledger) d.whole.kept (sound h b y (next h y) done f.first.accepted) d.masks
      (λ root blk has. f.words root blk has (named_low old.pools h b root blk d.pools has))

  tables : (hook : Hook) (kept : HookTables) → HasTables hook kept h → HasTables hook kept k
  tables hook kept has = put_tables h k b point y f.put hook kept has

  abbrev pub made_of : Parts
  made_of = record old { ledger = ledger; pools = pools; actions = placed }

  has_parts : HasParts made_of
  has_parts = record {
    shaped = f.shaped;
    kept = record {
      low = subst (λ (n : ℕ). n ≤ length k) (sym f.same_base) f.put.low;
      keeps = subst (KeepsHook k) (sym f.same_base) f.put.keeps;
      point_is = f.point ∙ (d.whole.kept.point_is ∙ sym (ap length f.put.journal));
    };
    pools = f.pools_are;
    sized = (f.block_size ∙ d.sized.0, ap (λ (p : Pools). p.rows.size) f.rest ∙ d.sized.1, ap (λ (p : Pools). p.masks.size) f.rest ∙ d.sized.2, f.slot_size ∙ d.sized.3);
    masks = masks;
    ingress = tables Ingress old.ingress d.ingress;
    egress = tables Egress old.egress d.egress;
    idle_ingress = ap (λ (p : Pools). p.ingress.place) f.rest ∙ d.idle_ingress;
    idle_egress = ap (λ (p : Pools). p.egress.place) f.rest ∙ d.idle_egress;
  }

  apart : (action : ℕ) → IsLive hook_meaning (now k) action ⊎ IsLive hook_meaning (next k y) action → IsInPool (slot_of placed action) pools.actions → ⊥
  apart action (inl was) = (f.earlier action (subst (λ (s : State). IsLive hook_meaning s action) same_now was)).1
  apart action (inr is) = f.apart action (subst (λ (s : State). IsLive hook_meaning s action) same_next is)

  early : (root : ℕ) → IsNoSlot root → (root_of k root).stamp ≤ ledger.point
  early root none = let low = d.whole.kept.early root in let same = ap (λ (n : Named). n.stamp) (f.put.roots root none) in let at = f.point in omega (arith, low, same, at)

  recent : (root : ℕ) → (root_of k root).stamp ≤ ledger.point + 1
  recent root = let low = f.put.early root in let at = f.point in omega (arith, low, at)

  pub is_ahead : IsAhead made_of y done
  is_ahead = record {
    has = has_parts;
    rest = f.put.rest;
    line = f.first.accepted.line;
    steps = subst (λ (s : State). step s y ≡ Ok (hook_meaning.step s y, done)) (sym same_now) f.first.accepted.steps;
    spells = subst (Spells ledger.lists) (sym same_next) f.first.spells;
    made = subst (λ (n : ℕ). PutsActions hook_meaning hook_codec n k y) (sym f.same_base) f.put.made;
    actions = subst (AreHereFor placed k) (sym same_next) f.actions;
    earlier = λ action was. (f.earlier action (subst (λ (s : State). IsLive hook_meaning s action) same_now was)).0;
    apart = apart;
    early = early;
    recent = recent;
  }
