-- What stays of a desk, part by part.
use Rattle.std.proofs.Common.{◌≡◌, ap}
use Rattle.tc_base.specs.declared.hook.Hook.{Hook}
use Rattle.tc_base.specs.declared.hook.Hook.TheVariants as hooks
use Rattle.desk_pools.specs.declared.pools.Pools.{Pools}
use Rattle.desk_pools.specs.Steps.{turned}
use Rattle.desk_heads.specs.Handed.{idle_of}
use Rattle.desk_actions.specs.OfLedgers.Kept.{commits, base}
use Rattle.desk_parts.specs.declared.parts.Parts.{Parts}

pub masks_led : (old new : Parts) → new ≡ record old { ledger = new.ledger; pools = new.pools; actions = new.actions } → new.masks ≡ old.masks
masks_led old new rest = ap (λ (p : Parts). p.masks) rest

pub rows_led : (old new : Pools) → new ≡ record old { blocks = new.blocks; actions = new.actions } → new.rows ≡ old.rows
rows_led old new rest = ap (λ (p : Pools). p.rows) rest

pub rows_but_blocks : (old new : Pools) → new ≡ record old { blocks = new.blocks } → new.rows ≡ old.rows
rows_but_blocks old new rest = ap (λ (p : Pools). p.rows) rest

pub actions_but_blocks : (old new : Pools) → new ≡ record old { blocks = new.blocks } → new.actions ≡ old.actions
actions_but_blocks old new rest = ap (λ (p : Pools). p.actions) rest

pub actions_but_rows : (old new : Pools) → new ≡ record old { blocks = new.blocks; rows = new.rows } → new.actions ≡ old.actions
actions_but_rows old new rest = ap (λ (p : Pools). p.actions) rest

pub actions_but_masks : (old new : Parts) → new ≡ record old { ledger = new.ledger; pools = new.pools; masks = new.masks } → new.actions ≡ old.actions
actions_but_masks old new rest = ap (λ (p : Parts). p.actions) rest

pub ledger_let : (old new : Parts) → new ≡ record old { pools = new.pools; actions = new.actions } → new.ledger ≡ old.ledger
ledger_let old new rest = ap (λ (p : Parts). p.ledger) rest

-- ---- where the lists alone went on
module _ (old new : Parts) (rest : new ≡ record old { ledger = record old.ledger { lists = new.ledger.lists } }) where
  pub masks_removed : new.masks ≡ old.masks
  masks_removed = ap (λ (p : Parts). p.masks) rest

  pub pools_removed : new.pools ≡ old.pools
  pools_removed = ap (λ (p : Parts). p.pools) rest

  pub base_removed : base new.ledger ≡ base old.ledger
  base_removed = ap (λ (p : Parts). base p.ledger) rest

-- ---- pools where the place of a hook's tables is turned
pub masks_led_pools : (old new : Pools) → new ≡ record old { blocks = new.blocks; actions = new.actions } → new.masks ≡ old.masks
masks_led_pools old new rest = ap (λ (p : Pools). p.masks) rest

pub idle_led : (hook : Hook) (old new : Pools) → new ≡ record old { blocks = new.blocks; actions = new.actions } → idle_of hook new ≡ idle_of hook old
idle_led hooks.Ingress old new rest = ap (λ (p : Pools). p.ingress) rest
idle_led hooks.Egress old new rest = ap (λ (p : Pools). p.egress) rest

pub actions_turned : (hook : Hook) (old new : Pools) → new ≡ turned hook (record old { blocks = new.blocks; rows = new.rows; masks = new.masks }) → new.actions ≡ old.actions
actions_turned hooks.Ingress old new rest = ap (λ (p : Pools). p.actions) rest
actions_turned hooks.Egress old new rest = ap (λ (p : Pools). p.actions) rest

pub actions_left : (hook : Hook) (old new : Pools) → new ≡ record (turned hook old) { blocks = new.blocks; rows = new.rows; masks = new.masks } → new.actions ≡ old.actions
actions_left hooks.Ingress old new rest = ap (λ (p : Pools). p.actions) rest
actions_left hooks.Egress old new rest = ap (λ (p : Pools). p.actions) rest

pub places_closed : (old new : Parts)
    → new ≡ record old { ledger = new.ledger; pools = new.pools; masks = new.masks; ingress = new.ingress; egress = new.egress; room = new.room } → new.actions ≡ old.actions
places_closed old new rest = ap (λ (p : Parts). p.actions) rest

pub places_removed : (old new : Parts) → new ≡ record old { ledger = record old.ledger { lists = new.ledger.lists } } → new.actions ≡ old.actions
places_removed old new rest = ap (λ (p : Parts). p.actions) rest

pub commits_removed : (old new : Parts) → new ≡ record old { ledger = record old.ledger { lists = new.ledger.lists } } → commits new.ledger ≡ commits old.ledger
commits_removed old new rest = ap (λ (p : Parts). commits p.ledger) rest
