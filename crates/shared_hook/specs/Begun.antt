-- An edit that is begun on the parts of a desk, and the room that is made for it (this project's own). `y` is
-- the edit.
use Rattle.std.specs.Prelude.{◌≡◌, ◌⊎◌, ◌+◌, ◌%◌, ◌-◌, ◌≤◌, List, ◌++◌, Option, Some, None, slice_index_or}
use Rattle.store_history.specs.declared.history.Commit.{Commit}
use Rattle.store_history.specs.History.{edits_of}
use Rattle.pin_store.specs.declared.note.Note.TheVariants.{Unknown, Seen}
use Rattle.pin_store.specs.Calls.{sheet_of}
use Rattle.filter_state.specs.declared.edit.Edit.{Edit}
use Rattle.filter_state.specs.declared.refusal.Done.{Done}
use Rattle.hook_store_law.specs.OfEdits.Premises.{now, next, IsAccepted}
use Rattle.desk_needs.specs.declared.needs.Needs.{Needs}
use Rattle.desk_needs.specs.declared.pool.Pool.{Pool}
use Rattle.desk_needs.specs.Live.{live_of, size_of_pool}
use Rattle.desk_needs.specs.Needs.{needs_of}
use Rattle.desk_actions.specs.OfLedgers.Kept.{commits, base}
use Rattle.desk_parts.specs.declared.parts.Parts.{Parts}
use Rattle.desk_parts.specs.Desk.{IsDesk}
use Rattle.shared_hook.specs.OfBalance.Counts.{free_of, left_of, AreCounted}
use Rattle.shared_hook.specs.OfPlans.Plans.{IsPlan}
use Rattle.shared_hook.specs.declared.beginning.Begun.{Begun}
use Rattle.shared_hook.specs.declared.clearing.Hindrance.{Hindrance}
use Rattle.shared_hook.specs.Applied.{AreEmpty}
use Rattle.shared_hook.specs.Short.{need_of, IsShort}
use Rattle.shared_hook.specs.Views.{free_in}

-- a desk, of which what is free, what left and what is in use add up
pub record IsCounted (parts : Parts) : Type 0 where
  pub desk : IsDesk parts
  pub counted : AreCounted parts.pools (now (commits parts.ledger))

-- the lists accept the edit, which was made ready and planned, and this is what it needs
pub record IsBegun (parts : Parts) (y : Edit) (begun : Begun) : Type 0 where
  pub done : Done
  pub accepted : IsAccepted (commits parts.ledger) (base parts.ledger) y (next (commits parts.ledger) y) done
  pub ready : parts.ledger.lists ≡ begun.prepared.lists
  pub edit : begun.prepared.edit ≡ y
  pub plan : IsPlan (commits parts.ledger) y begun.plan
  pub needs : begun.needs ≡ needs_of (now (commits parts.ledger)) y

-- each pool has what is needed
abbrev pub HasAll : Parts → Needs → Type 0
HasAll parts needs = (pool : Pool) → need_of needs pool ≤ free_of parts.pools pool

-- the pools add up, and have room for what is needed once nothing is left
pub record CanHave (parts : Parts) (needs : Needs) : Type 0 where
  pub counted : AreCounted parts.pools (now (commits parts.ledger))
  pub suffice : (pool : Pool) → live_of (now (commits parts.ledger)) pool + need_of needs pool
      ≤ size_of_pool pool

-- so many epochs began while what left was looked at
abbrev pub BeginsEpochs : Parts → Parts → Type 0
BeginsEpochs old new =
    ((sheet_of new.ledger.writer.place).epoch ≡ (sheet_of old.ledger.writer.place).epoch + 1)
    ⊎ ((sheet_of new.ledger.writer.place).epoch ≡ (sheet_of old.ledger.writer.place).epoch + 2)

-- THE ROOM IS MADE, as far as it could be: lists, journal and masks stay, and no pool has fewer free. It was
-- tidied exactly where some pool was short.
pub record IsCleared (old new : Parts) (needs : Needs) : Type 0 where
  pub desk : IsDesk new
  pub lists : new.ledger.lists ≡ old.ledger.lists
  pub point : new.ledger.point ≡ old.ledger.point
  pub journal : edits_of (commits new.ledger) ≡ edits_of (commits old.ledger)
  pub masks : new.masks ≡ old.masks
  pub seen : (cs : List (Commit Edit)) × (commits new.ledger ≡ commits old.ledger ++ cs) × AreEmpty cs
  pub free : (pool : Pool) → free_of old.pools pool ≤ free_of new.pools pool
  pub counted : AreCounted new.pools (now (commits new.ledger))
  pub still : HasAll old needs → new ≡ old
  pub tidied : (HasAll old needs → ⊥) → BeginsEpochs old new

-- a pool is short still, and this reader is in the way
pub record IsHindered (old new : Parts) (needs : Needs) (hindrance : Hindrance) : Type 0 where
  pub short : IsShort (free_in new.pools) needs hindrance.short
  pub named : 1 ≤ hindrance.reader
  pub seen_twice : slice_index_or (sheet_of new.ledger.writer.place).notes (hindrance.reader - 1) Unknown
      ≡ Seen hindrance.pin 2
  pub odd : hindrance.pin % 2 ≡ 1
  pub lacked : HasAll old needs → ⊥
  pub left : ((pool : Pool) → left_of old.pools pool ≡ 0) → ⊥

abbrev pub HasRoomOr : Parts → Parts → Needs → Option Hindrance → Type 0
HasRoomOr old new needs None = HasAll new needs
HasRoomOr old new needs (Some hindrance) = IsHindered old new needs hindrance
