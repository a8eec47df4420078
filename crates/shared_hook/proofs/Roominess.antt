-- Room is made for an edit.
use Rattle.std.proofs.Common.{◌≡◌, ℕ, ◌-◌, ◌%◌, ◌≤◌, List, [], length, refl, sym, ap, subst, arith, le_refl, append-nil}
use Rattle.std.specs.Prelude.{slice_index_or}
use Rattle.store_history.specs.declared.history.Commit.{Commit}
use Rattle.pin_store.specs.declared.note.Note.{Note}
use Rattle.pin_store.specs.declared.note.Note.TheVariants.{Unknown, Seen}
use Rattle.pin_store.specs.declared.scan.Scan.TheVariants.{Pinned}
use Rattle.filter_state.specs.declared.edit.Edit.{Edit}
use Rattle.store_history.specs.History.{edits_of}
use Rattle.hook_law.specs.Meaning.{state_at}
use Rattle.hook_store_law.specs.Stated.{hook_meaning}
use Rattle.hook_store_law.specs.OfEdits.Premises.{now}
use Rattle.desk_needs.specs.declared.needs.Needs.{Needs}
use Rattle.desk_pools.specs.OfTidying.Tidied.{IsTwiceIn, Empties, AreTidied, empty_at, emptying}
use Rattle.desk_pools.proofs.OfTidying.Emptied.{mapped_at}
use Rattle.desk_actions.specs.OfLedgers.Kept.{commits}
use Rattle.desk_parts.specs.declared.parts.Parts.{Parts}
use Rattle.desk_parts.specs.Desk.{IsDesk}
use Rattle.shared_hook.specs.OfBalance.Counts.{AreCounted}
use Rattle.shared_hook.specs.Begun.{BeginsEpochs, HasAll, IsCleared}
use Rattle.shared_hook.proofs.Rising.{free_rises}
use Rattle.shared_hook.proofs.Shorts.{count_free, counted_on}

-- where nothing is short all stays as it is
pub cleared_same : (parts : Parts) (needs : Needs) → IsDesk parts → AreCounted parts.pools (now (commits parts.ledger)) → HasAll parts needs → IsCleared parts parts needs
cleared_same parts needs desk counted all = record {
  desk = desk;
  lists = refl;
  point = refl;
  journal = refl;
  masks = refl;
  seen = ([], sym (append-nil (commits parts.ledger)), λ at c there. absurd (cc there));
  free = λ pool. le_refl _;
  counted = counted;
  still = λ has. refl;
  tidied = λ lacks. absurd (lacks all);
}

-- the state is that of the journal
pub same_now : (h k : List (Commit Edit)) → edits_of k ≡ edits_of h → now k ≡ now h
same_now h k same = ap (λ (edits : List Edit). state_at hook_meaning edits (length edits)) same

-- where something is short it was tidied once
pub cleared_tidied : (was after : Parts) (needs : Needs) → IsDesk after → edits_of (commits after.ledger) ≡ edits_of (commits was.ledger)
    → Empties was.pools (commits was.ledger) was.ledger.point (commits after.ledger) → AreTidied was.pools after.pools → BeginsEpochs was after
    → after ≡ record was { ledger = record was.ledger { writer = after.ledger.writer }; pools = after.pools }
    → AreCounted was.pools (now (commits was.ledger)) → (HasAll was needs → ⊥) → IsCleared was after needs
cleared_tidied was after needs desk journal e tidied epochs rest counted lacks = record {
  desk = desk;
  lists = ap (λ (p : Parts). p.ledger.lists) rest;
  point = ap {B = ℕ} (λ (p : Parts). p.ledger.point) rest;
  journal = journal;
  masks = ap (λ (p : Parts). p.masks) rest;
  seen = (emptying was.ledger.point e.roots, e.seen, λ at d there. let m = mapped_at (empty_at was.ledger.point) e.roots at d there in (ap (λ (x : Commit Edit). x.edit) m.2, ap (λ (x : Commit Edit). x.named.chain) m.2));
  free = λ pool. let f = free_rises was.pools after.pools tidied pool in let a = count_free was.pools pool in let b = count_free after.pools pool in omega (arith, f, a, b);
  counted = counted_on was.pools after.pools (now (commits was.ledger)) (now (commits after.ledger)) tidied (same_now (commits was.ledger) (commits after.ledger) journal) counted;
  still = λ has. absurd (lacks has);
  tidied = λ lacks. epochs;
}

-- the reader that is in the way
pub twice_seen : (notes : List Note) (reader pin : ℕ) → IsTwiceIn notes (Pinned reader pin) → (1 ≤ reader) × (slice_index_or notes (reader - 1) Unknown ≡ Seen pin 2) × (pin % 2 ≡ 1)
twice_seen notes reader pin (i, at, seen, odd) = let same : i ≡ reader - 1 = omega (arith, at) in (omega (arith, at), subst (λ (n : ℕ). slice_index_or notes n Unknown ≡ Seen pin 2) same seen, odd)
