-- Building begins with none, and at its end the hook may be given its tables.
use Rattle.std.proofs.Common.{◌≡◌, ◌≢◌, inl, ℕ, List, [], ap, subst}
use mathlib.Core.Logic.{dite}
use native.Mathlib.Decide.{ℕ_discrete}
use Rattle.tc_base.specs.declared.hook.Hook.{Hook}
use Rattle.visit_room.specs.declared.names.MaskName.{MaskName}
use Rattle.store_history.specs.declared.history.Commit.{Commit}
use Rattle.pin_store.specs.declared.shape.Shape.{Shape}
use Rattle.filter_state.specs.declared.edit.Edit.{Edit}
use Rattle.hook_store_law.specs.OfEffects.Parts.{Stands}
use Rattle.mask_writer.specs.Masks.{Masks}
use Rattle.miniq_pair.specs.Heads.{hook_number}
use Rattle.hook_law.specs.Records.{StatedTable}
use Rattle.hook_law.specs.Keeping.{IsAtRest}
use Rattle.hook_store_law.specs.Stated.{TableNames, hook_meaning, tables_at}
use Rattle.hook_store_law.specs.Blocks.{hook_codec}
use Rattle.hook_store_law.specs.OfEdits.Premises.{now, next, LeavesOtherHook}
use Rattle.hook_store_law.proofs.OfEdits.Accepted.{sound}
use Rattle.desk_heads.specs.OfHeadCommits.Listed.{HasSerial}
use Rattle.desk_heads.specs.OfHeadCommits.Raised.{IsReady}
use Rattle.desk_heads.specs.OfHeadCommits.Built.{IsBuilt, IsConcerned}
use Rattle.desk_heads.proofs.OfHeadCommits.Places.{one_place}
use Rattle.desk_heads.proofs.OfHeadCommits.Standing.{listed, standing}
use Rattle.desk_masks.specs.Masks.{HasMasks}
use Rattle.desk_heads.specs.Gives.{GivesTables}
use Rattle.desk_heads.specs.OfMoves.Builds.{HoldsBuilt}

none_built : (m s : ℕ) → IsBuilt [] m s → ⊥
none_built m s x = let e = x.there in cc e

pub begins_empty : (masks : Masks) (shape : Shape) (cells : List ℕ) (h : List (Commit Edit)) (b : ℕ) (y : Edit) → HasMasks masks shape cells h → HoldsBuilt masks shape cells h b y []
begins_empty masks shape cells h b y has = record {
  named = has.named;
  has = has.has;
  has_built = λ m s x. absurd (none_built m s x);
  only = λ s kept stands. inl (has.only s kept stands);
  fresh = record {
    prepared = λ m s x. absurd (none_built m s x);
    sized = λ m s x it. absurd (none_built m s x);
    apart = λ m n s t i j row x z it also e f. absurd (none_built m s x);
  };
}

pub done_gives : (masks : Masks) (shape : Shape) (cells : List ℕ) (h : List (Commit Edit)) (b : ℕ) (y : Edit) (hook : Hook) (built : List MaskName) → IsReady h b y → IsAtRest hook_meaning hook_codec h
    → HoldsBuilt masks shape cells h b y built → LeavesOtherHook hook (IsConcerned h y built) (now h) (next h y) → ((m s : ℕ) → IsBuilt built m s → Stands (next h y) m)
    → ((m s : ℕ) → IsBuilt built m s → Stands (now h) m → HasSerial (tables_at (now h) (hook_number hook)) m) → GivesTables h b y hook built
done_gives masks shape cells h b y hook built ready rest has leaves stands before = record {
  ready = ready;
  rest = rest;
  leaves = leaves;
  fresh = has.fresh;
  here = λ m s x. here m s x (listed (next h y) m (stands m s x));
  small = λ m s x. let held = has.has_built m s x in (has.named.masks s held.kept held.stands).small;
}
  where
    here : (m s : ℕ) → IsBuilt built m s → (k : Hook) × HasSerial (tables_at (next h y) (hook_number k)) m → HasSerial (tables_at (next h y) (hook_number hook)) m
    here m s x f = dite (ℕ_discrete (hook_number f.0) (hook_number hook))
        (λ (same : hook_number f.0 ≡ hook_number hook). subst (λ (n : ℕ). HasSerial (tables_at (next h y) n) m) same f.1)
        (λ (ne : hook_number f.0 ≢ hook_number hook). let sound_now = sound h b y ready.state ready.done ready.accepted in
        let there = subst (λ (ts : List (StatedTable TableNames)). HasSerial ts m) (leaves.heads (hook_number f.0) ne) f.1 in
        let one = one_place (now h) sound_now f.0 hook m there (before m s x (standing (now h) f.0 m sound_now there)) in absurd (ne (ap hook_number one.0)))
