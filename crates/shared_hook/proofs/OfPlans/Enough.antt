-- What is free is enough for each part of an edit, and no more is taken than is needed.
use Rattle.std.proofs.Common.{◌≡◌, ◌∙◌, inl, inr, ℕ, ◌+◌, ◌≤◌, Bool, true, false, [], ◌∷◌, ◌++◌, length, Option, Some, Ok, refl, sym, ap, subst, arith}
use Rattle.std.specs.Prelude.{if◌then◌else◌}
use Rattle.tc_base.specs.declared.hook.Hook.{Hook}
use Rattle.tc_base.specs.declared.hook.Hook.TheVariants.{Ingress, Egress}
use Rattle.store_history.specs.History.{edits_of}
use Rattle.pin_store.specs.declared.view.Sheet.{Sheet}
use Rattle.pin_store.specs.Sheets.{IsSameButCells}
use Rattle.pin_store.specs.Calls.{sheet_of}
use Rattle.filter_state.specs.declared.edit.Edit.{Edit}
use Rattle.filter_state.specs.declared.edit.FilterLine.{FilterLine}
use Rattle.filter_state.specs.declared.refusal.Done.{Done}
use Rattle.filter_state.specs.States.{State}
use Rattle.filter_state.specs.Steps.{step}
use Rattle.filter_lists.specs.Ready.{Ready}
use Rattle.hook_store_law.specs.OfEdits.Premises.{now, next, IsAddOf}
use Rattle.desk_needs.specs.declared.pool.Pool.{Pool}
use Rattle.desk_needs.specs.declared.pool.Pool.TheVariants as pools
use Rattle.desk_needs.specs.declared.needs.Needs.{Needs}
use Rattle.desk_needs.specs.Needs.{needs_of, needed_of, head_needed}
use Rattle.desk_pools.specs.declared.pools.Pools.{Pools}
use Rattle.desk_pools.specs.declared.pools.IdlePlace.{IdlePlace}
use Rattle.desk_pools.specs.Steps.{turned}
use Rattle.desk_actions.specs.OfLedgers.Kept.{commits}
use Rattle.desk_parts.specs.declared.parts.Parts.{Parts}
use Rattle.desk_parts.specs.Desk.{IsDesk}
use Rattle.desk_heads.specs.Handed.{idle_of}
use Rattle.desk_parts.specs.declared.ways.way.Way.{Way}
use Rattle.desk_parts.proofs.OfWays.Needed.{ways_need}
use Rattle.shared_hook.specs.OfDeskEdits.Spent.{needed, HaveFree}
use Rattle.shared_hook.proofs.OfDeskEdits.Desked.{now_is_next}
use Rattle.shared_hook.specs.OfBalance.Counts.{free_place, free_of, AreCounted}
use Rattle.shared_hook.specs.OfPlans.Done.{Suffices, IsDone}
use Rattle.shared_hook.specs.declared.plans.means.Means.{Means}
use Rattle.shared_hook.specs.OfPlans.Plans.{IsOfLine, MayEdit}

pub of_add : (s : State) (line : FilterLine) (y : Edit) → IsAddOf s line y → IsOfLine line y
of_add s line y (inl is) = inl is
of_add s line y (inr both) = inr both.0

-- ---- enough
pub have_free : (parts : Parts) (y : Edit) (n : Needs) → Suffices parts y → needs_of (now (commits parts.ledger)) y ≡ n → HaveFree parts.pools n
have_free parts y n enough is = (
  subst (λ (m : Needs). m.blocks ≤ length parts.pools.blocks.free) is (enough pools.Blocks),
  subst (λ (m : Needs). m.rows ≤ length parts.pools.rows.free) is (enough pools.Rows),
  subst (λ (m : Needs). m.actions ≤ length parts.pools.actions.free) is (enough pools.ActionRoots),
)

pub masks_free : (parts : Parts) (y : Edit) (n : Needs) → Suffices parts y → needs_of (now (commits parts.ledger)) y ≡ n → n.masks ≤ length parts.pools.masks.free
masks_free parts y n enough is = subst (λ (m : Needs). m.masks ≤ length parts.pools.masks.free) is (enough pools.MaskRoots)

place_free : (b : Bool) → 1 ≤ (if b then 1 else 0) → b ≡ true
place_free true low = refl
place_free false low = absurd (omega (arith, low))

pub head_free : (parts : Parts) (y : Edit) (n : Needs) (hook : Hook) → Suffices parts y → needs_of (now (commits parts.ledger)) y ≡ n → n.head ≡ Some hook → (idle_of hook parts.pools).is_free ≡ true
head_free parts y n Ingress enough is head = place_free parts.pools.ingress.is_free
    (subst (λ (o : Option Hook). head_needed o Ingress ≤ free_place parts.pools.ingress) (ap (λ (m : Needs). m.head) is ∙ head) (enough (pools.Head Ingress)))
head_free parts y n Egress enough is head = place_free parts.pools.egress.is_free
    (subst (λ (o : Option Hook). head_needed o Egress ≤ free_place parts.pools.egress) (ap (λ (m : Needs). m.head) is ∙ head) (enough (pools.Head Egress)))

-- the ways say what is needed
pub way_needs : (parts : Parts) (y : Edit) (prepared : Ready) (way : Way) (means : Means) → MayEdit parts y prepared way means
    → needs_of (now (commits parts.ledger)) y ≡ needed (commits parts.ledger) y way
way_needs parts y prepared way means may = ways_need _ _ _ _ _ may.ready.accepted way may.planned.is

-- ---- no more is taken
pub record IsLowered (old new : Pools) (n : Needs) : Type 0 where
  pub blocks : length old.blocks.free ≤ length new.blocks.free + n.blocks
  pub rows : length old.rows.free ≤ length new.rows.free + n.rows
  pub masks : length old.masks.free ≤ length new.masks.free + n.masks
  pub actions : length old.actions.free ≤ length new.actions.free + n.actions
  pub ingress : free_place old.ingress ≤ free_place new.ingress + head_needed n.head Ingress
  pub egress : free_place old.egress ≤ free_place new.egress + head_needed n.head Egress

lowered_of : (old new : Pools) (s : State) (y : Edit) → IsLowered old new (needs_of s y) → (pool : Pool) → free_of old pool ≤ free_of new pool + needed_of s y pool
lowered_of old new s y l pools.Blocks = l.blocks
lowered_of old new s y l pools.Rows = l.rows
lowered_of old new s y l pools.MaskRoots = l.masks
lowered_of old new s y l pools.ActionRoots = l.actions
lowered_of old new s y l (pools.Head Ingress) = l.ingress
lowered_of old new s y l (pools.Head Egress) = l.egress

place_low : (b : Bool) (n : ℕ) → (if b then 1 else 0) ≤ n + 1
place_low true n = omega arith
place_low false n = omega arith

same_low : (old new : IdlePlace) (n : ℕ) → new ≡ old → free_place old ≤ free_place new + n
same_low old new n same = let is = ap free_place same in omega (arith, is)

-- the hook's idle place is taken
pub turned_low : (hook : Hook) (old new : Pools) → new.ingress ≡ (turned hook old).ingress → new.egress ≡ (turned hook old).egress
    → (free_place old.ingress ≤ free_place new.ingress + head_needed (Some hook) Ingress) × (free_place old.egress ≤ free_place new.egress + head_needed (Some hook) Egress)
turned_low Ingress old new ingress egress = (place_low old.ingress.is_free (free_place new.ingress), same_low old.egress new.egress _ egress)
turned_low Egress old new ingress egress = (same_low old.ingress new.ingress _ ingress, place_low old.egress.is_free (free_place new.egress))

pub unturned_low : (old new : Pools) (n : Needs) → new.ingress ≡ old.ingress → new.egress ≡ old.egress
    → (free_place old.ingress ≤ free_place new.ingress + head_needed n.head Ingress) × (free_place old.egress ≤ free_place new.egress + head_needed n.head Egress)
unturned_low old new n ingress egress = (same_low old.ingress new.ingress _ ingress, same_low old.egress new.egress _ egress)

-- ---- all together
pub all_done : (old new : Parts) (y : Edit) (done : Done) (n : Needs) → IsDesk new → new.ledger.point ≡ old.ledger.point + 1
    → edits_of (commits new.ledger) ≡ edits_of (commits old.ledger) ++ y ∷ [] → step (now (commits old.ledger)) y ≡ Ok (next (commits old.ledger) y, done)
    → IsSameButCells (sheet_of old.ledger.writer.place) (sheet_of new.ledger.writer.place) → needs_of (now (commits old.ledger)) y ≡ n → IsLowered old.pools new.pools n
    → (AreCounted old.pools (now (commits old.ledger)) → AreCounted new.pools (next (commits old.ledger) y)) → IsDone old new y done
all_done old new y done n desk point journal steps sheet is low counts = record {
  desk = desk;
  point = point;
  journal = journal;
  steps = steps;
  sheet = sheet;
  lowered = lowered_of old.pools new.pools (now (commits old.ledger)) y (subst (IsLowered old.pools new.pools) (sym is) low);
  counted = λ before. subst (AreCounted new.pools) (sym (now_is_next (commits old.ledger) (commits new.ledger) y journal)) (counts before);
}

pub same_sheet : (old new : Sheet) → new ≡ old → IsSameButCells old new
same_sheet old new same = subst (λ (s : Sheet). IsSameButCells s new) same (record { epoch = refl; starts = refl; quiet = refl; notes = refl; made = refl })
