-- A whole tidying.
use Rattle.std.proofs.Common.{◌≡◌, ◌∙◌, inr, ℕ, ◌≤◌, List, [], ◌∷◌, ◌++◌, length, true, refl, ap, sym, subst}
use Rattle.store_history.specs.declared.history.Commit.{Commit}
use Rattle.filter_state.specs.declared.edit.Edit.{Edit}
use Rattle.hook_law.specs.Standing.{IsUnused}
use Rattle.hook_law.proofs.Pushing.{keeps_rises}
use Rattle.hook_store_law.specs.Kept.{IsKeptAt}
use Rattle.hook_store_law.specs.Stated.{hook_meaning}
use Rattle.hook_store_law.specs.Blocks.{hook_codec}
use Rattle.desk_pools.specs.declared.pools.Pools.{Pools}
use Rattle.desk_pools.specs.Pools.{gone_roots, ArePools}
use Rattle.desk_pools.specs.OfTidying.Tidied.{emptying, Empties}
use Rattle.desk_pools.proofs.OfTidying.Freed.{pools_rise, gone_emptied, gone_unused_roots, part_kept}

-- the same commits, and a base that rose
pub raised : (pools : Pools) (h k : List (Commit Edit)) (b c : ℕ) → k ≡ h → b ≤ c → ArePools pools h b → ArePools pools k c
raised pools h k b c same le p = subst (λ (l : List (Commit Edit)). ArePools pools l c) (sym same) (pools_rise pools h b c le p)

pub kept_on : (h k : List (Commit Edit)) (b c point : ℕ) → k ≡ h → b ≤ c → c ≤ length k → IsKeptAt h b point → IsKeptAt k c point
kept_on h k b c point same le low p = subst (λ (l : List (Commit Edit)). IsKeptAt l c point) (sym same) (record {
  low = subst (λ (l : List (Commit Edit)). c ≤ length l) same low;
  keeps = record { law = keeps_rises hook_meaning hook_codec h b c le p.keeps.law; stamps = p.keeps.stamps };
  point_is = p.point_is;
  early = p.early;
})

-- the roots of all that left are emptied, where the base is the end
module _ (old : Pools) (h g : List (Commit Edit)) (b d point : ℕ) (kept : IsKeptAt h b point) (end : b ≡ length h) (p : ArePools old h b)
    (seen : g ≡ h ++ emptying point (gone_roots old)) (base : d ≡ b) where
  pub all_kept : IsKeptAt g d point
  all_kept = part_kept old h b point kept end p (gone_roots old) (gone_unused_roots old h b point kept end p) g d seen base

  pub all_emptied : Empties old h point g
  all_emptied = record {
    roots = gone_roots old;
    which = inr refl;
    unused = λ place root e. subst (λ (n : ℕ). IsUnused hook_meaning hook_codec n h root) end
        (gone_unused_roots old h b point kept end p place root e);
    seen = seen;
  }

  pub all_pools : (new : Pools) → (new.rows.free ≡ old.rows.free ++ old.rows.left) × (new.rows.left ≡ [])
      → (new.masks.free ≡ old.masks.free ++ old.masks.left) × (new.masks.left ≡ [])
      → (new.actions.free ≡ old.actions.free ++ old.actions.left) × (new.actions.left ≡ [])
      → new.blocks ≡ old.blocks → (new.ingress ≡ old.ingress) × (new.egress ≡ old.egress) → ArePools new g d
  all_pools new rows masks actions blocks places = subst (ArePools new g) (sym base) (subst (λ (l : List (Commit Edit)). ArePools new l b) (sym seen)
      (gone_emptied old h b point kept end p new masks actions rows blocks places))
