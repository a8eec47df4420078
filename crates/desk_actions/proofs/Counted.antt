-- Numbers that are taken from a pool and that leave, counted; and blocks that stay as they are written.
use Rattle.std.proofs.Common.{◌≡◌, ◌≢◌, ◌∙◌, ℕ, ◌+◌, ◌<◌, ◌≤◌, List, [], ◌∷◌, ◌++◌, length, ap, subst, arith, length-append}
use Rattle.store_history.specs.declared.history.Commit.{Commit}
use Rattle.pin_store.specs.declared.shape.Shape.{Shape}
use Rattle.pin_store.specs.declared.view.Sheet.{Sheet}
use Rattle.pin_store.specs.Layout.{block_words}
use Rattle.pin_store.specs.Calls.{IsUnnamed}
use Rattle.filter_state.specs.declared.edit.Edit.{Edit}
use Rattle.desk_pools.specs.OfNumbers.Numbers.{PoolNumbers}
use Rattle.root_pool_laws.specs.Blocks.{HasBlock}
use Rattle.root_pool_laws.proofs.Blocks.{unnamed_end}
use Rattle.desk_actions.specs.Effects.{IsCounted, KeepsBlocks}

pub took : (old now : PoolNumbers) (x : ℕ) → old.free ≡ now.free ++ x ∷ [] → now.left ≡ old.left → now.size ≡ old.size → IsCounted old now 1 0
took old now x free left size = record { free = ap length free ∙ length-append now.free (x ∷ []); left = (let same = ap length left in omega (arith, same)); size = size }

pub gave : (old now : PoolNumbers) (x : ℕ) → now.free ≡ old.free → now.left ≡ old.left ++ x ∷ [] → now.size ≡ old.size → IsCounted old now 0 1
gave old now x free left size = record { free = (let same = ap length free in omega (arith, same)); left = ap length left ∙ length-append old.left (x ∷ []); size = size }

pub counted_then : (one two three : PoolNumbers) (taken leaving more going : ℕ) → IsCounted one two taken leaving → IsCounted two three more going → IsCounted one three (taken + more) (leaving + going)
counted_then one two three taken leaving more going a b = record {
  free = (let x = a.free in let y = b.free in omega (arith, x, y));
  left = (let x = a.left in let y = b.left in omega (arith, x, y));
  size = b.size ∙ a.size;
}

pub counted_none : (old now : PoolNumbers) → now ≡ old → IsCounted old now 0 0
counted_none old now same = record {
  free = (let e = ap (λ (p : PoolNumbers). length p.free) same in omega (arith, e));
  left = (let e = ap (λ (p : PoolNumbers). length p.left) same in omega (arith, e));
  size = ap (λ (p : PoolNumbers). p.size) same;
}

-- a block that was filled is in what no root names
pub blocks_kept : (shape : Shape) (h : List (Commit Edit)) (b at : ℕ) (old now : Sheet) → b ≤ length h → IsUnnamed b h at
    → ((other : ℕ) → other ≢ at → other < shape.blocks → block_words shape now.cells other ≡ block_words shape old.cells other) → KeepsBlocks shape h old now
blocks_kept shape h b at old now low free others root block has less = others block (λ same. unnamed_end h b at low free root (subst (HasBlock h root) same has)) less
