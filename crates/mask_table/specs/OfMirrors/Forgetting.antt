-- The blocks of a mask (this project's own).
use Rattle.std.specs.Prelude.{ℕ, List, [], ◌∷◌, ◌++◌, map}
use Rattle.std.specs.List.{range_with_len}
use Rattle.store_history.specs.declared.history.Named.{Named}
use Rattle.block_codec.specs.declared.mask.StoredMask.{StoredMask}
use Rattle.mask_table.specs.Buckets.{bucket_root}

-- the blocks that some roots name, one root's behind the other's
abbrev pub blocks_of : (ℕ → Named) → List ℕ → List ℕ
blocks_of roots [] = []
blocks_of roots (root ∷ more) = map (λ l. l.block) (roots root).chain ++ blocks_of roots more

-- those of so many first buckets of a mask
abbrev pub bucket_blocks : (ℕ → Named) → StoredMask → ℕ → List ℕ
bucket_blocks roots mask count = blocks_of roots (map (bucket_root mask) (range_with_len 0 count))
