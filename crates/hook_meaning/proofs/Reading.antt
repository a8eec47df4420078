-- Blocks that are read, and then mapped.
use Rattle.std.proofs.Common.{◌≡◌, ℕ, List, [], ◌∷◌, map, Option, Some, None, refl, ap, sym, ◌∙◌}
use Rattle.std.specs.Option.{option_map}
use Rattle.store_history.specs.declared.history.Link.{Link}
use Rattle.store_history.specs.Reads.{in_front, read_all, read_first}

pub some_of : {A B : Type 0} (f : A → B) (o : Option A) (y : B) → option_map f o ≡ Some y → (x : A) × (o ≡ Some x) × (f x ≡ y)
some_of f None y e = absurd (cc e)
some_of f (Some x) y e = (x, refl, cc e)

module _ {A B : Type 0} (f : A → B) (read : List ℕ → Option A) where
  abbrev pub mapped : List ℕ → Option B
  mapped words = option_map f (read words)

  pub first_mapped : (chain : List Link) (y : B) → read_first mapped chain ≡ Some y → (x : A) × (read_first read chain ≡ Some x) × (f x ≡ y)
  first_mapped [] y e = absurd (cc e)
  first_mapped (l ∷ ls) y e = some_of f (read l.words) y e

  pub first_maps : (chain : List Link) (x : A) → read_first read chain ≡ Some x → read_first mapped chain ≡ Some (f x)
  first_maps [] x e = absurd (cc e)
  first_maps (l ∷ ls) x e = ap (option_map f) e

  in_front_maps : (o : Option A) (os : Option (List A)) → in_front (option_map f o) (option_map (map f) os) ≡ option_map (map f) (in_front o os)
  in_front_maps (Some x) (Some xs) = refl
  in_front_maps (Some x) None = refl
  in_front_maps None os = refl

  all_maps : (chain : List Link) → read_all mapped chain ≡ option_map (map f) (read_all read chain)
  all_maps [] = refl
  all_maps (l ∷ ls) = ap (in_front (option_map f (read l.words))) (all_maps ls) ∙ in_front_maps (read l.words) (read_all read ls)

  pub all_mapped : (chain : List Link) (ys : List B) → read_all mapped chain ≡ Some ys → (xs : List A) × (read_all read chain ≡ Some xs) × (map f xs ≡ ys)
  all_mapped chain ys e = some_of (map f) (read_all read chain) ys (sym (all_maps chain) ∙ e)
