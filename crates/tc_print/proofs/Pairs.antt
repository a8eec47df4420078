-- Words of the grammar one after the other.
use Rattle.std.proofs.Common.{◌≡◌, ◌∙◌, ℕ, Bool, false, List, [], ◌∷◌, ◌++◌, append_assoc, Option, Some, None, sym, ap, subst, inl, inr}
use Rattle.std.specs.Prelude.{if◌then◌else◌, IsSomeAnd}
use Rattle.tc_batch.specs.Options.{set_once}
use Rattle.tc_batch.specs.Grammar.{Reads, Pairs}

-- a word that is read, and what follows it
pub reads_is : {A : Type 0} (says : List ℕ → Option A) (More : A → List (List ℕ) → Type 0) (word : List ℕ) (words : List (List ℕ)) (it : A)
    → says word ≡ Some it → More it words → Reads says More (word ∷ words)
reads_is {A} says More word words it is more = subst (λ (o : Option A). IsSomeAnd o (λ a. More a words)) (sym is) more

-- what stands behind the last pair
pub pairs_end : {S : Type 0} (sets : S → List ℕ → List ℕ → Option S) (More : S → List (List ℕ) → Type 0) (s : S) (words : List (List ℕ))
    → More s words → Pairs sets More s words
pairs_end sets More s [] more = more
pairs_end sets More s (word ∷ []) more = more
pairs_end sets More s (name ∷ value ∷ words) more = inl more

-- a pair whose name may stand and whose value is read
pub pair_is : {S N : Type 0} (named : List ℕ → Option N) (refuses : S → N → Bool) (takes : S → N → List ℕ → Option S) (More : S → List (List ℕ) → Type 0)
    (s : S) (word value : List ℕ) (words : List (List ℕ)) (name : N) (next : S)
    → named word ≡ Some name → refuses s name ≡ false → takes s name value ≡ Some next
    → Pairs (λ t n v. set_once refuses takes t v (named n)) More next words → Pairs (λ t n v. set_once refuses takes t v (named n)) More s (word ∷ value ∷ words)
pair_is {S} named refuses takes More s word value words name next is free taken more =
    let set : set_once refuses takes s value (named word) ≡ Some next =
    ap (set_once refuses takes s value) is ∙ ap (λ (b : Bool). if b then None else takes s name value) free ∙ taken in
    inr (subst (λ (o : Option S). IsSomeAnd o (λ t. Pairs (λ t n v. set_once refuses takes t v (named n)) More t words)) (sym set) more)

-- a rule of two joined lists and what follows is one of the first list and the rest
pub joined_is : (P : List (List ℕ) → Type 0) (a b rest : List (List ℕ)) → P (a ++ (b ++ rest)) → P ((a ++ b) ++ rest)
joined_is P a b rest h = subst P (sym (append_assoc a b rest)) h
