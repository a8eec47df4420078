-- What stands behind the words that a rule of the grammar takes, and what stays true of what is set.
use Rattle.std.proofs.Common.{◌≡◌, ℕ, Bool, true, false, List, [], ◌∷◌, Option, Some, None, refl, subst, inl, inr}
use Rattle.std.specs.Prelude.{IsSomeAnd, IfSome, if◌then◌else◌}
use Rattle.std.specs.Option.{option_map}
use Rattle.tc_batch.specs.Options.{set_once}
use Rattle.tc_batch.specs.Grammar.{Then, Reads, Pairs}

-- the value of an option, and what is known of it
pub some_and : {A : Type 0} (o : Option A) (P : A → Type 0) (R : Type 0) → ((a : A) → o ≡ Some a → P a → R) → IsSomeAnd o P → R
some_and None P R each h = absurd h
some_and (Some a) P R each h = each a refl h

pub known : {A : Type 0} (o : Option A) (P : A → Type 0) (a : A) → IfSome o P → o ≡ Some a → P a
known None P a h e = absurd (cc e)
known (Some b) P a h e = let same : b ≡ a = cc in subst P same h

-- a value that was made from another
pub mapped : {A B : Type 0} (f : A → B) (o : Option A) (P : B → Type 0) → ((a : A) → o ≡ Some a → P (f a)) → (b : B) → option_map f o ≡ Some b → P b
mapped f None P each b e = absurd (cc e)
mapped f (Some a) P each b e =
    let same : f a ≡ b = cc in
    subst P same (each a refl)

-- a word that says something, and one word
pub reads : {A : Type 0} (says : List ℕ → Option A) (More : A → List (List ℕ) → Type 0) (R : Type 0) (words : List (List ℕ)) → ((word : List ℕ) (it : A) (rest : List (List ℕ)) → says word ≡ Some it → More it rest → R) → Reads says More words → R
reads says More R [] each h = absurd h
reads says More R (word ∷ words) each h = some_and (says word) (λ it. More it words) R (λ it is more. each word it words is more) h

pub follows : (text : List ℕ) (More : List (List ℕ) → Type 0) (R : Type 0) (words : List (List ℕ)) → ((rest : List (List ℕ)) → More rest → R) → Then text More words → R
follows text More R [] each h = absurd h
follows text More R (word ∷ words) each (is, h) = each words h

-- a name with its value
pub set_keeps : {S N : Type 0} (refuses : S → N → Bool) (takes : S → N → List ℕ → Option S) (P : S → Type 0)
    → ((s : S) (name : N) (value : List ℕ) (next : S) → P s → refuses s name ≡ false → takes s name value ≡ Some next → P next)
    → (s : S) (value : List ℕ) (name : Option N) (next : S) → P s → set_once refuses takes s value name ≡ Some next → P next
set_keeps refuses takes P each s value None next p e = absurd (cc e)
set_keeps {S} refuses takes P each s value (Some name) next p e = at (refuses s name) refl e
  where
    at : (b : Bool) → refuses s name ≡ b → ◌≡◌ {A = Option S} (if b then None else takes s name value) (Some next) → P next
    at true is taken = absurd (cc taken)
    at false is taken = each s name value next p is taken

-- names with their values
pub pairs : {S : Type 0} (sets : S → List ℕ → List ℕ → Option S) (More : S → List (List ℕ) → Type 0) (P : S → Type 0) (R : Type 0) → ((s : S) (name value : List ℕ) (next : S) → P s → sets s name value ≡ Some next → P next)
    → ((s : S) (words : List (List ℕ)) → P s → More s words → R) → (s : S) (words : List (List ℕ)) → P s → Pairs sets More s words → R
pairs sets More P R keeps ends s [] p h = ends s [] p h
pairs sets More P R keeps ends s (word ∷ []) p h = ends s (word ∷ []) p h
pairs sets More P R keeps ends s (name ∷ value ∷ words) p (inl h) = ends s (name ∷ value ∷ words) p h
pairs sets More P R keeps ends s (name ∷ value ∷ words) p (inr h) =
    some_and (sets s name value) (λ next. Pairs sets More next words) R (λ next is more. pairs sets More P R keeps ends next words (keeps s name value next p is) more) h
