-- Names with values, for every kind of names.
use Rattle.std.proofs.Common.{◌≡◌, ◌∙◌, ℕ, Bool, true, false, List, [], ◌∷◌, Option, Some, None, refl, sym, ap, subst, inl, inr}
use Rattle.std.specs.Prelude.{if◌then◌else◌, IsSomeAnd}
use Rattle.filter_state.specs.declared.edit.Edit.{Edit}
use Rattle.tc_batch.specs.States.{State}
use Rattle.tc_batch.specs.Options.{set_once}
use Rattle.tc_batch.specs.Grammar.{Reads, Pairs}
use Rattle.tc_batch.specs.Machine.{on_name}
use Rattle.tc_batch.proofs.Languages.{Language}
use Rattle.tc_batch.proofs.Choices.{Goes, other}

-- names with values, for every kind of names
pub name_to : {S N : Type 0} (edit : Edit) (refuses : S → N → Bool) (takes : S → N → List ℕ → Option S) (sets : S → List ℕ → List ℕ → Option S) (More : S → List (List ℕ) → Type 0) (s : S) (waits : N → State) (other : Option State) (value : List ℕ) (words : List (List ℕ))
    → ((name : N) → IsSomeAnd (takes s name value) (λ next. Pairs sets More next words) → Language edit (waits name) (value ∷ words))
    → (name : Option N) → IsSomeAnd (set_once refuses takes s value name) (λ next. Pairs sets More next words) → Goes edit (on_name (refuses s) waits other name) (value ∷ words)
name_to edit refuses takes sets More s waits other value words each None h = absurd h
name_to {S} {N} edit refuses takes sets More s waits other value words each (Some name) h = given (refuses s name) h
  where
    given : (b : Bool) → IsSomeAnd (if b then None else takes s name value) (λ next. Pairs sets More next words) → Goes edit (if b then None else Some (waits name)) (value ∷ words)
    given true h = absurd h
    given false h = each name h

pub other_to : {N : Type 0} (edit : Edit) (refuses : N → Bool) (waits : N → State) (other : Option State) (words : List (List ℕ)) (name : Option N) → (name ≡ None) × Goes edit other words → Goes edit (on_name refuses waits other name) words
other_to edit refuses waits other words None (is, h) = h
other_to edit refuses waits other words (Some name) (is, h) = absurd (cc is)

pub pairs_to : {S N : Type 0} (edit : Edit) (named : List ℕ → Option N) (refuses : S → N → Bool) (takes : S → N → List ℕ → Option S) (More : S → List (List ℕ) → Type 0) (s : S) (waits : N → State) (other : Option State) (word : List ℕ) (words : List (List ℕ))
    → ((name : N) (more : List (List ℕ)) → Reads (takes s name) (Pairs (λ t n v. set_once refuses takes t v (named n)) More) more → Language edit (waits name) more)
    → (More s (word ∷ words) → (named word ≡ None) × Goes edit other words)
    → Pairs (λ t n v. set_once refuses takes t v (named n)) More s (word ∷ words) → Goes edit (on_name (refuses s) waits other (named word)) words
pairs_to edit named refuses takes More s waits other word [] each ends h = other_to edit (refuses s) waits other [] (named word) (ends h)
pairs_to edit named refuses takes More s waits other word (value ∷ words) each ends (inl h) = other_to edit (refuses s) waits other (value ∷ words) (named word) (ends h)
pairs_to edit named refuses takes More s waits other word (value ∷ words) each ends (inr h) =
    name_to edit refuses takes (λ t n v. set_once refuses takes t v (named n)) More s waits other value words (λ name it. each name (value ∷ words) it) (named word) h

pub pairs_rest : {S : Type 0} (sets : S → List ℕ → List ℕ → Option S) (More : S → List (List ℕ) → Type 0) (s : S) (word : List ℕ) (words : List (List ℕ)) → More s (word ∷ words) → Pairs sets More s (word ∷ words)
pairs_rest sets More s word [] h = h
pairs_rest sets More s word (value ∷ words) h = inl h

pub pairs_value : {S N : Type 0} (named : List ℕ → Option N) (refuses : S → N → Bool) (takes : S → N → List ℕ → Option S) (More : S → List (List ℕ) → Type 0) (s : S) (word : List ℕ) (words : List (List ℕ)) (name : N) → named word ≡ Some name → refuses s name ≡ false
    → Reads (takes s name) (Pairs (λ t n v. set_once refuses takes t v (named n)) More) words → Pairs (λ t n v. set_once refuses takes t v (named n)) More s (word ∷ words)
pairs_value named refuses takes More s word [] name is free h = absurd h
pairs_value {S} {N} named refuses takes More s word (value ∷ words) name is free h =
    let same : set_once refuses takes s value (named word) ≡ takes s name value = ap (set_once refuses takes s value) is ∙ ap (λ (b : Bool). if b then None else takes s name value) free in
    inr (subst (λ (o : Option S). IsSomeAnd o (λ next. Pairs (λ t n v. set_once refuses takes t v (named n)) More next words)) (sym same) h)

pub pairs_from : {S N : Type 0} (edit : Edit) (named : List ℕ → Option N) (refuses : S → N → Bool) (takes : S → N → List ℕ → Option S) (More : S → List (List ℕ) → Type 0) (s : S) (waits : N → State) (other : Option State) (word : List ℕ) (words : List (List ℕ))
    → ((name : N) (more : List (List ℕ)) → Language edit (waits name) more → Reads (takes s name) (Pairs (λ t n v. set_once refuses takes t v (named n)) More) more)
    → (Goes edit other words → More s (word ∷ words))
    → (name : Option N) → named word ≡ name → Goes edit (on_name (refuses s) waits other name) words → Pairs (λ t n v. set_once refuses takes t v (named n)) More s (word ∷ words)
pairs_from edit named refuses takes More s waits other word words each ends None is h = pairs_rest (λ t n v. set_once refuses takes t v (named n)) More s word words (ends h)
pairs_from edit named refuses takes More s waits other word words each ends (Some name) is h = given (refuses s name) refl h
  where
    given : (b : Bool) → refuses s name ≡ b → Goes edit (if b then None else Some (waits name)) words → Pairs (λ t n v. set_once refuses takes t v (named n)) More s (word ∷ words)
    given true free h = absurd h
    given false free h = pairs_value named refuses takes More s word words name is free (each name words h)
