-- Cases on the state after a word.
use Rattle.std.proofs.Common.{◌≡◌, ℕ, suc, ◌-◌, ◌⊎◌, Bool, true, false, List, [], ◌∷◌, Option, Some, None, refl, inl, inr, arith}
use Rattle.std.specs.Prelude.{◌==◌, if◌then◌else◌, IsSomeAnd}
use Rattle.std.specs.Str.{bytes_eq}
use Rattle.std.specs.Option.{option_map}
use Rattle.std.proofs.lemmas.Bool.Decides.{nat_tests}
use Rattle.std.proofs.lemmas.Slice.Eq.{bytes_eq-Decides}
use Rattle.filter_state.specs.declared.edit.Edit.{Edit}
use Rattle.tc_batch.specs.States.{State}
use Rattle.tc_batch.specs.Grammar.{Then}
use Rattle.tc_batch.specs.Machine.{on_text}
use Rattle.tc_batch.proofs.Languages.{Language}

-- what one word leaves
abbrev pub Goes : Edit → Option State → List (List ℕ) → Type 0
Goes edit state words = IsSomeAnd state (λ next. Language edit next words)

-- cases on a test
pub choose : (b : Bool) (x y : Option State) (Q : State → Type 0) → (b ≡ true → IsSomeAnd x Q) → (b ≡ false → IsSomeAnd y Q) → IsSomeAnd (if b then x else y) Q
choose true x y Q f g = f refl
choose false x y Q f g = g refl

pub chosen : (b : Bool) (x y : Option State) (Q : State → Type 0) → IsSomeAnd (if b then x else y) Q → ((b ≡ true) × IsSomeAnd x Q) ⊎ ((b ≡ false) × IsSomeAnd y Q)
chosen true x y Q h = inl (refl, h)
chosen false x y Q h = inr (refl, h)

pub only : (b : Bool) (x : Option State) (Q : State → Type 0) → IsSomeAnd (if b then x else None) Q → (b ≡ true) × IsSomeAnd x Q
only true x Q h = (refl, h)
only false x Q h = absurd h

pub other : (b : Bool) (x : Option State) (Q : State → Type 0) → IsSomeAnd (if b then None else x) Q → IsSomeAnd x Q
other true x Q h = absurd h
other false x Q h = h

pub one_less : (n : ℕ) → suc n - 1 ≡ n
one_less n = omega arith

pub not_zero : (n : ℕ) → (suc n == 0) ≡ true → ⊥
not_zero n h = grind (arith, nat_tests)

pub map_to : {A : Type 0} (o : Option A) (f : A → State) (P : A → Type 0) (Q : State → Type 0) → ((a : A) → P a → Q (f a)) → IsSomeAnd o P → IsSomeAnd (option_map f o) Q
map_to None f P Q each h = absurd h
map_to (Some a) f P Q each h = each a h

pub map_from : {A : Type 0} (o : Option A) (f : A → State) (P : A → Type 0) (Q : State → Type 0) → ((a : A) → Q (f a) → P a) → IsSomeAnd (option_map f o) Q → IsSomeAnd o P
map_from None f P Q each h = absurd h
map_from (Some a) f P Q each h = each a h

pub is_text : (word text : List ℕ) → bytes_eq word text ≡ true → word ≡ text
is_text word text h = (bytes_eq-Decides word text).0 h

pub not_nil : {A : Type 0} (word : List ℕ) (words : List (List ℕ)) → word ∷ words ≡ [] → A
not_nil word words h = absurd (cc h)

pub text_to : (edit : Edit) (text : List ℕ) (next : State) (word : List ℕ) (words : List (List ℕ)) → Then text (Language edit next) (word ∷ words) → Goes edit (on_text text next word) words
text_to edit text next word words (is, more) = choose (bytes_eq word text) (Some next) None (λ s. Language edit s words) (λ hit. more) (λ miss. absurd (cc (is, miss)))

pub text_from : (edit : Edit) (text : List ℕ) (next : State) (word : List ℕ) (words : List (List ℕ)) → Goes edit (on_text text next word) words → Then text (Language edit next) (word ∷ words)
text_from edit text next word words h = only (bytes_eq word text) (Some next) (λ s. Language edit s words) h
