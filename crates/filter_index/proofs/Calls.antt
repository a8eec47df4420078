-- What an index answered, in the words of the filters that a caller sees.
use Rattle.std.proofs.Common.{◌≡◌, ℕ, Bool, true, List, [], ◌∷◌, ◌++◌, append_assoc, Option, Some, None, get_or, sym, ap, ◌∙◌}
use Rattle.std.specs.Prelude.{find, is_some, option_map, IsSome}
use Rattle.std.specs.List.{list_any}
use Rattle.std.proofs.lemmas.Bool.{false≢true}
use Rattle.filter_index.specs.declared.filter.Filter.{Filter}
use Rattle.filter_index.specs.Listed.{those_there}
use Rattle.filter_index.specs.Places.{place_of}
use Rattle.filter_index.proofs.Cuts.{Cut, cut, cut_read, none_found}
use Rattle.filter_index.proofs.Slots.{place_any}

-- what the answer of an index is for a search through the list
module _ {X : Type 0} (test : X → Bool) (slots : List (Option X)) (now : List X) (list : those_there slots ≡ now) where
  pub not_found : (got : Option ℕ) → got ≡ place_of test slots → got ≡ None → None ≡ find test now
  not_found got is none = sym (none_found test slots (sym is ∙ none)) ∙ ap (find test) list

  pub found_there : (at : ℕ) (slot : Option X) → Some at ≡ place_of test slots → slot ≡ get_or slots at slot → slot ≡ find test now
  found_there at slot is read =
      let c = cut test slots at (sym is) in
      read ∙ cut_read test slots at slot c ∙ sym c.found ∙ ap (find test) list

  pub never_none : (got : Option ℕ) → got ≡ place_of test slots → list_any test now ≡ true → got ≡ None → ⊥
  never_none got is any none = false≢true (ap is_some (sym none ∙ is) ∙ place_any test slots ∙ ap (list_any test) list ∙ any)

-- the slot at a place that was found
pub value_there : {X : Type 0} (test : X → Bool) (slots : List (Option X)) (at : ℕ) (slot : Option X) (c : Cut test slots at) → slot ≡ get_or slots at slot → slot ≡ Some c.value
value_there test slots at slot c read = read ∙ cut_read test slots at slot c

pub some_there : {X : Type 0} (slot : Option X) (x : X) → slot ≡ Some x → IsSome slot
some_there slot x e = ap is_some e

-- a slot whose filter was given other actions
pub changed_there : (slot now : Option Filter) (f : Filter) (actions : List ℕ) → now ≡ option_map {T = Filter} (λ g. record g { actions = actions }) slot → slot ≡ Some f →
    now ≡ Some (record f { actions = actions })
changed_there slot now f actions now_is is = now_is ∙ ap (λ (o : Option Filter). option_map {T = Filter} (λ g. record g { actions = actions }) o) is

-- filters of which the next is moved behind those that were
pub next_moved : (moved : List Filter) (slot : Option Filter) (f : Filter) (items rest : List (Option Filter)) (whole : List Filter) → items ≡ slot ∷ rest → slot ≡ Some f →
    moved ++ those_there items ≡ whole → moved ++ f ∷ those_there rest ≡ whole
next_moved moved slot f items rest whole next is all = sym (ap (λ xs. moved ++ those_there xs) (next ∙ ap (λ s. s ∷ rest) is)) ∙ all

-- a filter that was pushed behind those that were is the next
pub pushed_next : (moved new rest : List Filter) (f : Filter) (whole : List Filter) → new ≡ moved ++ f ∷ [] → moved ++ f ∷ rest ≡ whole → new ++ rest ≡ whole
pushed_next moved new rest f whole is all = ap (λ fs. fs ++ rest) is ∙ append_assoc moved (f ∷ []) rest ∙ all

-- an empty slot moves nothing
pub none_moved : (moved : List Filter) (slot : Option Filter) (items rest : List (Option Filter)) (whole : List Filter) → items ≡ slot ∷ rest → slot ≡ None →
    moved ++ those_there items ≡ whole → moved ++ those_there rest ≡ whole
none_moved moved slot items rest whole next is all = sym (ap (λ xs. moved ++ those_there xs) (next ∙ ap (λ s. s ∷ rest) is)) ∙ all
