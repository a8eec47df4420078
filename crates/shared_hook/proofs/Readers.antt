-- Readers are taken out of one list and put into another, one by one.
use Rattle.std.proofs.Common.{◌≡◌, ◌∙◌, List, [], ◌∷◌, ◌++◌, map, sym, ap, append_assoc}
use Rattle.std.proofs.lemmas.List.{map-append}

pub values_go_over : {A B S : Type 0} (f : A → S) (g : B → S) (moved : List A) (x : A) (y : B) (rest before : List B) (whole : List S)
    → before ≡ y ∷ rest → f x ≡ g y → map f moved ++ map g before ≡ whole → map f (moved ++ x ∷ []) ++ map g rest ≡ whole
values_go_over {A} {B} {S} f g moved x y rest before whole taken same there = ap (λ (l : List S). l ++ map g rest) (map-append f moved (x ∷ [])) ∙ append_assoc (map f moved) (f x ∷ []) (map g rest)
    ∙ ap (λ (s : S). map f moved ++ s ∷ map g rest) same ∙ sym (ap (λ (l : List B). map f moved ++ map g l) taken) ∙ there
