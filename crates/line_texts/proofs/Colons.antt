-- Between groups that are joined by colons no two colons stand side by side.
use Rattle.std.proofs.Common.{◌≡◌, ℕ, Bool, true, false, List, [], ◌∷◌, ◌++◌, length, drop, append-nil, None, refl, subst}
use Rattle.std.specs.Prelude.{◌&&◌, ◌==◌, not}
use Rattle.std.specs.List.{list_all, zip, join_with_byte}
use Rattle.tc_words.specs.Ipv6Addresses.{are_colons, gap_place}
use Rattle.line_texts.proofs.Joins.{and-left, and-right, and-both, not-true, avoids, no-position}

-- no byte is a colon that stands in front of another
abbrev apart : List ℕ → Bool
apart text = list_all (λ pair. not (are_colons pair)) (zip text (drop 1 text))

-- one byte or more, and no colon
abbrev pub is_group : List ℕ → Bool
is_group part = not (length part == 0) && avoids (λ b. b == 58) part

abbrev begins_plain : List ℕ → Bool
begins_plain [] = true
begins_plain (b ∷ text) = not (b == 58)

not-both : (a b : Bool) → a ≡ false → not (a && b) ≡ true
not-both true b h = absurd (cc h)
not-both false b h = refl

apart-plain : (b : ℕ) (text : List ℕ) → not (b == 58) ≡ true → apart text ≡ true → apart (b ∷ text) ≡ true
apart-plain b [] plain h = refl
apart-plain b (c ∷ text) plain h = and-both (not (b == 58 && c == 58)) (apart (c ∷ text)) (not-both (b == 58) (c == 58) (not-true (b == 58) plain)) h

apart-colon : (text : List ℕ) → begins_plain text ≡ true → apart text ≡ true → apart (58 ∷ text) ≡ true
apart-colon [] plain h = refl
apart-colon (c ∷ text) plain h = and-both (not (c == 58)) (apart (c ∷ text)) plain h

apart-group : (group rest : List ℕ) → avoids (λ b. b == 58) group ≡ true → apart rest ≡ true → apart (group ++ rest) ≡ true
apart-group [] rest plain h = h
apart-group (b ∷ group) rest plain h =
    apart-plain b (group ++ rest) (and-left (not (b == 58)) (avoids (λ c. c == 58) group) plain) (apart-group group rest (and-right (not (b == 58)) (avoids (λ c. c == 58) group) plain) h)

begins-joined : (group : List ℕ) (groups : List (List ℕ)) → is_group group ≡ true → begins_plain (join_with_byte 58 (group ∷ groups)) ≡ true
begins-joined [] groups h = absurd (cc h)
begins-joined (b ∷ group) [] h = and-left (not (b == 58)) (avoids (λ c. c == 58) group) (and-right (not (length (b ∷ group) == 0)) (avoids (λ c. c == 58) (b ∷ group)) h)
begins-joined (b ∷ group) (next ∷ groups) h = and-left (not (b == 58)) (avoids (λ c. c == 58) group) (and-right (not (length (b ∷ group) == 0)) (avoids (λ c. c == 58) (b ∷ group)) h)

group-avoids : (group : List ℕ) → is_group group ≡ true → avoids (λ b. b == 58) group ≡ true
group-avoids group h = and-right (not (length group == 0)) (avoids (λ b. b == 58) group) h

apart-joined : (group : List ℕ) (groups : List (List ℕ)) → list_all is_group (group ∷ groups) ≡ true → apart (join_with_byte 58 (group ∷ groups)) ≡ true
apart-joined group [] h = subst (λ text. apart text ≡ true) (append-nil group) (apart-group group [] (group-avoids group (and-left (is_group group) true h)) refl)
apart-joined group (next ∷ groups) h =
    let rest = and-right (is_group group) (list_all is_group (next ∷ groups)) h in
    apart-group group (58 ∷ join_with_byte 58 (next ∷ groups)) (group-avoids group (and-left (is_group group) (list_all is_group (next ∷ groups)) h))
    (apart-colon (join_with_byte 58 (next ∷ groups)) (begins-joined next groups (and-left (is_group next) (list_all is_group groups) rest)) (apart-joined next groups rest))

pub no-gap : (group : List ℕ) (groups : List (List ℕ)) → list_all is_group (group ∷ groups) ≡ true → gap_place (join_with_byte 58 (group ∷ groups)) ≡ None
no-gap group groups h = no-position are_colons (zip (join_with_byte 58 (group ∷ groups)) (drop 1 (join_with_byte 58 (group ∷ groups)))) (apart-joined group groups h)
