-- Texts that grow line by line.
use Rattle.std.proofs.Common.{◌≡◌, ◌∙◌, ℕ, zero, suc, ◌+◌, ◌<◌, ◌≤◌, Bool, false, List, [], ◌∷◌, ◌++◌, length, take, get_or, append-nil, append_assoc, length-append, refl, sym, ap, arith}
use Rattle.std.specs.Prelude.{◌==◌, fold, map, if◌then◌else◌}
use Rattle.std.specs.List.{join_with_byte, flat_map}
use Rattle.std.proofs.lemmas.Bool.Decides.{nat_tests}
use Rattle.std.proofs.lemmas.Grind.{flat_map-append}
use Rattle.tc_print.specs.Texts.{onto}
use Rattle.tc_print.proofs.Grown.{onto_append}
use Rattle.tc_report.specs.Show.{text_line}

-- a text with words behind it, once it isn't empty
onto_some : (text : List ℕ) (words : List (List ℕ)) → 0 < length text → fold onto text words ≡ join_with_byte 32 (text ∷ words)
onto_some text [] some = refl
onto_some text (word ∷ words) some =
    let filled : (length text == 0) ≡ false = grind (arith, nat_tests, some) in
    let grown : onto text word ≡ text ++ (32 ∷ word) =
    ap (λ (b : Bool). (if b then text else text ++ (32 ∷ [])) ++ word) filled ∙ append_assoc text (32 ∷ []) word in
    ap (λ (t : List ℕ). fold onto t words) grown ∙ onto_some (text ++ (32 ∷ word)) words (simp length-append (omega arith)) ∙ one words
  where
    one : (rest : List (List ℕ)) → join_with_byte 32 ((text ++ (32 ∷ word)) ∷ rest) ≡ text ++ (32 ∷ join_with_byte 32 (word ∷ rest))
    one [] = refl
    one (next ∷ rest) = append_assoc text (32 ∷ word) (32 ∷ join_with_byte 32 (next ∷ rest))

-- the first word isn't empty
abbrev pub StartsWithWord : List (List ℕ) → Type 0
StartsWithWord [] = ⊥
StartsWithWord (word ∷ words) = 0 < length word

-- a line that was empty, with words
words_joined : (words : List (List ℕ)) → StartsWithWord words → fold onto [] words ≡ join_with_byte 32 words
words_joined [] some = refl
words_joined (word ∷ words) some = onto_some word words some

pub line_done : (old text line new : List ℕ) (words : List (List ℕ)) → StartsWithWord words → line ≡ [] → new ≡ fold onto line words →
    text ≡ old ++ (new ++ (10 ∷ [])) → text ≡ old ++ text_line words
line_done old text line new words some empty grown done =
    done ∙ ap (λ (t : List ℕ). old ++ (t ++ (10 ∷ []))) (grown ∙ ap (λ (t : List ℕ). fold onto t words) empty ∙ words_joined words some)

-- ---- one element more
take_more : {X : Type 0} (xs : List X) (k : ℕ) (d : X) → k < length xs → take (k + 1) xs ≡ take k xs ++ (get_or xs k d ∷ [])
take_more [] k d within = absurd (omega arith)
take_more (x ∷ xs) zero d within = refl
take_more (x ∷ xs) (suc k) d within =
    let next : suc k + 1 ≡ suc (k + 1) = omega arith in
    ap (λ n. take n (x ∷ xs)) next ∙ ap (λ ys. x ∷ ys) (take_more xs k d (omega arith))

pub flat_more : {X A : Type 0} (f : X → List A) (xs : List X) (k : ℕ) (d : X) → k < length xs → flat_map f (take (k + 1) xs) ≡ flat_map f (take k xs) ++ f (get_or xs k d)
flat_more f xs k d within =
    ap (flat_map f) (take_more xs k d within) ∙ flat_map-append f (take k xs) (get_or xs k d ∷ []) ∙ ap (λ ys. flat_map f (take k xs) ++ ys) (append-nil (f (get_or xs k d)))

pub text_more : {X : Type 0} (f : X → List ℕ) (old before after : List ℕ) (xs : List X) (k : ℕ) (x : X) → k < length xs →
    before ≡ old ++ flat_map f (take k xs) → after ≡ before ++ f (get_or xs k x) → after ≡ old ++ flat_map f (take (k + 1) xs)
text_more f old before after xs k x within first last =
    last ∙ ap (λ (t : List ℕ). t ++ f (get_or xs k x)) first ∙ append_assoc old (flat_map f (take k xs)) (f (get_or xs k x))
    ∙ ap (λ (t : List ℕ). old ++ t) (sym (flat_more f xs k x within))

-- the same of an element that is read
pub item_more : {X : Type 0} (f : X → List ℕ) (old before after : List ℕ) (xs : List X) (k : ℕ) (x : X) → k < length xs → get_or xs k x ≡ x →
    before ≡ old ++ flat_map f (take k xs) → after ≡ before ++ f x → after ≡ old ++ flat_map f (take (k + 1) xs)
item_more f old before after xs k x within is first last = text_more f old before after xs k x within first (last ∙ ap (λ y. before ++ f y) (sym is))

-- ---- parts of parts
pub flat_parts : {A B X : Type 0} (f : B → List X) (g : A → List B) (xs : List A) → flat_map f (flat_map g xs) ≡ flat_map (λ x. flat_map f (g x)) xs
flat_parts f g [] = refl
flat_parts f g (x ∷ xs) = flat_map-append f (g x) (flat_map g xs) ∙ ap (λ ys. flat_map f (g x) ++ ys) (flat_parts f g xs)

pub flat_mapped : {A B X : Type 0} (f : B → List X) (g : A → B) (xs : List A) → flat_map f (map g xs) ≡ flat_map (λ x. f (g x)) xs
flat_mapped f g [] = refl
flat_mapped f g (x ∷ xs) = ap (λ ys. f (g x) ++ ys) (flat_mapped f g xs)

pub two_lines : (old middle text a b : List ℕ) → middle ≡ old ++ a → text ≡ middle ++ b → text ≡ old ++ (a ++ b)
two_lines old middle text a b first second = second ∙ ap (λ (t : List ℕ). t ++ b) first ∙ append_assoc old a b

pub take_whole : {X : Type 0} (xs : List X) (k : ℕ) → length xs ≤ k → take k xs ≡ xs
take_whole [] zero all = refl
take_whole [] (suc k) all = refl
take_whole (x ∷ xs) zero all = absurd (omega arith)
take_whole (x ∷ xs) (suc k) all = ap (λ ys. x ∷ ys) (take_whole xs k (omega arith))

-- all parts were gone through, each by what contracts see of it
pub parts_shown : {A B Y : Type 0} (f : Y → List ℕ) (g : B → List Y) (seen : A → B) (xs : List A) (k : ℕ) (ys : List B) → length xs ≤ k → map seen xs ≡ ys →
    flat_map (λ x. flat_map f (g (seen x))) (take k xs) ≡ flat_map f (flat_map g ys)
parts_shown f g seen xs k ys all is =
    ap (flat_map (λ x. flat_map f (g (seen x)))) (take_whole xs k all) ∙ sym (flat_mapped (λ y. flat_map f (g y)) seen xs)
    ∙ ap (flat_map (λ y. flat_map f (g y))) is ∙ sym (flat_parts f g ys)

-- ---- the words of a filter's line, one part after the other
pub filter_grown : (start one two three four five : List ℕ) (head options : List (List ℕ)) (flower : List ℕ) (fields actions : List (List ℕ)) →
    one ≡ fold onto start head → two ≡ fold onto one options → three ≡ onto two flower → four ≡ fold onto three fields → five ≡ fold onto four actions →
    five ≡ fold onto start (head ++ (options ++ (flower ∷ (fields ++ actions))))
filter_grown start one two three four five head options flower fields actions is_one is_two is_three is_four is_five =
    is_five
    ∙ ap (λ (t : List ℕ). fold onto t actions) (is_four ∙ ap (λ (t : List ℕ). fold onto t fields) (is_three ∙ ap (λ (t : List ℕ). onto t flower) (is_two ∙ ap (λ (t : List ℕ). fold onto t options) is_one)))
    ∙ sym (onto_append start head (options ++ (flower ∷ (fields ++ actions))) ∙ onto_append (fold onto start head) options (flower ∷ (fields ++ actions))
    ∙ onto_append (onto (fold onto (fold onto start head) options) flower) fields actions)
