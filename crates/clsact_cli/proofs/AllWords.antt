-- The words of a process, one after the other.
use Rattle.std.proofs.Common.{◌≡◌, ◌⊎◌, inl, inr, ◌∙◌, ℕ, ◌+◌, ◌-◌, ◌≤◌, List, [], ◌∷◌, ◌++◌, take, drop, length, Option, Some, None, Ok, String, string_bytes, sym, ap, subst, append_assoc, arith}
use Rattle.std.specs.Prelude.{IfSome, IsUtf8}
use Rattle.std.specs.declared.alloc.Global.{Global}
use Rattle.std.proofs.lemmas.Grind.{common_steps}
use Rattle.std.proofs.lemmas.List.{map-append, drop-drop, length-append, length-drop, length-map}
use Rattle.tool_words.specs.Command.{texts}
use Rattle.tool_words.specs.declared.status.Status.{Status}
use Rattle.tool_words.specs.declared.status.Status.TheVariants as statuses
use Rattle.tc_base.specs.Memory.{no_memory}
use Rattle.clsact_cli.specs.Arguments.{Answers, IsFound, IsStrange, HasStrange}

-- with the word at the next place, all words up to the place behind it
pub one_more : (told : Option (List (List ℕ))) (before after : List (String Global)) (word : String Global) (place : ℕ)
    → after ≡ before ++ (word ∷ []) → IfSome told (λ words. drop 1 words ≡ texts before ++ drop place words)
    → IfSome told (λ words. IsFound words place (Some word))
    → IfSome told (λ words. drop 1 words ≡ texts after ++ drop (place + 1) words)
one_more None before after word place grown so_far found = tt
one_more (Some words) before after word place grown so_far found =
    let behind : drop (place + 1) words ≡ found.0 =
    sym (drop-drop 1 place words) ∙ ap (λ (left : List (List ℕ)). drop 1 left) found.1 in
    so_far ∙ ap (λ (left : List (List ℕ)). texts before ++ left) (found.1 ∙ ap (λ (left : List (List ℕ)). string_bytes word ∷ left) (sym behind))
    ∙ sym (append_assoc (texts before) (string_bytes word ∷ []) (drop (place + 1) words))
    ∙ ap (λ (done : List (List ℕ)). done ++ drop (place + 1) words)
    (sym (ap texts grown ∙ map-append string_bytes before (word ∷ [])))

-- ---- words that no command has
-- room as it was written
pub written_back : (many : ℕ) (room items : List ℕ) → length room ≡ many → take many (room ++ drop (length room) items) ≡ room
written_back many room items same = grind (common_steps, arith, same)

-- one that isn't text
pub no_text : (told : Option (List (List ℕ))) (place n : ℕ) (room bytes : List ℕ)
    → IfSome told (λ words. Answers words place room (Ok n)) → bytes ≡ take n room → (IsUtf8 bytes → ⊥)
    → IfSome told (λ words. IsStrange words place)
no_text None place n room bytes answers same none = tt
no_text (Some words) place n room bytes answers same none =
    (take n room, answers.0, answers.1, inl (subst (λ (word : List ℕ). IsUtf8 word → ⊥) same none))

-- it stands among the words
among : (told : Option (List (List ℕ))) (place : ℕ) → IfSome told (λ words. IsStrange words place) → IfSome told HasStrange
among None place strange = tt
among (Some words) place strange = inl (place, strange)

pub strange_among : (told : Option (List (List ℕ))) (place : ℕ) (status : Status)
    → (status ≡ statuses.NoMemory no_memory) ⊎ ((status ≡ statuses.Usage) × IfSome told (λ words. IsStrange words place))
    → (status ≡ statuses.NoMemory no_memory) ⊎ ((status ≡ statuses.Usage) × IfSome told HasStrange)
strange_among told place status (inl memory) = inl memory
strange_among told place status (inr usage) = inr (usage.0, among told place usage.1)

-- all places have one
pub no_place_left : (told : Option (List (List ℕ))) (before : List (String Global)) (place : ℕ) → 18446744073709551615 ≤ place
    → length before + 1 ≡ place → IfSome told (λ words. drop 1 words ≡ texts before ++ drop place words) → IfSome told HasStrange
no_place_left None before place most counted so_far = tt
no_place_left (Some words) before place most counted so_far =
    let many : length words - 1 ≡ length before + length (drop place words) =
    sym (length-drop 1 words) ∙ ap length so_far ∙ length-append (texts before) (drop place words)
    ∙ ap (λ (n : ℕ). n + length (drop place words)) (length-map before string_bytes) in
    inr (omega (arith, many, counted, most))
