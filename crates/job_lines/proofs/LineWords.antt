-- What is read of a line is what the line spells, for counts, batches and captures.
use Rattle.std.proofs.Common.{◌≡◌, ◌∙◌, ℕ, zero, suc, ◌<◌, ◌≤◌, Bool, true, false, List, [], ◌∷◌, length, Option, Some, None, refl, ap, subst, arith}
use Rattle.std.specs.Prelude.{◌&&◌, ◌==◌, not, nat_lt, codes, if◌then◌else◌}
use Rattle.std.specs.List.{list_all}
use Rattle.std.specs.Str.{bytes_eq}
use Rattle.std.specs.Fmt.{decimal}
use Rattle.std.proofs.lemmas.Bool.Decides.{nat_tests}
use Rattle.std.proofs.lemmas.Slice.Eq.{bytes_eq-Decides}
use Rattle.tc_words.specs.Numbers.{decimal_of}
use Rattle.tc_words.specs.Texts.{words_are}
use Rattle.tc_base.specs.declared.hook.Hook.{Hook}
use Rattle.tc_base.specs.declared.hook.Hook.TheVariants as hooks
use Rattle.job_lines.specs.declared.job.BatchName.{BatchName}
use Rattle.job_lines.specs.declared.job.CaptureName.{CaptureName}
use Rattle.job_lines.specs.Jobs.{Words, count_line, hook_word, force_words, batch_line, capture_line, is_name_byte, IsName, IsBatch, IsCapture}
use Rattle.job_lines.specs.Steps.{is_name, above_zero, count_of, force_of, batch_above, batch_of, hook_of, capture_on, capture_of}
use Rattle.job_lines.proofs.Choices.{both, both_hold, let_through, was_let}
use Rattle.job_lines.proofs.Digits.{count-read, count-spelled}

-- ---- words
is_text : (word text : List ℕ) → bytes_eq word text ≡ true → word ≡ text
is_text word text h = (bytes_eq-Decides word text).0 h

same_text : (text : List ℕ) → bytes_eq text text ≡ true
same_text text = (bytes_eq-Decides text text).1 refl

-- words that are found to be these texts are these texts
pub are_these : (words texts : Words) → words_are words texts ≡ true → words ≡ texts
are_these [] [] e = refl
are_these [] (text ∷ texts) e = absurd (grind (arith, nat_tests, e))
are_these (word ∷ words) [] e = absurd (cc e)
are_these (word ∷ words) (text ∷ texts) e =
    let parts = both_hold (bytes_eq word text) (words_are words texts) e in
    let first : word ≡ text = is_text word text parts.0 in
    let more : words ≡ texts = are_these words texts parts.1 in
    cc

name-to : (name : List ℕ) → IsName name → is_name name ≡ true
name-to name is = both (not (length name == 0)) (list_all is_name_byte name) (let some = is.0 in grind (arith, nat_tests, some)) is.1

name-from : (name : List ℕ) → is_name name ≡ true → IsName name
name-from name e =
    let parts = both_hold (not (length name == 0)) (list_all is_name_byte name) e in
    let some = parts.0 in
    (grind (arith, nat_tests, some), parts.1)

-- ---- counts
above-to : (n : ℕ) → 1 ≤ n → above_zero (Some n) ≡ Some n
above-to zero low = absurd (omega arith)
above-to (suc n) low = grind (arith, nat_tests)

nonzero : (zero_is : Bool) (number n : ℕ) → (zero_is ≡ false → 1 ≤ number) → (if zero_is then None else Some number) ≡ Some n → (number ≡ n) × (1 ≤ number)
nonzero true number n low e = absurd (cc e)
nonzero false number n low e = (cc e, low refl)

above-from : (o : Option ℕ) (n : ℕ) → above_zero o ≡ Some n → (o ≡ Some n) × (1 ≤ n)
above-from None n e = absurd (cc e)
above-from (Some number) n e =
    let parts = nonzero (number == 0) number n (λ other. grind (arith, nat_tests, other)) e in
    (ap (λ (m : ℕ). Some m) parts.0, subst (λ (m : ℕ). 1 ≤ m) parts.0 parts.1)

pub count-to : (keyword : List ℕ) (most n : ℕ) → most < 10 → 1 ≤ n → n ≤ most → count_of keyword most (count_line keyword n) ≡ Some n
count-to keyword most n small low high =
    let_through (bytes_eq keyword keyword) (above_zero (decimal_of (decimal n) most)) (same_text keyword)
    ∙ ap above_zero (count-read most n (omega arith) high)
    ∙ above-to n low

pub count-from : (keyword : List ℕ) (most : ℕ) (words : Words) (n : ℕ) → most < 10 → count_of keyword most words ≡ Some n → (words ≡ count_line keyword n) × (1 ≤ n) × (n ≤ most)
count-from keyword most [] n small e = absurd (cc e)
count-from keyword most (word ∷ []) n small e = absurd (cc e)
count-from keyword most (word ∷ number ∷ []) n small e =
    let parts = was_let (bytes_eq word keyword) (above_zero (decimal_of number most)) n e in
    let above = above-from (decimal_of number most) n parts.1 in
    let spelled = count-spelled number most n small above.0 in
    let first : word ≡ keyword = is_text word keyword parts.0 in
    let second : number ≡ decimal n = spelled.0 in
    (cc, above.1, spelled.1)
count-from keyword most (word ∷ number ∷ next ∷ more) n small e = absurd (cc e)

-- ---- batches
force-to : (force : Bool) → force_of (force_words force) ≡ Some force
force-to true = refl
force-to false = refl

force-from : (words : Words) (force : Bool) → force_of words ≡ Some force → words ≡ force_words force
force-from [] true e = absurd (cc e)
force-from [] false e = refl
force-from (word ∷ []) force e =
    let parts = was_let (bytes_eq word (codes "force")) (Some true) force e in
    let is : word ≡ codes "force" = is_text word (codes "force") parts.0 in
    let forced : true ≡ force = cc (parts.1) in
    ap (λ (w : List ℕ). w ∷ []) is ∙ ap force_words forced
force-from (word ∷ next ∷ more) force e = absurd (cc e)

pub batch-to : (controls last : ℕ) (batch : BatchName) → controls < 10 → IsBatch controls batch → last < batch.control → batch_of controls last (batch_line batch) ≡ Some batch
batch-to controls last batch small is above =
    let_through (is_name batch.name) (batch_above last batch.name (decimal_of (decimal batch.control) controls) (force_of (force_words batch.force))) (name-to batch.name is.2)
    ∙ ap (λ (o : Option ℕ). batch_above last batch.name o (force_of (force_words batch.force))) (count-read controls batch.control (let low = is.1 in omega arith) is.1)
    ∙ ap (λ (o : Option Bool). batch_above last batch.name (Some batch.control) o) (force-to batch.force)
    ∙ let_through (nat_lt last batch.control) (Some batch) (grind (arith, nat_tests, above))

-- what is known of a batch above the last one
record IsAbove (last : ℕ) (name : List ℕ) (control : Option ℕ) (force : Option Bool) (batch : BatchName) : Type 0 where
  control_is : control ≡ Some batch.control
  force_is : force ≡ Some batch.force
  name_is : name ≡ batch.name
  above : last < batch.control

above_by : (last : ℕ) (name : List ℕ) (control : ℕ) (force : Bool) (batch : BatchName) → batch_above last name (Some control) (Some force) ≡ Some batch → IsAbove last name (Some control) (Some force) batch
above_by last name control force batch e =
    let parts = was_let (nat_lt last control) (Some (let b : BatchName = record { control = control; name = name; force = force } in b)) batch e in
    let above = parts.0 in
    subst (IsAbove last name (Some control) (Some force)) (let is : record { control = control; name = name; force = force } ≡ batch = cc (parts.1) in is)
    (record { control_is = refl; force_is = refl; name_is = refl; above = grind (arith, nat_tests, above) })

above_of : (last : ℕ) (name : List ℕ) (control : Option ℕ) (force : Option Bool) (batch : BatchName) → batch_above last name control force ≡ Some batch → IsAbove last name control force batch
above_of last name None force batch e = absurd (cc e)
above_of last name (Some control) None batch e = absurd (cc e)
above_of last name (Some control) (Some force) batch e = above_by last name control force batch e

pub batch-from : (controls last : ℕ) (words : Words) (batch : BatchName) → controls < 10 → batch_of controls last words ≡ Some batch → (words ≡ batch_line batch) × IsBatch controls batch × (last < batch.control)
batch-from controls last [] batch small e = absurd (cc e)
batch-from controls last (word ∷ []) batch small e = absurd (cc e)
batch-from controls last (word ∷ number ∷ []) batch small e = absurd (cc e)
batch-from controls last (word ∷ number ∷ name ∷ more) batch small e =
    let parts = was_let (bytes_eq word (codes "batch") && is_name name) (batch_above last name (decimal_of number controls) (force_of more)) batch e in
    let tests = both_hold (bytes_eq word (codes "batch")) (is_name name) parts.0 in
    let known = above_of last name (decimal_of number controls) (force_of more) batch parts.1 in
    let spelled = count-spelled number controls batch.control small known.control_is in
    let first : word ≡ codes "batch" = is_text word (codes "batch") tests.0 in
    let second : number ≡ decimal batch.control = spelled.0 in
    let third : name ≡ batch.name = known.name_is in
    let others : more ≡ force_words batch.force = force-from more batch.force known.force_is in
    let above : last < batch.control = known.above in
    (cc, (omega arith, spelled.1, subst IsName third (name-from name tests.1)), above)

-- ---- captures
hook-to : (hook : Hook) → hook_of (hook_word hook) ≡ Some hook
hook-to hooks.Ingress = refl
hook-to hooks.Egress = refl

hook-by : (a b : Bool) (word : List ℕ) (hook : Hook) → (a ≡ true → word ≡ codes "ingress") → (b ≡ true → word ≡ codes "egress") → (if a then Some hooks.Ingress else if b then Some hooks.Egress else None) ≡ Some hook
    → word ≡ hook_word hook
hook-by true b word hook first second e = first refl ∙ ap hook_word (let is : hooks.Ingress ≡ hook = cc e in is)
hook-by false true word hook first second e = second refl ∙ ap hook_word (let is : hooks.Egress ≡ hook = cc e in is)
hook-by false false word hook first second e = absurd (cc e)

hook-from : (word : List ℕ) (hook : Hook) → hook_of word ≡ Some hook → word ≡ hook_word hook
hook-from word hook e = hook-by (bytes_eq word (codes "ingress")) (bytes_eq word (codes "egress")) word hook (is_text word (codes "ingress")) (is_text word (codes "egress")) e

pub capture-to : (capture : CaptureName) → IsCapture (Some capture) → capture_of (capture_line capture) ≡ Some capture
capture-to capture is =
    let_through (is_name capture.name && is_name capture.out) (capture_on capture.name capture.out (hook_of (hook_word capture.hook))) (both (is_name capture.name) (is_name capture.out) (name-to capture.name is.0) (name-to capture.out is.1))
    ∙ ap (capture_on capture.name capture.out) (hook-to capture.hook)

capture_by : (name out : List ℕ) (hook : Option Hook) (capture : CaptureName) → capture_on name out hook ≡ Some capture → (hook ≡ Some capture.hook) × (name ≡ capture.name) × (out ≡ capture.out)
capture_by name out None capture e = absurd (cc e)
capture_by name out (Some hook) capture e =
    let is : record { hook = hook; name = name; out = out } ≡ capture = cc e in
    (ap (λ (c : CaptureName). Some c.hook) is, ap (λ (c : CaptureName). c.name) is, ap (λ (c : CaptureName). c.out) is)

pub capture-from : (words : Words) (capture : CaptureName) → capture_of words ≡ Some capture → (words ≡ capture_line capture) × IsCapture (Some capture)
capture-from [] capture e = absurd (cc e)
capture-from (word ∷ []) capture e = absurd (cc e)
capture-from (word ∷ hook ∷ []) capture e = absurd (cc e)
capture-from (word ∷ hook ∷ name ∷ []) capture e = absurd (cc e)
capture-from (word ∷ hook ∷ name ∷ out ∷ []) capture e =
    let parts = was_let (bytes_eq word (codes "capture") && (is_name name && is_name out)) (capture_on name out (hook_of hook)) capture e in
    let tests = both_hold (bytes_eq word (codes "capture")) (is_name name && is_name out) parts.0 in
    let names = both_hold (is_name name) (is_name out) tests.1 in
    let known = capture_by name out (hook_of hook) capture parts.1 in
    let first : word ≡ codes "capture" = is_text word (codes "capture") tests.0 in
    let second : hook ≡ hook_word capture.hook = hook-from hook capture.hook known.0 in
    let third : name ≡ capture.name = known.1 in
    let fourth : out ≡ capture.out = known.2 in
    (cc, (subst IsName third (name-from name names.0), subst IsName fourth (name-from out names.1)))
capture-from (word ∷ hook ∷ name ∷ out ∷ next ∷ more) capture e = absurd (cc e)
