-- What stands behind the first blank, and the control that an event's line names.
use Rattle.std.proofs.Common.{◌≡◌, ◌∙◌, ℕ, zero, suc, ◌+◌, ◌-◌, ◌<◌, ◌==◌, true, false, List, [], ◌∷◌, ◌++◌, length, take, drop, get_or, Some, None, refl, sym, ap, subst, arith, append_assoc}
use Rattle.std.specs.Prelude.{Bool, codes, nat_lt, if◌then◌else◌}
use Rattle.std.specs.Fmt.{decimal}
use Rattle.std.specs.List.{join_with_byte}
use Rattle.std.proofs.lemmas.List.{length-drop, take_all}
use Rattle.std.proofs.lemmas.Fmt.{decimal_digit}
use Rattle.std.proofs.lemmas.Bool.Decides.{nat_tests}
use Rattle.tc_report.specs.Refusals.{refused_line, refusal_words, syntax_words}
use Rattle.walk_texts.specs.Texts.{counted}
use Rattle.run_report.specs.declared.events.Event.{Event}
use Rattle.run_report.specs.declared.events.EventKind.{EventKind}
use Rattle.run_report.specs.declared.events.EventKind.TheVariants as kinds
use Rattle.run_report.specs.EventTexts.{edit_place, done_text, kind_line, event_line}
use Rattle.report_laws.proofs.OfLineCuts.Digits.{High, digits_high}
use Rattle.report_check.specs.OfEvents.Blanks.{HasNo, begins_event, behind_blank, control_in, first_digit}

-- ---- behind the first blank
not_blank : (byte : ℕ) → (byte ≡ 32 → ⊥) → (byte == 32) ≡ false
not_blank byte other = by_test (byte == 32) refl
  where
    by_test : (b : Bool) → (byte == 32) ≡ b → b ≡ false
    by_test true is = absurd (other (grind (arith, nat_tests, is)))
    by_test false is = refl

test_false : (b : Bool) → (b ≡ true → ⊥) → b ≡ false
test_false true other = absurd (other refl)
test_false false other = refl

skips : (byte : ℕ) (bytes : List ℕ) → (byte == 32) ≡ false → behind_blank (byte ∷ bytes) ≡ behind_blank bytes
skips byte bytes is = ap (λ (b : Bool). if b then bytes else behind_blank bytes) is

stops : (byte : ℕ) (bytes : List ℕ) → (byte == 32) ≡ true → behind_blank (byte ∷ bytes) ≡ bytes
stops byte bytes is = ap (λ (b : Bool). if b then bytes else behind_blank bytes) is

pub behind_seam : (front back : List ℕ) → HasNo 32 front → behind_blank (front ++ (32 ∷ back)) ≡ back
behind_seam [] back none = refl
behind_seam (byte ∷ front) back none = skips byte (front ++ (32 ∷ back)) (not_blank byte none.0) ∙ behind_seam front back none.1

pub behind_at : (text : List ℕ) (place : ℕ) → place < length text → (get_or text place 0 == 32) ≡ true → ((k : ℕ) → k < place → (get_or text k 0 == 32) ≡ true → ⊥) → drop (place + 1) text ≡ behind_blank text
behind_at [] place less is before = absurd (omega (arith, less))
behind_at (byte ∷ text) zero less is before = sym (stops byte text is)
behind_at (byte ∷ text) (suc place) less is before =
    let one : suc place + 1 ≡ suc (place + 1) = omega arith in
    ap (λ (n : ℕ). drop n (byte ∷ text)) one
    ∙ behind_at text place (omega (arith, less)) is (λ k fewer here. before (suc k) (omega (arith, fewer)) here)
    ∙ sym (skips byte text (test_false (byte == 32) (λ here. before 0 (omega arith) here)))

pub behind_none : (text : List ℕ) → ((k : ℕ) → k < length text → (get_or text k 0 == 32) ≡ true → ⊥) → behind_blank text ≡ []
behind_none [] none = refl
behind_none (byte ∷ text) none =
    skips byte text (test_false (byte == 32) (λ here. none 0 (omega arith) here)) ∙ behind_none text (λ k less here. none (suc k) (omega (arith, less)) here)

-- ---- bytes without a blank
high_free : (bytes : List ℕ) → High bytes → HasNo 32 bytes
high_free [] high = tt
high_free (byte ∷ bytes) high = ((λ same. let above = high.0 in omega (arith, above, same)), high_free bytes high.1)

pub number_free : (n : ℕ) → HasNo 32 (decimal n)
number_free n = high_free (decimal n) (digits_high 10 false n)

-- ---- the parts of an event's line
-- a word, a number, a word and the control, each behind a blank
pub record IsParted (line : List ℕ) (control : ℕ) : Type 0 where
  pub word : List ℕ
  pub count : ℕ
  pub tail : List ℕ
  pub free : HasNo 32 word
  pub parts : line ≡ word ++ (32 ∷ (decimal count ++ (32 ∷ (codes "control" ++ (32 ∷ (decimal control ++ tail))))))

pub control_free : HasNo 32 (codes "control")
control_free = (
  (λ e. omega (arith, e)),
  ((λ e. omega (arith, e)), ((λ e. omega (arith, e)), ((λ e. omega (arith, e)), ((λ e. omega (arith, e)), ((λ e. omega (arith, e)), ((λ e. omega (arith, e)), tt)))))),
)

edit_free : HasNo 32 (codes "edit")
edit_free = ((λ e. omega (arith, e)), ((λ e. omega (arith, e)), ((λ e. omega (arith, e)), ((λ e. omega (arith, e)), tt))))

refused_free : HasNo 32 (codes "refused")
refused_free = (
  (λ e. omega (arith, e)),
  ((λ e. omega (arith, e)), ((λ e. omega (arith, e)), ((λ e. omega (arith, e)), ((λ e. omega (arith, e)), ((λ e. omega (arith, e)), ((λ e. omega (arith, e)), tt)))))),
)

regrouped : (a b c d e : List ℕ) → (((a ++ b) ++ c) ++ d) ++ e ≡ a ++ (b ++ (c ++ (d ++ e)))
regrouped a b c d e = simp append_assoc

edit_parts : (place control line : ℕ) (rest : List ℕ) → edit_place place control line ++ rest
    ≡ codes "edit " ++ (decimal place ++ (codes " control " ++ (decimal control ++ (counted (codes " line ") line ++ (codes " " ++ rest)))))
unfolding edit_place counted
edit_parts place control line rest =
    regrouped (codes "edit " ++ decimal place) (codes " control " ++ decimal control) (codes " line " ++ decimal line) (codes " ") rest
    ∙ ap (λ (t : List ℕ). (codes "edit " ++ decimal place) ++ t) (append_assoc (codes " control ") (decimal control) ((codes " line " ++ decimal line) ++ (codes " " ++ rest)))

refused_tail : ℕ → List (List ℕ) → List ℕ
refused_tail line reason = 32 ∷ (codes "line" ++ (32 ∷ join_with_byte 32 (decimal line ∷ reason)))

refused_parts : (before control line : ℕ) (reason : List (List ℕ)) → refused_line before control line reason ≡ codes "refused " ++ (decimal before ++ (codes " control " ++ (decimal control ++ (refused_tail line reason ++ (10 ∷ [])))))
unfolding refused_tail
refused_parts before control line reason =
    ap (λ (t : List ℕ). codes "refused " ++ t)
    (append_assoc (decimal before) (codes " control " ++ (decimal control ++ refused_tail line reason)) (10 ∷ [])
    ∙ ap (λ (t : List ℕ). decimal before ++ (codes " control " ++ t)) (append_assoc (decimal control) (refused_tail line reason) (10 ∷ [])))

refused_parted : (before control line : ℕ) (reason : List (List ℕ)) → IsParted (refused_line before control line reason) control
refused_parted before control line reason = record {
  word = codes "refused";
  count = before;
  tail = refused_tail line reason ++ (10 ∷ []);
  free = refused_free;
  parts = refused_parts before control line reason;
}

kind_parted : (before control line : ℕ) (kind : EventKind) → IsParted (kind_line before control line kind) control
kind_parted before control line (kinds.Accepted done) = record {
  word = codes "edit";
  count = before + 1;
  tail = counted (codes " line ") line ++ (codes " " ++ (done_text done ++ codes "\n"));
  free = edit_free;
  parts = append_assoc (edit_place (before + 1) control line) (done_text done) (codes "\n") ∙ edit_parts (before + 1) control line (done_text done ++ codes "\n");
}
kind_parted before control line (kinds.Refused refusal) = refused_parted before control line (refusal_words refusal)
kind_parted before control line (kinds.Syntax word) = refused_parted before control line (syntax_words word)

pub event_parted : (before : ℕ) (event : Event) (line : List ℕ) → line ≡ event_line before event → IsParted line event.control
event_parted before event line is = subst (λ (l : List ℕ). IsParted l event.control) (sym is) (kind_parted before event.control event.line event.kind)

-- ---- the control that an event's line names
kind_begins : (before control line : ℕ) (kind : EventKind) → begins_event (kind_line before control line kind) ≡ true
unfolding edit_place counted
kind_begins before control line (kinds.Accepted done) = refl
kind_begins before control line (kinds.Refused refusal) = refl
kind_begins before control line (kinds.Syntax word) = refl

one_digit : (control : ℕ) (tail : List ℕ) → control < 10 → first_digit ((48 + control) ∷ tail) ≡ Some control
one_digit control tail low =
    let high : nat_lt (48 + control) 48 ≡ false = grind (arith, nat_tests) in
    let same : 48 + control - 48 ≡ control = omega arith in
    ap (λ (b : Bool). if b then None else Some (48 + control - 48)) high ∙ ap (λ (n : ℕ). Some n) same

three_behind : (line : List ℕ) (control : ℕ) → control < 10 → IsParted line control → first_digit (behind_blank (behind_blank (behind_blank line))) ≡ Some control
three_behind line control low it =
    let more : List ℕ = decimal control ++ it.tail in
    let a : behind_blank line ≡ decimal it.count ++ (32 ∷ (codes "control" ++ (32 ∷ more))) = ap behind_blank it.parts ∙ behind_seam it.word (decimal it.count ++ (32 ∷ (codes "control" ++ (32 ∷ more)))) it.free in
    let b : behind_blank (behind_blank line) ≡ codes "control" ++ (32 ∷ more) = ap behind_blank a ∙ behind_seam (decimal it.count) (codes "control" ++ (32 ∷ more)) (number_free it.count) in
    let c : behind_blank (behind_blank (behind_blank line)) ≡ more = ap behind_blank b ∙ behind_seam (codes "control") more control_free in
    ap first_digit (c ∙ ap (λ (ds : List ℕ). ds ++ it.tail) (decimal_digit control low)) ∙ one_digit control it.tail low

pub event_named : (before : ℕ) (event : Event) (line : List ℕ) → event.control < 10 → line ≡ event_line before event → control_in line ≡ Some event.control
event_named before event line low is =
    ap control_in is
    ∙ ap (λ (b : Bool). if b then first_digit (behind_blank (behind_blank (behind_blank (event_line before event)))) else None) (kind_begins before event.control event.line event.kind)
    ∙ three_behind (event_line before event) event.control low (event_parted before event (event_line before event) refl)

-- ---- the rest of bytes, as a slice gives it
pub whole_rest : (bytes : List ℕ) (n : ℕ) → take (length bytes - n) (drop n bytes) ≡ drop n bytes
whole_rest bytes n = take_all (length bytes - n) (drop n bytes) (let long = length-drop n bytes in omega (arith, long))
