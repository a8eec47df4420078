use Rattle.std.proofs.Common.{◌≡◌, ◌∙◌, ℕ, List, false, get_or, ap, sym, inl, inr, arith}
use Rattle.std.specs.Str.{bytes_eq}
use Rattle.std.proofs.lemmas.Bool.{cases_Bool}
use Rattle.std.proofs.lemmas.List.{ext_get_or}
use Rattle.std.proofs.lemmas.Slice.Eq.{bytes_eq-Decides}
use Rattle.flow_fields.specs.Values.{values_of}
use Rattle.trace_lines.proofs.KeyWords.{values_count}
use Rattle.trace_lines.proofs.seen_frame.has_values.Goals as goal

-- a value that differs
differ : (one other : List ℕ) (k : ℕ) → (get_or one k 0 ≡ get_or other k 0 → ⊥) → false ≡ bytes_eq one other
differ one other k apart =
    elim (cases_Bool (bytes_eq one other)) [
      | inl same ↦ absurd (apart (ap (λ (values : List ℕ). get_or values k 0) ((bytes_eq-Decides one other).0 same)))
      | inr differs ↦ sym differs
    ]

pub returns-then-value : goal.returns-then-value
returns-then-value c =
    differ (values_of c.args.key.now.words) (values_of c.args.other.now.words) c.loop-field.field
    (λ same. c.if-value.true (c.value.ensures.value ∙ same ∙ sym c.value-in-loop-field.ensures.value))

pub returns : goal.returns
returns c =
    sym ((bytes_eq-Decides _ _).1
    (ext_get_or 0 (values_of c.args.key.now.words) (values_of c.args.other.now.words)
    (values_count c.args.key.now.words ∙ sym (values_count c.args.other.now.words))
    (λ k here. c.loop-field.invariant k (let all = values_count c.args.key.now.words in omega (arith, all)))))
