use Rattle.std.proofs.Common.{◌≡◌, ℕ, List, get_or, arith, refl, sym, subst, ◌∙◌}
use Rattle.std.specs.Prelude.{slice_set}
use Rattle.flow_fields.specs.Table.{Field, field_at, field_of_row}
use Rattle.flow_fields.specs.Values.{with_bits, with_value, values_of, SameStrays}
use Rattle.flow_fields.proofs.Puts.{values_put, strays_put}
use Rattle.flow_fields.proofs.access.set.Goals as goal

-- the words that a row's bits were put into
abbrev written : List ℕ → Field → ℕ → List ℕ
written words f value = slice_set words f.word (with_bits (get_or words f.word 0) f.shift f.width value)

written_is : (words : List ℕ) (i value word : ℕ) (f : Field) → f ≡ field_at i → word ≡ with_bits (get_or words f.word 0) f.shift f.width value →
    (P : List ℕ → Type 0) → P (with_value words i value) → P (slice_set words f.word word)
written_is words i value word f same is P proof =
    let Q : Field → Type 0 = λ f. P (written words f value) in
    let R : ℕ → Type 0 = λ w. P (slice_set words f.word w) in
    subst R (sym is) (subst Q (sym same) proof)

pub returns-clause-words : goal.returns-clause-words
returns-clause-words g c =
    written_is c.args.key.now.words c.args.field c.args.value c.put_bits.result (field_of_row c.row-row.result) c.row-row.ensures.field c.put_bits.ensures
    (λ words. words ≡ with_value c.args.key.now.words c.args.field c.args.value)
    refl

pub returns-clause-values : goal.returns-clause-values
returns-clause-values g c =
    written_is c.args.key.now.words c.args.field c.args.value c.put_bits.result (field_of_row c.row-row.result) c.row-row.ensures.field c.put_bits.ensures
    (λ words. values_of words ≡ slice_set (values_of c.args.key.now.words) c.args.field c.args.value)
    (values_put c.args.key.now.words c.args.field c.args.value c.requires.field (omega arith) c.requires.fits)

pub returns-clause-strays : goal.returns-clause-strays
returns-clause-strays g c =
    written_is c.args.key.now.words c.args.field c.args.value c.put_bits.result (field_of_row c.row-row.result) c.row-row.ensures.field c.put_bits.ensures
    (λ words. SameStrays c.args.key.now.words words)
    (strays_put c.args.key.now.words c.args.field c.args.value c.requires.field (omega arith) c.requires.fits)

pub returns-clause-tidy : goal.returns-clause-tidy
returns-clause-tidy g c = λ tidy word bit free. returns-clause-strays g c word bit free ∙ tidy word bit free
