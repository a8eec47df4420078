-- Ends in 4 bytes each: one more behind them.
use Rattle.std.proofs.Common.{◌≡◌, ℕ, suc, ◌+◌, Bool, true, false, List, [], ◌∷◌, ◌++◌, length, cond, refl, sym, ap, ◌∙◌, arith}
use Rattle.std.specs.List.{count_by}
use Rattle.std.proofs.lemmas.List.{length-append}
use Rattle.std.proofs.lemmas.List.Sums.{sum_by-cons, sum_by_push}
use Rattle.frame_edit.specs.declared.meta.Meta.{Meta}
use Rattle.capture_walk.specs.declared.ends.PacketEnd.{PacketEnd}
use Rattle.capture_walk.specs.EndWords.{is_noted, noted_meta, notes_left, end_in, ends_in, AreNoted}

pub length-ends_in : (words : List ℕ) (notes : List Meta) → length (ends_in words notes) ≡ length words
length-ends_in [] notes = refl
length-ends_in (word ∷ words) notes = ap suc (length-ends_in words (notes_left (is_noted word) notes))

-- further notes are behind those of the packet
record GoesOn (noted : Bool) (rest : ℕ) (notes more : List Meta) : Type 0 where
  first : noted_meta noted (notes ++ more) ≡ noted_meta noted notes
  left : notes_left noted (notes ++ more) ≡ notes_left noted notes ++ more
  many : rest ≡ length (notes_left noted notes)

goes_on : (noted : Bool) (rest : ℕ) (notes more : List Meta) → cond noted 1 0 + rest ≡ length notes → GoesOn noted rest notes more
goes_on true rest [] more e = absurd (omega arith)
goes_on true rest (meta ∷ notes) more e = record { first = refl; left = refl; many = omega arith }
goes_on false rest notes more e = record { first = refl; left = refl; many = omega arith }

none_left : (notes more : List Meta) → 0 ≡ length notes → notes ++ more ≡ more
none_left [] more e = refl
none_left (meta ∷ notes) more e = absurd (omega arith)

pub ends_in-push : (words : List ℕ) (notes more : List Meta) (word : ℕ) → AreNoted words notes
    → ends_in (words ++ word ∷ []) (notes ++ more) ≡ ends_in words notes ++ end_in word (noted_meta (is_noted word) more) ∷ []
ends_in-push [] notes more word noted =
    ap (λ (all : List Meta). end_in word (noted_meta (is_noted word) all) ∷ []) (none_left notes more noted)
ends_in-push (w ∷ ws) notes more word noted =
    let on = goes_on (is_noted w) (count_by is_noted ws) notes more (sym (sum_by-cons (λ (x : ℕ). cond (is_noted x) 1 0) w ws) ∙ noted) in
    let rest = ends_in-push ws (notes_left (is_noted w) notes) more word on.many in
    ap (λ (meta : Meta). end_in w meta ∷ ends_in (ws ++ word ∷ []) (notes_left (is_noted w) (notes ++ more))) on.first
    ∙ ap (λ (left : List Meta). end_in w (noted_meta (is_noted w) notes) ∷ ends_in (ws ++ word ∷ []) left) on.left
    ∙ ap (λ (ends : List PacketEnd). end_in w (noted_meta (is_noted w) notes) ∷ ends) rest

-- a note beside a word that says so
pub AreNoted-push : (words : List ℕ) (notes more : List Meta) (word : ℕ) → AreNoted words notes → length more ≡ cond (is_noted word) 1 0
    → AreNoted (words ++ word ∷ []) (notes ++ more)
AreNoted-push words notes more word noted one =
    let pushed : count_by is_noted (words ++ word ∷ []) ≡ count_by is_noted words + cond (is_noted word) 1 0 = sum_by_push (λ (x : ℕ). cond (is_noted x) 1 0) words word in
    let before : count_by is_noted words ≡ length notes = noted in
    omega (arith, length-append notes more)

pub one_note : (noted : Bool) (meta : Meta) → length (cond noted (meta ∷ []) []) ≡ cond noted 1 0
one_note true meta = refl
one_note false meta = refl
