-- Stretches that grow, and own bytes behind others.
use Rattle.std.proofs.Common.{◌≡◌, ℕ, zero, suc, ◌+◌, ◌-◌, ◌≤◌, Bool, true, false, List, [], ◌∷◌, ◌++◌, length, take, drop, map, slice_set, slice_index_or, refl, sym, ap, ap₂, ◌∙◌, arith, append_assoc, append-nil, take-add, suc-add, slice_get, Some}
use Rattle.std.proofs.lemmas.List.{length-append, drop-drop, drop-append-le, take-append-le, drop_at, take_all, length-drop}
use Rattle.std.proofs.lemmas.List.Elements.{All-head, All-tail, All-weaker}
use Rattle.std.proofs.lemmas.Option.{none-some, get_or_from_slice_get}
use Rattle.tc_base.specs.declared.pieces.Stretch.{Stretch}
use Rattle.tc_base.specs.Pieces.{joined, source, piece_of, IsWithin, AreWithin, GoesOn}

-- a stretch up to the middle and one from there on
pub one_stretch : (xs : List ℕ) (start middle end : ℕ) → start ≤ middle → middle ≤ end
    → take (end - start) (drop start xs) ≡ take (middle - start) (drop start xs) ++ take (end - middle) (drop middle xs)
one_stretch xs start middle end first second =
    let whole : end - start ≡ (middle - start) + (end - middle) = omega arith in
    let there : start + (middle - start) ≡ middle = omega arith in
    ap (λ n. take n (drop start xs)) whole
    ∙ take-add (middle - start) (end - middle) (drop start xs)
    ∙ ap (λ ys. take (middle - start) (drop start xs) ++ take (end - middle) ys)
    (drop-drop (middle - start) start xs ∙ ap (λ n. drop n xs) there)

-- a longer last piece
pub last_grows : (f : Stretch → List ℕ) (xs : List Stretch) (n : ℕ) (d y : Stretch) (more : List ℕ) → n + 1 ≡ length xs
    → f y ≡ f (slice_index_or xs n d) ++ more → joined (map f (slice_set xs n y)) ≡ joined (map f xs) ++ more
last_grows f [] n d y more last same = absurd (omega arith)
last_grows f (x ∷ []) zero d y more last same = append-nil (f y) ∙ same ∙ ap (λ ys. ys ++ more) (sym (append-nil (f x)))
last_grows f (x ∷ x' ∷ xs) zero d y more last same = absurd (omega arith)
last_grows f (x ∷ xs) (suc n) d y more last same =
    ap (λ ys. f x ++ ys) (last_grows f xs n d y more (omega arith) same) ∙ sym (append_assoc (f x) (joined (map f xs)) more)

-- a stretch, and one that goes on from it, as one
pub longer_piece : (lent own : List ℕ) (last next : Stretch) → GoesOn last next → last.start ≤ last.end → next.start ≤ next.end
    → piece_of lent own (record { start = last.start; end = next.end; is_own = last.is_own }) ≡ piece_of lent own last ++ piece_of lent own next
longer_piece lent own last next goes first second =
    let there = goes.there in
    one_stretch (source lent own last.is_own) last.start last.end next.end first (omega arith)
    ∙ ap (λ xs. piece_of lent own last ++ take (next.end - last.end) (drop last.end xs)) (ap (source lent own) goes.source)
    ∙ ap (λ n. piece_of lent own last ++ take (next.end - n) (drop n (source lent own next.is_own))) there

-- ---- more bytes behind the own ones
source_more : (lent own more : List ℕ) (is_own : Bool) → length (source lent own is_own) ≤ length (source lent (own ++ more) is_own)
source_more lent own more true = omega (arith, length-append own more)
source_more lent own more false = omega arith

within_more : (lent own more : List ℕ) (s : Stretch) → IsWithin lent own s → IsWithin lent (own ++ more) s
within_more lent own more s within =
    let longer = source_more lent own more s.is_own in
    let end = within.within in
    record { order = within.order; within = omega arith }

pub are_within_more : (lent own more : List ℕ) (ss : List Stretch) → AreWithin lent own ss → AreWithin lent (own ++ more) ss
are_within_more lent own more ss within = All-weaker (IsWithin lent own) (IsWithin lent (own ++ more)) (within_more lent own more) ss within

cut_more : (own more : List ℕ) (start end : ℕ) → start ≤ end → end ≤ length own
    → take (end - start) (drop start (own ++ more)) ≡ take (end - start) (drop start own)
cut_more own more start end order within =
    ap (take (end - start)) (drop-append-le start own more (omega arith))
    ∙ take-append-le (end - start) (drop start own) more (omega (arith, length-drop start own))

source_cut : (lent own more : List ℕ) (is_own : Bool) (start end : ℕ) → start ≤ end → end ≤ length (source lent own is_own)
    → take (end - start) (drop start (source lent (own ++ more) is_own)) ≡ take (end - start) (drop start (source lent own is_own))
source_cut lent own more true start end order within = cut_more own more start end order within
source_cut lent own more false start end order within = refl

pub pieces_more : (lent own more : List ℕ) (ss : List Stretch) → AreWithin lent own ss
    → map (piece_of lent (own ++ more)) ss ≡ map (piece_of lent own) ss
pieces_more lent own more [] within = refl
pieces_more lent own more (s ∷ ss) within =
    let first = All-head (IsWithin lent own) s ss within in
    let head = source_cut lent own more s.is_own s.start s.end first.order first.within in
    let tail = pieces_more lent own more ss (All-tail (IsWithin lent own) s ss within) in
    ap (λ (x : List ℕ). x ∷ map (piece_of lent (own ++ more)) ss) head ∙ ap (λ (xs : List (List ℕ)). piece_of lent own s ∷ xs) tail

-- the stretch of the bytes that were put last
abbrev pub own_stretch : ℕ → ℕ → Stretch
own_stretch start end = record { start = start; end = end; is_own = true }

pub own_within : (lent own more : List ℕ) (start end : ℕ) → start ≡ length own → end ≡ length own + length more
    → IsWithin lent (own ++ more) (own_stretch start end)
own_within lent own more start end at long =
    record { order = omega arith; within = omega (arith, length-append own more) }

own_piece : (lent own more : List ℕ) (start end : ℕ) → start ≡ length own → end ≡ length own + length more
    → piece_of lent (own ++ more) (own_stretch start end) ≡ more
own_piece lent own more start end at long =
    ap (take (end - start)) (drop_at own more start (sym at)) ∙ take_all (end - start) more (omega arith)

pub more_joined : (lent own more : List ℕ) (old new : List Stretch) (start end : ℕ) → start ≡ length own
    → end ≡ length own + length more → AreWithin lent own old
    → joined (map (piece_of lent (own ++ more)) new)
    ≡ joined (map (piece_of lent (own ++ more)) old) ++ piece_of lent (own ++ more) (own_stretch start end)
    → joined (map (piece_of lent (own ++ more)) new) ≡ joined (map (piece_of lent own) old) ++ more
more_joined lent own more old new start end at long within laid =
    laid ∙ ap₂ (λ (ps : List (List ℕ)) (p : List ℕ). joined ps ++ p) (pieces_more lent own more old within) (own_piece lent own more start end at long)

-- ---- the pieces in order
pub one_more : (pieces : List (List ℕ)) (n : ℕ) (piece : List ℕ) → slice_get pieces n ≡ Some piece
    → joined (take (n + 1) pieces) ≡ joined (take n pieces) ++ piece
one_more [] n piece there = absurd (none-some piece there)
one_more (x ∷ xs) zero piece there = append-nil x ∙ get_or_from_slice_get (x ∷ xs) 0 piece x there
one_more (x ∷ xs) (suc n) piece there =
    ap (λ k. joined (take k (x ∷ xs))) (suc-add n 1)
    ∙ ap (λ ys. x ++ ys) (one_more xs n piece there) ∙ sym (append_assoc x (joined (take n xs)) piece)
