-- Packets are counted by their kinds.
use Rattle.std.proofs.Common.{◌≡◌, ◌∙◌, ℕ, ◌+◌, true, false, Bool, List, [], ◌∷◌, ◌++◌, length, refl, sym, ap, subst, arith}
use Rattle.std.specs.Prelude.{filter, if◌then◌else◌}
use Rattle.std.proofs.lemmas.List.{length-append}
use Rattle.std.proofs.lemmas.List.Elements.{filter-append}
use Rattle.std.proofs.lemmas.List.Sums.{length-filter}
use Rattle.walk_fate_laws.specs.declared.kinds.Kind.{Kind}
use Rattle.walk_fate_laws.specs.declared.kinds.Kind.TheVariants as kinds
use Rattle.change_fates.specs.declared.counts.KindCounts.{KindCounts}
use Rattle.change_fates.specs.Told.{is_kind, count_of, counts_of}

abbrev pub one : Bool → ℕ
one b = if b then 1 else 0

by_test : (b : Bool) (kind : Kind) → length (if b then kind ∷ [] else []) ≡ one b
by_test true kind = refl
by_test false kind = refl

-- one packet more
pub count_more : (kind : Kind) (all : List Kind) (last : Kind) → count_of kind (all ++ (last ∷ [])) ≡ count_of kind all + one (is_kind kind last)
count_more kind all last =
    let whole = length-filter (is_kind kind) (all ++ (last ∷ [])) in
    let front = length-filter (is_kind kind) all in
    let split = ap length (filter-append (is_kind kind) all (last ∷ [])) in
    let sum = length-append (filter (is_kind kind) all) (filter (is_kind kind) (last ∷ [])) in
    let alone = by_test (is_kind kind last) last in
    omega (arith, whole, front, split, sum, alone)

abbrev counts_with : ℕ → ℕ → ℕ → ℕ → ℕ → KindCounts
counts_with steady moved between mixed left_open =
    record { steady = steady; moved = moved; between = between; mixed = mixed; left_open = left_open }

abbrev pub added : KindCounts → Kind → KindCounts
added counts kind = record {
  steady = counts.steady + one (is_kind kinds.Steady kind);
  moved = counts.moved + one (is_kind kinds.Moved kind);
  between = counts.between + one (is_kind kinds.Between kind);
  mixed = counts.mixed + one (is_kind kinds.Mixed kind);
  left_open = counts.left_open + one (is_kind kinds.Open kind);
}

pub counts_more : (all : List Kind) (last : Kind) → counts_of (all ++ (last ∷ [])) ≡ added (counts_of all) last
counts_more all last =
    let later = all ++ (last ∷ []) in
    ap (λ (n : ℕ). counts_with n (count_of kinds.Moved later) (count_of kinds.Between later) (count_of kinds.Mixed later) (count_of kinds.Open later)) (count_more kinds.Steady all last)
    ∙ ap (λ (n : ℕ). counts_with (added (counts_of all) last).steady n (count_of kinds.Between later) (count_of kinds.Mixed later) (count_of kinds.Open later)) (count_more kinds.Moved all last)
    ∙ ap (λ (n : ℕ). counts_with (added (counts_of all) last).steady (added (counts_of all) last).moved n (count_of kinds.Mixed later) (count_of kinds.Open later)) (count_more kinds.Between all last)
    ∙ ap (λ (n : ℕ). counts_with (added (counts_of all) last).steady (added (counts_of all) last).moved (added (counts_of all) last).between n (count_of kinds.Open later)) (count_more kinds.Mixed all last)
    ∙ ap (λ (n : ℕ). counts_with (added (counts_of all) last).steady (added (counts_of all) last).moved (added (counts_of all) last).between (added (counts_of all) last).mixed n) (count_more kinds.Open all last)

-- with one of each kind at most they are as many as packets
abbrev pub total : KindCounts → ℕ
total counts = counts.steady + counts.moved + counts.between + counts.mixed + counts.left_open

one_kind : (kind : Kind) → one (is_kind kinds.Steady kind) + one (is_kind kinds.Moved kind) + one (is_kind kinds.Between kind) + one (is_kind kinds.Mixed kind) + one (is_kind kinds.Open kind) ≡ 1
one_kind kinds.Steady = refl
one_kind kinds.Moved = refl
one_kind kinds.Between = refl
one_kind kinds.Mixed = refl
one_kind kinds.Open = refl

count_first : (kind first : Kind) (all : List Kind) → count_of kind (first ∷ all) ≡ one (is_kind kind first) + count_of kind all
count_first kind first all =
    let whole = length-filter (is_kind kind) (first ∷ all) in
    let rest = length-filter (is_kind kind) all in
    let split = ap length (filter-append (is_kind kind) (first ∷ []) all) in
    let sum = length-append (filter (is_kind kind) (first ∷ [])) (filter (is_kind kind) all) in
    let alone = by_test (is_kind kind first) first in
    omega (arith, whole, rest, split, sum, alone)

pub total_is : (all : List Kind) → total (counts_of all) ≡ length all
total_is [] = refl
total_is (first ∷ all) =
    let a = count_first kinds.Steady first all in
    let b = count_first kinds.Moved first all in
    let c = count_first kinds.Between first all in
    let d = count_first kinds.Mixed first all in
    let e = count_first kinds.Open first all in
    let rest = total_is all in
    let this = one_kind first in
    omega (arith, a, b, c, d, e, rest, this)

-- ---- what counting one packet more leaves
pub record IsAdded (old new : KindCounts) (kind : Kind) : Type 0 where
  pub steady : new.steady ≡ old.steady + one (is_kind kinds.Steady kind)
  pub moved : new.moved ≡ old.moved + one (is_kind kinds.Moved kind)
  pub between : new.between ≡ old.between + one (is_kind kinds.Between kind)
  pub mixed : new.mixed ≡ old.mixed + one (is_kind kinds.Mixed kind)
  pub left_open : new.left_open ≡ old.left_open + one (is_kind kinds.Open kind)

pub is_more : (old new : KindCounts) (kind : Kind) (all : List Kind) → IsAdded old new kind → old ≡ counts_of all → new ≡ counts_of (all ++ (kind ∷ []))
is_more old new kind all more is =
    let more_now : KindCounts = added old kind in
    ap (λ (n : ℕ). counts_with n new.moved new.between new.mixed new.left_open) more.steady
    ∙ ap (λ (n : ℕ). counts_with more_now.steady n new.between new.mixed new.left_open) more.moved
    ∙ ap (λ (n : ℕ). counts_with more_now.steady more_now.moved n new.mixed new.left_open) more.between
    ∙ ap (λ (n : ℕ). counts_with more_now.steady more_now.moved more_now.between n new.left_open) more.mixed
    ∙ ap (λ (n : ℕ). counts_with more_now.steady more_now.moved more_now.between more_now.mixed n) more.left_open
    ∙ ap (λ (counts : KindCounts). added counts kind) is
    ∙ sym (counts_more all kind)

plus_none : (n : ℕ) → n ≡ n + 0
plus_none n = omega arith

pub add_steady : (old new : KindCounts) → new ≡ record { steady = old.steady + 1; moved = old.moved; between = old.between; mixed = old.mixed; left_open = old.left_open } → IsAdded old new kinds.Steady
add_steady old new is = record {
  steady = ap (λ (c : KindCounts). c.steady) is;
  moved = ap (λ (c : KindCounts). c.moved) is ∙ plus_none old.moved;
  between = ap (λ (c : KindCounts). c.between) is ∙ plus_none old.between;
  mixed = ap (λ (c : KindCounts). c.mixed) is ∙ plus_none old.mixed;
  left_open = ap (λ (c : KindCounts). c.left_open) is ∙ plus_none old.left_open;
}

pub add_moved : (old new : KindCounts) → new ≡ record { steady = old.steady; moved = old.moved + 1; between = old.between; mixed = old.mixed; left_open = old.left_open } → IsAdded old new kinds.Moved
add_moved old new is = record {
  steady = ap (λ (c : KindCounts). c.steady) is ∙ plus_none old.steady;
  moved = ap (λ (c : KindCounts). c.moved) is;
  between = ap (λ (c : KindCounts). c.between) is ∙ plus_none old.between;
  mixed = ap (λ (c : KindCounts). c.mixed) is ∙ plus_none old.mixed;
  left_open = ap (λ (c : KindCounts). c.left_open) is ∙ plus_none old.left_open;
}

pub add_between : (old new : KindCounts) → new ≡ record { steady = old.steady; moved = old.moved; between = old.between + 1; mixed = old.mixed; left_open = old.left_open } → IsAdded old new kinds.Between
add_between old new is = record {
  steady = ap (λ (c : KindCounts). c.steady) is ∙ plus_none old.steady;
  moved = ap (λ (c : KindCounts). c.moved) is ∙ plus_none old.moved;
  between = ap (λ (c : KindCounts). c.between) is;
  mixed = ap (λ (c : KindCounts). c.mixed) is ∙ plus_none old.mixed;
  left_open = ap (λ (c : KindCounts). c.left_open) is ∙ plus_none old.left_open;
}

pub add_mixed : (old new : KindCounts) → new ≡ record { steady = old.steady; moved = old.moved; between = old.between; mixed = old.mixed + 1; left_open = old.left_open } → IsAdded old new kinds.Mixed
add_mixed old new is = record {
  steady = ap (λ (c : KindCounts). c.steady) is ∙ plus_none old.steady;
  moved = ap (λ (c : KindCounts). c.moved) is ∙ plus_none old.moved;
  between = ap (λ (c : KindCounts). c.between) is ∙ plus_none old.between;
  mixed = ap (λ (c : KindCounts). c.mixed) is;
  left_open = ap (λ (c : KindCounts). c.left_open) is ∙ plus_none old.left_open;
}

pub add_open : (old new : KindCounts) → new ≡ record { steady = old.steady; moved = old.moved; between = old.between; mixed = old.mixed; left_open = old.left_open + 1 } → IsAdded old new kinds.Open
add_open old new is = record {
  steady = ap (λ (c : KindCounts). c.steady) is ∙ plus_none old.steady;
  moved = ap (λ (c : KindCounts). c.moved) is ∙ plus_none old.moved;
  between = ap (λ (c : KindCounts). c.between) is ∙ plus_none old.between;
  mixed = ap (λ (c : KindCounts). c.mixed) is ∙ plus_none old.mixed;
  left_open = ap (λ (c : KindCounts). c.left_open) is;
}

-- of a kind that is known
pub more_of : (old new : KindCounts) (kind this : Kind) (all : List Kind) → kind ≡ this → IsAdded old new this → old ≡ counts_of all
    → new ≡ counts_of (all ++ (kind ∷ []))
more_of old new kind this all is more counted =
    is_more old new kind all (subst (λ (k : Kind). IsAdded old new k) (sym is) more) counted
