-- How often each action ran, by serial.
use Rattle.std.proofs.Common.{◌≡◌, ◌∙◌, ℕ, zero, suc, ◌+◌, ◌*◌, ◌^◌, ◌<◌, ◌≤◌, ◌==◌, Bool, true, false, List, [], ◌∷◌, ◌++◌, length, get_or, set, take, refl, sym, ap, arith}
use Rattle.std.specs.Prelude.{◌≢◌, replicate, count_by, sum_by, if◌then◌else◌}
use Rattle.std.proofs.lemmas.Bool.Decides.{nat_tests}
use Rattle.std.proofs.lemmas.Grind.{get_or-set_at}
use Rattle.std.proofs.lemmas.List.{get_or-set_other, length-append, length-take}
use Rattle.std.proofs.lemmas.List.Sums.{sum_by-append, sum_by-cons}
use Rattle.filter_state.specs.Sound.{Each}
use Rattle.walk_ends.specs.declared.counts.Count.{Count}
use Rattle.walk_steps.specs.Told.{IsShortRun}
use Rattle.run_report.specs.declared.outcomes.Outcome.{Outcome}
use Rattle.lawful_runs.specs.Lawful.{executed_in}
use Rattle.run_counts.specs.Counting.{no_count, count_of, counted_in, both, AreAtMost}

-- ---- more places
padded : (places : List Count) (k n : ℕ) → get_or (places ++ replicate k no_count) n no_count ≡ get_or places n no_count
padded [] zero n = refl
padded [] (suc k) zero = refl
padded [] (suc k) (suc n) = padded [] k n
padded (place ∷ places) k zero = refl
padded (place ∷ places) k (suc n) = padded places k n

pub grown : (places now : List Count) (k n : ℕ) → now ≡ places ++ replicate k no_count → count_of now n ≡ count_of places n
grown places now k n is = ap (λ (ps : List Count). count_of ps n) is ∙ padded places k n

-- ---- a count is set
number : (a b : ℕ) → (a == b) ≡ true → a ≡ b
number a b is = grind (arith, nat_tests, is)

another : (a b : ℕ) → (a == b) ≡ false → a ≢ b
another a b is = λ same. grind (arith, nat_tests, is, same)

pub set_one : (places : List Count) (serial other : ℕ) (count : Count) → serial < length places → count_of (set places serial count) other ≡ (if other == serial then count else count_of places other)
set_one places serial other count within = by_test (other == serial) refl
  where
    by_test : (b : Bool) → (other == serial) ≡ b → count_of (set places serial count) other ≡ (if b then count else count_of places other)
    by_test true is = get_or-set_at places serial other count no_count (number other serial is) within
    by_test false is = get_or-set_other places serial other count no_count (another other serial is)

-- ---- executions, one after the other
pub both_none : (count : Count) → both count no_count ≡ count
both_none count =
    ap (λ (n : ℕ). record { packets = n; bytes = count.bytes + 0 }) (let same : count.packets + 0 ≡ count.packets = omega arith in same)
    ∙ ap (λ (n : ℕ). record { packets = count.packets; bytes = n }) (let same : count.bytes + 0 ≡ count.bytes = omega arith in same)

counts_equal : (one other : Count) → one.packets ≡ other.packets → one.bytes ≡ other.bytes → one ≡ other
counts_equal one other packets bytes =
    ap (λ (n : ℕ). record { packets = n; bytes = one.bytes }) packets ∙ ap (λ (n : ℕ). record { packets = other.packets; bytes = n }) bytes

pub counted_append : (xs ys : List (ℕ × ℕ)) (serial : ℕ) → counted_in (xs ++ ys) serial ≡ both (counted_in xs serial) (counted_in ys serial)
counted_append xs ys serial = counts_equal (counted_in (xs ++ ys) serial) (both (counted_in xs serial) (counted_in ys serial))
    (sum_by-append (λ (e : ℕ × ℕ). if e.0 == serial then 1 else 0) xs ys)
    (sum_by-append (λ (e : ℕ × ℕ). if e.0 == serial then e.1 else 0) xs ys)

-- ---- few packets have small counts
pub one_most : (b : Bool) → (if b then 1 else 0) ≤ 1
one_most true = omega arith
one_most false = omega arith

some_most : (b : Bool) (n most : ℕ) → n ≤ most → (if b then n else 0) ≤ most
some_most true n most few = few
some_most false n most few = omega arith

run_most : (executed : List (ℕ × ℕ)) (serial : ℕ) → Each (λ (run : ℕ × ℕ). run.1 ≤ 262144) executed → ((counted_in executed serial).packets ≤ length executed) × ((counted_in executed serial).bytes ≤ 262144 * length executed)
run_most [] serial each = (omega arith, omega arith)
run_most (e ∷ executed) serial each =
    let rest = run_most executed serial each.1 in
    let count = sum_by-cons (λ (x : ℕ × ℕ). if x.0 == serial then 1 else 0) e executed in
    let bytes = sum_by-cons (λ (x : ℕ × ℕ). if x.0 == serial then x.1 else 0) e executed in
    let one = one_most (e.0 == serial) in
    let some = some_most (e.0 == serial) e.1 262144 each.0 in
    (omega (arith, rest, count, one), omega (arith, rest, bytes, some))

pub all_most : (outcomes : List Outcome) (serial : ℕ) → Each (λ (outcome : Outcome). IsShortRun outcome.executed) outcomes
    → ((counted_in (executed_in outcomes) serial).packets ≤ 65536 * length outcomes) × ((counted_in (executed_in outcomes) serial).bytes ≤ 17179869184 * length outcomes)
all_most [] serial each = (omega arith, omega arith)
all_most (outcome ∷ outcomes) serial each =
    let rest = all_most outcomes serial each.1 in
    let own = run_most outcome.executed serial each.0.1 in
    let few : length outcome.executed ≤ 65536 = each.0.0 in
    let sum = counted_append outcome.executed (executed_in outcomes) serial in
    let packets = ap (λ (c : Count). c.packets) sum in
    let bytes = ap (λ (c : Count). c.bytes) sum in
    (omega (arith, rest, own, few, packets), omega (arith, rest, own, few, bytes))

pub are_at_most : (counts : List Count) (outcomes : List Outcome) → ((serial : ℕ) → count_of counts serial ≡ counted_in (executed_in outcomes) serial) → Each (λ (outcome : Outcome). IsShortRun outcome.executed) outcomes → length outcomes < 1048576
    → AreAtMost (2 ^ 62) counts
are_at_most counts outcomes are short few = λ serial.
    let most = all_most outcomes serial short in
    let packets = ap (λ (c : Count). c.packets) (are serial) in
    let bytes = ap (λ (c : Count). c.bytes) (are serial) in
    (omega (arith, most, packets, few), omega (arith, most, bytes, few))

-- ---- one execution more
flipped : (a b : ℕ) (t : Bool) → (a == b) ≡ t → (b == a) ≡ t
flipped a b true is = grind (arith, nat_tests, is)
flipped a b false is = grind (arith, nat_tests, is)

single : (serial length other : ℕ) (t : Bool) → (serial == other) ≡ t → counted_in ((serial, length) ∷ []) other ≡ (if t then record { packets = 1; bytes = length } else no_count)
single serial length other true is = counts_equal (counted_in ((serial, length) ∷ []) other) (record { packets = 1; bytes = length })
    (ap (λ (b : Bool). 0 + (if b then 1 else 0)) is) (ap (λ (b : Bool). 0 + (if b then length else 0)) is ∙ (let same : 0 + length ≡ length = omega arith in same))
single serial length other false is = counts_equal (counted_in ((serial, length) ∷ []) other) no_count
    (ap (λ (b : Bool). 0 + (if b then 1 else 0)) is) (ap (λ (b : Bool). 0 + (if b then length else 0)) is)

grouped : (a b c : Count) → both (both a b) c ≡ both a (both b c)
grouped a b c = counts_equal (both (both a b) c) (both a (both b c)) (omega arith) (omega arith)

pub add_more : (counts now : List Count) (xs : List (ℕ × ℕ)) (serial length other : ℕ) (start : Count) → ((s : ℕ) → s ≡ other → count_of counts s ≡ both start (counted_in xs s))
    → count_of now other ≡ (if other == serial then both (count_of counts serial) (record { packets = 1; bytes = length }) else count_of counts other)
    → count_of now other ≡ both start (counted_in (xs ++ ((serial, length) ∷ [])) other)
add_more counts now xs serial length other start before is = by_test (other == serial) refl
  where
    joined : both start (both (counted_in xs other) (counted_in ((serial, length) ∷ []) other)) ≡ both start (counted_in (xs ++ ((serial, length) ∷ [])) other)
    joined = ap (both start) (sym (counted_append xs ((serial, length) ∷ []) other))

    by_test : (t : Bool) → (other == serial) ≡ t → count_of now other ≡ both start (counted_in (xs ++ ((serial, length) ∷ [])) other)
    by_test true same =
        is ∙ ap (λ (b : Bool). if b then both (count_of counts serial) (record { packets = 1; bytes = length }) else count_of counts other) same
        ∙ ap (λ (c : Count). both c (record { packets = 1; bytes = length })) (before serial (sym (number other serial same)) ∙ ap (λ (s : ℕ). both start (counted_in xs s)) (sym (number other serial same)))
        ∙ grouped start (counted_in xs other) (record { packets = 1; bytes = length })
        ∙ ap (λ (c : Count). both start (both (counted_in xs other) c)) (sym (single serial length other true (flipped other serial true same))) ∙ joined
    by_test false differ =
        is ∙ ap (λ (b : Bool). if b then both (count_of counts serial) (record { packets = 1; bytes = length }) else count_of counts other) differ
        ∙ before other refl ∙ sym (both_none (both start (counted_in xs other))) ∙ grouped start (counted_in xs other) no_count
        ∙ ap (λ (c : Count). both start (both (counted_in xs other) c)) (sym (single serial length other false (flipped other serial false differ))) ∙ joined

-- ---- a part of a walk
each_taken : (k : ℕ) (xs : List (ℕ × ℕ)) → Each (λ (run : ℕ × ℕ). run.1 ≤ 262144) xs → Each (λ (run : ℕ × ℕ). run.1 ≤ 262144) (take k xs)
each_taken zero xs each = tt
each_taken (suc k) [] each = tt
each_taken (suc k) (x ∷ xs) each = (each.0, each_taken k xs each.1)

pub part_most : (xs : List (ℕ × ℕ)) (k serial : ℕ) → IsShortRun xs → ((counted_in (take k xs) serial).packets ≤ 65536) × ((counted_in (take k xs) serial).bytes ≤ 17179869184)
part_most xs k serial short =
    let most = run_most (take k xs) serial (each_taken k xs short.1) in
    let few : length xs ≤ 65536 = short.0 in
    let long = length-take k xs in
    (omega (arith, most, few, long), omega (arith, most, few, long))

-- the length of a frame
pub run_small : (xs : List (ℕ × ℕ)) (i : ℕ) → Each (λ (run : ℕ × ℕ). run.1 ≤ 262144) xs → (get_or xs i (0, 0)).1 ≤ 262144
run_small [] zero each = omega arith
run_small [] (suc i) each = omega arith
run_small (x ∷ xs) zero each = each.0
run_small (x ∷ xs) (suc i) each = run_small xs i each.1
