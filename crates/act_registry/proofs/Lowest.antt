-- The lowest index that a kind doesn't use.
use Rattle.std.proofs.Common.{◌≡◌, ℕ, ◌+◌, zero, suc, ◌<◌, ◌≤◌, Bool, true, false, List, length, Some, sym, ap, inl, inr, subst, arith}
use Rattle.std.specs.Prelude.{find, not, unwrap_or}
use Rattle.std.specs.List.{count_by, range_with_len}
use Rattle.std.proofs.lemmas.Bool.{cases_lt}
use Rattle.act_registry.specs.declared.entry.Entry.{Entry}
use Rattle.act_registry.specs.declared.names.Name.{Name}
use Rattle.act_registry.specs.Entries.{IsLowestUnused, lowest_unused, is_used, is_named}
use Rattle.act_registry.specs.Names.{AreNamesOf, has_name}
use Rattle.act_registry.proofs.OnePlace.{none-any, only-any-at}
use Rattle.act_registry.proofs.Index.{none-named, some-named}

-- what the sorted names tell
pub lowest-from_names : {P : Type 0} (kind_of : P → ℕ) (kind index : ℕ) (es : List (Entry P)) (ns read : List Name) → AreNamesOf kind_of es ns → read ≡ ns → 1 ≤ index →
    count_by (has_name kind index) read ≡ 0 → ((lower : ℕ) → 1 ≤ lower → lower < index → 0 < count_by (has_name kind lower) read) →
    IsLowestUnused kind_of kind es index
lowest-from_names {P} kind_of kind index es ns read named is from_one free lower =
    let same : AreNamesOf kind_of es read = (let Q : List Name → Type 0 = λ ms. AreNamesOf kind_of es ms in subst Q (sym is) named) in
    record {
      from_one = from_one;
      unused = none-any (is_named kind_of kind index) es (none-named kind_of kind index es read same free);
      lower = λ below one less.
          let place = some-named kind_of (has_name kind below) es read same (lower below one less) in
          only-any-at (is_named kind_of kind below) es place.0 place.1 place.2;
    }

-- the first number of a range that passes
find-range : (test : ℕ → Bool) (from count n : ℕ) → from ≤ n → n < from + count → test n ≡ true → ((k : ℕ) → from ≤ k → k < n → test k ≡ false) →
    find test (range_with_len from count) ≡ Some n
find-range test from zero n low high passes before = absurd (omega arith)
find-range test from (suc count) n low high passes before =
    elim (cases_lt from n) [
      | inl less ↦
          let first : test from ≡ false = before from (omega arith) less in
          rw first (find-range test (from + 1) count n (omega arith) (omega arith) passes (λ k up down. before k (omega arith) down))
      | inr up ↦
          let e : n ≡ from = omega (arith, low, up) in
          let first : test from ≡ true = (let Q : ℕ → Type 0 = λ k. test k ≡ true in subst Q e passes) in
          rw first (ap (λ k. Some k) (sym e))
    ]

-- the relation tells which number it is
pub lowest-is : {P : Type 0} (kind_of : P → ℕ) (kind index : ℕ) (es : List (Entry P)) → IsLowestUnused kind_of kind es index → index ≤ length es + 1 →
    index ≡ lowest_unused kind_of kind es
lowest-is kind_of kind index es lowest few =
    let found = find-range (λ k. not (is_used kind_of kind es k)) 1 (length es + 1) index lowest.from_one (omega (arith, few))
    (ap not lowest.unused) (λ k one less. ap not (lowest.lower k one less)) in
    sym (ap (λ o. unwrap_or o 0) found)
