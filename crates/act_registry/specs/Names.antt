-- The names that the registry keeps sorted beside its entries (this project's own). No contract that callers
-- see speaks of them.
use Rattle.std.specs.Prelude.{◌≡◌, ℕ, ◌≤◌, Bool, true, false, ◌==◌, ◌&&◌, ◌||◌, nat_lt, List, length, map}
use Rattle.std.specs.List.{AllPairs, count_by}
use Rattle.std.specs.List.Sorted.{IsPartitionPoint}
use Rattle.act_registry.specs.declared.entry.Entry.{Entry}
use Rattle.act_registry.specs.declared.names.Name.{Name}

-- the name stands before that kind and index: it has a lower kind, or that kind and a lower index
abbrev pub is_before : ℕ → ℕ → Name → Bool
is_before kind index n = nat_lt n.kind kind || (n.kind == kind && nat_lt n.index index)

-- the name has that kind and index
abbrev pub has_name : ℕ → ℕ → Name → Bool
has_name kind index n = n.kind == kind && n.index == index

-- the name is exactly that
abbrev pub is_name : ℕ → ℕ → ℕ → Name → Bool
is_name kind index serial n = n.kind == kind && n.index == index && n.serial == serial

-- one name stands before another
abbrev pub ComesBefore : Name → Name → Type 0
ComesBefore a b = is_before b.kind b.index a ≡ true

-- all names before that place, and none from it on, stand before the kind and index
abbrev pub IsPlaceFor : ℕ → ℕ → List Name → ℕ → Type 0
IsPlaceFor kind index ns at =
    (at ≤ length ns)
    × IsPartitionPoint (λ n. is_before kind index n ≡ true) (λ n. is_before kind index n ≡ false) ns at

-- the name of an entry
abbrev pub name_of : {P : Type 0} → (P → ℕ) → Entry P → Name
name_of kind_of e = record { kind = kind_of e.params; index = e.index; serial = e.serial }

-- the names are those of the entries, in whatever order: each stands in both as often
abbrev pub AreNamesOf : {P : Type 0} → (P → ℕ) → List (Entry P) → List Name → Type 0
AreNamesOf kind_of es ns = (test : Name → Bool) → count_by test ns ≡ count_by test (map (name_of kind_of) es)

-- the names are sorted, and those of the entries
pub record AreIndexed {P : Type 0} (kind_of : P → ℕ) (es : List (Entry P)) (ns : List Name) : Type 0 where
  pub sorted : AllPairs ComesBefore ns
  pub same : AreNamesOf kind_of es ns
