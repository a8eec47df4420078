-- Where a table of a chain and pref stands among those of a hook (this project's own).
use Rattle.std.specs.Prelude.{◌≡◌, ℕ, ◌≤◌, Bool, true, false, ◌==◌, ◌&&◌, ◌||◌, nat_lt, List, length}
use Rattle.std.specs.List.Sorted.{IsPartitionPoint}
use Rattle.filter_tables.specs.declared.filter_table.FilterTable.{FilterTable}
use Rattle.filter_tables.specs.Plain.{PlainTable}
use Rattle.filter_tables.specs.Seen.{plain_table}

-- the table stands before that chain and pref
abbrev pub is_ahead : ℕ → ℕ → PlainTable → Bool
is_ahead chain pref t = nat_lt t.chain chain || (t.chain == chain && nat_lt t.pref pref)

-- all tables before that place, and none from it on, stand before the chain and pref
abbrev pub IsTablePlace : ℕ → ℕ → List FilterTable → ℕ → Type 0
IsTablePlace chain pref ts at =
    (at ≤ length ts)
    × IsPartitionPoint (λ t. is_ahead chain pref (plain_table t) ≡ true)
    (λ t. is_ahead chain pref (plain_table t) ≡ false) ts at
