-- Counts of calls and of faults, exactly. This project's own.
use Rattle.std.specs.Prelude.{ℕ, ◌+◌, ◌-◌, ◌^◌, ◌==◌, min, Bool, List, Option, Some, Result, Ok, Err}
use Rattle.std.specs.List.{list_any}
use Rattle.tc_base.specs.declared.outside.Fetch.{Fetch}
use Rattle.tc_base.specs.declared.outside.Fetch.TheVariants as fetches
use Rattle.tc_base.specs.declared.outside.Put.{Put}
use Rattle.tc_base.specs.declared.outside.Put.TheVariants as puts

-- a count that rose by one; it stands still at the end of its type
abbrev pub one_more : ℕ → ℕ
one_more count = min (count + 1) (2 ^ 64 - 1)

-- the call of this number is one of those that are to fail
abbrev pub is_listed : List ℕ → ℕ → Bool
is_listed fails call = list_any (λ n. n == call) fails

-- a count of read faults after a fetch that was answered so: it rises by one where that is Failed
abbrev pub count_after_fetch : {T : Type 0} → ℕ → Result T Fetch → ℕ
count_after_fetch before (Ok bytes) = before
count_after_fetch before (Err fetches.Missing) = before
count_after_fetch before (Err fetches.Failed) = one_more before
count_after_fetch before (Err (fetches.NoMemory memory)) = before

-- the last failed name after a fetch of a name that was answered so
abbrev pub name_after_fetch : {T N : Type 0} → Option N → N → Result T Fetch → Option N
name_after_fetch before name (Ok bytes) = before
name_after_fetch before name (Err fetches.Missing) = before
name_after_fetch before name (Err fetches.Failed) = Some name
name_after_fetch before name (Err (fetches.NoMemory memory)) = before

-- a count of write faults after a put or a write that was answered so
abbrev pub count_after_put : {T : Type 0} → ℕ → Result T Put → ℕ
count_after_put before (Ok done) = before
count_after_put before (Err puts.Failed) = one_more before
count_after_put before (Err (puts.NoMemory memory)) = before
