-- The live actions as a list, and what the calls make of it. The counts and their rules are those of the
-- kernel's net/sched/act_api.c, whose functions are named. Serials, and what names nothing, are this
-- project's own.
use Rattle.act_registry.specs.declared.limits.TheConstants.{ACTIONS_MAX, MADE_MAX}
use Rattle.std.specs.Prelude.{◌≡◌, ℕ, ◌+◌, ◌-◌, ◌<◌, ◌≤◌, Bool, true, false, not, ◌==◌, ◌&&◌, nat_lt, List}
use Rattle.std.specs.Prelude.{length, map, filter, find, Option, unwrap_or, if◌then◌else◌}
use Rattle.std.specs.List.{All, AllPairs, list_any, range_with_len}
use Rattle.act_registry.specs.declared.entry.Entry.{Entry}

-- the entry has that kind and index (tcf_idr_search)
abbrev pub is_named : {P : Type 0} → (P → ℕ) → ℕ → ℕ → Entry P → Bool
is_named kind_of kind index e = kind_of e.params == kind && e.index == index

-- the entry has that serial
abbrev pub has_serial : {P : Type 0} → ℕ → Entry P → Bool
has_serial serial e = e.serial == serial

-- an entry that one more place names (tcf_idr_check_alloc with bind)
abbrev pub bound_more : {P : Type 0} → Entry P → Entry P
bound_more e = record e { references = e.references + 1; binds = e.binds + 1 }

-- an entry that one place fewer names (__tcf_action_put with bind)
abbrev pub bound_less : {P : Type 0} → Entry P → Entry P
bound_less e = record e { references = e.references - 1; binds = e.binds - 1 }

-- an entry with other parameters (tcf_action_init with TCA_ACT_FLAGS_REPLACE)
abbrev pub with_params : {P : Type 0} → P → Entry P → Entry P
with_params params e = record e { params = params }

-- a new entry: bound by a place in a filter, or held on its own (tcf_idr_create)
abbrev pub new_entry : {P : Type 0} → ℕ → ℕ → P → Bool → Entry P
new_entry serial index params bound =
    record { serial = serial; index = index; params = params; references = 1; binds = if bound then 1 else 0 }

-- the entries, with those changed that pass the test
abbrev pub change_where : {P : Type 0} → (Entry P → Bool) → (Entry P → Entry P) → List (Entry P)
    → List (Entry P)
change_where test change es = map (λ e. if test e then change e else e) es

-- the entries that don't pass the test
abbrev pub leave_out : {P : Type 0} → (Entry P → Bool) → List (Entry P) → List (Entry P)
leave_out test es = filter (λ e. not (test e)) es

-- the entries that someone holds still (tcf_action_cleanup when tcfa_refcnt is 0)
abbrev pub still_held : {P : Type 0} → List (Entry P) → List (Entry P)
still_held es = filter (λ e. nat_lt 0 e.references) es

-- the entries once a place has let one of them go
abbrev pub unbound : {P : Type 0} → ℕ → List (Entry P) → List (Entry P)
unbound serial es = still_held (change_where (has_serial serial) bound_less es)

-- an entry has that kind and index
abbrev pub is_used : {P : Type 0} → (P → ℕ) → ℕ → List (Entry P) → ℕ → Bool
is_used kind_of kind es index = list_any (is_named kind_of kind index) es

-- the lowest index from 1 that the kind doesn't use: one of the numbers up to how many entries there are, or
-- the next (idr_alloc_u32 from 1, in tcf_idr_check_alloc)
abbrev pub lowest_unused : {P : Type 0} → (P → ℕ) → ℕ → List (Entry P) → ℕ
lowest_unused kind_of kind es =
    unwrap_or (find (λ index. not (is_used kind_of kind es index)) (range_with_len 1 (length es + 1))) 0

-- the same as a relation: from 1 on, unused, and all below are used
pub record IsLowestUnused {P : Type 0} (kind_of : P → ℕ) (kind : ℕ) (es : List (Entry P))
    (index : ℕ) : Type 0 where
  pub from_one : 1 ≤ index
  pub unused : is_used kind_of kind es index ≡ false
  pub lower : (below : ℕ) → 1 ≤ below → below < index → is_used kind_of kind es below ≡ true

-- the index that an action gets: its own, or the lowest that is free (tcf_idr_check_alloc)
abbrev pub index_for : {P : Type 0} → (P → ℕ) → ℕ → List (Entry P) → Option ℕ → ℕ
index_for kind_of kind es index = unwrap_or index (lowest_unused kind_of kind es)

-- each serial is below those behind it
abbrev pub AreRising : {P : Type 0} → List (Entry P) → Type 0
AreRising es = AllPairs (λ a b. a.serial < b.serial) es

-- no two have the same kind and index
abbrev pub AreApart : {P : Type 0} → (P → ℕ) → List (Entry P) → Type 0
AreApart kind_of es = AllPairs (λ a b. is_named kind_of (kind_of b.params) b.index a ≡ false) es

-- what is true of each entry after so many were made
pub record IsLive {P : Type 0} (made : ℕ) (e : Entry P) : Type 0 where
  pub counted : 1 ≤ e.serial
  pub so_far : e.serial ≤ made
  pub held : 1 ≤ e.references
  pub bound : e.binds ≤ e.references

-- what is true of each registry: its entries, after so many were made
pub record AreLive {P : Type 0} (kind_of : P → ℕ) (es : List (Entry P)) (made : ℕ) : Type 0 where
  pub rising : AreRising es
  pub apart : AreApart kind_of es
  pub each : All (IsLive made) es
  pub few : length es ≤ ACTIONS_MAX
  pub in_run : made ≤ MADE_MAX
