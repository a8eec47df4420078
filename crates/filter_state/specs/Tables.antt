-- Tables, masks and filters among the rows.
use Rattle.std.specs.Prelude.{ℕ, ◌+◌, ◌==◌, ◌&&◌, nat_lt, Bool, true, false, List, [], ◌∷◌, length, filter}
use Rattle.std.specs.Prelude.{Option, Some, None, if◌then◌else◌}
use Rattle.std.specs.List.{list_any}
use Rattle.std.specs.Str.{bytes_eq}
use Rattle.tc_base.specs.declared.hook.Hook.{Hook}
use Rattle.tc_base.specs.declared.hook.Hook.TheVariants as hooks
use Rattle.tc_base.specs.declared.hook.Proto.{Proto}
use Rattle.tc_base.specs.declared.hook.Proto.TheVariants as protocols
use Rattle.filter_state.specs.States.{Row}
use Rattle.filter_state.specs.Actions.{first_free}

abbrev pub hook_eq : Hook → Hook → Bool
hook_eq hooks.Ingress hooks.Ingress = true
hook_eq hooks.Egress hooks.Egress = true
hook_eq a b = false

abbrev pub protocol_eq : Proto → Proto → Bool
protocol_eq protocols.All protocols.All = true
protocol_eq (protocols.Ether a) (protocols.Ether b) = a == b
protocol_eq a b = false

abbrev pub in_hook : Hook → Row → Bool
in_hook hook row = hook_eq row.hook hook

abbrev pub in_chain : Hook → ℕ → Row → Bool
in_chain hook chain row = in_hook hook row && row.chain == chain

-- the row is of the table with that hook, chain and pref
abbrev pub in_table : Hook → ℕ → ℕ → Row → Bool
in_table hook chain pref row = in_chain hook chain row && row.pref == pref

-- the row has that mask and that key
abbrev pub has_mask : List ℕ → Row → Bool
has_mask mask row = bytes_eq row.mask mask

abbrev pub has_match : List ℕ → List ℕ → Row → Bool
has_match mask key row = has_mask mask row && bytes_eq row.key key

abbrev pub has_handle : ℕ → Row → Bool
has_handle handle row = row.handle == handle

-- the first element that passes a test
abbrev pub first_where : {X : Type 0} → (X → Bool) → List X → Option X
first_where test [] = None
first_where test (x ∷ xs) = if test x then Some x else first_where test xs

-- the lesser of a number and one that may be there
abbrev pub lesser : ℕ → Option ℕ → ℕ
lesser a None = a
lesser a (Some b) = if nat_lt b a then b else a

-- the lowest pref of some rows
abbrev pub lowest_pref : List Row → Option ℕ
lowest_pref [] = None
lowest_pref (row ∷ rows) = Some (lesser row.pref (lowest_pref rows))

-- numbers, each once
abbrev pub distinct : List ℕ → List ℕ
distinct [] = []
distinct (n ∷ ns) = if list_any (λ m. m == n) ns then distinct ns else n ∷ distinct ns

abbrev pub tables_of : List Row → List ℕ
tables_of [] = []
tables_of (row ∷ rows) = row.table ∷ tables_of rows

abbrev pub masks_of : List Row → List ℕ
masks_of [] = []
masks_of (row ∷ rows) = row.mask_serial ∷ masks_of rows

-- how many tables a hook has, and how many masks a table
abbrev pub table_count : Hook → List Row → ℕ
table_count hook rows = length (distinct (tables_of (filter (in_hook hook) rows)))

abbrev pub mask_count : Hook → ℕ → ℕ → List Row → ℕ
mask_count hook chain pref rows = length (distinct (masks_of (filter (in_table hook chain pref) rows)))

-- the lowest handle from 1 that a table doesn't use
abbrev pub free_handle : Hook → ℕ → ℕ → List Row → ℕ
free_handle hook chain pref rows = first_free
    (λ handle. list_any (has_handle handle) (filter (in_table hook chain pref) rows)) (length rows) 1

-- the serial of the table of a row, or the next one
abbrev pub table_or_next : Option Row → ℕ → ℕ
table_or_next (Some row) made = row.table
table_or_next None made = made + 1

-- the serial of the mask of a row, or the next one
abbrev pub mask_or_next : Option Row → ℕ → ℕ
mask_or_next (Some row) made = row.mask_serial
mask_or_next None made = made + 1

-- a row of the table, where it is there
abbrev pub table_row : Hook → ℕ → ℕ → List Row → Option Row
table_row hook chain pref rows = first_where (in_table hook chain pref) rows

-- a row of the table with that mask, where it is there
abbrev pub mask_row : Hook → ℕ → ℕ → List ℕ → List Row → Option Row
mask_row hook chain pref mask rows =
    first_where (λ row. in_table hook chain pref row && has_mask mask row) rows

-- the row with that handle in the table, where it is there
abbrev pub filter_row : Hook → ℕ → ℕ → ℕ → List Row → Option Row
filter_row hook chain pref handle rows =
    first_where (λ row. in_table hook chain pref row && has_handle handle row) rows
