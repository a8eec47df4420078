-- What a shelf in memory shows, and when it answers what. This project's own.
use Rattle.std.specs.Prelude.{◌≡◌, ℕ, List, Bool, false, IsTrue, Option, Some, None, Result, Ok, Err, String}
use Rattle.std.specs.Prelude.{string_bytes, map}
use Rattle.std.specs.Option.{option_map}
use Rattle.std.specs.BTreeMap.{get_by_text, BTreeMap}
use Rattle.std.specs.Global.{Vec}
use Rattle.std.specs.declared.alloc.Global.{Global}
use Rattle.tc_base.specs.declared.mem_shelf.MemShelf.{MemShelf}
use Rattle.tc_base.specs.declared.outside.Fetch.{Fetch}
use Rattle.tc_base.specs.declared.outside.Fetch.TheVariants as fetches
use Rattle.tc_base.specs.Counts.{one_more, is_listed}
use Rattle.tc_base.specs.Outside.{Held}

-- the bytes under each name of a map
abbrev pub held_in : BTreeMap (String Global) (Vec ℕ) → Held
held_in files name = option_map (λ bytes. bytes.items) (get_by_text files name)

-- the bytes under each name
abbrev pub held_of : MemShelf → Held
held_of shelf = held_in shelf.files

-- how many calls of fetch and put were made
abbrev pub calls_of : MemShelf → ℕ
calls_of shelf = shelf.calls.made

-- the numbers of the calls that are to fail
abbrev pub fails_of : MemShelf → List ℕ
fails_of shelf = shelf.calls.fails

-- how often a fetch failed
abbrev pub read_faults_of : MemShelf → ℕ
read_faults_of shelf = shelf.faults.read

-- how often a put failed
abbrev pub write_faults_of : MemShelf → ℕ
write_faults_of shelf = shelf.faults.write

-- the name of the last fetch that was answered Failed
abbrev pub failed_name_of : MemShelf → Option (List ℕ)
failed_name_of shelf = option_map string_bytes shelf.faults.failed

-- the names in a list of texts
abbrev pub names_in : Vec (String Global) → List (List ℕ)
names_in texts = map string_bytes texts.items

-- the names that were fetched so far, in order
abbrev pub fetched_of : MemShelf → List (List ℕ)
fetched_of shelf = names_in shelf.fetched

-- the names that were put so far, in order
abbrev pub put_names_of : MemShelf → List (List ℕ)
put_names_of shelf = names_in shelf.put

-- the number of the fetch or put that comes next
abbrev pub next_call : MemShelf → ℕ
next_call shelf = one_more (calls_of shelf)

-- the fetch or put that comes next is to fail
abbrev pub fails_next : MemShelf → Bool
fails_next shelf = is_listed (fails_of shelf) (next_call shelf)

-- when each answer of a fetch comes, by whether the call is listed and by what is held under the
-- name; want of memory may come at any call
abbrev pub FetchAnswers : Bool → Option (List ℕ) → Result (Vec ℕ) Fetch → Type 0
FetchAnswers listed held (Ok bytes) = (listed ≡ false) × (held ≡ Some bytes.items)
FetchAnswers listed held (Err fetches.Missing) = (listed ≡ false) × (held ≡ None)
FetchAnswers listed held (Err fetches.Failed) = IsTrue listed
FetchAnswers listed held (Err (fetches.NoMemory memory)) = Unit {0}

-- all but what is held is as before
pub record CountsStay (old new : MemShelf) : Type 0 where
  pub calls : calls_of new ≡ calls_of old
  pub fails : fails_of new ≡ fails_of old
  pub read_faults : read_faults_of new ≡ read_faults_of old
  pub write_faults : write_faults_of new ≡ write_faults_of old
  pub failed_name : failed_name_of new ≡ failed_name_of old
  pub fetched : fetched_of new ≡ fetched_of old
  pub put_names : put_names_of new ≡ put_names_of old
