-- What the calls of a shelf and of a sink do to what is held or written, and why they fail.
-- This project's own. A shelf or a sink that tells nothing of content has None where it would tell.
use Rattle.std.specs.Prelude.{◌≡◌, ◌≢◌, ℕ, ◌+◌, ◌-◌, ◌^◌, ◌≤◌, min, List, [], ◌∷◌, ◌++◌, take, Option, Some, None}
use Rattle.std.specs.Prelude.{IfSome, IsSomeAnd, Result, Ok, Err, IsErrOf}
use Rattle.std.specs.Global.{Vec}
use Rattle.tc_base.specs.declared.outside.Fetch.{Fetch}
use Rattle.tc_base.specs.declared.outside.Fetch.TheVariants as fetches
use Rattle.tc_base.specs.declared.outside.Put.{Put}
use Rattle.tc_base.specs.declared.outside.Put.TheVariants as puts

-- a map from names to bytes: the bytes under a name, or None where nothing is held under it
abbrev pub Held : Type 0
Held = List ℕ → Option (List ℕ)

-- a count of 64 bits rose, or stands at its end
abbrev pub Rose : ℕ → ℕ → Type 0
Rose before now = min (before + 1) (2 ^ 64 - 1) ≤ now

-- what a fetch may answer: where the shelf tells what it holds, those bytes, or Missing where there are none;
-- where it does not, never Missing
abbrev pub Fetched : Option Held → List ℕ → Result (Vec ℕ) Fetch → Type 0
Fetched told name (Ok bytes) = IfSome told (λ held. held name ≡ Some bytes.items)
Fetched told name (Err fetches.Missing) = IsSomeAnd told (λ held. held name ≡ None)
Fetched told name (Err fetches.Failed) = Unit {0}
Fetched told name (Err (fetches.NoMemory memory)) = Unit {0}

-- what a fetch did to the count of read faults and to the last failed name: at Failed the count rose and
-- the name is kept, else the last failed name stays, and at Missing the count does too
pub record FetchCounts (before now : ℕ) (failed_before failed_now : Option (List ℕ)) (name : List ℕ)
    (result : Result (Vec ℕ) Fetch) : Type 0 where
  pub later : before ≤ now
  pub failed : IsErrOf result fetches.Failed → Rose before now
  pub named : IsErrOf result fetches.Failed → failed_now ≡ Some name
  pub others : (IsErrOf result fetches.Failed → ⊥) → failed_now ≡ failed_before
  pub missing : IsErrOf result fetches.Missing → now ≡ before

-- the shelf tells what it holds after the call as before it, and other names stay
abbrev pub OthersStay : Option Held → Option Held → List ℕ → Type 0
OthersStay None None name = Unit {0}
OthersStay (Some old) (Some new) name = (other : List ℕ) → other ≢ name → new other ≡ old other
OthersStay None (Some new) name = ⊥
OthersStay (Some old) None name = ⊥

-- after a put that was answered Ok, the bytes stand under the name
abbrev pub Stands : Option Held → List ℕ → List ℕ → Type 0
Stands told name bytes = IfSome told (λ held. held name ≡ Some bytes)

-- what a put or a write did to its count of faults: at Failed it rose
pub record PutCounts {T : Type 0} (before now : ℕ) (result : Result T Put) : Type 0 where
  pub later : before ≤ now
  pub failed : IsErrOf result puts.Failed → Rose before now

-- the first n of a piece were appended, as bytes or as names, for some n; more than its length counts as all
abbrev pub AppendsUpTo : {A : Type 0} → Option (List A) → Option (List A) → List A → Type 0
AppendsUpTo None None piece = Unit {0}
AppendsUpTo (Some old) (Some new) piece = (n : ℕ) × (new ≡ old ++ take n piece)
AppendsUpTo None (Some new) piece = ⊥
AppendsUpTo (Some old) None piece = ⊥

-- all of a piece was appended
abbrev pub Appended : {A : Type 0} → Option (List A) → Option (List A) → List A → Type 0
Appended None None piece = Unit {0}
Appended (Some old) (Some new) piece = new ≡ old ++ piece
Appended None (Some new) piece = ⊥
Appended (Some old) None piece = ⊥

-- names that were asked for so far, in order, where the shelf tells them
abbrev pub Asked : Type 0
Asked = Option (List (List ℕ))

-- a fetch adds its name to those that were fetched, whatever the answer. Where that is want of memory the name
-- may be missing, since a shelf copies it first.
abbrev pub FetchAsks : Asked → Asked → List ℕ → Result (Vec ℕ) Fetch → Type 0
FetchAsks old new name (Err (fetches.NoMemory memory)) = AppendsUpTo old new (name ∷ [])
FetchAsks old new name result = Appended old new (name ∷ [])

-- a call that was answered Ok asked for all of these names, in order, each once; one that was not, for the first
-- n of them, for some n
abbrev pub AsksFor : {T E : Type 0} → Asked → Asked → List (List ℕ) → Result T E → Type 0
AsksFor old new names (Ok done) = Appended old new names
AsksFor old new names (Err fault) = AppendsUpTo old new names
