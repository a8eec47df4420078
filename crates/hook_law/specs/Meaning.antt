-- What edits do to a state, and what the law reads off a state (this project's own).
use Rattle.std.specs.Prelude.{◌≡◌, ◌≢◌, ℕ, ◌-◌, List, [], ◌∷◌, length, take, Option, None}
use Rattle.store_history.specs.declared.history.Commit.{Commit}
use Rattle.store_history.specs.History.{edits_of}
use Rattle.hook_law.specs.Records.{StatedTable, StatedFilter}

-- the states of type S that edits of type E lead to
pub record Meaning (E S N P : Type 0) : Type 1 where
  pub start : S
  pub step : S → E → S
  -- the lists of edits that may be made
  pub Lawful : List E → Type 0
  -- the tables of a hook, in order
  pub heads : S → ℕ → List (StatedTable N)
  -- the words and the filters of the mask with a serial, the filters in the order of making
  pub words : S → ℕ → List ℕ
  pub filters : S → ℕ → List StatedFilter
  -- the parameters of the action with a serial, where it is live
  pub params : S → ℕ → Option P
  -- a filter is in the bucket with its key's hash modulo the size, and so many filters want buckets of this
  -- number
  pub hash : List ℕ → ℕ
  pub size_for : ℕ → ℕ

-- the point that a history has come to: how many edits its commits carry
abbrev pub point_of : {E : Type 0} → List (Commit E) → ℕ
point_of h = length (edits_of h)

module _ {E S N P : Type 0} (K : Meaning E S N P) where
  -- the state after these edits
  abbrev pub run : S → List E → S
  run s [] = s
  run s (y ∷ ys) = run (K.step s y) ys

  -- the state at a point: after so many of the edits
  abbrev pub state_at : List E → ℕ → S
  state_at edits point = run K.start (take point edits)

  -- the state that a history has come to, the one before its last edit, and the one that a further edit leads
  -- to
  abbrev pub now_of : List (Commit E) → S
  now_of h = state_at (edits_of h) (point_of h)

  abbrev pub before_of : List (Commit E) → S
  before_of h = state_at (edits_of h) (point_of h - 1)

  abbrev pub next_of : List (Commit E) → E → S
  next_of h y = K.step (now_of h) y

  abbrev pub IsLive : S → ℕ → Type 0
  IsLive s action = K.params s action ≢ None

  -- no edits may be made, and in the state before them no hook has a table and no action is live
  pub record StartsEmpty : Type 0 where
    pub lawful : K.Lawful []
    pub heads : (hook : ℕ) → K.heads K.start hook ≡ []
    pub params : (a : ℕ) → K.params K.start a ≡ None
