-- What the fates of a packet say of a change (this project's own).
use Rattle.std.specs.Prelude.{◌≡◌, ◌≢◌, ◌⊎◌, ℕ, ◌<◌, ◌≤◌, ◌==◌, Bool, true, false, List, length, if◌then◌else◌}
use Rattle.std.specs.List.{list_any}
use Rattle.tc_base.specs.declared.hook.Hook.{Hook}
use Rattle.filter_state.specs.Sound.{Sound}
use Rattle.filter_state.specs.States.{State}
use Rattle.point_walks.specs.Over.{Answering}
use Rattle.walk_fate_laws.specs.declared.kinds.When.{When}
use Rattle.walk_fate_laws.specs.declared.kinds.When.TheVariants as whens
use Rattle.walk_fate_laws.specs.declared.kinds.Kind.{Kind}
use Rattle.walk_fate_laws.specs.declared.kinds.Kind.TheVariants as kinds
use Rattle.walk_fate_laws.specs.declared.limits.TheConstants.{WAYS_MAX}
use Rattle.walk_fate_laws.specs.Fates.{Fate}
use Rattle.walk_fate_laws.specs.Walks.{answers_over, ways_of}
use Rattle.walk_fate_laws.specs.Told.{has_more}
use Rattle.walk_fate_laws.specs.Times.{whens_at}

abbrev pub is_between : When → Bool
is_between whens.Between = true
is_between when = false

abbrev pub is_mixed : When → Bool
is_mixed whens.Mixed = true
is_mixed when = false

-- the kind of a packet by when its fates are had, where there are more ways or no more
abbrev pub kind_of : Bool → List When → Kind
kind_of more all = if list_any is_between all then kinds.Between else if list_any is_mixed all then kinds.Mixed
    else if more then kinds.Open else if length all == 1 then kinds.Steady else kinds.Moved

-- THE KIND OF A PACKET by the fates that are told of it
abbrev pub kind_at : Answering → ℕ → ℕ → Hook → List ℕ → Kind
kind_at answers before ceiling hook bytes =
    kind_of (has_more answers before ceiling hook bytes) (whens_at answers before ceiling hook bytes)

-- ---- what the kinds mean, by the fates that can be had and those of the states of the points
-- all ways are looked at
abbrev pub HasNoMore : (ℕ → State) → ℕ → ℕ → Hook → List ℕ → Type 0
HasNoMore states before ceiling hook bytes =
    length (ways_of (answers_over states) before ceiling hook bytes) ≤ WAYS_MAX

abbrev pub AreSound : (ℕ → State) → ℕ → ℕ → Type 0
AreSound states before ceiling = (point : ℕ) → before ≤ point → point ≤ ceiling → Sound (states point)

abbrev pub IsNeither : Fate → Fate → Fate → Type 0
IsNeither old new fate = (fate ≢ old) × (fate ≢ new)

-- it is that of the state of some one point strictly between
abbrev pub IsOfOneBetween : (ℕ → Fate) → ℕ → ℕ → Fate → Type 0
IsOfOneBetween at before ceiling fate =
    (point : ℕ) × (before < point) × (point < ceiling) × (fate ≡ at point)

abbrev pub HasOneFate : (Fate → Type 0) → Type 0
HasOneFate had = (fate : Fate) × had fate × ((other : Fate) → had other → other ≡ fate)

-- the two of before and after, which differ, and no other
abbrev pub HasOldAndNew : (Fate → Type 0) → Fate → Fate → Type 0
HasOldAndNew had old new =
    had old × had new × (old ≢ new) × ((fate : Fate) → had fate → (fate ≡ old) ⊎ (fate ≡ new))

-- a fate that is neither, of the state of a point strictly between
abbrev pub HasBetween : (Fate → Type 0) → (ℕ → Fate) → ℕ → ℕ → Type 0
HasBetween had at before ceiling = (point : ℕ) × (before < point) × (point < ceiling) × had (at point)
    × IsNeither (at before) (at ceiling) (at point)

-- a fate that is neither
abbrev pub HasNeither : (Fate → Type 0) → Fate → Fate → Type 0
HasNeither had old new = (fate : Fate) × had fate × IsNeither old new fate

-- the state of no point strictly between gives a fate that is neither
abbrev pub NoneIsBetween : (ℕ → Fate) → ℕ → ℕ → Type 0
NoneIsBetween at before ceiling = (point : ℕ) → before < point → point < ceiling
    → (at point ≡ at before) ⊎ (at point ≡ at ceiling)
