-- The fates of a packet that are told (this project's own).
use Rattle.std.specs.Prelude.{ℕ, nat_lt, Bool, List, [], take, length, Option, option_map}
use Rattle.tc_base.specs.declared.hook.Hook.{Hook}
use Rattle.walk_rules.specs.Questions.{Answer}
use Rattle.walk_rules.specs.Steps.{Standing}
use Rattle.walk_rules.specs.Walks.{outcome_of}
use Rattle.point_walks.specs.Over.{Answering}
use Rattle.walk_fate_laws.specs.declared.limits.TheConstants.{WAYS_MAX}
use Rattle.walk_fate_laws.specs.Fates.{Fate, fate_of, same_fate}
use Rattle.walk_fate_laws.specs.Firsts.{First, firsts}
use Rattle.walk_fate_laws.specs.Ways.{Way}
use Rattle.walk_fate_laws.specs.Walks.{ways_of}

-- a way, and its fate
abbrev pub Told : Type 0
Told = First (Way Standing Answer) Fate

abbrev pub fate_at : Way Standing Answer → Option Fate
fate_at way = option_map fate_of (outcome_of way.end)

-- each fate of these ways once, by the first way that has it
abbrev pub first_fates : List (Way Standing Answer) → List Told
first_fates ways = firsts same_fate fate_at [] ways

-- THE FATES THAT ARE TOLD of a packet: those of its first ways, as many as are looked at
abbrev pub told_fates : Answering → ℕ → ℕ → Hook → List ℕ → List Told
told_fates answers before ceiling hook bytes =
    first_fates (take WAYS_MAX (ways_of answers before ceiling hook bytes))

-- whether the packet has more ways than are looked at
abbrev pub has_more : Answering → ℕ → ℕ → Hook → List ℕ → Bool
has_more answers before ceiling hook bytes =
    nat_lt WAYS_MAX (length (ways_of answers before ceiling hook bytes))
