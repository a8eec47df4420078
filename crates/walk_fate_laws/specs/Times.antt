-- When the fates of a packet are had (this project's own).
use Rattle.std.specs.Prelude.{ℕ, suc, ◌-◌, Bool, true, false, List, map, Option, Some, None}
use Rattle.std.specs.List.{list_any, range_with_len}
use Rattle.tc_base.specs.declared.hook.Hook.{Hook}
use Rattle.point_walks.specs.Over.{Answering}
use Rattle.walk_fate_laws.specs.declared.kinds.When.{When}
use Rattle.walk_fate_laws.specs.declared.kinds.When.TheVariants as whens
use Rattle.walk_fate_laws.specs.Fates.{Fate, same_fate}
use Rattle.walk_fate_laws.specs.Stays.{fate_there}
use Rattle.walk_fate_laws.specs.Told.{Told, told_fates}

abbrev pub is_fate : Fate → Option Fate → Bool
is_fate fate None = false
is_fate fate (Some there) = same_fate fate there

-- whether a packet that meets that point alone has the fate
abbrev pub is_had_at : Answering → Hook → List ℕ → Fate → ℕ → Bool
is_had_at answers hook bytes fate point = is_fate fate (fate_there answers hook bytes point)

-- by whether it is had before the change, after it, and at a point between
abbrev pub when_by : Bool → Bool → Bool → When
when_by true true middle = whens.Both
when_by true false middle = whens.Before
when_by false true middle = whens.After
when_by false false true = whens.Between
when_by false false false = whens.Mixed

-- the points strictly between two
abbrev pub points_between : ℕ → ℕ → List ℕ
points_between before ceiling = range_with_len (suc before) (ceiling - suc before)

-- WHEN A FATE IS HAD
abbrev pub when_of : Answering → ℕ → ℕ → Hook → List ℕ → Fate → When
when_of answers before ceiling hook bytes fate =
    when_by (is_had_at answers hook bytes fate before) (is_had_at answers hook bytes fate ceiling)
    (list_any (is_had_at answers hook bytes fate) (points_between before ceiling))

-- when each fate that is told of a packet is had
abbrev pub whens_at : Answering → ℕ → ℕ → Hook → List ℕ → List When
whens_at answers before ceiling hook bytes =
    map (λ (told : Told). when_of answers before ceiling hook bytes told.key)
    (told_fates answers before ceiling hook bytes)
