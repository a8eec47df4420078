-- How the times of fates are put together, walk by walk (this project's own).
use Rattle.std.specs.Prelude.{Bool, List, map, Option, if◌then◌else◌}
use Rattle.walk_fate_laws.specs.declared.kinds.When.{When}
use Rattle.walk_fate_laws.specs.declared.kinds.When.TheVariants as whens
use Rattle.walk_fate_laws.specs.Fates.{Fate}
use Rattle.walk_fate_laws.specs.Times.{is_fate}
use Rattle.fate_search.specs.Found.{Found, fate_found}

-- a fate that was had so far at that time is seen at another: mixed stands for not seen so far
abbrev pub seen_too : When → When → When
seen_too whens.Mixed seen = seen
seen_too whens.Before whens.After = whens.Both
seen_too when seen = when

abbrev pub marked_by : Bool → When → When → When
marked_by had when seen = if had then seen_too when seen else when

-- the times of some fates
abbrev pub times_of : (Fate → When) → List Found → List When
times_of when fates = map (λ (found : Found). when (fate_found found)) fates

-- after one walk more, with that fate
abbrev pub marked : Option Fate → When → (Fate → When) → Fate → When
marked there seen when fate = marked_by (is_fate fate there) (when fate) seen
