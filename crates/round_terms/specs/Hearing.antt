-- What the ear of a round hears (this project's own).
use Rattle.std.specs.Prelude.{◌≡◌, ℕ, ◌+◌, ◌≤◌, Bool, true, false, List, [], ◌∷◌, ◌++◌, Option, option_map}
use Rattle.std.specs.Prelude.{if◌then◌else◌}
use Rattle.tc_base.specs.declared.ear.EventName.{EventName}
use Rattle.run_report.specs.declared.events.Event.{Event}
use Rattle.run_report.specs.Counts.{is_accepted, accepted_count}

-- an ear as contracts see it: which it is, what it heard where it tells that, and how many more events it is
-- sure to take
pub record EarView : Type 0 where
  pub name : ℕ
  pub heard : Option (List EventName)
  pub spare : ℕ

abbrev pub ear_of : {E : Type 0} → (name : E → ℕ) (heard : E → Option (List EventName)) (spare : E → ℕ)
    → E → EarView
ear_of name heard spare ear = record { name = name ear; heard = heard ear; spare = spare ear }

-- the names of the accepted events of a round, before which so many edits were accepted
abbrev pub names_of : ℕ → ℕ → List Event → List EventName
names_of round before [] = []
names_of round before (event ∷ events) =
    if is_accepted event.kind then record {
      number = before + 1;
      round = round;
      control = event.control;
      line = event.line;
    } ∷ names_of round (before + 1) events
    else names_of round before events

-- THE EAR HAS HEARD of the accepted events of the round so far, and of nothing else since it began
pub record HasHeard {E : Type 0} (name : E → ℕ) (heard : E → Option (List EventName)) (spare : E → ℕ)
    (first : EarView) (now : E) (round before : ℕ) (events : List Event) : Type 0 where
  pub name_is : name now ≡ first.name
  pub heard_is : heard now ≡ option_map (λ names. names ++ names_of round before events) first.heard
  pub spare_is : first.spare ≤ spare now + accepted_count events

-- an ear was told of one event
pub record HeardOne {E : Type 0} (name : E → ℕ) (heard : E → Option (List EventName)) (spare : E → ℕ)
    (old new : E) (event : EventName) : Type 0 where
  pub name_is : name new ≡ name old
  pub heard_is : heard new ≡ option_map (λ names. names ++ event ∷ []) (heard old)
  pub spare_is : spare old ≤ spare new + 1

-- it was told of an event that is an accepted edit, and of no other
abbrev pub HeardIf : {E : Type 0} → Bool → (name : E → ℕ) (heard : E → Option (List EventName))
    (spare : E → ℕ) (old new : E) → EventName → Type 0
HeardIf true name heard spare old new event = HeardOne name heard spare old new event
HeardIf false name heard spare old new event = new ≡ old
