-- A round that begins.
use Rattle.std.proofs.Common.{◌≡◌, ◌∙◌, ℕ, zero, suc, ◌-◌, ◌<◌, false, List, [], ◌++◌, length, Option, Some, None, refl, sym, ap, subst, append-nil, arith}
use Rattle.std.specs.Prelude.{replicate, option_map}
use Rattle.std.specs.List.{slice_get}
use Rattle.filter_state.specs.declared.edit.Edit.{Edit}
use Rattle.run_report.specs.declared.events.Event.{Event}
use Rattle.tc_base.specs.declared.ear.EventName.{EventName}
use Rattle.round_terms.specs.Files.{RoundFile, AreFiles}
use Rattle.round_terms.specs.declared.place.Place.{Place}
use Rattle.round_terms.specs.Hearing.{EarView, ear_of, HasHeard}
use Rattle.round_terms.specs.Underway.{IsUnderway}

abbrev pub start_place : Place
start_place = record { at = 0; line = 0; over = false }

all_there : (count at : ℕ) → at < count → slice_get (replicate count start_place) at ≡ Some start_place
all_there zero at less = absurd (omega (arith, less))
all_there (suc count) zero less = refl
all_there (suc count) (suc at) less = all_there count at (omega (arith, less))

all_long : (count : ℕ) → length (replicate count start_place) ≡ count
all_long zero = refl
all_long (suc count) = ap suc (all_long count)

pub begins : (files : List RoundFile) (controls : ℕ) (before journal : List Edit) → AreFiles files controls → journal ≡ before → IsUnderway files controls before journal [] (replicate controls start_place)
begins files controls before journal named same = record {
  edits = [];
  journal_is = same ∙ sym (append-nil before);
  results = refl;
  placed = λ at file is. let n = named.numbered at file is in record {
    place = start_place;
    there = all_there controls (file.control - 1) (omega (arith, n.0, n.1));
    within = omega arith;
    counted = omega arith;
    come = refl;
  };
  many = all_long controls;
}

pub begins_with : (files : List RoundFile) (controls count : ℕ) (before journal : List Edit) (events : List Event) (places : List Place) → AreFiles files controls → journal ≡ before → events ≡ [] → places ≡ replicate count start_place → count ≡ controls
    → IsUnderway files controls before journal events places
begins_with files controls count before journal events places named same none all many =
    subst (λ (es : List Event). IsUnderway files controls before journal es places) (sym none)
    (subst (λ (ps : List Place). IsUnderway files controls before journal [] ps) (ap (λ (n : ℕ). replicate n start_place) (sym many) ∙ sym all) (begins files controls before journal named same))

heard_none : (heard : Option (List EventName)) → heard ≡ option_map (λ (names : List EventName). names ++ []) heard
heard_none None = refl
heard_none (Some names) = ap (λ (ns : List EventName). Some ns) (sym (append-nil names))

pub hears : {E : Type 0} (name : E → ℕ) (heard : E → Option (List EventName)) (spare : E → ℕ) (first : EarView) (now : E) (number before : ℕ) → ear_of name heard spare now ≡ first → HasHeard name heard spare first now number before []
hears name heard spare first now number before same = record {
  name_is = ap (λ (e : EarView). e.name) same;
  heard_is = ap (λ (e : EarView). e.heard) same ∙ heard_none first.heard;
  spare_is = let e = ap (λ (v : EarView). v.spare) same in omega (arith, e);
}

pub hears_none : {E : Type 0} (name : E → ℕ) (heard : E → Option (List EventName)) (spare : E → ℕ) (first : EarView) (now : E) (number before : ℕ) (events : List Event) → ear_of name heard spare now ≡ first → events ≡ [] → HasHeard name heard spare first now number before events
hears_none name heard spare first now number before events same none = subst (HasHeard name heard spare first now number before) (sym none) (hears name heard spare first now number before same)
