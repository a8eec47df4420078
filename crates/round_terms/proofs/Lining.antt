-- The batch of a control and its next line, as they are found.
use Rattle.std.proofs.Common.{◌≡◌, ◌∙◌, ℕ, ◌-◌, ◌≤◌, ◌<◌, Bool, true, false, List, [], length, get_or, Option, Some, None, refl, sym, ap, subst}
use Rattle.std.specs.Prelude.{IfNone, if◌then◌else◌}
use Rattle.std.specs.List.{slice_get}
use Rattle.std.proofs.lemmas.Option.{get_or_from_slice_get, slice_get_within}
use Rattle.round_terms.specs.declared.place.Place.{Place}
use Rattle.round_terms.specs.Files.{RoundFile, AreFiles}
use Rattle.round_terms.specs.Places.{left_from, left_at, IsFound}
use Rattle.round_terms.specs.Turns.{StandsAt, IsLineFor, HasNoLine, AreWithin}

abbrev pub IsAmongFiles : List RoundFile → RoundFile → Type 0
IsAmongFiles files file = (at : ℕ) × (slice_get files at ≡ Some file)

pub if_none : {X : Type 0} (o : Option X) (P : Type 0) → P → IfNone o P
if_none None P p = p
if_none (Some x) P p = tt

pub record IsStanding (files : List RoundFile) (places : List Place) (control : ℕ) (force : Bool) (bytes : List ℕ) (place : Place) : Type 0 where
  pub stands : StandsAt files places control (record { control = control; force = force; bytes = bytes }) place
  pub within : place.at ≤ length bytes
  pub counted : place.line ≤ place.at

module _ (files : List RoundFile) (places : List Place) where
  -- a control that has no batch
  pub none_without : (control : ℕ) → ((at : ℕ) (file : RoundFile) → slice_get files at ≡ Some file → file.control ≡ control → ⊥) → HasNoLine files places control
  none_without control none = λ file place here. absurd (none here.at file here.file_is here.control_is)

  pub place_there : AreWithin files places → (control : ℕ) (force : Bool) (bytes : List ℕ) → IsAmongFiles files (record { control = control; force = force; bytes = bytes }) → control - 1 < length places
  place_there within control force bytes there =
      let it = within there.0 (record { control = control; force = force; bytes = bytes }) there.1 in
      slice_get_within places (control - 1) it.0 it.1

  pub standing : AreWithin files places → (control : ℕ) (force : Bool) (bytes : List ℕ) (place : Place) → IsAmongFiles files (record { control = control; force = force; bytes = bytes }) → (d : Place) → place ≡ get_or places (control - 1) d
      → IsStanding files places control force bytes place
  standing within control force bytes place there d is =
      let it = within there.0 (record { control = control; force = force; bytes = bytes }) there.1 in
      let same : place ≡ it.0 = is ∙ get_or_from_slice_get places (control - 1) it.0 d it.1 in
      record {
        stands = record { at = there.0; file_is = there.1; control_is = refl; place_is = it.1 ∙ ap (λ (p : Place). Some p) (sym same) };
        within = subst (λ (p : Place). p.at ≤ length bytes) (sym same) it.2;
        counted = subst (λ (p : Place). p.line ≤ p.at) (sym same) it.3;
      }

  -- a control whose batch has nothing left
  no_line_at : (controls : ℕ) → AreFiles files controls → (control : ℕ) (file : RoundFile) (place : Place) → StandsAt files places control file place → left_at file.bytes place ≡ [] → HasNoLine files places control
  no_line_at controls named control file place here none = λ other also there.
      let where_ : there.at ≡ here.at = named.apart there.at here.at other file there.file_is here.file_is (there.control_is ∙ sym here.control_is) in
      let at : slice_get files here.at ≡ Some other = ap (slice_get files) (sym where_) ∙ there.file_is in
      let is : file ≡ other = cc (at, here.file_is) in
      let same : place ≡ also = cc (there.place_is, here.place_is) in
      subst (λ (p : Place). left_at other.bytes p ≡ []) same (subst (λ (f : RoundFile). left_at f.bytes place ≡ []) is none)

  pub none_over : (controls : ℕ) → AreFiles files controls → (control : ℕ) (force : Bool) (bytes : List ℕ) (place : Place) → IsStanding files places control force bytes place → place.over ≡ true → HasNoLine files places control
  none_over controls named control force bytes place it over =
      no_line_at controls named control (record { control = control; force = force; bytes = bytes }) place it.stands (ap (λ (b : Bool). if b then [] else left_from bytes place.at place.line) over)

  pub none_behind : (controls : ℕ) → AreFiles files controls → (control : ℕ) (force : Bool) (bytes : List ℕ) (place : Place) → IsStanding files places control force bytes place → place.over ≡ false → left_from bytes place.at place.line ≡ []
      → HasNoLine files places control
  none_behind controls named control force bytes place it over none =
      no_line_at controls named control (record { control = control; force = force; bytes = bytes }) place it.stands (ap (λ (b : Bool). if b then [] else left_from bytes place.at place.line) over ∙ none)

  pub line_there : (control : ℕ) (force : Bool) (bytes : List ℕ) (place : Place) (text : List ℕ) (line next : ℕ) → IsStanding files places control force bytes place → place.over ≡ false → IsFound bytes place.at place.line text line next
      → IsLineFor files places control text line next force
  line_there control force bytes place text line next it over found =
      (record { control = control; force = force; bytes = bytes }, place, record { stands = it.stands; going = over; found = found }, refl)
