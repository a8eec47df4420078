-- A filter of a sound state can be stored.
use Rattle.std.proofs.Common.{◌≡◌, ◌∙◌, ℕ, zero, suc, ◌<◌, ◌≤◌, Bool, true, false, cond, List, [], ◌∷◌, length, map, filter, slice_get, Some, None, refl, sym, ap, subst, arith, eqb-true}
use Rattle.std.specs.List.{list_any}
use Rattle.std.specs.Option.{option_map}
use Rattle.std.specs.Prelude.{IsTrue, All}
use Rattle.std.proofs.lemmas.List.{length-map}
use Rattle.std.proofs.lemmas.List.Elements.{All-cons, All-nil}
use Rattle.act_registry.specs.declared.limits.TheConstants.{MADE_MAX}
use Rattle.store_history.specs.declared.history.Commit.{Commit}
use Rattle.store_history.specs.declared.places.TheConstants.{ACTION_SLOTS}
use Rattle.visit_room.specs.declared.names.ActionName.{ActionName}
use Rattle.filter_state.specs.declared.edit.Edit.{Edit}
use Rattle.filter_state.specs.declared.edit.FilterLine.{FilterLine}
use Rattle.filter_state.specs.Lines.{IsIndex}
use Rattle.filter_state.specs.States.{Row, State}
use Rattle.filter_state.specs.Actions.{has_serial}
use Rattle.filter_state.specs.Order.{of_mask}
use Rattle.filter_state.specs.Sound.{Each, IsRow, IsAction, Sound}
use Rattle.filter_state.proofs.Pairs.{any_first, found}
use Rattle.hook_store_law.specs.OfEffects.Parts.{filter_of}
use Rattle.block_codec.specs.declared.filter.StoredFilter.{StoredFilter}
use Rattle.block_codec.specs.Names.{IsActionName}
use Rattle.hook_law.specs.Records.{Slotted, StatedFilter, serials_of}
use Rattle.hook_law.specs.Meaning.{IsLive}
use Rattle.hook_law.specs.Standing.{IsIn, IsSlotOf}
use Rattle.hook_store_law.specs.Stated.{hook_meaning, action_stated, filters_at, filter_stated}
use Rattle.hook_store_law.specs.Blocks.{action_slotted, hook_codec}
use Rattle.hook_store_law.specs.OfEdits.Premises.{filter_of_line}
use Rattle.desk_actions.specs.Places.{Placed, slot_of}
use Rattle.desk_masks.specs.OfFilterCommits.Edits.{IsOfLine}
use Rattle.desk_parts.specs.OfFilterNames.Named.{named, CanBeNamed}

-- an action that a filter names is live, with a serial that can be stored
record IsNamed (s : State) (a : ℕ) : Type 0 where
  live : IsLive hook_meaning s a
  serial : (1 ≤ a) × (a ≤ MADE_MAX)

name_one : (s : State) → Sound s → (a : ℕ) → IsTrue (list_any (has_serial a) s.actions) → IsNamed s a
name_one s sound a any = let x = any_first (has_serial a) s.actions any in let f = found (IsAction s) (has_serial a) s.actions x.0 sound.actions x.1 in
    let same : x.0.serial ≡ a = eqb-true x.0.serial a f.1 in let ranges = f.0.serial in let most = sound.made in record {
      live = λ none. let bad : Some (action_stated x.0) ≡ None = sym (ap (option_map action_stated) x.1) ∙ none in cc bad;
      serial = (subst (λ n. 1 ≤ n) same ranges.0, subst (λ n. n ≤ MADE_MAX) same (omega (arith, ranges, most)));
    }

-- what holds of each filter of a mask
record IsGood (s : State) (f : StatedFilter) : Type 0 where
  handle : IsIndex f.handle
  few : length f.actions ≤ 16
  names : Each (IsNamed s) f.actions

each_name : (s : State) → Sound s → (actions : List ℕ) → Each (λ serial. IsTrue (list_any (has_serial serial) s.actions)) actions → Each (IsNamed s) actions
each_name s sound [] all = tt
each_name s sound (a ∷ rest) all = (name_one s sound a all.0, each_name s sound rest all.1)

good_rows : (s : State) → Sound s → (mask : ℕ) (rows : List Row) → Each (IsRow s) rows → Each (IsGood s) (map filter_stated (map filter_of (filter (of_mask mask) rows)))
good_rows s sound mask [] all = tt
good_rows s sound mask (row ∷ rows) all = pick (of_mask mask row) (good_rows s sound mask rows all.1)
  where
    pick : (t : Bool) → Each (IsGood s) (map filter_stated (map filter_of (filter (of_mask mask) rows))) → Each (IsGood s) (map filter_stated (map filter_of (cond t (row ∷ filter (of_mask mask) rows) (filter (of_mask mask) rows))))
    pick true rest = (record { handle = all.0.handle; few = all.0.most; names = each_name s sound row.actions all.0.live }, rest)
    pick false rest = rest

each_in : {X : Type 0} (P : X → Type 0) (xs : List X) (x : X) → Each P xs → IsIn x xs → P x
each_in P [] x all at = let e = at.1 in absurd (cc e)
each_in P (y ∷ ys) x all at = walk at.0 at.1 (each_in P ys x all.1)
  where
    walk : (place : ℕ) → slice_get (y ∷ ys) place ≡ Some x → (IsIn x ys → P x) → P x
    walk zero e rest = let same : y ≡ x = cc e in subst P same all.0
    walk (suc place) e rest = rest (place, e)

good_one : (s : State) (mask : ℕ) (f : StatedFilter) → Sound s → IsIn f (filters_at s mask) → IsGood s f
good_one s mask f sound at = each_in (IsGood s) (filters_at s mask) f (good_rows s sound mask s.rows sound.rows) at

-- ---- names
named_serials : (placed : Placed) (serials : List ℕ) → serials_of (map action_slotted (named placed serials)) ≡ serials
named_serials placed [] = refl
named_serials placed (a ∷ rest) = ap (λ (l : List ℕ). a ∷ l) (named_serials placed rest)

named_in : (placed : Placed) (serials : List ℕ) (P : Slotted → Type 0) → Each (λ (a : ℕ). P (record { serial = a; slot = slot_of placed a })) serials → (x : Slotted) → IsIn x (map action_slotted (named placed serials)) → P x
named_in placed [] P all x at = let e = at.1 in absurd (cc e)
named_in placed (a ∷ rest) P all x at = walk at.0 at.1 (λ m. named_in placed rest P all.1 x m)
  where
    walk : (place : ℕ) → slice_get (action_slotted (record { serial = a; slot = slot_of placed a }) ∷ map action_slotted (named placed rest)) place ≡ Some x → (IsIn x (map action_slotted (named placed rest)) → P x) → P x
    walk zero e rest_ = let same : record { serial = a; slot = slot_of placed a } ≡ x = cc e in subst P same all.0
    walk (suc place) e rest_ = rest_ (place, e)

named_each : (placed : Placed) (serials : List ℕ) → Each (λ (a : ℕ). IsActionName (record { serial = a; slot = slot_of placed a })) serials → All IsActionName (named placed serials)
named_each placed [] all = All-nil IsActionName
named_each placed (a ∷ rest) all = All-cons IsActionName (record { serial = a; slot = slot_of placed a }) (named placed rest) all.0 (named_each placed rest all.1)

each_as : {X : Type 0} (P Q : X → Type 0) → ((x : X) → P x → Q x) → (xs : List X) → Each P xs → Each Q xs
each_as P Q f [] all = tt
each_as P Q f (x ∷ xs) all = (f x all.0, each_as P Q f xs all.1)

all_made : (s : State) (serials : List ℕ) → Each (IsNamed s) serials → All (λ a. a ≤ MADE_MAX) serials
all_made s [] each = All-nil (λ a. a ≤ MADE_MAX)
all_made s (a ∷ rest) each = let low = each.0.serial.1 in All-cons (λ a. a ≤ MADE_MAX) a rest low (all_made s rest each.1)

module _ (h : List (Commit Edit)) (s : State) (placed : Placed) (line : FilterLine) (handle : ℕ) (serials : List ℕ) (can : CanBeNamed h s placed (filter_of_line line handle serials)) where
  good : IsGood s (filter_of_line line handle serials)
  good = good_one s can.mask (filter_of_line line handle serials) can.sound can.there

  pub few_serials : length serials ≤ 16
  few_serials = good.few

  pub made_serials : All (λ a. a ≤ MADE_MAX) serials
  made_serials = all_made s serials good.names

  abbrev action_with : ℕ → ActionName
  action_with a = record { serial = a; slot = slot_of placed a }

  slot_small : (a : ℕ) → IsLive hook_meaning s a → slot_of placed a < ACTION_SLOTS
  slot_small a live = (can.slots a live).puts.small

  abbrev stored : StoredFilter
  stored = record { handle = handle; key = line.key; actions = named placed serials }

  pub line_stored : length line.key.words ≡ 14 → IsOfLine h line handle serials stored
  line_stored key = record {
    fit = record {
      storable = record {
        handle = good.handle;
        actions = named_each placed serials (each_as (IsNamed s) (λ (a : ℕ). IsActionName (record { serial = a; slot = slot_of placed a })) (λ a n. record { serial = n.serial; slot = slot_small a n.live }) serials good.names);
      };
      key = key;
      few = (let long = length-map serials (λ (a : ℕ). action_with a) in let few = good.few in omega (arith, long, few));
    };
    is = λ t. record { handle = handle; key = line.key.words; actions = named_serials placed serials t };
    names = named_in placed serials (λ (x : Slotted). IsSlotOf hook_codec h x.serial x.slot)
        (each_as (IsNamed s) (λ (a : ℕ). IsSlotOf hook_codec h a (slot_of placed a)) (λ a n. can.slots a n.live) serials good.names);
  }
