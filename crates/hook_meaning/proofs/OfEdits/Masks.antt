-- The filters of one mask change, in the law's words.
use Rattle.std.proofs.Common.{◌≡◌, ◌≢◌, ℕ, ◌==◌, Bool, not, List, [], ◌∷◌, ◌++◌, map, Some, refl, sym, ◌∙◌, ap}
use Rattle.std.proofs.lemmas.List.{map-append}
use Rattle.tc_base.specs.declared.hook.Hook.{Hook}
use Rattle.filter_state.specs.States.{Row, State}
use Rattle.filter_state.specs.Tables.{first_where}
use Rattle.filter_state.specs.Sound.{Sound, Each}
use Rattle.filter_state.proofs.Pairs.{each_map}
use Rattle.edit_effects.specs.OfEffects.Parts.{Filter, filter_of, filters_of}
use Rattle.edit_effects.specs.OfEffects.Parts.{without as parts_without}
use Rattle.hook_law.specs.Records.{StatedFilter}
use Rattle.hook_law.specs.Changes.{KeepsParams, LeavesOthers, GainsFilter}
use Rattle.hook_meaning.specs.Stated.{filter_stated, hook_meaning}
use Rattle.edit_effects.specs.OfEffects.Effects.{ChangesMask, ChangesHook, HasMask, with_actions}
use Rattle.edit_effects.proofs.OfEffects.Kept.{kept_of_mapped}
use Rattle.hook_meaning.specs.OfEdits.Premises.{without, HaveOthers, Swaps, Loses, LeavesOtherHook, IsMask}
use Rattle.hook_meaning.proofs.OfEdits.Stating.{same_heads, other_heads}
use Rattle.hook_meaning.proofs.OfEdits.OneHandle.{only_filter, around}

abbrev stated : List Filter → List StatedFilter
stated = map filter_stated

pub stated_without : (handle : ℕ) (fs : List Filter) → stated (parts_without handle fs) ≡ without handle (stated fs)
stated_without handle fs = sym (kept_of_mapped (λ (f : StatedFilter). not (f.handle == handle)) filter_stated fs)

stated_others : (handle : ℕ) (fs : List Filter) → Each (λ (f : Filter). f.handle ≢ handle) fs → HaveOthers handle (stated fs)
stated_others handle = each_map (λ (f : StatedFilter). f.handle ≢ handle) filter_stated

module _ (s t : State) where
  pub leaves_others : (mask : ℕ) (after : List Filter) → ChangesMask mask after s t → KeepsParams hook_meaning s t → LeavesOthers hook_meaning s t mask
  leaves_others mask after c params =
      let tables = c.tables in
      record { heads = same_heads s t tables.heads; words = tables.words; filters = λ other differs. ap stated (c.others other differs); params = params }

  pub gains : (mask : ℕ) (f : Filter) → ChangesMask mask (filters_of s mask ++ f ∷ []) s t → KeepsParams hook_meaning s t → GainsFilter hook_meaning s t mask (filter_stated f)
  gains mask f c params = record {
    others = leaves_others mask (filters_of s mask ++ f ∷ []) c params;
    filters = ap stated c.filters ∙ map-append filter_stated (filters_of s mask) (f ∷ []);
  }

  pub swaps : (test : Row → Bool) (row : Row) (serials : List ℕ) → Sound s → first_where test s.rows ≡ Some row
      → ChangesMask row.mask_serial (with_actions row.handle serials (filters_of s row.mask_serial)) s t → KeepsParams hook_meaning s t
      → Swaps row.mask_serial (record { handle = row.handle; key = row.key; actions = serials }) s t
  swaps test row serials sound is c params =
      let f : Filter = filter_of row in
      let a = around row.handle serials (filters_of s row.mask_serial) f (only_filter s test row sound is) in record {
        earlier = stated a.earlier;
        old = filter_stated f;
        later = stated a.later;
        handle = refl;
        key = refl;
        front = stated_others row.handle a.earlier a.front;
        back = stated_others row.handle a.later a.back;
        swaps = record {
          others = leaves_others row.mask_serial (with_actions row.handle serials (filters_of s row.mask_serial)) c params;
          before = ap stated a.whole ∙ map-append filter_stated a.earlier (f ∷ a.later);
          after = ap stated (c.filters ∙ a.changed) ∙ map-append filter_stated a.earlier (record f { actions = serials } ∷ a.later);
        };
      }

  pub loses : (test : Row → Bool) (row : Row) → Sound s → first_where test s.rows ≡ Some row
      → ChangesMask row.mask_serial (parts_without row.handle (filters_of s row.mask_serial)) s t → KeepsParams hook_meaning s t → Loses row.mask_serial row.handle s t
  loses test row sound is c params =
      let f : Filter = filter_of row in
      let a = around row.handle [] (filters_of s row.mask_serial) f (only_filter s test row sound is) in record {
        earlier = stated a.earlier;
        old = filter_stated f;
        later = stated a.later;
        handle_is = refl;
        front = stated_others row.handle a.earlier a.front;
        back = stated_others row.handle a.later a.back;
        loses = record {
          others = leaves_others row.mask_serial (parts_without row.handle (filters_of s row.mask_serial)) c params;
          before = ap stated a.whole ∙ map-append filter_stated a.earlier (f ∷ a.later);
          after = ap stated (c.filters ∙ a.left) ∙ map-append filter_stated a.earlier a.later;
        };
      }

  pub leaves_other_hook : (hook : Hook) (IsConcerned : ℕ → Type 0) → ChangesHook hook IsConcerned s t → KeepsParams hook_meaning s t → LeavesOtherHook hook IsConcerned s t
  leaves_other_hook hook IsConcerned c params = record {
    heads = other_heads hook s t c.heads;
    words = λ mask free. let kept = c.others mask free in kept.words;
    filters = λ mask free. let kept = c.others mask free in ap stated kept.filters;
    params = params;
  }

-- a mask's filters, and one more at the end
pub is_mask_with : (t : State) (mask : ℕ) (words : List ℕ) (fs : List Filter) (f : Filter) → HasMask mask words (fs ++ f ∷ []) t → IsMask mask words (stated fs ++ filter_stated f ∷ []) t
is_mask_with t mask words fs f has = record { words_are = has.words_are; filters_are = ap stated has.filters_are ∙ map-append filter_stated fs (f ∷ []) }
