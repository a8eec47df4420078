-- A row that goes together with a filter's passes no test that finds that filter.
use Rattle.std.proofs.Common.{◌≡◌, ℕ, ◌==◌, ◌&&◌, Bool, true, false, List, [], ◌∷◌, ◌++◌, map, find, filter, cond, Some, refl, sym, ◌∙◌, ap, arith}
use Rattle.std.proofs.lemmas.Bool.{false≢true}
use Rattle.std.proofs.lemmas.Bool.Decides.{nat_tests}
use Rattle.std.proofs.lemmas.Option.{none-some, same_Some}
use Rattle.tc_base.specs.declared.hook.Hook.{Hook}
use Rattle.tc_base.specs.declared.hook.Hook.TheVariants as hooks
use Rattle.filter_state.specs.States.{Row}
use Rattle.filter_state.specs.Sound.{Each, EachPair, GoTogether}
use Rattle.filter_state.specs.Tables.{hook_eq, in_table, has_handle}
use Rattle.filter_index.specs.declared.filter.Filter.{Filter}
use Rattle.filter_index.specs.Listed as listed
use Rattle.filter_tables.specs.Plain.{PlainMask, PlainTable}
use Rattle.filter_tables.specs.Rows.{row_of, rows_of_mask}
use Rattle.filter_state.proofs.Pairs.{each_weaker, each_front}
use Rattle.row_laws.proofs.OfChanges.Lists.{pairs_back, pairs_across}
use Rattle.row_laws.proofs.OfChanges.Filters.{Fails, none_pass, each_found}

turned : (x y : Row) → GoTogether x y → GoTogether y x
turned x y pair = record {
  same_table = λ same. let all = pair.same_table (sym same) in (sym all.0, sym all.1, sym all.2, sym all.3);
  one_table = λ hook chain pref. sym (pair.one_table (sym hook) (sym chain) (sym pref));
  same_mask = λ same. let all = pair.same_mask (sym same) in (sym all.0, sym all.1);
  one_mask = λ table mask. sym (pair.one_mask (sym table) (sym mask));
  handles = λ table handle. pair.handles (sym table) (sym handle);
  matches = λ table mask key. pair.matches (sym table) (sym mask) (sym key);
}

-- ---- tests of numbers and hooks
pub same_number : (m n : ℕ) → (m == n) ≡ true → m ≡ n
same_number m n is = grind (arith, nat_tests)

same_hook : (h k : Hook) → hook_eq h k ≡ true → h ≡ k
same_hook hooks.Ingress hooks.Ingress is = refl
same_hook hooks.Egress hooks.Egress is = refl
same_hook hooks.Ingress hooks.Egress is = absurd (false≢true is)
same_hook hooks.Egress hooks.Ingress is = absurd (false≢true is)

both_true : (b c : Bool) → (b && c) ≡ true → (b ≡ true) × (c ≡ true)
both_true true c is = (refl, is)
both_true false c is = absurd (false≢true is)

not_both : (b c : Bool) → (b ≡ true → c ≡ true → ⊥) → (b && c) ≡ false
not_both true true never = absurd (never refl refl)
not_both true false never = refl
not_both false c never = refl

-- ---- the two tests that find a filter: by the table's place, and by its serial
abbrev pub by_place : Hook → PlainTable → ℕ → Row → Bool
by_place hook table handle row = in_table hook table.chain table.pref row && has_handle handle row

abbrev pub by_serial : Row → Row → Bool
by_serial old row = row.table == old.table && row.handle == old.handle

pub fails_by_place : (hook : Hook) (table : PlainTable) (mask : PlainMask) (f : Filter) (y : Row) → GoTogether (row_of hook table mask f) y → by_place hook table f.handle y ≡ false
fails_by_place hook table mask f y pair =
    not_both (in_table hook table.chain table.pref y) (has_handle f.handle y)
    (λ there same.
    let all = both_true (hook_eq y.hook hook && y.chain == table.chain) (y.pref == table.pref) there in
    let front = both_true (hook_eq y.hook hook) (y.chain == table.chain) all.0 in
    pair.handles
    (pair.one_table (sym (same_hook y.hook hook front.0)) (sym (same_number y.chain table.chain front.1)) (sym (same_number y.pref table.pref all.1)))
    (sym (same_number y.handle f.handle same)))

pub fails_by_serial : (x y : Row) → GoTogether x y → by_serial x y ≡ false
fails_by_serial x y pair =
    not_both (y.table == x.table) (y.handle == x.handle)
    (λ table handle. pair.handles (sym (same_number y.table x.table table)) (sym (same_number y.handle x.handle handle)))

-- ---- the rows around a filter that is found

pub found_handle : (handle : ℕ) (f : Filter) → listed.has_handle handle f ≡ true → f.handle ≡ handle
found_handle handle f is = same_number f.handle handle is

pub around_found : (ahead behind : List Row) (hook : Hook) (table : PlainTable) (mask : PlainMask) (handle : ℕ) (f : Filter) →
    EachPair GoTogether (ahead ++ (rows_of_mask hook table mask ++ behind)) → find (listed.has_handle handle) mask.filters ≡ Some f →
    Each (GoTogether (row_of hook table mask f)) ahead × Each (GoTogether (row_of hook table mask f)) behind
around_found ahead behind hook table mask handle f together found =
    let rows : List Row = rows_of_mask hook table mask in
    let row : Row = row_of hook table mask f in (
      each_weaker (λ y. Each (GoTogether y) (rows ++ behind)) (GoTogether row)
          (λ y all. turned y row (each_found (GoTogether y) (row_of hook table mask) (listed.has_handle handle) mask.filters f found (each_front (GoTogether y) rows behind all)))
          ahead (pairs_across GoTogether ahead (rows ++ behind) together),
      each_found (λ x. Each (GoTogether x) behind) (row_of hook table mask) (listed.has_handle handle) mask.filters f found
          (pairs_across GoTogether rows behind (pairs_back GoTogether ahead (rows ++ behind) together)),
    )

-- ---- no other filter of the mask has the handle
others_fail : (hook : Hook) (table : PlainTable) (mask : PlainMask) (handle : ℕ) (g : Filter) → listed.has_handle handle g ≡ true → (fs : List Filter) →
    Each (GoTogether (row_of hook table mask g)) (map (row_of hook table mask) fs) → Each (Fails (listed.has_handle handle)) fs
others_fail hook table mask handle g is [] all = tt
others_fail hook table mask handle g is (f ∷ fs) all = (
  not_both true (listed.has_handle handle f) (λ any same. all.0.handles refl (found_handle handle g is ∙ sym (found_handle handle f same))),
  others_fail hook table mask handle g is fs all.1,
)

one_step : (handle : ℕ) (b : Bool) (g f : Filter) (fs : List Filter) → listed.has_handle handle g ≡ b → cond b (Some g) (find (listed.has_handle handle) fs) ≡ Some f →
    (listed.has_handle handle g ≡ true → Each (Fails (listed.has_handle handle)) fs) → (find (listed.has_handle handle) fs ≡ Some f → filter (listed.has_handle handle) fs ≡ f ∷ []) →
    cond b (g ∷ filter (listed.has_handle handle) fs) (filter (listed.has_handle handle) fs) ≡ f ∷ []
one_step handle true g f fs passes is fail later =
    ap (λ rest. g ∷ rest) (none_pass (listed.has_handle handle) fs (fail passes)) ∙ ap (λ h. h ∷ []) (same_Some g f is)
one_step handle false g f fs passes is fail later = later is

pub one_with_handle : (hook : Hook) (table : PlainTable) (mask : PlainMask) (handle : ℕ) (f : Filter) (fs : List Filter) → EachPair GoTogether (map (row_of hook table mask) fs) →
    find (listed.has_handle handle) fs ≡ Some f → filter (listed.has_handle handle) fs ≡ f ∷ []
one_with_handle hook table mask handle f [] together is = absurd (none-some f is)
one_with_handle hook table mask handle f (g ∷ fs) together is =
    one_step handle (listed.has_handle handle g) g f fs refl is (λ passes. others_fail hook table mask handle g passes fs together.0)
    (one_with_handle hook table mask handle f fs together.1)
