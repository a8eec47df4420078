-- What is told of the order of a mask's filters as an edit is made, and what was known of it before.
use Rattle.std.proofs.Common.{◌≡◌, ◌≢◌, ◌∙◌, ℕ, zero, suc, ◌<◌, Bool, true, false, not, ◌&&◌, ltb, eqb, List, [], ◌∷◌, ◌++◌, Option, Some, None, if◌then◌else◌, refl, ap, ltb-true, lt-ltb, eqb-true, eq-eqb, ne_eqb}
use Rattle.std.specs.Prelude.{option_map, bytes_eq, slice_get}
use Rattle.std.proofs.lemmas.Bool.{eqb-false}
use Rattle.std.proofs.lemmas.Slice.Eq.{bytes_eq-Decides}
use Rattle.block_codec.specs.declared.filter.StoredFilter.{StoredFilter}
use Rattle.mask_table.specs.OfMirrors.Changing.{HasNone}
use Rattle.mask_writer.specs.Masks.{Order}
use Rattle.mask_writer.specs.Telling.{joined, lacks, rewritten, with_filters, without, exchanged}

-- ---- filters that come behind the others
abbrev behind : Order → List StoredFilter → ℕ → Order
behind o fs edit = record { filters = o.filters ++ fs; newest = edit }

pub joined_known : (before : Option Order) (o : Order) (fs : List StoredFilter) (edit : ℕ) → before ≡ Some o → o.newest < edit
    → joined before fs edit ≡ Some (record { filters = o.filters ++ fs; newest = edit })
joined_known before o fs edit is later = ap (λ (b : Option Order). joined b fs edit) is
    ∙ ap (λ (t : Bool). if t then Some (behind o fs edit) else None) (lt-ltb o.newest edit later)

pub record IsJoined (before : Option Order) (fs : List StoredFilter) (edit : ℕ) (after : Order) : Type 0 where
  pub order : Order
  pub known : before ≡ Some order
  pub later : order.newest < edit
  pub same : behind order fs edit ≡ after

pub joined_from : (before : Option Order) (fs : List StoredFilter) (edit : ℕ) (after : Order) → joined before fs edit ≡ Some after
    → IsJoined before fs edit after
joined_from None fs edit after e = absurd (cc e)
joined_from (Some o) fs edit after e = pick (ltb o.newest edit) refl e
  where
    pick : (t : Bool) → ltb o.newest edit ≡ t → (if t then Some (behind o fs edit) else None) ≡ Some after
        → IsJoined (Some o) fs edit after
    pick true is e = record { order = o; known = refl; later = ltb-true o.newest edit is; same = cc e }
    pick false is e = absurd (cc e)

-- ---- no filter has the handle
lacks_none : (handle : ℕ) (fs : List StoredFilter) → lacks handle fs ≡ true → HasNone handle fs
lacks_none handle [] e f (k, at) = absurd (cc at)
lacks_none handle (g ∷ gs) e f (k, at) = pick (eqb g.handle handle) refl e k at (lacks_none handle gs)
  where
    pick : (t : Bool) → eqb g.handle handle ≡ t → (not t && lacks handle gs) ≡ true → (k : ℕ) → slice_get (g ∷ gs) k ≡ Some f
        → (lacks handle gs ≡ true → HasNone handle gs) → f.handle ≢ handle
    pick true is all k at more = absurd (cc all)
    pick false is all zero at more = let same : g ≡ f = cc at in
        λ named. eqb-false g.handle handle is (ap (λ (x : StoredFilter). x.handle) same ∙ named)
    pick false is all (suc k) at more = more all f (k, at)

none_lacks : (handle : ℕ) (fs : List StoredFilter) → HasNone handle fs → lacks handle fs ≡ true
none_lacks handle [] none = refl
none_lacks handle (f ∷ fs) none = let one = ne_eqb f.handle handle (none f (0, refl)) in
    let rest = none_lacks handle fs (λ g i. none g (suc i.0, i.1)) in λ t. not (one t) && rest t

none_more : (handle : ℕ) (f : StoredFilter) (fs : List StoredFilter) → f.handle ≢ handle → HasNone handle fs → HasNone handle (f ∷ fs)
none_more handle f fs away none g (zero, e) = let same : f ≡ g = cc e in λ named. away (ap (λ (x : StoredFilter). x.handle) same ∙ named)
none_more handle f fs away none g (suc k, e) = none g (k, e)

-- ---- others in the place of one
pub record IsRewritten (meets : StoredFilter → Bool) (handle : ℕ) (more fs gs : List StoredFilter) : Type 0 where
  pub earlier : List StoredFilter
  pub old : StoredFilter
  pub later : List StoredFilter
  pub whole : fs ≡ earlier ++ old ∷ later
  pub named : old.handle ≡ handle
  pub met : meets old ≡ true
  pub none : HasNone handle (earlier ++ later)
  pub result : earlier ++ (more ++ later) ≡ gs

module _ (meets : StoredFilter → Bool) (handle : ℕ) (more : List StoredFilter) where
  pub rewritten_from : (fs gs : List StoredFilter) → rewritten meets handle more fs ≡ Some gs → IsRewritten meets handle more fs gs
  rewritten_from [] gs e = absurd (cc e)
  rewritten_from (f ∷ fs) gs e = pick (eqb f.handle handle) refl e (rewritten_from fs)
    where
      here : eqb f.handle handle ≡ true → (m l : Bool) → meets f ≡ m → lacks handle fs ≡ l → (if m && l then Some (more ++ fs) else None) ≡ Some gs
          → IsRewritten meets handle more (f ∷ fs) gs
      here is true true met lack e = record {
        earlier = [];
        old = f;
        later = fs;
        whole = refl;
        named = eqb-true f.handle handle is;
        met = met;
        none = lacks_none handle fs lack;
        result = cc e;
      }
      here is true false met lack e = absurd (cc e)
      here is false l met lack e = absurd (cc e)

      there : eqb f.handle handle ≡ false → (r : Option (List StoredFilter)) → rewritten meets handle more fs ≡ r → option_map (λ hs. f ∷ hs) r ≡ Some gs
          → ((hs : List StoredFilter) → rewritten meets handle more fs ≡ Some hs → IsRewritten meets handle more fs hs) → IsRewritten meets handle more (f ∷ fs) gs
      there is None rest e from = absurd (cc e)
      there is (Some hs) rest e from = let i = from hs rest in record {
        earlier = f ∷ i.earlier;
        old = i.old;
        later = i.later;
        whole = ap (λ (xs : List StoredFilter). f ∷ xs) i.whole;
        named = i.named;
        met = i.met;
        none = none_more handle f (i.earlier ++ i.later) (eqb-false f.handle handle is) i.none;
        result = ap (λ (xs : List StoredFilter). f ∷ xs) i.result ∙ cc e;
      }

      pick : (t : Bool) → eqb f.handle handle ≡ t
          → (if t then (if meets f && lacks handle fs then Some (more ++ fs) else None) else option_map (λ hs. f ∷ hs) (rewritten meets handle more fs)) ≡ Some gs
          → ((hs : List StoredFilter) → rewritten meets handle more fs ≡ Some hs → IsRewritten meets handle more fs hs) → IsRewritten meets handle more (f ∷ fs) gs
      pick true is e from = here is (meets f) (lacks handle fs) refl refl e
      pick false is e from = there is (rewritten meets handle more fs) refl e from

  pub rewritten_known : (earlier : List StoredFilter) (old : StoredFilter) (later : List StoredFilter) → old.handle ≡ handle → meets old ≡ true
      → HasNone handle (earlier ++ later) → rewritten meets handle more (earlier ++ old ∷ later) ≡ Some (earlier ++ (more ++ later))
  rewritten_known [] old later named met none = let lack = none_lacks handle later none in
      ap (λ (t : Bool). if t then (if meets old && lacks handle later then Some (more ++ later) else None) else option_map (λ hs. old ∷ hs) (rewritten meets handle more later)) (eq-eqb old.handle handle named)
      ∙ (λ t. if met t && lack t then Some (more ++ later) else None)
  rewritten_known (f ∷ fs) old later named met none =
      ap (λ (t : Bool). if t then (if meets f && lacks handle (fs ++ old ∷ later) then Some (more ++ (fs ++ old ∷ later)) else None) else option_map (λ hs. f ∷ hs) (rewritten meets handle more (fs ++ old ∷ later)))
      (ne_eqb f.handle handle (none f (0, refl)))
      ∙ ap (option_map (λ hs. f ∷ hs)) (rewritten_known fs old later named met (λ g i. none g (suc i.0, i.1)))

-- ---- the order with one filter rewritten
pub record IsEdited (before : Option Order) (meets : StoredFilter → Bool) (handle : ℕ) (more : List StoredFilter) (after : Order) : Type 0 where
  pub order : Order
  pub known : before ≡ Some order
  pub newest : order.newest ≡ after.newest
  pub filters : IsRewritten meets handle more order.filters after.filters

edited_from : (o : Order) (meets : StoredFilter → Bool) (handle : ℕ) (more : List StoredFilter) (after : Order)
    → with_filters o.newest (rewritten meets handle more o.filters) ≡ Some after → IsEdited (Some o) meets handle more after
edited_from o meets handle more after e = pick (rewritten meets handle more o.filters) refl e
  where
    pick : (r : Option (List StoredFilter)) → rewritten meets handle more o.filters ≡ r → with_filters o.newest r ≡ Some after → IsEdited (Some o) meets handle more after
    pick None is e = absurd (cc e)
    pick (Some gs) is e = let same : record { filters = gs; newest = o.newest } ≡ after = cc e in record {
      order = o;
      known = refl;
      newest = ap (λ (x : Order). x.newest) same;
      filters = rewritten_from meets handle more o.filters after.filters (is ∙ ap (λ (x : Order). Some x.filters) same);
    }

edited_known : (o : Order) (meets : StoredFilter → Bool) (handle : ℕ) (more earlier : List StoredFilter) (old : StoredFilter) (later : List StoredFilter)
    → o.filters ≡ earlier ++ old ∷ later → old.handle ≡ handle → meets old ≡ true → HasNone handle (earlier ++ later)
    → with_filters o.newest (rewritten meets handle more o.filters) ≡ Some (record { filters = earlier ++ (more ++ later); newest = o.newest })
edited_known o meets handle more earlier old later whole named met none = ap (λ (fs : List StoredFilter). with_filters o.newest (rewritten meets handle more fs)) whole
    ∙ ap (with_filters o.newest) (rewritten_known meets handle more earlier old later named met none)

pub without_from : (before : Option Order) (fs : List StoredFilter) (handle : ℕ) (after : Order) → without before fs handle ≡ Some after → IsEdited before (λ f. true) handle [] after
without_from None fs handle after e = absurd (cc e)
without_from (Some o) fs handle after e = edited_from o (λ f. true) handle [] after e

pub without_known : (before : Option Order) (o : Order) (fs : List StoredFilter) (handle : ℕ) (earlier : List StoredFilter) (old : StoredFilter) (later : List StoredFilter) → before ≡ Some o
    → o.filters ≡ earlier ++ old ∷ later → old.handle ≡ handle → HasNone handle (earlier ++ later) → without before fs handle ≡ Some (record { filters = earlier ++ later; newest = o.newest })
without_known before o fs handle earlier old later is whole named none = ap (λ (b : Option Order). without b fs handle) is ∙ edited_known o (λ f. true) handle [] earlier old later whole named refl none

-- a filter has the key of another
abbrev pub same_key : StoredFilter → StoredFilter → Bool
same_key filter f = bytes_eq f.key.words filter.key.words

pub exchanged_from : (before : Option Order) (filter : StoredFilter) (number : ℕ) (after : Order) → exchanged before (filter ∷ []) number ≡ Some after
    → IsEdited before (same_key filter) filter.handle (filter ∷ []) after
exchanged_from None filter number after e = absurd (cc e)
exchanged_from (Some o) filter number after e = edited_from o (same_key filter) filter.handle (filter ∷ []) after e

pub key_is : (filter f : StoredFilter) → same_key filter f ≡ true → f.key.words ≡ filter.key.words
key_is filter f e = (bytes_eq-Decides f.key.words filter.key.words).0 e

pub exchanged_known : (before : Option Order) (o : Order) (filter : StoredFilter) (number : ℕ) (earlier : List StoredFilter) (old : StoredFilter) (later : List StoredFilter) → before ≡ Some o
    → o.filters ≡ earlier ++ old ∷ later → old.handle ≡ filter.handle → old.key.words ≡ filter.key.words → HasNone filter.handle (earlier ++ later)
    → exchanged before (filter ∷ []) number ≡ Some (record { filters = earlier ++ filter ∷ later; newest = o.newest })
exchanged_known before o filter number earlier old later is whole named key none = ap (λ (b : Option Order). exchanged b (filter ∷ []) number) is
    ∙ edited_known o (same_key filter) filter.handle (filter ∷ []) earlier old later whole named ((bytes_eq-Decides old.key.words filter.key.words).1 key) none
