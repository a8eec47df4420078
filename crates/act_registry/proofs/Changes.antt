-- What stays true of a registry that gets, loses or changes an entry.
use Rattle.std.proofs.Common.{◌≡◌, ℕ, ◌+◌, zero, suc, ◌<◌, ◌≤◌, false, cond, List, [], ◌∷◌, ◌++◌, length, get_or, set, take, drop, refl, sym, ap, ◌∙◌, length-append, arith}
use Rattle.std.specs.Prelude.{map}
use Rattle.std.specs.List.{All, count_by, insert, remove}
use Rattle.std.proofs.lemmas.List.{get_or-map, length-map}
use Rattle.std.proofs.lemmas.List.Edits.{length-remove}
use Rattle.std.proofs.lemmas.List.Elements.{All-set, All-push, All-append, All-take, All-drop, All-weaker}
use Rattle.std.proofs.lemmas.List.Quantifiers.{all_pairs_push, all_pairs_remove}
use Rattle.std.proofs.lemmas.List.Sums.{sum_by-insert, sum_by-remove, sum_by_push}
use Rattle.act_registry.specs.declared.entry.Entry.{Entry}
use Rattle.act_registry.specs.declared.names.Name.{Name}
use Rattle.act_registry.specs.Entries.{AreRising, AreApart, AreLive, IsLive, is_named}
use Rattle.act_registry.specs.Names.{AreIndexed, ComesBefore, IsPlaceFor, name_of, has_name}
use Rattle.act_registry.specs.OnePlace.{NoPlace}
use Rattle.act_registry.proofs.Counts.{count-map}
use Rattle.act_registry.proofs.Order.{insert-sorted}

-- an entry changed in its place, which keeps its name

map-set : {X Y : Type 0} (f : X → Y) (xs : List X) (at : ℕ) (y d : X) → f y ≡ f (get_or xs at d) → map f (set xs at y) ≡ map f xs
map-set f [] at y d same = refl
map-set f (x ∷ xs) zero y d same = ap (λ z. z ∷ map f xs) same
map-set f (x ∷ xs) (suc at) y d same = ap (λ rest. f x ∷ rest) (map-set f xs at y d same)

-- lists with the same names have the same name at each place
same-at : {X Y : Type 0} (f : X → Y) (xs ys : List X) → map f ys ≡ map f xs → (i : ℕ) (d : X) → i < length ys → f (get_or ys i d) ≡ f (get_or xs i d)
same-at f xs ys same i d within =
    let long : length xs ≡ length ys = sym (length-map xs f) ∙ sym (ap length same) ∙ length-map ys f in
    sym (get_or-map f ys i d (f d) within) ∙ ap (λ zs. get_or zs i (f d)) same ∙ get_or-map f xs i d (f d) (omega (arith, long, within))

renamed-rising : {P : Type 0} (kind_of : P → ℕ) (xs ys : List (Entry P)) → map (name_of kind_of) ys ≡ map (name_of kind_of) xs → AreRising xs → AreRising ys
renamed-rising kind_of xs ys same rising = λ i j d less within.
    let long : length xs ≡ length ys = sym (length-map xs (name_of kind_of)) ∙ sym (ap length same) ∙ length-map ys (name_of kind_of) in
    let a = ap (λ n. n.serial) (same-at (name_of kind_of) xs ys same i d (omega (arith, less, within))) in
    let b = ap (λ n. n.serial) (same-at (name_of kind_of) xs ys same j d within) in
    let step = rising i j d less (omega (arith, long, within)) in
    omega (arith, a, b, step)

renamed-apart : {P : Type 0} (kind_of : P → ℕ) (xs ys : List (Entry P)) → map (name_of kind_of) ys ≡ map (name_of kind_of) xs → AreApart kind_of xs → AreApart kind_of ys
renamed-apart kind_of xs ys same apart = λ i j d less within.
    let long : length xs ≡ length ys = sym (length-map xs (name_of kind_of)) ∙ sym (ap length same) ∙ length-map ys (name_of kind_of) in
    let a = same-at (name_of kind_of) xs ys same i d (omega (arith, less, within)) in
    let b = same-at (name_of kind_of) xs ys same j d within in
    let step = apart i j d less (omega (arith, long, within)) in
    ap (λ n. has_name n.kind n.index (name_of kind_of (get_or ys i d))) b ∙ ap (λ n. has_name (name_of kind_of (get_or xs j d)).kind (name_of kind_of (get_or xs j d)).index n) a ∙ step

pub changed-live : {P : Type 0} (kind_of : P → ℕ) (es : List (Entry P)) (made at : ℕ) (e d : Entry P) → AreLive kind_of es made →
    name_of kind_of e ≡ name_of kind_of (get_or es at d) → IsLive made e → AreLive kind_of (set es at e) made
changed-live kind_of es made at e d live same here =
    let names = map-set (name_of kind_of) es at e d same in
    let long : length (set es at e) ≡ length es = sym (length-map (set es at e) (name_of kind_of)) ∙ ap length names ∙ length-map es (name_of kind_of) in
    record {
      rising = renamed-rising kind_of es (set es at e) names live.rising;
      apart = renamed-apart kind_of es (set es at e) names live.apart;
      each = All-set (IsLive made) es at e here live.each;
      few = omega (arith, long, live.few);
      in_run = live.in_run;
    }

pub changed-indexed : {P : Type 0} (kind_of : P → ℕ) (es : List (Entry P)) (ns : List Name) (at : ℕ) (e d : Entry P) → AreIndexed kind_of es ns →
    name_of kind_of e ≡ name_of kind_of (get_or es at d) → AreIndexed kind_of (set es at e) ns
changed-indexed kind_of es ns at e d index same =
    record { sorted = index.sorted; same = λ test. index.same test ∙ ap (λ ms. count_by test ms) (sym (map-set (name_of kind_of) es at e d same)) }

-- an entry less

all-remove : {X : Type 0} (Q : X → Type 0) (xs : List X) (at : ℕ) → All Q xs → All Q (remove xs at)
all-remove Q xs at all = All-append Q (take at xs) (drop (suc at) xs) (All-take Q at xs all) (All-drop Q (suc at) xs all)

pub removed-live : {P : Type 0} (kind_of : P → ℕ) (es : List (Entry P)) (made at : ℕ) → AreLive kind_of es made → at < length es → AreLive kind_of (remove es at) made
removed-live kind_of es made at live within =
    record {
      rising = all_pairs_remove (λ a b. a.serial < b.serial) es at within live.rising;
      apart = all_pairs_remove (λ a b. is_named kind_of (kind_of b.params) b.index a ≡ false) es at within live.apart;
      each = all-remove (IsLive made) es at live.each;
      few = (let long = length-remove es at within in omega (arith, long, live.few));
      in_run = live.in_run;
    }

pub removed-indexed : {P : Type 0} (kind_of : P → ℕ) (es : List (Entry P)) (ns : List Name) (at place : ℕ) (d : Entry P) (n : Name) → AreIndexed kind_of es ns →
    at < length es → place < length ns → get_or ns place n ≡ name_of kind_of (get_or es at d) → AreIndexed kind_of (remove es at) (remove ns place)
removed-indexed kind_of es ns at place d n index within inside same =
    record {
      sorted = all_pairs_remove ComesBefore ns place inside index.sorted;
      same = λ test.
          let named = sum_by-remove (λ m. cond (test m) 1 0) ns place n inside in
          let held = sum_by-remove (λ e. cond (test (name_of kind_of e)) 1 0) es at d within in
          let one = ap (λ m. cond {A = ℕ} (test m) 1 0) same in
          let before = index.same test ∙ count-map test (name_of kind_of) es in
          let after = count-map test (name_of kind_of) (remove es at) in
          omega (arith, named, held, one, before, after);
    }

-- an entry more

later-live : {P : Type 0} (made : ℕ) (e : Entry P) → IsLive made e → IsLive (made + 1) e
later-live made e old =
    record { counted = old.counted; so_far = (let low = old.so_far in omega (arith, low)); held = old.held; bound = old.bound }

pub pushed-live : {P : Type 0} (kind_of : P → ℕ) (es : List (Entry P)) (made : ℕ) (e : Entry P) → AreLive kind_of es made →
    e.serial ≡ made + 1 → 1 ≤ e.references → e.binds ≤ e.references → NoPlace (is_named kind_of (kind_of e.params) e.index) es →
    length es < 1024 → made < 16384 → AreLive kind_of (es ++ e ∷ []) (made + 1)
pushed-live kind_of es made e live serial held bound new few in_run =
    record {
      rising = all_pairs_push (λ a b. a.serial < b.serial) es e live.rising (λ k d within. let old = (live.each k d within).so_far in omega (arith, old, serial));
      apart = all_pairs_push (λ a b. is_named kind_of (kind_of b.params) b.index a ≡ false) es e live.apart new;
      each = All-push (IsLive (made + 1)) es e (All-weaker (IsLive made) (IsLive (made + 1)) (λ x old. later-live made x old) es live.each)
          (record { counted = omega (arith, serial); so_far = omega (arith, serial); held = held; bound = bound });
      few = (let long = length-append es (e ∷ []) in omega (arith, long, few));
      in_run = omega (arith, in_run);
    }

pub pushed-indexed : {P : Type 0} (kind_of : P → ℕ) (es : List (Entry P)) (ns : List Name) (place : ℕ) (e : Entry P) (n : Name) → AreIndexed kind_of es ns →
    n ≡ name_of kind_of e → IsPlaceFor n.kind n.index ns place → NoPlace (has_name n.kind n.index) ns → AreIndexed kind_of (es ++ e ∷ []) (insert ns place n)
pushed-indexed kind_of es ns place e n index is at new =
    record {
      sorted = insert-sorted ns place n index.sorted at new;
      same = λ test.
          let named = sum_by-insert (λ m. cond (test m) 1 0) ns place n in
          let held = sum_by_push (λ x. cond (test (name_of kind_of x)) 1 0) es e in
          let one = ap (λ m. cond {A = ℕ} (test m) 1 0) is in
          let before = index.same test ∙ count-map test (name_of kind_of) es in
          let after = count-map test (name_of kind_of) (es ++ e ∷ []) in
          omega (arith, named, held, one, before, after);
    }
