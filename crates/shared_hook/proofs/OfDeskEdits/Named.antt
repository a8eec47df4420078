-- The names of tables, one behind the other.
use Rattle.std.proofs.Common.{◌≡◌, ◌∙◌, ◌⊎◌, inl, inr, ℕ, zero, suc, ◌+◌, ◌==◌, ◌||◌, Bool, true, false, if◌then◌else◌, eqb, List, [], ◌∷◌, ◌++◌, length, slice_get, Some, refl, sym, ap, subst, arith, eq-eqb, eqb-true}
use Rattle.std.specs.List.{IsDistinct, list_any}
use Rattle.visit_room.specs.declared.names.MaskName.{MaskName}
use Rattle.block_codec.specs.declared.table.StoredTable.{StoredTable}
use Rattle.hook_law.specs.Standing.{IsIn}
use Rattle.desk_masks.specs.OfHeadChains.Chains.{IsNamedIn}
use Rattle.root_pool_laws.proofs.Apart.{in_left, in_right}
use Rattle.desk_heads.proofs.Distinct.{distinct_more}
use Rattle.shared_hook.specs.OfDeskEdits.Parting.{has_name, is_named, names_in, gone_of}

-- ---- what passes a test
any_at : {A : Type 0} (p : A → Bool) (xs : List A) (i : ℕ) (x : A) → slice_get xs i ≡ Some x → p x ≡ true → list_any p xs ≡ true
any_at p [] i x e is = absurd (cc e)
any_at p (y ∷ ys) zero x e is = let same : y ≡ x = cc e in ap (λ (t : Bool). t || list_any p ys) (ap p same ∙ is)
any_at p (y ∷ ys) (suc i) x e is = pick (p y) (any_at p ys i x e is)
  where
    pick : (t : Bool) → list_any p ys ≡ true → (t || list_any p ys) ≡ true
    pick true rest = refl
    pick false rest = rest

any_where : {A : Type 0} (p : A → Bool) (xs : List A) → list_any p xs ≡ true → (x : A) × IsIn x xs × (p x ≡ true)
any_where {A = A} p [] e = absurd (cc e)
any_where {A = A} p (y ∷ ys) e = pick (p y) refl e (any_where p ys)
  where
    pick : (t : Bool) → p y ≡ t → (t || list_any p ys) ≡ true → (list_any p ys ≡ true → (x : A) × IsIn x ys × (p x ≡ true)) → (x : A) × IsIn x (y ∷ ys) × (p x ≡ true)
    pick true is e2 rest = (y, (0, refl), is)
    pick false is e2 rest = let r = rest e2 in (r.0, (suc r.1.0, r.1.1), r.2)

pub named_true : (tables : List StoredTable) (m slot : ℕ) → IsNamedIn tables m slot → is_named tables m ≡ true
named_true tables m slot n = any_at (λ (t : StoredTable). has_name m t.masks) tables n.place n.table n.there
    (any_at (λ (x : MaskName). x.serial == m) n.table.masks n.among n.name n.has (eq-eqb n.name.serial m n.serial_is))

pub true_named : (tables : List StoredTable) (m : ℕ) → is_named tables m ≡ true → (slot : ℕ) × IsNamedIn tables m slot
true_named tables m is = let t = any_where (λ (t : StoredTable). has_name m t.masks) tables is in let n = any_where (λ (x : MaskName). x.serial == m) t.0.masks t.2 in
    (n.0.slot, record { place = t.1.0; among = n.1.0; table = t.0; name = n.0; there = t.1.1; has = n.1.1; serial_is = eqb-true n.0.serial m n.2; slot_is = refl })

-- ---- where a name is
split : {A : Type 0} (xs ys : List A) (i : ℕ) (x : A) → slice_get (xs ++ ys) i ≡ Some x → (slice_get xs i ≡ Some x) ⊎ ((j : ℕ) × (i ≡ length xs + j) × (slice_get ys j ≡ Some x))
split [] ys i x e = inr (i, omega arith, e)
split (z ∷ zs) ys zero x e = inl e
split (z ∷ zs) ys (suc i) x e = pick (split zs ys i x e)
  where
    pick : (slice_get zs i ≡ Some x) ⊎ ((j : ℕ) × (i ≡ length zs + j) × (slice_get ys j ≡ Some x)) → (slice_get zs i ≡ Some x) ⊎ ((j : ℕ) × (suc i ≡ suc (length zs) + j) × (slice_get ys j ≡ Some x))
    pick (inl at) = inl at
    pick (inr r) = let is = r.1 in inr (r.0, omega (arith, is), r.2)

abbrev offset : List StoredTable → ℕ → ℕ
offset [] place = 0
offset (t ∷ ts) zero = 0
offset (t ∷ ts) (suc place) = length t.masks + offset ts place

pub record IsLocated (ts : List StoredTable) (i : ℕ) (name : MaskName) : Type 0 where
  pub named : IsNamedIn ts name.serial name.slot
  pub at : i ≡ offset ts named.place + named.among

pub located : (ts : List StoredTable) (i : ℕ) (name : MaskName) → slice_get (names_in ts) i ≡ Some name → IsLocated ts i name
located [] i name e = absurd (cc e)
located (t ∷ ts) i name e = pick (split t.masks (names_in ts) i name e) (λ j at. located ts j name at)
  where
    pick : (slice_get t.masks i ≡ Some name) ⊎ ((j : ℕ) × (i ≡ length t.masks + j) × (slice_get (names_in ts) j ≡ Some name)) → ((j : ℕ) → slice_get (names_in ts) j ≡ Some name → IsLocated ts j name) → IsLocated (t ∷ ts) i name
    pick (inl own) rest = record { named = record { place = 0; among = i; table = t; name = name; there = refl; has = own; serial_is = refl; slot_is = refl }; at = omega arith }
    pick (inr r) rest = let l = rest r.0 r.2 in let is = r.1 in let at = l.at in record {
      named = record { place = suc l.named.place; among = l.named.among; table = l.named.table; name = l.named.name; there = l.named.there; has = l.named.has; serial_is = l.named.serial_is; slot_is = l.named.slot_is };
      at = omega (arith, is, at);
    }

pub same_place : (ts : List StoredTable) (i j : ℕ) (one other : MaskName) (x : IsLocated ts i one) (z : IsLocated ts j other) → x.named.place ≡ z.named.place → x.named.among ≡ z.named.among → i ≡ j
same_place ts i j one other x z place among = x.at ∙ ((λ t. offset ts (place t) + among t) ∙ sym z.at)

flat : (ts : List StoredTable) (place among : ℕ) (t : StoredTable) (name : MaskName) → slice_get ts place ≡ Some t → slice_get t.masks among ≡ Some name → IsIn name (names_in ts)
flat [] place among t name e has = absurd (cc e)
flat (u ∷ ts) zero among t name e has = let same : u ≡ t = cc e in in_left u.masks (names_in ts) name (among, subst (λ (v : StoredTable). slice_get v.masks among ≡ Some name) (sym same) has)
flat (u ∷ ts) (suc place) among t name e has = in_right u.masks (names_in ts) name (flat ts place among t name e has)

pub in_flat : (ts : List StoredTable) (m slot : ℕ) (n : IsNamedIn ts m slot) → IsIn n.name (names_in ts)
in_flat ts m slot n = flat ts n.place n.among n.table n.name n.there n.has

-- ---- those that other tables don't have
abbrev pub IsOut : List StoredTable → List MaskName → ℕ → Type 0
IsOut tables names m = (place : ℕ) × (name : MaskName) × (slice_get names place ≡ Some name) × (name.serial ≡ m) × (is_named tables name.serial ≡ false)

pub out_of : (tables : List StoredTable) (names : List MaskName) (m : ℕ) → IsIn m (gone_of tables names) → IsOut tables names m
out_of tables [] m at = let e = at.1 in absurd (cc e)
out_of tables (n ∷ ns) m at = pick (is_named tables n.serial) refl at (out_of tables ns m)
  where
    more : IsOut tables ns m → IsOut tables (n ∷ ns) m
    more r = (suc r.0, r.1, r.2, r.3, r.4)

    pick : (t : Bool) → is_named tables n.serial ≡ t → IsIn m (if t then gone_of tables ns else n.serial ∷ gone_of tables ns) → (IsIn m (gone_of tables ns) → IsOut tables ns m) → IsOut tables (n ∷ ns) m
    pick true is in_ rest = more (rest in_)
    pick false is in_ rest = walk in_.0 in_.1 rest
      where
        walk : (place : ℕ) → slice_get (n.serial ∷ gone_of tables ns) place ≡ Some m → (IsIn m (gone_of tables ns) → IsOut tables ns m) → IsOut tables (n ∷ ns) m
        walk zero e rest2 = (0, n, refl, cc e, is)
        walk (suc place) e rest2 = more (rest2 (place, e))

pub in_gone : (tables : List StoredTable) (names : List MaskName) (place : ℕ) (name : MaskName) → slice_get names place ≡ Some name → is_named tables name.serial ≡ false → IsIn name.serial (gone_of tables names)
in_gone tables [] place name e gone = absurd (cc e)
in_gone tables (n ∷ ns) zero name e gone = let same : n ≡ name = cc e in pick (is_named tables n.serial) (ap (λ (x : MaskName). is_named tables x.serial) same ∙ gone) (ap (λ (x : MaskName). x.serial) same)
  where
    pick : (t : Bool) → t ≡ false → n.serial ≡ name.serial → IsIn name.serial (if t then gone_of tables ns else n.serial ∷ gone_of tables ns)
    pick true is same2 = absurd (cc is)
    pick false is same2 = (0, ap Some same2)
in_gone tables (n ∷ ns) (suc place) name e gone = pick (is_named tables n.serial) (in_gone tables ns place name e gone)
  where
    pick : (t : Bool) → IsIn name.serial (gone_of tables ns) → IsIn name.serial (if t then gone_of tables ns else n.serial ∷ gone_of tables ns)
    pick true in_ = in_
    pick false in_ = (suc in_.0, in_.1)

-- different serials stay different
pub gone_different : (tables : List StoredTable) (names : List MaskName) → ((i j : ℕ) (one other : MaskName) → slice_get names i ≡ Some one → slice_get names j ≡ Some other → one.serial ≡ other.serial → i ≡ j)
    → IsDistinct eqb (gone_of tables names)
unfolding IsDistinct
gone_different tables [] apart = tt
gone_different tables (n ∷ ns) apart = pick (is_named tables n.serial) (gone_different tables ns (λ i j x z e f same. let up = apart (suc i) (suc j) x z e f same in omega (arith, up)))
  where
    none : IsIn n.serial (gone_of tables ns) → ⊥
    none at = let o = out_of tables ns n.serial at in let bad = apart 0 (suc o.0) n o.1 refl o.2 (sym o.3) in absurd (omega (arith, bad))

    pick : (t : Bool) → IsDistinct eqb (gone_of tables ns) → IsDistinct eqb (if t then gone_of tables ns else n.serial ∷ gone_of tables ns)
    pick true rest = rest
    pick false rest = distinct_more n.serial (gone_of tables ns) none rest
