-- Actions that are live no more leave one after the other.
use Rattle.std.proofs.Common.{◌≡◌, ◌≢◌, ◌∙◌, ◌⊎◌, inl, inr, ℕ, zero, suc, ◌+◌, ◌*◌, ◌<◌, ◌≤◌, Bool, true, false, eqb, eqb-true, List, [], ◌∷◌, ◌++◌, length, take, drop, map, get_or, slice_get, slice_set, Some, refl, sym, ap, subst, arith, append_assoc}
use mathlib.Core.List.{append-nil}
use Rattle.std.specs.List.{IsDistinct}
use Rattle.std.proofs.lemmas.Bool.{eqb-false}
use Rattle.std.proofs.lemmas.Option.{slice_get_within}
use Rattle.std.proofs.lemmas.List.{get_or-set_same, get_or-set_other, length-set, map-append, take-append-drop}
use Rattle.store_history.specs.declared.history.Commit.{Commit}
use Rattle.store_history.specs.declared.places.TheConstants.{MASK_SLOTS, ACTION_SLOTS, ROW_BUCKETS, MASK_ROOTS, ACTION_ROOTS, BUCKET_ROOTS, POOL_BLOCKS}
use Rattle.filter_state.specs.declared.edit.Edit.{Edit}
use Rattle.hook_lists.specs.declared.kept.Kept.{Kept}
use Rattle.hook_law.specs.Places.{action_root}
use Rattle.hook_law.specs.Meaning.{IsLive}
use Rattle.hook_law.specs.Standing.{Role, Action as ActionRole, IsIn, IsSlotOf, Stands}
use Rattle.hook_law.proofs.Standing.{slot_longer, present_end, at_end}
use Rattle.hook_store_law.specs.Stated.{hook_meaning}
use Rattle.hook_store_law.specs.Blocks.{hook_codec}
use Rattle.hook_store_law.specs.OfEdits.Premises.{now}
use Rattle.desk_pools.specs.OfNumbers.Numbers.{PoolNumbers}
use Rattle.root_pool_laws.specs.Pools.{IsPool}
use Rattle.root_pool_laws.specs.Blocks.{HasBlock, IsLeft}
use Rattle.root_pool_laws.proofs.Blocks.{unnamed_end}
use Rattle.root_pool_laws.proofs.Apart.{in_append, in_left, in_right, distinct_append}
use Rattle.desk_pools.specs.declared.pools.Pools.{Pools}
use Rattle.desk_pools.specs.Pools.{roots_of, gone_roots, IsLeftAt, ArePools}
use Rattle.desk_pools.specs.Steps.{IsInPool}
use Rattle.root_pool_laws.proofs.Giving.{pool_as}
use Rattle.desk_pools.proofs.RootsOf.{in_roots, roots_have}
use Rattle.desk_pools.proofs.Several.{have_room}
use Rattle.desk_actions.specs.Places.{Placed, slot_of, block_of, IsAlone}
use Rattle.desk_actions.proofs.Turning.{alone_has}
use Rattle.desk_parts.specs.OfLineActions.Dropped.{MayGo, AreDropped}

-- a list with one number at its end
in_more : (xs : List ℕ) (y x : ℕ) → IsIn x (xs ++ y ∷ []) → IsIn x xs ⊎ (x ≡ y)
in_more xs y x at = pick (in_append xs (y ∷ []) x at)
  where
    one : (place : ℕ) → slice_get {X = ℕ} (y ∷ []) place ≡ Some x → x ≡ y
    one zero e = let same : y ≡ x = cc e in sym same
    one (suc place) e = absurd (cc e)

    pick : IsIn x xs ⊎ IsIn x (y ∷ []) → IsIn x xs ⊎ (x ≡ y)
    pick (inl before) = inl before
    pick (inr own) = inr (one own.0 own.1)

in_map : (f : ℕ → ℕ) (xs : List ℕ) (z : ℕ) → IsIn z (map f xs) → (x : ℕ) × IsIn x xs × (f x ≡ z)
in_map f [] z at = let e = at.1 in absurd (cc e)
in_map f (x ∷ xs) z at = go at.0 at.1 (in_map f xs z)
  where
    go : (place : ℕ) → slice_get (f x ∷ map f xs) place ≡ Some z → (IsIn z (map f xs) → (y : ℕ) × IsIn y xs × (f y ≡ z)) → (y : ℕ) × IsIn y (x ∷ xs) × (f y ≡ z)
    go zero e rest = let same : f x ≡ z = cc e in (x, (0, refl), same)
    go (suc place) e rest = let r = rest (place, e) in (r.0, (suc r.1.0, r.1.1), r.2)

distinct_more : (xs : List ℕ) (y : ℕ) → IsDistinct eqb xs → (IsIn y xs → ⊥) → IsDistinct eqb (xs ++ y ∷ [])
unfolding IsDistinct
distinct_more xs y different away = distinct_append xs (y ∷ []) different (tt, tt) (λ x at own. pick x at (in_more [] y x own))
  where
    pick : (x : ℕ) → IsIn x xs → IsIn {A = ℕ} x [] ⊎ (x ≡ y) → ⊥
    pick x at (inl none) = let e = none.1 in cc e
    pick x at (inr same) = away (subst (λ (n : ℕ). IsIn n xs) same at)

-- a number below the size that a pool doesn't have: the pool isn't full
not_full : (size : ℕ) (F L : ℕ → Type 0) (numbers : PoolNumbers) (x : ℕ) → IsPool size F L numbers.free numbers.left → x < size → (IsInPool x numbers → ⊥) → length numbers.free + length numbers.left < size
unfolding IsDistinct
not_full size F L numbers x p small apart =
    let room = have_room size F (λ y. Unit {0}) numbers (x ∷ []) (pool_as size F F L (λ y. Unit {0}) numbers.free numbers.left (λ y at f. f) (λ y at l. tt) p) (record {
      different = (tt, tt);
      small = λ y at. subst (λ (n : ℕ). n < size) (sym (one y at.0 at.1)) small;
      left = λ y at. tt;
      apart = λ y at in_. apart (subst (λ (n : ℕ). IsInPool n numbers) (one y at.0 at.1) in_);
    }) in omega (arith, room)
  where
    one : (y place : ℕ) → slice_get {X = ℕ} (x ∷ []) place ≡ Some y → y ≡ x
    one y zero e = let same : x ≡ y = cc e in sym same
    one y (suc place) e = absurd (cc e)

module _ (lists : Kept) (old : Pools) (placed : Placed) (h : List (Commit Edit)) (b after : ℕ) (serials : List ℕ) (m : MayGo lists old placed h b after serials) where
  low : b ≤ length h
  low = let late = m.late in let made = m.made in omega (arith, late, made)

  pub slot_small : (a : ℕ) → IsIn a serials → slot_of placed a < ACTION_SLOTS
  slot_small a at = (m.there a at).slot.puts.small

  -- where the action stood before the edit
  stood : (a : ℕ) → IsIn a serials → Stands hook_meaning hook_codec (take after h) (action_root (slot_of placed a)) (ActionRole a)
  stood a at = let p = m.keeps.present after m.late m.made in let was = p.placed a (m.live a at) in
      let end = present_end hook_meaning hook_codec h b low m.keeps in
      let longer : IsSlotOf hook_codec h a was.0 = subst (λ (z : List (Commit Edit)). IsSlotOf hook_codec z a was.0) (take-append-drop after h) (slot_longer hook_codec (take after h) (drop after h) a was.0 was.1) in
      let same : was.0 ≡ slot_of placed a = end.one_slot a was.0 (slot_of placed a) longer (m.there a at).slot in
      (was.0, was.1, ap action_root (sym same), m.live a at)

  -- what stands there now is the action itself
  stands_alone : (a : ℕ) → IsIn a serials → (x : Role) → Stands hook_meaning hook_codec h (action_root (slot_of placed a)) x → ActionRole a ≡ x
  stands_alone a at x s = m.keeps.apart after (length h) (action_root (slot_of placed a)) (ActionRole a) x m.late m.made (omega arith) (stood a at) (at_end hook_meaning hook_codec h (action_root (slot_of placed a)) x s)

  -- two of the actions have two slots
  two_slots : (a c : ℕ) → IsIn a serials → IsIn c serials → slot_of placed a ≡ slot_of placed c → a ≡ c
  two_slots a c one two same = let p = m.keeps.present after m.late m.made in
      let both : ActionRole a ≡ ActionRole c = p.apart (action_root (slot_of placed a)) (ActionRole a) (ActionRole c) (stood a one)
      (subst (λ (s : ℕ). Stands hook_meaning hook_codec (take after h) (action_root s) (ActionRole c)) (sym same) (stood c two)) in cc both

  -- and a dead one's is no live one's
  live_slot : (a c : ℕ) → IsIn a serials → (IsLive hook_meaning (now h) a → ⊥) → IsLive hook_meaning (now h) c → slot_of placed c ≢ slot_of placed a
  live_slot a c one dead live same = let both : ActionRole a ≡ ActionRole c = stands_alone a one (ActionRole c) (slot_of placed c, m.here.slots c live, ap action_root (sym same), live) in
      let equal : a ≡ c = cc both in dead (subst (IsLive hook_meaning (now h)) (sym equal) live)

  pub block_small : (a : ℕ) → IsIn a serials → block_of placed (slot_of placed a) < POOL_BLOCKS
  block_small a at = (m.there a at).block.0

  has_block : (a : ℕ) → IsIn a serials → HasBlock h (action_root (slot_of placed a)) (block_of placed (slot_of placed a))
  has_block a at = alone_has h (slot_of placed a) (block_of placed (slot_of placed a)) (m.there a at).block

  -- after some of the serials
  pub record DroppedUpTo (pools : Pools) (left : Placed) (upto : ℕ) : Type 0 where
    pub pools_are : ArePools pools h b
    pub same : left.slots ≡ placed.slots
    pub wide : length left.blocks ≡ ACTION_SLOTS
    pub gone : List ℕ
    pub once : IsDistinct eqb gone
    pub dead : (a : ℕ) → IsIn a gone → IsIn a serials × (IsLive hook_meaning (now h) a → ⊥)
    pub all : (place a : ℕ) → slice_get serials place ≡ Some a → place < upto → IsLive hook_meaning (now h) a ⊎ IsIn a gone
    pub own : (a : ℕ) → IsIn a serials → (IsIn a gone × (block_of left (slot_of placed a) ≡ POOL_BLOCKS))
        ⊎ ((IsIn a gone → ⊥) × (block_of left (slot_of placed a) ≡ block_of placed (slot_of placed a)))
    pub living : (a : ℕ) → IsLive hook_meaning (now h) a → block_of left (slot_of placed a) ≡ block_of placed (slot_of placed a)
    pub slots : pools.actions.left ≡ old.actions.left ++ map (slot_of placed) gone
    pub blocks : pools.blocks.left ≡ old.blocks.left ++ map (λ a. block_of placed (slot_of placed a)) gone
    pub free_slots : pools.actions.free ≡ old.actions.free
    pub free_blocks : pools.blocks.free ≡ old.blocks.free
    pub rest : pools ≡ record old { blocks = pools.blocks; actions = pools.actions }

  none_in : (a : ℕ) → IsIn {A = ℕ} a [] → ⊥
  none_in a at = let e = at.1 in cc e

  pub dropped_none : DroppedUpTo old placed 0
  unfolding IsDistinct
  dropped_none = record {
    pools_are = m.pools_are;
    same = refl;
    wide = m.here.wide;
    gone = [];
    once = tt;
    dead = λ a at. absurd (none_in a at);
    all = λ place a at less. absurd (omega (arith, less));
    own = λ a at. inr (none_in a, refl);
    living = λ a live. refl;
    slots = sym (append-nil old.actions.left);
    blocks = sym (append-nil old.blocks.left);
    free_slots = refl;
    free_blocks = refl;
    rest = refl;
  }

  module _ (pools : Pools) (left : Placed) (upto : ℕ) (d : DroppedUpTo pools left upto) where
    -- all pools are as they were but for blocks and slots of actions
    slot_apart : (a : ℕ) → IsIn a serials → (IsIn a d.gone → ⊥) → IsInPool (slot_of placed a) pools.actions → ⊥
    slot_apart a at away (inl in_) = m.apart a at (inl (subst (IsIn (slot_of placed a)) d.free_slots in_))
    slot_apart a at away (inr in_) = pick (in_append old.actions.left (map (slot_of placed) d.gone) (slot_of placed a) (subst (IsIn (slot_of placed a)) d.slots in_))
      where
        pick : IsIn (slot_of placed a) old.actions.left ⊎ IsIn (slot_of placed a) (map (slot_of placed) d.gone) → ⊥
        pick (inl before) = m.apart a at (inr before)
        pick (inr one) = let r = in_map (slot_of placed) d.gone (slot_of placed a) one in
            let same = two_slots r.0 a (d.dead r.0 r.1).0 at r.2 in away (subst (λ (n : ℕ). IsIn n d.gone) same r.1)

    -- the roots of slots that left are among those of what is gone, and no other slot's
    slot_gone : (a : ℕ) → IsIn (action_root (slot_of placed a)) (gone_roots pools) → slot_of placed a < ACTION_SLOTS → IsIn (slot_of placed a) pools.actions.left
    slot_gone a at small = pick (in_append (roots_of MASK_ROOTS 1 pools.masks.left ++ roots_of ACTION_ROOTS 1 pools.actions.left) (roots_of BUCKET_ROOTS ROW_BUCKETS pools.rows.left) (action_root (slot_of placed a)) at)
      where
        s : ℕ
        s = slot_of placed a

        of_masks : IsIn (action_root s) (roots_of MASK_ROOTS 1 pools.masks.left) → IsIn s pools.actions.left
        of_masks in_ = let r = in_roots MASK_ROOTS 1 pools.masks.left (action_root s) in_ in let below : r.0 < MASK_SLOTS = mask_small r.0 r.1 in let is = r.4 in let less = r.3 in absurd (omega (arith, below, is, less))
          where
            mask_small : (x : ℕ) → IsIn x pools.masks.left → x < MASK_SLOTS
            mask_small x in_ = let whole = in_right pools.masks.free pools.masks.left x in_ in d.pools_are.masks.small whole.0 x whole.1

        two : IsIn (action_root s) (roots_of MASK_ROOTS 1 pools.masks.left) ⊎ IsIn (action_root s) (roots_of ACTION_ROOTS 1 pools.actions.left) → IsIn s pools.actions.left
        two (inl one) = of_masks one
        two (inr one) = let r = in_roots ACTION_ROOTS 1 pools.actions.left (action_root s) one in let is = r.4 in let less = r.3 in let same : r.0 ≡ s = omega (arith, is, less) in subst (λ (n : ℕ). IsIn n pools.actions.left) same r.1

        pick : IsIn (action_root s) (roots_of MASK_ROOTS 1 pools.masks.left ++ roots_of ACTION_ROOTS 1 pools.actions.left) ⊎ IsIn (action_root s) (roots_of BUCKET_ROOTS ROW_BUCKETS pools.rows.left) → IsIn s pools.actions.left
        pick (inl one) = two (in_append (roots_of MASK_ROOTS 1 pools.masks.left) (roots_of ACTION_ROOTS 1 pools.actions.left) (action_root s) one)
        pick (inr one) = let r = in_roots BUCKET_ROOTS ROW_BUCKETS pools.rows.left (action_root s) one in let is = r.4 in absurd (omega (arith, is, small))

    block_apart : (a : ℕ) → IsIn a serials → (IsIn a d.gone → ⊥) → IsInPool (block_of placed (slot_of placed a)) pools.blocks → ⊥
    block_apart a at away (inl in_) = unnamed_end h b (block_of placed (slot_of placed a)) low (d.pools_are.blocks.may_be_given in_.0 (block_of placed (slot_of placed a)) in_.1) (action_root (slot_of placed a)) (has_block a at)
    block_apart a at away (inr in_) = slot_apart a at away (inr (slot_gone a (d.pools_are.blocks.have_left in_.0 (block_of placed (slot_of placed a)) in_.1 (action_root (slot_of placed a)) (has_block a at)) (slot_small a at)))

    module _ (a : ℕ) (at : IsIn a serials) where
      block_is : block_of left (slot_of placed a) < POOL_BLOCKS → (IsIn a d.gone → ⊥) × (block_of left (slot_of placed a) ≡ block_of placed (slot_of placed a))
      block_is less = pick (d.own a at)
        where
          pick : (IsIn a d.gone × (block_of left (slot_of placed a) ≡ POOL_BLOCKS)) ⊎ ((IsIn a d.gone → ⊥) × (block_of left (slot_of placed a) ≡ block_of placed (slot_of placed a)))
              → (IsIn a d.gone → ⊥) × (block_of left (slot_of placed a) ≡ block_of placed (slot_of placed a))
          pick (inl gone) = let is = gone.1 in absurd (omega (arith, is, less))
          pick (inr still) = still

      -- one that is there and dead
      module _ (less : block_of left (slot_of placed a) < POOL_BLOCKS) (dead : IsLive hook_meaning (now h) a → ⊥) where
        pub old_block : block_of left (slot_of placed a) ≡ block_of placed (slot_of placed a)
        old_block = (block_is less).1

        pub slot_room : length pools.actions.free + length pools.actions.left < ACTION_SLOTS
        slot_room = not_full ACTION_SLOTS _ _ pools.actions (slot_of placed a) d.pools_are.actions (slot_small a at) (slot_apart a at (block_is less).0)

        pub block_room : length pools.blocks.free + length pools.blocks.left < POOL_BLOCKS
        block_room = not_full POOL_BLOCKS _ _ pools.blocks (block_of placed (slot_of placed a)) d.pools_are.blocks (block_small a at) (block_apart a at (block_is less).0)

        pub empty_slot : IsLeftAt h ACTION_ROOTS 1 (slot_of placed a)
        empty_slot j small x s = let same : ACTION_ROOTS + 1 * slot_of placed a + j ≡ action_root (slot_of placed a) = omega (arith, small) in
            let here = subst (λ (r : ℕ). Stands hook_meaning hook_codec h r x) same s in
            let it : Stands hook_meaning hook_codec h (action_root (slot_of placed a)) (ActionRole a) = subst (Stands hook_meaning hook_codec h (action_root (slot_of placed a))) (sym (stands_alone a at x here)) here in dead it.3

        pub apart_slot : IsInPool (slot_of placed a) pools.actions → ⊥
        apart_slot = slot_apart a at (block_is less).0

        pub apart_block : IsInPool (block_of placed (slot_of placed a)) pools.blocks → ⊥
        apart_block = block_apart a at (block_is less).0

        pub left_block : (more : Pools) → IsIn (slot_of placed a) more.actions.left → IsLeft (gone_roots more) h (block_of placed (slot_of placed a))
        left_block more in_ r has = subst (λ (n : ℕ). IsIn n (gone_roots more)) (d.pools_are.one_root (action_root (slot_of placed a)) r (block_of placed (slot_of placed a)) (has_block a at) has) in_gone
          where
            in_gone : IsIn (action_root (slot_of placed a)) (gone_roots more)
            in_gone = let same : ACTION_ROOTS + 1 * slot_of placed a + 0 ≡ action_root (slot_of placed a) = omega arith in
                in_left (roots_of MASK_ROOTS 1 more.masks.left ++ roots_of ACTION_ROOTS 1 more.actions.left) (roots_of BUCKET_ROOTS ROW_BUCKETS more.rows.left) (action_root (slot_of placed a))
                (in_right (roots_of MASK_ROOTS 1 more.masks.left) (roots_of ACTION_ROOTS 1 more.actions.left) (action_root (slot_of placed a))
                (subst (λ (n : ℕ). IsIn n (roots_of ACTION_ROOTS 1 more.actions.left)) same (roots_have ACTION_ROOTS 1 more.actions.left (slot_of placed a) 0 in_ (omega arith))))

        module _ (more : Pools) (moved : Placed) (p : ArePools more h b) (slots : more.actions.left ≡ pools.actions.left ++ slot_of placed a ∷ []) (blocks : more.blocks.left ≡ pools.blocks.left ++ block_of placed (slot_of placed a) ∷ [])
            (free_slots : more.actions.free ≡ pools.actions.free) (free_blocks : more.blocks.free ≡ pools.blocks.free) (rest : more ≡ record pools { blocks = more.blocks; actions = more.actions })
            (cleared : moved ≡ record left { blocks = slice_set left.blocks (slot_of placed a) POOL_BLOCKS }) (there : slice_get serials upto ≡ Some a) where
          away : IsIn a d.gone → ⊥
          away = (block_is less).0

          moved_own : block_of moved (slot_of placed a) ≡ POOL_BLOCKS
          moved_own = ap (λ (q : Placed). block_of q (slot_of placed a)) cleared ∙ get_or-set_same left.blocks (slot_of placed a) POOL_BLOCKS 0 (let small = slot_small a at in let wide = d.wide in omega (arith, small, wide))

          moved_other : (s : ℕ) → s ≢ slot_of placed a → block_of moved s ≡ block_of left s
          moved_other s other = ap (λ (q : Placed). block_of q s) cleared ∙ get_or-set_other left.blocks (slot_of placed a) s POOL_BLOCKS 0 other

          pub dropped_one : DroppedUpTo more moved (upto + 1)
          dropped_one = record {
            pools_are = p;
            same = ap (λ (q : Placed). q.slots) cleared ∙ d.same;
            wide = ap (λ (q : Placed). length q.blocks) cleared ∙ (length-set left.blocks (slot_of placed a) POOL_BLOCKS ∙ d.wide);
            gone = d.gone ++ a ∷ [];
            once = distinct_more d.gone a d.once away;
            dead = λ c in_. dead_each c (in_more d.gone a c in_);
            all = λ place c e low_. all_each place c e (eqb place upto) refl low_;
            own = λ c in_. own_each c in_ (eqb c a) refl;
            living = λ c live. moved_other (slot_of placed c) (live_slot a c at dead live) ∙ d.living c live;
            slots = slots ∙ (ap (λ (l : List ℕ). l ++ slot_of placed a ∷ []) d.slots ∙ (append_assoc old.actions.left (map (slot_of placed) d.gone) (slot_of placed a ∷ [])
                ∙ ap (λ (l : List ℕ). old.actions.left ++ l) (sym (map-append (slot_of placed) d.gone (a ∷ [])))));
            blocks = blocks ∙ (ap (λ (l : List ℕ). l ++ block_of placed (slot_of placed a) ∷ []) d.blocks ∙ (append_assoc old.blocks.left (map (λ c. block_of placed (slot_of placed c)) d.gone) (block_of placed (slot_of placed a) ∷ [])
                ∙ ap (λ (l : List ℕ). old.blocks.left ++ l) (sym (map-append (λ c. block_of placed (slot_of placed c)) d.gone (a ∷ [])))));
            free_slots = free_slots ∙ d.free_slots;
            free_blocks = free_blocks ∙ d.free_blocks;
            rest = rest ∙ ap (λ (q : Pools). record q { blocks = more.blocks; actions = more.actions }) d.rest;
          }
            where
              dead_each : (c : ℕ) → IsIn c d.gone ⊎ (c ≡ a) → IsIn c serials × (IsLive hook_meaning (now h) c → ⊥)
              dead_each c (inl before) = d.dead c before
              dead_each c (inr same) = subst (λ (n : ℕ). IsIn n serials × (IsLive hook_meaning (now h) n → ⊥)) (sym same) (at, dead)

              also : (c : ℕ) → IsLive hook_meaning (now h) c ⊎ IsIn c d.gone → IsLive hook_meaning (now h) c ⊎ IsIn c (d.gone ++ a ∷ [])
              also c (inl live) = inl live
              also c (inr before) = inr (in_left d.gone (a ∷ []) c before)

              all_each : (place c : ℕ) → slice_get serials place ≡ Some c → (t : Bool) → eqb place upto ≡ t → place < upto + 1 → IsLive hook_meaning (now h) c ⊎ IsIn c (d.gone ++ a ∷ [])
              all_each place c e true is low_ = let here = sym e ∙ (ap (slice_get serials) (eqb-true place upto is) ∙ there) in let same : c ≡ a = cc here in
                  inr (in_right d.gone (a ∷ []) c (0, ap Some (sym same)))
              all_each place c e false is low_ = let other = eqb-false place upto is in also c (d.all place c e (omega (arith, low_, other)))

              own_each : (c : ℕ) → IsIn c serials → (t : Bool) → eqb c a ≡ t → (IsIn c (d.gone ++ a ∷ []) × (block_of moved (slot_of placed c) ≡ POOL_BLOCKS))
                  ⊎ ((IsIn c (d.gone ++ a ∷ []) → ⊥) × (block_of moved (slot_of placed c) ≡ block_of placed (slot_of placed c)))
              own_each c in_ true is = let same : c ≡ a = eqb-true c a is in
                  inl (in_right d.gone (a ∷ []) c (0, ap Some (sym same)), ap (λ (n : ℕ). block_of moved (slot_of placed n)) same ∙ moved_own)
              own_each c in_ false is = let other = eqb-false c a is in let apart : slot_of placed c ≢ slot_of placed a = λ same. other (two_slots c a in_ at same) in
                  sort (moved_other (slot_of placed c) apart) (d.own c in_)
                where
                  sort : block_of moved (slot_of placed c) ≡ block_of left (slot_of placed c)
                      → (IsIn c d.gone × (block_of left (slot_of placed c) ≡ POOL_BLOCKS)) ⊎ ((IsIn c d.gone → ⊥) × (block_of left (slot_of placed c) ≡ block_of placed (slot_of placed c)))
                      → (IsIn c (d.gone ++ a ∷ []) × (block_of moved (slot_of placed c) ≡ POOL_BLOCKS)) ⊎ ((IsIn c (d.gone ++ a ∷ []) → ⊥) × (block_of moved (slot_of placed c) ≡ block_of placed (slot_of placed c)))
                  sort still (inl gone) = inl (in_left d.gone (a ∷ []) c gone.0, still ∙ gone.1)
                  sort still (inr there_) = inr (λ both. not_both (in_more d.gone a c both), still ∙ there_.1)
                    where
                      not_both : IsIn c d.gone ⊎ (c ≡ a) → ⊥
                      not_both (inl before) = there_.0 before
                      not_both (inr same) = eqb-false c a is same

      -- one that is live, or that has left already
      pub dropped_not : slice_get serials upto ≡ Some a → IsLive hook_meaning (now h) a ⊎ (block_of left (slot_of placed a) < POOL_BLOCKS → ⊥) → DroppedUpTo pools left (upto + 1)
      dropped_not there why = record {
        pools_are = d.pools_are;
        same = d.same;
        wide = d.wide;
        gone = d.gone;
        once = d.once;
        dead = d.dead;
        all = λ place c e low_. all_each place c e (eqb place upto) refl low_;
        own = d.own;
        living = d.living;
        slots = d.slots;
        blocks = d.blocks;
        free_slots = d.free_slots;
        free_blocks = d.free_blocks;
        rest = d.rest;
      }
        where
          it : IsLive hook_meaning (now h) a ⊎ (block_of left (slot_of placed a) < POOL_BLOCKS → ⊥) → IsLive hook_meaning (now h) a ⊎ IsIn a d.gone
          it (inl live) = inl live
          it (inr full) = sort (d.own a at)
            where
              sort : (IsIn a d.gone × (block_of left (slot_of placed a) ≡ POOL_BLOCKS)) ⊎ ((IsIn a d.gone → ⊥) × (block_of left (slot_of placed a) ≡ block_of placed (slot_of placed a)))
                  → IsLive hook_meaning (now h) a ⊎ IsIn a d.gone
              sort (inl gone) = inr gone.0
              sort (inr still) = absurd (full (let is = still.1 in let small = block_small a at in omega (arith, is, small)))

          all_each : (place c : ℕ) → slice_get serials place ≡ Some c → (t : Bool) → eqb place upto ≡ t → place < upto + 1 → IsLive hook_meaning (now h) c ⊎ IsIn c d.gone
          all_each place c e true is low_ = let here = sym e ∙ (ap (slice_get serials) (eqb-true place upto is) ∙ there) in let same : c ≡ a = cc here in
              subst (λ (n : ℕ). IsLive hook_meaning (now h) n ⊎ IsIn n d.gone) (sym same) (it why)
          all_each place c e false is low_ = let other = eqb-false place upto is in d.all place c e (omega (arith, low_, other))

  -- after all of them
  pub all_dropped : (pools : Pools) (left : Placed) (upto : ℕ) → DroppedUpTo pools left upto → length serials ≤ upto → AreDropped old pools placed left h b serials
  all_dropped pools left upto d long = record {
    pools_are = d.pools_are;
    here = record {
      long = ap length d.same ∙ m.here.long;
      wide = d.wide;
      slots = λ a live. subst (IsSlotOf hook_codec h a) (sym (slot_is a)) (m.here.slots a live);
      blocks = λ a live. subst (λ (s : ℕ). IsAlone h s (block_of left s)) (sym (slot_is a)) (subst (IsAlone h (slot_of placed a)) (sym (d.living a live)) (m.here.blocks a live));
      made = m.here.made;
    };
    gone = d.gone;
    once = d.once;
    dead = d.dead;
    all = λ a at. d.all at.0 a at.1 (let within = slice_get_within serials at.0 a at.1 in omega (arith, within, long));
    slots = d.slots;
    blocks = d.blocks;
    free_slots = d.free_slots;
    free_blocks = d.free_blocks;
    rest = d.rest;
  }
    where
      slot_is : (a : ℕ) → slot_of left a ≡ slot_of placed a
      slot_is a = ap (λ (l : List ℕ). get_or l a 0) d.same

-- what stays so as one serial after the other is looked at
pub record DropLoop (lists : Kept) (old : Pools) (placed : Placed) (serials : List ℕ) (pools : Pools) (left : Placed) (upto : ℕ) : Type 0 where
  pub all : (h : List (Commit Edit)) (b after : ℕ) (m : MayGo lists old placed h b after serials) → DroppedUpTo lists old placed h b after serials m pools left upto
  pub blocks : pools.blocks.size ≡ POOL_BLOCKS
  pub actions : pools.actions.size ≡ ACTION_SLOTS
