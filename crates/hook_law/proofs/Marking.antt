-- The law of a commit to the marker root.
use Rattle.std.proofs.Common.{◌≢◌, ℕ, ◌+◌, ◌≤◌, ◌⊎◌, inl, inr, List, [], ◌∷◌, ◌++◌, length, take, ap, sym, subst, arith}
use Rattle.store_history.specs.declared.history.Commit.{Commit}
use Rattle.store_history.specs.History.{root_of}
use Rattle.hook_law.specs.Records.{Codec}
use Rattle.hook_law.specs.Chains.{bucket_of}
use Rattle.hook_law.specs.Meaning.{Meaning, point_of, now_of, before_of, next_of, IsLive}
use Rattle.hook_law.specs.Standing.{Role, Head, Mask, Bucket, Action, Stands}
use Rattle.hook_law.specs.Telling.{Reads}
use Rattle.hook_law.specs.Keeping.{Keeps}
use Rattle.hook_law.specs.Numbered.{Marks}
use Rattle.hook_law.specs.Coming.{IsMade}
use Rattle.hook_law.proofs.Growing.{now_next}
use Rattle.hook_law.proofs.Standing.{slot_longer, present_end, marker_free}
use Rattle.hook_law.proofs.Writing.{put_live, Writes, write_keeps, write_other}
use Rattle.hook_law.proofs.Staying.{head_stays, mask_stays, bucket_stays, action_stays}

module _ {E S N P : Type 0} (K : Meaning E S N P) (R : Codec N P) where
  marks_leave : (h : List (Commit E)) (c : Commit E) (y : E) (r : ℕ) (x : Role) → Marks K R h c y → Stands K R h r x → Stands K R (h ++ c ∷ []) r x
      → Reads K R x (root_of h r).chain (before_of K h) (now_of K h) → Reads K R x (root_of h r).chain (now_of K h) (next_of K h y)
  marks_leave h c y r (Head i) w s s' t = head_stays K R i (root_of h r).chain (now_of K h) (next_of K h y) (w.leaves.heads i) t
  marks_leave h c y r (Mask m) w s s' t = mask_stays K R h m s.0 r (before_of K h) (next_of K h y) w.rest s.1 s.2 (w.leaves.words m) t
  marks_leave h c y r (Bucket q k) w s s' t = bucket_stays K R q.mask q.size k (root_of h r).chain (now_of K h) (next_of K h y) (ap (bucket_of K.hash q.size k) (w.leaves.filters q.mask)) t
  marks_leave h c y r (Action a) w s s' t = action_stays K R a (root_of h r).chain (now_of K h) (next_of K h y) w.leaves.params
      (subst (λ (z : S). IsLive K z a) (now_next K h c (point_of h + 1) y w.carries.number) s'.3) t

  none_there : (h g : List (Commit E)) (c : Commit E) (y : E) (x : Role) → Marks K R h c y → Stands K R g c.root x → ⊥
  none_there h g c y x w s = marker_free K R g x (subst (λ (z : ℕ). Stands K R g z x) w.root s)

  mark_writes : (h : List (Commit E)) (b : ℕ) (c : Commit E) (y : E) → b ≤ length h → Keeps K R h b → Marks K R h c y → Writes K R b h c y
  mark_writes h b c y low k w = record {
    carries = w.carries;
    high = λ r lo hi is. let ro = w.root in omega arith;
    here = inr record {
      unused = λ n x lown le s. none_there h (take n h) c y x w s;
      one = λ x z s t. absurd (none_there h (h ++ c ∷ []) c y x w s);
      slot = λ a s t puts x. let ro = w.root in let is = puts.root in omega arith;
    };
    own_reads = λ x s. absurd (none_there h (h ++ c ∷ []) c y x w s);
    others = λ r x ne s s' t. marks_leave h c y r x w s s' t;
    made = λ a s live x. inl (w.none_made a live);
    placed = λ a live. let o = (present_end K R h b low k).placed a (w.none_made a live) in (o.0, slot_longer R h (c ∷ []) a o.0 o.1);
    names = λ q i fs f x s read inf inx. absurd (none_there h (h ++ c ∷ []) c y (Bucket q i) w s);
  }

  pub mark_keeps : (h : List (Commit E)) (b : ℕ) (c : Commit E) (y : E) → b ≤ length h → Keeps K R h b → Marks K R h c y → Keeps K R (h ++ c ∷ []) b
  mark_keeps h b c y low k w = write_keeps K R h b c y low k (mark_writes h b c y low k w)

  -- nothing comes to stand
  pub mark_back : (h : List (Commit E)) (b : ℕ) (c : Commit E) (y : E) → b ≤ length h → Keeps K R h b → Marks K R h c y → (r : ℕ) (x : Role)
      → Stands K R (h ++ c ∷ []) r x → Stands K R h r x
  mark_back h b c y low k w r x s = pick (write_other K R h b c y r x (present_end K R h b low k) writes other s)
    where
      writes : Writes K R b h c y
      writes = mark_writes h b c y low k w

      other : c.root ≢ r
      other is = none_there h (h ++ c ∷ []) c y x w (subst (λ (z : ℕ). Stands K R (h ++ c ∷ []) z x) (sym is) s)

      pick : Stands K R h r x ⊎ IsMade K R b h y r x → Stands K R h r x
      pick (inl o) = o
      pick (inr m) = let live : IsLive K (next_of K h y) m.action = put_live K R h b y m.action m.put in
          subst (Stands K R h r) (sym m.is) (m.put.slot, m.put.there, m.root, w.none_made m.action live)
