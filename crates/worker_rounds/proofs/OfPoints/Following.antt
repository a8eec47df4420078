-- One visit more.
use Rattle.std.proofs.Common.{◌≡◌, ◌≢◌, ◌∙◌, ◌⊎◌, inl, inr, ℕ, zero, suc, ◌≤◌, ◌<◌, true, false, List, [], ◌∷◌, ◌++◌, length, take, max, slice_get, slice_index, slice_set, Option, Some, None, refl, sym, ap, subst, arith}
use mathlib.Core.Logic.{dite}
use native.Mathlib.Decide.{ℕ_discrete}
use Rattle.std.proofs.lemmas.List.{get_or-set_same, get_or-set_other}
use Rattle.std.proofs.lemmas.Option.{none-some, same_Some}
use Rattle.store_history.specs.declared.history.Commit.{Commit}
use Rattle.store_history.specs.History.{root_of}
use Rattle.store_history.proofs.Histories.{prefix_take}
use Rattle.store_history.specs.declared.places.TheConstants.{MASK_SLOTS}
use Rattle.pin_store.specs.Calls.{seen_by, floor_start}
use Rattle.filter_state.specs.declared.edit.Edit.{Edit}
use Rattle.tc_base.specs.declared.hook.Hook.{Hook}
use Rattle.walk_rules.specs.Questions.{Question, heads_of, filter_of, params_of, Answer}
use Rattle.hook_law.specs.Places.{action_root}
use Rattle.hook_store_law.specs.Told.{stands_at}
use Rattle.hook_store_law.specs.OfVisits.Known.{ActionLived}
use Rattle.hook_reader.specs.Seats.{FirstHead, HookSeat, IsHeadOf}
use Rattle.hook_reader.specs.Told.{head_point, first_of, IsMaskPoint, WalkTold}
use Rattle.walk_rules.specs.OfPoints.Points.{Visit}
use Rattle.worker_rounds.specs.OfPoints.Walked.{HaveOneHead, HasVisited}
use Rattle.worker_rounds.proofs.OfPoints.Orders.{if_some, still_lived, stamp_later}

-- ---- lists with one more
split : (visits : List Visit) (x v : Visit) (place : ℕ) → slice_get (visits ++ x ∷ []) place ≡ Some v → (slice_get visits place ≡ Some v) ⊎ (x ≡ v)
split [] x v zero at = inr (same_Some x v at)
split [] x v (suc place) at = absurd (none-some v at)
split (w ∷ ws) x v zero at = inl at
split (w ∷ ws) x v (suc place) at = split ws x v place at

front : (visits : List Visit) (x v : Visit) (place : ℕ) → slice_get visits place ≡ Some v → slice_get (visits ++ x ∷ []) place ≡ Some v
front [] x v place at = absurd (none-some v at)
front (w ∷ ws) x v zero at = at
front (w ∷ ws) x v (suc place) at = front ws x v place at

last_at : (visits : List Visit) (x : Visit) → slice_get (visits ++ x ∷ []) (length visits) ≡ Some x
last_at [] x = refl
last_at (w ∷ ws) x = last_at ws x

no_more : (visits : List Visit) (x : Visit) → visits ++ x ∷ [] ≡ [] → ⊥
no_more [] x e = absurd (cc e)
no_more (w ∷ ws) x e = absurd (cc e)

nothing_at : (visits : List Visit) (v : Visit) (place : ℕ) → visits ≡ [] → slice_get visits place ≡ Some v → ⊥
nothing_at visits v place e at = none-some v (subst (λ (vs : List Visit). slice_get vs place ≡ Some v) e at)

module _ (old new : HookSeat) (visits : List Visit) (point : ℕ) (has : HasVisited old visits) where
  -- ---- the question is no head's: the reader keeps its first head
  module _ (question : Question) (answer : Answer) (t : WalkTold old question answer point new) (no_head : (hook : Hook) → question ≢ heads_of hook) (head : new.head ≡ old.head)
      (first : FirstHead) (walked : old.head ≡ Some first) (low : head_point old.head ≤ point) where
    abbrev x : Visit
    x = record { question = question; point = point }

    still : head_point new.head ≡ head_point old.head
    still = ap head_point head

    none_new : new.head ≡ None → visits ++ x ∷ [] ≡ []
    none_new none = absurd (none-some first (sym none ∙ (head ∙ walked)))

    first_new : (v : Visit) → slice_get (visits ++ x ∷ []) 0 ≡ Some v → v.point ≡ head_point new.head
    first_new v at = pick visits refl
      where
        pick : (vs : List Visit) → visits ≡ vs → v.point ≡ head_point new.head
        pick [] e = absurd (none-some first (sym (has.some e) ∙ walked))
        pick (w ∷ ws) e = let same : slice_get visits 0 ≡ Some w = ap (λ (z : List Visit). slice_get z 0) e in
            let own : w ≡ v = same_Some w v (sym (front visits x w 0 same) ∙ at) in has.first v (same ∙ ap Some own) ∙ sym still

    latest_new : (place : ℕ) (v : Visit) → slice_get (visits ++ x ∷ []) place ≡ Some v → v.point ≤ new.latest
    latest_new place v at = on (split visits x v place at)
      where
        on : (slice_get visits place ≡ Some v) ⊎ (x ≡ v) → v.point ≤ new.latest
        on (inl i) = let low = has.latest place v i in let latest = t.latest in omega (arith, low, latest)
        on (inr e) = let latest = t.latest in let own = ap (λ (z : Visit). z.point) e in omega (arith, latest, own)

    one_before : HaveOneHead (visits ++ x ∷ []) → HaveOneHead visits
    one_before one place v hook at = one place v hook (front visits x v (suc place) at)

    one_new : HaveOneHead (visits ++ x ∷ []) → (f : FirstHead) → new.head ≡ Some f → f.alone ≡ true
    one_new one f is = has.one (one_before one) f (sym head ∙ is)

  -- ---- a mask
  module _ (table mask : ℕ) (values : List ℕ) (answer : Answer) (t : WalkTold old (filter_of table mask values) answer point new) where
    abbrev y : Visit
    y = record { question = filter_of table mask values; point = point }

    no_head : (hook : Hook) → filter_of table mask values ≢ heads_of hook
    no_head hook e = absurd (cc e)

    kept_slot : (slot n : ℕ) → slot < MASK_SLOTS → n ≤ slice_index old.points slot → n ≤ slice_index new.points slot
    kept_slot slot n small low = let p = t.pointed in let wide = t.before.wide in let is = p.is in
        subst (λ (ps : List ℕ). n ≤ slice_index ps slot) (sym p.points) (dite (ℕ_discrete slot p.slot)
        (λ (here : slot ≡ p.slot). let now : slice_index (slice_set old.points p.slot point) slot ≡ point =
        ap (slice_index (slice_set old.points p.slot point)) here ∙ get_or-set_same old.points p.slot point 0 (omega (arith, wide, small, here)) in
        let was = ap (slice_index old.points) here in omega (arith, now, low, was, is))
        (λ (apart : slot ≢ p.slot). let now = get_or-set_other old.points p.slot slot point 0 apart in omega (arith, now, low)))

    pub mask_follows : HasVisited new (visits ++ y ∷ [])
    mask_follows = let p = t.pointed in let known = p.known in let is = p.is in let low : head_point old.head ≤ point = omega (arith, is) in record {
      none = none_new (filter_of table mask values) answer t no_head p.head known.first known.walked low;
      some = λ e. absurd (no_more visits y e);
      first = first_new (filter_of table mask values) answer t no_head p.head known.first known.walked low;
      latest = latest_new (filter_of table mask values) answer t no_head p.head known.first known.walked low;
      one = one_new (filter_of table mask values) answer t no_head p.head known.first known.walked low;
      masks = masks_new;
      actions = actions_new;
    }
      where
        cut : (first : FirstHead) → old.head ≡ Some first → take first.made (seen_by new.place) ≡ take first.made (seen_by old.place)
        cut first e = prefix_take (seen_by old.place) (seen_by new.place) first.made t.longer (if_some (IsHeadOf old) old.head first e t.before.head).made

        masks_new : (place : ℕ) (v : Visit) (first : FirstHead) (table' mask' : ℕ) (values' : List ℕ) → slice_get (visits ++ y ∷ []) place ≡ Some v → v.question ≡ filter_of table' mask' values' → new.head ≡ Some first → first.alone ≡ true
            → (slot : ℕ) × stands_at (take first.made (seen_by new.place)) slot mask' × (v.point ≤ slice_index new.points slot)
        masks_new place v first table' mask' values' at asks head alone = on (split visits y v place at)
          where
            p : IsMaskPoint old mask values point new
            p = t.pointed

            old_head : old.head ≡ Some first
            old_head = sym p.head ∙ head

            on : (slice_get visits place ≡ Some v) ⊎ (y ≡ v) → (slot : ℕ) × stands_at (take first.made (seen_by new.place)) slot mask' × (v.point ≤ slice_index new.points slot)
            on (inl i) = let was = has.masks place v first table' mask' values' i asks old_head alone in
                (was.0, subst (λ (g : List (Commit Edit)). stands_at g was.0 mask') (sym (cut first old_head)) was.1, kept_slot was.0 v.point was.1.small was.2)
            on (inr e) = let known = p.known in let same : known.first ≡ first = same_Some known.first first (sym known.walked ∙ old_head) in
                let named = subst (λ (f : FirstHead). f.alone ≡ true → stands_at (take f.made (seen_by old.place)) p.slot mask) same known.named alone in
                let asked : filter_of table mask values ≡ filter_of table' mask' values' = ap (λ (z : Visit). z.question) e ∙ asks in
                let own : mask ≡ mask' = cc asked in let is = p.is in let pointed = ap (λ (z : Visit). z.point) e in let wide = t.before.wide in let small = named.small in
                let now : slice_index new.points p.slot ≡ point = ap (λ (ps : List ℕ). slice_index ps p.slot) p.points ∙ get_or-set_same old.points p.slot point 0 (omega (arith, wide, small)) in
                (p.slot, subst (λ (m : ℕ). stands_at (take first.made (seen_by new.place)) p.slot m) own (subst (λ (g : List (Commit Edit)). stands_at g p.slot mask) (sym (cut first old_head)) named), omega (arith, now, pointed))

        actions_new : (place : ℕ) (v : Visit) (serial : ℕ) → slice_get (visits ++ y ∷ []) place ≡ Some v → v.question ≡ params_of serial
            → (slot : ℕ) × ActionLived (seen_by new.place) (floor_start new.place) 0 slot serial × (v.point ≤ max (root_of (seen_by new.place) (action_root slot)).stamp (head_point new.head))
        actions_new place v serial at asks = on (split visits y v place at)
          where
            on : (slice_get visits place ≡ Some v) ⊎ (y ≡ v) → (slot : ℕ) × ActionLived (seen_by new.place) (floor_start new.place) 0 slot serial × (v.point ≤ max (root_of (seen_by new.place) (action_root slot)).stamp (head_point new.head))
            on (inl i) = let was = has.actions place v serial i asks in let p = t.pointed in let same = ap head_point p.head in let low = was.2 in
                let rise = stamp_later old new t.longer t.same t.lawful 0 was.0 serial was.1 in
                (was.0, still_lived old new t.longer t.same t.lawful 0 was.0 serial was.1, omega (arith, low, rise, same))
            on (inr e) = let asked : filter_of table mask values ≡ params_of serial = ap (λ (z : Visit). z.question) e ∙ asks in absurd (cc asked)

  -- ---- an action
  module _ (serial : ℕ) (answer : Answer) (t : WalkTold old (params_of serial) answer point new) where
    abbrev z : Visit
    z = record { question = params_of serial; point = point }

    act_no_head : (hook : Hook) → params_of serial ≢ heads_of hook
    act_no_head hook e = absurd (cc e)

    pub action_follows : HasVisited new (visits ++ z ∷ [])
    action_follows = let p = t.pointed in let known = p.known in let is = p.is in let low : head_point old.head ≤ point = omega (arith, is) in record {
      none = none_new (params_of serial) answer t act_no_head p.head known.first known.walked low;
      some = λ e. absurd (no_more visits z e);
      first = first_new (params_of serial) answer t act_no_head p.head known.first known.walked low;
      latest = latest_new (params_of serial) answer t act_no_head p.head known.first known.walked low;
      one = one_new (params_of serial) answer t act_no_head p.head known.first known.walked low;
      masks = masks_new;
      actions = actions_new;
    }
      where
        masks_new : (place : ℕ) (v : Visit) (first : FirstHead) (table' mask' : ℕ) (values' : List ℕ) → slice_get (visits ++ z ∷ []) place ≡ Some v → v.question ≡ filter_of table' mask' values' → new.head ≡ Some first → first.alone ≡ true
            → (slot : ℕ) × stands_at (take first.made (seen_by new.place)) slot mask' × (v.point ≤ slice_index new.points slot)
        masks_new place v first table' mask' values' at asks head alone = on (split visits z v place at)
          where
            on : (slice_get visits place ≡ Some v) ⊎ (z ≡ v) → (slot : ℕ) × stands_at (take first.made (seen_by new.place)) slot mask' × (v.point ≤ slice_index new.points slot)
            on (inl i) = let p = t.pointed in let old_head : old.head ≡ Some first = sym p.head ∙ head in let was = has.masks place v first table' mask' values' i asks old_head alone in
                let cut = prefix_take (seen_by old.place) (seen_by new.place) first.made t.longer (if_some (IsHeadOf old) old.head first old_head t.before.head).made in
                (was.0, subst (λ (g : List (Commit Edit)). stands_at g was.0 mask') (sym cut) was.1, subst (λ (ps : List ℕ). v.point ≤ slice_index ps was.0) (sym p.points) was.2)
            on (inr e) = let asked : params_of serial ≡ filter_of table' mask' values' = ap (λ (w : Visit). w.question) e ∙ asks in absurd (cc asked)

        actions_new : (place : ℕ) (v : Visit) (serial' : ℕ) → slice_get (visits ++ z ∷ []) place ≡ Some v → v.question ≡ params_of serial'
            → (slot : ℕ) × ActionLived (seen_by new.place) (floor_start new.place) 0 slot serial' × (v.point ≤ max (root_of (seen_by new.place) (action_root slot)).stamp (head_point new.head))
        actions_new place v serial' at asks = on (split visits z v place at)
          where
            on : (slice_get visits place ≡ Some v) ⊎ (z ≡ v) → (slot : ℕ) × ActionLived (seen_by new.place) (floor_start new.place) 0 slot serial' × (v.point ≤ max (root_of (seen_by new.place) (action_root slot)).stamp (head_point new.head))
            on (inl i) = let was = has.actions place v serial' i asks in let p = t.pointed in let same = ap head_point p.head in let low = was.2 in
                let rise = stamp_later old new t.longer t.same t.lawful 0 was.0 serial' was.1 in
                (was.0, still_lived old new t.longer t.same t.lawful 0 was.0 serial' was.1, omega (arith, low, rise, same))
            on (inr e) = let p = t.pointed in let lived = p.known.lived in let asked : params_of serial ≡ params_of serial' = ap (λ (w : Visit). w.question) e ∙ asks in
                let own : serial ≡ serial' = cc asked in let same = ap head_point p.head in let is = p.is in let pointed = ap (λ (w : Visit). w.point) e in (
                  p.slot,
                  subst (λ (n : ℕ). ActionLived (seen_by new.place) (floor_start new.place) 0 p.slot n) own (still_lived old new t.longer t.same t.lawful 0 p.slot serial
                      (record { at = lived.at; late = lived.late; made = lived.made; there = lived.there; live = lived.live; reached = omega arith })),
                  omega (arith, is, same, pointed),
                )

  -- ---- a head
  module _ (hook : Hook) (answer : Answer) (t : WalkTold old (heads_of hook) answer point new) where
    abbrev u : Visit
    u = record { question = heads_of hook; point = point }

    abbrev seen_head : FirstHead
    seen_head = record { point = point; made = length (seen_by new.place); alone = true }

    -- the first one
    now_first : old.head ≡ None → new.head ≡ Some seen_head
    now_first e = let p = t.pointed in p.head ∙ ap (λ (o : Option FirstHead). first_of o seen_head) e

    -- or a later one
    now_later : (f : FirstHead) → old.head ≡ Some f → new.head ≡ Some (record f { alone = false })
    now_later f e = let p = t.pointed in p.head ∙ ap (λ (o : Option FirstHead). first_of o seen_head) e

    none_after : new.head ≡ None → ⊥
    none_after none = pick old.head refl
      where
        pick : (o : Option FirstHead) → old.head ≡ o → ⊥
        pick None e = none-some seen_head (sym none ∙ now_first e)
        pick (Some f) e = none-some (record f { alone = false }) (sym none ∙ now_later f e)

    not_alone : (place : ℕ) (v : Visit) (first : FirstHead) → slice_get visits place ≡ Some v → new.head ≡ Some first → first.alone ≡ true → ⊥
    not_alone place v first at head alone = pick old.head refl
      where
        pick : (o : Option FirstHead) → old.head ≡ o → ⊥
        pick None e = nothing_at visits v place (has.none e) at
        pick (Some f) e = let same : record f { alone = false } ≡ first = same_Some (record f { alone = false }) first (sym (now_later f e) ∙ head) in
            let both : false ≡ true = ap (λ (g : FirstHead). g.alone) same ∙ alone in absurd (cc both)

    point_still : (place : ℕ) (v : Visit) → slice_get visits place ≡ Some v → head_point new.head ≡ head_point old.head
    point_still place v at = pick old.head refl
      where
        pick : (o : Option FirstHead) → old.head ≡ o → head_point new.head ≡ head_point old.head
        pick None e = absurd (nothing_at visits v place (has.none e) at)
        pick (Some f) e = ap head_point (now_later f e) ∙ sym (ap head_point e)

    pub head_follows : HasVisited new (visits ++ u ∷ [])
    head_follows = record {
      none = λ none. absurd (none_after none);
      some = λ e. absurd (no_more visits u e);
      first = first_after;
      latest = λ place v at. latest_after place v (split visits u v place at);
      one = one_after;
      masks = λ place v first table mask values at asks head alone. masks_after place v first table mask values asks head alone (split visits u v place at);
      actions = λ place v serial at asks. actions_after place v serial asks (split visits u v place at);
    }
      where
        first_after : (v : Visit) → slice_get (visits ++ u ∷ []) 0 ≡ Some v → v.point ≡ head_point new.head
        first_after v at = pick visits refl
          where
            pick : (vs : List Visit) → visits ≡ vs → v.point ≡ head_point new.head
            pick [] e = let own : u ≡ v = same_Some u v (sym (ap (λ (l : List Visit). slice_get (l ++ u ∷ []) 0) e) ∙ at) in sym (ap (λ (w : Visit). w.point) own) ∙ sym (ap head_point (now_first (has.some e)))
            pick (w ∷ ws) e = let same : slice_get visits 0 ≡ Some w = ap (λ (l : List Visit). slice_get l 0) e in
                let own : w ≡ v = same_Some w v (sym (front visits u w 0 same) ∙ at) in has.first v (same ∙ ap Some own) ∙ sym (point_still 0 w same)

        latest_after : (place : ℕ) (v : Visit) → (slice_get visits place ≡ Some v) ⊎ (u ≡ v) → v.point ≤ new.latest
        latest_after place v (inl i) = let low = has.latest place v i in let latest = t.latest in omega (arith, low, latest)
        latest_after place v (inr e) = let latest = t.latest in let own = ap (λ (w : Visit). w.point) e in omega (arith, latest, own)

        one_after : HaveOneHead (visits ++ u ∷ []) → (first : FirstHead) → new.head ≡ Some first → first.alone ≡ true
        one_after one first head = pick visits refl
          where
            pick : (vs : List Visit) → visits ≡ vs → first.alone ≡ true
            pick [] e = let same : seen_head ≡ first = same_Some seen_head first (sym (now_first (has.some e)) ∙ head) in sym (ap (λ (f : FirstHead). f.alone) same)
            pick (w ∷ ws) e = absurd (one (length ws) u hook (subst (λ (l : List Visit). slice_get (l ++ u ∷ []) (suc (length ws)) ≡ Some u) (sym e) (last_at ws u)) refl)

        masks_after : (place : ℕ) (v : Visit) (first : FirstHead) (table mask : ℕ) (values : List ℕ) → v.question ≡ filter_of table mask values → new.head ≡ Some first → first.alone ≡ true → (slice_get visits place ≡ Some v) ⊎ (u ≡ v)
            → (slot : ℕ) × stands_at (take first.made (seen_by new.place)) slot mask × (v.point ≤ slice_index new.points slot)
        masks_after place v first table mask values asks head alone (inl i) = absurd (not_alone place v first i head alone)
        masks_after place v first table mask values asks head alone (inr e) = let asked : heads_of hook ≡ filter_of table mask values = ap (λ (w : Visit). w.question) e ∙ asks in absurd (cc asked)

        actions_after : (place : ℕ) (v : Visit) (serial : ℕ) → v.question ≡ params_of serial → (slice_get visits place ≡ Some v) ⊎ (u ≡ v)
            → (slot : ℕ) × ActionLived (seen_by new.place) (floor_start new.place) 0 slot serial × (v.point ≤ max (root_of (seen_by new.place) (action_root slot)).stamp (head_point new.head))
        actions_after place v serial asks (inl i) = let was = has.actions place v serial i asks in let same = point_still place v i in let low = was.2 in
            let rise = stamp_later old new t.longer t.same t.lawful 0 was.0 serial was.1 in
            (was.0, still_lived old new t.longer t.same t.lawful 0 was.0 serial was.1, omega (arith, low, rise, same))
        actions_after place v serial asks (inr e) = let asked : heads_of hook ≡ params_of serial = ap (λ (w : Visit). w.question) e ∙ asks in absurd (cc asked)
