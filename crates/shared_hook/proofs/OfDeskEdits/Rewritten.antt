-- A whole desk, once one commit came to the root of a bucket of a mask that stands.
use Rattle.std.proofs.Common.{◌≡◌, ◌≢◌, ◌∙◌, inl, inr, ℕ, zero, suc, ◌+◌, ◌<◌, ◌≤◌, List, [], ◌∷◌, ◌++◌, length, slice_get, Some, sym, ap, subst, arith, length-append}
use Rattle.tc_base.specs.declared.hook.Hook.{Hook}
use Rattle.tc_base.specs.declared.hook.Hook.TheVariants.{Ingress, Egress}
use Rattle.store_history.specs.declared.history.Named.{Named}
use Rattle.store_history.specs.declared.history.Commit.{Commit}
use Rattle.store_history.specs.History.{root_of, edits_of}
use Rattle.store_history.proofs.Histories.{root_other}
use Rattle.store_history.specs.declared.places.TheConstants.{ACTION_SLOTS, BUCKET_ROOTS}
use Rattle.filter_state.specs.declared.edit.Edit.{Edit}
use Rattle.filter_state.specs.declared.refusal.Done.{Done}
use Rattle.filter_state.specs.States.{State}
use Rattle.filter_lists.specs.Spells.{Spells}
use Rattle.block_codec.specs.declared.mask.StoredMask.{StoredMask}
use Rattle.mask_table.specs.Buckets.{bucket_root}
use Rattle.mask_table.specs.declared.mirrors.mirror.KeptMask.{KeptMask}
use Rattle.mask_writer.specs.Masks.{Masks}
use Rattle.mask_writer.specs.Standing.{StandsAt, BucketOf}
use Rattle.hook_law.specs.Places as places
use Rattle.hook_law.specs.Meaning.{point_of}
use Rattle.hook_law.specs.Standing.{Role, Bucket, IsMaskAt, Stands, region_of}
use Rattle.hook_law.specs.Keeping.{IsAtRestBut}
use Rattle.hook_law.proofs.Growing.{edits_more, now_next}
use Rattle.hook_law.proofs.Standing.{mask_back, unused_end}
use Rattle.hook_store_law.specs.Stated.{hook_meaning}
use Rattle.hook_store_law.specs.Blocks.{mask_record, hook_codec}
use Rattle.hook_store_law.specs.Kept.{KeepsHook}
use Rattle.hook_store_law.specs.OfEdits.Premises.{now, next}
use Rattle.desk_pools.specs.declared.pools.Pools.{Pools}
use Rattle.desk_pools.specs.Pools.{ArePools}
use Rattle.desk_pools.specs.Steps.{IsInPool}
use Rattle.desk_actions.specs.declared.ledgers.ledger.Ledger.{Ledger}
use Rattle.desk_actions.specs.OfLedgers.Kept.{commits, base}
use Rattle.desk_actions.specs.Places.{AreHere, AreHereFor}
use Rattle.desk_parts.specs.OfLineActions.Put.{HaveNoSlots}
use Rattle.desk_parts.proofs.OfLineActions.Lasting.{here_goes}
use Rattle.desk_masks.specs.declared.hook_tables.HookTables.{HookTables}
use Rattle.desk_masks.specs.Masks.{HasMasks}
use Rattle.desk_masks.specs.Tables.{HasTables}
use Rattle.desk_masks.proofs.Going.{tables_go, bucket_stands}
use Rattle.desk_parts.specs.declared.parts.Parts.{Parts}
use Rattle.desk_parts.specs.Desk.{shape_of, hook_shape, cells, AreSized}
use Rattle.desk_masks.proofs.OfResizes.Lists.{list_early}
use Rattle.shared_hook.specs.OfDeskEdits.Ahead.{HasParts, IsAhead, IsUnsettled, GoesOnAside}

-- what an edit makes of the parts of a desk that it changes: one commit came, with the edit, to the root of a
-- bucket of the mask that stands at the slot
pub record IsRewritten (old : Parts) (ledger : Ledger) (pools : Pools) (masks : Masks) (slot : ℕ) (y : Edit) : Type 0 where
  pub kept : KeptMask
  pub stands : StandsAt old.masks slot kept
  pub bucket : ℕ
  pub within : bucket < kept.mask.size
  pub commit : Commit Edit
  pub root : commit.root ≡ bucket_root kept.mask bucket
  pub stamp : commit.named.stamp ≡ old.ledger.point + 1
  pub carries : commit.edit ≡ Some (old.ledger.point + 1, y)
  pub seen : commits ledger ≡ commits old.ledger ++ commit ∷ []
  pub shaped : shape_of ledger.writer.place ≡ hook_shape
  pub same_base : base ledger ≡ base old.ledger
  pub lists : ledger.lists ≡ old.ledger.lists
  pub point : ledger.point ≡ old.ledger.point + 1
  pub lawful : KeepsHook (commits ledger) (base ledger)
  pub pools_are : ArePools pools (commits ledger) (base ledger)
  pub sized : AreSized pools
  pub others : pools ≡ record old.pools { blocks = pools.blocks }
  pub masks_are : HasMasks masks hook_shape (cells ledger) (commits ledger)
  pub rests_but : IsAtRestBut hook_meaning hook_codec (commits ledger) kept.mask.serial

one_commit : (c d : Commit Edit) (place : ℕ) → slice_get {X = Commit Edit} (c ∷ []) place ≡ Some d → c ≡ d
one_commit c d zero e = cc e
one_commit c d (suc place) e = absurd (cc e)

-- a commit to the root of a bucket is to no slot of actions
no_slots : (c : Commit Edit) → BUCKET_ROOTS ≤ c.root → HaveNoSlots (c ∷ [])
no_slots c high place d e s small same = let is : c.root ≡ d.root = ap (λ (x : Commit Edit). x.root) (one_commit c d place e) in absurd (omega (arith, high, is, same, small))

pub goes_on_aside : (h k : List (Commit Edit)) (c : Commit Edit) (mask : StoredMask) (bucket : ℕ) → c.root ≡ bucket_root mask bucket → k ≡ h ++ c ∷ [] → GoesOnAside h k
goes_on_aside h k c mask bucket is seen = record { more = c ∷ []; seen = seen; aside = no_slots c (omega (arith, is)) }

-- the state that such a commit leads to
pub now_after : (h k : List (Commit Edit)) (c : Commit Edit) (number : ℕ) (y : Edit) → k ≡ h ++ c ∷ [] → c.edit ≡ Some (number, y) → now k ≡ next h y
now_after h k c number y seen carries = ap now seen ∙ now_next hook_meaning h c number y carries

module _ (old : Parts) (ledger : Ledger) (pools : Pools) (masks : Masks) (slot : ℕ) (y : Edit) (done : Done) (a : IsAhead old y done) (w : IsRewritten old ledger pools masks slot y) where
  abbrev h : List (Commit Edit)
  h = commits old.ledger

  abbrev c : Commit Edit
  c = w.commit

  abbrev mask : ℕ
  mask = w.kept.mask.serial

  abbrev parts : Parts
  parts = record old { ledger = ledger; pools = pools; masks = masks }

  at_slot : IsMaskAt hook_codec h mask slot
  at_slot = a.has.masks.only slot w.kept w.stands

  abbrev its_bucket : BucketOf old.masks c.root
  its_bucket = record { slot = slot; bucket = w.bucket; kept = w.kept; stands = w.stands; within = w.within; same = w.root }

  -- ---- the root is that of a bucket that stands
  high : BUCKET_ROOTS ≤ c.root
  high = let is = w.root in omega (arith, is)

  heads : (hook : ℕ) → hook < 2 → root_of (h ++ c ∷ []) (places.head_root hook) ≡ root_of h (places.head_root hook)
  heads hook less = root_other h c (places.head_root hook) (λ same. absurd (omega (arith, high, same, less)))

  -- nothing of a row of the pool stands
  none_stands : (row place : ℕ) → IsInPool row old.pools.rows → place < 16 → (role : Role) → Stands hook_meaning hook_codec h (places.bucket_root row place) role → ⊥
  none_stands row place (inl at) less role stands =
      unused_end hook_meaning hook_codec h (base old.ledger) (places.bucket_root row place) role a.has.kept.low (a.has.pools.rows.may_be_given at.0 row at.1 place less) stands
  none_stands row place (inr at) less role stands = a.has.pools.rows.have_left at.0 row at.1 place less role stands

  abbrev its_role : Role
  its_role = Bucket (region_of slot mask (root_of h (places.mask_root slot)).stamp (mask_record w.kept.mask)) w.bucket

  not_in_pool : (row place : ℕ) → IsInPool row old.pools.rows → place < 16 → c.root ≢ places.bucket_root row place
  not_in_pool row place in_ less same = none_stands row place in_ less its_role
      (subst (λ (r : ℕ). Stands hook_meaning hook_codec h r its_role) same (bucket_stands old.masks hook_shape (cells old.ledger) h a.has.masks c.root its_bucket))

  -- ---- one edit more
  pub now_here : now (commits ledger) ≡ next h y
  now_here = now_after h (commits ledger) c (old.ledger.point + 1) y w.seen w.carries

  point_more : point_of (h ++ c ∷ []) ≡ point_of h + 1
  point_more = ap length (edits_more h c (old.ledger.point + 1) y w.carries) ∙ length-append (edits_of h) (y ∷ [])

  point_is : ledger.point ≡ point_of (commits ledger)
  point_is = let before = a.has.kept.point_is in w.point ∙ (ap (λ (n : ℕ). n + 1) before ∙ (sym point_more ∙ ap point_of (sym w.seen)))

  low : base ledger ≤ length (commits ledger)
  low = subst (λ (l : List (Commit Edit)). base ledger ≤ length l) (sym w.seen) (subst (λ (b : ℕ). b ≤ length (h ++ c ∷ [])) (sym w.same_base)
      (let more = length-append h (c ∷ []) in let first = a.has.kept.low in omega (arith, more, first)))

  tables : (hook : Hook) (kept : HookTables) → HasTables hook kept h → HasTables hook kept (commits ledger)
  tables hook kept has = subst (HasTables hook kept) (sym w.seen) (tables_go h (h ++ c ∷ []) heads hook kept has)

  has_parts : HasParts parts
  has_parts = record {
    shaped = w.shaped;
    kept = record { low = low; keeps = w.lawful; point_is = point_is };
    pools = w.pools_are;
    sized = w.sized;
    masks = w.masks_are;
    ingress = tables Ingress old.ingress a.has.ingress;
    egress = tables Egress old.egress a.has.egress;
    idle_ingress = ap (λ (p : Pools). p.ingress.place) w.others ∙ a.has.idle_ingress;
    idle_egress = ap (λ (p : Pools). p.egress.place) w.others ∙ a.has.idle_egress;
  }

  stamp_at : (root : ℕ) → (root_of (commits ledger) root).stamp ≤ ledger.point
  stamp_at root = subst (λ (l : List (Commit Edit)). (root_of l root).stamp ≤ ledger.point) (sym w.seen)
      (subst (λ (n : ℕ). (root_of (h ++ c ∷ []) root).stamp ≤ n) (sym w.point)
      (list_early h (c ∷ []) root (old.ledger.point + 1) (a.recent root) (λ j d e. let same = ap (λ (x : Commit Edit). x.named.stamp) (one_commit c d j e) in let stamp = w.stamp in omega (arith, same, stamp))))

  -- another root that is of no slot of actions has an older stamp
  older_at : (root : ℕ) → c.root ≢ root → ((s : ℕ) → s < ACTION_SLOTS → root ≢ places.action_root s) → (root_of (commits ledger) root).stamp < ledger.point
  older_at root other no_slot = subst (λ (l : List (Commit Edit)). (root_of l root).stamp < ledger.point) (sym w.seen)
      (subst (λ (n : Named). n.stamp < ledger.point) (sym (root_other h c root other)) (let early = a.early root no_slot in let point = w.point in omega (arith, early, point)))

  here : AreHere old.actions (commits ledger)
  here = subst (λ (s : State). AreHereFor old.actions (commits ledger) s) (sym now_here)
      (subst (λ (l : List (Commit Edit)). AreHereFor old.actions l (next h y)) (sym w.seen) (here_goes old.actions h (c ∷ []) (no_slots c high) (next h y) a.actions))

  pub unsettled : IsUnsettled parts mask slot
  unsettled = record {
    has = has_parts;
    rest = w.rests_but;
    spells = subst (λ (s : State). Spells ledger.lists s) (sym now_here) (subst (λ l. Spells l (next h y)) (sym w.lists) a.spells);
    actions = here;
    at = subst (λ (l : List (Commit Edit)). IsMaskAt hook_codec l mask slot) (sym w.seen) (mask_back hook_codec (h ++ c ∷ []) h mask slot (λ hook less. sym (heads hook less)) at_slot);
    early = stamp_at;
    older = let small = at_slot.small in older_at (places.mask_root slot) (λ same. absurd (omega (arith, high, same, small))) (λ s less same. absurd (omega (arith, same, small)));
    older_rows = λ row place in_ less. older_at (places.bucket_root row place)
        (not_in_pool row place (subst (IsInPool row) (ap (λ (p : Pools). p.rows) w.others) in_) less)
        (λ s small same. absurd (omega (arith, same, small)));
  }
