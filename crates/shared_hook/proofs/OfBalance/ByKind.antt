-- How the pools go on with each kind of edit, by its states and by what is taken and leaves. Nothing of the
-- commits is in scope here: arithmetic is slow beside what is known of them.
use Rattle.std.proofs.Common.{◌≡◌, ℕ, ◌+◌, ◌-◌, ◌<◌, ◌≤◌, List, ◌++◌, length, ◌∙◌, ap, arith, length-append}
use Rattle.std.specs.Prelude.{sum_by}
use Rattle.tc_base.specs.declared.hook.Hook.{Hook}
use Rattle.filter_state.specs.States.{State}
use Rattle.desk_pools.specs.OfNumbers.Numbers.{PoolNumbers}
use Rattle.desk_needs.specs.Live.{count_of, masks_in, rows_of, rows_of_all}
use Rattle.desk_needs.specs.OfEditNeeds.Told.{blocks_anew, rows_anew, laid, laid_rows, laid_masks, put_into, moved_to}
use Rattle.desk_pools.specs.declared.pools.Pools.{Pools}
use Rattle.desk_actions.specs.Effects.{IsCounted}
use Rattle.shared_hook.specs.OfDeskEdits.Parting.{HaveLeft}
use Rattle.desk_needs.specs.OfLiveCounts.Counts.{StayAsMany, FilterComes, MaskComes, FilterMoves, FilterGoes, MasksGo, ActionsStay, ActionComes, ActionGoes}
use Rattle.shared_hook.proofs.OfBalance.Evens.{GoesOn, AllGoOn, stays}
use Rattle.shared_hook.proofs.OfBalance.Anew.{rows_even, laid_blocks, sum_with_masks}

module _ (old new : Pools) (s t : State) where
  -- ---- apart from filters
  module _ (kept : StayAsMany s t) where
    apart : GoesOn old.blocks new.blocks (length s.actions) (length t.actions) → GoesOn old.actions new.actions (length s.actions) (length t.actions)
        → new.rows ≡ old.rows → new.masks ≡ old.masks → AllGoOn old new s t
    apart blocks actions rows masks = record {
      blocks = record {
        taken = blocks.taken;
        leaving = blocks.leaving;
        free = blocks.free;
        left = blocks.left;
        even = (let f = kept.filters in let m = kept.masks in let even = blocks.even in omega (arith, f, m, even));
      };
      rows = stays old.rows new.rows (rows_of_all s (masks_in s)) (rows_of_all t (masks_in t)) rows kept.rows;
      masks = stays old.masks new.masks (length (masks_in s)) (length (masks_in t)) masks kept.masks;
      actions = actions;
    }

    pub marked : ActionsStay s t → new ≡ old → AllGoOn old new s t
    marked stay same =
        apart (stays old.blocks new.blocks (length s.actions) (length t.actions) (ap (λ (p : Pools). p.blocks) same) stay.live)
        (stays old.actions new.actions (length s.actions) (length t.actions) (ap (λ (p : Pools). p.actions) same) stay.live) (ap (λ (p : Pools). p.rows) same) (ap (λ (p : Pools). p.masks) same)

    pub made : ActionComes s t → IsCounted old.blocks new.blocks 1 0 → IsCounted old.actions new.actions 1 0 → new ≡ record old { blocks = new.blocks; actions = new.actions } → AllGoOn old new s t
    made one blocks actions same =
        let live = one.live in
        apart (record { taken = 1; leaving = 0; free = blocks.free; left = blocks.left; even = omega (arith, live) })
        (record { taken = 1; leaving = 0; free = actions.free; left = actions.left; even = omega (arith, live) }) (ap (λ (p : Pools). p.rows) same) (ap (λ (p : Pools). p.masks) same)

    pub changed : ActionsStay s t → IsCounted old.blocks new.blocks 1 1 → new ≡ record old { blocks = new.blocks } → AllGoOn old new s t
    changed stay blocks same =
        let live = stay.live in
        apart (record { taken = 1; leaving = 1; free = blocks.free; left = blocks.left; even = omega (arith, live) })
        (stays old.actions new.actions (length s.actions) (length t.actions) (ap (λ (p : Pools). p.actions) same) live) (ap (λ (p : Pools). p.rows) same) (ap (λ (p : Pools). p.masks) same)

    pub deleted : ActionGoes s t → IsCounted old.blocks new.blocks 0 1 → IsCounted old.actions new.actions 0 1 → new ≡ record old { blocks = new.blocks; actions = new.actions } → AllGoOn old new s t
    deleted one blocks actions same =
        let live = one.live in
        apart (record { taken = 0; leaving = 1; free = blocks.free; left = blocks.left; even = omega (arith, live) })
        (record { taken = 0; leaving = 1; free = actions.free; left = actions.left; even = omega (arith, live) }) (ap (λ (p : Pools). p.rows) same) (ap (λ (p : Pools). p.masks) same)

  -- ---- filters, with so many new actions, where so many go
  module _ (made gone : ℕ) (live : length t.actions + gone ≡ length s.actions + made) (slots : IsCounted old.actions new.actions made gone) where
    actions : GoesOn old.actions new.actions (length s.actions) (length t.actions)
    actions = record { taken = made; leaving = gone; free = slots.free; left = slots.left; even = live }

    pub into : (count : ℕ) → 1 ≤ count → FilterComes s t count → gone ≡ 0 → IsCounted old.blocks new.blocks (put_into made count).blocks (blocks_anew count (count + 1))
        → IsCounted old.rows new.rows (put_into made count).rows (rows_anew (count + 1) count) → new ≡ record old { blocks = new.blocks; rows = new.rows; actions = new.actions } → AllGoOn old new s t
    into count some comes none blocks rows same =
        let filters = comes.filters in
        let masks = comes.masks in record {
          blocks = record { taken = made + 1 + blocks_anew count (count + 1); leaving = blocks_anew count (count + 1); free = blocks.free; left = blocks.left; even = omega (arith, live, none, filters, masks) };
          rows = record {
            taken = rows_anew count (count + 1);
            leaving = rows_anew (count + 1) count;
            free = rows.free;
            left = rows.left;
            even = (let now = comes.rows in let even = rows_even count (count + 1) some (omega arith) in omega (arith, now, even));
          };
          masks = stays old.masks new.masks (length (masks_in s)) (length (masks_in t)) (ap (λ (p : Pools). p.masks) same) masks;
          actions = actions;
        }

    pub with : MaskComes s t → gone ≡ 0 → IsCounted old.blocks new.blocks (made + 2) 0 → IsCounted old.rows new.rows 1 0 → IsCounted old.masks new.masks 1 0 → AllGoOn old new s t
    with comes none blocks rows masks =
        let filters = comes.filters in
        let more = comes.masks in record {
          blocks = record { taken = made + 2; leaving = 0; free = blocks.free; left = blocks.left; even = omega (arith, live, none, filters, more) };
          rows = record { taken = 1; leaving = 0; free = rows.free; left = rows.left; even = (let now = comes.rows in omega (arith, now)) };
          masks = record { taken = 1; leaving = 0; free = masks.free; left = masks.left; even = omega (arith, more) };
          actions = actions;
        }

    pub in_place : (later : ℕ) → StayAsMany s t → IsCounted old.blocks new.blocks (made + later + 1) (later + 1 + gone) → new ≡ record old { blocks = new.blocks; actions = new.actions } → AllGoOn old new s t
    in_place later kept blocks same =
        let filters = kept.filters in
        let masks = kept.masks in record {
          blocks = record { taken = made + later + 1; leaving = later + 1 + gone; free = blocks.free; left = blocks.left; even = omega (arith, live, filters, masks) };
          rows = stays old.rows new.rows (rows_of_all s (masks_in s)) (rows_of_all t (masks_in t)) (ap (λ (p : Pools). p.rows) same) kept.rows;
          masks = stays old.masks new.masks (length (masks_in s)) (length (masks_in t)) (ap (λ (p : Pools). p.masks) same) masks;
          actions = actions;
        }

    pub other_key : (hook : Hook) (count : ℕ) → StayAsMany s t → IsCounted old.blocks new.blocks (moved_to hook made count 0).blocks (laid count + gone)
        → IsCounted old.rows new.rows (moved_to hook made count 0).rows (laid_rows count) → IsCounted old.masks new.masks (moved_to hook made count 0).masks (laid_masks count) → AllGoOn old new s t
    other_key hook count kept blocks rows masks =
        let filters = kept.filters in
        let same = kept.masks in record {
          blocks = record { taken = made + laid count + laid 0; leaving = laid count + gone; free = blocks.free; left = blocks.left; even = omega (arith, live, filters, same) };
          rows = record { taken = laid_rows count + laid_rows 0; leaving = laid_rows count; free = rows.free; left = rows.left; even = (let now = kept.rows in omega (arith, now)) };
          masks = record { taken = laid_masks count + laid_masks 0; leaving = laid_masks count; free = masks.free; left = masks.left; even = omega (arith, same) };
          actions = actions;
        }

    pub other_mask : (hook : Hook) (count others : ℕ) → 1 ≤ count → FilterMoves s t count others → IsCounted old.blocks new.blocks (moved_to hook made (others + 1) (count - 1)).blocks (laid count + laid others + gone)
        → IsCounted old.rows new.rows (moved_to hook made (others + 1) (count - 1)).rows (laid_rows count + laid_rows others)
        → IsCounted old.masks new.masks (moved_to hook made (others + 1) (count - 1)).masks (laid_masks count + laid_masks others) → AllGoOn old new s t
    other_mask hook count others some moves blocks rows masks =
        let filters = moves.filters in
        let even = moves.masks in
        let one = laid_blocks (others + 1) in
        let two = laid_blocks (count - 1) in
        let three = laid_blocks count in
        let four = laid_blocks others in record {
          blocks = record {
            taken = made + laid (others + 1) + laid (count - 1);
            leaving = laid count + laid others + gone;
            free = blocks.free;
            left = blocks.left;
            even = omega (arith, live, filters, even, some, one, two, three, four);
          };
          rows = record { taken = laid_rows (others + 1) + laid_rows (count - 1); leaving = laid_rows count + laid_rows others; free = rows.free; left = rows.left; even = (let now = moves.rows in omega (arith, now)) };
          masks = record { taken = laid_masks (others + 1) + laid_masks (count - 1); leaving = laid_masks count + laid_masks others; free = masks.free; left = masks.left; even = omega (arith, even) };
          actions = actions;
        }

    pub out : (count later : ℕ) → 1 < count → FilterGoes s t count → made ≡ 0 → IsCounted old.blocks new.blocks (later + blocks_anew count (count - 1)) (later + 1 + blocks_anew count (count - 1) + gone)
        → IsCounted old.rows new.rows (rows_anew count (count - 1)) (rows_anew (count - 1) count) → new ≡ record old { blocks = new.blocks; rows = new.rows; actions = new.actions } → AllGoOn old new s t
    out count later more goes none blocks rows same =
        let filters = goes.filters in
        let masks = goes.masks in record {
          blocks = record {
            taken = later + blocks_anew count (count - 1);
            leaving = later + 1 + blocks_anew count (count - 1) + gone;
            free = blocks.free;
            left = blocks.left;
            even = omega (arith, live, none, filters, masks);
          };
          rows = record {
            taken = rows_anew count (count - 1);
            leaving = rows_anew (count - 1) count;
            free = rows.free;
            left = rows.left;
            even = (let now = goes.rows in let even = rows_even count (count - 1) (omega (arith, more)) (omega (arith, more)) in omega (arith, now, even));
          };
          masks = stays old.masks new.masks (length (masks_in s)) (length (masks_in t)) (ap (λ (p : Pools). p.masks) same) masks;
          actions = actions;
        }

  -- ---- masks that go, and actions after them
  module _ (begun between : Pools) (gone_masks slots blocks : List ℕ) (gone : ℕ) (live : length t.actions + gone ≡ length s.actions) (go : MasksGo s t gone_masks)
      (parted : HaveLeft (count_of s) begun between gone_masks) where
    pub closes : begun.blocks ≡ old.blocks → begun.rows ≡ old.rows → begun.masks ≡ old.masks → begun.actions ≡ old.actions
        → new.actions.left ≡ between.actions.left ++ slots → length slots ≡ gone → new.blocks.left ≡ between.blocks.left ++ blocks → length blocks ≡ gone
        → new.actions.free ≡ between.actions.free → new.blocks.free ≡ between.blocks.free → new ≡ record between { blocks = new.blocks; actions = new.actions } → AllGoOn old new s t
    closes b r m a left_slots many left_blocks long free_slots free_blocks rest =
        let filters = go.filters in
        let fewer = go.masks in
        let mine = parted.others in record {
          blocks = record {
            taken = 0;
            leaving = sum_by (λ mask. count_of s mask + 1) gone_masks + gone;
            free = (let one = ap (λ (p : PoolNumbers). length p.free) b in let two = parted.blocks.free in let three = ap length free_blocks in omega (arith, one, two, three));
            left = (let one = ap (λ (p : PoolNumbers). length p.left) b in let two = parted.blocks.left in let three = ap length left_blocks ∙ length-append between.blocks.left blocks in omega (arith, one, two, three, long));
            even = (let sum = sum_with_masks (count_of s) gone_masks in omega (arith, live, filters, fewer, sum));
          };
          rows = record {
            taken = 0;
            leaving = sum_by (rows_of s) gone_masks;
            free = (let one = ap (λ (p : PoolNumbers). length p.free) r in let two = parted.rows.free in let three = ap (λ (p : Pools). length p.rows.free) rest in omega (arith, one, two, three));
            left = (let one = ap (λ (p : PoolNumbers). length p.left) r in let two = parted.rows.left in let three = ap (λ (p : Pools). length p.rows.left) rest in omega (arith, one, two, three));
            even = (let now = go.rows in omega (arith, now));
          };
          masks = record {
            taken = 0;
            leaving = length gone_masks;
            free = (let one = ap (λ (p : PoolNumbers). length p.free) m in let two = parted.masks.free in let three = ap (λ (p : Pools). length p.masks.free) rest in omega (arith, one, two, three));
            left = (let one = ap (λ (p : PoolNumbers). length p.left) m in let two = parted.masks.left in let three = ap (λ (p : Pools). length p.masks.left) rest in omega (arith, one, two, three));
            even = omega (arith, fewer);
          };
          actions = record {
            taken = 0;
            leaving = gone;
            free = (let one = ap (λ (p : PoolNumbers). length p.free) a in let two = ap (λ (p : Pools). length p.actions.free) mine in let three = ap length free_slots in omega (arith, one, two, three));
            left = (let one = ap (λ (p : PoolNumbers). length p.left) a in let two = ap (λ (p : Pools). length p.actions.left) mine in
                let three = ap length left_slots ∙ length-append between.actions.left slots in omega (arith, one, two, three, many));
            even = omega (arith, live);
          };
        }
