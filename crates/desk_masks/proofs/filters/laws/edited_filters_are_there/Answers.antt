use Rattle.std.proofs.Common.{◌≡◌, ◌∙◌, ◌%◌, ℕ, List, ◌∷◌, ◌++◌, length, refl, ap}
use Rattle.flow_mask.specs.Hashes.{hash_of}
use Rattle.filter_state.specs.States.{State}
use Rattle.hook_law.specs.Records.{StatedFilter}
use Rattle.hook_law.specs.Chains.{bucket_of}
use Rattle.hook_store_law.specs.Stated.{filters_at}
use Rattle.hook_store_law.specs.OfEdits.Premises.{now}
use Rattle.hook_store_law.proofs.OfEdits.OneMask.{swaps_after, loses_after}
use Rattle.desk_masks.specs.OfFilterCommits.Edits.{HasLater}
use Rattle.desk_masks.proofs.OfFilterCommits.Locating.{own_serial}
use Rattle.desk_masks.proofs.filters.laws.edited_filters_are_there.Goals as goal

-- a filter with others around it
has_later : (s : State) (size handle serial mask : ℕ) (earlier : List StatedFilter) (one : StatedFilter) (later : List StatedFilter) → serial ≡ mask → filters_at s mask ≡ earlier ++ one ∷ later → one.handle ≡ handle
    → (count : ℕ) × HasLater size handle (filters_at s serial) count
has_later s size handle serial mask earlier one later own whole named = (
  length (bucket_of hash_of size (hash_of one.key % size) later),
  record { earlier = earlier; filter = one; later = later; whole = ap (filters_at s) own ∙ whole; named = named; count_is = refl },
)

pub returns-clause-removed : goal.returns-clause-removed
returns-clause-removed c = λ h b hook protocol chain pref handle t done row slot masks shape cells kept a is stays at has stands.
    let l = loses_after h b hook protocol chain pref handle t done row a is stays in
    has_later (now h) kept.mask.size handle kept.mask.serial row.mask_serial l.earlier l.old l.later (own_serial h masks shape cells has slot kept stands row.mask_serial at) l.loses.before l.handle_is

pub returns-clause-exchanged : goal.returns-clause-exchanged
returns-clause-exchanged c = λ h b t line pref handle serials row slot masks shape cells kept a is mask key at has stands.
    let l = swaps_after h b t line pref handle serials row a is mask key in
    has_later (now h) kept.mask.size handle kept.mask.serial row.mask_serial l.earlier l.old l.later (own_serial h masks shape cells has slot kept stands row.mask_serial at) l.swaps.before l.handle
