use Rattle.std.proofs.Common.{[], refl}
use Rattle.hook_store_law.proofs.OfEdits.OneMask.{gains_after, swaps_after}
use Rattle.hook_store_law.proofs.OfEdits.Heading.{new_mask_after, other_key_after, other_mask_after}
use Rattle.desk_parts.proofs.OfFilterNames.Answering.{stands_last}
use Rattle.desk_parts.proofs.filter_names.laws.answered_filters_stand.Goals as goal

pub returns-clause-added : goal.returns-clause-added
returns-clause-added c = λ h b y t line pref handle serials row a add there. let g = gains_after h b y t line pref handle serials a add row there in stands_last _ _ _ _ g.filters

pub returns-clause-with_mask : goal.returns-clause-with_mask
returns-clause-with_mask c = λ h b y t line pref handle serials a add none. let m = new_mask_after h b y t line pref handle serials a add none in stands_last _ [] _ _ m.0.filters_are

pub returns-clause-same_key : goal.returns-clause-same_key
returns-clause-same_key c = λ h b t line pref handle serials row a is mask key. let s = swaps_after h b t line pref handle serials row a is mask key in stands_last _ _ _ _ s.swaps.after

pub returns-clause-other_key : goal.returns-clause-other_key
returns-clause-other_key c = λ h b t line pref handle serials row a is mask key. let m = other_key_after h b t line pref handle serials row a is mask key in stands_last _ _ _ _ m.0.filters_are

pub returns-clause-other_mask : goal.returns-clause-other_mask
returns-clause-other_mask c = λ h b t line pref handle serials row a is mask. let m = other_mask_after h b t line pref handle serials row _ a is mask refl in stands_last _ _ _ _ m.1.filters_are
