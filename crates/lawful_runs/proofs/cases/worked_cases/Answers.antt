use Rattle.std.proofs.Common.{[], ◌∷◌, refl, arith}
use Rattle.lawful_runs.specs.Cases.{head_at, mask_at, action_at, batch_of, two_batches, accepted, refused, empty_packet, walked_by, three_edits}
use Rattle.lawful_runs.proofs.Walks.{point_within}
use Rattle.lawful_runs.proofs.LawfulPoints.{lawful_points}
use Rattle.lawful_runs.proofs.WalkedEach.{walked_from}
use Rattle.lawful_runs.proofs.InOrder.{in_order}
use Rattle.lawful_runs.proofs.EmptyWalks.{walks_at}
use Rattle.lawful_runs.proofs.cases.worked_cases.Goals as goal

pub returns-clause-lawful : goal.returns-clause-lawful
returns-clause-lawful c =
    lawful_points 2 3 (head_at 2) (mask_at 5 3 ∷ action_at 7 3 ∷ []) (omega arith) ((omega arith, omega arith), ((omega arith, omega arith), ((omega arith, omega arith), tt)))
    ((λ same. absurd same, (λ same. absurd same, tt)), ((λ same. absurd same, tt), (tt, tt)))

pub returns-clause-below_floor : goal.returns-clause-below_floor
returns-clause-below_floor c = λ is. let least = is.head (head_at 1) refl in absurd (omega (arith, least))

pub returns-clause-past_ceiling : goal.returns-clause-past_ceiling
returns-clause-past_ceiling c = λ is. let most = is.below 1 (mask_at 5 4) refl in absurd (omega (arith, most))

pub returns-clause-below_head : goal.returns-clause-below_head
returns-clause-below_head c = λ is. let least = is.above_head 1 (head_at 3) (mask_at 5 2) refl refl in absurd (omega (arith, least))

pub returns-clause-mask_falls : goal.returns-clause-mask_falls
returns-clause-mask_falls c = λ is. let order = is.never_fall 1 2 (mask_at 5 3) (mask_at 5 2) (omega arith) refl refl refl in absurd (omega (arith, order))

pub returns-clause-other_mask_falls : goal.returns-clause-other_mask_falls
returns-clause-other_mask_falls c =
    lawful_points 2 3 (head_at 2) (mask_at 5 3 ∷ mask_at 6 2 ∷ []) (omega arith) ((omega arith, omega arith), ((omega arith, omega arith), ((omega arith, omega arith), tt)))
    ((λ same. absurd same, (λ same. absurd same, tt)), ((λ same. absurd (omega (arith, same)), tt), (tt, tt)))

pub returns-clause-action_falls : goal.returns-clause-action_falls
returns-clause-action_falls c = λ is. let order = is.never_fall 1 3 (action_at 7 3) (action_at 7 2) (omega arith) refl refl refl in absurd (omega (arith, order))

pub returns-clause-to_the_end : goal.returns-clause-to_the_end
returns-clause-to_the_end c = (refl, (refl, (refl, refl)))

pub returns-clause-stopped : goal.returns-clause-stopped
returns-clause-stopped c = (refl, (refl, refl))

pub returns-clause-past_the_stop : goal.returns-clause-past_the_stop
returns-clause-past_the_stop c = λ through. absurd (cc (through.1.1))

pub returns-clause-forced : goal.returns-clause-forced
returns-clause-forced c = (refl, (refl, (refl, refl)))

pub returns-clause-forced_stopped : goal.returns-clause-forced_stopped
returns-clause-forced_stopped c = λ through. through.1.1

pub returns-clause-left_out : goal.returns-clause-left_out
returns-clause-left_out c = λ through. let line = through.1.0 in absurd (omega (arith, line))

pub returns-clause-cut_off : goal.returns-clause-cut_off
returns-clause-cut_off c = λ through. through.1

pub returns-clause-interleaved : goal.returns-clause-interleaved
returns-clause-interleaved c =
    in_order two_batches (accepted 2 1 ∷ accepted 1 1 ∷ refused 2 2 ∷ refused 1 2 ∷ []) ((refl, (refl, refl)), ((refl, (refl, refl)), tt))

pub returns-clause-out_of_order : goal.returns-clause-out_of_order
returns-clause-out_of_order c = λ order. let line = (order (batch_of 1) (0, refl)).0 in absurd (omega (arith, line))

pub returns-clause-own_points : goal.returns-clause-own_points
returns-clause-own_points c = refl

pub returns-clause-two_workers : goal.returns-clause-two_workers
returns-clause-two_workers c =
    walked_from 2 three_edits 2 3 [] (empty_packet ∷ empty_packet ∷ []) (walked_by 1 (3 ∷ []) ∷ walked_by 2 (2 ∷ []) ∷ [])
    (omega arith, omega arith, walks_at 1 2 3 3 (omega arith) (omega arith) refl, (omega arith, omega arith, walks_at 2 2 3 2 (omega arith) (omega arith) refl, tt))

pub returns-clause-one_worker : goal.returns-clause-one_worker
returns-clause-one_worker c = λ walked.
    let bounds = point_within three_edits 3 3 empty_packet (walked_by 1 (2 ∷ [])) (walked.walked 1 empty_packet (walked_by 1 (2 ∷ [])) refl refl) 0 2 refl in
    absurd (omega (arith, bounds.0))

pub returns-clause-seen_before : goal.returns-clause-seen_before
returns-clause-seen_before c = λ walked.
    let bounds = point_within three_edits 3 3 empty_packet (walked_by 1 (2 ∷ [])) (walked.walked 0 empty_packet (walked_by 1 (2 ∷ [])) refl refl) 0 2 refl in
    absurd (omega (arith, bounds.0))
