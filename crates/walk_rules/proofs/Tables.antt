-- Over one state a walk leads to the plain outcome: through the masks of a table, the tables of a chain, and
-- the chains.
use Rattle.std.proofs.Common.{◌≡◌, ◌∙◌, ℕ, zero, suc, ◌+◌, ◌-◌, ◌==◌, ◌&&◌, nat_lt, Bool, true, false, cond, List, [], ◌∷◌, Option, Some, None, IfSome, refl, sym, ap, subst, eqb-true, arith}
use Rattle.std.specs.List.{list_any}
use Rattle.std.proofs.lemmas.Bool.{and_parts}
use Rattle.std.proofs.lemmas.Bool.Decides.{nat_tests}
use Rattle.tc_base.specs.declared.hook.Hook.{Hook}
use Rattle.frame_edit.specs.Tags.{ether_type_of}
use Rattle.flow_dissect.specs.Fields.{frame_values}
use Rattle.filter_state.specs.States.{Row, State}
use Rattle.filter_state.specs.Order.{of_mask}
use Rattle.filter_state.specs.Sound.{Each}
use Rattle.walk_rules.specs.declared.verdict.Verdict.TheVariants as verdicts
use Rattle.walk_rules.specs.Questions.{Head, filter_of}
use Rattle.walk_rules.specs.Answers.{meets, actions_or_none}
use Rattle.walk_rules.specs.Steps.{Place, at_mask, Standing, after_at, after_found, first_stop, masks_or, tries, admits}
use Rattle.walk_rules.specs.Walks.{Outcome}
use Rattle.walk_rules.specs.Plain.{Carried, ends_with, decider, looked_at, filter_outcome, decided, table_outcome, tables_outcome, chain_outcome}
use Rattle.walk_rules.proofs.Listed.{first_has}
use Rattle.walk_rules.proofs.Deciding.{IsKept, meeting, or_later, first_met, one_or_more, masks_met, decides, looks}
use Rattle.walk_rules.proofs.Leading.{AreLeft, one_fewer, Leads, one_visit, way, asks_at, at_end, mask_spent, RestartLeads, TablesLead, IsLive, list_leads}

-- ---- what is left of a count
nothing_spent : {X : Type 0} (n : ℕ) (x : X) (f : ℕ → X) → f n ≡ cond (nat_lt n 0) x (f (n - 0))
nothing_spent n x f =
    let test : nat_lt n 0 ≡ false = grind (arith, nat_tests) in
    let same : n - 0 ≡ n = omega arith in
    rw (test, same) refl

all_spent : {X : Type 0} (c : ℕ) (x y : X) → x ≡ cond (nat_lt 0 (suc c)) x y
all_spent c x y = let test : nat_lt 0 (suc c) ≡ true = grind (arith, nat_tests) in rw test refl

one_spent : {X : Type 0} (n c : ℕ) (x : X) (f : ℕ → X) → cond (nat_lt n c) x (f (n - c)) ≡ cond (nat_lt (suc n) (suc c)) x (f (suc n - suc c))
one_spent n c x f =
    let test : nat_lt (suc n) (suc c) ≡ nat_lt n c = grind (arith, nat_tests) in
    let same : suc n - suc c ≡ n - c = omega arith in
    rw (test, same) refl

-- each list of actions names live ones
abbrev pub AreLive : State → Row → Type 0
AreLive s row = Each (IsLive s) row.actions

-- after so many masks were tried
abbrev met_outcome : State → (ℕ → ℕ → Carried → Outcome) → (ℕ → Carried → Outcome) → ℕ → Carried → ℕ → Option Row → Outcome
met_outcome s restart next left carried count row =
    cond (nat_lt left count) (ends_with verdicts.Drop carried) (decided s restart next (left - count) carried row)

module _ (s : State) (live : Each (AreLive s) s.rows) (hook : Hook) (heads : List Head) (r : ℕ) (restart : ℕ → ℕ → Carried → Outcome) (again : RestartLeads s hook heads r restart)
    (head : Head) (tables : List Head) (next : ℕ → Carried → Outcome) (onwards : TablesLead s hook heads r head.chain tables next)
  where
    -- ---- the masks of a table
    found_leads : (n v : ℕ) (carried : Carried) (place : Place) (actions : List ℕ) → Each (IsLive s) actions → AreLeft n (v + 1) →
        Leads s (after_found (way hook heads r v carried place) head tables actions) (filter_outcome s restart next n carried actions)
    found_leads n v carried place [] alive left = at_end s hook heads r (v + 1) carried verdicts.Pass
    found_leads n v carried place (action ∷ actions) alive left =
        list_leads s hook heads r restart again head tables next onwards (action ∷ actions) alive n (v + 1) 0 31 carried left (omega arith)

    abbrev MasksLead : List ℕ → ℕ → ℕ → Carried → Type 0
    MasksLead masks n v carried =
        Leads s (way hook heads r v carried (masks_or head masks tables (first_stop head.chain (ether_type_of carried.frame.bytes) tables)))
        (met_outcome s restart next n carried (masks_met (frame_values carried.frame.bytes) s.rows masks) (first_met (frame_values carried.frame.bytes) s.rows masks))

    spent_leads : (mask : ℕ) (masks : List ℕ) (v : ℕ) (carried : Carried) → AreLeft 0 v → (o row : Option Row) (count : ℕ) →
        Leads s (way hook heads r v carried (at_mask head (mask ∷ masks) tables)) (met_outcome s restart next 0 carried (one_or_more o count) (or_later o row))
    spent_leads mask masks v carried left (Some met) row count =
        subst (Leads s (way hook heads r v carried (at_mask head (mask ∷ masks) tables))) (all_spent 0 (ends_with verdicts.Drop carried) (decided s restart next (0 - 1) carried (Some met)))
        (mask_spent s hook heads r v carried head (mask ∷ masks) tables left)
    spent_leads mask masks v carried left None row count =
        subst (Leads s (way hook heads r v carried (at_mask head (mask ∷ masks) tables))) (all_spent count (ends_with verdicts.Drop carried) (decided s restart next (0 - suc count) carried row))
        (mask_spent s hook heads r v carried head (mask ∷ masks) tables left)

    answered_leads : (mask : ℕ) (masks : List ℕ) (n v : ℕ) (carried : Carried) → AreLeft n (v + 1) → MasksLead masks n (v + 1) carried → (o : Option Row) → IfSome o (AreLive s) →
        Leads s (after_at (way hook heads r v carried (at_mask head (mask ∷ masks) tables)) (at_mask head (mask ∷ masks) tables) (actions_or_none o))
        (met_outcome s restart next (suc n) carried (one_or_more o (masks_met (frame_values carried.frame.bytes) s.rows masks)) (or_later o (first_met (frame_values carried.frame.bytes) s.rows masks)))
    answered_leads mask masks n v carried left more (Some met) alive =
        let then : ℕ → Outcome = λ left'. decided s restart next left' carried (Some met) in
        let st : Standing = after_found (way hook heads r v carried (at_mask head (mask ∷ masks) tables)) head tables met.actions in
        subst (Leads s st) (nothing_spent n (ends_with verdicts.Drop carried) then ∙ one_spent n 0 (ends_with verdicts.Drop carried) then)
        (found_leads n v carried (at_mask head (mask ∷ masks) tables) met.actions alive left)
    answered_leads mask masks n v carried left more None alive =
        let values : List ℕ = frame_values carried.frame.bytes in
        let st : Standing = way hook heads r (v + 1) carried (masks_or head masks tables (first_stop head.chain (ether_type_of carried.frame.bytes) tables)) in
        subst (Leads s st)
        (one_spent n (masks_met values s.rows masks) (ends_with verdicts.Drop carried) (λ left'. decided s restart next left' carried (first_met values s.rows masks))) more

    masks_lead : (masks : List ℕ) → Each (λ mask. list_any (of_mask mask) s.rows ≡ true) masks → (n v : ℕ) (carried : Carried) → AreLeft n v → MasksLead masks n v carried
    masks_lead [] stand n v carried left =
        subst (Leads s (way hook heads r v carried (first_stop head.chain (ether_type_of carried.frame.bytes) tables)))
        (nothing_spent n (ends_with verdicts.Drop carried) (λ left'. next left' carried)) (onwards n v carried left)
    masks_lead (mask ∷ masks) stand zero v carried left =
        let values : List ℕ = frame_values carried.frame.bytes in
        spent_leads mask masks v carried left (meeting values s.rows mask) (first_met values s.rows masks) (masks_met values s.rows masks)
    masks_lead (mask ∷ masks) stand (suc n) v carried left =
        let values : List ℕ = frame_values carried.frame.bytes in
        let place : Place = at_mask head (mask ∷ masks) tables in
        let met : Option Row = meeting values s.rows mask in
        one_visit s (way hook heads r v carried place) (filter_of head.serial mask values) (actions_or_none met) _ (asks_at hook heads r n v carried place left)
        (ap (λ b. cond b (Some (actions_or_none met)) None) stand.0)
        (answered_leads mask masks n v carried (one_fewer n v left) (masks_lead masks stand.1 n (v + 1) carried (one_fewer n v left)) met
        (first_has (AreLive s) (AreLive s) (λ row. of_mask mask row && meets values row) (λ row is alive. alive) s.rows live))

    table_leads : IsKept s.rows head → (n v : ℕ) (carried : Carried) → AreLeft n v →
        Leads s (way hook heads r v carried (masks_or head head.masks tables (first_stop head.chain (ether_type_of carried.frame.bytes) tables)))
        (table_outcome s restart next n carried head (decider s head carried.frame))
    table_leads kept n v carried left =
        let values : List ℕ = frame_values carried.frame.bytes in
        let st : Standing = way hook heads r v carried (masks_or head head.masks tables (first_stop head.chain (ether_type_of carried.frame.bytes) tables)) in
        subst (λ row. Leads s st (met_outcome s restart next n carried (looked_at head row) row)) (decides values s.rows head kept)
        (subst (λ count. Leads s st (met_outcome s restart next n carried count (first_met values s.rows head.masks))) (looks values s.rows head kept)
        (masks_lead head.masks kept.stand n v carried left))

-- ---- the tables of a chain
of_chain : (chain ether : ℕ) (head : Head) → tries chain ether head ≡ true → head.chain ≡ chain
of_chain chain ether head is = eqb-true head.chain chain (and_parts (head.chain == chain) (admits head.protocol ether) is).0

module _ (s : State) (live : Each (AreLive s) s.rows) (hook : Hook) (heads : List Head) where
  tried : (r : ℕ) (restart : ℕ → ℕ → Carried → Outcome) → RestartLeads s hook heads r restart → (chain : ℕ) (head : Head) (tables : List Head) → IsKept s.rows head →
      TablesLead s hook heads r chain tables (tables_outcome s restart chain tables) → (n v : ℕ) (carried : Carried) → AreLeft n v → (b : Bool) → (b ≡ true → head.chain ≡ chain) →
      Leads s (way hook heads r v carried (cond b (masks_or head head.masks tables (first_stop chain (ether_type_of carried.frame.bytes) tables)) (first_stop chain (ether_type_of carried.frame.bytes) tables)))
      (cond b (table_outcome s restart (tables_outcome s restart chain tables) n carried head (decider s head carried.frame)) (tables_outcome s restart chain tables n carried))
  tried r restart again chain head tables kept onwards n v carried left false same = onwards n v carried left
  tried r restart again chain head tables kept onwards n v carried left true same =
      let next : ℕ → Carried → Outcome = tables_outcome s restart chain tables in
      let behind : TablesLead s hook heads r head.chain tables next = subst (λ c. TablesLead s hook heads r c tables next) (sym (same refl)) onwards in
      subst (λ c. Leads s (way hook heads r v carried (masks_or head head.masks tables (first_stop c (ether_type_of carried.frame.bytes) tables)))
      (table_outcome s restart next n carried head (decider s head carried.frame))) (same refl)
      (table_leads s live hook heads r restart again head tables next behind kept n v carried left)

  tables_lead : (r : ℕ) (restart : ℕ → ℕ → Carried → Outcome) → RestartLeads s hook heads r restart → (chain : ℕ) (tables : List Head) → Each (IsKept s.rows) tables →
      TablesLead s hook heads r chain tables (tables_outcome s restart chain tables)
  tables_lead r restart again chain [] kept n v carried left = at_end s hook heads r v carried verdicts.Pass
  tables_lead r restart again chain (head ∷ tables) kept n v carried left =
      tried r restart again chain head tables kept.0 (λ n' v' carried' left'. tables_lead r restart again chain tables kept.1 n' v' carried' left') n v carried left
      (tries chain (ether_type_of carried.frame.bytes) head) (of_chain chain (ether_type_of carried.frame.bytes) head)

  -- ---- the chains, with the restarts that are left
  pub chain_leads : Each (IsKept s.rows) heads → (r chain : ℕ) → TablesLead s hook heads r chain heads (chain_outcome s heads r chain)
  chain_leads kept zero chain =
      tables_lead zero (λ chain' left' carried'. ends_with verdicts.Drop carried') (λ n v chain' carried place left. at_end s hook heads zero (v + 1) carried verdicts.Drop) chain heads kept
  chain_leads kept (suc r) chain =
      tables_lead (suc r) (chain_outcome s heads r) (λ n v chain' carried place left.
      let none : (suc r == 0) ≡ false = grind (arith, nat_tests) in
      let fewer : suc r - 1 ≡ r = omega arith in
      rw (none, fewer) (chain_leads kept r chain' n (v + 1) carried left)) chain heads kept
