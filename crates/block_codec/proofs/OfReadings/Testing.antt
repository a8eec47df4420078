-- The tests of words say what is looked for in them.
use Rattle.std.proofs.Common.{◌≡◌, ℕ, ◌+◌, ◌/◌, ◌<◌, ◌≤◌, List, get_or, take, arith}
use Rattle.std.specs.Prelude.{◌==◌, Bool, true, nat_lt, nat_le, slice_range, All}
use Rattle.std.specs.List.{list_all}
use Rattle.std.proofs.lemmas.Bool.{and_parts, and_from}
use Rattle.std.proofs.lemmas.Bool.Decides.{nat_tests}
use Rattle.std.proofs.lemmas.List.Sums.{AllPass-from_list_all, list_all-from_AllPass}
use Rattle.std.proofs.lemmas.List.Elements.{All-weaker}
use Rattle.store_history.specs.declared.places.TheConstants.{ROWS}
use Rattle.block_codec.specs.Names.{action_in, mask_in, IsActionName, IsMaskName}
use Rattle.block_codec.specs.Reading.{HasFilter, HasMask, HasTable, HasAction, rows_of}
use Rattle.block_codec.specs.OfReadings.Read.{is_zero, is_action_word, is_filter, is_row, is_mask, is_mask_word, is_table, is_action}

-- a test of each element
each : {X : Type 0} (test : X → Bool) (P : X → Type 0) (xs : List X) → ((x : X) → test x ≡ true → P x) → list_all test xs ≡ true → All P xs
each test P xs says e = All-weaker (λ x. test x ≡ true) P says xs (AllPass-from_list_all test xs e)

tested : {X : Type 0} (test : X → Bool) (P : X → Type 0) (xs : List X) → ((x : X) → P x → test x ≡ true) → All P xs → list_all test xs ≡ true
tested test P xs says all = list_all-from_AllPass test xs (All-weaker P (λ x. test x ≡ true) says xs all)

at_most : (a b : ℕ) → nat_le a b ≡ true → a ≤ b
at_most a b e = grind (arith, nat_tests, e)

le_test : (a b : ℕ) → a ≤ b → nat_le a b ≡ true
le_test a b low = grind (arith, nat_tests, low)

below : (a b : ℕ) → nat_lt a b ≡ true → a < b
below a b e = grind (arith, nat_tests, e)

lt_test : (a b : ℕ) → a < b → nat_lt a b ≡ true
lt_test a b low = grind (arith, nat_tests, low)

same : (a b : ℕ) → (a == b) ≡ true → a ≡ b
same a b e = grind (arith, nat_tests, e)

eq_test : (a b : ℕ) → a ≡ b → (a == b) ≡ true
eq_test a b e = grind (arith, nat_tests, e)

zeros : (xs : List ℕ) → list_all is_zero xs ≡ true → All (λ word. word ≡ 0) xs
zeros xs e = each is_zero (λ word. word ≡ 0) xs (λ x. same x 0) e

zeros_test : (xs : List ℕ) → All (λ word. word ≡ 0) xs → list_all is_zero xs ≡ true
zeros_test xs all = tested is_zero (λ word. word ≡ 0) xs (λ x. eq_test x 0) all

names_action : (word : ℕ) → is_action_word word ≡ true → IsActionName (action_in word)
names_action word e = let a = and_parts _ _ e in let b = and_parts _ _ a.1 in record { serial = (at_most _ _ a.0, at_most _ _ b.0); slot = below _ _ b.1 }

action_test : (word : ℕ) → IsActionName (action_in word) → is_action_word word ≡ true
action_test word is = and_from _ _ (le_test _ _ is.serial.0) (and_from _ _ (le_test _ _ is.serial.1) (lt_test _ _ is.slot))

names_mask : (word : ℕ) → is_mask_word word ≡ true → IsMaskName (mask_in word)
names_mask word e = let a = and_parts _ _ e in record { serial = below _ _ a.0; slot = below _ _ a.1 }

mask_test : (word : ℕ) → IsMaskName (mask_in word) → is_mask_word word ≡ true
mask_test word is = and_from _ _ (lt_test _ _ is.serial) (lt_test _ _ is.slot)

pub filter_has : (words : List ℕ) → is_filter words ≡ true → HasFilter words
filter_has words e =
    let a = and_parts _ _ e in let b = and_parts _ _ a.1 in let c = and_parts _ _ b.1 in let d = and_parts _ _ c.1 in let f = and_parts _ _ d.1 in let g = and_parts _ _ f.1 in record {
      kind = same _ _ a.0;
      handle = (at_most _ _ b.0, at_most _ _ c.0);
      few = at_most _ _ d.0;
      actions = each is_action_word (λ word. IsActionName (action_in word)) (slice_range words 17 (17 + get_or words 2 0)) names_action f.0;
      rest = zeros _ g.0;
      link = at_most _ _ g.1;
    }

pub filter_test : (words : List ℕ) → HasFilter words → is_filter words ≡ true
filter_test words h = and_from _ _ (eq_test _ _ h.kind) (and_from _ _ (le_test _ _ h.handle.0) (and_from _ _ (le_test _ _ h.handle.1) (and_from _ _ (le_test _ _ h.few)
    (and_from _ _ (tested is_action_word (λ word. IsActionName (action_in word)) (slice_range words 17 (17 + get_or words 2 0)) action_test h.actions)
    (and_from _ _ (zeros_test _ h.rest) (le_test _ _ h.link))))))

pub mask_has : (words : List ℕ) → is_mask words ≡ true → HasMask words
mask_has words e =
    let a = and_parts _ _ e in let b = and_parts _ _ a.1 in let c = and_parts _ _ b.1 in let d = and_parts _ _ c.1 in let f = and_parts _ _ d.1 in let g = and_parts _ _ f.1 in record {
      front = record { kind = same _ _ a.0; serial = at_most _ _ b.0; size = c.0 };
      rows = record { rows = each is_row (λ n. n < ROWS) (take (get_or words 2 0 / 16) (rows_of 64 words)) (λ n. below n ROWS) d.0; rest = zeros _ f.0 };
      rest = zeros _ g.0;
      link = at_most _ _ g.1;
    }

pub mask_tested : (words : List ℕ) → HasMask words → is_mask words ≡ true
mask_tested words h = and_from _ _ (eq_test _ _ h.front.kind) (and_from _ _ (le_test _ _ h.front.serial) (and_from _ _ h.front.size
    (and_from _ _ (tested is_row (λ n. n < ROWS) (take (get_or words 2 0 / 16) (rows_of 64 words)) (λ n. lt_test n ROWS) h.rows.rows)
    (and_from _ _ (zeros_test _ h.rows.rest) (and_from _ _ (zeros_test _ h.rest) (le_test _ _ h.link))))))

pub table_has : (words : List ℕ) → is_table words ≡ true → HasTable words
table_has words e =
    let a = and_parts _ _ e in let b = and_parts _ _ a.1 in let c = and_parts _ _ b.1 in let d = and_parts _ _ c.1 in let f = and_parts _ _ d.1 in let g = and_parts _ _ f.1 in
    let i = and_parts _ _ g.1 in let j = and_parts _ _ i.1 in record {
      kind = same _ _ a.0;
      pref = (at_most _ _ b.0, at_most _ _ c.0);
      chain = at_most _ _ d.0;
      protocol = at_most _ _ f.0;
      few = at_most _ _ g.0;
      masks = each is_mask_word (λ word. IsMaskName (mask_in word)) (slice_range words 4 (4 + get_or words 3 0)) names_mask i.0;
      rest = zeros _ j.0;
      link = at_most _ _ j.1;
    }

pub table_test : (words : List ℕ) → HasTable words → is_table words ≡ true
table_test words h = and_from _ _ (eq_test _ _ h.kind) (and_from _ _ (le_test _ _ h.pref.0) (and_from _ _ (le_test _ _ h.pref.1) (and_from _ _ (le_test _ _ h.chain)
    (and_from _ _ (le_test _ _ h.protocol) (and_from _ _ (le_test _ _ h.few)
    (and_from _ _ (tested is_mask_word (λ word. IsMaskName (mask_in word)) (slice_range words 4 (4 + get_or words 3 0)) mask_test h.masks)
    (and_from _ _ (zeros_test _ h.rest) (le_test _ _ h.link))))))))

pub action_has : (words : List ℕ) → is_action words ≡ true → HasAction words
action_has words e =
    let a = and_parts _ _ e in let b = and_parts _ _ a.1 in let c = and_parts _ _ b.1 in let d = and_parts _ _ c.1 in let f = and_parts _ _ d.1 in record {
      kind = same _ _ a.0;
      serial = (at_most _ _ b.0, at_most _ _ c.0);
      index = at_most _ _ d.0;
      rest = zeros _ f.0;
      link = at_most _ _ f.1;
    }

pub action_tested : (words : List ℕ) → HasAction words → is_action words ≡ true
action_tested words h = and_from _ _ (eq_test _ _ h.kind) (and_from _ _ (le_test _ _ h.serial.0) (and_from _ _ (le_test _ _ h.serial.1) (and_from _ _ (le_test _ _ h.index)
    (and_from _ _ (zeros_test _ h.rest) (le_test _ _ h.link)))))
