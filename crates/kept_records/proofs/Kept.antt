-- Things that were read before, and are read again.
use Rattle.std.proofs.Common.{◌≡◌, ◌∙◌, ℕ, ◌<◌, eqb, cond, Bool, true, false, ◌&&◌, is_some, List, length, get_or, replicate, slice_set, Option, Some, None, IfSome, Bor, option_copied, refl, sym, ap, subst, arith, eqb-true}
use mathlib.Core.Logic.{dite}
use native.Mathlib.Decide.{dec_lt}
use mathlib.Core.List.{IsPrefix}
use Rattle.std.proofs.lemmas.List.{get_or_past}
use Rattle.std.proofs.lemmas.List.Elements.{All-replicate, All-set, All-weaker}
use Rattle.store_history.specs.declared.history.Commit.{Commit}
use Rattle.store_history.specs.declared.history.Link.{Link}
use Rattle.store_history.specs.declared.history.Named.{Named}
use Rattle.store_history.specs.History.{root_of, first_block}
use Rattle.store_history.specs.Reads.{read_all, read_first}
use Rattle.store_history.proofs.Histories.{prefix_self, prefix_trans}
use Rattle.filter_state.specs.declared.edit.Edit.{Edit}
use Rattle.root_word_laws.specs.Words.{StampsRise}
use Rattle.root_word_laws.proofs.Words.{one_stamp}
use Rattle.block_codec.specs.declared.filter.StoredFilter.{StoredFilter}
use Rattle.block_codec.specs.OfReadings.Read.{filter_in, mask_of_words, action_of_words}
use Rattle.mask_table.specs.Buckets.{IsAnswer}
use Rattle.kept_records.specs.declared.things.kept.Kept.{Kept}
use Rattle.kept_records.specs.OfThings.Places.{place_of, kept_as, thing_as, kept_at, AllKept}
use Rattle.kept_records.specs.declared.known_filter.KnownFilter.{KnownFilter}
use Rattle.kept_records.specs.declared.records.HookRecords.{HookRecords}
use Rattle.kept_records.specs.Keeping.{WasRead, IsRead, IsKnown, KeepsRecords}

module _ {T : Type 0} (is : List Link → T → Type 0) where
  was_on : (g h : List (Commit Edit)) → IsPrefix g h → (kept : Kept T) → WasRead is g kept → WasRead is h kept
  was_on g h prefix kept k = record { then = k.then; seen = prefix_trans k.then g h k.seen prefix; stamp = k.stamp; thing = k.thing }

  some_on : (g h : List (Commit Edit)) → IsPrefix g h → (o : Option (Kept T)) → IfSome o (WasRead is g) → IfSome o (WasRead is h)
  some_on g h prefix None k = tt
  some_on g h prefix (Some kept) k = was_on g h prefix kept k

  pub all_on : (g h : List (Commit Edit)) → IsPrefix g h → (places : List (Option (Kept T))) → AllKept (WasRead is g) places → AllKept (WasRead is h) places
  all_on g h prefix places all = All-weaker (λ o. IfSome o (WasRead is g)) (λ o. IfSome o (WasRead is h)) (some_on g h prefix) places all

  module _ (h : List (Commit Edit)) (root stamp : ℕ) (places : List (Option (Kept T))) (all : AllKept (WasRead is h) places) (stamp_is : stamp ≡ (root_of h root).stamp) where
    kept_was : (kept : Kept T) → kept.number ≡ root → kept.stamp ≡ stamp → WasRead is h kept → (block : ℕ) → first_block (root_of h root).chain ≡ Some block → StampsRise h → is (root_of h root).chain kept.thing
    kept_was kept number same k block some rise =
        let then : (root_of k.then root).stamp ≡ (root_of h root).stamp = ap (λ (r : ℕ). (root_of k.then r).stamp) (sym number) ∙ (sym k.stamp ∙ (same ∙ stamp_is)) in
        let one : root_of k.then root ≡ root_of h root = one_stamp k.then h root block k.seen rise then some in
        subst (λ (n : Named). is n.chain kept.thing) one (subst (λ (r : ℕ). is (root_of k.then r).chain kept.thing) number k.thing)

    at_place : (o : Option (Kept T)) → IfSome o (WasRead is h) → (thing : T) → thing_as root stamp o ≡ Some thing → (block : ℕ) → first_block (root_of h root).chain ≡ Some block → StampsRise h → is (root_of h root).chain thing
    at_place None k thing found block first rise = absurd (cc found)
    at_place (Some kept) k thing found block first rise = pick (eqb kept.number root) (eqb kept.stamp stamp) refl refl found
      where
        pick : (a b : Bool) → eqb kept.number root ≡ a → eqb kept.stamp stamp ≡ b → cond (a && b) (Some kept.thing) None ≡ Some thing → is (root_of h root).chain thing
        pick true true one other same = let own : kept.thing ≡ thing = cc same in subst (is (root_of h root).chain) own (kept_was kept (eqb-true kept.number root one) (eqb-true kept.stamp stamp other) k block first rise)
        pick true false one other same = absurd (cc same)
        pick false b one other same = absurd (cc same)

    -- WHAT IS KEPT IS RIGHT OF WHAT THE ROOT NAMES, where the root has that stamp, and some block
    told_again : (thing : T) → kept_at places root stamp ≡ Some thing → (block : ℕ) → first_block (root_of h root).chain ≡ Some block → StampsRise h → is (root_of h root).chain thing
    told_again thing found block first rise = dite (dec_lt (place_of root) (length places))
        (λ (less : place_of root < length places). at_place (get_or places (place_of root) None) (all (place_of root) None less) thing found block first rise)
        (λ (past : place_of root < length places → ⊥). at_place (get_or places (place_of root) None)
        (subst (λ (o : Option (Kept T)). IfSome o (WasRead is h)) (sym (get_or_past places (place_of root) None (omega (arith, past)))) tt) thing found block first rise)

    -- and so is what was read now
    put_now : (thing : Option T) → IfSome thing (is (root_of h root).chain) → AllKept (WasRead is h) (slice_set places (place_of root) (kept_as root stamp thing))
    put_now thing right = All-set (λ o. IfSome o (WasRead is h)) places (place_of root) (kept_as root stamp thing) (pick thing right) all
      where
        pick : (o : Option T) → IfSome o (is (root_of h root).chain) → IfSome (kept_as root stamp o) (WasRead is h)
        pick None right = tt
        pick (Some t) right = record { then = h; seen = prefix_self h; stamp = stamp_is; thing = right }

  pub renewed : (old h : List (Commit Edit)) (root stamp : ℕ) (places now : List (Option (Kept T))) (thing : Option T) → IsPrefix old h → AllKept (WasRead is old) places → stamp ≡ (root_of h root).stamp → IfSome thing (is (root_of h root).chain)
      → now ≡ slice_set places (place_of root) (kept_as root stamp thing) → AllKept (WasRead is h) now
  renewed old h root stamp places now thing prefix all stamp_is right now_is =
      subst (AllKept (WasRead is h)) (sym now_is) (put_now h root stamp places (all_on old h prefix places all) stamp_is thing right)

  pub right_again : (old h : List (Commit Edit)) (root stamp : ℕ) (first : Option ℕ) (places : List (Option (Kept T))) (thing : T) → IsPrefix old h → AllKept (WasRead is old) places → stamp ≡ (root_of h root).stamp → first ≡ first_block (root_of h root).chain
      → is_some first ≡ true → kept_at places root stamp ≡ Some thing → StampsRise h → is (root_of h root).chain thing
  right_again old h root stamp first places thing prefix all stamp_is first_is some found rise = pick first refl some
    where
      pick : (o : Option ℕ) → first ≡ o → is_some o ≡ true → is (root_of h root).chain thing
      pick None e none = absurd (cc none)
      pick (Some block) e there = told_again h root stamp places (all_on old h prefix places all) stamp_is thing found block (sym first_is ∙ e) rise

-- ---- records of one block
module _ {T : Type 0} (read : List ℕ → Option T) where
  some_read : (chain : List Link) (thing : Option T) → thing ≡ read_first read chain → IfSome thing (IsRead read chain)
  some_read chain None e = tt
  some_read chain (Some t) e = sym e

  pub read_now : (old h : List (Commit Edit)) (root stamp : ℕ) (places now : List (Option (Kept T))) (thing : Option T) → IsPrefix old h → AllKept (WasRead (IsRead read) old) places → stamp ≡ (root_of h root).stamp → thing ≡ read_first read (root_of h root).chain
      → now ≡ slice_set places (place_of root) (kept_as root stamp thing) → AllKept (WasRead (IsRead read) h) now
  read_now old h root stamp places now thing prefix all stamp_is thing_is now_is = renewed (IsRead read) old h root stamp places now thing prefix all stamp_is (some_read (root_of h root).chain thing thing_is) now_is

  pub again : (old h : List (Commit Edit)) (root stamp : ℕ) (first : Option ℕ) (places : List (Option (Kept T))) → IsPrefix old h → AllKept (WasRead (IsRead read) old) places → stamp ≡ (root_of h root).stamp → first ≡ first_block (root_of h root).chain
      → is_some first ≡ true → is_some (kept_at places root stamp) ≡ true → StampsRise h → kept_at places root stamp ≡ read_first read (root_of h root).chain
  again old h root stamp first places prefix all stamp_is first_is some found rise = pick (kept_at places root stamp) refl found
    where
      pick : (o : Option T) → kept_at places root stamp ≡ o → is_some o ≡ true → kept_at places root stamp ≡ read_first read (root_of h root).chain
      pick None e none = absurd (cc none)
      pick (Some thing) e there = e ∙ sym (right_again (IsRead read) old h root stamp first places thing prefix all stamp_is first_is some e rise)

-- a thing that is lent is there
pub lent_some : {T : Type 0} (lent : Option (Bor T)) (o : Option T) → option_copied lent ≡ o → is_some lent ≡ true → is_some o ≡ true
lent_some None o e some = absurd (cc some)
lent_some (Some it) o e some = ap is_some (sym e)

pub none_kept : {T : Type 0} (is : List Link → T → Type 0) (h : List (Commit Edit)) (places : List (Option (Kept T))) → places ≡ replicate 256 None → AllKept (WasRead is h) places
none_kept is h places empty = subst (AllKept (WasRead is h)) (sym empty) (All-replicate (λ o. IfSome o (WasRead is h)) 256 None tt)

pub records_longer : (g h : List (Commit Edit)) (records : HookRecords) → IsPrefix g h → KeepsRecords g records → KeepsRecords h records
records_longer g h records prefix k = record {
  masks = all_on (IsRead mask_of_words) g h prefix records.masks k.masks;
  filters = all_on IsKnown g h prefix records.filters k.filters;
  actions = all_on (IsRead action_of_words) g h prefix records.actions k.actions;
}

-- ---- filters that were found
pub known_kept : (old h : List (Commit Edit)) (root stamp : ℕ) (places now : List (Option (Kept KnownFilter))) (known : KnownFilter) (found : Bool) → IsPrefix old h → AllKept (WasRead IsKnown old) places → stamp ≡ (root_of h root).stamp
    → ((there : List StoredFilter) → read_all filter_in (root_of h root).chain ≡ Some there → IsAnswer there known.key.words found known.actions)
    → (found ≡ true → now ≡ slice_set places (place_of root) (kept_as root stamp (Some known))) → (found ≡ false → now ≡ places) → AllKept (WasRead IsKnown h) now
known_kept old h root stamp places now known true prefix all stamp_is answer hit none = renewed IsKnown old h root stamp places now (Some known) prefix all stamp_is answer (hit refl)
known_kept old h root stamp places now known false prefix all stamp_is answer hit none = subst (AllKept (WasRead IsKnown h)) (sym (none refl)) (all_on IsKnown old h prefix places all)
