-- One step on the way along a chain.
use Rattle.std.proofs.Common.{◌≡◌, ◌≢◌, ◌∙◌, ℕ, ◌+◌, ◌*◌, ◌<◌, ◌≤◌, List, length, drop, slice_get, get_or, Some, ap, sym, subst, arith, add-one}
use Rattle.atomic_table.specs.declared.shared.Seat.{Seat}
use Rattle.store_history.specs.declared.history.Link.{Link}
use Rattle.store_history.specs.declared.history.Commit.{Commit}
use Rattle.store_history.specs.History.{root_of, first_number, IsNamed, IsLinked}
use Rattle.pin_store.specs.declared.shape.Shape.{Shape}
use Rattle.pin_store.specs.declared.view.View.{View}
use Rattle.pin_store.specs.Layout.{IsInShape, word_count}
use Rattle.pin_store.specs.Calls.{seen_by, floor_start, start_in, IsSameButLoads}
use Rattle.block_chain.specs.Ways.{block_words, IsBefore}
use Rattle.block_chain.proofs.Chains.{next_at, named_end}

-- the block that is next
pub record IsNext {E : Type 0} (shape : Shape) (p : Seat (Unit {0}) (View E)) (root place next : ℕ) : Type 0 where
  pub link : Link
  pub there : slice_get (root_of (seen_by p) root).chain place ≡ Some link
  pub named : IsNamed (floor_start p) (seen_by p) link
  pub number : link.block + 1 ≡ next
  pub sized : IsInShape shape link
  pub linked : get_or link.words 39 0 ≡ first_number (drop (place + 1) (root_of (seen_by p) root).chain)
  pub inside : place + 1 ≤ length (root_of (seen_by p) root).chain

pub next_of : {E : Type 0} (shape : Shape) (p : Seat (Unit {0}) (View E)) (root place next : ℕ) → next ≢ 0 → IsBefore shape p root place next → IsNext shape p root place next
next_of {E} shape p root place next some b =
    let t = next_at 40 (root_of (seen_by p) root).chain place next b.next_is some b.linked in
    let named = named_end (floor_start p) (seen_by p) root place t.0 b.recent t.1 in
    let inside = t.4 in record {
      link = t.0;
      there = t.1;
      named = named;
      number = t.2;
      sized = b.sized t.0 named;
      linked = rw add-one t.3;
      inside = omega arith;
    }

-- and behind it
pub behind : {E : Type 0} (shape : Shape) (p q : Seat (Unit {0}) (View E)) (root place next last : ℕ) (n : IsNext shape p root place next) → IsSameButLoads p q → last ≡ get_or n.link.words 39 0 → IsBefore shape p root place next
    → IsBefore shape q root (place + 1) last
behind {E} shape p q root place next last n same is b = record {
  next_is = is ∙ (n.linked ∙ ap (λ (h : List (Commit E)). first_number (drop (place + 1) (root_of h root).chain)) (sym seen));
  inside = subst (λ (h : List (Commit E)). place + 1 ≤ length (root_of h root).chain) (sym seen) n.inside;
  linked = subst (λ (h : List (Commit E)). IsLinked block_words (root_of h root).chain) (sym seen) b.linked;
  sized = λ l named. b.sized l (subst (λ (s : ℕ). IsNamed s (seen_by p) l) floor (subst (λ (h : List (Commit E)). IsNamed (floor_start q) h l) seen named));
  recent = subst (λ (s : ℕ). s ≤ length (seen_by q)) (sym floor) (subst (λ (h : List (Commit E)). floor_start p ≤ length h) (sym seen) b.recent);
}
  where
    seen : seen_by q ≡ seen_by p
    seen = same.seen

    floor : floor_start q ≡ floor_start p
    floor = ap start_in same.floor

-- a store of such blocks has less than 2^32 of them
pub narrow : (shape : Shape) → shape.words ≡ block_words → word_count shape < 2147483648 → shape.blocks < 4294967296
narrow shape wide small = let few = subst (λ (w : ℕ). shape.blocks * w + shape.roots + 1 + shape.readers < 2147483648) wide small in omega (arith, few)
