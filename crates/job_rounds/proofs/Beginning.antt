-- A run begins with new readers, and a worker for each.
use Rattle.std.proofs.Common.{◌≡◌, ◌∙◌, ℕ, zero, suc, ◌+◌, ◌⊎◌, inl, inr, List, [], ◌∷◌, ◌++◌, length, map, Some, refl, sym, ap, subst, arith, append_assoc}
use Rattle.std.specs.Prelude.{All}
use Rattle.std.specs.List.{slice_get}
use Rattle.std.proofs.lemmas.List.{get_or_append_left, length-append}
use Rattle.hook_reader.specs.Seats.{HookSeat}
use Rattle.worker_rounds.specs.declared.worker.Worker.{Worker}

pub all_front : {X : Type 0} (P : X → Type 0) (xs ys : List X) → All P (xs ++ ys) → All P xs
all_front P xs ys all k d less = subst P (get_or_append_left xs ys d k less) (all k d (let both = length-append xs ys in omega (arith, both, less)))

pub many_mapped : {X Y : Type 0} (f : X → Y) (xs : List X) → length (map f xs) ≡ length xs
many_mapped f [] = refl
many_mapped f (x ∷ xs) = let rest = many_mapped f xs in omega (arith, rest)

abbrev readers_in : List Worker → List HookSeat
readers_in workers = map (λ (worker : Worker). worker.reader) workers

readers_more : (workers : List Worker) (worker : Worker) → readers_in (workers ++ worker ∷ []) ≡ readers_in workers ++ worker.reader ∷ []
readers_more [] worker = refl
readers_more (first ∷ workers) worker = ap (λ rs. first.reader ∷ rs) (readers_more workers worker)

-- the workers made so far have the first readers, in order
pub record AreMade (readers left : List HookSeat) (workers : List Worker) : Type 0 where
  pub parts : map (λ (worker : Worker). worker.reader) workers ++ left ≡ readers
  pub numbered : (at : ℕ) (worker : Worker) → slice_get workers at ≡ Some worker → worker.number ≡ at + 1

last_or_before : (workers : List Worker) (worker : Worker) (at : ℕ) (it : Worker) → slice_get (workers ++ worker ∷ []) at ≡ Some it → (slice_get workers at ≡ Some it) ⊎ ((at ≡ length workers) × (worker ≡ it))
last_or_before [] worker zero it is = inr (refl, cc is)
last_or_before [] worker (suc at) it is = absurd (cc is)
last_or_before (first ∷ workers) worker zero it is = inl is
last_or_before (first ∷ workers) worker (suc at) it is = elim (last_or_before workers worker at it is) [
  | inl before ↦ inl before
  | inr here ↦ inr ((let place = here.0 in omega (arith, place)), here.1)
]

pub one_made : (readers left rest : List HookSeat) (workers now : List Worker) (worker : Worker) (reader : HookSeat) → left ≡ reader ∷ rest → worker.reader ≡ reader → worker.number ≡ length workers + 1 → now ≡ workers ++ worker ∷ []
    → AreMade readers left workers → AreMade readers rest now
one_made readers left rest workers now worker reader next own number grown are = record {
  parts =
      ap (λ (ws : List Worker). readers_in ws ++ rest) grown ∙ ap (λ (rs : List HookSeat). rs ++ rest) (readers_more workers worker) ∙ append_assoc (readers_in workers) (worker.reader ∷ []) rest
      ∙ ap (λ (r : HookSeat). readers_in workers ++ r ∷ rest) own ∙ ap (λ (rs : List HookSeat). readers_in workers ++ rs) (sym next) ∙ are.parts;
  numbered = λ at it is. elim (last_or_before workers worker at it (subst (λ (ws : List Worker). slice_get ws at ≡ Some it) grown is)) [
    | inl before ↦ are.numbered at it before
    | inr here ↦ (let same : worker.number ≡ it.number = ap (λ (w : Worker). w.number) here.1 in let place = here.0 in omega (arith, number, same, place))
  ];
}

mapped_at : (workers : List Worker) (rest : List HookSeat) (at : ℕ) (worker : Worker) → slice_get workers at ≡ Some worker → slice_get (readers_in workers ++ rest) at ≡ Some worker.reader
mapped_at [] rest at worker is = absurd (cc is)
mapped_at (first ∷ workers) rest zero worker is = (let same : first ≡ worker = cc is in ap (λ (w : Worker). Some w.reader) same)
mapped_at (first ∷ workers) rest (suc at) worker is = mapped_at workers rest at worker is

pub reader_there : (readers left : List HookSeat) (workers : List Worker) → AreMade readers left workers → (at : ℕ) (worker : Worker) → slice_get workers at ≡ Some worker → slice_get readers at ≡ Some worker.reader
reader_there readers left workers are at worker is = subst (λ (rs : List HookSeat). slice_get rs at ≡ Some worker.reader) are.parts (mapped_at workers left at worker is)
