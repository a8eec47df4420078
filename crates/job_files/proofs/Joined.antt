-- Files behind files: their batches, captures and counts are joined.
use Rattle.std.proofs.Common.{◌≡◌, ℕ, ◌+◌, List, [], ◌∷◌, ◌++◌, refl, ap}
use Rattle.std.specs.Prelude.{length}
use Rattle.std.specs.List.{AllZip, AllByRecursion}
use Rattle.std.proofs.lemmas.List.Sums.{sum_by-append, sum_by-cons}
use Rattle.pcap_io.specs.declared.capture.Capture.{Capture}
use Rattle.batch_run.specs.Commands.{commands_of}
use Rattle.lawful_runs.specs.Given.{command_count, packet_count}
use Rattle.job_files.specs.Named.{JobFile, batches_in, captures_in}

pub batches_joined : (xs ys : List JobFile) → batches_in (xs ++ ys) ≡ batches_in xs ++ batches_in ys
batches_joined [] ys = refl
batches_joined (JobFile.Batch name ∷ xs) ys = ap (λ (names : List (List ℕ)). name ∷ names) (batches_joined xs ys)
batches_joined (JobFile.Capture name ∷ xs) ys = batches_joined xs ys

pub captures_joined : (xs ys : List JobFile) → captures_in (xs ++ ys) ≡ captures_in xs ++ captures_in ys
captures_joined [] ys = refl
captures_joined (JobFile.Batch name ∷ xs) ys = captures_joined xs ys
captures_joined (JobFile.Capture name ∷ xs) ys =
    ap (λ (names : List (List ℕ)). name ∷ names) (captures_joined xs ys)

pub commands_joined : (xs ys : List (List ℕ)) → command_count (xs ++ ys) ≡ command_count xs + command_count ys
commands_joined xs ys = sum_by-append (λ (bytes : List ℕ). length (commands_of bytes)) xs ys

pub packets_joined : (xs ys : List Capture) → packet_count (xs ++ ys) ≡ packet_count xs + packet_count ys
packets_joined xs ys = sum_by-append (λ (capture : Capture). length capture.packets) xs ys

pub commands_from_one : (bytes : List ℕ) (rest : List (List ℕ))
    → command_count (bytes ∷ rest) ≡ length (commands_of bytes) + command_count rest
commands_from_one bytes rest = sum_by-cons (λ (b : List ℕ). length (commands_of b)) bytes rest

pub packets_from_one : (capture : Capture) (rest : List Capture)
    → packet_count (capture ∷ rest) ≡ length capture.packets + packet_count rest
packets_from_one capture rest = sum_by-cons (λ (c : Capture). length c.packets) capture rest

pub all_zip_joined : {A B : Type 0} (R : A → B → Type 0) (xs : List A) (ys : List B) (us : List A) (vs : List B)
    → AllZip R xs ys → AllZip R us vs → AllZip R (xs ++ us) (ys ++ vs)
all_zip_joined R [] [] us vs none more = more
all_zip_joined R [] (y ∷ ys) us vs none more = absurd none
all_zip_joined R (x ∷ xs) [] us vs none more = absurd none
all_zip_joined R (x ∷ xs) (y ∷ ys) us vs each more = (each.0, all_zip_joined R xs ys us vs each.1 more)

-- the front of a list that stands beside another, and what stands beside that
pub record IsZipCut {A B : Type 0} (R : A → B → Type 0) (xs us : List A) (ys : List B) : Type 0 where
  pub front : List B
  pub rest : List B
  pub is : ys ≡ front ++ rest
  pub before : AllZip R xs front
  pub after : AllZip R us rest

pub zip_cut : {A B : Type 0} (R : A → B → Type 0) (xs us : List A) (ys : List B) → AllZip R (xs ++ us) ys
    → IsZipCut R xs us ys
zip_cut R [] us ys each = record { front = []; rest = ys; is = refl; before = tt; after = each }
zip_cut R (x ∷ xs) us [] each = absurd each
zip_cut R (x ∷ xs) us (y ∷ ys) each =
    let cut = zip_cut R xs us ys each.1 in
    record {
      front = y ∷ cut.front;
      rest = cut.rest;
      is = ap (λ (zs : List _). y ∷ zs) cut.is;
      before = (each.0, cut.before);
      after = cut.after;
    }

-- what stands beside a list is one list, where it is one thing beside each element
pub zip_one : {A B : Type 0} (R : A → B → Type 0) → ((x : A) (y z : B) → R x y → R x z → y ≡ z) → (xs : List A)
    (ys zs : List B) → AllZip R xs ys → AllZip R xs zs → ys ≡ zs
zip_one R one [] [] [] a b = refl
zip_one R one [] [] (z ∷ zs) a b = absurd b
zip_one R one [] (y ∷ ys) zs a b = absurd a
zip_one R one (x ∷ xs) [] zs a b = absurd a
zip_one R one (x ∷ xs) (y ∷ ys) [] a b = absurd b
zip_one R one (x ∷ xs) (y ∷ ys) (z ∷ zs) a b =
    let head = one x y z a.0 b.0 in
    let rest = zip_one R one xs ys zs a.1 b.1 in
    cc

-- ---- what is said of each element of joined lists
pub each_before : {A : Type 0} (P : A → Type 0) (xs ys : List A) → AllByRecursion P (xs ++ ys)
    → AllByRecursion P xs
each_before P [] ys each = tt
each_before P (x ∷ xs) ys each = (each.0, each_before P xs ys each.1)

pub each_behind : {A : Type 0} (P : A → Type 0) (xs ys : List A) → AllByRecursion P (xs ++ ys)
    → AllByRecursion P ys
each_behind P [] ys each = each
each_behind P (x ∷ xs) ys each = each_behind P xs ys each.1

pub each_joined : {A : Type 0} (P : A → Type 0) (xs ys : List A) → AllByRecursion P xs → AllByRecursion P ys
    → AllByRecursion P (xs ++ ys)
each_joined P [] ys each more = more
each_joined P (x ∷ xs) ys each more = (each.0, each_joined P xs ys each.1 more)
