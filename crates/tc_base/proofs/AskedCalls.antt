-- Calls that a disk was asked, one group behind the other.
use Rattle.std.proofs.Common.{◌≡◌, ℕ, List, [], ◌∷◌, ◌++◌, Option, Some, None, refl, sym, ap, ◌∙◌, append_assoc, append-nil, subst, string_bytes}
use Rattle.std.proofs.lemmas.List.Elements.{All-nil, All-push, All-append}
use Rattle.std.specs.IoError.{error_kind}
use Rattle.std.specs.List.{All}
use Rattle.std.specs.Option.{option_map}
use Rattle.std.specs.Prelude.{Result, Ok, Err, OnOk, IsOk, IsErrAnd}
use Rattle.std.specs.declared.io.Error.{Error}
use Rattle.tc_base.specs.declared.drafts.Draft.{Draft}
use Rattle.tc_base.specs.Disk.{Call, Looked, Tried, Made, Cut, Closed, Renamed, Removed, Asked, Asks, IsMere, IsReason}
use Rattle.tc_base.specs.Disk.{Opens, OpensOrNot, OpensBeside, Cuts, Writes, Settles, Puts, done}

pub Asked-none : (P : List Call → Type 0) (told : Option (List Call)) → P [] → Asked told told P
Asked-none P None p = tt
Asked-none P (Some calls) p = ([], sym (append-nil calls), p)

pub Asked-then : (P Q R : List Call → Type 0) (a b c : Option (List Call)) → Asked a b P → Asked b c Q
    → ((xs ys : List Call) → P xs → Q ys → R (xs ++ ys)) → Asked a c R
Asked-then P Q R None b c p q both = tt
Asked-then P Q R (Some a) None c p q both = absurd p
Asked-then P Q R (Some a) (Some b) None p q both = absurd q
Asked-then P Q R (Some a) (Some b) (Some c) (xs, first, p) (ys, second, q) both =
    (xs ++ ys, second ∙ ap (λ (w : List Call). w ++ ys) first ∙ append_assoc a xs ys, both xs ys p q)

pub Asked-weaker : (P Q : List Call → Type 0) (a b : Option (List Call)) → Asked a b P
    → ((calls : List Call) → P calls → Q calls) → Asked a b Q
Asked-weaker P Q None b p weaker = tt
Asked-weaker P Q (Some a) None p weaker = p
Asked-weaker P Q (Some a) (Some b) (calls, there, p) weaker = (calls, there, weaker calls p)

-- one more call that changes nothing
pub Asked-mere : (a b c : Option (List Call)) (call : Call) → Asked a b (All IsMere) → Asks b c call → IsMere call
    → Asked a c (All IsMere)
Asked-mere a b c call p q mere =
    Asked-then (All IsMere) (λ calls. calls ≡ call ∷ []) (All IsMere) a b c p q (λ xs ys all one.
    subst (λ (w : List Call). All IsMere (xs ++ w)) (sym one) (All-push IsMere xs call all mere))

pub Asked-one : (a b : Option (List Call)) (call : Call) → Asks a b call → IsMere call → Asked a b (All IsMere)
Asked-one a b call p mere = Asked-mere a a b call (Asked-none (All IsMere) a (All-nil IsMere)) p mere

-- ---- opening
reason-is_mere : (name : List ℕ) (call : Call) → IsReason name call → IsMere call
reason-is_mere name (Looked looked found) p = tt
reason-is_mere name (Made side (Err kind)) p = tt
reason-is_mere name (Made side (Ok held)) p = p
reason-is_mere name (Tried tried) p = tt
reason-is_mere name (Cut cut file) p = absurd p
reason-is_mere name (Closed held) p = tt
reason-is_mere name (Renamed from to is_done) p = absurd p
reason-is_mere name (Removed removed) p = p

pub opens-in_place : {F : Type 0} (contents : F → Option (List ℕ)) (name : List ℕ) (result : Result (Draft F) Error)
    (front : List Call) (reason : Call) (ys : List Call) → All IsMere front → IsReason name reason
    → Cuts contents name result ys → OpensOrNot contents name result ((front ++ (reason ∷ [])) ++ ys)
opens-in_place contents name (Ok draft) front reason ys mere due (is_none, one) =
    let calls = (front ++ (reason ∷ [])) ++ ys in
    let there : calls ≡ front ++ (reason ∷ Cut name (Ok (contents draft.file)) ∷ []) =
    append_assoc front (reason ∷ []) ys ∙ ap (λ (w : List Call). front ++ (reason ∷ w)) one in
    subst (λ b. Opens name (option_map string_bytes b) (contents draft.file) calls) (sym is_none)
    (front, reason, mere, due, there)
opens-in_place contents name (Err e) front reason ys mere due one =
    let before = All-push IsMere front reason mere (reason-is_mere name reason due) in
    subst (λ (w : List Call). All IsMere ((front ++ (reason ∷ [])) ++ w)) (sym one)
    (All-push IsMere (front ++ (reason ∷ [])) (Cut name (Err (error_kind e))) before tt)

opens-later : (name : List ℕ) (beside held : Option (List ℕ)) (xs ys : List Call) → All IsMere xs
    → Opens name beside held ys → Opens name beside held (xs ++ ys)
opens-later name None held xs ys mere (front, reason, all, due, there) = (
  xs ++ front,
  reason,
  All-append IsMere xs front mere all,
  due,
  ap (λ (w : List Call). xs ++ w) there ∙ sym (append_assoc xs front _),
)
opens-later name (Some side) held xs ys mere (front, all, near, there) = (
  xs ++ front,
  All-append IsMere xs front mere all,
  near,
  ap (λ (w : List Call). xs ++ w) there ∙ sym (append_assoc xs front _),
)

opens_or_not-later : {F : Type 0} (contents : F → Option (List ℕ)) (name : List ℕ) (result : Result (Draft F) Error)
    (xs ys : List Call) → All IsMere xs → OpensOrNot contents name result ys → OpensOrNot contents name result (xs ++ ys)
opens_or_not-later contents name (Ok draft) xs ys mere p =
    opens-later name (option_map string_bytes draft.beside) (contents draft.file) xs ys mere p
opens_or_not-later contents name (Err e) xs ys mere p = All-append IsMere xs ys mere p

-- calls that change nothing, and then a file is opened
pub Asked-opens : {F : Type 0} (contents : F → Option (List ℕ)) (name : List ℕ) (result : Result (Draft F) Error)
    (a b c : Option (List Call)) → Asked a b (All IsMere) → Asked b c (OpensOrNot contents name result)
    → Asked a c (OpensOrNot contents name result)
Asked-opens contents name result a b c p q =
    Asked-then _ _ _ a b c p q (opens_or_not-later contents name result)

-- calls that changed nothing, and an error
pub Asked-opens_not : {F : Type 0} (contents : F → Option (List ℕ)) (name : List ℕ) (result : Result (Draft F) Error)
    (P : Error → Type 0) (a b : Option (List Call)) → IsErrAnd result P → Asked a b (All IsMere)
    → Asked a b (OpensOrNot contents name result)
Asked-opens_not contents name (Ok draft) P a b is_err p = absurd is_err
Asked-opens_not contents name (Err e) P a b is_err p = p

-- no file may be made beside the name, and then what stands under it is cut
pub Asked-cuts : {F : Type 0} (contents : F → Option (List ℕ)) (name : List ℕ) (made : Option (Draft F))
    (result : Result (Draft F) Error) (a b c : Option (List Call)) → made ≡ None
    → Asked a b (OpensBeside contents name (Ok made)) → Asked b c (Cuts contents name result)
    → Asked a c (OpensOrNot contents name result)
Asked-cuts contents name made result a b c none p q =
    let denied = subst (λ m. Asked a b (OpensBeside contents name (Ok m))) none p in
    Asked-then (OpensBeside contents name (Ok None)) (Cuts contents name result) (OpensOrNot contents name result)
    a b c denied q (λ xs ys (front, reason, mere, due, there) cuts.
    subst (λ (w : List Call). OpensOrNot contents name result (w ++ ys)) (sym there)
    (opens-in_place contents name result front reason ys mere due cuts))

-- ---- a whole put
pub Asked-puts : {F : Type 0} (contents : F → Option (List ℕ)) (name bytes : List ℕ) (draft : Draft F)
    (written answer : Result Unit Error) (a b c d : Option (List Call))
    → Asked a b (OpensOrNot contents name (Ok draft)) → Asked b c (Writes (contents draft.file) bytes written)
    → Asked c d (Settles name (option_map string_bytes draft.beside) answer) → OnOk answer (IsOk written)
    → Asked a d (Puts name bytes answer)
Asked-puts contents name bytes draft written answer a b c d opens writes settles ok =
    let held = contents draft.file in
    let side = option_map string_bytes draft.beside in
    let later = Asked-then (Writes held bytes written) (Settles name side answer) (λ calls. (ys : List Call)
    × (zs : List Call) × Writes held bytes written ys × Settles name side answer zs × (calls ≡ ys ++ zs))
    b c d writes settles (λ ys zs w s. (ys, zs, w, s, refl)) in
    Asked-then (OpensOrNot contents name (Ok draft)) _ (Puts name bytes answer) a b d opens later
    (λ xs rest o (ys, zs, w, s, there).
    done xs ys zs side held written o w s ok (ap (λ (v : List Call). xs ++ v) there))
