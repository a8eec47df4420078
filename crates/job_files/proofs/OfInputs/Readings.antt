-- What one name holds is one text, and a text has one reading where there is so much room.
use Rattle.std.proofs.Common.{◌≡◌, inl, inr, ◌∙◌, ◌-◌, ◌≤◌, ℕ, Bool, true, false, List, [], ◌∷◌, length, Some, refl, sym, ap, subst, arith}
use Rattle.std.specs.Prelude.{◌==◌, if◌then◌else◌}
use Rattle.tc_base.specs.Outside.{Held}
use Rattle.pcap_io.specs.declared.capture.Capture.{Capture}
use Rattle.pcap_io.specs.Captures.{IsCapture}
use Rattle.pcap_io.proofs.Unique.{one_capture, no_fault, one_fault}
use Rattle.batch_run.specs.Commands.{Command, commands_of, line_past}
use Rattle.tool_words.specs.declared.status.Break.{Break}
use Rattle.tool_words.specs.declared.status.InputKind.{InputKind}
use Rattle.job_files.specs.OfInputs.Broken.{break_of, IsBroken}
use Rattle.job_files.specs.OfInputs.Holdings.{Holds, HasBatch, HasTooManyLines, HasCapture, HasBreak}

some_is : {A : Type 0} (x y : A) → Some x ≡ Some y → x ≡ y
some_is x y e = cc

pub same_bytes : (held : Held) (name x y : List ℕ) → Holds (Some held) name x → Holds (Some held) name y
    → x ≡ y
same_bytes held name x y h k = some_is x y (sym h ∙ k)

-- ---- a batch
pub same_past : (held : Held) (room : ℕ) (name : List ℕ) (p q : ℕ) → HasTooManyLines (Some held) room name p
    → HasTooManyLines (Some held) room name q → p ≡ q
same_past held room name p q h k =
    let e = same_bytes held name h.bytes k.bytes h.held k.held in
    some_is p q (sym h.past ∙ ap (λ (x : List ℕ). line_past room (commands_of x)) e ∙ k.past)

else_is : {A : Type 0} (b : Bool) (x y : A) → (b ≡ true → ⊥) → (if b then x else y) ≡ y
else_is true x y not = absurd (not refl)
else_is false x y not = refl

-- commands within a limit do not pass it
few_not_past : (many : ℕ) (commands : List Command) (line : ℕ) → length commands ≤ many
    → line_past many commands ≡ Some line → ⊥
few_not_past many [] line few past = cc
few_not_past many (command ∷ commands) line few past =
    let some : (many == 0) ≡ true → ⊥ = λ is. grind arith in
    let e = else_is (many == 0) (Some command.line) (line_past (many - 1) commands) some in
    few_not_past (many - 1) commands line (omega arith) (sym e ∙ past)

pub not_past : (held : Held) (room : ℕ) (name bytes : List ℕ) (line : ℕ)
    → HasBatch (Some held) room name bytes → HasTooManyLines (Some held) room name line → ⊥
not_past held room name bytes line h k =
    let e = same_bytes held name k.bytes bytes k.held h.held in
    few_not_past room (commands_of bytes) line h.few
    (subst (λ (x : List ℕ). line_past room (commands_of x) ≡ Some line) e k.past)

-- ---- a capture: one within the limit has no break
whole_not_broken : (room : ℕ) (bytes : List ℕ) (c : Capture) (at : ℕ) (what : InputKind) → IsCapture bytes c
    → length c.packets ≤ room → IsBroken room bytes at what → ⊥
whole_not_broken room bytes c at what is few (inl fault) = no_fault bytes c fault.0 is fault.1
whole_not_broken room bytes c at what is few (inr many) =
    let e = one_capture bytes many.2.0 c many.2.1 is in
    let over = many.2.2 in
    omega (arith, ap (λ (x : Capture). length x.packets) e, over)

-- bytes break in one place and one way
one_break : (room : ℕ) (bytes : List ℕ) (p q : ℕ) (k l : InputKind) → IsBroken room bytes p k
    → IsBroken room bytes q l → (p ≡ q) × (k ≡ l)
one_break room bytes p q k l (inl f) (inl g) =
    let b : Break = record { place = p; kind = k } in
    let d : Break = record { place = q; kind = l } in
    let e : b ≡ d = some_is b d (sym f.2 ∙ ap break_of (one_fault bytes f.0 g.0 f.1 g.1) ∙ g.2) in
    (ap (λ (x : Break). x.place) e, ap (λ (x : Break). x.kind) e)
one_break room bytes p q k l (inl f) (inr many) = absurd (no_fault bytes many.2.0 f.0 many.2.1 f.1)
one_break room bytes p q k l (inr many) (inl f) = absurd (no_fault bytes many.2.0 f.0 many.2.1 f.1)
one_break room bytes p q k l (inr m) (inr n) = (m.0 ∙ sym n.0, m.1 ∙ sym n.1)

pub not_broken : (held : Held) (room : ℕ) (name : List ℕ) (c : Capture) (at : ℕ) (what : InputKind)
    → HasCapture (Some held) room name c → HasBreak (Some held) room name at what → ⊥
not_broken held room name c at what h k =
    whole_not_broken room h.bytes c at what h.is h.few
    (subst (λ (b : List ℕ). IsBroken room b at what) (same_bytes held name k.bytes h.bytes k.held h.held) k.is)

pub same_break : (held : Held) (room : ℕ) (name : List ℕ) (p q : ℕ) (k l : InputKind)
    → HasBreak (Some held) room name p k → HasBreak (Some held) room name q l → (p ≡ q) × (k ≡ l)
same_break held room name p q k l h g =
    one_break room g.bytes p q k l (subst (λ (b : List ℕ). IsBroken room b p k)
    (same_bytes held name h.bytes g.bytes h.held g.held) h.is) g.is
