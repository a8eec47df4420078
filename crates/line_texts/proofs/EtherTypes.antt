-- A printed EtherType is read back as its number.
use Rattle.std.proofs.Common.{◌≡◌, ◌∙◌, ℕ, ◌<◌, Bool, true, false, List, codes, ◌⊎◌, inl, inr, Some, None, refl, sym, ap, subst}
use Rattle.std.specs.Prelude.{◌==◌, if◌then◌else◌}
use Rattle.std.specs.Option.{option_map, unwrap_or}
use borrow.Author.Tests.{eqb-true}
use Rattle.tc_base.specs.declared.hook.Proto.TheVariants.{All, Ether}
use Rattle.line_words.specs.Forms.{tpid_of, ether_type_of, protocol_of}
use Rattle.line_texts.specs.Texts.{marked, four_digits, ether_type_text, protocol_text}
use Rattle.line_texts.specs.CleanWords.{is_clean}
use Rattle.line_texts.proofs.Hexadecimal.{four_digits-spells, marked-read, marked-clean}

-- what holds of each name and of each number behind its mark holds of each printed EtherType
by-name : (P : ℕ → List ℕ → Type 0) → P 0x0800 (codes "ip") → P 0x86DD (codes "ipv6") → P 0x0806 (codes "arp") → P 0x8100 (codes "802.1Q") → P 0x88A8 (codes "802.1ad")
    → (n : ℕ) → P n (marked (four_digits n)) → P n (ether_type_text n)
unfolding ether_type_text
by-name P ip ipv6 arp customer service n other =
    choose (n == 0x0800) (n == 0x86DD) (n == 0x0806) (n == 0x8100) (n == 0x88A8) refl refl refl refl refl
  where
    named : (m : ℕ) (name : List ℕ) → (n == m) ≡ true → P m name → P n name
    named m name is p = subst (λ k. P k name) (sym (eqb-true n m is)) p

    choose : (a b c d e : Bool) → (n == 0x0800) ≡ a → (n == 0x86DD) ≡ b → (n == 0x0806) ≡ c → (n == 0x8100) ≡ d → (n == 0x88A8) ≡ e
        → P n (unwrap_or (if a then Some (codes "ip") else if b then Some (codes "ipv6") else if c then Some (codes "arp")
        else if d then Some (codes "802.1Q") else if e then Some (codes "802.1ad") else None) (marked (four_digits n)))
    choose true b c d e p q r s t = named 0x0800 (codes "ip") p ip
    choose false true c d e p q r s t = named 0x86DD (codes "ipv6") q ipv6
    choose false false true d e p q r s t = named 0x0806 (codes "arp") r arp
    choose false false false true e p q r s t = named 0x8100 (codes "802.1Q") s customer
    choose false false false false true p q r s t = named 0x88A8 (codes "802.1ad") t service
    choose false false false false false p q r s t = other

number-read : (n : ℕ) → n < 65536 → ether_type_of (marked (four_digits n)) ≡ Some n
unfolding ether_type_of tpid_of
number-read n lt = marked-read n 4 (four_digits n) (four_digits-spells n lt)

pub ether_type-read : (n : ℕ) → n < 65536 → ether_type_of (ether_type_text n) ≡ Some n
unfolding ether_type_of tpid_of
ether_type-read n lt = by-name (λ k text. ether_type_of text ≡ Some k) refl refl refl refl refl n (number-read n lt)

pub ether_type-clean : (n : ℕ) → n < 65536 → is_clean (ether_type_text n) ≡ true
ether_type-clean n lt = by-name (λ k text. is_clean text ≡ true) refl refl refl refl refl n (marked-clean n 4 (four_digits n) (four_digits-spells n lt))

-- the names of the two tags
customer-read : tpid_of (ether_type_text 0x8100) ≡ Some 0x8100
unfolding ether_type_text tpid_of
customer-read = refl

service-read : tpid_of (ether_type_text 0x88A8) ≡ Some 0x88A8
unfolding ether_type_text tpid_of
service-read = refl

pub tpid-read : (n : ℕ) → (n ≡ 0x8100) ⊎ (n ≡ 0x88A8) → tpid_of (ether_type_text n) ≡ Some n
tpid-read n (inl customer) = subst (λ k. tpid_of (ether_type_text k) ≡ Some k) (sym customer) customer-read
tpid-read n (inr service) = subst (λ k. tpid_of (ether_type_text k) ≡ Some k) (sym service) service-read

pub protocol-all : protocol_of (protocol_text All) ≡ Some All
unfolding protocol_of
protocol-all = refl

-- no EtherType is printed as `all`
not-all : (n : ℕ) → protocol_of (ether_type_text n) ≡ option_map Ether (ether_type_of (ether_type_text n))
unfolding protocol_of
not-all n = by-name (λ k text. protocol_of text ≡ option_map Ether (ether_type_of text)) refl refl refl refl refl n refl

pub protocol-read : (n : ℕ) → n < 65536 → protocol_of (protocol_text (Ether n)) ≡ Some (Ether n)
protocol-read n lt = not-all n ∙ ap (option_map Ether) (ether_type-read n lt)

pub all-clean : is_clean (protocol_text All) ≡ true
all-clean = refl
