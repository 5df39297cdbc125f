-- Characters that go on in a label, sought among all of them.
use Rattle.std.proofs.Common.{◌≡◌, ℕ, ◌<◌, ◌≤◌, Bool, true, false, not, ◌==◌, ◌↔◌, IsTrue, List, [], ◌∷◌, ◌++◌, length, sym, ◌∙◌, ap, length-append, arith}
use Rattle.std.proofs.lemmas.Bool.Decides.{nat_tests}
use Rattle.std.specs.Char.{encode_utf8}
use Rattle.bye_lex.specs.Utf8.{BeginsLabelPart, HasMore, IsLabelPartFrom}
use Rattle.bye_lex.proofs.Encodings.{scalar_below}

-- a character that goes on in a label, by its number
pub found : (c : ℕ) (bytes : List ℕ) → IsLabelPartFrom c bytes → BeginsLabelPart bytes
found c bytes h = record {
  begins = record { char = c; scalar = h.scalar; next = h.more.next; more = h.more.more; is = h.more.is };
  part = h.part;
}

sought : (bytes : List ℕ) (b : BeginsLabelPart bytes) → IsLabelPartFrom b.begins.char bytes
sought bytes b = record {
  scalar = b.begins.scalar;
  part = b.part;
  more = record { next = b.begins.next; more = b.begins.more; is = b.begins.is };
}

-- none of the characters is one, so there is none
pub none_is : (n : ℕ) (bytes : List ℕ) → 0x11_0000 ≤ n → ((c : ℕ) → c < n → IsLabelPartFrom c bytes → ⊥) → BeginsLabelPart bytes → ⊥
none_is n bytes all none b =
    let here : b.begins.char < 0x11_0000 = scalar_below b.begins.char b.begins.scalar in
    none b.begins.char (omega arith) (sought bytes b)

no_bytes : (n : ℕ) (more : List ℕ) → not (length (n ∷ more) == 0) ≡ true
no_bytes n more = grind (arith, nat_tests)

-- what follows the bytes in the UTF-8 of the character
pub more_is : (c : ℕ) (bytes rest text : List ℕ) (empty : Bool) → text ≡ encode_utf8 c → text ≡ bytes ++ rest → empty ≡ (length rest == 0) → IsTrue (not empty) ↔ HasMore c bytes
more_is c bytes [] text empty is parts e = (
  λ t. let k : empty ≡ true = e in let f : not empty ≡ false = ap not k in let h : not empty ≡ true = t in cc,
  λ h. absurd (omega (arith, ap length (sym is ∙ parts), ap length h.is, length-append bytes (h.next ∷ h.more), length-append bytes [])),
)
more_is c bytes (n ∷ more) text empty is parts e = (
  λ t. record { next = n; more = more; is = sym is ∙ parts },
  λ h. ap not e ∙ no_bytes n more,
)
