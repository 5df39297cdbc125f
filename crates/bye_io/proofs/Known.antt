-- Known bytes, one step after another.
use Rattle.std.proofs.Common.{◌≡◌, ℕ, ◌+◌, ◌-◌, ◌≤◌, List, ◌++◌, length, take, drop, Option, Some, None, sym, ◌∙◌, ap, subst, append_assoc, arith, length-append}
use Rattle.std.proofs.lemmas.List.{drop-drop, length-drop}
use Rattle.std.proofs.Math.Seq.{take-add}
use Rattle.std.specs.Io.KnownBytes.{Appends, Consumes}
use Rattle.bye_io.specs.Bytes.{LosesAtMost}

-- two appends are one append of both
pub appends_more : (a b c : Option (List ℕ)) (x y : List ℕ) → Appends a b x → Appends b c y → Appends a c (x ++ y)
appends_more None b c x y h k = tt
appends_more (Some p) None c x y h k = absurd h
appends_more (Some p) (Some q) None x y h k = absurd k
appends_more (Some p) (Some q) (Some r) x y h k = k ∙ ap (λ q. q ++ y) h ∙ append_assoc p x y

-- two losses from the front are one loss of both
pub consumes_more : (a b c : Option (List ℕ)) (x y : List ℕ) → Consumes a b x → Consumes b c y → Consumes a c (x ++ y)
consumes_more None b c x y h k = tt
consumes_more (Some p) None c x y h k = absurd h
consumes_more (Some p) (Some q) None x y h k = absurd k
consumes_more (Some p) (Some q) (Some r) x y h k = h ∙ ap (λ q. x ++ q) k ∙ sym (append_assoc x y r)

-- the same, with a bound on both lengths
pub loses_more : (a b c : Option (List ℕ)) (x y : List ℕ) (most : ℕ) → Consumes a b x → Consumes b c y → length x + length y ≤ most → LosesAtMost a c most
loses_more a b c x y most h k within =
    (x ++ y, subst (λ n. n ≤ most) (sym (length-append x y)) within, consumes_more a b c x y h k)

past : (total rest n : ℕ) → rest ≤ total → n ≤ rest → total - (rest - n) ≡ (total - rest) + n
past total rest n h k = omega arith

-- n more bytes of the rest were sent, and n fewer are the rest
pub written_more : (a b c : Option (List ℕ)) (bytes rest : List ℕ) (n : ℕ) → length rest ≤ length bytes → rest ≡ drop (length bytes - length rest) bytes → n ≤ length rest
    → Appends a b (take (length bytes - length rest) bytes) → Appends b c (take n rest)
    → Appends a c (take (length bytes - length (drop n rest)) bytes) × (drop n rest ≡ drop (length bytes - length (drop n rest)) bytes)
written_more a b c bytes rest n within is le before now =
    let k = length bytes - length rest in
    let at : length bytes - length (drop n rest) ≡ k + n = ap (λ m. length bytes - m) (length-drop n rest) ∙ past (length bytes) (length rest) n within le in (
      subst (λ m. Appends a c (take m bytes)) (sym at)
          (subst (λ xs. Appends a c xs) (sym (take-add k n bytes)) (appends_more a b c _ _ before (subst (λ r. Appends b c (take n r)) is now))),
      ap (drop n) is ∙ drop-drop n k bytes ∙ ap (λ m. drop m bytes) (sym at),
    )
