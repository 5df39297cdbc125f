-- The line of a pattern, piece by piece.
use Rattle.std.proofs.Common.{◌≡◌, ℕ, List, ◌++◌, codes, append_assoc, sym, ◌∙◌, ap}
use Rattle.std.specs.Str.{encode_utf8_all}
use Rattle.std.proofs.lemmas.Str.{encodes-append}
use Rattle.bye_pattern.specs.Patterns.{Pattern}
use Rattle.bye_pattern.specs.Printed.{pattern_text, root_line, slot_text}
use Rattle.bye_pattern.specs.TrialOrder.{line_bytes}

-- six texts after one another
encoded : (s b p c o d : List ℕ) → encode_utf8_all (s ++ b ++ p ++ c ++ o ++ d) ≡ encode_utf8_all s ++ encode_utf8_all b ++ encode_utf8_all p ++ encode_utf8_all c ++ encode_utf8_all o ++ encode_utf8_all d
encoded s b p c o d =
    encodes-append (s ++ b ++ p ++ c ++ o) d ∙ ap (λ x. x ++ encode_utf8_all d)
    (encodes-append (s ++ b ++ p ++ c) o ∙ ap (λ x. x ++ encode_utf8_all o)
    (encodes-append (s ++ b ++ p) c ∙ ap (λ x. x ++ encode_utf8_all c) (encodes-append (s ++ b) p ∙ ap (λ x. x ++ encode_utf8_all p) (encodes-append s b))))

line_is : (q : Pattern)
    → line_bytes q ≡ codes "  " ++ (encode_utf8_all (slot_text q.s) ++ codes " " ++ encode_utf8_all (slot_text q.p) ++ codes " " ++ encode_utf8_all (slot_text q.o) ++ codes " .") ++ codes "\n"
unfolding root_line lib.Utf8.encode
line_is q =
    encodes-append (codes "  " ++ pattern_text q) (codes "\n")
    ∙ ap (λ x. x ++ codes "\n")
    (encodes-append (codes "  ") (pattern_text q) ∙ ap (λ x. codes "  " ++ x) (encoded (slot_text q.s) (codes " ") (slot_text q.p) (codes " ") (slot_text q.o) (codes " .")))

regroup : (out a s b p c o d n : List ℕ) → out ++ a ++ s ++ b ++ p ++ c ++ o ++ (d ++ n) ≡ out ++ (a ++ (s ++ b ++ p ++ c ++ o ++ d) ++ n)
regroup out a s b p c o d n = simp append_assoc

-- what is put at the end is the line
pub line_put : (q : Pattern) (out a s b p c o d : List ℕ) → a ≡ out ++ codes "  " → s ≡ a ++ encode_utf8_all (slot_text q.s) → b ≡ s ++ codes " " → p ≡ b ++ encode_utf8_all (slot_text q.p)
    → c ≡ p ++ codes " " → o ≡ c ++ encode_utf8_all (slot_text q.o) → d ≡ o ++ codes " .\n" → d ≡ out ++ line_bytes q
line_put q out a s b p c o d one two three four five six seven =
    seven ∙ ap (λ x. x ++ codes " .\n")
    (six ∙ ap (λ x. x ++ encode_utf8_all (slot_text q.o))
    (five ∙ ap (λ x. x ++ codes " ") (four ∙ ap (λ x. x ++ encode_utf8_all (slot_text q.p)) (three ∙ ap (λ x. x ++ codes " ") (two ∙ ap (λ x. x ++ encode_utf8_all (slot_text q.s)) one)))))
    ∙ regroup out (codes "  ") (encode_utf8_all (slot_text q.s)) (codes " ") (encode_utf8_all (slot_text q.p)) (codes " ") (encode_utf8_all (slot_text q.o)) (codes " .") (codes "\n")
    ∙ ap (λ x. out ++ x) (sym (line_is q))
