-- Bytes that spellings are put at the end of.
use Rattle.std.proofs.Common.{◌≡◌, ℕ, List, ◌++◌, sym, ◌∙◌, ap, codes}
use Rattle.std.specs.List.{flat_map}
use Rattle.std.proofs.lemmas.List.{append_assoc}
use Rattle.std.proofs.lemmas.Str.{encodes-append}
use Rattle.std.specs.Str.{encode_utf8_all}

-- two spellings, one after the other
two : (before one other middle after : List ℕ) → middle ≡ before ++ encode_utf8_all one
    → after ≡ middle ++ encode_utf8_all other → after ≡ before ++ encode_utf8_all (one ++ other)
two before one other middle after m a =
    a ∙ ap (λ xs. xs ++ encode_utf8_all other) m
    ∙ append_assoc before (encode_utf8_all one) (encode_utf8_all other)
    ∙ ap (λ xs. before ++ xs) (sym (encodes-append one other))

-- an IRI between its brackets
pub bracketed : (before iri text first second after : List ℕ) → text ≡ iri → first ≡ before ++ codes "<"
    → second ≡ first ++ encode_utf8_all text → after ≡ second ++ codes ">"
    → after ≡ before ++ encode_utf8_all (codes "<" ++ iri ++ codes ">")
unfolding lib.Utf8.encode
bracketed before iri text first second after same f s a =
    two before (codes "<" ++ iri) (codes ">") second after
    (two before (codes "<") iri first second f (s ∙ ap (λ t. first ++ encode_utf8_all t) same)) a

-- a lexical form between its quotes, and what follows them
pub quoted : (escapes : ℕ → List ℕ) (before lexical text suffix first second third after : List ℕ) → text ≡ lexical
    → first ≡ before ++ codes "\"" → second ≡ first ++ encode_utf8_all (flat_map escapes text)
    → third ≡ second ++ codes "\"" → after ≡ third ++ encode_utf8_all suffix
    → after ≡ before ++ encode_utf8_all (codes "\"" ++ flat_map escapes lexical ++ codes "\"" ++ suffix)
unfolding lib.Utf8.encode
quoted escapes before lexical text suffix first second third after same f s t a =
    let inner = flat_map escapes lexical in
    two before (codes "\"" ++ inner ++ codes "\"") suffix third after
    (two before (codes "\"" ++ inner) (codes "\"") second third
    (two before (codes "\"") inner first second f (s ∙ ap (λ u. first ++ encode_utf8_all (flat_map escapes u)) same)) t) a
