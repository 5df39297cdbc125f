-- The text of the lines may be cut between them, which gives the lines again.
use Rattle.std.proofs.Common.{◌≡◌, refl, ℕ, List, [], ◌∷◌, length, map, flat_map, sym, ◌∙◌, ap, subst}
use Rattle.std.specs.List.{AllByRecursion}
use Rattle.std.specs.Str.{IsUtf8}
use Rattle.std.proofs.lemmas.List.{take_at, drop_at}
use Rattle.std.proofs.lemmas.Str.{IsUtf8-nil, IsUtf8-append, IsCharBoundary-at_seam}
use Rattle.bye_terms.specs.Terms.{Statement}
use Rattle.bye_ntriples.specs.Canonical.{line_text, line_bytes, IsStatement}
use Rattle.bye_ntriples.specs.Writing.{AreSpelled, parts, MayCut}

pub are_utf8 : (ts : List Statement) → AllByRecursion IsStatement ts → IsUtf8 (flat_map line_bytes ts)
are_utf8 [] h = IsUtf8-nil
are_utf8 (t ∷ ts) h = IsUtf8-append (line_bytes t) (flat_map line_bytes ts) (line_text t, (h.0.scalars, refl)) (are_utf8 ts h.1)

cuts : (ts : List Statement) → AllByRecursion IsStatement ts → MayCut (map (λ t. length (line_bytes t)) ts) (flat_map line_bytes ts)
cuts [] h = tt
cuts (t ∷ ts) h = (
  IsCharBoundary-at_seam (flat_map line_bytes (t ∷ ts)) (line_bytes t) (flat_map line_bytes ts) refl (are_utf8 ts h.1),
  subst (MayCut (map (λ t. length (line_bytes t)) ts)) (sym (drop_at (line_bytes t) (flat_map line_bytes ts) (length (line_bytes t)) refl)) (cuts ts h.1),
)

pub may_cut : (ts : List Statement) (text lengths : List ℕ) → AreSpelled ts text lengths → MayCut lengths text
may_cut ts text lengths s = subst (λ n. MayCut n text) (sym s.long) (subst (MayCut (map (λ t. length (line_bytes t)) ts)) (sym s.text) (cuts ts s.valid))

lines : (ts : List Statement) → parts (map (λ t. length (line_bytes t)) ts) (flat_map line_bytes ts) ≡ map line_bytes ts
lines [] = refl
lines (t ∷ ts) =
    (λ i. take_at (line_bytes t) (flat_map line_bytes ts) (length (line_bytes t)) refl i ∷ parts (map (λ t. length (line_bytes t)) ts) (drop_at (line_bytes t) (flat_map line_bytes ts) (length (line_bytes t)) refl i))
    ∙ ap (λ ls. line_bytes t ∷ ls) (lines ts)

pub are_lines : (ts : List Statement) (text lengths : List ℕ) → AreSpelled ts text lengths → parts lengths text ≡ map line_bytes ts
are_lines ts text lengths s = (λ i. parts (s.long i) (s.text i)) ∙ lines ts

pub moved : {ts : List Statement} {text lengths other numbers : List ℕ} → AreSpelled ts text lengths → other ≡ text → numbers ≡ lengths → AreSpelled ts other numbers
moved s e f = record { valid = s.valid; text = e ∙ s.text; long = f ∙ s.long }
