-- Two valid patterns with one line are one pattern, so of two different ones exactly one is tried before the other.
use Rattle.std.proofs.Common.{◌≡◌, refl, ℕ, Bool, true, false, ◌==◌, List, [], ◌∷◌, ◌++◌, Option, Some, None, codes, inl, inr, ◌⊎◌, ⊎_elim, sym, ◌∙◌, ap, subst, arith, append_assoc, Ordering, Less, Equal, Greater}
use Rattle.std.specs.List.{AllByRecursion, list_all}
use Rattle.std.specs.Ordering.{is_eq, is_lt, nat_cmp, ordering_reverse, ordering_then}
use Rattle.std.specs.Cmp.Lexicographic.{slice_cmp}
use Rattle.std.proofs.lemmas.List.{append_cancel_right}
use Rattle.std.proofs.lemmas.Map.Text.{is_eq-slice_cmp}
use Rattle.std.proofs.lemmas.Slice.Eq.{bytes_eq-Decides}
use Rattle.std.proofs.lemmas.Str.{encodes_same}
use Rattle.bye_terms.specs.Characters.{is_iri_char, is_letter, is_name_part, is_name_start, is_scheme_char}
use Rattle.bye_terms.specs.Names.{is_after_letter, is_iri, is_name}
use Rattle.bye_terms.specs.Spellings.{escaped, suffix_text, term_text}
use Rattle.bye_terms.specs.Valid.{IsTerm}
use Rattle.bye_terms.specs.declared.term.Term.{Term}
use Rattle.bye_terms.specs.declared.term.Term.TheVariants.{Iri, Blank, Lit}
use Rattle.bye_terms.proofs.Tests.{both_parts, not_both, one_part}
use Rattle.bye_lex.specs.Marks.{LabelToken, TagToken}
use Rattle.bye_lex.specs.Strings.{StringToken}
use Rattle.bye_lex.specs.ReadingBack.{EndsLiteral, EndsThere, NotLonger, TermText, quoted}
use Rattle.bye_lex.specs.Written.{written}
use Rattle.bye_lex.specs.declared.style.Style.TheVariants as styles
use Rattle.bye_lex.proofs.Branches.{heads}
use Rattle.bye_lex.proofs.OneTerm.{one_term}
use Rattle.bye_lex.proofs.ReadingBack.{reads_back}
use Rattle.bye_pattern.specs.declared.slot.Slot.{Slot}
use Rattle.bye_pattern.specs.declared.slot.Slot.TheVariants.{Var, Const}
use Rattle.bye_pattern.specs.Patterns.{Pattern, is_place}
use Rattle.bye_pattern.specs.Printed.{pattern_text, root_line, slot_text}
use Rattle.bye_pattern.specs.TrialOrder.{line_bytes, trial_cmp}
use Rattle.bye_pattern.proofs.Orders.{trial_total}
use Rattle.bye_laws.specs.Ordering.{IsTriedFirst, IsValidPattern, IsValidSlot, OnePattern}

-- no space in the text
abbrev HasNoSpace : List ℕ → Type 0
HasNoSpace text = AllByRecursion (λ c. c ≡ 32 → ⊥) text

-- a character of a class without the space is none
not_space : (f : ℕ → Bool) (c : ℕ) → f c ≡ true → f 32 ≡ false → c ≡ 32 → ⊥
not_space f c h e same = not_both (f 32) (sym (ap f same) ∙ h) e

-- texts of such characters have no space
all_free : (f : ℕ → Bool) (text : List ℕ) → f 32 ≡ false → list_all f text ≡ true → HasNoSpace text
all_free f [] e h = tt
all_free f (c ∷ text) e h = let w = both_parts _ _ h in (not_space f c w.0 e, all_free f text e w.1)

-- so names have none
name_free : (name : List ℕ) → is_name name ≡ true → HasNoSpace name
name_free [] h = tt
name_free (c ∷ cs) h = let w = both_parts _ _ h in (not_space is_name_start c w.0 refl, all_free is_name_part cs refl w.1)

-- nor what follows the first letter of an IRI
after_free : (text : List ℕ) → is_after_letter text ≡ true → HasNoSpace text
after_free [] h = tt
after_free (c ∷ cs) h =
    ⊎_elim
    (λ k. let w = both_parts _ _ k in (not_space (λ c. c == 58) c w.0 refl, all_free is_iri_char cs refl w.1))
    (λ k. let w = both_parts _ _ k in (not_space is_scheme_char c w.0 refl, after_free cs w.1))
    (one_part _ _ h)

-- nor an IRI
iri_free : (text : List ℕ) → is_iri text ≡ true → HasNoSpace text
iri_free [] h = tt
iri_free (c ∷ cs) h = let w = both_parts _ _ h in (not_space is_letter c w.0 refl, after_free cs w.1)

-- nor two such texts together
free_both : (s t : List ℕ) → HasNoSpace s → HasNoSpace t → HasNoSpace (s ++ t)
free_both [] t a b = b
free_both (c ∷ s) t a b = (a.0, free_both s t a.1 b)

-- nor what is written of a variable or an IRI
place_free : (s : Slot) → is_place s ≡ true → IsValidSlot s → HasNoSpace (slot_text s)
place_free (Var v) e h = ((λ k. omega (arith, k)), name_free v h)
place_free (Const (Iri t)) e h = ((λ k. omega (arith, k)), free_both t (62 ∷ []) (iri_free t h) ((λ k. omega (arith, k)), tt))
place_free (Const (Blank t)) e h = cc
place_free (Const (Lit t)) e h = cc

-- a text is split at its first space in one way
split_space : (a b x y : List ℕ) → HasNoSpace a → HasNoSpace b → a ++ 32 ∷ x ≡ b ++ 32 ∷ y → (a ≡ b) × (x ≡ y)
split_space [] [] x y fa fb e = (refl, (heads 32 32 x y e).1)
split_space [] (c ∷ b) x y fa fb e = absurd (fb.0 (sym (heads 32 c x (b ++ 32 ∷ y) e).0))
split_space (c ∷ a) [] x y fa fb e = absurd (fa.0 (heads c 32 (a ++ 32 ∷ x) y e).0)
split_space (c ∷ a) (d ∷ b) x y fa fb e =
    let w = heads c d (a ++ 32 ∷ x) (b ++ 32 ∷ y) e in
    let k = split_space a b x y fa.1 fb.1 w.1 in
    ((λ i. w.0 i ∷ k.0 i), k.1)

-- a text that nothing follows is not longer
not_longer : {V : Type 0} (L : List ℕ → V → Type 0) (text : List ℕ) → NotLonger L text []
not_longer L text [] after other e long = λ is. absurd (omega arith)
not_longer L text (c ∷ more) after other e long = λ is. cc

-- so a literal ends there
ends_literal : (lexical : List ℕ) (tag : Option (List ℕ)) (datatype : List ℕ) → EndsLiteral styles.Triples lexical tag datatype []
ends_literal lexical (Some tag) datatype = not_longer TagToken (codes "@" ++ tag)
ends_literal lexical None datatype = λ e. not_longer (StringToken styles.Triples) (quoted styles.Triples lexical)

-- and each term does
ends : (t : Term) → EndsThere styles.Triples t []
ends (Iri t) = tt
ends (Blank t) = not_longer LabelToken (codes "_:" ++ t)
ends (Lit t) = ends_literal t.lexical t.tag t.datatype

-- the text of a term is what is written of it
text_written : (t : Term) → written styles.Triples t ≡ term_text t
text_written (Iri t) = refl
text_written (Blank t) = refl
text_written (Lit t) = refl

-- terms with one text are one
term_one : (s t : Term) → IsTerm s → IsTerm t → term_text s ≡ term_text t → s ≡ t
term_one s t a b e =
    let same : written styles.Triples s ≡ written styles.Triples t = text_written s ∙ e ∙ sym (text_written t) in
    let x : TermText styles.Triples (written styles.Triples t) [] s = subst (λ text. TermText styles.Triples text [] s) same (reads_back styles.Triples s [] a (ends s)) in
    one_term styles.Triples (written styles.Triples t) [] s t x (reads_back styles.Triples t [] b (ends t))

-- no term begins as a variable
term_first : (v : List ℕ) (t : Term) → 63 ∷ v ≡ term_text t → ⊥
term_first v (Iri t) e = let k = (heads 63 60 v (t ++ codes ">") e).0 in omega (arith, k)
term_first v (Blank t) e = let k = (heads 63 95 v (58 ∷ t) e).0 in omega (arith, k)
term_first v (Lit t) e = let k = (heads 63 34 v (escaped t.lexical ++ codes "\"" ++ suffix_text t.tag t.datatype) e).0 in omega (arith, k)

-- places with one text are one
slot_one : (s t : Slot) → IsValidSlot s → IsValidSlot t → slot_text s ≡ slot_text t → s ≡ t
slot_one (Var v) (Var w) a b e = ap Var (heads 63 63 v w e).1
slot_one (Var v) (Const c) a b e = absurd (term_first v c e)
slot_one (Const c) (Var v) a b e = absurd (term_first v c (sym e))
slot_one (Const c) (Const d) a b e = ap Const (term_one c d a b e)

-- three texts with spaces between
regroup : (s p o : List ℕ) → s ++ codes " " ++ p ++ codes " " ++ o ≡ s ++ 32 ∷ (p ++ 32 ∷ o)
regroup s p o = simp append_assoc

-- one line has one pattern's text
lines_same : (p q : Pattern) → root_line p ≡ root_line q → pattern_text p ≡ pattern_text q
unfolding root_line
lines_same p q e =
    let one = heads 32 32 (32 ∷ (pattern_text p ++ codes "\n")) (32 ∷ (pattern_text q ++ codes "\n")) e in
    let two = heads 32 32 (pattern_text p ++ codes "\n") (pattern_text q ++ codes "\n") one.1 in
    append_cancel_right (pattern_text p) (pattern_text q) (codes "\n") two.1

-- patterns with one line are one
line_one : (p q : Pattern) → IsValidPattern p → IsValidPattern q → line_bytes p ≡ line_bytes q → p ≡ q
line_one p q a b e =
    let text = lines_same p q (encodes_same (root_line p) (root_line q) e) in
    let cut = append_cancel_right (slot_text p.s ++ codes " " ++ slot_text p.p ++ codes " " ++ slot_text p.o) (slot_text q.s ++ codes " " ++ slot_text q.p ++ codes " " ++ slot_text q.o) (codes " .") text in
    let flat = sym (regroup (slot_text p.s) (slot_text p.p) (slot_text p.o)) ∙ cut ∙ regroup (slot_text q.s) (slot_text q.p) (slot_text q.o) in
    let first = split_space (slot_text p.s) (slot_text q.s) (slot_text p.p ++ 32 ∷ slot_text p.o) (slot_text q.p ++ 32 ∷ slot_text q.o)
    (place_free p.s a.subject_place a.subject) (place_free q.s b.subject_place b.subject) flat in
    let second = split_space (slot_text p.p) (slot_text q.p) (slot_text p.o) (slot_text q.o) (place_free p.p a.predicate_place a.predicate) (place_free q.p b.predicate_place b.predicate) first.1 in
    let s = slot_one p.s q.s a.subject b.subject first.0 in
    let r = slot_one p.p q.p a.predicate b.predicate second.0 in
    let o = slot_one p.o q.o a.object b.object second.1 in
    λ i. record { s = s i; p = r i; o = o i }

-- where two orders one after the other say equal, the second does
then_equal : (a b : Ordering) → ordering_then a b ≡ Equal → b ≡ Equal
then_equal Less b e = cc
then_equal Equal b e = e
then_equal Greater b e = cc

-- bytes that are equal by their order are the same
bytes_equal : (xs ys : List ℕ) → slice_cmp nat_cmp xs ys ≡ Equal → xs ≡ ys
bytes_equal xs ys e = (bytes_eq-Decides xs ys).0 (sym (is_eq-slice_cmp xs ys) ∙ ap is_eq e)

-- patterns that are equal by the order of trial are one
trial_equal : (p q : Pattern) → IsValidPattern p → IsValidPattern q → trial_cmp p q ≡ Equal → p ≡ q
trial_equal p q a b e = line_one p q a b (bytes_equal (line_bytes p) (line_bytes q) (then_equal _ _ e))

-- an order and its reverse
three_ways : {P : Type 0} (o r : Ordering) → r ≡ ordering_reverse o → (o ≡ Equal → P) → P ⊎ (((is_lt o ≡ true) × (is_lt r ≡ false)) ⊎ ((is_lt r ≡ true) × (is_lt o ≡ false)))
three_ways Less r e f = inr (inl (refl, ap is_lt e))
three_ways Equal r e f = inl (f refl)
three_ways Greater r e f = inr (inr (ap is_lt e, refl))

-- two patterns are one, or exactly one is tried before the other
pub tried_first : (p q : Pattern) → IsValidPattern p → IsValidPattern q → (p ≡ q) ⊎ (IsTriedFirst p q ⊎ IsTriedFirst q p)
tried_first p q a b = three_ways (trial_cmp p q) (trial_cmp q p) (trial_total.antisymm q p) (trial_equal p q a b)

-- what is told of two patterns
pub pattern_one : OnePattern
pattern_one = record {
  line = line_one;
  first = λ p q a b differ. ⊎_elim (λ e. absurd (differ e)) (λ k. k) (tried_first p q a b);
}
