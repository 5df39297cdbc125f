-- The triples of a document have subjects and predicates.
use Rattle.std.proofs.Common.{◌≡◌, refl, ℕ, true, List, [], ◌∷◌, ◌++◌, Option, ⊎_elim, sym, subst, option_to_list}
use Rattle.std.specs.List.{AllByRecursion, flat_map}
use Rattle.bye_terms.specs.Terms.{Statement, IsTriple, is_subject}
use Rattle.bye_terms.specs.declared.term.Term.{Term}
use Rattle.bye_terms.specs.declared.term.Term.TheVariants.{Iri, Blank}
use Rattle.bye_ntriples.specs.Documents.{LaterLine, IsLaterLine, NtText}
use Rattle.bye_ntriples.specs.Lines.{Spaced, DatatypeToken, Then, Dot, Dotted, Datatype, AfterSpaces, Suffix, Object, Predicate, Subject, LineEnd, Line}
use Rattle.bye_ntriples.specs.Triples.{triple_of, typed_of}

-- what a rule says of a triple, it says after spaces too
after_spaces : {V : Type 0} (L : List ℕ → V → Type 0) (P : V → Type 0) (known : (text : List ℕ) (v : V) → L text v → P v) (text : List ℕ) (v : V) → Spaced L text v → P v
after_spaces L P known [] v h = known [] v h
after_spaces L P known (c ∷ cs) v h = ⊎_elim (λ k. after_spaces L P known cs v k.1) (λ k. known (c ∷ cs) v k) h

dot_triple : (End : List ℕ → Type 0) (s : Term) (p : List ℕ) (o : Term) → is_subject s ≡ true → (text : List ℕ) (t : Statement) → Dotted End (triple_of s p o) text t → IsTriple t
dot_triple End s p o subject = after_spaces (Dot End (triple_of s p o)) IsTriple (λ text t h. subst IsTriple (sym h.is) (subject, refl))

datatype_triple : (End : List ℕ → Type 0) (s : Term) (p lexical : List ℕ) → is_subject s ≡ true → (text : List ℕ) (t : Statement) → Datatype End s p lexical text t → IsTriple t
datatype_triple End s p lexical subject =
    after_spaces (Then DatatypeToken (λ datatype. Dotted End (triple_of s p (typed_of lexical datatype)))) IsTriple
    (λ text t h. dot_triple End s p (typed_of lexical h.value) subject h.rest t h.after)

suffix_triple : (End : List ℕ → Type 0) (s : Term) (p lexical : List ℕ) → is_subject s ≡ true → (text : List ℕ) (t : Statement) → Suffix End s p lexical text t → IsTriple t
suffix_triple End s p lexical subject =
    after_spaces (AfterSpaces End s p lexical) IsTriple
    (λ text t h.
    ⊎_elim
    (λ dot. subst IsTriple (sym dot.is) (subject, refl))
    (λ k. ⊎_elim (λ tag. dot_triple End s p _ subject tag.rest t tag.after) (λ carets. datatype_triple End s p lexical subject carets.rest t carets.after) k)
    h)

object_triple : (End : List ℕ → Type 0) (s : Term) (p : List ℕ) → is_subject s ≡ true → (text : List ℕ) (t : Statement) → Object End s p text t → IsTriple t
object_triple End s p subject text t h =
    ⊎_elim
    (λ iri. dot_triple End s p _ subject iri.rest t iri.after)
    (λ k. ⊎_elim (λ label. dot_triple End s p _ subject label.rest t label.after) (λ string. suffix_triple End s p _ subject string.rest t string.after) k)
    h

predicate_triple : (End : List ℕ → Type 0) (s : Term) → is_subject s ≡ true → (text : List ℕ) (t : Statement) → Predicate End s text t → IsTriple t
predicate_triple End s subject text t h = after_spaces (Object End s h.value) IsTriple (object_triple End s h.value subject) h.rest t h.after

subject_triple : (End : List ℕ → Type 0) (text : List ℕ) (t : Statement) → Subject End text t → IsTriple t
subject_triple End text t h =
    ⊎_elim
    (λ iri. after_spaces (Predicate End (Iri iri.value)) IsTriple (predicate_triple End (Iri iri.value) refl) iri.rest t iri.after)
    (λ label. after_spaces (Predicate End (Blank label.value)) IsTriple (predicate_triple End (Blank label.value) refl) label.rest t label.after)
    h

line_triples : (text : List ℕ) (fact : Option Statement) → Line text fact → AllByRecursion IsTriple (option_to_list fact)
line_triples text fact h =
    ⊎_elim
    (λ k. subst (λ (f : Option Statement). AllByRecursion IsTriple (option_to_list f)) (sym k.1) tt)
    (λ k. subst (λ (f : Option Statement). AllByRecursion IsTriple (option_to_list f)) (sym k.is) (after_spaces (Subject LineEnd) IsTriple (subject_triple LineEnd) text k.triple k.stated, tt))
    h

both_triples : (xs ys : List Statement) → AllByRecursion IsTriple xs → AllByRecursion IsTriple ys → AllByRecursion IsTriple (xs ++ ys)
both_triples [] ys h k = k
both_triples (x ∷ xs) ys h k = (h.0, both_triples xs ys h.1 k)

later_triples : (lines : List LaterLine) → AllByRecursion IsLaterLine lines → AllByRecursion IsTriple (flat_map (λ line. option_to_list line.fact) lines)
later_triples [] h = tt
later_triples (l ∷ lines) h = both_triples (option_to_list l.fact) _ (line_triples l.text l.fact h.0.is) (later_triples lines h.1)

pub graph_triples : (text : List ℕ) (triples : List Statement) → NtText text triples → AllByRecursion IsTriple triples
graph_triples text triples h =
    subst (AllByRecursion IsTriple) (sym h.stated)
    (both_triples (option_to_list h.fact) h.more (line_triples h.own h.fact h.first) (subst (AllByRecursion IsTriple) (sym h.later.stated) (later_triples h.later.lines h.later.each)))
