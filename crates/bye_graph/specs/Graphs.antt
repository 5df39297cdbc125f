-- RDF graphs (RDF 1.1 Concepts, section 3): the set of their triples, by numbers of terms.
use Rattle.std.specs.Prelude.{◌≡◌, ℕ, ◌+◌, ◌*◌, ◌^◌, ◌<◌, ◌≤◌, ◌↔◌, ◌⊎◌, List, [], Option, map, length, slice_index_or}
use Rattle.bye_terms.specs.Members.{In, EachOnce}
use Rattle.bye_terms.specs.Terms.{Statement}
use Rattle.bye_terms.specs.declared.term.Term.{Term}
use Rattle.bye_terms.specs.declared.term.Term.TheVariants.{Iri}
use Rattle.bye_graph.specs.Keys.{Key, Agrees}

-- a graph: its terms, each at the place of its number, and its triples by numbers
pub record GraphValue : Type 0 where
  pub terms : List Term
  pub keys : List Key

-- the term of a number that is used
abbrev pub term_of : List Term → ℕ → Term
term_of terms number = slice_index_or terms number (Iri [])

-- the triple that a key stands for
abbrev pub statement_of : List Term → Key → Statement
statement_of terms key = record { s = term_of terms key.0; p = term_of terms key.1; o = term_of terms key.2 }

-- the triples of a graph
abbrev pub statements : GraphValue → List Statement
statements g = map (statement_of g.terms) g.keys

-- the term is the subject, the predicate or the object
abbrev pub IsPartOf : Statement → Term → Type 0
IsPartOf f term = (f.s ≡ term) ⊎ (f.p ≡ term) ⊎ (f.o ≡ term)

-- the term stands in some triple
abbrev pub StandsIn : List Statement → Term → Type 0
StandsIn fs term = (f : Statement) × In fs f × IsPartOf f term

-- each number of the key is the number of a term
abbrev pub IsUsed : List Term → Key → Type 0
IsUsed terms key = (key.0 < length terms) × (key.1 < length terms) × (key.2 < length terms)

-- each term has one number, each triple stands once, each number of a triple is that of a term, and each term stands in some triple
pub record IsNumbered (g : GraphValue) : Type 0 where
  pub terms : EachOnce g.terms
  pub keys : EachOnce g.keys
  pub used : (key : Key) → In g.keys key → IsUsed g.terms key
  pub stand : (term : Term) → In g.terms term → StandsIn (statements g) term

-- the triples that agree with the given numbers, each once
pub record AreMatches (keys : List Key) (s p o : Option ℕ) (found : List Key) : Type 0 where
  pub once : EachOnce found
  pub exactly : (key : Key) → In found key ↔ (In keys key × Agrees s p o key)

-- so many triples agree with the given numbers
abbrev pub IsCount : List Key → Option ℕ → Option ℕ → Option ℕ → ℕ → Type 0
IsCount keys s p o n = (found : List Key) × AreMatches keys s p o found × (length found ≡ n)

-- how many triples a graph is built of at most
abbrev pub most_triples : ℕ
most_triples = 1048576

-- d is the depth of a search among n triples: the greatest number with 2 ^ d ≤ 2 n + 1
pub record IsDepth (n d : ℕ) : Type 0 where
  pub within : 2 ^ d ≤ 2 * n + 1
  pub greatest : (e : ℕ) → 2 ^ e ≤ 2 * n + 1 → e ≤ d
