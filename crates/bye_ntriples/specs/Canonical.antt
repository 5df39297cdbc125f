-- The canonical document of triples: the distinct ones, each on a line of its own, in the byte order of these lines (RDF 1.1
-- N-Triples, section 4, "Canonical Form", with the short form of xsd:string).
use Rattle.std.specs.Prelude.{◌≡◌, ℕ, true, List, [], ◌∷◌, ◌++◌, codes}
use Rattle.std.specs.List.{flat_map, AllByRecursion}
use Rattle.std.specs.Ordering.{nat_cmp}
use Rattle.std.specs.Cmp.Lexicographic.{slice_cmp}
use Rattle.std.specs.Str.{encode_utf8_all, all_scalars}
use Rattle.std.specs.declared.cmp.Ordering.TheVariants.{Less}
use Rattle.bye_terms.specs.Members.{In}
use Rattle.bye_terms.specs.Spellings.{term_text}
use Rattle.bye_terms.specs.Terms.{Statement, IsTriple}
use Rattle.bye_terms.specs.Valid.{IsTerm}
use Rattle.bye_ntriples.specs.Documents.{NtDoc}

-- the line of a triple: the three, a space after each, a dot and LF
abbrev pub line_text : Statement → List ℕ
line_text triple = term_text triple.s ++ codes " " ++ term_text triple.p ++ codes " " ++ term_text triple.o ++ codes " .\n"

-- the line as it stands in a document, in UTF-8
abbrev pub line_bytes : Statement → List ℕ
line_bytes triple = encode_utf8_all (line_text triple)

-- the line of this triple comes before those of the others, byte by byte
abbrev pub ComesBefore : Statement → Statement → Type 0
ComesBefore one other = slice_cmp nat_cmp (line_bytes one) (line_bytes other) ≡ Less

-- each line comes before all later ones, so that no line stands twice
abbrev pub Rises : List Statement → Type 0
Rises [] = Unit {0}
Rises (t ∷ ts) = AllByRecursion (ComesBefore t) ts × Rises ts

-- the two lists have the same triples, however often and in whatever order
abbrev pub SameTriples : List Statement → List Statement → Type 0
SameTriples triples others = ((t : Statement) → In triples t → In others t) × ((t : Statement) → In others t → In triples t)

-- the bytes are the canonical document of the triples, which has these triples in this order
pub record IsCanonical (triples : List Statement) (bytes : List ℕ) : Type 0 where
  pub distinct : List Statement
  pub same : SameTriples triples distinct
  pub rises : Rises distinct
  pub written : bytes ≡ flat_map line_bytes distinct

-- a triple of terms (RDF 1.1 Concepts, section 3), whose texts have characters of Unicode alone
pub record IsStatement (triple : Statement) : Type 0 where
  pub subject : IsTerm triple.s
  pub predicate : IsTerm triple.p
  pub object : IsTerm triple.o
  pub parts : IsTriple triple
  pub scalars : all_scalars (line_text triple) ≡ true

-- triples have one canonical document
abbrev pub OneCanonical : Type 0
OneCanonical = (triples : List Statement) (bytes others : List ℕ) → IsCanonical triples bytes → IsCanonical triples others → bytes ≡ others

-- the canonical document of the triples is a document, which has the distinct ones in the order of their lines
abbrev pub IsReadBack : List Statement → List ℕ → Type 0
IsReadBack triples bytes = (c : IsCanonical triples bytes) → NtDoc bytes c.distinct

-- it is so for triples of terms
abbrev pub CanonicalReadsBack : Type 0
CanonicalReadsBack = (triples : List Statement) (bytes : List ℕ) → AllByRecursion IsStatement triples → IsReadBack triples bytes

-- a document's triples are triples of terms
abbrev pub DocumentsHaveStatements : Type 0
DocumentsHaveStatements = (bytes : List ℕ) (triples : List Statement) → NtDoc bytes triples → AllByRecursion IsStatement triples
