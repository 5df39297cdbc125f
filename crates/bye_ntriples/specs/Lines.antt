-- Lines of a graph document (RDF 1.1 N-Triples, sections 2 and 7). A line is blank or has one triple, and may end in a comment.
-- Each word is a rule of the grammar, read from the left: what stands first, and then what the rest of the text is.
use Rattle.std.specs.Prelude.{◌≡◌, ℕ, Bool, true, false, ◌||◌, ◌==◌, List, [], ◌∷◌, ◌++◌, Option, Some, None, ◌⊎◌}
use Rattle.std.specs.List.{AllByRecursion}
use Rattle.bye_terms.specs.Literals.{is_lang_string}
use Rattle.bye_terms.specs.Terms.{Statement}
use Rattle.bye_terms.specs.declared.term.Term.{Term}
use Rattle.bye_terms.specs.declared.term.Term.TheVariants.{Iri, Blank}
use Rattle.bye_lex.specs.Iris.{IriToken}
use Rattle.bye_lex.specs.Marks.{LabelToken, TagToken}
use Rattle.bye_lex.specs.Strings.{StringToken}
use Rattle.bye_lex.specs.declared.style.Style.TheVariants.{Triples}
use Rattle.bye_ntriples.specs.Triples.{triple_of, string_of, tagged_of, typed_of}

-- the characters between the parts of a triple: the space and the TAB
abbrev pub is_space : ℕ → Bool
is_space c = c == 32 || c == 9

-- the characters between lines: LF and CR
abbrev pub is_line_end : ℕ → Bool
is_line_end c = c == 10 || c == 13

-- spaces and TABs, and then a text of the rule
abbrev pub Spaced : {V : Type 0} → (List ℕ → V → Type 0) → List ℕ → V → Type 0
Spaced L [] v = L [] v
Spaced L (c ∷ cs) v = ((is_space c ≡ true) × Spaced L cs v) ⊎ L (c ∷ cs) v

-- a token, and then a text of the rule that goes with what the token stands for
pub record Then {V W : Type 0} (L : List ℕ → V → Type 0) (Rest : V → List ℕ → W → Type 0) (text : List ℕ) (w : W) : Type 0 where
  pub own : List ℕ
  pub value : V
  pub rest : List ℕ
  pub token : L own value
  pub after : Rest value rest w
  pub spelled : text ≡ own ++ rest

-- what a comment has after its mark: anything but a line's end
abbrev pub IsComment : List ℕ → Type 0
IsComment text = AllByRecursion (λ c. is_line_end c ≡ false) text

-- spaces, and then nothing or a comment
abbrev pub LineEnd : List ℕ → Type 0
LineEnd [] = Unit {0}
LineEnd (c ∷ cs) = ((is_space c ≡ true) × LineEnd cs) ⊎ ((c ≡ 35) × IsComment cs)

-- the dot that ends this triple, and what may stand after it
pub record Dot (End : List ℕ → Type 0) (stated : Statement) (text : List ℕ) (triple : Statement) : Type 0 where
  pub rest : List ℕ
  pub end : End rest
  pub spelled : text ≡ 46 ∷ rest
  pub is : triple ≡ stated

abbrev pub Dotted : (List ℕ → Type 0) → Statement → List ℕ → Statement → Type 0
Dotted End stated = Spaced (Dot End stated)

-- the IRI of a datatype, which is rdf:langString nowhere: such a literal has a tag
abbrev pub DatatypeToken : List ℕ → List ℕ → Type 0
DatatypeToken text value = IriToken Triples text value × (is_lang_string value ≡ false)

abbrev pub Datatype : (List ℕ → Type 0) → Term → List ℕ → List ℕ → List ℕ → Statement → Type 0
Datatype End s p lexical = Spaced (Then DatatypeToken (λ datatype. Dotted End (triple_of s p (typed_of lexical datatype))))

-- the mark of a datatype, `^^`, and then the datatype
pub record Carets (End : List ℕ → Type 0) (s : Term) (p lexical text : List ℕ) (triple : Statement) : Type 0 where
  pub rest : List ℕ
  pub after : Datatype End s p lexical rest triple
  pub spelled : text ≡ 94 ∷ 94 ∷ rest

abbrev pub Tagged : (List ℕ → Type 0) → Term → List ℕ → List ℕ → List ℕ → Statement → Type 0
Tagged End s p lexical = Then TagToken (λ tag. Dotted End (triple_of s p (tagged_of lexical tag)))

-- what stands after a string: the dot, a language tag, or a datatype
abbrev pub AfterSpaces : (List ℕ → Type 0) → Term → List ℕ → List ℕ → List ℕ → Statement → Type 0
AfterSpaces End s p lexical text triple = Dot End (triple_of s p (string_of lexical)) text triple ⊎ (Tagged End s p lexical text triple ⊎ Carets End s p lexical text triple)

abbrev pub Suffix : (List ℕ → Type 0) → Term → List ℕ → List ℕ → List ℕ → Statement → Type 0
Suffix End s p lexical = Spaced (AfterSpaces End s p lexical)

-- an object: an IRI, a label or a string
abbrev pub Object : (List ℕ → Type 0) → Term → List ℕ → List ℕ → Statement → Type 0
Object End s p text triple =
    Then (IriToken Triples) (λ o. Dotted End (triple_of s p (Iri o))) text triple
    ⊎ (Then LabelToken (λ o. Dotted End (triple_of s p (Blank o))) text triple
    ⊎ Then (StringToken Triples) (λ lexical. Suffix End s p lexical) text triple)

-- a predicate: an IRI
abbrev pub Predicate : (List ℕ → Type 0) → Term → List ℕ → Statement → Type 0
Predicate End s = Then (IriToken Triples) (λ p. Spaced (Object End s p))

-- a subject: an IRI or a label
abbrev pub Subject : (List ℕ → Type 0) → List ℕ → Statement → Type 0
Subject End text triple = Then (IriToken Triples) (λ s. Spaced (Predicate End (Iri s))) text triple ⊎ Then LabelToken (λ s. Spaced (Predicate End (Blank s))) text triple

-- a triple with its dot, and what may stand after it
abbrev pub Triple : (List ℕ → Type 0) → List ℕ → Statement → Type 0
Triple End = Spaced (Subject End)

pub record Stated (text : List ℕ) (fact : Option Statement) : Type 0 where
  pub triple : Statement
  pub stated : Triple LineEnd text triple
  pub is : fact ≡ Some triple

-- a line, and the triple that it has
abbrev pub Line : List ℕ → Option Statement → Type 0
Line text fact = (LineEnd text × (fact ≡ None)) ⊎ Stated text fact
