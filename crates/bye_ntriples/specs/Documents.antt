-- Graph documents (RDF 1.1 N-Triples, section 2): lines, and the triples that they have.
use Rattle.std.specs.Prelude.{◌≡◌, ℕ, true, List, ◌∷◌, ◌++◌, Option, option_to_list}
use Rattle.std.specs.List.{flat_map, AllByRecursion}
use Rattle.std.specs.Str.{encode_utf8_all, all_scalars}
use Rattle.bye_terms.specs.Terms.{Statement}
use Rattle.bye_ntriples.specs.Lines.{is_line_end, Line}

-- a line after the first, with what separates it from the one before, and the triple that it has
pub record LaterLine : Type 0 where
  pub separator : ℕ
  pub text : List ℕ
  pub fact : Option Statement

pub record IsLaterLine (line : LaterLine) : Type 0 where
  pub ends : is_line_end line.separator ≡ true
  pub is : Line line.text line.fact

-- lines after the first, and the triples that they have, in order
pub record LaterLines (text : List ℕ) (triples : List Statement) : Type 0 where
  pub lines : List LaterLine
  pub each : AllByRecursion IsLaterLine lines
  pub spelled : text ≡ flat_map (λ line. line.separator ∷ line.text) lines
  pub stated : triples ≡ flat_map (λ line. option_to_list line.fact) lines

-- a text of the rule, which has at most one triple, and later lines
pub record Lines (First : List ℕ → Option Statement → Type 0) (text : List ℕ) (triples : List Statement) : Type 0 where
  pub own : List ℕ
  pub fact : Option Statement
  pub rest : List ℕ
  pub more : List Statement
  pub first : First own fact
  pub later : LaterLines rest more
  pub spelled : text ≡ own ++ rest
  pub stated : triples ≡ option_to_list fact ++ more

-- the lines of the text have these triples, in order, repeats kept
abbrev pub NtText : List ℕ → List Statement → Type 0
NtText text triples = Lines Line text triples

-- the bytes are the UTF-8 of such a text
pub record NtDoc (bytes : List ℕ) (triples : List Statement) : Type 0 where
  pub text : List ℕ
  pub scalars : all_scalars text ≡ true
  pub encoded : bytes ≡ encode_utf8_all text
  pub lines : NtText text triples
