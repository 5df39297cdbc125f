-- The written document of a table (SPARQL 1.1 Query Results JSON Format, section 3): compact, with each object's members in the byte
-- order of their names.
use Rattle.std.specs.Prelude.{ℕ, cond, List, [], ◌∷◌, map, codes, Option, Some, None}
use Rattle.std.specs.Cmp.Lexicographic.{slice_cmp}
use Rattle.std.specs.Ordering.{nat_cmp, is_lt}
use Rattle.std.specs.Str.{encode_utf8_all}
use Rattle.serde_json.specs.Data.{Data, array, object, string, Members, no_members, member}
use Rattle.serde_json.specs.View.{items_of}
use Rattle.serde_json.specs.Written.{compact_text}
use Rattle.bye_terms.specs.Literals.{is_xsd_string}
use Rattle.bye_terms.specs.declared.term.Term.{Term}
use Rattle.bye_terms.specs.declared.term.Term.TheVariants.{Iri, Blank, Lit}
use Rattle.bye_table.specs.Mappings.{Name, Pairs, row_mapping}
use Rattle.bye_table.specs.Tables.{TableValue}

-- the string of a text
abbrev pub text : List ℕ → Data
text s = string (encode_utf8_all s)

-- the members that all term objects have
abbrev pub type_and_value : List ℕ → List ℕ → Members → Members
type_and_value kind value more = member (codes "type") (string kind) (member (codes "value") (text value) more)

-- a literal: with its tag, or with its datatype but for xsd:string
abbrev pub literal_object : List ℕ → List ℕ → Option (List ℕ) → Data
literal_object lexical datatype (Some tag) = object (type_and_value (codes "literal") lexical (member (codes "xml:lang") (text tag) no_members))
literal_object lexical datatype None =
    cond (is_xsd_string datatype) (object (type_and_value (codes "literal") lexical no_members))
    (object (member (codes "datatype") (text datatype) (type_and_value (codes "literal") lexical no_members)))

-- the object of a term (section 3.2.2)
abbrev pub term_object : Term → Data
term_object (Iri iri) = object (type_and_value (codes "uri") iri no_members)
term_object (Blank label) = object (type_and_value (codes "bnode") label no_members)
term_object (Lit literal) = literal_object literal.lexical literal.datatype literal.tag

-- the variable among those in the byte order of their names
abbrev pub put_var : Name → List Name → List Name
put_var v [] = v ∷ []
put_var v (w ∷ ws) = cond (is_lt (slice_cmp nat_cmp (encode_utf8_all v) (encode_utf8_all w))) (v ∷ w ∷ ws) (w ∷ put_var v ws)

-- all of these put among them
abbrev pub sorted_onto : List Name → List Name → List Name
sorted_onto ws [] = ws
sorted_onto ws (v ∷ vs) = sorted_onto (put_var v ws) vs

-- the variables in that order
abbrev pub by_name : List Name → List Name
by_name vars = sorted_onto [] vars

-- the member of a variable, where it is bound
abbrev pub with_cell : Name → Option Term → Members → Members
with_cell v None more = more
with_cell v (Some t) more = member (encode_utf8_all v) (term_object t) more

-- the members of the bound variables
abbrev pub cells : Pairs → List Name → Members
cells row [] = no_members
cells row (v ∷ vs) = with_cell v (row_mapping row v) (cells row vs)

-- the object of a row, of variables in the order of their names
abbrev pub row_object : List Name → Pairs → Data
row_object sorted row = object (cells row sorted)

-- an object with one member
abbrev pub sole : List ℕ → Data → Data
sole name d = object (member name d no_members)

-- the list of the variables, in the table's order
abbrev pub vars_list : List Name → Data
vars_list vars = array (items_of (map text vars))

-- the list of the rows
abbrev pub rows_list : List Name → List Pairs → Data
rows_list sorted rows = array (items_of (map (row_object sorted) rows))

-- the document as a tree
unfoldable pub tree_of : TableValue → Data
tree_of table =
    object (member (codes "head") (sole (codes "vars") (vars_list table.vars))
    (member (codes "results") (sole (codes "bindings") (rows_list (by_name table.vars) table.rows)) no_members))

-- its text
abbrev pub json_text : TableValue → List ℕ
json_text table = compact_text (tree_of table)
