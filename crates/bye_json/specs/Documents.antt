-- Documents of results (SPARQL 1.1 Query Results JSON Format, section 3), as the trees that they are read as.
use Rattle.std.specs.Prelude.{◌≡◌, ℕ, Bool, cond, List, [], ◌∷◌, codes, Option, Some, None, option_map, is_some}
use Rattle.std.specs.List.{list_all}
use Rattle.std.specs.Str.{encode_utf8_all}
use Rattle.serde_json.specs.Data.{Data, Members}
use Rattle.serde_json.specs.Find.{as_object, get}
use Rattle.bye_terms.specs.Members.{EachOnce}
use Rattle.bye_terms.specs.Names.{is_name}
use Rattle.bye_terms.specs.Reading.{◌>>=◌}
use Rattle.bye_table.specs.Mappings.{Name, Pairs, is_in}
use Rattle.bye_table.specs.Tables.{TableValue}
use Rattle.bye_json.specs.Trees.{IsJson, as_list, as_text, collect, gather, names_of}
use Rattle.bye_json.specs.TermObjects.{term_at}

-- the two lists of a document
pub record Lists : Type 0 where
  pub vars : List Data
  pub bindings : List Data

-- whether the value is an object
abbrev pub is_object : Data → Bool
is_object d = is_some (as_object d)

-- the values, where each is an object
abbrev pub as_objects : List Data → Option (List Data)
as_objects ds = cond (list_all is_object ds) (Some ds) None

-- the list of variables: `vars` in `head` (section 3.1)
abbrev pub vars_of : Data → Option (List Data)
vars_of d = get (codes "head") d >>= get (codes "vars") >>= as_list

-- the list of bindings: `bindings` in `results` (section 3.2)
abbrev pub bindings_of : Data → Option (List Data)
bindings_of d = get (codes "results") d >>= get (codes "bindings") >>= as_list >>= as_objects

-- nothing where there is such a member
abbrev pub unless : {A : Type 0} → Option Data → Option A → Option A
unless None other = other
unless (Some d) other = None

-- the lists of a document; one with a member `boolean` (section 3.3) has none
unfoldable pub lists_of : Data → Option Lists
lists_of d = unless (get (codes "boolean") d) (vars_of d >>= (λ vars. option_map (λ bindings. record { vars = vars; bindings = bindings }) (bindings_of d)))

-- the name of a variable, where the value is a string that is one
abbrev pub as_name : List ℕ → Option Name
as_name text = cond (is_name text) (Some text) None

abbrev pub name_of : Data → Option Name
name_of d = as_text d >>= as_name

-- the values are these names, none twice
abbrev pub AreNames : List Data → List Name → Type 0
AreNames ds vars = (collect name_of ds ≡ Some vars) × EachOnce vars

-- the names of an object's members
abbrev pub member_names : Option Members → List (List ℕ)
member_names None = []
member_names (Some ms) = names_of ms

-- whether each name in the binding is one of the variables
abbrev pub is_listed : List Name → Data → Bool
is_listed vars binding = list_all (is_in vars) (member_names (as_object binding))

-- the variable with its term, where it is bound; nothing where what stands there is no term object
abbrev pub cell : Name → Option Data → Option Pairs
cell v None = Some []
cell v (Some d) = option_map (λ t. (v, t) ∷ []) (term_at d)

-- what the binding has for the variable
abbrev pub cell_of : Data → Name → Option Pairs
cell_of binding v = cell v (get (encode_utf8_all v) binding)

-- the bound variables with their terms, in the order of the variables
abbrev pub pairs_of : List Name → Data → Option Pairs
pairs_of vars binding = gather (cell_of binding) vars

-- the row of a binding: each name in it is a variable, and what each stands for is a term
abbrev pub row_of : List Name → Data → Option Pairs
row_of vars binding = cond (is_listed vars binding) (pairs_of vars binding) None

-- the tree has the shape of these results
pub record Shape (d : Data) (table : TableValue) : Type 0 where
  pub lists : Lists
  pub has : lists_of d ≡ Some lists
  pub names : AreNames lists.vars table.vars
  pub rows : collect (row_of table.vars) lists.bindings ≡ Some table.rows

-- the bytes are a document of these results
pub record JsonDoc (bytes : List ℕ) (table : TableValue) : Type 0 where
  pub tree : Data
  pub json : IsJson bytes tree
  pub shape : Shape tree table
