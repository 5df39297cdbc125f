-- What is written of a table is a TSV document of it.
use Rattle.std.proofs.Common.{◌≡◌, refl, ℕ, Bool, true, false, cond, ◌==◌, ◌||◌, List, [], ◌∷◌, ◌++◌, map, Option, Some, None, codes, inl, inr, sym, ◌∙◌, ap, append_assoc, arith}
use Rattle.std.specs.List.{AllByRecursion, flat_map}
use Rattle.std.specs.Str.{all_scalars, bytes_eq, encode_utf8_all}
use Rattle.std.proofs.lemmas.Slice.Eq.{bytes_eq-Decides}
use Rattle.bye_terms.specs.declared.term.Term.{Term}
use Rattle.bye_terms.specs.declared.term.Term.TheVariants.{Iri, Blank, Lit}
use Rattle.bye_terms.specs.Literals.{is_lang_string, lang_string}
use Rattle.bye_terms.specs.Names.{is_name}
use Rattle.bye_terms.specs.Spellings.{escaped, escaped_char, suffix_text, term_text}
use Rattle.bye_terms.specs.Valid.{IsRdfTerm, IsTagged, IsTerm}
use Rattle.bye_terms.proofs.Tests.{both, both_parts}
use Rattle.bye_lex.specs.Marks.{LabelToken, TagToken}
use Rattle.bye_lex.specs.ReadingBack as lex
use Rattle.bye_lex.specs.Strings.{StringToken}
use Rattle.bye_lex.specs.Written.{escaped_in, written}
use Rattle.bye_lex.specs.declared.style.Style.TheVariants.{Tsv}
use Rattle.bye_lex.proofs.Branches.{scalars_join}
use Rattle.bye_lex.proofs.ReadingBack.{reads_back}
use Rattle.bye_table.specs.Cells.{IsRdfCell, cells_of}
use Rattle.bye_table.specs.Mappings.{Mapping, Name, Pairs, is_in, restrict, row_mapping}
use Rattle.bye_table.specs.Sorted.{mappings}
use Rattle.bye_table.specs.Tables.{IsName, IsOverVars, IsRdfRow, IsRdfTable, IsTable, TableValue}
use Rattle.bye_table.proofs.Merging.{restrict_within}
use Rattle.bye_tsv.specs.Documents.{Fields, LaterFields, Rows, TsvDoc, TsvText, bound, header_text, later_names}
use Rattle.bye_tsv.specs.Fields.{Field, Suffix, TermText}
use Rattle.bye_tsv.specs.ReadBack.{in_order, pairs_of}
use Rattle.bye_tsv.specs.Written.{separated, tsv_cell, tsv_line, tsv_name, tsv_row, tsv_text}

-- nothing follows a written term in its field
not_longer : {V : Type 0} (L : List ℕ → V → Type 0) (text : List ℕ) → lex.NotLonger L text []
not_longer L text [] after other e some h = omega (arith, some)
not_longer L text (c ∷ more) after other e some h = cc

ends_literal : (lexical : List ℕ) (tag : Option (List ℕ)) (datatype : List ℕ) → lex.EndsLiteral Tsv lexical tag datatype []
ends_literal lexical (Some tag) datatype = not_longer TagToken (codes "@" ++ tag)
ends_literal lexical None datatype = λ e. not_longer (StringToken Tsv) (lex.quoted Tsv lexical)

ends : (t : Term) → lex.EndsThere Tsv t []
ends (Iri text) = tt
ends (Blank label) = not_longer LabelToken (codes "_:" ++ label)
ends (Lit literal) = ends_literal literal.lexical literal.tag literal.datatype

-- so the field has the term
not_lang : (b : Bool) (datatype : List ℕ) → is_lang_string datatype ≡ b → (datatype ≡ lang_string → ⊥) → is_lang_string datatype ≡ false
not_lang true datatype e other = absurd (other ((bytes_eq-Decides datatype lang_string).0 e))
not_lang false datatype e other = e

suffix_is : (lexical suffix : List ℕ) (tag : Option (List ℕ)) (datatype : List ℕ) → IsTagged tag datatype → lex.SuffixText Tsv suffix [] tag datatype → Suffix lexical suffix (Lit (record { lexical = lexical; datatype = datatype; tag = tag }))
suffix_is lexical suffix (Some tag) datatype valid h = inr (inl (record { tag = tag; token = h.0.is; is = λ i. Lit (record { lexical = lexical; datatype = h.1 i; tag = Some tag }) }))
suffix_is lexical suffix None datatype valid (inl h) = inl (h.0, λ i. Lit (record { lexical = lexical; datatype = h.1 i; tag = None }))
suffix_is lexical suffix None datatype valid (inr h) = inr (inr (record { own = h.iri; datatype = datatype; token = h.is.is; untagged = not_lang (is_lang_string datatype) datatype refl valid.1; spelled = h.parts; is = refl }))

spells : (t : Term) → IsTerm t → lex.TermText Tsv (written Tsv t) [] t → TermText (written Tsv t) t
spells (Iri text) valid h = inl (record { value = text; token = h.is; is = refl })
spells (Blank label) valid h = inr (inl (record { value = label; token = h.is; is = refl }))
spells (Lit literal) valid h = inr (inr (inl (record {
  own = h.string;
  lexical = literal.lexical;
  rest = h.suffix;
  token = h.is.is;
  suffix = suffix_is literal.lexical h.suffix literal.tag literal.datatype valid h.after;
  spelled = h.parts;
})))

field : (c : Option Term) → IsRdfCell c → Field (tsv_cell c) c
field None h = inl (refl, refl)
field (Some t) h = inr (record { term = t; spells = spells t h.is (reads_back Tsv t [] h.is (ends t)); is = refl })

-- the line of a row
abbrev further : List (List ℕ) → List ℕ
further fields = flat_map (λ y. 9 ∷ y) fields

later_fields : (vars : List Name) (m : Mapping) → ((v : Name) → IsRdfCell (m v)) → LaterFields vars (further (map tsv_cell (cells_of vars m))) (pairs_of vars m)
later_fields [] m valid = (refl, refl)
later_fields (v ∷ vars) m valid = record {
  rest = tsv_cell (m v) ++ further (map tsv_cell (cells_of vars m));
  after = record {
    own = tsv_cell (m v);
    cell = m v;
    rest = further (map tsv_cell (cells_of vars m));
    more = pairs_of vars m;
    first = field (m v) (valid v);
    after = later_fields vars m valid;
    spelled = refl;
    binds = refl;
  };
  spelled = refl;
}

fields : (vars : List Name) (m : Mapping) → ((v : Name) → IsRdfCell (m v)) → Fields vars (separated 9 (map tsv_cell (cells_of vars m))) (pairs_of vars m)
fields [] m valid = (refl, refl)
fields (v ∷ vars) m valid = record {
  own = tsv_cell (m v);
  cell = m v;
  rest = further (map tsv_cell (cells_of vars m));
  more = pairs_of vars m;
  first = field (m v) (valid v);
  after = later_fields vars m valid;
  spelled = refl;
  binds = refl;
}

found_valid : (b : Bool) (e : Name × Term) (o : Option Term) → IsRdfTerm e.1 → IsRdfCell o → IsRdfCell (cond b (Some e.1) o)
found_valid true e o h k = h
found_valid false e o h k = k

cell_valid : (row : Pairs) → IsRdfRow row → (v : Name) → IsRdfCell (row_mapping row v)
cell_valid [] h v = tt
cell_valid (e ∷ row) h v = found_valid (bytes_eq e.0 v) e (row_mapping row v) h.0 (cell_valid row h.1 v)

rows : (vars : List Name) (rs : List Pairs) → AllByRecursion IsRdfRow rs → Rows vars (map (λ row. pairs_of vars (row_mapping row)) rs) (flat_map (tsv_row vars) rs)
rows vars [] all = refl
rows vars (row ∷ rs) all =
    let line = separated 9 (map tsv_cell (cells_of vars (row_mapping row))) in
    record {
      line = line;
      end = 10 ∷ [];
      rest = flat_map (tsv_row vars) rs;
      fields = fields vars (row_mapping row) (cell_valid row all.0);
      ends = inl (inl refl);
      after = rows vars rs all.1;
      spelled = append_assoc line (10 ∷ []) (flat_map (tsv_row vars) rs);
    }

-- the header
later_header : (vars : List Name) → later_names vars ≡ further (map tsv_name vars)
later_header [] = refl
later_header (v ∷ vars) = ap (λ more. (9 ∷ 63 ∷ v) ++ more) (later_header vars)

header : (vars : List Name) → header_text vars ≡ separated 9 (map tsv_name vars)
header [] = refl
header (v ∷ vars) = ap (λ more. (63 ∷ v) ++ more) (later_header vars)

text_is : (t : TableValue) → IsTable t → IsRdfTable t → TsvText (tsv_text t) (in_order t)
text_is t valid rdf =
    let first = separated 9 (map tsv_name t.vars) in
    let rest = flat_map (tsv_row t.vars) t.rows in
    record {
      end = 10 ∷ [];
      rest = rest;
      names = (names t.vars rdf.vars, valid.once);
      ends = inl (inl refl);
      rows = rows t.vars t.rows rdf.rows;
      spelled = append_assoc first (10 ∷ []) rest ∙ ap (λ h. h ++ (10 ∷ [] ++ rest)) (sym (header t.vars));
    }
  where
    names : (vars : List Name) → AllByRecursion IsName vars → AllByRecursion (λ v. is_name v ≡ true) vars
    names [] all = tt
    names (v ∷ vars) all = (all.0.0, names vars all.1)

-- its characters are of Unicode
parts : (a b : List ℕ) → all_scalars (a ++ b) ≡ true → (all_scalars a ≡ true) × (all_scalars b ≡ true)
parts [] b e = (refl, e)
parts (c ∷ a) b e = let k = both_parts _ _ e in let rest = parts a b k.1 in (both _ _ k.0 rest.0, rest.1)

flat_scalars : {X : Type 0} (f : X → List ℕ) (xs : List X) → AllByRecursion (λ x. all_scalars (f x) ≡ true) xs → all_scalars (flat_map f xs) ≡ true
flat_scalars f [] all = refl
flat_scalars f (x ∷ xs) all = scalars_join (f x) (flat_map f xs) all.0 (flat_scalars f xs all.1)

separated_scalars : (xs : List (List ℕ)) → AllByRecursion (λ x. all_scalars x ≡ true) xs → all_scalars (separated 9 xs) ≡ true
separated_scalars [] all = refl
separated_scalars (x ∷ xs) all = scalars_join x (further xs) all.0 (flat_scalars (λ y. 9 ∷ y) xs all.1)

line_scalars : (xs : List (List ℕ)) → AllByRecursion (λ x. all_scalars x ≡ true) xs → all_scalars (tsv_line xs) ≡ true
line_scalars xs all = scalars_join (separated 9 xs) (codes "\n") (separated_scalars xs all) refl

tab_scalars : (b : Bool) (text : List ℕ) → all_scalars text ≡ true → all_scalars (cond b (codes "\\t") text) ≡ true
tab_scalars true text h = refl
tab_scalars false text h = h

lexical_scalars : (text : List ℕ) → all_scalars (escaped text) ≡ true → all_scalars (flat_map (escaped_in Tsv) text) ≡ true
lexical_scalars [] h = refl
lexical_scalars (c ∷ text) h =
    let k = parts (escaped_char c) (escaped text) h in
    scalars_join (escaped_in Tsv c) (flat_map (escaped_in Tsv) text) (tab_scalars (c == 9) (escaped_char c) k.0) (lexical_scalars text k.1)

term_scalars : (t : Term) → all_scalars (term_text t) ≡ true → all_scalars (written Tsv t) ≡ true
term_scalars (Iri text) h = h
term_scalars (Blank label) h = h
term_scalars (Lit literal) h =
    let after = suffix_text literal.tag literal.datatype in
    let outer = parts (codes "\"" ++ escaped literal.lexical ++ codes "\"") after h in
    let inner = parts (codes "\"" ++ escaped literal.lexical) (codes "\"") outer.0 in
    let text = parts (codes "\"") (escaped literal.lexical) inner.0 in
    let quoted = flat_map (escaped_in Tsv) literal.lexical in
    scalars_join (codes "\"" ++ quoted ++ codes "\"") after
    (scalars_join (codes "\"" ++ quoted) (codes "\"") (scalars_join (codes "\"") quoted refl (lexical_scalars literal.lexical text.1)) refl) outer.1

cell_scalars : (c : Option Term) → IsRdfCell c → all_scalars (tsv_cell c) ≡ true
cell_scalars None h = refl
cell_scalars (Some t) h = term_scalars t h.scalars

cells_scalars : (vars : List Name) (m : Mapping) → ((v : Name) → IsRdfCell (m v)) → AllByRecursion (λ x. all_scalars x ≡ true) (map tsv_cell (cells_of vars m))
cells_scalars [] m valid = tt
cells_scalars (v ∷ vars) m valid = (cell_scalars (m v) (valid v), cells_scalars vars m valid)

rows_scalars : (vars : List Name) (rs : List Pairs) → AllByRecursion IsRdfRow rs → AllByRecursion (λ row. all_scalars (tsv_row vars row) ≡ true) rs
rows_scalars vars [] all = tt
rows_scalars vars (row ∷ rs) all = (line_scalars _ (cells_scalars vars (row_mapping row) (cell_valid row all.0)), rows_scalars vars rs all.1)

names_scalars : (vars : List Name) → AllByRecursion IsName vars → AllByRecursion (λ x. all_scalars x ≡ true) (map tsv_name vars)
names_scalars [] all = tt
names_scalars (v ∷ vars) all = (all.0.1, names_scalars vars all.1)

scalars : (t : TableValue) → IsRdfTable t → all_scalars (tsv_text t) ≡ true
scalars t rdf =
    scalars_join (tsv_line (map tsv_name t.vars)) (flat_map (tsv_row t.vars) t.rows)
    (line_scalars (map tsv_name t.vars) (names_scalars t.vars rdf.vars))
    (flat_scalars (tsv_row t.vars) t.rows (rows_scalars t.vars t.rows rdf.rows))

-- the pairs in order are the same mapping
put_first : (b i : Bool) (w v : Name) (o p : Option Term) (rest : Pairs) → bytes_eq w v ≡ b → (w ≡ v → o ≡ p) → row_mapping rest v ≡ cond i p None → row_mapping (bound w o ++ rest) v ≡ cond (b || i) p None
put_first true i w v None p rest is same e = let none = same ((bytes_eq-Decides w v).0 is) in e ∙ ap (λ p. cond i p None) (sym none) ∙ nothing i ∙ none
  where
    nothing : (i : Bool) → ◌≡◌ {A = Option Term} (cond i None None) None
    nothing true = refl
    nothing false = refl
put_first true i w v (Some t) p rest is same e = ap (λ b. cond b (Some t) (row_mapping rest v)) is ∙ same ((bytes_eq-Decides w v).0 is)
put_first false i w v None p rest is same e = e
put_first false i w v (Some t) p rest is same e = ap (λ b. cond b (Some t) (row_mapping rest v)) is ∙ e

restricted : (vars : List Name) (m : Mapping) (v : Name) → row_mapping (pairs_of vars m) v ≡ restrict vars m v
restricted [] m v = refl
restricted (w ∷ vars) m v = put_first (bytes_eq w v) (is_in vars v) w v (m w) (m v) (pairs_of vars m) refl (λ e. ap m e) (restricted vars m v)

same_mapping : (vars : List Name) (row : Pairs) → IsOverVars vars row → row_mapping (pairs_of vars (row_mapping row)) ≡ row_mapping row
same_mapping vars row over = (λ i v. restricted vars (row_mapping row) v i) ∙ sym (restrict_within vars (row_mapping row) over)

same_mappings : (vars : List Name) (rs : List Pairs) → AllByRecursion (IsOverVars vars) rs → map row_mapping (map (λ row. pairs_of vars (row_mapping row)) rs) ≡ map row_mapping rs
same_mappings vars [] all = refl
same_mappings vars (row ∷ rs) all = (λ i. same_mapping vars row all.0 i ∷ same_mappings vars rs all.1 i)

pub same_rows : (t : TableValue) → IsTable t → mappings (in_order t) ≡ mappings t
same_rows t valid = same_mappings t.vars t.rows valid.over

pub reads_back_as : (t : TableValue) → IsTable t → IsRdfTable t → TsvDoc (encode_utf8_all (tsv_text t)) (in_order t)
reads_back_as t valid rdf = record { text = tsv_text t; scalars = scalars t rdf; encoded = refl; lines = text_is t valid rdf }
