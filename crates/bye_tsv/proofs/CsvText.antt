-- The records of `csv` are the lines of CSV.
use Rattle.std.proofs.Common.{◌≡◌, refl, ℕ, ◌<◌, ◌≤◌, suc, Bool, true, false, cond, ◌==◌, ◌||◌, List, [], ◌∷◌, ◌++◌, length, get_or, map, codes, ⊎_elim, sym, ◌∙◌, ap, append_assoc, arith}
use Rattle.std.specs.List.{AllByRecursion, flat_map, list_any}
use Rattle.std.specs.Str.{encode_utf8_all}
use Rattle.std.specs.Char.{encode_utf8}
use Rattle.std.specs.Bool.{if◌then◌else◌}
use Rattle.std.proofs.lemmas.Bool.{cases_lt, eqb-true}
use Rattle.std.proofs.lemmas.Bool.Decides.{nat_tests}
use Rattle.std.proofs.lemmas.List.{append-nil}
use Rattle.std.proofs.lemmas.List.Folds.{list_any-append}
use Rattle.std.proofs.lemmas.Grind.{flat_map-append}
use Rattle.std.proofs.lemmas.Simd.{map-map}
use Rattle.std.proofs.lemmas.Str.{encodes-append, encode_ascii, encodes_same, inside_one}
use Rattle.csv.specs.Writing as csv
use Rattle.bye_table.specs.Cells.{Cells, cells_of}
use Rattle.bye_table.specs.Mappings.{Name, Pairs, row_mapping}
use Rattle.bye_table.specs.Tables.{TableValue}
use Rattle.bye_tsv.specs.Records.{record_bytes, record_text, setup}
use Rattle.bye_tsv.specs.Written.{csv_cell, csv_field, csv_line, csv_row, csv_text, doubled, not_empty, separated, wants_quotes}
use Rattle.bye_tsv.proofs.Encoded.{ascii_first, flat_encoded}

-- which bytes want quotes
one_of_four : (a b c d : Bool) → (b || a || (c || d) || false || false) ≡ (a || b || c || d)
one_of_four true true c d = refl
one_of_four true false c d = refl
one_of_four false true c d = refl
one_of_four false false true d = refl
one_of_four false false false true = refl
one_of_four false false false false = refl

needs : (b : ℕ) → csv.needs_byte setup b ≡ wants_quotes b
needs b = one_of_four (b == 34) (b == 44) (b == 13) (b == 10)

-- beyond ASCII no byte wants quotes, and none is doubled
high_wants : (c : ℕ) → 128 ≤ c → wants_quotes c ≡ false
high_wants c h = grind (arith, nat_tests)

high_doubled : (c : ℕ) → 128 ≤ c → doubled c ≡ c ∷ []
high_doubled c h = grind (arith, nat_tests)

high_bytes : (c : ℕ) → 128 ≤ c → AllByRecursion (λ b. 128 ≤ b) (encode_utf8 c)
high_bytes c h = each (encode_utf8 c) (λ k l. ⊎_elim (λ low. absurd (let e = inside_one c [] (encode_utf8 c) k (sym (append-nil (encode_utf8 c))) l low in omega arith)) (λ high. high) (cases_lt (get_or (encode_utf8 c) k 0) 128))
  where
    each : (bytes : List ℕ) → ((k : ℕ) → k < length bytes → 128 ≤ get_or bytes k 0) → AllByRecursion (λ b. 128 ≤ b) bytes
    each [] f = tt
    each (b ∷ bytes) f = (f 0 (omega arith), each bytes (λ k l. f (suc k) (omega arith)))

none_wants : (bytes : List ℕ) → AllByRecursion (λ b. 128 ≤ b) bytes → list_any wants_quotes bytes ≡ false
none_wants [] all = refl
none_wants (b ∷ bytes) all = (λ i. high_wants b all.0 i || none_wants bytes all.1 i)

none_doubled : (bytes : List ℕ) → AllByRecursion (λ b. 128 ≤ b) bytes → flat_map doubled bytes ≡ bytes
none_doubled [] all = refl
none_doubled (b ∷ bytes) all = (λ i. high_doubled b all.0 i ++ none_doubled bytes all.1 i)

-- so a character is tested and doubled by its bytes
or_none : (b : Bool) → (b || false) ≡ b
or_none true = refl
or_none false = refl

char_wants : (c : ℕ) → list_any wants_quotes (encode_utf8 c) ≡ wants_quotes c
char_wants c =
    ⊎_elim (λ low. ap (list_any wants_quotes) (encode_ascii c low) ∙ or_none (wants_quotes c))
    (λ high. none_wants (encode_utf8 c) (high_bytes c high) ∙ sym (high_wants c high)) (cases_lt c 128)

text_wants : (text : List ℕ) → list_any wants_quotes (encode_utf8_all text) ≡ list_any wants_quotes text
text_wants [] = refl
text_wants (c ∷ text) = list_any-append wants_quotes (encode_utf8 c) (encode_utf8_all text) ∙ (λ i. char_wants c i || text_wants text i)

low_doubled : (b : Bool) (c : ℕ) → c < 128 → encode_utf8_all (cond b (codes "\"\"") (c ∷ [])) ≡ cond b (codes "\"\"") (c ∷ [])
low_doubled true c low = ascii_first 34 (34 ∷ []) (omega arith) ∙ ap (λ cs. 34 ∷ cs) (ascii_first 34 [] (omega arith))
low_doubled false c low = ascii_first c [] low

char_doubled : (c : ℕ) → encode_utf8_all (doubled c) ≡ flat_map doubled (encode_utf8 c)
char_doubled c =
    ⊎_elim (λ low. low_doubled (c == 34) c low ∙ sym (ap (flat_map doubled) (encode_ascii c low) ∙ append-nil (doubled c)))
    (λ high. ap encode_utf8_all (high_doubled c high) ∙ append-nil (encode_utf8 c) ∙ sym (none_doubled (encode_utf8 c) (high_bytes c high))) (cases_lt c 128)

text_doubled : (text : List ℕ) → encode_utf8_all (flat_map doubled text) ≡ flat_map doubled (encode_utf8_all text)
text_doubled [] = refl
text_doubled (c ∷ text) =
    encodes-append (doubled c) (flat_map doubled text) ∙ (λ i. char_doubled c i ++ text_doubled text i) ∙ sym (flat_map-append doubled (encode_utf8 c) (encode_utf8_all text))

-- the fields of a record
any_needs : (bytes : List ℕ) → list_any (csv.needs_byte setup) bytes ≡ list_any wants_quotes bytes
any_needs [] = refl
any_needs (b ∷ bytes) = (λ i. needs b i || any_needs bytes i)

quote_twice : (q : Bool) (b : ℕ) (rest other : List ℕ) → b == 34 ≡ q → rest ≡ other → cond q (34 ∷ b ∷ rest) (b ∷ rest) ≡ cond q (codes "\"\"") (b ∷ []) ++ other
quote_twice true b rest other is e = (λ i. 34 ∷ eqb-true b 34 is i ∷ e i)
quote_twice false b rest other is e = (λ i. b ∷ e i)

escaped_is : (bytes : List ℕ) → csv.escaped setup bytes ≡ flat_map doubled bytes
unfolding csv.escaped
escaped_is [] = refl
escaped_is (b ∷ bytes) = quote_twice (b == 34) b (csv.escaped setup bytes) (flat_map doubled bytes) refl (escaped_is bytes)

chosen : (b : Bool) (x y v w : List ℕ) → x ≡ encode_utf8_all v → y ≡ encode_utf8_all w → cond b x y ≡ encode_utf8_all (cond b v w)
chosen true x y v w e f = e
chosen false x y v w e f = f

quoted_is : (text : List ℕ) → 34 ∷ (csv.escaped setup (encode_utf8_all text) ++ 34 ∷ []) ≡ encode_utf8_all (codes "\"" ++ flat_map doubled text ++ codes "\"")
quoted_is text =
    sym (ascii_first 34 (flat_map doubled text ++ codes "\"") (omega arith)
    ∙ ap (λ cs. 34 ∷ cs) (encodes-append (flat_map doubled text) (codes "\"")
    ∙ (λ i. (text_doubled text ∙ sym (escaped_is (encode_utf8_all text))) i ++ ascii_first 34 [] (omega arith) i)))

field_is : (text : List ℕ) → csv.field_text setup (encode_utf8_all text) ≡ encode_utf8_all (csv_field text)
field_is text =
    (λ i. cond ((any_needs (encode_utf8_all text) ∙ text_wants text) i) (34 ∷ (csv.escaped setup (encode_utf8_all text) ++ 34 ∷ [])) (encode_utf8_all text))
    ∙ chosen (list_any wants_quotes text) _ _ (codes "\"" ++ flat_map doubled text ++ codes "\"") text (quoted_is text) refl

-- the fields with commas between them
abbrev further : List (List ℕ) → List ℕ
further texts = flat_map (λ y. 44 ∷ y) (map csv_field texts)

further_are : (texts : List (List ℕ)) → csv.fields_text setup (map encode_utf8_all texts) ≡ encode_utf8_all (further texts)
unfolding csv.fields_text
further_are [] = refl
further_are (text ∷ texts) =
    (λ i. 44 ∷ (field_is text i ++ further_are texts i))
    ∙ sym (encodes-append (44 ∷ csv_field text) (further texts) ∙ ap (λ bs. bs ++ encode_utf8_all (further texts)) (ascii_first 44 (csv_field text) (omega arith)))

fields_are : (texts : List (List ℕ)) → csv.row_body setup (map encode_utf8_all texts) ≡ encode_utf8_all (separated 44 (map csv_field texts))
fields_are [] = refl
fields_are (text ∷ texts) = (λ i. field_is text i ++ further_are texts i) ∙ sym (encodes-append (csv_field text) (further texts))

-- a line shows some byte
abbrev shown : Bool → List ℕ → List ℕ
shown blank body = body ++ (if blank then 34 ∷ 34 ∷ [] else [])

no_length : (bytes : List ℕ) → length bytes == 0 ≡ true → bytes ≡ []
no_length [] e = refl
no_length (b ∷ bytes) e = let none = eqb-true (length (b ∷ bytes)) 0 e in absurd (omega arith)

some_shown : (blank : Bool) (bytes : List ℕ) (c : ℕ) (cs : List ℕ) → length bytes == 0 ≡ blank → bytes ≡ encode_utf8_all (c ∷ cs) → shown blank bytes ≡ encode_utf8_all (c ∷ cs)
some_shown true bytes c cs is e = let none : c ∷ cs ≡ [] = encodes_same (c ∷ cs) [] (sym e ∙ no_length bytes is) in cc
some_shown false bytes c cs is e = append-nil bytes ∙ e

two_quotes : encode_utf8_all (34 ∷ 34 ∷ []) ≡ 34 ∷ 34 ∷ []
two_quotes = ascii_first 34 (34 ∷ []) (omega arith) ∙ ap (λ cs. 34 ∷ cs) (ascii_first 34 [] (omega arith))

one_shown : (bytes text : List ℕ) → bytes ≡ encode_utf8_all text → shown (length bytes == 0) bytes ≡ encode_utf8_all (not_empty text)
one_shown bytes [] e = (λ i. shown (length (e i) == 0) (e i)) ∙ sym two_quotes
one_shown bytes (c ∷ cs) e = some_shown (length bytes == 0) bytes c cs refl e

after_comma : (a b : List ℕ) → not_empty (a ++ 44 ∷ b) ≡ a ++ 44 ∷ b
after_comma [] b = refl
after_comma (c ∷ a) b = refl

body_is : (texts : List (List ℕ)) → shown (csv.is_blank setup (map encode_utf8_all texts)) (csv.row_body setup (map encode_utf8_all texts)) ≡ encode_utf8_all (not_empty (separated 44 (map csv_field texts)))
unfolding csv.is_blank csv.fields_text
body_is [] = sym two_quotes
body_is (text ∷ []) =
    let field = csv.field_text setup (encode_utf8_all text) in
    ap (shown (length field == 0)) (append-nil field) ∙ one_shown field (csv_field text) (field_is text) ∙ ap (λ cs. encode_utf8_all (not_empty cs)) (sym (append-nil (csv_field text)))
body_is (text ∷ other ∷ texts) =
    append-nil (csv.row_body setup (map encode_utf8_all (text ∷ other ∷ texts)))
    ∙ fields_are (text ∷ other ∷ texts)
    ∙ ap encode_utf8_all (sym (after_comma (csv_field text) (csv_field other ++ further texts)))

pub line_is : (texts : List (List ℕ)) → record_text (map encode_utf8_all texts) ≡ encode_utf8_all (csv_line texts)
line_is texts =
    let fields = map encode_utf8_all texts in
    sym (append_assoc (csv.row_body setup fields) (if csv.is_blank setup fields then 34 ∷ 34 ∷ [] else []) (13 ∷ 10 ∷ []))
    ∙ (λ i. body_is texts i ++ line_end i)
    ∙ sym (encodes-append (not_empty (separated 44 (map csv_field texts))) (codes "\r\n"))
  where
    line_end : 13 ∷ 10 ∷ [] ≡ encode_utf8_all (codes "\r\n")
    line_end = sym (ascii_first 13 (10 ∷ []) (omega arith) ∙ ap (λ cs. 13 ∷ cs) (ascii_first 10 [] (omega arith)))

-- the whole text
row_is : (vars : List Name) (row : Pairs) → encode_utf8_all (csv_row vars row) ≡ record_bytes vars row
row_is vars row =
    let cells : Cells = cells_of vars (row_mapping row) in
    sym (line_is (map csv_cell cells)) ∙ ap record_text (map-map encode_utf8_all csv_cell cells)

pub csv_encoded : (t : TableValue) → record_text (map encode_utf8_all t.vars) ++ flat_map (record_bytes t.vars) t.rows ≡ encode_utf8_all (csv_text t)
csv_encoded t =
    sym (encodes-append (csv_line t.vars) (flat_map (csv_row t.vars) t.rows)
    ∙ (λ i. sym (line_is t.vars) i ++ flat_encoded (csv_row t.vars) (record_bytes t.vars) (row_is t.vars) t.rows i))
