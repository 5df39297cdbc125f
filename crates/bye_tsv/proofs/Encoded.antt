-- The UTF-8 of texts that are made of parts.
use Rattle.std.proofs.Common.{◌≡◌, refl, ℕ, ◌<◌, List, [], ◌∷◌, ◌++◌, map, codes, ◌∙◌, ap, arith}
use Rattle.std.specs.List.{flat_map}
use Rattle.std.specs.Str.{encode_utf8_all}
use Rattle.std.proofs.lemmas.Simd.{map-map}
use Rattle.std.proofs.lemmas.Str.{encodes-append, encode_ascii}
use Rattle.bye_table.specs.Cells.{Cells, cells_of}
use Rattle.bye_table.specs.Mappings.{Name, Pairs, row_mapping}
use Rattle.bye_table.specs.Tables.{TableValue}
use Rattle.bye_tsv.specs.WrittenFields.{name_bytes, row_bytes}
use Rattle.bye_tsv.specs.Written.{separated, tsv_cell, tsv_line, tsv_name, tsv_row, tsv_text}

-- parts one after another
pub flat_encoded : {X : Type 0} (f g : X → List ℕ) → ((x : X) → encode_utf8_all (f x) ≡ g x) → (xs : List X) → encode_utf8_all (flat_map f xs) ≡ flat_map g xs
flat_encoded f g each [] = refl
flat_encoded f g each (x ∷ xs) = encodes-append (f x) (flat_map f xs) ∙ (λ i. each x i ++ flat_encoded f g each xs i)

-- a character of ASCII, and what follows it
pub ascii_first : (c : ℕ) (cs : List ℕ) → c < 128 → encode_utf8_all (c ∷ cs) ≡ c ∷ encode_utf8_all cs
ascii_first c cs low = ap (λ b. b ++ encode_utf8_all cs) (encode_ascii c low)

-- parts with such a character between two
further_encoded : (c : ℕ) → c < 128 → (xs : List (List ℕ)) → encode_utf8_all (flat_map (λ y. c ∷ y) xs) ≡ flat_map (λ y. c ∷ y) (map encode_utf8_all xs)
further_encoded c low [] = refl
further_encoded c low (x ∷ xs) = encodes-append (c ∷ x) (flat_map (λ y. c ∷ y) xs) ∙ (λ i. ascii_first c x low i ++ further_encoded c low xs i)

pub separated_encoded : (c : ℕ) → c < 128 → (xs : List (List ℕ)) → encode_utf8_all (separated c xs) ≡ separated c (map encode_utf8_all xs)
separated_encoded c low [] = refl
separated_encoded c low (x ∷ xs) = encodes-append x (flat_map (λ y. c ∷ y) xs) ∙ ap (λ further. encode_utf8_all x ++ further) (further_encoded c low xs)

-- the lines of TSV
line_encoded : (fields : List (List ℕ)) → encode_utf8_all (tsv_line fields) ≡ tsv_line (map encode_utf8_all fields)
line_encoded fields =
    encodes-append (separated 9 fields) (codes "\n")
    ∙ (λ i. separated_encoded 9 (omega arith) fields i ++ ascii_first 10 [] (omega arith) i)

row_encoded : (vars : List Name) (row : Pairs) → encode_utf8_all (tsv_row vars row) ≡ row_bytes vars row
row_encoded vars row =
    let cells : Cells = cells_of vars (row_mapping row) in
    line_encoded (map tsv_cell cells) ∙ ap tsv_line (map-map encode_utf8_all tsv_cell cells)

pub tsv_encoded : (t : TableValue) → encode_utf8_all (tsv_text t) ≡ tsv_line (map name_bytes t.vars) ++ flat_map (row_bytes t.vars) t.rows
tsv_encoded t =
    encodes-append (tsv_line (map tsv_name t.vars)) (flat_map (tsv_row t.vars) t.rows)
    ∙ (λ i. (line_encoded (map tsv_name t.vars) ∙ ap tsv_line (map-map encode_utf8_all tsv_name t.vars)) i ++ flat_encoded (tsv_row t.vars) (row_bytes t.vars) (row_encoded t.vars) t.rows i)
