-- Rows of a table, made of numbers of terms.
use Rattle.std.proofs.Common.{◌≡◌, refl, ℕ, ◌+◌, ◌<◌, ◌≤◌, List, [], ◌∷◌, ◌++◌, map, Option, Some, None, sym, ◌∙◌, ap, subst, length, get_or, slice_get, take}
use Rattle.std.specs.List.{AllByRecursion}
use Rattle.std.proofs.lemmas.List.{take_all, take_more}
use Rattle.bye_terms.specs.declared.term.Term.{Term}
use Rattle.bye_terms.specs.Members.{EachOnce}
use Rattle.bye_table.specs.Mappings.{Binds, Mapping, Name, NoRepeat, Pairs, row_mapping}
use Rattle.bye_table.specs.Tables.{IsOverVars, IsTable, TableValue}
use Rattle.bye_table.specs.Sorted.{mappings}
use Rattle.bye_pattern.specs.FirstClaims.{listing, with_value}
use Rattle.bye_laws.proofs.Listings.{listed_once, listed_whole}
use Rattle.bye_node.specs.Envs.{Cells, cell}
use Rattle.bye_node.specs.Steps.{decode, value_at}
use Rattle.bye_member.specs.Listing.{row_of}
use Rattle.bye_node.proofs.Decoding.{decode_at, decode_in, get_below}

-- a variable more
with_more : (v : Name) (o : Option Term) (rest last : Pairs) → with_value v o (rest ++ last) ≡ with_value v o rest ++ last
with_more v None rest last = refl
with_more v (Some t) rest last = refl

pub listing_more : (vs : List Name) (v : Name) (m : Mapping) → listing (vs ++ v ∷ []) m ≡ listing vs m ++ with_value v (m v) []
listing_more [] v m = refl
listing_more (w ∷ vs) v m = ap (with_value w (m w)) (listing_more vs v m) ∙ with_more w (m w) (listing vs m) (with_value v (m v) [])

-- one more variable of a row
pub row_more : (vs : List Name) (ts : List Term) (r : Cells) (i : ℕ) (v : Name) (o : Option Term) (pairs more : Pairs) → EachOnce vs → i < length vs → v ≡ get_or vs i v
    → o ≡ value_at ts (cell r i) → pairs ≡ listing (take i vs) (decode vs ts r) → more ≡ pairs ++ with_value v o [] → more ≡ listing (take (i + 1) vs) (decode vs ts r)
row_more vs ts r i v o pairs more once l at term so is =
    let here : slice_get vs i ≡ Some v = get_below vs i v l ∙ ap Some (sym at) in
    let value : o ≡ decode vs ts r v = term ∙ sym (decode_at vs ts r i v once here) in
    let taken : take (i + 1) vs ≡ take i vs ++ v ∷ [] = take_more vs i v l ∙ ap (λ w. take i vs ++ w ∷ []) (sym at) in
    is ∙ (λ k. so k ++ with_value v (value k) []) ∙ sym (ap (λ ws. listing ws (decode vs ts r)) taken ∙ listing_more (take i vs) v (decode vs ts r))

-- and all of them
pub row_whole : (vs : List Name) (ts : List Term) (r : Cells) (i : ℕ) (pairs : Pairs) → length vs ≤ i → pairs ≡ listing (take i vs) (decode vs ts r) → pairs ≡ row_of vs ts r
row_whole vs ts r i pairs end so = so ∙ ap (λ ws. listing ws (decode vs ts r)) (take_all i vs end)

pub row_once : (vs : List Name) (ts : List Term) (r : Cells) → EachOnce vs → NoRepeat (row_of vs ts r)
row_once vs ts r once = listed_once vs (decode vs ts r) once

pub row_is : (vs : List Name) (ts : List Term) (r : Cells) → row_mapping (row_of vs ts r) ≡ decode vs ts r
row_is vs ts r = listed_whole vs (decode vs ts r) (decode_in vs ts r)

row_over : (vs : List Name) (ts : List Term) (r : Cells) → IsOverVars vs (row_of vs ts r)
row_over vs ts r v h = decode_in vs ts r v (subst (λ m. Binds m v) (row_is vs ts r) h)

pub rows_are : (vs : List Name) (ts : List Term) (rs : List Cells) → map row_mapping (map (row_of vs ts) rs) ≡ map (decode vs ts) rs
rows_are vs ts [] = refl
rows_are vs ts (r ∷ rs) = λ i. row_is vs ts r i ∷ rows_are vs ts rs i

all_over : (vs : List Name) (ts : List Term) (rs : List Cells) → AllByRecursion (IsOverVars vs) (map (row_of vs ts) rs)
all_over vs ts [] = tt
all_over vs ts (r ∷ rs) = (row_over vs ts r, all_over vs ts rs)

all_once : (vs : List Name) (ts : List Term) (rs : List Cells) → EachOnce vs → AllByRecursion NoRepeat (map (row_of vs ts) rs)
all_once vs ts [] once = tt
all_once vs ts (r ∷ rs) once = (row_once vs ts r once, all_once vs ts rs once)

-- the rows of a table, told of its own variables and of a copy of the rows by numbers
pub rows_told : (vs ws us : List Name) (ts : List Term) (ks rs : List Cells) (rows : List Pairs) → ws ≡ vs → us ≡ ws → ks ≡ rs → rows ≡ map (row_of us ts) ks → rows ≡ map (row_of vs ts) rs
rows_told vs ws us ts ks rs rows same own copied is = is ∙ (λ i. map (row_of ((own ∙ same) i) ts) (copied i))

pub is_table : (vs ws : List Name) (ts : List Term) (rs : List Cells) (rows : List Pairs) → EachOnce vs → ws ≡ vs → rows ≡ map (row_of vs ts) rs → IsTable (record { vars = ws; rows = rows })
is_table vs ws ts rs rows once same is =
    let table : IsTable (record { vars = vs; rows = map (row_of vs ts) rs }) = record { once = once; over = all_over vs ts rs; rows = all_once vs ts rs once } in
    subst IsTable (λ i. record { vars = sym same i; rows = sym is i }) table

pub mappings_told : (t : TableValue) (vs ws : List Name) (ts : List Term) (rs : List Cells) (rows : List Pairs) → t ≡ record { vars = ws; rows = rows } → rows ≡ map (row_of vs ts) rs
    → mappings t ≡ map (decode vs ts) rs
mappings_told t vs ws ts rs rows is made = ap mappings is ∙ ap (map row_mapping) made ∙ rows_are vs ts rs
