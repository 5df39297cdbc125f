-- Rows by numbers, one more at each turn, and lists of which one element more is told.
use Rattle.std.proofs.Common.{◌≡◌, refl, ℕ, zero, suc, ◌+◌, ◌<◌, List, [], ◌∷◌, ◌++◌, map, Option, option_map, inl, inr, ◌⊎◌, ⊎_elim, ◌↔◌, sym, ◌∙◌, ap, subst, length, get_or, take, arith}
use Rattle.std.specs.Borrow.{Bor}
use Rattle.std.proofs.lemmas.List.{take_more}
use Rattle.bye_terms.specs.declared.term.Term.{Term}
use Rattle.bye_terms.specs.Members.{In}
use Rattle.bye_terms.proofs.Members.{in_cases, in_left, in_right}
use Rattle.bye_table.specs.Cells.{cells_of, found}
use Rattle.bye_table.specs.Mappings.{Name, Pairs, row_mapping}
use Rattle.bye_strongest.specs.Numbers.{AreNumberedRows, AreNumbers, Cells, IsNumberOf}

pub map_push : {X Y : Type 0} (f : X → Y) (xs : List X) (x : X) → map f (xs ++ x ∷ []) ≡ map f xs ++ f x ∷ []
map_push f [] x = refl
map_push f (y ∷ xs) x = ap (λ zs. f y ∷ zs) (map_push f xs x)

-- one more element up to a place
pub taken : {X : Type 0} (xs : List X) (i : ℕ) (x : X) → i < length xs → x ≡ get_or xs i x → take (i + 1) xs ≡ take i xs ++ x ∷ []
taken xs i x l is = take_more xs i x l ∙ ap (λ y. take i xs ++ y ∷ []) (sym is)

numbers_push : (terms : List Term) (ts : List (Option Term)) (e : Cells) (t : Option Term) (c : Option ℕ) → AreNumbers terms ts e → IsNumberOf terms t c → AreNumbers terms (ts ++ t ∷ []) (e ++ c ∷ [])
numbers_push terms [] [] t c all one = (one, tt)
numbers_push terms [] (d ∷ e) t c all one = absurd all
numbers_push terms (s ∷ ts) [] t c all one = absurd all
numbers_push terms (s ∷ ts) (d ∷ e) t c all one = (all.0, numbers_push terms ts e t c all.1 one)

-- one more cell
pub numbers_more : (terms : List Term) (cells : List (Option (Bor Term))) (e out : Cells) (t : Option (Bor Term)) (c : Option ℕ) → AreNumbers terms (found cells) e
    → IsNumberOf terms (option_map (λ t. t.now) t) c → out ≡ e ++ c ∷ [] → AreNumbers terms (found (cells ++ t ∷ [])) out
numbers_more terms cells e out t c all one is =
    subst (AreNumbers terms (found (cells ++ t ∷ []))) (sym is)
    (subst (λ ts. AreNumbers terms ts (e ++ c ∷ [])) (sym (map_push (option_map (λ t. t.now)) cells t)) (numbers_push terms (found cells) e (option_map (λ t. t.now) t) c all one))

rows_push : (terms : List Term) (vs : List Name) (rows : List Pairs) (es : List Cells) (row : Pairs) (e : Cells) → AreNumberedRows terms vs rows es → AreNumbers terms (cells_of vs (row_mapping row)) e
    → AreNumberedRows terms vs (rows ++ row ∷ []) (es ++ e ∷ [])
rows_push terms vs [] [] row e all one = (one, tt)
rows_push terms vs [] (f ∷ es) row e all one = absurd all
rows_push terms vs (r ∷ rows) [] row e all one = absurd all
rows_push terms vs (r ∷ rows) (f ∷ es) row e all one = (all.0, rows_push terms vs rows es row e all.1 one)

-- one more row
pub rows_more : (terms : List Term) (vs : List Name) (rows : List Pairs) (es out : List Cells) (i : ℕ) (row : Pairs) (e : Cells) → i < length rows → row ≡ get_or rows i row
    → AreNumberedRows terms vs (take i rows) es → AreNumbers terms (cells_of vs (row_mapping row)) e → out ≡ es ++ e ∷ [] → AreNumberedRows terms vs (take (i + 1) rows) out
rows_more terms vs rows es out i row e l is all one put =
    subst (AreNumberedRows terms vs (take (i + 1) rows)) (sym put)
    (subst (λ rows. AreNumberedRows terms vs rows (es ++ e ∷ [])) (sym (taken rows i row l is)) (rows_push terms vs (take i rows) es row e all one))

-- what is in a list with one more at its end
pub in_push : {X : Type 0} (xs : List X) (x y : X) → In (xs ++ x ∷ []) y ↔ (In xs y ⊎ (x ≡ y))
in_push xs x y = (
  (λ h. ⊎_elim (λ k. inl k) (λ k. ⊎_elim (λ e. inr e) (λ n. absurd n) k) (in_cases xs (x ∷ []) y h)),
  (λ h. ⊎_elim (λ k. in_left xs (x ∷ []) y k) (λ e. in_right xs (x ∷ []) y (inl e)) h),
)

-- the element at a place
pub item_in : {X : Type 0} (xs : List X) (i : ℕ) (x : X) → i < length xs → x ≡ get_or xs i x → In xs x
item_in [] i x l is = absurd (omega arith)
item_in (y ∷ xs) zero x l is = inl (sym is)
item_in (y ∷ xs) (suc i) x l is = inr (item_in xs i x (omega arith) is)
