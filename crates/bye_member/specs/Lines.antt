-- Rows by numbers: of each selected variable the number of its term, where it is bound.
-- The laws of `Eq` and `Hash` stand here, since contracts cite them.
use Rattle.std.specs.Prelude.{◌≡◌, refl, ℕ, ◌↔◌, ◌⊎◌, Bool, true, false, cond, List, [], ◌∷◌, Option, Some, None, map, nat_eq}
use Rattle.std.specs.Option.{option_eq}
use Rattle.std.specs.Cmp.{IsEquivalence, IsPartialEquivalence, partial_equiv_from_equiv, nat_eq_equiv, first_so, second_so}
use Rattle.std.specs.Cmp.Lexicographic.{pointwise, lists_equiv, options_equiv}
use Rattle.std.specs.Hash as fed
use Rattle.std.specs.Hash.{HashWrites}
use Rattle.std.proofs.Common.{ap, subst}
use Rattle.std.proofs.lemmas.Bool.{eqb-true}
use Rattle.bye_terms.specs.Members.{In}
use Rattle.bye_node.specs.Envs.{Cells, cell}

-- the row of a mapping by numbers: its cells at the places of the selected variables, where a place past its end is unbound
abbrev pub project : List ℕ → Cells → Cells
project selected e = map (cell e) selected

-- rows, and how many of them are wanted at most
pub record LinesValue : Type 0 where
  pub rows : List Cells
  pub limit : ℕ

-- the rows and this one
abbrev pub AddsRow : List Cells → Cells → List Cells → Type 0
AddsRow rows row more = (r : Cells) → In more r ↔ (In rows r ⊎ (r ≡ row))

-- whether two rows are the same, cell by cell
abbrev pub line_eq : Cells → Cells → Bool
line_eq = pointwise (option_eq nat_eq)

pub line_equiv : IsEquivalence line_eq
line_equiv = lists_equiv (options_equiv nat_eq_equiv)

pub line_per : IsPartialEquivalence line_eq
line_per = partial_equiv_from_equiv line_equiv

-- what a hash of a row is fed
abbrev pub line_fed : Cells → HashWrites
line_fed = fed.slice (fed.option fed.u32)

-- false is not true
differ : {X : Type 0} → false ≡ true → X
differ {X} e = absurd (subst (λ b. cond b ⊥ (Unit {0})) e tt)

cell_same : (x y : Option ℕ) → option_eq nat_eq x y ≡ true → x ≡ y
cell_same None None e = refl
cell_same None (Some y) e = differ e
cell_same (Some x) None e = differ e
cell_same (Some x) (Some y) e = ap Some (eqb-true x y e)

-- rows that the test takes for the same are equal
pub line_same : (xs ys : Cells) → line_eq xs ys ≡ true → xs ≡ ys
line_same [] [] e = refl
line_same [] (y ∷ ys) e = differ e
line_same (x ∷ xs) [] e = differ e
line_same (x ∷ xs) (y ∷ ys) e = λ i. cell_same x y (first_so (option_eq nat_eq x y) (line_eq xs ys) e) i ∷ line_same xs ys (second_so (option_eq nat_eq x y) (line_eq xs ys) e) i

-- the same rows feed it alike
pub line_alike : (xs ys : Cells) → line_eq xs ys ≡ true → line_fed xs ≡ line_fed ys
line_alike xs ys e = ap line_fed (line_same xs ys e)
