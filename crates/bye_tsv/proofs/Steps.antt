-- Steps of the machine of documents, by what its code does.
use Rattle.std.proofs.Common.{◌≡◌, refl, ℕ, zero, suc, ◌+◌, ◌-◌, ◌≤◌, Bool, true, false, ◌==◌, List, [], ◌∷◌, ◌++◌, Option, Some, None, drop, length, inl, inr, ⊎_elim, sym, ◌∙◌, ap, subst, arith}
use Rattle.std.specs.Str.{encode_utf8_all}
use Rattle.bye_terms.specs.declared.term.Term.{Term}
use Rattle.bye_lex.proofs.Branches.{heads, when}
use Rattle.bye_table.specs.Mappings.{Name}
use Rattle.bye_tsv.specs.DocSteps.{DocAt, cell_ends, next_field, step, passed, Walked, Went, Stopped, Many, counted, onward, walk, CannotAdvance, CannotWalk, IsFaultAt, IsPlaceBefore}
use Rattle.bye_tsv.specs.declared.fault.Bounds.{Bounds}
use Rattle.bye_tsv.specs.declared.fault.TsvErr.{TsvErr}
use Rattle.bye_tsv.specs.declared.fault.TsvErr.TheVariants as faults
use Rattle.bye_tsv.specs.Documents.{bound}

-- what comes after the first of what is left
behind : {A : Type 0} (n : ℕ) (xs : List A) (y : A) (ys : List A) → drop n xs ≡ y ∷ ys → drop (suc n) xs ≡ ys
behind zero [] y ys e = cc
behind zero (x ∷ xs) y ys e = (heads x y xs ys e).1
behind (suc n) [] y ys e = cc
behind (suc n) (x ∷ xs) y ys e = behind n xs y ys e

one_more : (n : ℕ) → suc n ≡ n + 1
one_more n = omega arith

pub drop_next : {A : Type 0} (n : ℕ) (xs : List A) (y : A) (ys : List A) → drop n xs ≡ y ∷ ys → drop (n + 1) xs ≡ ys
drop_next n xs y ys e = subst (λ m. drop m xs ≡ ys) (one_more n) (behind n xs y ys e)

-- a TAB after a field that is not the last
pub tab_ends : (d : DocAt) (c : ℕ) (v : Name) (later : List Name) (cell : Option Term) (b : Bool) → b ≡ (length later == 0) → b ≡ false → (c == 9) ≡ true → cell_ends d c (v ∷ later) (Some cell) ≡ Some (next_field d later (d.row ++ bound v cell))
tab_ends d c v [] cell b e f t = let z = sym f ∙ e in cc
tab_ends d c v (w ∷ later) cell b e f t = when _ _ _ t

-- why a text is not walked, where a step of it is not made
pub no_memory : (total : ℕ) (e : TsvErr) (w : Walked) → e ≡ faults.Memory → CannotWalk total e w
no_memory total e (Went d) k = k
no_memory total e (Stopped d rest) k = inl k
no_memory total e (Many many) k = inl k

module _ (bounds : Bounds) (d : DocAt) (after : List ℕ) (c here total : ℕ) (e : TsvErr) (at : IsPlaceBefore total (c ∷ after) here) where
  cannot_on : (o : Option DocAt) → step d c ≡ o → CannotAdvance bounds d c here o e → CannotWalk total e (walk bounds d (c ∷ after))
  cannot_on None s k =
      let is : walk bounds d (c ∷ after) ≡ Stopped d (c ∷ after) = ap (onward bounds d (c ∷ after) (λ n. walk bounds n after)) s in
      subst (CannotWalk total e) (sym is)
      (⊎_elim (λ m. inl m) (λ f. let r : IsFaultAt total d (c ∷ after) e = record { c = c; after = after; parts = refl; here = here; at = at; is = f } in inr r) k)
  cannot_on (Some n) s k =
      let is : walk bounds d (c ∷ after) ≡ counted (walk bounds n after) (passed bounds n) = ap (onward bounds d (c ∷ after) (λ n. walk bounds n after)) s in
      ⊎_elim (λ m. no_memory total e (walk bounds d (c ∷ after)) m)
      (λ f. subst (CannotWalk total e) (sym (is ∙ ap (counted (walk bounds n after)) f)) (inr refl)) k

pub cannot : (bounds : Bounds) (d : DocAt) (rest after : List ℕ) (c here total : ℕ) (e : TsvErr) (w : Walked) → walk bounds d rest ≡ w → rest ≡ c ∷ after → length (encode_utf8_all rest) ≤ total → here ≡ total - length (encode_utf8_all rest) → CannotAdvance bounds d c here (step d c) e
    → CannotWalk total e w
cannot bounds d rest after c here total e w same parts within at k =
    let sum : here + length (encode_utf8_all rest) ≡ total = omega (arith, at, within) in
    subst (CannotWalk total e) (ap (walk bounds d) (sym parts) ∙ same) (cannot_on bounds d after c here total e (subst (λ r. IsPlaceBefore total r here) parts sum) (step d c) refl k)
