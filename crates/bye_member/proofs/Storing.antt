-- A row that is put into a store.
use Rattle.std.proofs.Common.{◌≡◌, true, cond, List, [], ◌∷◌, ◌++◌, inl, inr, ⊎_elim, ◌⊎◌, sym, ◌∙◌, ap, subst}
use Rattle.std.specs.List.{list_any}
use Rattle.indexmap.specs.IndexSet.{insert_key}
use Rattle.bye_terms.specs.Members.{In, EachOnce}
use Rattle.bye_terms.proofs.Lists.{any_in, none_of}
use Rattle.bye_terms.proofs.Members.{in_cases, in_left, in_right, once_more}
use Rattle.bye_terms.proofs.Tests.{bool_cases, not_both}
use Rattle.bye_node.specs.Envs.{Cells}
use Rattle.bye_member.specs.Lines.{AddsRow, line_eq, line_equiv, line_same}

-- the row is there already, or it is put last
inserted : (rows : List Cells) (row : Cells)
    → ((insert_key line_eq rows row ≡ rows) × In rows row) ⊎ ((insert_key line_eq rows row ≡ rows ++ row ∷ []) × (In rows row → ⊥))
inserted rows row =
    ⊎_elim
    (λ there. inl (ap (λ b. cond b rows (rows ++ row ∷ [])) there, old (any_in (line_eq row) rows there)))
    (λ new. inr (ap (λ b. cond b rows (rows ++ row ∷ [])) new, λ h. not_both (line_eq row row) (line_equiv.refl row) (none_of (line_eq row) rows new row h)))
    (bool_cases (list_any (line_eq row) rows))
  where
    old : (x : Cells) × In rows x × (line_eq row x ≡ true) → In rows row
    old (x, h, same) = subst (In rows) (sym (line_same row x same)) h

adds : (rows more : List Cells) (row : Cells) → more ≡ insert_key line_eq rows row → AddsRow rows row more
adds rows more row is r =
    ⊎_elim
    (λ w. let e = is ∙ w.0 in (
      λ h. inl (subst (λ rows. In rows r) e h),
      λ h. subst (λ rows. In rows r) (sym e) (⊎_elim (λ k. k) (λ same. subst (In rows) (sym same) w.1) h),
    ))
    (λ w. let e = is ∙ w.0 in (
      λ h. ⊎_elim inl (λ k. ⊎_elim (λ same. inr (sym same)) (λ b. absurd b) k) (in_cases rows (row ∷ []) r (subst (λ rows. In rows r) e h)),
      λ h. subst (λ rows. In rows r) (sym e) (⊎_elim (λ k. in_left rows (row ∷ []) r k) (λ same. in_right rows (row ∷ []) r (inl (sym same))) h),
    ))
    (inserted rows row)

-- the same of the rows that contracts see
pub added : (old rows more : List Cells) (line row : Cells) → rows ≡ old → line ≡ row → more ≡ insert_key line_eq rows line → AddsRow old row more
added old rows more line row kept same is =
    subst (λ old. AddsRow old row more) kept (subst (λ row. AddsRow rows row more) same (adds rows more line is))

pub stays_once : (rows more : List Cells) (row : Cells) → more ≡ insert_key line_eq rows row → EachOnce rows → EachOnce more
stays_once rows more row is once =
    ⊎_elim
    (λ w. subst EachOnce (sym (is ∙ w.0)) once)
    (λ w. subst EachOnce (sym (is ∙ w.0)) (once_more rows row once w.1))
    (inserted rows row)
