-- A document that is read keeps variables of which none stands twice, and rows of them.
use Rattle.std.proofs.Common.{◌≡◌, refl, ℕ, Bool, true, false, cond, ◌==◌, List, [], ◌∷◌, ◌++◌, Option, Some, None, IsSome, option_map, ◌⊎◌, inl, inr, ⊎_elim, map, sym, ◌∙◌, ap, subst, append_assoc, append-nil}
use Rattle.std.specs.List.{AllByRecursion}
use Rattle.bye_terms.specs.Members.{EachOnce, In}
use Rattle.bye_terms.specs.declared.term.Term.{Term}
use Rattle.bye_terms.proofs.Members.{all_from, all_in, in_left, in_right, in_cases, once_more}
use Rattle.bye_terms.proofs.Lists.{all_join}
use Rattle.bye_terms.proofs.Tests.{not_both}
use Rattle.bye_table.specs.Mappings.{Name, NoRepeat, Pairs, is_in, row_mapping}
use Rattle.bye_table.specs.Tables.{IsOverVars, IsTable, TableValue}
use Rattle.bye_table.proofs.Merging.{in_is, unbound}
use Rattle.bye_table.proofs.RowNames.{binds_names, once_longer}
use Rattle.bye_lex.specs.NameSteps as name
use Rattle.bye_lex.proofs.Branches.{chosen, mapped, none_some, pick_of, some_same}
use Rattle.bye_tsv.specs.DocSteps.{DocAt, start, placed, first_place, mark_place, return_place, after_name, named, name_ends, name_moves, line_ended, returned, row_ends, next_field, cell_ends, is_border, in_field, begin, place_step, step, table_of, place_final, final, IsRowOf, IsSound}
use Rattle.bye_tsv.specs.FieldSteps as field
use Rattle.bye_tsv.specs.declared.field.FieldAt.{FieldAt}
use Rattle.bye_tsv.specs.declared.field.FieldAt.TheVariants.{Empty}
use Rattle.bye_tsv.specs.declared.place.Place.{Place}
use Rattle.bye_tsv.specs.declared.place.Place.TheVariants.{Start, Mark, Name as InName, HeaderReturn, Begin, Field, Return}
use Rattle.bye_tsv.specs.Documents.{bound}

-- of a list without repeats, what stands behind does not stand before
apart : (xs : List Name) (v : Name) (ys : List Name) → EachOnce (xs ++ v ∷ ys) → In xs v → ⊥
apart [] v ys once h = h
apart (x ∷ xs) v ys once (inl e) = once.0 (in_right xs (v ∷ ys) x (inl (sym e)))
apart (x ∷ xs) v ys once (inr h) = apart xs v ys once.1 h

-- a row with one more pair
over_more : (done : List Name) (row : Pairs) (v : Name) (cell : Option Term) → IsOverVars done row → IsOverVars (done ++ v ∷ []) (row ++ bound v cell)
over_more done row v cell over w b = go (in_cases (map (λ e. e.0) row) (map (λ e. e.0) (bound v cell)) w (subst (λ ns. In ns w) (names row) ((binds_names (row ++ bound v cell) w).0 b)))
  where
    names : (row : Pairs) → map (λ e. e.0) (row ++ bound v cell) ≡ map (λ e. e.0) row ++ map (λ e. e.0) (bound v cell)
    names [] = refl
    names (e ∷ row) = ap (λ ns. e.0 ∷ ns) (names row)

    last : (cell : Option Term) → In (map (λ e. e.0) (bound v cell)) w → v ≡ w
    last None h = absurd h
    last (Some t) (inl e) = e
    last (Some t) (inr h) = absurd h

    go : In (map (λ e. e.0) row) w ⊎ In (map (λ e. e.0) (bound v cell)) w → In (done ++ v ∷ []) w
    go (inl h) = in_left done (v ∷ []) w (over w ((binds_names row w).1 h))
    go (inr h) = in_right done (v ∷ []) w (inl (last cell h))

pub more_once : (done : List Name) (row : Pairs) (v : Name) (later : List Name) (cell : Option Term) → EachOnce (done ++ v ∷ later) → IsRowOf done row → NoRepeat (row ++ bound v cell)
more_once done row v later None once of = subst NoRepeat (sym (append-nil row)) of.1
more_once done row v later (Some t) once of = once_longer row v t of.1 (unbound (row_mapping row v) (λ b. apart done v later once (of.0 v b)))

more_row : (done : List Name) (row : Pairs) (v : Name) (later : List Name) (cell : Option Term) → EachOnce (done ++ v ∷ later) → IsRowOf done row → IsRowOf (done ++ v ∷ []) (row ++ bound v cell)
more_row done row v later cell once of = (over_more done row v cell of.0, more_once done row v later cell once of)

-- the row that the present line gives with one more cell
pub fits : (d : DocAt) (v : Name) (later : List Name) (cell : Option Term) → IsSound d → d.later ≡ v ∷ later → NoRepeat (d.row ++ bound v cell)
fits d v later cell s e = more_once s.done d.row v later cell (subst EachOnce (s.parts ∙ ap (λ l. s.done ++ l) e) s.once) s.row

-- a row of variables is one of these and others
weaker : (xs ys : List Name) (row : Pairs) → IsRowOf xs row → IsRowOf (xs ++ ys) row
weaker xs ys row of = (λ v b. in_left xs ys v (of.0 v b), of.1)

all_weaker : (xs ys : List Name) (rows : List Pairs) → AllByRecursion (IsRowOf xs) rows → AllByRecursion (IsRowOf (xs ++ ys)) rows
all_weaker xs ys [] all = tt
all_weaker xs ys (row ∷ rows) all = (weaker xs ys row all.0, all_weaker xs ys rows all.1)

row_is : (d : DocAt) → IsSound d → IsRowOf d.vars d.row
row_is d s = subst (λ vars. IsRowOf vars d.row) (sym s.parts) (weaker s.done d.later d.row s.row)

empty_row : IsRowOf [] []
empty_row = (λ v b. absurd (none b), tt)
  where
    none : IsSome {T = Term} None → ⊥
    none h = cc

-- each kind of step keeps it so
pub sound_placed : (d : DocAt) (at : Place) → IsSound d → IsSound (placed d at)
sound_placed d at s = record { once = s.once; rows = s.rows; done = s.done; parts = s.parts; row = s.row }

moved : (d n : DocAt) (at : Option Place) → IsSound d → option_map (placed d) at ≡ Some n → IsSound n
moved d n at s e = let k = mapped (placed d) at n e in subst IsSound k.2 (sound_placed d k.0 s)

sound_named : (d : DocAt) (v : Name) (at : Place) → IsSound d → is_in d.vars v ≡ false → IsSound (named d v at)
sound_named d v at s f = record {
  once = once_more d.vars v s.once (λ h. not_both _ (in_is d.vars v h) f);
  rows = all_weaker d.vars (v ∷ []) d.rows s.rows;
  done = s.done;
  parts = ap (λ vs. vs ++ v ∷ []) s.parts ∙ append_assoc s.done d.later (v ∷ []);
  row = s.row;
}

name_ended : (d n : DocAt) (o : Option Name) (at : Place) → IsSound d → name_ends d o at ≡ Some n → IsSound n
name_ended d n None at s e = none_some e
name_ended d n (Some v) at s e = go (is_in d.vars v) refl e
  where
    go : (b : Bool) → is_in d.vars v ≡ b → cond b None (Some (named d v at)) ≡ Some n → IsSound n
    go true f k = none_some k
    go false f k = subst IsSound (some_same k) (sound_named d v at s f)

sound_ended : (d : DocAt) (row : Pairs) → IsSound d → IsRowOf d.vars row → IsSound (line_ended d row)
sound_ended d row s of = record { once = s.once; rows = all_join (IsRowOf d.vars) d.rows (row ∷ []) s.rows (of, tt); done = []; parts = refl; row = empty_row }

row_ended : (d n : DocAt) (c : ℕ) (row : Pairs) → IsSound d → IsRowOf d.vars row → row_ends d c row ≡ Some n → IsSound n
row_ended d n c row s of e =
    pick_of {P = IsSound n} (c == 10) (line_ended d row) n _ e (λ b k. subst IsSound (sym k) (sound_ended d row s of))
    (λ e. pick_of {P = IsSound n} (c == 13) (returned d row) n None e
    (λ b k. subst IsSound (sym k) (record { once = s.once; rows = s.rows; done = d.vars; parts = sym (append-nil d.vars); row = of }))
    (λ k. none_some k))

cell_ended : (d n : DocAt) (c : ℕ) (later : List Name) (o : Option (Option Term)) → IsSound d → d.later ≡ later → cell_ends d c later o ≡ Some n → IsSound n
cell_ended d n c later None s l e = none_some e
cell_ended d n c [] (Some cell) s l e = none_some e
cell_ended d n c (v ∷ []) (Some cell) s l e =
    let parts = s.parts ∙ ap (λ l. s.done ++ l) l in
    row_ended d n c (d.row ++ bound v cell) s (subst (λ vars. IsRowOf vars (d.row ++ bound v cell)) (sym parts) (more_row s.done d.row v [] cell (subst EachOnce parts s.once) s.row)) e
cell_ended d n c (v ∷ w ∷ later) (Some cell) s l e =
    let parts = s.parts ∙ ap (λ l. s.done ++ l) l in
    pick_of {P = IsSound n} (c == 9) (next_field d (w ∷ later) (d.row ++ bound v cell)) n None e
    (λ b k. subst IsSound (sym k) (record {
      once = s.once;
      rows = s.rows;
      done = s.done ++ v ∷ [];
      parts = parts ∙ sym (append_assoc s.done (v ∷ []) (w ∷ later));
      row = more_row s.done d.row v (w ∷ later) cell (subst EachOnce parts s.once) s.row;
    }))
    (λ k. none_some k)

in_field_ended : (d n : DocAt) (f : FieldAt) (c : ℕ) → IsSound d → in_field d f c ≡ Some n → IsSound n
in_field_ended d n f c s e =
    ⊎_elim
    (λ (k : (is_border c ≡ true) × (cell_ends d c d.later (field.final f) ≡ Some n)). cell_ended d n c d.later (field.final f) s refl k.1)
    (λ (k : (is_border c ≡ false) × (option_map (λ n. placed d (Field n)) (field.step f c) ≡ Some n)).
    let m = mapped (λ n. placed d (Field n)) (field.step f c) n k.1 in subst IsSound m.2 (sound_placed d (Field m.0) s))
    (chosen _ _ _ _ e)

begun : (d n : DocAt) (c : ℕ) (later : List Name) → IsSound d → begin d c later ≡ Some n → IsSound n
begun d n c [] s e = row_ended d n c d.row s (row_is d s) e
begun d n c (v ∷ later) s e = in_field_ended d n Empty c s e

place_ended : (d n : DocAt) (c : ℕ) (at : Place) → IsSound d → place_step d c at ≡ Some n → IsSound n
place_ended d n c Start s e = moved d n (first_place c) s e
place_ended d n c Mark s e = moved d n (mark_place c) s e
place_ended d n c (InName at) s e = go (after_name c) e
  where
    go : (o : Option Place) → name_moves d at c o ≡ Some n → IsSound n
    go None k = let m = mapped (λ n. placed d (InName n)) (name.step at c) n k in subst IsSound m.2 (sound_placed d (InName m.0) s)
    go (Some p) k = name_ended d n (name.final at) p s k
place_ended d n c HeaderReturn s e = moved d n (return_place c) s e
place_ended d n c Begin s e = begun d n c d.later s e
place_ended d n c (Field f) s e = in_field_ended d n f c s e
place_ended d n c Return s e = pick_of {P = IsSound n} (c == 10) (line_ended d d.row) n None e (λ b k. subst IsSound (sym k) (sound_ended d d.row s (row_is d s))) (λ k. none_some k)

pub sound_step : (d n : DocAt) (c : ℕ) → IsSound d → step d c ≡ Some n → IsSound n
sound_step d n c s e = place_ended (placed d Begin) n c d.at (sound_placed d Begin s) e

pub sound_start : IsSound start
sound_start = record { once = tt; rows = tt; done = []; parts = refl; row = empty_row }

-- the table at the end
sound_table : (d : DocAt) → IsSound d → IsTable (table_of d)
sound_table d s = record { once = s.once; over = all_from (IsOverVars d.vars) d.rows (λ row h. (all_in (IsRowOf d.vars) d.rows row s.rows h).0); rows = all_from NoRepeat d.rows (λ row h. (all_in (IsRowOf d.vars) d.rows row s.rows h).1) }

ended : (d : DocAt) (at : Place) (t : TableValue) → IsSound d → place_final d at ≡ Some t → IsTable t
ended d Start t s e = none_some e
ended d Mark t s e = none_some e
ended d (InName n) t s e = let k = mapped table_of (name_ends d (name.final n) Begin) t e in subst IsTable k.2 (sound_table k.0 (name_ended d k.0 (name.final n) Begin s k.1))
ended d HeaderReturn t s e = none_some e
ended d Begin t s e = subst IsTable (some_same e) (sound_table d s)
ended d (Field f) t s e = let k = mapped table_of (cell_ends d 10 d.later (field.final f)) t e in subst IsTable k.2 (sound_table k.0 (cell_ended d k.0 10 d.later (field.final f) s refl k.1))
ended d Return t s e = none_some e

pub sound_final : (d : DocAt) (t : TableValue) → IsSound d → final d ≡ Some t → IsTable t
sound_final d t s e = ended (placed d Begin) d.at t (sound_placed d Begin s) e
