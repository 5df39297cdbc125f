-- The machine of documents reads them.
use Rattle.std.proofs.Common.{◌≡◌, refl, ℕ, true, false, ◌==◌, List, [], ◌∷◌, ◌++◌, Option, Some, None, option_map, inl, inr, ⊎_elim, sym, ◌∙◌, ap, subst, append-nil}
use Rattle.std.specs.List.{list_all}
use Rattle.std.specs.Str.{all_scalars}
use Rattle.bye_terms.specs.Characters.{is_name_part, is_name_start}
use Rattle.bye_terms.specs.Names.{is_name}
use Rattle.bye_terms.specs.declared.term.Term.{Term}
use Rattle.bye_terms.proofs.Lists.{all_join}
use Rattle.bye_terms.proofs.Members.{once_more}
use Rattle.bye_terms.proofs.Tests.{both_parts, not_both}
use Rattle.bye_lex.specs.Languages.{Viable}
use Rattle.bye_lex.specs.Marks.{NameToken}
use Rattle.bye_lex.specs.NameSteps as name
use Rattle.bye_lex.specs.declared.name.NameAt.{NameAt}
use Rattle.bye_lex.specs.declared.name.NameAt.TheVariants as name_at
use Rattle.bye_lex.proofs.Branches.{and_true, chosen, mapped, none_some, pick_of, scalars_join, some_same, unless}
use Rattle.bye_lex.proofs.Longer.{name_longer}
use Rattle.bye_lex.proofs.Machines.{Machine}
use Rattle.bye_lex.proofs.NameExact.{name_exact}
use Rattle.bye_lex.proofs.NameExact as name_exactly
use Rattle.bye_table.specs.Mappings.{Name, Pairs, is_in}
use Rattle.bye_table.specs.Tables.{TableValue}
use Rattle.bye_table.proofs.Merging.{in_is}
use Rattle.bye_tsv.specs.DocSteps.{DocAt, start, placed, first_place, mark_place, return_place, after_name, named, name_ends, name_moves, line_ended, returned, row_ends, next_field, cell_ends, is_border, in_field, begin, place_step, step, table_of, place_final, final}
use Rattle.bye_tsv.specs.Documents.{Closes, EndsLine, later_names, header_text, AreNames, bound, LaterFields, Rows}
use Rattle.bye_tsv.specs.FieldSteps as field
use Rattle.bye_tsv.specs.declared.field.FieldAt.{FieldAt}
use Rattle.bye_tsv.specs.declared.field.FieldAt.TheVariants.{Empty}
use Rattle.bye_tsv.specs.declared.place.Place.{Place}
use Rattle.bye_tsv.specs.declared.place.Place.TheVariants.{Start, Mark, Name as InName, HeaderReturn, Begin, Field, Return}
use Rattle.bye_tsv.proofs.DocBack.{name_ended, place_back, row_ended}
use Rattle.bye_tsv.proofs.DocForth.{fresh, place_forth}
use Rattle.bye_tsv.proofs.DocMeaning.{InHeader, Marked, InLine, FieldsLeft, LeftAt, LeftDoc, GoodName, HasNoRows, HasField, GoodAt, GoodDoc}
use Rattle.bye_tsv.proofs.FieldEnds.{ends, may_end}
use Rattle.bye_tsv.proofs.FieldExact.{FieldLeft, GoodField, field_machine, can}
use Rattle.bye_tsv.proofs.FreshNames.{Fresh}
use Rattle.bye_tsv.proofs.FreshNames as name_list

-- the place of a state is looked at first
no_rows : (d : DocAt) (p : Place) → HasNoRows d → HasNoRows (placed d p)
no_rows d p g = record { rows = g.rows; row = g.row; later = g.later }

pub good_same : (p : Place) (d : DocAt) → GoodAt p d → GoodAt p (placed d Begin)
good_same Start d g = (no_rows d Begin g.0, g.1)
good_same Mark d g = no_rows d Begin g
good_same (InName n) d g = (no_rows d Begin g.0, g.1)
good_same HeaderReturn d g = no_rows d Begin g
good_same Begin d g = record { row = g.row; later = g.later }
good_same (Field f) d g = g
good_same Return d g = g

left_same : (p : Place) (d : DocAt) (t : List ℕ) (table : TableValue) → LeftAt p d t table → LeftAt p (placed d Begin) t table
left_same Start d t table h = h
left_same Mark d t table h = h
left_same (InName n) d t table h = h
left_same HeaderReturn d t table h = h
left_same Begin d t table h = h
left_same (Field f) d t table h = h
left_same Return d t table h = h

left_placed : (p : Place) (d : DocAt) (t : List ℕ) (table : TableValue) → LeftAt p (placed d Begin) t table → LeftAt p d t table
left_placed Start d t table h = h
left_placed Mark d t table h = h
left_placed (InName n) d t table h = h
left_placed HeaderReturn d t table h = h
left_placed Begin d t table h = h
left_placed (Field f) d t table h = h
left_placed Return d t table h = h

-- names
name_is : (q : NameAt) (v : Name) → GoodName q → name.final q ≡ Some v → is_name v ≡ true
name_is name_at.Start v g e = none_some e
name_is (name_at.In u) v g e = ap is_name (sym (some_same e)) ∙ g

names_longer : (d : DocAt) (v : Name) → AreNames d.vars → is_name v ≡ true → is_in d.vars v ≡ false → AreNames (d.vars ++ v ∷ [])
names_longer d v names is f = (all_join (λ v. is_name v ≡ true) d.vars (v ∷ []) names.0 (is, tt), once_more d.vars v names.1 (λ h. not_both _ (in_is d.vars v h) f))

good_name : (q m : NameAt) (c : ℕ) → GoodName q → name.step q c ≡ Some m → GoodName m
good_name name_at.Start m c g e = pick_of {P = GoodName m} (is_name_start c) (name_at.In (c ∷ [])) m None e (λ b k. subst GoodName (sym k) (and_true _ _ b refl)) (λ k. none_some k)
good_name (name_at.In v) m c g e = pick_of {P = GoodName m} (is_name_part c) (name_at.In (v ++ c ∷ [])) m None e (λ b k. subst GoodName (sym k) (name_longer v c g b)) (λ k. none_some k)

-- the next state is reached too
good : (d : DocAt) (p : Place) → AreNames d.vars → GoodAt p (placed d p) → GoodDoc (placed d p)
good d p names g = record { names = names; at = g }

after_placed : (d n : DocAt) (o : Option Place) → AreNames d.vars → ((p : Place) → o ≡ Some p → GoodAt p (placed d p)) → option_map (placed d) o ≡ Some n → GoodDoc n
after_placed d n o names g e = let m = mapped (placed d) o n e in subst GoodDoc m.2 (good d m.0 names (g m.0 m.1))

first_good : (d : DocAt) (c : ℕ) (p : Place) → HasNoRows d → first_place c ≡ Some p → GoodAt p (placed d p)
first_good d c p g e =
    pick_of {P = GoodAt p (placed d p)} (c == 63) (InName name_at.Start) p _ e (λ b k. subst (λ p. GoodAt p (placed d p)) (sym k) (no_rows d (InName name_at.Start) g, tt))
    (λ e. pick_of {P = GoodAt p (placed d p)} (c == 10) Begin p _ e (λ b k. subst (λ p. GoodAt p (placed d p)) (sym k) (record { row = g.row; later = g.later }))
    (λ e. pick_of {P = GoodAt p (placed d p)} (c == 13) HeaderReturn p None e (λ b k. subst (λ p. GoodAt p (placed d p)) (sym k) (no_rows d HeaderReturn g)) (λ k. none_some k)))

after_named : (d : DocAt) (v : Name) (c : ℕ) (p : Place) → HasNoRows d → after_name c ≡ Some p → GoodAt p (named d v p)
after_named d v c p g e =
    let rows : (p : Place) → HasNoRows (named d v p) = λ p. record { rows = g.rows; row = g.row; later = ap (λ vs. vs ++ v ∷ []) g.later } in
    pick_of {P = GoodAt p (named d v p)} (c == 9) Mark p _ e (λ b k. subst (λ p. GoodAt p (named d v p)) (sym k) (rows Mark))
    (λ e. pick_of {P = GoodAt p (named d v p)} (c == 10) Begin p _ e (λ b k. subst (λ p. GoodAt p (named d v p)) (sym k) (record { row = g.row; later = ap (λ vs. vs ++ v ∷ []) g.later }))
    (λ e. pick_of {P = GoodAt p (named d v p)} (c == 13) HeaderReturn p None e (λ b k. subst (λ p. GoodAt p (named d v p)) (sym k) (rows HeaderReturn)) (λ k. none_some k)))

row_good : (d n : DocAt) (c : ℕ) (row : Pairs) → AreNames d.vars → row_ends d c row ≡ Some n → GoodDoc n
row_good d n c row names e =
    ⊎_elim
    (λ (k : (c ≡ 10) × (n ≡ line_ended d row)). subst GoodDoc (sym k.1) (record { names = names; at = record { row = refl; later = refl } }))
    (λ (k : (c ≡ 13) × (n ≡ returned d row)). subst GoodDoc (sym k.1) (record { names = names; at = tt }))
    (row_ended d n c row e)

cell_good : (d n : DocAt) (c : ℕ) (later : List Name) (o : Option (Option Term)) → AreNames d.vars → cell_ends d c later o ≡ Some n → GoodDoc n
cell_good d n c later None names e = none_some e
cell_good d n c [] (Some cell) names e = none_some e
cell_good d n c (v ∷ []) (Some cell) names e = row_good d n c (d.row ++ bound v cell) names e
cell_good d n c (v ∷ w ∷ later) (Some cell) names e =
    pick_of {P = GoodDoc n} (c == 9) (next_field d (w ∷ later) (d.row ++ bound v cell)) n None e (λ b k. subst GoodDoc (sym k) (record { names = names; at = (tt, tt) })) (λ k. none_some k)

field_good : (d n : DocAt) (f : FieldAt) (c : ℕ) → AreNames d.vars → GoodField f → HasField d.later → in_field d f c ≡ Some n → GoodDoc n
field_good d n f c names g later e =
    ⊎_elim
    (λ (k : (is_border c ≡ true) × (cell_ends d c d.later (field.final f) ≡ Some n)). cell_good d n c d.later (field.final f) names k.1)
    (λ (k : (is_border c ≡ false) × (option_map (λ n. placed d (Field n)) (field.step f c) ≡ Some n)).
    let m = mapped (λ n. placed d (Field n)) (field.step f c) n k.1 in subst GoodDoc m.2 (record { names = names; at = (field_machine.stays f m.0 c g m.1, later) }))
    (chosen _ _ _ _ e)

begin_good : (d n : DocAt) (c : ℕ) (later : List Name) → AreNames d.vars → d.later ≡ later → begin d c later ≡ Some n → GoodDoc n
begin_good d n c [] names l e = row_good d n c d.row names e
begin_good d n c (v ∷ later) names l e = field_good d n Empty c names tt (subst HasField (sym l) tt) e

place_good : (p : Place) (d n : DocAt) (c : ℕ) → AreNames d.vars → GoodAt p d → place_step d c p ≡ Some n → GoodDoc n
place_good Start d n c names g e = after_placed d n (first_place c) names (λ p k. first_good d c p g.0 k) e
place_good Mark d n c names g e =
    after_placed d n (mark_place c) names (λ p k. pick_of {P = GoodAt p (placed d p)} (c == 63) (InName name_at.Start) p None k (λ b k. subst (λ p. GoodAt p (placed d p)) (sym k) (no_rows d (InName name_at.Start) g, tt)) (λ k. none_some k)) e
place_good (InName q) d n c names g e = go (after_name c) refl e
  where
    go : (o : Option Place) → after_name c ≡ o → name_moves d q c o ≡ Some n → GoodDoc n
    go None a k = let m = mapped (λ n. placed d (InName n)) (name.step q c) n k in subst GoodDoc m.2 (good d (InName m.0) names (no_rows d (InName m.0) g.0, good_name q m.0 c g.1 m.1))
    go (Some p) a k =
        let m = name_ended d n (name.final q) p k in
        subst GoodDoc m.3 (record { names = names_longer d m.0 names (name_is q m.0 g.1 m.1) m.2; at = after_named d m.0 c p g.0 a })
place_good HeaderReturn d n c names g e =
    after_placed d n (return_place c) names (λ p k. pick_of {P = GoodAt p (placed d p)} (c == 10) Begin p None k (λ b k. subst (λ p. GoodAt p (placed d p)) (sym k) (record { row = g.row; later = g.later })) (λ k. none_some k)) e
place_good Begin d n c names g e = begin_good d n c d.later names refl e
place_good (Field f) d n c names g e = field_good d n f c names g.0 g.1 e
place_good Return d n c names g e = pick_of {P = GoodDoc n} (c == 10) (line_ended d d.row) n None e (λ b k. subst GoodDoc (sym k) (record { names = names; at = record { row = refl; later = refl } })) (λ k. none_some k)

-- each can go on
empty_fields : (later : List Name) → (text : List ℕ) × (all_scalars text ≡ true) × LaterFields later text []
empty_fields [] = ([], refl, (refl, refl))
empty_fields (v ∷ later) =
    let k = empty_fields later in
    (9 ∷ k.0, and_true _ _ refl k.1, record { rest = k.0; after = record { own = []; cell = None; rest = k.0; more = []; first = inl (refl, refl); after = k.2; spelled = refl; binds = refl }; spelled = refl })

can_name : (d : DocAt) (Present : List ℕ → Name → Type 0) (own : List ℕ) (v : Name) → AreNames (d.vars ++ v ∷ []) → all_scalars own ≡ true → Present own v → Viable (InHeader d.vars Present) []
can_name d Present own v names s h = record {
  more = own;
  scalars = s;
  value = record { vars = d.vars ++ v ∷ []; rows = [] };
  whole = record { own = own; name = v; more = []; end = []; rest = []; present = h; closes = inr (refl, refl); names = names; rows = refl; vars = refl; spelled = sym (append-nil own) };
}

fresh_names : (d : DocAt) (front : Name) (k : Fresh d.vars front) → AreNames d.vars → is_name (front ++ 97 ∷ k.more) ≡ true → AreNames (d.vars ++ (front ++ 97 ∷ k.more) ∷ [])
fresh_names d front k names is = (all_join (λ v. is_name v ≡ true) d.vars ((front ++ 97 ∷ k.more) ∷ []) names.0 (is, tt), once_more d.vars (front ++ 97 ∷ k.more) names.1 k.out)

longer_name : (v more : List ℕ) → is_name v ≡ true → list_all is_name_part more ≡ true → is_name (v ++ more) ≡ true
longer_name [] more h k = cc
longer_name (c ∷ v) more h k = let b = both_parts _ _ h in and_true _ _ b.0 (join v b.1)
  where
    join : (v : List ℕ) → list_all is_name_part v ≡ true → list_all is_name_part (v ++ more) ≡ true
    join [] e = k
    join (x ∷ v) e = let b = both_parts _ _ e in and_true _ _ b.0 (join v b.1)

can_field : (d : DocAt) (f : FieldAt) (later : List Name) → GoodField f → HasField later → Viable (InLine d.vars d.rows d.row (FieldsLeft f later)) []
can_field d f [] g h = absurd h
can_field d f (v ∷ later) g h =
    let w = can f g in
    let k = empty_fields later in
    record {
      more = w.more ++ k.0;
      scalars = scalars_join w.more k.0 w.scalars k.1;
      value = record { vars = d.vars; rows = d.rows ++ (d.row ++ (bound v w.value ++ [])) ∷ [] };
      whole = record {
        line = w.more ++ k.0;
        own = bound v w.value ++ [];
        end = [];
        rest = [];
        more = [];
        is = record { own = w.more; cell = w.value; rest = k.0; more = []; first = w.whole; after = k.2; spelled = refl; binds = refl };
        closes = inr (refl, refl);
        after = refl;
        spelled = sym (append-nil (w.more ++ k.0));
        vars = refl;
        rows = refl;
      };
    }

can_name_on : (d : DocAt) (q : NameAt) → AreNames d.vars → GoodName q → Viable (InHeader d.vars (name_exactly.Left q)) []
can_name_on d name_at.Start names g =
    let k = name_list.fresh d.vars [] in
    let is : is_name (97 ∷ k.more) ≡ true = and_true _ _ refl (both_parts (is_name_part 97) (list_all is_name_part k.more) k.parts).1 in
    can_name d NameToken (97 ∷ k.more) (97 ∷ k.more) (fresh_names d [] k names is) k.scalars (refl, is)
can_name_on d (name_at.In v) names g =
    let k = name_list.fresh d.vars v in
    can_name d (name_exactly.Left (name_at.In v)) (97 ∷ k.more) (v ++ 97 ∷ k.more) (fresh_names d v k names (longer_name v (97 ∷ k.more) g k.parts)) k.scalars (refl, k.parts)

can_place : (p : Place) (d : DocAt) → AreNames d.vars → GoodAt p d → Viable (LeftAt p d) []
can_place Start d names g = record { more = 10 ∷ []; scalars = refl; value = record { vars = []; rows = [] }; whole = record { end = 10 ∷ []; rest = []; names = (tt, tt); ends = inl (inl refl); rows = refl; spelled = refl } }
can_place Mark d names g =
    let k = name_list.fresh d.vars [] in
    let is : is_name (97 ∷ k.more) ≡ true = and_true _ _ refl (both_parts (is_name_part 97) (list_all is_name_part k.more) k.parts).1 in
    can_name d Marked (63 ∷ 97 ∷ k.more) (97 ∷ k.more) (fresh_names d [] k names is) (and_true _ _ refl k.scalars) (97 ∷ k.more, refl, (refl, is))
can_place (InName q) d names g = can_name_on d q names g.1
can_place HeaderReturn d names g = record { more = 10 ∷ []; scalars = refl; value = record { vars = d.vars; rows = [] }; whole = record { rest = []; names = names; rows = refl; vars = refl; spelled = refl } }
can_place Begin d names g = record { more = []; scalars = refl; value = record { vars = d.vars; rows = d.rows }; whole = record { more = []; after = refl; vars = refl; rows = sym (append-nil d.rows) } }
can_place (Field f) d names g = can_field d f d.later g.0 g.1
can_place Return d names g = record { more = 10 ∷ []; scalars = refl; value = record { vars = d.vars; rows = d.rows ++ d.row ∷ [] }; whole = record { rest = []; more = []; after = refl; spelled = refl; vars = refl; rows = refl } }

back : (d n : DocAt) (c : ℕ) (t : List ℕ) (table : TableValue) → GoodDoc d → step d c ≡ Some n → LeftDoc n t table → LeftDoc d (c ∷ t) table
back d n c t table g e h =
    left_placed d.at d (c ∷ t) table (place_back d.at (placed d Begin) n c t table (good_same d.at d g.at) g.names (λ q v k f i. names_longer d v g.names (name_is q v (at_name q d.at g.at k) f) i) e h)
  where
    at_name : (q : NameAt) (p : Place) → GoodAt p d → p ≡ InName q → GoodName q
    at_name q Start g k = cc
    at_name q Mark g k = cc
    at_name q (InName r) g k = subst GoodName (same k) g.1
      where
        same : InName r ≡ InName q → r ≡ q
        same k = cc
    at_name q HeaderReturn g k = cc
    at_name q Begin g k = cc
    at_name q (Field f) g k = cc
    at_name q Return g k = cc

pub doc_machine : Machine LeftDoc step GoodDoc
doc_machine = record {
  forth = λ d c t table g h. place_forth d.at (placed d Begin) c t table (good_same d.at d g.at) (left_same d.at d (c ∷ t) table h);
  back = back;
  stays = λ d n c g e. place_good d.at (placed d Begin) n c g.names (good_same d.at d g.at) e;
  can = λ d g. can_place d.at d g.names g.at;
}

pub good_start : GoodDoc start
good_start = record { names = (tt, tt); at = (record { rows = refl; row = refl; later = refl }, refl) }

-- where the document may end
nothing_in : (c : ℕ) (t : List ℕ) → ◌≡◌ {A = List ℕ} [] (c ∷ t) → ⊥
nothing_in c t e = cc

no_end : (end rest : List ℕ) → Closes end rest → ◌≡◌ {A = List ℕ} [] (end ++ rest) → (end ≡ []) × (rest ≡ [])
no_end end rest (inl (inl e)) p = absurd (nothing_in 10 rest (p ∙ ap (λ end. end ++ rest) e))
no_end end rest (inl (inr e)) p = absurd (nothing_in 13 (10 ∷ rest) (p ∙ ap (λ end. end ++ rest) e))
no_end end rest (inr e) p = e

-- no rows stand in nothing
no_rows_in : (vars : List Name) (rows : List Pairs) (text : List ℕ) → text ≡ [] → Rows vars rows text → rows ≡ []
no_rows_in vars [] text e h = refl
no_rows_in vars (row ∷ rows) text e h = absurd (row_some h.line h.end h.rest h.ends (sym e ∙ h.spelled))
  where
    row_some : (line end rest : List ℕ) → EndsLine line end rest → ◌≡◌ {A = List ℕ} [] (line ++ (end ++ rest)) → ⊥
    row_some [] end rest (inl k) p = ⊎_elim (λ e. nothing_in 10 rest (p ∙ ap (λ end. end ++ rest) e)) (λ e. nothing_in 13 (10 ∷ rest) (p ∙ ap (λ end. end ++ rest) e)) k
    row_some [] end rest (inr k) p = k.2 refl
    row_some (c ∷ line) end rest k p = nothing_in c (line ++ (end ++ rest)) p

table_is : (table : TableValue) (vars : List Name) (rows : List Pairs) → table.vars ≡ vars → table.rows ≡ rows → record { vars = vars; rows = rows } ≡ table
table_is table vars rows e f = λ i. record { vars = sym e i; rows = sym f i }

-- a name at the end of the document
name_done : (d : DocAt) (q : NameAt) (own : List ℕ) (table : TableValue) (h : InHeader d.vars (name_exactly.Left q) [] table) → HasNoRows d → name_exactly.Left q own h.name → ◌≡◌ {A = List ℕ} [] (own ++ (later_names h.more ++ (h.end ++ h.rest))) → place_final d (InName q) ≡ Some table
name_done d q (c ∷ own) table h g k p = absurd (nothing_in c _ p)
name_done d q [] table h g k p = go h.more h.vars p
  where
    go : (more : List Name) → table.vars ≡ d.vars ++ h.name ∷ more → ◌≡◌ {A = List ℕ} [] (later_names more ++ (h.end ++ h.rest)) → place_final d (InName q) ≡ Some table
    go (w ∷ more) e p = absurd (nothing_in 9 _ p)
    go [] e p =
        let z = no_end h.end h.rest h.closes p in
        ap (λ o. option_map table_of (name_ends d o Begin)) (name_exact.ends q h.name k)
        ∙ ap (option_map table_of) (unless _ _ _ _ (fresh d h.name [] table h.names e) refl)
        ∙ ap Some (table_is table (d.vars ++ h.name ∷ []) d.rows e (no_rows_in table.vars table.rows h.rest z.1 h.rows ∙ sym g.rows))

-- a row at the end of the document
field_done : (d : DocAt) (f : FieldAt) (table : TableValue) (later : List Name) (h : InLine d.vars d.rows d.row (FieldsLeft f d.later) [] table) → d.later ≡ later → FieldsLeft f later h.line h.own → ◌≡◌ {A = List ℕ} [] (h.line ++ (h.end ++ h.rest)) → place_final d (Field f) ≡ Some table
field_done d f table [] h l k p = absurd k
field_done d f table (v ∷ later) h l k p = go later l k.own k.cell k.rest k.more k.first k.after k.binds (p ∙ ap (λ line. line ++ (h.end ++ h.rest)) k.spelled)
  where
    go : (later : List Name) → d.later ≡ v ∷ later → (own : List ℕ) (cell : Option Term) (rest : List ℕ) (more : Pairs) → FieldLeft f own cell → LaterFields later rest more → h.own ≡ bound v cell ++ more → ◌≡◌ {A = List ℕ} [] ((own ++ rest) ++ (h.end ++ h.rest)) → place_final d (Field f) ≡ Some table
    go later l (c ∷ own) cell rest more is k b p = absurd (nothing_in c _ p)
    go (w ∷ later) l [] cell rest more is k b p = absurd (nothing_in 9 _ (p ∙ ap (λ rest. rest ++ (h.end ++ h.rest)) k.spelled))
    go [] l [] cell rest more is k b p =
        let z = no_end h.end h.rest h.closes (p ∙ ap (λ rest. rest ++ (h.end ++ h.rest)) k.0) in
        let row : d.row ++ h.own ≡ d.row ++ bound v cell = ap (λ o. d.row ++ o) (b ∙ ap (λ m. bound v cell ++ m) k.1 ∙ append-nil (bound v cell)) in
        let none = no_rows_in d.vars h.more h.rest z.1 h.after in
        ap (option_map table_of) ((λ i. cell_ends d 10 (l i) (ends f cell is i)))
        ∙ ap Some (table_is table d.vars (d.rows ++ (d.row ++ bound v cell) ∷ []) h.vars (h.rows ∙ (λ i. d.rows ++ row i ∷ none i)))

place_ends : (p : Place) (d : DocAt) (table : TableValue) → GoodAt p d → LeftAt p d [] table → place_final d p ≡ Some table
place_ends Start d table g h = absurd (nothing table.vars h.ends h.spelled)
  where
    nothing : (vars : List Name) → EndsLine (header_text vars) h.end h.rest → ◌≡◌ {A = List ℕ} [] (header_text vars ++ (h.end ++ h.rest)) → ⊥
    nothing (v ∷ vars) k p = nothing_in 63 _ p
    nothing [] (inl (inl e)) p = nothing_in 10 h.rest (p ∙ ap (λ end. end ++ h.rest) e)
    nothing [] (inl (inr e)) p = nothing_in 13 (10 ∷ h.rest) (p ∙ ap (λ end. end ++ h.rest) e)
    nothing [] (inr k) p = k.2 refl
place_ends Mark d table g h = absurd (nothing_in 63 _ (h.spelled ∙ ap (λ own. own ++ (later_names h.more ++ (h.end ++ h.rest))) h.present.1))
place_ends (InName q) d table g h = name_done d q h.own table h g.0 h.present h.spelled
place_ends HeaderReturn d table g h = absurd (nothing_in 10 h.rest h.spelled)
place_ends Begin d table g h = ap Some (table_is table d.vars d.rows h.vars (h.rows ∙ ap (λ m. d.rows ++ m) (no_rows_in d.vars h.more [] refl h.after) ∙ append-nil d.rows))
place_ends (Field f) d table g h = field_done d f table d.later h refl h.is h.spelled
place_ends Return d table g h = absurd (nothing_in 10 h.rest h.spelled)

pub doc_ends : (d : DocAt) (table : TableValue) → GoodDoc d → LeftDoc d [] table → final d ≡ Some table
doc_ends d table g h = place_ends d.at (placed d Begin) table (good_same d.at d g.at) (left_same d.at d [] table h)

cell_may : (d : DocAt) (f : FieldAt) (later : List Name) (o : Option (Option Term)) (table : TableValue) → field.final f ≡ o → option_map table_of (cell_ends d 10 later o) ≡ Some table → InLine d.vars d.rows d.row (FieldsLeft f later) [] table
cell_may d f later None table k e = none_some e
cell_may d f [] (Some cell) table k e = none_some e
cell_may d f (v ∷ w ∷ later) (Some cell) table k e = none_some e
cell_may d f (v ∷ []) (Some cell) table k e =
    let same : table_of (line_ended d (d.row ++ bound v cell)) ≡ table = some_same e in
    record {
      line = [];
      own = bound v cell;
      end = [];
      rest = [];
      more = [];
      is = record { own = []; cell = cell; rest = []; more = []; first = may_end f cell k; after = (refl, refl); spelled = refl; binds = sym (append-nil (bound v cell)) };
      closes = inr (refl, refl);
      after = refl;
      spelled = refl;
      vars = ap (λ (t : TableValue). t.vars) (sym same);
      rows = ap (λ (t : TableValue). t.rows) (sym same);
    }

place_may_end : (p : Place) (d : DocAt) (table : TableValue) → AreNames d.vars → GoodAt p d → place_final d p ≡ Some table → LeftAt p d [] table
place_may_end Start d table names g e = none_some e
place_may_end Mark d table names g e = none_some e
place_may_end (InName q) d table names g e =
    let m = mapped table_of (name_ends d (name.final q) Begin) table e in
    let k = name_ended d m.0 (name.final q) Begin m.1 in
    let same : table_of (named d k.0 Begin) ≡ table = ap table_of k.3 ∙ m.2 in
    let longer = names_longer d k.0 names (name_is q k.0 g.1 k.1) k.2 in
    let rows : table.rows ≡ [] = ap (λ (t : TableValue). t.rows) (sym same) ∙ g.0.rows in
    record {
      own = [];
      name = k.0;
      more = [];
      end = [];
      rest = [];
      present = name_exact.may_end q k.0 k.1;
      closes = inr (refl, refl);
      names = subst (λ (t : TableValue). AreNames t.vars) same longer;
      rows = subst (λ rows. Rows table.vars rows []) (sym rows) refl;
      vars = ap (λ (t : TableValue). t.vars) (sym same);
      spelled = refl;
    }
place_may_end HeaderReturn d table names g e = none_some e
place_may_end Begin d table names g e =
    let same : table_of d ≡ table = some_same e in
    record { more = []; after = refl; vars = ap (λ (t : TableValue). t.vars) (sym same); rows = ap (λ (t : TableValue). t.rows) (sym same) ∙ sym (append-nil d.rows) }
place_may_end (Field f) d table names g e = cell_may d f d.later (field.final f) table refl e
place_may_end Return d table names g e = none_some e

pub doc_may_end : (d : DocAt) (table : TableValue) → GoodDoc d → final d ≡ Some table → LeftDoc d [] table
doc_may_end d table g e = left_placed d.at d [] table (place_may_end d.at (placed d Begin) table g.names (good_same d.at d g.at) e)
