-- From the next state of a document, and what it wants, to a character and what the state before it wants.
use Rattle.std.proofs.Common.{◌≡◌, refl, ℕ, Bool, true, false, cond, ◌==◌, List, [], ◌∷◌, ◌++◌, Option, Some, None, option_map, ◌⊎◌, inl, inr, ⊎_elim, sym, ◌∙◌, ap, subst, append_assoc, append-nil}
use Rattle.bye_terms.specs.declared.term.Term.{Term}
use Rattle.bye_lex.specs.Marks.{NameToken}
use Rattle.bye_lex.specs.NameSteps as name
use Rattle.bye_lex.specs.declared.name.NameAt.{NameAt}
use Rattle.bye_lex.specs.declared.name.NameAt.TheVariants as name_at
use Rattle.bye_lex.proofs.Branches.{chosen, eqb_same, mapped, none_some, pick_of, some_same}
use Rattle.bye_lex.proofs.NameExact.{name_exact}
use Rattle.bye_lex.proofs.NameExact as name_exactly
use Rattle.bye_table.specs.Mappings.{Name, Pairs, is_in}
use Rattle.bye_table.specs.Tables.{TableValue}
use Rattle.bye_tsv.specs.DocSteps.{DocAt, placed, first_place, mark_place, return_place, after_name, named, name_ends, name_moves, line_ended, returned, row_ends, next_field, cell_ends, is_border, in_field, begin, place_step}
use Rattle.bye_tsv.specs.Documents.{IsLineEnd, Closes, EndsLine, later_names, header_text, AreNames, bound, Fields, RowThen, Rows, TsvText}
use Rattle.bye_tsv.specs.FieldSteps as field
use Rattle.bye_tsv.specs.declared.field.FieldAt.{FieldAt}
use Rattle.bye_tsv.specs.declared.field.FieldAt.TheVariants.{Empty}
use Rattle.bye_tsv.specs.declared.place.Place.{Place}
use Rattle.bye_tsv.specs.declared.place.Place.TheVariants.{Start, Mark, Name as InName, HeaderReturn, Begin, Field, Return}
use Rattle.bye_tsv.proofs.DocMeaning.{InHeader, Marked, HeaderEnd, InRows, InLine, LineEnd, FieldsLeft, LeftAt, LeftDoc, HasNoRows, IsAtBegin, GoodAt}
use Rattle.bye_tsv.proofs.FieldEnds.{may_end}
use Rattle.bye_tsv.proofs.FieldExact.{FieldLeft, GoodField, field_machine}

-- what is wanted in another state, where it is this one
at : (n m : DocAt) (t : List ℕ) (table : TableValue) → n ≡ m → LeftDoc n t table → LeftDoc m t table
at n m t table e h = subst (λ n. LeftDoc n t table) e h

-- a line that has characters may be ended by the document's end
ends_line : (c : ℕ) (line end rest : List ℕ) → Closes end rest → EndsLine (c ∷ line) end rest
ends_line c line end rest (inl e) = inl e
ends_line c line end rest (inr e) = inr (e.0, e.1, λ z. cc)

-- the front of the document
header_on : (vs : List Name) (v : Name) (more : List Name) (end rest t : List ℕ) → vs ≡ v ∷ more → Closes end rest → t ≡ v ++ (later_names more ++ (end ++ rest)) → EndsLine (header_text vs) end rest × (63 ∷ t ≡ header_text vs ++ (end ++ rest))
header_on vs v more end rest t e c p = (
  subst (λ vs. EndsLine (header_text vs) end rest) (sym e) (ends_line 63 (v ++ later_names more) end rest c),
  ap (λ t. 63 ∷ t) (p ∙ sym (append_assoc v (later_names more) (end ++ rest))) ∙ ap (λ vs. header_text vs ++ (end ++ rest)) (sym e),
)

first_back : (d : DocAt) (t : List ℕ) (table : TableValue) → d.vars ≡ [] → InHeader d.vars NameToken t table → TsvText (63 ∷ t) table
first_back d t table none h =
    let e = h.vars ∙ ap (λ vs. vs ++ h.name ∷ h.more) none in
    let k = header_on table.vars h.name h.more h.end h.rest t e h.closes (h.spelled ∙ ap (λ own. own ++ (later_names h.more ++ (h.end ++ h.rest))) h.present.0) in
    record { end = h.end; rest = h.rest; names = h.names; ends = k.0; rows = h.rows; spelled = k.1 }

empty_header : (table : TableValue) (end rest : List ℕ) → table.vars ≡ [] → AreNames table.vars → IsLineEnd end → Rows table.vars table.rows rest → TsvText (end ++ rest) table
empty_header table end rest e names is rows = record { end = end; rest = rest; names = names; ends = inl is; rows = rows; spelled = ap (λ vs. header_text vs ++ (end ++ rest)) (sym e) }

begin_back : (d n : DocAt) (c : ℕ) (t : List ℕ) (table : TableValue) → HasNoRows d → d.vars ≡ [] → AreNames d.vars → option_map (placed d) (first_place c) ≡ Some n → LeftDoc n t table → TsvText (c ∷ t) table
begin_back d n c t table g none names e h =
    let m = mapped (placed d) (first_place c) n e in
    let left : (p : Place) → m.0 ≡ p → LeftDoc (placed d p) t table = λ p k. at n (placed d p) t table (sym m.2 ∙ ap (placed d) k) h in
    pick_of {P = TsvText (c ∷ t) table} (c == 63) (InName name_at.Start) m.0 _ m.1
    (λ b k. let w : InHeader d.vars NameToken t table = left (InName name_at.Start) k in subst (λ c. TsvText (c ∷ t) table) (sym (eqb_same c 63 b)) (first_back d t table none w))
    (λ e. pick_of {P = TsvText (c ∷ t) table} (c == 10) Begin m.0 _ e
    (λ b k.
    let w : InRows d.vars d.rows t table = left Begin k in
    let rows : table.rows ≡ w.more = w.rows ∙ ap (λ rs. rs ++ w.more) g.rows in
    let after : Rows table.vars table.rows t = subst (λ vs. Rows vs table.rows t) (sym w.vars) (subst (λ rs. Rows d.vars rs t) (sym rows) w.after) in
    subst (λ c. TsvText (c ∷ t) table) (sym (eqb_same c 10 b)) (empty_header table (10 ∷ []) t (w.vars ∙ none) (subst AreNames (sym w.vars) names) (inl refl) after))
    (λ e. pick_of {P = TsvText (c ∷ t) table} (c == 13) HeaderReturn m.0 None e
    (λ b k.
    let w : HeaderEnd d.vars t table = left HeaderReturn k in
    subst (λ t. TsvText t table) (λ i. sym (eqb_same c 13 b) i ∷ sym w.spelled i) (empty_header table (13 ∷ 10 ∷ []) w.rest (w.vars ∙ none) w.names (inr refl) w.rows))
    (λ k. none_some k)))

-- a name that is over
no_more : (d : DocAt) (n : NameAt) (v : Name) (c : ℕ) (t end rest : List ℕ) (table : TableValue) → name.final n ≡ Some v → table.vars ≡ d.vars ++ v ∷ [] → AreNames table.vars → Rows table.vars table.rows rest → Closes end rest → c ∷ t ≡ end ++ rest → InHeader d.vars (name_exactly.Left n) (c ∷ t) table
no_more d n v c t end rest table f vars names rows ends p = record { own = []; name = v; more = []; end = end; rest = rest; present = name_exact.may_end n v f; closes = ends; names = names; rows = rows; vars = vars; spelled = p }

name_over : (d : DocAt) (n : NameAt) (v : Name) (c : ℕ) (t : List ℕ) (table : TableValue) (p : Place) → HasNoRows d → AreNames (d.vars ++ v ∷ []) → name.final n ≡ Some v → after_name c ≡ Some p → LeftAt p (named d v p) t table → InHeader d.vars (name_exactly.Left n) (c ∷ t) table
name_over d n v c t table p g names f e h =
    let R : Type 0 = InHeader d.vars (name_exactly.Left n) (c ∷ t) table in
    let left : (q : Place) → p ≡ q → LeftAt q (named d v q) t table = λ q k. subst (λ p. LeftAt p (named d v p) t table) k h in
    pick_of {P = R} (c == 9) Mark p _ e
    (λ b k.
    let w : InHeader (d.vars ++ v ∷ []) Marked t table = left Mark k in
    let own : w.own ≡ 63 ∷ w.name = w.present.1 ∙ ap (λ t. 63 ∷ t) w.present.2.0 in
    let r : R = record {
      own = [];
      name = v;
      more = w.name ∷ w.more;
      end = w.end;
      rest = w.rest;
      present = name_exact.may_end n v f;
      closes = w.closes;
      names = w.names;
      rows = w.rows;
      vars = w.vars ∙ append_assoc d.vars (v ∷ []) (w.name ∷ w.more);
      spelled = (λ i. eqb_same c 9 b i ∷ w.spelled i) ∙ ap (λ own. 9 ∷ own ++ (later_names w.more ++ (w.end ++ w.rest))) own ∙ ap (λ t. 9 ∷ 63 ∷ t) (sym (append_assoc w.name (later_names w.more) (w.end ++ w.rest)));
    } in r)
    (λ e. pick_of {P = R} (c == 10) Begin p _ e
    (λ b k.
    let w : InRows (d.vars ++ v ∷ []) d.rows t table = left Begin k in
    let rows : table.rows ≡ w.more = w.rows ∙ ap (λ rs. rs ++ w.more) g.rows in
    let after : Rows table.vars table.rows t = subst (λ vs. Rows vs table.rows t) (sym w.vars) (subst (λ rs. Rows (d.vars ++ v ∷ []) rs t) (sym rows) w.after) in
    no_more d n v c t (10 ∷ []) t table f w.vars (subst AreNames (sym w.vars) names) after (inl (inl refl)) (ap (λ c. c ∷ t) (eqb_same c 10 b)))
    (λ e. pick_of {P = R} (c == 13) HeaderReturn p None e
    (λ b k.
    let w : HeaderEnd (d.vars ++ v ∷ []) t table = left HeaderReturn k in
    no_more d n v c t (13 ∷ 10 ∷ []) w.rest table f w.vars w.names w.rows (inl (inr refl)) (λ i. eqb_same c 13 b i ∷ w.spelled i))
    (λ k. none_some k)))

-- where a name that is over leads
pub name_ended : (d n : DocAt) (o : Option Name) (p : Place) → name_ends d o p ≡ Some n → (v : Name) × (o ≡ Some v) × (is_in d.vars v ≡ false) × (named d v p ≡ n)
name_ended d n None p e = none_some e
name_ended d n (Some v) p e = go (is_in d.vars v) refl e
  where
    go : (b : Bool) → is_in d.vars v ≡ b → cond b None (Some (named d v p)) ≡ Some n → (w : Name) × (Some v ≡ Some w) × (is_in d.vars w ≡ false) × (named d w p ≡ n)
    go true f k = none_some k
    go false f k = (v, refl, f, some_same k)

name_back : (d n : DocAt) (q : NameAt) (c : ℕ) (t : List ℕ) (table : TableValue) → HasNoRows d → ((v : Name) → name.final q ≡ Some v → is_in d.vars v ≡ false → AreNames (d.vars ++ v ∷ [])) → place_step d c (InName q) ≡ Some n → LeftDoc n t table → InHeader d.vars (name_exactly.Left q) (c ∷ t) table
name_back d n q c t table g names e h = go (after_name c) refl e
  where
    go : (o : Option Place) → after_name c ≡ o → name_moves d q c o ≡ Some n → InHeader d.vars (name_exactly.Left q) (c ∷ t) table
    go None a k =
        let m = mapped (λ n. placed d (InName n)) (name.step q c) n k in
        let w : InHeader d.vars (name_exactly.Left m.0) t table = at n (placed d (InName m.0)) t table (sym m.2) h in
        record {
          own = c ∷ w.own;
          name = w.name;
          more = w.more;
          end = w.end;
          rest = w.rest;
          present = name_exact.back q m.0 c w.own w.name (name_exactly.can q) m.1 w.present;
          closes = w.closes;
          names = w.names;
          rows = w.rows;
          vars = w.vars;
          spelled = ap (λ t. c ∷ t) w.spelled;
        }
    go (Some p) a k =
        let m = name_ended d n (name.final q) p k in
        name_over d q m.0 c t table p g (names m.0 m.1 m.2) m.1 a (at n (named d m.0 p) t table (sym m.3) h)

-- what the end of a row is
pub row_ended : (d n : DocAt) (c : ℕ) (row : Pairs) → row_ends d c row ≡ Some n → ((c ≡ 10) × (n ≡ line_ended d row)) ⊎ ((c ≡ 13) × (n ≡ returned d row))
row_ended d n c row e =
    let R : Type 0 = ((c ≡ 10) × (n ≡ line_ended d row)) ⊎ ((c ≡ 13) × (n ≡ returned d row)) in
    pick_of {P = R} (c == 10) (line_ended d row) n _ e (λ b k. inl (eqb_same c 10 b, k))
    (λ e. pick_of {P = R} (c == 13) (returned d row) n None e (λ b k. inr (eqb_same c 13 b, k)) (λ k. none_some k))

-- the line of a row that is over, and the rows after it
pub record RowOver (d : DocAt) (row : Pairs) (text : List ℕ) (table : TableValue) : Type 0 where
  pub end : List ℕ
  pub rest : List ℕ
  pub more : List Pairs
  pub ends : IsLineEnd end
  pub after : Rows d.vars more rest
  pub spelled : text ≡ end ++ rest
  pub vars : table.vars ≡ d.vars
  pub rows : table.rows ≡ d.rows ++ row ∷ more

row_over : (d n : DocAt) (c : ℕ) (row : Pairs) (t : List ℕ) (table : TableValue) → row_ends d c row ≡ Some n → LeftDoc n t table → RowOver d row (c ∷ t) table
row_over d n c row t table e h =
    ⊎_elim
    (λ (k : (c ≡ 10) × (n ≡ line_ended d row)).
    let w : InRows d.vars (d.rows ++ row ∷ []) t table = at n (line_ended d row) t table k.1 h in
    let r : RowOver d row (c ∷ t) table = record { end = 10 ∷ []; rest = t; more = w.more; ends = inl refl; after = w.after; spelled = ap (λ c. c ∷ t) k.0; vars = w.vars; rows = w.rows ∙ append_assoc d.rows (row ∷ []) w.more } in r)
    (λ (k : (c ≡ 13) × (n ≡ returned d row)).
    let w : LineEnd d.vars d.rows row t table = at n (returned d row) t table k.1 h in
    let r : RowOver d row (c ∷ t) table = record { end = 13 ∷ 10 ∷ []; rest = w.rest; more = w.more; ends = inr refl; after = w.after; spelled = λ i. k.0 i ∷ w.spelled i; vars = w.vars; rows = w.rows } in r)
    (row_ended d n c row e)

abbrev LineLeft : DocAt → FieldAt → List Name → List ℕ → TableValue → Type 0
LineLeft d f later text table = InLine d.vars d.rows d.row (FieldsLeft f later) text table

-- a field that is over
field_over : (d n : DocAt) (f : FieldAt) (c : ℕ) (t : List ℕ) (table : TableValue) (later : List Name) (cell : Option Term) → FieldLeft f [] cell → cell_ends d c later (Some cell) ≡ Some n → LeftDoc n t table → LineLeft d f later (c ∷ t) table
field_over d n f c t table [] cell is e h = none_some e
field_over d n f c t table (v ∷ []) cell is e h =
    let k = row_over d n c (d.row ++ bound v cell) t table e h in
    record {
      line = [];
      own = bound v cell;
      end = k.end;
      rest = k.rest;
      more = k.more;
      is = record { own = []; cell = cell; rest = []; more = []; first = is; after = (refl, refl); spelled = refl; binds = sym (append-nil (bound v cell)) };
      closes = inl k.ends;
      after = k.after;
      spelled = k.spelled;
      vars = k.vars;
      rows = k.rows;
    }
field_over d n f c t table (v ∷ w ∷ later) cell is e h =
    pick_of {P = LineLeft d f (v ∷ w ∷ later) (c ∷ t) table} (c == 9) (next_field d (w ∷ later) (d.row ++ bound v cell)) n None e
    (λ b k.
    let q : InLine d.vars d.rows (d.row ++ bound v cell) (FieldsLeft Empty (w ∷ later)) t table = at n (next_field d (w ∷ later) (d.row ++ bound v cell)) t table k h in
    let r : LineLeft d f (v ∷ w ∷ later) (c ∷ t) table = record {
      line = 9 ∷ q.line;
      own = bound v cell ++ q.own;
      end = q.end;
      rest = q.rest;
      more = q.more;
      is = record { own = []; cell = cell; rest = 9 ∷ q.line; more = q.own; first = is; after = record { rest = q.line; after = q.is; spelled = refl }; spelled = refl; binds = refl };
      closes = q.closes;
      after = q.after;
      spelled = λ i. eqb_same c 9 b i ∷ q.spelled i;
      vars = q.vars;
      rows = q.rows ∙ ap (λ r. d.rows ++ r ∷ q.more) (append_assoc d.row (bound v cell) q.own);
    } in r)
    (λ k. none_some k)

field_more : (f m : FieldAt) (c : ℕ) (later : List Name) (line : List ℕ) (own : Pairs) → GoodField f → field.step f c ≡ Some m → FieldsLeft m later line own → FieldsLeft f later (c ∷ line) own
field_more f m c [] line own g e h = h
field_more f m c (v ∷ later) line own g e h =
    record { own = c ∷ h.own; cell = h.cell; rest = h.rest; more = h.more; first = field_machine.back f m c h.own h.cell g e h.first; after = h.after; spelled = ap (λ t. c ∷ t) h.spelled; binds = h.binds }

field_back : (d n : DocAt) (f : FieldAt) (c : ℕ) (t : List ℕ) (table : TableValue) → GoodField f → in_field d f c ≡ Some n → LeftDoc n t table → LineLeft d f d.later (c ∷ t) table
field_back d n f c t table g e h =
    ⊎_elim
    (λ (k : (is_border c ≡ true) × (cell_ends d c d.later (field.final f) ≡ Some n)). over (field.final f) refl k.1)
    (λ (k : (is_border c ≡ false) × (option_map (λ n. placed d (Field n)) (field.step f c) ≡ Some n)).
    let m = mapped (λ n. placed d (Field n)) (field.step f c) n k.1 in
    let w : LineLeft d m.0 d.later t table = at n (placed d (Field m.0)) t table (sym m.2) h in
    let r : LineLeft d f d.later (c ∷ t) table = record { line = c ∷ w.line; own = w.own; end = w.end; rest = w.rest; more = w.more; is = field_more f m.0 c d.later w.line w.own g m.1 w.is; closes = w.closes; after = w.after; spelled = ap (λ t. c ∷ t) w.spelled; vars = w.vars; rows = w.rows } in r)
    (chosen _ _ _ _ e)
  where
    over : (o : Option (Option Term)) → field.final f ≡ o → cell_ends d c d.later o ≡ Some n → LineLeft d f d.later (c ∷ t) table
    over None k e = none_some e
    over (Some cell) k e = field_over d n f c t table d.later cell (may_end f cell k) e h

-- the beginning of a row's line
line_some : (c : ℕ) (t line end rest : List ℕ) → c ∷ t ≡ line ++ (end ++ rest) → Closes end rest → EndsLine line end rest
line_some c t line end rest p (inl e) = inl e
line_some c t line end rest p (inr e) = inr (e.0, e.1, λ z. nothing (p ∙ (λ i. z i ++ (e.0 i ++ e.1 i))))
  where
    nothing : ◌≡◌ {A = List ℕ} (c ∷ t) [] → ⊥
    nothing k = cc

row_back : (d n : DocAt) (c : ℕ) (t : List ℕ) (table : TableValue) (vars : List Name) → IsAtBegin d → d.vars ≡ vars → begin d c vars ≡ Some n → LeftDoc n t table → InRows d.vars d.rows (c ∷ t) table
row_back d n c t table [] g e s h =
    let k = row_over d n c d.row t table s h in
    let row : RowThen [] (Rows [] k.more) (c ∷ t) d.row = record { line = []; end = k.end; rest = k.rest; fields = (refl, g.row); ends = inl k.ends; after = subst (λ vs. Rows vs k.more k.rest) e k.after; spelled = k.spelled } in
    record { more = d.row ∷ k.more; after = subst (λ vs. Rows vs (d.row ∷ k.more) (c ∷ t)) (sym e) row; vars = k.vars; rows = k.rows }
row_back d n c t table (v ∷ vs) g e s h =
    let k = field_back d n Empty c t table tt s h in
    let fields : Fields (v ∷ vs) k.line k.own = subst (λ l. FieldsLeft Empty l k.line k.own) (g.later ∙ e) k.is in
    let row : RowThen (v ∷ vs) (Rows (v ∷ vs) k.more) (c ∷ t) k.own = record { line = k.line; end = k.end; rest = k.rest; fields = fields; ends = line_some c t k.line k.end k.rest k.spelled k.closes; after = subst (λ vs. Rows vs k.more k.rest) e k.after; spelled = k.spelled } in
    record { more = k.own ∷ k.more; after = subst (λ vs. Rows vs (k.own ∷ k.more) (c ∷ t)) (sym e) row; vars = k.vars; rows = k.rows ∙ ap (λ r. d.rows ++ (r ++ k.own) ∷ k.more) g.row }

pub place_back : (p : Place) (d n : DocAt) (c : ℕ) (t : List ℕ) (table : TableValue) → GoodAt p d → AreNames d.vars → ((q : NameAt) (v : Name) → p ≡ InName q → name.final q ≡ Some v → is_in d.vars v ≡ false → AreNames (d.vars ++ v ∷ [])) → place_step d c p ≡ Some n → LeftDoc n t table → LeftAt p d (c ∷ t) table
place_back Start d n c t table g names longer e h = begin_back d n c t table g.0 g.1 names e h
place_back Mark d n c t table g names longer e h =
    let m = mapped (placed d) (mark_place c) n e in
    pick_of {P = InHeader d.vars Marked (c ∷ t) table} (c == 63) (InName name_at.Start) m.0 None m.1
    (λ b k.
    let w : InHeader d.vars NameToken t table = at n (placed d (InName name_at.Start)) t table (sym m.2 ∙ ap (placed d) k) h in
    let r : InHeader d.vars Marked (c ∷ t) table = record { own = 63 ∷ w.own; name = w.name; more = w.more; end = w.end; rest = w.rest; present = (w.own, refl, w.present); closes = w.closes; names = w.names; rows = w.rows; vars = w.vars; spelled = λ i. eqb_same c 63 b i ∷ w.spelled i } in r)
    (λ k. none_some k)
place_back (InName q) d n c t table g names longer e h = name_back d n q c t table g.0 (λ v f k. longer q v refl f k) e h
place_back HeaderReturn d n c t table g names longer e h =
    let m = mapped (placed d) (return_place c) n e in
    pick_of {P = HeaderEnd d.vars (c ∷ t) table} (c == 10) Begin m.0 None m.1
    (λ b k.
    let w : InRows d.vars d.rows t table = at n (placed d Begin) t table (sym m.2 ∙ ap (placed d) k) h in
    let rows : table.rows ≡ w.more = w.rows ∙ ap (λ rs. rs ++ w.more) g.rows in
    let r : HeaderEnd d.vars (c ∷ t) table = record { rest = t; names = subst AreNames (sym w.vars) names; rows = subst (λ vs. Rows vs table.rows t) (sym w.vars) (subst (λ rs. Rows d.vars rs t) (sym rows) w.after); vars = w.vars; spelled = ap (λ c. c ∷ t) (eqb_same c 10 b) } in r)
    (λ k. none_some k)
place_back Begin d n c t table g names longer e h = row_back d n c t table d.vars g refl (ap (begin d c) (sym g.later) ∙ e) h
place_back (Field f) d n c t table g names longer e h = field_back d n f c t table g.0 e h
place_back Return d n c t table g names longer e h =
    pick_of {P = LineEnd d.vars d.rows d.row (c ∷ t) table} (c == 10) (line_ended d d.row) n None e
    (λ b k.
    let w : InRows d.vars (d.rows ++ d.row ∷ []) t table = at n (line_ended d d.row) t table k h in
    let r : LineEnd d.vars d.rows d.row (c ∷ t) table = record { rest = t; more = w.more; after = w.after; spelled = ap (λ c. c ∷ t) (eqb_same c 10 b); vars = w.vars; rows = w.rows ∙ append_assoc d.rows (d.row ∷ []) w.more } in r)
    (λ k. none_some k)
