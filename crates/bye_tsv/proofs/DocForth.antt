-- From a character of a document, and what a state wants, to the next state and what it wants.
use Rattle.std.proofs.Common.{◌≡◌, refl, ℕ, Bool, true, false, ◌==◌, ◌||◌, List, [], ◌∷◌, ◌++◌, Option, Some, None, option_map, ◌⊎◌, inl, inr, ⊎_elim, sym, ◌∙◌, ap, subst, append_assoc, append-nil}
use Rattle.bye_terms.specs.Characters.{is_name_part, is_name_start}
use Rattle.bye_terms.specs.Members.{EachOnce, In}
use Rattle.bye_terms.specs.Names.{is_name}
use Rattle.bye_terms.specs.declared.term.Term.{Term}
use Rattle.bye_terms.proofs.Lists.{all_parts}
use Rattle.bye_terms.proofs.Members.{in_right}
use Rattle.bye_terms.proofs.Tests.{bool_cases}
use Rattle.bye_lex.specs.NameSteps as name
use Rattle.bye_lex.specs.declared.name.NameAt.{NameAt}
use Rattle.bye_lex.specs.declared.name.NameAt.TheVariants as name_at
use Rattle.bye_lex.proofs.Branches.{eqb_same, heads, never, none_some, pick_of, same_eqb, unless, when}
use Rattle.bye_lex.proofs.Embedding.{Onward}
use Rattle.bye_lex.proofs.NameExact.{name_exact}
use Rattle.bye_lex.proofs.NameExact as name_exactly
use Rattle.bye_table.specs.Mappings.{Name, Pairs, is_in}
use Rattle.bye_table.specs.Tables.{TableValue}
use Rattle.bye_table.proofs.Merging.{is_in_in}
use Rattle.bye_tsv.specs.DocSteps.{DocAt, placed, first_place, mark_place, return_place, after_name, named, name_ends, name_moves, line_ended, returned, row_ends, next_field, cell_ends, is_border, in_field, begin, place_step}
use Rattle.bye_tsv.specs.Documents.{Closes, EndsLine, later_names, header_text, AreNames, bound, LaterFields, RowThen, Rows}
use Rattle.bye_tsv.specs.FieldSteps as field
use Rattle.bye_tsv.specs.declared.field.FieldAt.{FieldAt}
use Rattle.bye_tsv.specs.declared.field.FieldAt.TheVariants.{Empty}
use Rattle.bye_tsv.specs.declared.place.Place.{Place}
use Rattle.bye_tsv.specs.declared.place.Place.TheVariants.{Start, Mark, Name as InName, HeaderReturn, Begin, Field, Return}
use Rattle.bye_tsv.proofs.DocMeaning.{InHeader, InLine, FieldsLeft, LeftAt, LeftDoc, HasNoRows, IsAtBegin, GoodAt}
use Rattle.bye_tsv.proofs.FieldEnds.{IsBorder, ends, stops}
use Rattle.bye_tsv.proofs.FieldExact.{FieldLeft, GoodField, field_machine}

abbrev Next : Option DocAt → List ℕ → TableValue → Type 0
Next o t table = Onward LeftDoc o t table

-- the first character of a line's end
abbrev Ended : ℕ → List ℕ → List ℕ → Type 0
Ended c t rest = ((c ≡ 10) × (t ≡ rest)) ⊎ ((c ≡ 13) × (t ≡ 10 ∷ rest))

closes_first : (c : ℕ) (t end rest : List ℕ) → Closes end rest → c ∷ t ≡ end ++ rest → Ended c t rest
closes_first c t end rest (inl (inl e)) p = inl (heads c 10 t rest (p ∙ ap (λ end. end ++ rest) e))
closes_first c t end rest (inl (inr e)) p = inr (heads c 13 t (10 ∷ rest) (p ∙ ap (λ end. end ++ rest) e))
closes_first c t end rest (inr (e, r)) p = let z : ◌≡◌ {A = List ℕ} (c ∷ t) [] = p ∙ (λ i. e i ++ r i) in cc

pub closes : (line end rest : List ℕ) → EndsLine line end rest → Closes end rest
closes line end rest (inl e) = inl e
closes line end rest (inr e) = inr (e.0, e.1)

-- the front of the document
begin_forth : (d : DocAt) (c : ℕ) (t : List ℕ) (table : TableValue) (vars : List Name) (end rest : List ℕ) → HasNoRows d → d.vars ≡ [] → AreNames table.vars → table.vars ≡ vars → EndsLine (header_text vars) end rest → Rows table.vars table.rows rest
    → c ∷ t ≡ header_text vars ++ (end ++ rest) → Next (option_map (placed d) (first_place c)) t table
begin_forth d c t table [] end rest g none names e ends rows p =
    let vars : table.vars ≡ d.vars = e ∙ sym none in
    let R : Type 0 = Next (option_map (placed d) (first_place c)) t table in
    ⊎_elim
    (λ (k : (c ≡ 10) × (t ≡ rest)).
    let r : R = (placed d Begin, ap (λ c. option_map (placed d) (first_place c)) k.0, record { more = table.rows; after = subst (λ t. Rows d.vars table.rows t) (sym k.1) (subst (λ vs. Rows vs table.rows rest) vars rows); vars = vars; rows = ap (λ rs. rs ++ table.rows) (sym g.rows) }) in r)
    (λ (k : (c ≡ 13) × (t ≡ 10 ∷ rest)). let r : R = (placed d HeaderReturn, ap (λ c. option_map (placed d) (first_place c)) k.0, record { rest = rest; names = names; rows = rows; vars = vars; spelled = k.1 }) in r)
    (closes_first c t end rest (closes [] end rest ends) p)
begin_forth d c t table (v ∷ vs) end rest g none names e ends rows p =
    let k = heads c 63 t ((v ++ later_names vs) ++ (end ++ rest)) p in (
      placed d (InName name_at.Start),
      ap (λ c. option_map (placed d) (first_place c)) k.0,
      record {
        own = v;
        name = v;
        more = vs;
        end = end;
        rest = rest;
        present = (refl, (subst AreNames e names).0.0);
        closes = closes (header_text (v ∷ vs)) end rest ends;
        names = names;
        rows = rows;
        vars = e ∙ ap (λ us. us ++ v ∷ vs) (sym none);
        spelled = k.1 ∙ append_assoc v (later_names vs) (end ++ rest);
      },
    )

-- a name
pub name_apart : (n m : NameAt) (c : ℕ) → name.step n c ≡ Some m → after_name c ≡ None
name_apart name_at.Start m c e = pick_of _ _ _ _ e (λ b k. apart is_name_start b refl refl refl) (λ k. none_some k)
  where
    apart : (p : ℕ → Bool) → p c ≡ true → p 9 ≡ false → p 10 ≡ false → p 13 ≡ false → after_name c ≡ None
    apart p h x y z = unless _ _ _ _ (never p 9 c x h) (unless _ _ _ _ (never p 10 c y h) (unless _ _ _ _ (never p 13 c z h) refl))
name_apart (name_at.In v) m c e = pick_of _ _ _ _ e (λ b k. apart is_name_part b refl refl refl) (λ k. none_some k)
  where
    apart : (p : ℕ → Bool) → p c ≡ true → p 9 ≡ false → p 10 ≡ false → p 13 ≡ false → after_name c ≡ None
    apart p h x y z = unless _ _ _ _ (never p 9 c x h) (unless _ _ _ _ (never p 10 c y h) (unless _ _ _ _ (never p 13 c z h) refl))

-- of names without repeats, one does not stand among those before it
before_once : (vs : List Name) (v : Name) (ws : List Name) → EachOnce (vs ++ v ∷ ws) → In vs v → ⊥
before_once (u ∷ vs) v ws once (inl e) = once.0 (in_right vs (v ∷ ws) u (inl (sym e)))
before_once (u ∷ vs) v ws once (inr h) = before_once vs v ws once.1 h
before_once [] v ws once h = h

pub fresh : (d : DocAt) (v : Name) (ws : List Name) (table : TableValue) → AreNames table.vars → table.vars ≡ d.vars ++ v ∷ ws → is_in d.vars v ≡ false
fresh d v ws table names e =
    ⊎_elim (λ (k : is_in d.vars v ≡ true). absurd (before_once d.vars v ws (subst EachOnce e names.1) (is_in_in d.vars v k))) (λ k. k) (bool_cases (is_in d.vars v))

named_on : (d : DocAt) (n : NameAt) (v : Name) (ws : List Name) (table : TableValue) (c : ℕ) (at : Place) → AreNames table.vars → table.vars ≡ d.vars ++ v ∷ ws → name.final n ≡ Some v → after_name c ≡ Some at → place_step d c (InName n) ≡ Some (named d v at)
named_on d n v ws table c at names e f a = ap (name_moves d n c) a ∙ ap (λ o. name_ends d o at) f ∙ unless _ _ _ _ (fresh d v ws table names e) refl

name_over : (d : DocAt) (n : NameAt) (c : ℕ) (t : List ℕ) (table : TableValue) (v : Name) (more : List Name) (end rest : List ℕ) → HasNoRows d → name.final n ≡ Some v → AreNames table.vars → table.vars ≡ d.vars ++ v ∷ more → Closes end rest → Rows table.vars table.rows rest
    → c ∷ t ≡ later_names more ++ (end ++ rest) → Next (place_step d c (InName n)) t table
name_over d n c t table v [] end rest g f names e ends rows p =
    let R : Type 0 = Next (place_step d c (InName n)) t table in
    ⊎_elim
    (λ (k : (c ≡ 10) × (t ≡ rest)).
    let r : R = (
      named d v Begin,
      named_on d n v [] table c Begin names e f (ap after_name k.0),
      record { more = table.rows; after = subst (λ t. Rows (d.vars ++ v ∷ []) table.rows t) (sym k.1) (subst (λ vs. Rows vs table.rows rest) e rows); vars = e; rows = ap (λ rs. rs ++ table.rows) (sym g.rows) },
    ) in r)
    (λ (k : (c ≡ 13) × (t ≡ 10 ∷ rest)).
    let r : R = (named d v HeaderReturn, named_on d n v [] table c HeaderReturn names e f (ap after_name k.0), record { rest = rest; names = names; rows = rows; vars = e; spelled = k.1 }) in r)
    (closes_first c t end rest ends p)
name_over d n c t table v (w ∷ more) end rest g f names e ends rows p =
    let k = heads c 9 t ((63 ∷ w ++ later_names more) ++ (end ++ rest)) p in
    let whole = e ∙ sym (append_assoc d.vars (v ∷ []) (w ∷ more)) in (
      named d v Mark,
      named_on d n v (w ∷ more) table c Mark names e f (ap after_name k.0),
      record {
        own = 63 ∷ w;
        name = w;
        more = more;
        end = end;
        rest = rest;
        present = (w, refl, (refl, (all_parts (λ v. is_name v ≡ true) (d.vars ++ v ∷ []) (w ∷ more) (subst AreNames whole names).0).1.0));
        closes = ends;
        names = names;
        rows = rows;
        vars = whole;
        spelled = k.1 ∙ ap (λ t. 63 ∷ t) (append_assoc w (later_names more) (end ++ rest));
      },
    )

name_forth : (d : DocAt) (n : NameAt) (c : ℕ) (t : List ℕ) (table : TableValue) (own : List ℕ) (h : InHeader d.vars (name_exactly.Left n) (c ∷ t) table) → HasNoRows d → name_exactly.Left n own h.name → c ∷ t ≡ own ++ (later_names h.more ++ (h.end ++ h.rest)) → Next (place_step d c (InName n)) t table
name_forth d n c t table [] h g k p = name_over d n c t table h.name h.more h.end h.rest g (name_exact.ends n h.name k) h.names h.vars h.closes h.rows p
name_forth d n c t table (x ∷ own) h g k p =
    let q = heads c x t (own ++ (later_names h.more ++ (h.end ++ h.rest))) p in
    let m = name_exact.forth n x own h.name k in
    let on : name.step n c ≡ Some m.0 = ap (name.step n) q.0 ∙ m.1 in (
      placed d (InName m.0),
      ap (name_moves d n c) (name_apart n m.0 c on) ∙ ap (option_map (λ n. placed d (InName n))) on,
      record { own = own; name = h.name; more = h.more; end = h.end; rest = h.rest; present = m.2; closes = h.closes; names = h.names; rows = h.rows; vars = h.vars; spelled = q.1 },
    )

-- a field
pub border : (c : ℕ) → is_border c ≡ true → IsBorder c
border c e = go (c == 9) (c == 10) (c == 13) refl refl refl e
  where
    go : (x y z : Bool) → (c == 9) ≡ x → (c == 10) ≡ y → (c == 13) ≡ z → (x || (y || z)) ≡ true → IsBorder c
    go true y z a b d e = inl (eqb_same c 9 a)
    go false true z a b d e = inr (inl (eqb_same c 10 b))
    go false false true a b d e = inr (inr (eqb_same c 13 d))
    go false false false a b d e = cc

pub no_border : (f m : FieldAt) (c : ℕ) → GoodField f → field.step f c ≡ Some m → is_border c ≡ false
no_border f m c g e = ⊎_elim (λ (k : is_border c ≡ true). none_some (sym (stops f g c (border c k)) ∙ e)) (λ k. k) (bool_cases (is_border c))

-- a field that is over
over_is : (d : DocAt) (f : FieldAt) (c : ℕ) (later : List Name) (cell : Option Term) → is_border c ≡ true → d.later ≡ later → field.final f ≡ Some cell → in_field d f c ≡ cell_ends d c later (Some cell)
over_is d f c later cell b l e = when _ _ _ b ∙ (λ i. cell_ends d c (l i) (e i))

field_over : (d : DocAt) (f : FieldAt) (c : ℕ) (t : List ℕ) (table : TableValue) (v : Name) (later : List Name) (h : InLine d.vars d.rows d.row (FieldsLeft f d.later) (c ∷ t) table) (cell : Option Term) (rest : List ℕ) (more : Pairs) → d.later ≡ v ∷ later → field.final f ≡ Some cell
    → LaterFields later rest more → h.own ≡ bound v cell ++ more → c ∷ t ≡ rest ++ (h.end ++ h.rest) → Next (in_field d f c) t table
field_over d f c t table v [] h cell rest more l e k own p =
    let R : Type 0 = Next (in_field d f c) t table in
    let row : d.row ++ h.own ≡ d.row ++ bound v cell = ap (λ o. d.row ++ o) (own ∙ ap (λ m. bound v cell ++ m) k.1 ∙ append-nil (bound v cell)) in
    let rows : table.rows ≡ d.rows ++ (d.row ++ bound v cell) ∷ h.more = h.rows ∙ ap (λ r. d.rows ++ r ∷ h.more) row in
    ⊎_elim
    (λ (q : (c ≡ 10) × (t ≡ h.rest)).
    let r : R = (
      line_ended d (d.row ++ bound v cell),
      over_is d f c (v ∷ []) cell (ap is_border q.0) l e ∙ ap (λ c. row_ends d c (d.row ++ bound v cell)) q.0,
      record { more = h.more; after = subst (λ t. Rows d.vars h.more t) (sym q.1) h.after; vars = h.vars; rows = rows ∙ sym (append_assoc d.rows ((d.row ++ bound v cell) ∷ []) h.more) },
    ) in r)
    (λ (q : (c ≡ 13) × (t ≡ 10 ∷ h.rest)).
    let r : R = (
      returned d (d.row ++ bound v cell),
      over_is d f c (v ∷ []) cell (ap is_border q.0) l e ∙ ap (λ c. row_ends d c (d.row ++ bound v cell)) q.0,
      record { rest = h.rest; more = h.more; after = h.after; spelled = q.1; vars = h.vars; rows = rows },
    ) in r)
    (closes_first c t h.end h.rest h.closes (p ∙ ap (λ rest. rest ++ (h.end ++ h.rest)) k.0))
field_over d f c t table v (w ∷ later) h cell rest more l e k own p =
    let q = heads c 9 t (k.rest ++ (h.end ++ h.rest)) (p ∙ ap (λ rest. rest ++ (h.end ++ h.rest)) k.spelled) in (
      next_field d (w ∷ later) (d.row ++ bound v cell),
      over_is d f c (v ∷ w ∷ later) cell (ap is_border q.0) l e ∙ when _ _ _ (same_eqb c 9 q.0),
      record {
        line = k.rest;
        own = more;
        end = h.end;
        rest = h.rest;
        more = h.more;
        is = k.after;
        closes = h.closes;
        after = h.after;
        spelled = q.1;
        vars = h.vars;
        rows = h.rows ∙ ap (λ r. d.rows ++ r ∷ h.more) (ap (λ o. d.row ++ o) own ∙ sym (append_assoc d.row (bound v cell) more));
      },
    )

field_on : (d : DocAt) (f : FieldAt) (c : ℕ) (t : List ℕ) (table : TableValue) (v : Name) (later : List Name) (h : InLine d.vars d.rows d.row (FieldsLeft f d.later) (c ∷ t) table) (own : List ℕ) (cell : Option Term) (rest : List ℕ) (more : Pairs) → GoodField f → d.later ≡ v ∷ later
    → FieldLeft f own cell → LaterFields later rest more → h.own ≡ bound v cell ++ more → c ∷ t ≡ own ++ (rest ++ (h.end ++ h.rest)) → Next (in_field d f c) t table
field_on d f c t table v later h [] cell rest more g l is k own p = field_over d f c t table v later h cell rest more l (ends f cell is) k own p
field_on d f c t table v later h (x ∷ xs) cell rest more g l is k own p =
    let q = heads c x t (xs ++ (rest ++ (h.end ++ h.rest))) p in
    let m = field_machine.forth f x xs cell g is in
    let on : field.step f c ≡ Some m.0 = ap (field.step f) q.0 ∙ m.1 in
    let left : FieldsLeft m.0 (v ∷ later) (xs ++ rest) h.own = record { own = xs; cell = cell; rest = rest; more = more; first = m.2; after = k; spelled = refl; binds = own } in (
      placed d (Field m.0),
      unless _ _ _ _ (no_border f m.0 c g on) (ap (option_map (λ n. placed d (Field n))) on),
      record {
        line = xs ++ rest;
        own = h.own;
        end = h.end;
        rest = h.rest;
        more = h.more;
        is = subst (λ l. FieldsLeft m.0 l (xs ++ rest) h.own) (sym l) left;
        closes = h.closes;
        after = h.after;
        spelled = q.1 ∙ sym (append_assoc xs rest (h.end ++ h.rest));
        vars = h.vars;
        rows = h.rows;
      },
    )

field_forth : (d : DocAt) (f : FieldAt) (c : ℕ) (t : List ℕ) (table : TableValue) (later : List Name) (h : InLine d.vars d.rows d.row (FieldsLeft f d.later) (c ∷ t) table) → GoodField f → d.later ≡ later → FieldsLeft f later h.line h.own → Next (in_field d f c) t table
field_forth d f c t table [] h g l k = absurd k
field_forth d f c t table (v ∷ later) h g l k =
    field_on d f c t table v later h k.own k.cell k.rest k.more g l k.first k.after k.binds (h.spelled ∙ ap (λ line. line ++ (h.end ++ h.rest)) k.spelled ∙ append_assoc k.own k.rest (h.end ++ h.rest))

-- the beginning of a row's line
row_forth : (d : DocAt) (c : ℕ) (t : List ℕ) (table : TableValue) (vars : List Name) (row : Pairs) (more : List Pairs) → IsAtBegin d → d.vars ≡ vars → table.vars ≡ d.vars → table.rows ≡ d.rows ++ row ∷ more → RowThen vars (Rows vars more) (c ∷ t) row → Next (begin d c d.later) t table
row_forth d c t table [] row more g e vars rows h =
    let later : begin d c d.later ≡ row_ends d c d.row = ap (begin d c) (g.later ∙ e) in
    let same : row ≡ d.row = h.fields.1 ∙ sym g.row in
    let all : table.rows ≡ d.rows ++ d.row ∷ more = rows ∙ ap (λ r. d.rows ++ r ∷ more) same in
    let R : Type 0 = Next (begin d c d.later) t table in
    ⊎_elim
    (λ (q : (c ≡ 10) × (t ≡ h.rest)).
    let r : R = (
      line_ended d d.row,
      later ∙ ap (λ c. row_ends d c d.row) q.0,
      record { more = more; after = subst (λ vs. Rows vs more t) (sym e) (subst (λ t. Rows [] more t) (sym q.1) h.after); vars = vars; rows = all ∙ sym (append_assoc d.rows (d.row ∷ []) more) },
    ) in r)
    (λ (q : (c ≡ 13) × (t ≡ 10 ∷ h.rest)).
    let r : R = (returned d d.row, later ∙ ap (λ c. row_ends d c d.row) q.0, record { rest = h.rest; more = more; after = subst (λ vs. Rows vs more h.rest) (sym e) h.after; spelled = q.1; vars = vars; rows = all }) in r)
    (closes_first c t h.end h.rest (closes h.line h.end h.rest h.ends) (h.spelled ∙ ap (λ line. line ++ (h.end ++ h.rest)) h.fields.0))
row_forth d c t table (v ∷ vs) row more g e vars rows h =
    let l : d.later ≡ v ∷ vs = g.later ∙ e in
    let line : InLine d.vars d.rows d.row (FieldsLeft Empty d.later) (c ∷ t) table = record {
      line = h.line;
      own = row;
      end = h.end;
      rest = h.rest;
      more = more;
      is = subst (λ l. FieldsLeft Empty l h.line row) (sym l) h.fields;
      closes = closes h.line h.end h.rest h.ends;
      after = subst (λ vs. Rows vs more h.rest) (sym e) h.after;
      spelled = h.spelled;
      vars = vars;
      rows = rows ∙ ap (λ r. d.rows ++ (r ++ row) ∷ more) (sym g.row);
    } in
    subst (λ o. Next o t table) (sym (ap (begin d c) l)) (field_forth d Empty c t table (v ∷ vs) line tt l h.fields)

rows_forth : (d : DocAt) (c : ℕ) (t : List ℕ) (table : TableValue) (more : List Pairs) → IsAtBegin d → table.vars ≡ d.vars → table.rows ≡ d.rows ++ more → Rows d.vars more (c ∷ t) → Next (begin d c d.later) t table
rows_forth d c t table [] g vars rows h = cc
rows_forth d c t table (row ∷ more) g vars rows h = row_forth d c t table d.vars row more g refl vars rows h

pub place_forth : (at : Place) (d : DocAt) (c : ℕ) (t : List ℕ) (table : TableValue) → GoodAt at d → LeftAt at d (c ∷ t) table → Next (place_step d c at) t table
place_forth Start d c t table g h = begin_forth d c t table table.vars h.end h.rest g.0 g.1 h.names refl h.ends h.rows h.spelled
place_forth Mark d c t table g h =
    let q = heads c 63 t (h.present.0 ++ (later_names h.more ++ (h.end ++ h.rest))) (h.spelled ∙ ap (λ own. own ++ (later_names h.more ++ (h.end ++ h.rest))) h.present.1) in (
      placed d (InName name_at.Start),
      ap (λ c. option_map (placed d) (mark_place c)) q.0,
      record { own = h.present.0; name = h.name; more = h.more; end = h.end; rest = h.rest; present = h.present.2; closes = h.closes; names = h.names; rows = h.rows; vars = h.vars; spelled = q.1 },
    )
place_forth (InName n) d c t table g h = name_forth d n c t table h.own h g.0 h.present h.spelled
place_forth HeaderReturn d c t table g h =
    let q = heads c 10 t h.rest h.spelled in (
      placed d Begin,
      ap (λ c. option_map (placed d) (return_place c)) q.0,
      record { more = table.rows; after = subst (λ t. Rows d.vars table.rows t) (sym q.1) (subst (λ vs. Rows vs table.rows h.rest) h.vars h.rows); vars = h.vars; rows = ap (λ rs. rs ++ table.rows) (sym g.rows) },
    )
place_forth Begin d c t table g h = rows_forth d c t table h.more g h.vars h.rows h.after
place_forth (Field f) d c t table g h = field_forth d f c t table d.later h g.0 refl h.is
place_forth Return d c t table g h =
    let q = heads c 10 t h.rest h.spelled in
    (line_ended d d.row, when _ _ _ (same_eqb c 10 q.0), record { more = h.more; after = subst (λ t. Rows d.vars h.more t) (sym q.1) h.after; vars = h.vars; rows = h.rows ∙ sym (append_assoc d.rows (d.row ∷ []) h.more) })
