-- Where a step completes a name or a row.
use Rattle.std.proofs.Common.{◌≡◌, refl, ℕ, ◌≤◌, ◌<◌, true, false, ◌==◌, List, [], ◌∷◌, ◌++◌, length, Option, Some, None, option_map, ◌⊎◌, inl, inr, ⊎_elim, sym, ◌∙◌, ap, subst, append_assoc, arith, length-append}
use Rattle.bye_terms.specs.declared.term.Term.{Term}
use Rattle.bye_lex.specs.NameSteps as name
use Rattle.bye_lex.specs.Running.{run}
use Rattle.bye_lex.proofs.Branches.{chosen, eqb_same, mapped, none_some, pick_of, some_same}
use Rattle.bye_lex.proofs.Machines.{bind_some}
use Rattle.bye_table.specs.Mappings.{Name, Pairs}
use Rattle.bye_table.specs.Tables.{TableValue}
use Rattle.bye_tsv.specs.Answers.{IsNameEnd}
use Rattle.bye_tsv.specs.DocSteps.{DocAt, placed, first_place, mark_place, return_place, after_name, named, name_moves, line_ended, returned, row_ends, next_field, cell_ends, is_border, in_field, begin, place_step, step, table_of, place_final, final, complete_at, complete}
use Rattle.bye_tsv.specs.Documents.{bound, header_text}
use Rattle.bye_tsv.specs.FieldSteps as field
use Rattle.bye_tsv.specs.declared.field.FieldAt.{FieldAt}
use Rattle.bye_tsv.specs.declared.field.FieldAt.TheVariants.{Empty}
use Rattle.bye_tsv.specs.declared.place.Place.{Place}
use Rattle.bye_tsv.specs.declared.place.Place.TheVariants.{Start, Mark, Name as InName, HeaderReturn, Begin, Field, Return}
use Rattle.bye_tsv.proofs.DocBack.{name_ended, row_ended}
use Rattle.bye_tsv.proofs.DocMeaning.{GoodAt, GoodDoc}
use Rattle.bye_tsv.proofs.DocExact.{good_same}
use Rattle.bye_tsv.proofs.Tracking.{Tracks, TracksAt, header_more, joined, name_whole, placed_back}

-- in a later line
abbrev pub IsBody : Place → Type 0
IsBody Start = ⊥
IsBody Mark = ⊥
IsBody (InName q) = ⊥
IsBody HeaderReturn = ⊥
IsBody Begin = Unit {0}
IsBody (Field f) = Unit {0}
IsBody Return = Unit {0}

-- the variables stay, and rows grow at an LF alone
pub record Stays (d n : DocAt) (c : ℕ) : Type 0 where
  pub body : IsBody n.at
  pub vars : n.vars ≡ d.vars
  pub rows : (c ≡ 10) ⊎ (n.rows ≡ d.rows)

row_stays : (d n : DocAt) (c : ℕ) (row : Pairs) → row_ends d c row ≡ Some n → Stays d n c
row_stays d n c row e =
    ⊎_elim
    (λ (k : (c ≡ 10) × (n ≡ line_ended d row)). subst (λ n. Stays d n c) (sym k.1) (record { body = tt; vars = refl; rows = inl k.0 }))
    (λ (k : (c ≡ 13) × (n ≡ returned d row)). subst (λ n. Stays d n c) (sym k.1) (record { body = tt; vars = refl; rows = inr refl }))
    (row_ended d n c row e)

cell_stays : (d n : DocAt) (c : ℕ) (later : List Name) (o : Option (Option Term)) → cell_ends d c later o ≡ Some n → Stays d n c
cell_stays d n c later None e = none_some e
cell_stays d n c [] (Some cell) e = none_some e
cell_stays d n c (v ∷ []) (Some cell) e = row_stays d n c (d.row ++ bound v cell) e
cell_stays d n c (v ∷ w ∷ later) (Some cell) e =
    pick_of {P = Stays d n c} (c == 9) (next_field d (w ∷ later) (d.row ++ bound v cell)) n None e (λ b k. subst (λ n. Stays d n c) (sym k) (record { body = tt; vars = refl; rows = inr refl })) (λ k. none_some k)

field_stays : (d n : DocAt) (f : FieldAt) (c : ℕ) → in_field d f c ≡ Some n → Stays d n c
field_stays d n f c e =
    ⊎_elim
    (λ (k : (is_border c ≡ true) × (cell_ends d c d.later (field.final f) ≡ Some n)). cell_stays d n c d.later (field.final f) k.1)
    (λ (k : (is_border c ≡ false) × (option_map (λ n. placed d (Field n)) (field.step f c) ≡ Some n)).
    let m = mapped (λ n. placed d (Field n)) (field.step f c) n k.1 in subst (λ n. Stays d n c) m.2 (record { body = tt; vars = refl; rows = inr refl }))
    (chosen _ _ _ _ e)

begin_stays : (d n : DocAt) (c : ℕ) (later : List Name) → begin d c later ≡ Some n → Stays d n c
begin_stays d n c [] e = row_stays d n c d.row e
begin_stays d n c (v ∷ later) e = field_stays d n Empty c e

body_stays : (p : Place) (d n : DocAt) (c : ℕ) → IsBody p → place_step d c p ≡ Some n → Stays d n c
body_stays Start d n c b e = absurd b
body_stays Mark d n c b e = absurd b
body_stays (InName q) d n c b e = absurd b
body_stays HeaderReturn d n c b e = absurd b
body_stays Begin d n c b e = begin_stays d n c d.later e
body_stays (Field f) d n c b e = field_stays d n f c e
body_stays Return d n c b e = pick_of {P = Stays d n c} (c == 10) (line_ended d d.row) n None e (λ x k. subst (λ n. Stays d n c) (sym k) (record { body = tt; vars = refl; rows = inl (eqb_same c 10 x) })) (λ k. none_some k)

pub body_step : (d n : DocAt) (c : ℕ) → IsBody d.at → step d c ≡ Some n → IsBody n.at × (n.vars ≡ d.vars)
body_step d n c b e = let k = body_stays d.at (placed d Begin) n c b e in (k.body, k.vars)

pub body_run : (d n : DocAt) (text : List ℕ) → IsBody d.at → run step d text ≡ Some n → IsBody n.at × (n.vars ≡ d.vars)
body_run d n [] b e = (subst (λ (d : DocAt). IsBody d.at) (some_same e) b, ap (λ (d : DocAt). d.vars) (sym (some_same e)))
body_run d n (c ∷ text) b e =
    let m = bind_some (step d c) (λ n. run step n text) n e in
    let one = body_step d m.0 c b m.1 in
    let more = body_run m.0 n text one.0 m.2 in
    (more.0, more.1 ∙ one.1)

body_all : (p : Place) (n : ℕ) → IsBody p → complete_at n p ≡ n
body_all Start n b = absurd b
body_all Mark n b = absurd b
body_all (InName q) n b = absurd b
body_all HeaderReturn n b = absurd b
body_all Begin n b = refl
body_all (Field f) n b = refl
body_all Return n b = refl

pub body_complete : (d : DocAt) → IsBody d.at → complete d ≡ length d.vars
body_complete d b = body_all d.at (length d.vars) b

-- what a document's end keeps
cell_vars : (d n : DocAt) (later : List Name) (o : Option (Option Term)) → cell_ends d 10 later o ≡ Some n → n.vars ≡ d.vars
cell_vars d n later o e = (cell_stays d n 10 later o e).vars

body_final : (p : Place) (d : DocAt) (t : TableValue) → IsBody p → place_final d p ≡ Some t → t.vars ≡ d.vars
body_final Start d t b e = absurd b
body_final Mark d t b e = absurd b
body_final (InName q) d t b e = absurd b
body_final HeaderReturn d t b e = absurd b
body_final Begin d t b e = ap (λ (t : TableValue). t.vars) (sym (some_same e))
body_final (Field f) d t b e = let m = mapped table_of (cell_ends d 10 d.later (field.final f)) t e in ap (λ (t : TableValue). t.vars) (sym m.2) ∙ cell_vars d m.0 d.later (field.final f) m.1
body_final Return d t b e = none_some e

pub final_vars : (d : DocAt) (t : TableValue) → IsBody d.at → final d ≡ Some t → t.vars ≡ d.vars
final_vars d t b e = body_final d.at (placed d Begin) t b e

-- a header's text with what completes its last name
pub record NamesEnd (n : DocAt) (text : List ℕ) : Type 0 where
  pub end : List ℕ
  pub ends : IsNameEnd end
  pub parts : text ≡ header_text n.vars ++ end
  pub all : length n.vars ≡ complete n

no_more : (d : DocAt) (p : Place) → complete (placed d p) ≤ length d.vars
no_more d Start = omega arith
no_more d Mark = omega arith
no_more d (InName q) = omega arith
no_more d HeaderReturn = omega arith
no_more d Begin = omega arith
no_more d (Field f) = omega arith
no_more d Return = omega arith

moved_not : (d n : DocAt) (o : Option Place) → option_map (placed d) o ≡ Some n → length d.vars < complete n → ⊥
moved_not d n o e less =
    let m = mapped (placed d) o n e in
    let k = no_more d m.0 in
    let c = ap complete m.2 in
    omega (arith, k, c, less)

named_end : (d : DocAt) (v : Name) (c : ℕ) (p : Place) (front : List ℕ) → front ≡ header_text (d.vars ++ v ∷ []) → after_name c ≡ Some p → length d.vars < complete (named d v p) → NamesEnd (named d v p) (front ++ c ∷ [])
named_end d v c p front is e less =
    let R : Place → Type 0 = λ p. length d.vars < complete (named d v p) → NamesEnd (named d v p) (front ++ c ∷ []) in
    pick_of {P = R p} (c == 9) Mark p _ e (λ b k. subst R (sym k) (λ l. record { end = 9 ∷ []; ends = inl refl; parts = λ i. is i ++ eqb_same c 9 b i ∷ []; all = refl }))
    (λ e. pick_of {P = R p} (c == 10) Begin p _ e (λ b k. subst R (sym k) (λ l. record { end = 10 ∷ []; ends = inr (inl refl); parts = λ i. is i ++ eqb_same c 10 b i ∷ []; all = refl }))
    (λ e. pick_of {P = R p} (c == 13) HeaderReturn p None e (λ b k. subst R (sym k) (λ l. let q = length-append d.vars (v ∷ []) in absurd (omega (arith, l, q)))) (λ k. none_some k)))
    less

place_names : (p : Place) (d n : DocAt) (c : ℕ) (front : List ℕ) → GoodAt p d → TracksAt p d front → place_step d c p ≡ Some n → complete_at (length d.vars) p < complete n → NamesEnd n (front ++ c ∷ [])
place_names Start d n c front g h e less = absurd (moved_not d n (first_place c) e less)
place_names Mark d n c front g h e less = absurd (moved_not d n (mark_place c) e less)
place_names (InName q) d n c front g h e less = go (after_name c) refl e
  where
    go : (o : Option Place) → after_name c ≡ o → name_moves d q c o ≡ Some n → NamesEnd n (front ++ c ∷ [])
    go None a k =
        let m = mapped (λ n. placed d (InName n)) (name.step q c) n k in
        let z = ap complete m.2 in
        absurd (omega (arith, z, less))
    go (Some p) a k =
        let m = name_ended d n (name.final q) p k in
        let text : front ≡ header_text (d.vars ++ m.0 ∷ []) = h.1 ∙ ap (λ t. joined d.vars ++ 63 ∷ t) (name_whole q m.0 m.1) ∙ sym (header_more d.vars m.0) in
        subst (λ n. NamesEnd n (front ++ c ∷ [])) m.3 (named_end d m.0 c p front text a (subst (λ (n : DocAt). length d.vars < complete n) (sym m.3) less))
place_names HeaderReturn d n c front g h e less =
    let m = mapped (placed d) (return_place c) n e in
    pick_of {P = NamesEnd n (front ++ c ∷ [])} (c == 10) Begin m.0 None m.1
    (λ b k.
    let whole : front ++ c ∷ [] ≡ header_text d.vars ++ 13 ∷ 10 ∷ [] = (λ i. h.1 i ++ eqb_same c 10 b i ∷ []) ∙ append_assoc (header_text d.vars) (13 ∷ []) (10 ∷ []) in
    subst (λ n. NamesEnd n (front ++ c ∷ [])) (ap (placed d) (sym k) ∙ m.2) (record { end = 13 ∷ 10 ∷ []; ends = inr (inr refl); parts = whole; all = refl }))
    (λ k. none_some k)
place_names Begin d n c front g h e less = body_not (begin_stays d n c d.later e) less
  where
    body_not : Stays d n c → length d.vars < complete n → NamesEnd n (front ++ c ∷ [])
    body_not s less = let k = body_complete n s.body in let v = ap length s.vars in absurd (omega (arith, k, v, less))
place_names (Field f) d n c front g h e less = body_not (field_stays d n f c e) less
  where
    body_not : Stays d n c → length d.vars < complete n → NamesEnd n (front ++ c ∷ [])
    body_not s less = let k = body_complete n s.body in let v = ap length s.vars in absurd (omega (arith, k, v, less))
place_names Return d n c front g h e less = body_not (body_stays Return d n c tt e) less
  where
    body_not : Stays d n c → length d.vars < complete n → NamesEnd n (front ++ c ∷ [])
    body_not s less = let k = body_complete n s.body in let v = ap length s.vars in absurd (omega (arith, k, v, less))

pub names_grow : (d n : DocAt) (c : ℕ) (front : List ℕ) → GoodDoc d → Tracks d front → step d c ≡ Some n → complete d < complete n → NamesEnd n (front ++ c ∷ [])
names_grow d n c front g h e less = place_names d.at (placed d Begin) n c front (good_same d.at d g.at) (placed_back d front d.at h) e less

-- rows grow at an LF
moved_rows : (d n : DocAt) (o : Option Place) → option_map (placed d) o ≡ Some n → n.rows ≡ d.rows
moved_rows d n o e = let m = mapped (placed d) o n e in ap (λ (n : DocAt). n.rows) (sym m.2)

place_rows : (p : Place) (d n : DocAt) (c : ℕ) → place_step d c p ≡ Some n → (c ≡ 10) ⊎ (n.rows ≡ d.rows)
place_rows Start d n c e = inr (moved_rows d n (first_place c) e)
place_rows Mark d n c e = inr (moved_rows d n (mark_place c) e)
place_rows (InName q) d n c e = go (after_name c) e
  where
    go : (o : Option Place) → name_moves d q c o ≡ Some n → (c ≡ 10) ⊎ (n.rows ≡ d.rows)
    go None k = let m = mapped (λ n. placed d (InName n)) (name.step q c) n k in inr (ap (λ (n : DocAt). n.rows) (sym m.2))
    go (Some p) k = let m = name_ended d n (name.final q) p k in inr (ap (λ (n : DocAt). n.rows) (sym m.3))
place_rows HeaderReturn d n c e = inr (moved_rows d n (return_place c) e)
place_rows Begin d n c e = (begin_stays d n c d.later e).rows
place_rows (Field f) d n c e = (field_stays d n f c e).rows
place_rows Return d n c e = (body_stays Return d n c tt e).rows

pub rows_grow : (d n : DocAt) (c : ℕ) → step d c ≡ Some n → length d.rows < length n.rows → c ≡ 10
rows_grow d n c e less = ⊎_elim (λ k. k) (λ k. let z = ap length k in absurd (omega (arith, z, less))) (place_rows d.at (placed d Begin) n c e)
