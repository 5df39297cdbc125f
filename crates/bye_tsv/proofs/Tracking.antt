-- What the state of a document tells of the text before it: its line, its present field, and its names.
use Rattle.std.proofs.Common.{◌≡◌, refl, ℕ, suc, Bool, true, false, cond, ◌==◌, ◌||◌, List, [], ◌∷◌, ◌++◌, length, Option, Some, None, option_map, ◌⊎◌, inl, inr, ⊎_elim, sym, ◌∙◌, ap, subst, append_assoc, append-nil, arith, length-append}
use Rattle.std.specs.List.{AllByRecursion}
use Rattle.bye_terms.specs.declared.term.Term.{Term}
use Rattle.bye_terms.proofs.Lists.{all_join}
use Rattle.bye_lex.specs.NameSteps as name
use Rattle.bye_lex.specs.Running.{run}
use Rattle.bye_lex.specs.declared.name.NameAt.{NameAt}
use Rattle.bye_lex.specs.declared.name.NameAt.TheVariants as name_at
use Rattle.bye_lex.proofs.Branches.{chosen, eqb_same, heads, mapped, none_some, pick_of, some_same, unless, when}
use Rattle.bye_lex.proofs.Machines.{bind_some, run_step}
use Rattle.bye_table.specs.Mappings.{Name, Pairs}
use Rattle.bye_tsv.specs.Answers.{IsPresent, lines}
use Rattle.bye_tsv.specs.DocSteps.{DocAt, start, placed, first_place, mark_place, return_place, after_name, named, name_moves, line_ended, returned, row_ends, next_field, cell_ends, is_border, in_field, begin, place_step, step}
use Rattle.bye_tsv.specs.Documents.{bound, header_text, later_names}
use Rattle.bye_tsv.specs.FieldSteps as field
use Rattle.bye_tsv.specs.declared.field.FieldAt.{FieldAt}
use Rattle.bye_tsv.specs.declared.field.FieldAt.TheVariants.{Empty}
use Rattle.bye_tsv.specs.declared.place.Place.{Place}
use Rattle.bye_tsv.specs.declared.place.Place.TheVariants.{Start, Mark, Name as InName, HeaderReturn, Begin, Field, Return}
use Rattle.bye_tsv.proofs.DocBack.{name_ended, row_ended}
use Rattle.bye_tsv.proofs.DocExact.{doc_machine, good_start, good_same}
use Rattle.bye_tsv.proofs.DocMeaning.{GoodAt, GoodDoc}
use Rattle.bye_tsv.proofs.FieldExact.{GoodField}

-- names with their marks, a TAB after each
abbrev pub joined : List Name → List ℕ
joined [] = []
joined (v ∷ vs) = 63 ∷ v ++ 9 ∷ joined vs

-- what was read of a name
abbrev pub text_of : NameAt → List ℕ
text_of name_at.Start = []
text_of (name_at.In v) = v

-- in a later line: its number, and its present field
pub record InBody (d : DocAt) (front own : List ℕ) : Type 0 where
  pub lines : lines front ≡ suc (length d.rows)
  pub present : IsPresent front own

abbrev pub TracksAt : Place → DocAt → List ℕ → Type 0
TracksAt Start d front = front ≡ []
TracksAt Mark d front = (lines front ≡ 0) × (front ≡ joined d.vars)
TracksAt (InName q) d front = (lines front ≡ 0) × (front ≡ joined d.vars ++ 63 ∷ text_of q)
TracksAt HeaderReturn d front = (lines front ≡ 0) × (front ≡ header_text d.vars ++ 13 ∷ [])
TracksAt Begin d front = InBody d front []
TracksAt (Field f) d front = (own : List ℕ) × InBody d front own × (run field.step Empty own ≡ Some f)
TracksAt Return d front = (own : List ℕ) × InBody d front (own ++ 13 ∷ [])

abbrev pub Tracks : DocAt → List ℕ → Type 0
Tracks d front = TracksAt d.at d front

-- lines
lines_more : (front : List ℕ) (c : ℕ) → lines (front ++ c ∷ []) ≡ cond (c == 10) (suc (lines front)) (lines front)
lines_more [] c = refl
lines_more (x ∷ front) c = ap (λ n. cond (x == 10) (suc n) n) (lines_more front c) ∙ go (x == 10) (c == 10)
  where
    go : (a b : Bool) → cond a (suc (cond b (suc (lines front)) (lines front))) (cond b (suc (lines front)) (lines front)) ≡ cond b (suc (cond a (suc (lines front)) (lines front))) (cond a (suc (lines front)) (lines front))
    go true true = refl
    go true false = refl
    go false true = refl
    go false false = refl

same_lines : (front : List ℕ) (c n : ℕ) → (c == 10) ≡ false → lines front ≡ n → lines (front ++ c ∷ []) ≡ n
same_lines front c n f e = lines_more front c ∙ unless _ _ _ _ f e

next_line : (front : List ℕ) (c n : ℕ) → c ≡ 10 → lines front ≡ n → lines (front ++ c ∷ []) ≡ suc n
next_line front c n f e = ap (λ c. lines (front ++ c ∷ [])) f ∙ lines_more front 10 ∙ ap suc e

-- the present field
present_more : (front own : List ℕ) (c : ℕ) → (c == 9) ≡ false → (c == 10) ≡ false → IsPresent front own → IsPresent (front ++ c ∷ []) (own ++ c ∷ [])
present_more front own c x y h = record {
  before = h.before;
  mark = h.mark;
  parts = ap (λ t. t ++ c ∷ []) h.parts ∙ append_assoc h.before (h.mark ∷ own) (c ∷ []);
  begins = h.begins;
  within = all_join (λ c. (c ≡ 9 → ⊥) × (c ≡ 10 → ⊥)) own (c ∷ []) h.within ((λ e. not (c == 9) (ap (λ c. c == 9) e) x, λ e. not (c == 10) (ap (λ c. c == 10) e) y), tt);
}
  where
    not : (b : Bool) → b ≡ true → b ≡ false → ⊥
    not true e f = cc
    not false e f = cc

present_new : (front : List ℕ) (c : ℕ) → (c ≡ 9) ⊎ (c ≡ 10) → IsPresent (front ++ c ∷ []) []
present_new front c e = record { before = front; mark = c; parts = refl; begins = e; within = tt }

no_mark : (before a : List ℕ) (m : ℕ) → (m ≡ 9) ⊎ (m ≡ 10) → AllByRecursion (λ c. (c ≡ 9 → ⊥) × (c ≡ 10 → ⊥)) (before ++ m ∷ a) → ⊥
no_mark [] a m e h = ⊎_elim h.0.0 h.0.1 e
no_mark (x ∷ before) a m e h = no_mark before a m e h.1

pub one_present : (front a b : List ℕ) → IsPresent front a → IsPresent front b → a ≡ b
one_present front a b h k = go h.before k.before (sym h.parts ∙ k.parts)
  where
    go : (xs ys : List ℕ) → xs ++ h.mark ∷ a ≡ ys ++ k.mark ∷ b → a ≡ b
    go [] [] e = (heads h.mark k.mark a b e).1
    go [] (y ∷ ys) e = absurd (no_mark ys b k.mark k.begins (subst (AllByRecursion (λ c. (c ≡ 9 → ⊥) × (c ≡ 10 → ⊥))) (heads h.mark y a (ys ++ k.mark ∷ b) e).1 h.within))
    go (x ∷ xs) [] e = absurd (no_mark xs a h.mark h.begins (subst (AllByRecursion (λ c. (c ≡ 9 → ⊥) × (c ≡ 10 → ⊥))) (sym (heads x k.mark (xs ++ h.mark ∷ a) b e).1) k.within))
    go (x ∷ xs) (y ∷ ys) e = go xs ys (heads x y (xs ++ h.mark ∷ a) (ys ++ k.mark ∷ b) e).1

-- tests of characters
pub no_lf : (c : ℕ) → is_border c ≡ false → ((c == 9) ≡ false) × ((c == 10) ≡ false)
no_lf c e = go (c == 9) (c == 10) (c == 13) e
  where
    go : (x y z : Bool) → (x || (y || z)) ≡ false → (x ≡ false) × (y ≡ false)
    go true y z e = cc
    go false true z e = cc
    go false false z e = (refl, refl)

pub not_after : (c : ℕ) → after_name c ≡ None → (c == 10) ≡ false
not_after c e = go (c == 9) (c == 10) (c == 13) e
  where
    go : (x y z : Bool) → cond x (Some Mark) (cond y (Some Begin) (cond z (Some HeaderReturn) None)) ≡ None → y ≡ false
    go true y z e = none_some (sym e)
    go false true z e = none_some (sym e)
    go false false z e = refl

-- names
joined_more : (vs : List Name) (v : Name) → joined (vs ++ v ∷ []) ≡ (joined vs ++ 63 ∷ v) ++ 9 ∷ []
joined_more [] v = refl
joined_more (u ∷ vs) v = ap (λ t. 63 ∷ u ++ 9 ∷ t) (joined_more vs v) ∙ sym (ap (λ t. t ++ 9 ∷ []) (append_assoc (63 ∷ u) (9 ∷ joined vs) (63 ∷ v)) ∙ append_assoc (63 ∷ u) (9 ∷ (joined vs ++ 63 ∷ v)) (9 ∷ []))

later_more : (vs : List Name) (v : Name) → later_names (vs ++ v ∷ []) ≡ later_names vs ++ 9 ∷ 63 ∷ v
later_more [] v = ap (λ t. 9 ∷ 63 ∷ t) (append-nil v)
later_more (u ∷ vs) v = ap (λ t. 9 ∷ 63 ∷ u ++ t) (later_more vs v) ∙ sym (append_assoc (9 ∷ 63 ∷ u) (later_names vs) (9 ∷ 63 ∷ v))

pub header_more : (vs : List Name) (v : Name) → header_text (vs ++ v ∷ []) ≡ joined vs ++ 63 ∷ v
header_more [] v = ap (λ t. 63 ∷ t) (append-nil v)
header_more (u ∷ vs) v = ap (λ t. 63 ∷ u ++ t) (later_more vs v) ∙ ap (λ t. 63 ∷ u ++ t) (turned vs) ∙ sym (append_assoc (63 ∷ u) (9 ∷ joined vs) (63 ∷ v))
  where
    turned : (vs : List Name) → later_names vs ++ 9 ∷ 63 ∷ v ≡ 9 ∷ (joined vs ++ 63 ∷ v)
    turned [] = refl
    turned (w ∷ vs) = append_assoc (9 ∷ 63 ∷ w) (later_names vs) (9 ∷ 63 ∷ v) ∙ ap (λ t. 9 ∷ 63 ∷ w ++ t) (turned vs) ∙ ap (λ t. 9 ∷ t) (sym (append_assoc (63 ∷ w) (9 ∷ joined vs) (63 ∷ v)))

name_grows : (q m : NameAt) (c : ℕ) → name.step q c ≡ Some m → text_of m ≡ text_of q ++ c ∷ []
name_grows name_at.Start m c e = pick_of _ _ _ _ e (λ b k. ap text_of k) (λ k. none_some k)
name_grows (name_at.In v) m c e = pick_of _ _ _ _ e (λ b k. ap text_of k) (λ k. none_some k)

pub name_whole : (q : NameAt) (v : Name) → name.final q ≡ Some v → text_of q ≡ v
name_whole name_at.Start v e = none_some e
name_whole (name_at.In u) v e = some_same e

-- one character more
placed_same : (d : DocAt) (front : List ℕ) (p : Place) → TracksAt p d front → TracksAt p (placed d p) front
placed_same d front Start h = h
placed_same d front Mark h = h
placed_same d front (InName q) h = h
placed_same d front HeaderReturn h = h
placed_same d front Begin h = record { lines = h.lines; present = h.present }
placed_same d front (Field f) h = (h.0, record { lines = h.1.lines; present = h.1.present }, h.2)
placed_same d front Return h = (h.0, record { lines = h.1.lines; present = h.1.present })

-- where a place is gone on to
moved : (d n : DocAt) (o : Option Place) (front : List ℕ) → ((p : Place) → o ≡ Some p → TracksAt p d front) → option_map (placed d) o ≡ Some n → Tracks n front
moved d n o front track e = let m = mapped (placed d) o n e in subst (λ n. Tracks n front) m.2 (placed_same d front m.0 (track m.0 m.1))

first_tracked : (d : DocAt) (c : ℕ) (p : Place) (front : List ℕ) → d.vars ≡ [] → d.rows ≡ [] → front ≡ [] → first_place c ≡ Some p → TracksAt p d (front ++ c ∷ [])
first_tracked d c p front none no_row empty e =
    let whole : (x : ℕ) → c ≡ x → front ++ c ∷ [] ≡ x ∷ [] = λ x k i. empty i ++ k i ∷ [] in
    pick_of {P = TracksAt p d (front ++ c ∷ [])} (c == 63) (InName name_at.Start) p _ e
    (λ b k. subst (λ p. TracksAt p d (front ++ c ∷ [])) (sym k) (ap lines (whole 63 (eqb_same c 63 b)), whole 63 (eqb_same c 63 b) ∙ ap (λ vs. joined vs ++ 63 ∷ []) (sym none)))
    (λ e. pick_of {P = TracksAt p d (front ++ c ∷ [])} (c == 10) Begin p _ e
    (λ b k. subst (λ p. TracksAt p d (front ++ c ∷ [])) (sym k)
    (record { lines = ap lines (whole 10 (eqb_same c 10 b)) ∙ ap (λ rs. suc (length rs)) (sym no_row); present = present_new front c (inr (eqb_same c 10 b)) }))
    (λ e. pick_of {P = TracksAt p d (front ++ c ∷ [])} (c == 13) HeaderReturn p None e
    (λ b k. subst (λ p. TracksAt p d (front ++ c ∷ [])) (sym k) (ap lines (whole 13 (eqb_same c 13 b)), whole 13 (eqb_same c 13 b) ∙ ap (λ vs. header_text vs ++ 13 ∷ []) (sym none)))
    (λ k. none_some k)))

-- a name that is over
named_tracked : (d : DocAt) (v : Name) (c : ℕ) (p : Place) (front : List ℕ) → d.rows ≡ [] → lines front ≡ 0 → front ≡ joined d.vars ++ 63 ∷ v → after_name c ≡ Some p → TracksAt p (named d v p) (front ++ c ∷ [])
named_tracked d v c p front no_row none is e =
    let R : Place → Type 0 = λ p. TracksAt p (named d v p) (front ++ c ∷ []) in
    let text : front ≡ header_text (d.vars ++ v ∷ []) = is ∙ sym (header_more d.vars v) in
    pick_of {P = R p} (c == 9) Mark p _ e
    (λ b k. let same = eqb_same c 9 b in subst R (sym k) (same_lines front c 0 (ap (λ c. c == 10) same) none, (λ i. is i ++ same i ∷ []) ∙ sym (joined_more d.vars v)))
    (λ e. pick_of {P = R p} (c == 10) Begin p _ e
    (λ b k. let same = eqb_same c 10 b in subst R (sym k) (record { lines = next_line front c 0 same none ∙ ap (λ rs. suc (length rs)) (sym no_row); present = present_new front c (inr same) }))
    (λ e. pick_of {P = R p} (c == 13) HeaderReturn p None e
    (λ b k. let same = eqb_same c 13 b in subst R (sym k) (same_lines front c 0 (ap (λ c. c == 10) same) none, λ i. text i ++ same i ∷ []))
    (λ k. none_some k)))

-- a row that is over
row_tracked : (d n : DocAt) (c : ℕ) (row : Pairs) (front own : List ℕ) → InBody d front own → row_ends d c row ≡ Some n → Tracks n (front ++ c ∷ [])
row_tracked d n c row front own h e =
    ⊎_elim
    (λ (k : (c ≡ 10) × (n ≡ line_ended d row)).
    let l = length-append d.rows (row ∷ []) in
    let count : suc (suc (length d.rows)) ≡ suc (length (d.rows ++ row ∷ [])) = omega (arith, l) in
    subst (λ n. Tracks n (front ++ c ∷ [])) (sym k.1) (record { lines = next_line front c (suc (length d.rows)) k.0 h.lines ∙ count; present = present_new front c (inr k.0) }))
    (λ (k : (c ≡ 13) × (n ≡ returned d row)).
    subst (λ n. Tracks n (front ++ c ∷ [])) (sym k.1) (
      own,
      record {
        lines = same_lines front c (suc (length d.rows)) (ap (λ c. c == 10) k.0) h.lines;
        present = subst (λ x. IsPresent (front ++ c ∷ []) (own ++ x ∷ [])) k.0 (present_more front own c (ap (λ c. c == 9) k.0) (ap (λ c. c == 10) k.0) h.present);
      },
    ))
    (row_ended d n c row e)

cell_tracked : (d n : DocAt) (c : ℕ) (later : List Name) (o : Option (Option Term)) (front own : List ℕ) → InBody d front own → cell_ends d c later o ≡ Some n → Tracks n (front ++ c ∷ [])
cell_tracked d n c later None front own h e = none_some e
cell_tracked d n c [] (Some cell) front own h e = none_some e
cell_tracked d n c (v ∷ []) (Some cell) front own h e = row_tracked d n c (d.row ++ bound v cell) front own h e
cell_tracked d n c (v ∷ w ∷ later) (Some cell) front own h e =
    pick_of {P = Tracks n (front ++ c ∷ [])} (c == 9) (next_field d (w ∷ later) (d.row ++ bound v cell)) n None e
    (λ b k. let same = eqb_same c 9 b in
    subst (λ n. Tracks n (front ++ c ∷ [])) (sym k) ([], record { lines = same_lines front c (suc (length d.rows)) (ap (λ c. c == 10) same) h.lines; present = present_new front c (inl same) }, refl))
    (λ k. none_some k)

field_tracked : (d n : DocAt) (f : FieldAt) (c : ℕ) (front own : List ℕ) → GoodField f → InBody d front own → run field.step Empty own ≡ Some f → in_field d f c ≡ Some n → Tracks n (front ++ c ∷ [])
field_tracked d n f c front own g h r e =
    ⊎_elim
    (λ (k : (is_border c ≡ true) × (cell_ends d c d.later (field.final f) ≡ Some n)). cell_tracked d n c d.later (field.final f) front own h k.1)
    (λ (k : (is_border c ≡ false) × (option_map (λ n. placed d (Field n)) (field.step f c) ≡ Some n)).
    let m = mapped (λ n. placed d (Field n)) (field.step f c) n k.1 in
    let t = no_lf c k.0 in
    subst (λ n. Tracks n (front ++ c ∷ [])) m.2
    (own ++ c ∷ [], record { lines = same_lines front c (suc (length d.rows)) t.1 h.lines; present = present_more front own c t.0 t.1 h.present }, run_step field.step Empty f own c r ∙ m.1))
    (chosen _ _ _ _ e)

begin_tracked : (d n : DocAt) (c : ℕ) (later : List Name) (front : List ℕ) → InBody d front [] → begin d c later ≡ Some n → Tracks n (front ++ c ∷ [])
begin_tracked d n c [] front h e = row_tracked d n c d.row front [] h e
begin_tracked d n c (v ∷ later) front h e = field_tracked d n Empty c front [] tt h refl e

place_tracked : (p : Place) (d n : DocAt) (c : ℕ) (front : List ℕ) → GoodAt p d → TracksAt p d front → place_step d c p ≡ Some n → Tracks n (front ++ c ∷ [])
place_tracked Start d n c front g h e = moved d n (first_place c) (front ++ c ∷ []) (λ p k. first_tracked d c p front g.1 g.0.rows h k) e
place_tracked Mark d n c front g h e =
    moved d n (mark_place c) (front ++ c ∷ []) (λ p k. pick_of {P = TracksAt p d (front ++ c ∷ [])} (c == 63) (InName name_at.Start) p None k
    (λ b k. let same = eqb_same c 63 b in subst (λ p. TracksAt p d (front ++ c ∷ [])) (sym k) (same_lines front c 0 (ap (λ c. c == 10) same) h.0, λ i. h.1 i ++ same i ∷ [])) (λ k. none_some k)) e
place_tracked (InName q) d n c front g h e = go (after_name c) refl e
  where
    go : (o : Option Place) → after_name c ≡ o → name_moves d q c o ≡ Some n → Tracks n (front ++ c ∷ [])
    go None a k =
        let m = mapped (λ n. placed d (InName n)) (name.step q c) n k in
        subst (λ n. Tracks n (front ++ c ∷ [])) m.2
        (same_lines front c 0 (not_after c a) h.0, ap (λ t. t ++ c ∷ []) h.1 ∙ append_assoc (joined d.vars) (63 ∷ text_of q) (c ∷ []) ∙ ap (λ t. joined d.vars ++ 63 ∷ t) (sym (name_grows q m.0 c m.1)))
    go (Some p) a k =
        let m = name_ended d n (name.final q) p k in
        subst (λ n. Tracks n (front ++ c ∷ [])) m.3 (named_tracked d m.0 c p front g.0.rows h.0 (h.1 ∙ ap (λ t. joined d.vars ++ 63 ∷ t) (name_whole q m.0 m.1)) a)
place_tracked HeaderReturn d n c front g h e =
    moved d n (return_place c) (front ++ c ∷ []) (λ p k. pick_of {P = TracksAt p d (front ++ c ∷ [])} (c == 10) Begin p None k
    (λ b k. let same = eqb_same c 10 b in subst (λ p. TracksAt p d (front ++ c ∷ [])) (sym k) (record { lines = next_line front c 0 same h.0 ∙ ap (λ rs. suc (length rs)) (sym g.rows); present = present_new front c (inr same) })) (λ k. none_some k)) e
place_tracked Begin d n c front g h e = begin_tracked d n c d.later front h e
place_tracked (Field f) d n c front g h e = field_tracked d n f c front h.0 g.0 h.1 h.2 e
place_tracked Return d n c front g h e = row_tracked d n c d.row front (h.0 ++ 13 ∷ []) h.1 (as_row e)
  where
    as_row : cond (c == 10) (Some (line_ended d d.row)) None ≡ Some n → row_ends d c d.row ≡ Some n
    as_row e = pick_of {P = row_ends d c d.row ≡ Some n} (c == 10) (line_ended d d.row) n None e (λ b k. when _ _ _ b ∙ ap Some (sym k)) (λ k. none_some k)

pub placed_back : (d : DocAt) (front : List ℕ) (p : Place) → TracksAt p d front → TracksAt p (placed d Begin) front
placed_back d front Start h = h
placed_back d front Mark h = h
placed_back d front (InName q) h = h
placed_back d front HeaderReturn h = h
placed_back d front Begin h = record { lines = h.lines; present = h.present }
placed_back d front (Field f) h = (h.0, record { lines = h.1.lines; present = h.1.present }, h.2)
placed_back d front Return h = (h.0, record { lines = h.1.lines; present = h.1.present })

track_step : (d n : DocAt) (c : ℕ) (front : List ℕ) → GoodDoc d → Tracks d front → step d c ≡ Some n → Tracks n (front ++ c ∷ [])
track_step d n c front g h e = place_tracked d.at (placed d Begin) n c front (good_same d.at d g.at) (placed_back d front d.at h) e

-- what a state is reached by
pub tracks : (front : List ℕ) (d : DocAt) → run step start front ≡ Some d → Tracks d front
tracks front d e = go [] start front good_start refl e
  where
    go : (before : List ℕ) (s : DocAt) (text : List ℕ) → GoodDoc s → Tracks s before → run step s text ≡ Some d → Tracks d (before ++ text)
    go before s [] g h e = subst (λ t. Tracks d t) (sym (append-nil before)) (subst (λ s. Tracks s before) (some_same e) h)
    go before s (c ∷ text) g h e =
        let m = bind_some (step s c) (λ n. run step n text) d e in
        subst (λ t. Tracks d t) (append_assoc before (c ∷ []) text) (go (before ++ c ∷ []) m.0 text (doc_machine.stays s m.0 c g m.1) (track_step s m.0 c before g h m.1) m.2)
