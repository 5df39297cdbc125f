-- Where a document has passed its greatest number of variables or rows.
use Rattle.std.proofs.Common.{◌≡◌, refl, ℕ, suc, ◌+◌, ◌-◌, ◌≤◌, ◌<◌, Bool, true, false, cond, nat_lt, ◌==◌, List, [], ◌∷◌, ◌++◌, length, Option, Some, None, option_map, option_and_then, ◌⊎◌, inl, inr, ⊎_elim, sym, ◌∙◌, ap, subst, append_assoc, append-nil, arith, length-append}
use Rattle.std.specs.Char.{encode_utf8, IsScalar}
use Rattle.std.specs.Str.{encode_utf8_all, all_scalars}
use Rattle.std.proofs.lemmas.Str.{length-encode, len_utf8_bounds}
use Rattle.bye_terms.specs.Names.{is_name}
use Rattle.bye_terms.specs.declared.term.Term.{Term}
use Rattle.bye_terms.proofs.Tests.{both_parts}
use Rattle.bye_lex.specs.Languages.{Viable}
use Rattle.bye_lex.specs.NameSteps as name
use Rattle.bye_lex.specs.Running.{run}
use Rattle.bye_lex.specs.declared.name.NameAt.{NameAt}
use Rattle.bye_lex.specs.declared.name.NameAt.TheVariants as name_at
use Rattle.bye_lex.proofs.Branches.{chosen, mapped, none_some, pick_of, some_same}
use Rattle.bye_lex.proofs.Machines.{bind_some, of_token, run_append, run_good, run_gives, run_on, run_takes, viable, not_viable}
use Rattle.bye_lex.proofs.NameExact.{name_exact}
use Rattle.bye_lex.proofs.NameExact as name_exactly
use Rattle.bye_table.specs.Mappings.{Name, Pairs}
use Rattle.bye_table.specs.Tables.{TableValue}
use Rattle.bye_tsv.specs.Answers.{IsNameEnd, HasPassedVars, HasPassedRows, HasPassed, Passes}
use Rattle.bye_tsv.specs.DocSteps.{DocAt, start, placed, first_place, mark_place, return_place, after_name, named, name_moves, line_ended, returned, row_ends, next_field, cell_ends, is_border, in_field, begin, place_step, step, table_of, place_final, final, complete_at, complete, exceeded, passed}
use Rattle.bye_tsv.specs.Documents.{bound, header_text, later_names, AreNames, TsvText, TsvDoc}
use Rattle.bye_tsv.specs.FieldSteps as field
use Rattle.bye_tsv.specs.declared.fault.Bounds.{Bounds}
use Rattle.bye_tsv.specs.declared.fault.TsvErr.{TsvErr}
use Rattle.bye_tsv.specs.declared.fault.TsvErr.TheVariants as faults
use Rattle.bye_tsv.specs.declared.field.FieldAt.{FieldAt}
use Rattle.bye_tsv.specs.declared.field.FieldAt.TheVariants.{Empty}
use Rattle.bye_tsv.specs.declared.place.Place.{Place}
use Rattle.bye_tsv.specs.declared.place.Place.TheVariants.{Start, Mark, Name as InName, HeaderReturn, Begin, Field, Return}
use Rattle.bye_tsv.proofs.DocBack.{name_ended, row_ended}
use Rattle.bye_tsv.proofs.DocExact.{doc_machine, good_start, doc_ends, doc_may_end}
use Rattle.bye_tsv.proofs.DocForth.{name_apart}
use Rattle.bye_tsv.proofs.DocMeaning.{LeftDoc, GoodAt, GoodDoc}
use Rattle.bye_lex.proofs.Fronts.{Longer, split}

-- counts and their bounds
below : (n m : ℕ) → nat_lt n m ≡ true → n < m
below n m e = grind arith

above : (n m : ℕ) → nat_lt n m ≡ false → m ≤ n
above n m e = grind arith

pub exceeded_none : (b : Bounds) (v r : ℕ) → exceeded b v r ≡ None → (v ≤ b.vars) × (r ≤ b.rows)
exceeded_none b v r e = go (nat_lt b.vars v) (nat_lt b.rows r) refl refl e
  where
    go : (x y : Bool) → nat_lt b.vars v ≡ x → nat_lt b.rows r ≡ y → cond x (Some faults.TooManyVars) (cond y (Some faults.TooManyRows) None) ≡ None → (v ≤ b.vars) × (r ≤ b.rows)
    go true y f g k = none_some (sym k)
    go false true f g k = none_some (sym k)
    go false false f g k = (above b.vars v f, above b.rows r g)

pub exceeded_some : (b : Bounds) (v r : ℕ) (e : TsvErr) → exceeded b v r ≡ Some e → ((e ≡ faults.TooManyVars) × (b.vars < v)) ⊎ ((e ≡ faults.TooManyRows) × (v ≤ b.vars) × (b.rows < r))
exceeded_some b v r e k = go (nat_lt b.vars v) (nat_lt b.rows r) refl refl k
  where
    go : (x y : Bool) → nat_lt b.vars v ≡ x → nat_lt b.rows r ≡ y → cond x (Some faults.TooManyVars) (cond y (Some faults.TooManyRows) None) ≡ Some e → ((e ≡ faults.TooManyVars) × (b.vars < v)) ⊎ ((e ≡ faults.TooManyRows) × (v ≤ b.vars) × (b.rows < r))
    go true y f g k = inl (sym (some_same k), below b.vars v f)
    go false true f g k = inr (sym (some_same k), above b.vars v f, below b.rows r g)
    go false false f g k = none_some k

-- the counts only grow
pub record Grown (d n : DocAt) : Type 0 where
  pub vars : complete d ≤ complete n
  pub rows : length d.rows ≤ length n.rows

abbrev GrownFrom : ℕ → ℕ → DocAt → Type 0
GrownFrom vars rows n = (vars ≤ complete n) × (rows ≤ length n.rows)

no_less : (n : ℕ) → n ≤ n
no_less n = omega arith

one_less : (n : ℕ) → n - 1 ≤ n
one_less n = omega arith

placed_least : (d : DocAt) (p : Place) → length d.vars - 1 ≤ complete (placed d p)
placed_least d Start = one_less (length d.vars)
placed_least d Mark = one_less (length d.vars)
placed_least d (InName q) = one_less (length d.vars)
placed_least d HeaderReturn = no_less (length d.vars - 1)
placed_least d Begin = one_less (length d.vars)
placed_least d (Field f) = one_less (length d.vars)
placed_least d Return = one_less (length d.vars)

named_grown : (d : DocAt) (v : Name) (p : Place) → length d.vars ≤ complete (named d v p)
named_grown d v p =
    let k = placed_least (named d v p) p in
    let l = length-append d.vars (v ∷ []) in
    omega (arith, k, l)

row_grown : (d n : DocAt) (c : ℕ) (row : Pairs) → row_ends d c row ≡ Some n → GrownFrom (length d.vars) (length d.rows) n
row_grown d n c row e =
    ⊎_elim
    (λ (k : (c ≡ 10) × (n ≡ line_ended d row)). let l = length-append d.rows (row ∷ []) in subst (GrownFrom (length d.vars) (length d.rows)) (sym k.1) (no_less (length d.vars), omega (arith, l)))
    (λ (k : (c ≡ 13) × (n ≡ returned d row)). subst (GrownFrom (length d.vars) (length d.rows)) (sym k.1) (no_less (length d.vars), no_less (length d.rows)))
    (row_ended d n c row e)

cell_grown : (d n : DocAt) (c : ℕ) (later : List Name) (o : Option (Option Term)) → cell_ends d c later o ≡ Some n → GrownFrom (length d.vars) (length d.rows) n
cell_grown d n c later None e = none_some e
cell_grown d n c [] (Some cell) e = none_some e
cell_grown d n c (v ∷ []) (Some cell) e = row_grown d n c (d.row ++ bound v cell) e
cell_grown d n c (v ∷ w ∷ later) (Some cell) e =
    pick_of {P = GrownFrom (length d.vars) (length d.rows) n} (c == 9) (next_field d (w ∷ later) (d.row ++ bound v cell)) n None e
    (λ b k. subst (GrownFrom (length d.vars) (length d.rows)) (sym k) (no_less (length d.vars), no_less (length d.rows))) (λ k. none_some k)

field_grown : (d n : DocAt) (f : FieldAt) (c : ℕ) → in_field d f c ≡ Some n → GrownFrom (length d.vars) (length d.rows) n
field_grown d n f c e =
    ⊎_elim
    (λ (k : (is_border c ≡ true) × (cell_ends d c d.later (field.final f) ≡ Some n)). cell_grown d n c d.later (field.final f) k.1)
    (λ (k : (is_border c ≡ false) × (option_map (λ n. placed d (Field n)) (field.step f c) ≡ Some n)).
    let m = mapped (λ n. placed d (Field n)) (field.step f c) n k.1 in subst (GrownFrom (length d.vars) (length d.rows)) m.2 (no_less (length d.vars), no_less (length d.rows)))
    (chosen _ _ _ _ e)

begin_grown : (d n : DocAt) (c : ℕ) (later : List Name) → begin d c later ≡ Some n → GrownFrom (length d.vars) (length d.rows) n
begin_grown d n c [] e = row_grown d n c d.row e
begin_grown d n c (v ∷ later) e = field_grown d n Empty c e

no_vars : (d : DocAt) (p : Place) → d.vars ≡ [] → length d.vars ≤ complete (placed d p)
no_vars d p e = let k = ap length e in omega (arith, k)

moved_grown : (d n : DocAt) (o : Option Place) (vars : ℕ) → ((p : Place) → o ≡ Some p → vars ≤ complete (placed d p)) → option_map (placed d) o ≡ Some n → GrownFrom vars (length d.rows) n
moved_grown d n o vars h e = let m = mapped (placed d) o n e in subst (GrownFrom vars (length d.rows)) m.2 (h m.0 m.1, no_less (length d.rows))

place_grown : (p : Place) (d n : DocAt) (c : ℕ) → (p ≡ Start → d.vars ≡ []) → place_step d c p ≡ Some n → GrownFrom (complete_at (length d.vars) p) (length d.rows) n
place_grown Start d n c g e = moved_grown d n (first_place c) (length d.vars) (λ p k. no_vars d p (g refl)) e
place_grown Mark d n c g e =
    moved_grown d n (mark_place c) (length d.vars) (λ p k. pick_of {P = length d.vars ≤ complete (placed d p)} (c == 63) (InName name_at.Start) p None k (λ b k. subst (λ p. length d.vars ≤ complete (placed d p)) (sym k) (no_less (length d.vars))) (λ k. none_some k)) e
place_grown (InName q) d n c g e = go (after_name c) e
  where
    go : (o : Option Place) → name_moves d q c o ≡ Some n → GrownFrom (length d.vars) (length d.rows) n
    go None k = let m = mapped (λ n. placed d (InName n)) (name.step q c) n k in subst (GrownFrom (length d.vars) (length d.rows)) m.2 (no_less (length d.vars), no_less (length d.rows))
    go (Some p) k = let m = name_ended d n (name.final q) p k in subst (GrownFrom (length d.vars) (length d.rows)) m.3 (named_grown d m.0 p, no_less (length d.rows))
place_grown HeaderReturn d n c g e = moved_grown d n (return_place c) (length d.vars - 1) (λ p k. placed_least d p) e
place_grown Begin d n c g e = begin_grown d n c d.later e
place_grown (Field f) d n c g e = field_grown d n f c e
place_grown Return d n c g e =
    pick_of {P = GrownFrom (length d.vars) (length d.rows) n} (c == 10) (line_ended d d.row) n None e
    (λ b k. let l = length-append d.rows (d.row ∷ []) in subst (GrownFrom (length d.vars) (length d.rows)) (sym k) (no_less (length d.vars), omega (arith, l))) (λ k. none_some k)

step_grown : (d n : DocAt) (c : ℕ) → GoodDoc d → step d c ≡ Some n → Grown d n
step_grown d n c g e =
    let k = place_grown d.at (placed d Begin) n c (λ e. start_vars d.at e g.at) e in
    record { vars = k.0; rows = k.1 }
  where
    start_vars : (p : Place) → p ≡ Start → GoodAt p d → d.vars ≡ []
    start_vars Start e g = g.1
    start_vars Mark e g = cc
    start_vars (InName q) e g = cc
    start_vars HeaderReturn e g = cc
    start_vars Begin e g = cc
    start_vars (Field f) e g = cc
    start_vars Return e g = cc

pub run_grown : (d n : DocAt) (text : List ℕ) → GoodDoc d → run step d text ≡ Some n → Grown d n
run_grown d n [] g e = let v = ap complete (some_same e) in let r = ap (λ (d : DocAt). length d.rows) (some_same e) in record { vars = omega (arith, v); rows = omega (arith, r) }
run_grown d n (c ∷ text) g e =
    let m = bind_some (step d c) (λ n. run step n text) n e in
    let one = step_grown d m.0 c g m.1 in
    let more = run_grown m.0 n text (doc_machine.stays d m.0 c g m.1) m.2 in
    let a = one.vars in
    let b = more.vars in
    let x = one.rows in
    let y = more.rows in
    record { vars = omega (arith, a, b); rows = omega (arith, x, y) }

-- a name leads to its end
along_name : (d : DocAt) (q m : NameAt) (own : List ℕ) → run name.step q own ≡ Some m → run step (placed d (InName q)) own ≡ Some (placed d (InName m))
along_name d q m [] e = ap Some (ap (λ q. placed d (InName q)) (some_same e))
along_name d q m (c ∷ own) e =
    let k = bind_some (name.step q c) (λ n. run name.step n own) m e in
    let moves : step (placed d (InName q)) c ≡ Some (placed d (InName k.0)) = ap (name_moves (placed d Begin) q c) (name_apart q k.0 c k.1) ∙ ap (option_map (λ n. placed d (InName n))) k.1 in
    ap (option_and_then (λ n. run step n own)) moves ∙ along_name d k.0 m own k.2

name_reads : (v : Name) → is_name v ≡ true → run name.step name_at.Start v ≡ Some (name_at.In v)
name_reads v is =
    let k = run_gives name_exactly.Left name.step (λ s. Viable (name_exactly.Left s) []) (of_token name_exactly.Left name.step name.final name_exact) name_at.Start v [] v (name_exactly.can name_at.Start) (append-nil v, is) in
    k.1 ∙ ap Some (at_end k.0 (name_exact.ends k.0 v k.2))
  where
    at_end : (q : NameAt) → name.final q ≡ Some v → q ≡ name_at.In v
    at_end name_at.Start e = none_some e
    at_end (name_at.In u) e = ap name_at.In (some_same e)

-- after a name
past_name : (d n : DocAt) (v : Name) (c : ℕ) (p : Place) (rest : List ℕ) → is_name v ≡ true → after_name c ≡ Some p → run step (placed d (InName name_at.Start)) (v ++ c ∷ rest) ≡ Some n → run step (named d v p) rest ≡ Some n
past_name d n v c p rest is a e =
    let there = run_on step (placed d (InName name_at.Start)) (placed d (InName (name_at.In v))) v (c ∷ rest) (along_name d name_at.Start (name_at.In v) v (name_reads v is)) in
    let k = bind_some (step (placed d (InName (name_at.In v))) c) (λ n. run step n rest) n (sym there ∙ e) in
    let m = name_ended (placed d Begin) k.0 (Some v) p (sym (ap (name_moves (placed d Begin) (name_at.In v) c) a) ∙ k.1) in
    let same : named d v p ≡ k.0 = ap (λ w. named d w p) (some_same m.1) ∙ m.3 in
    ap (λ s. run step s rest) same ∙ k.2

-- a header's names are complete
names_run : (vs : List Name) (d n : DocAt) (v : Name) (end : List ℕ) → is_name v ≡ true → AreNames vs → IsNameEnd end → run step (placed d (InName name_at.Start)) ((v ++ later_names vs) ++ end) ≡ Some n → complete n ≡ length d.vars + suc (length vs)
names_run [] d n v end is are (inl e) r =
    let k = past_name d n v 9 Mark [] is refl (ap (run step (placed d (InName name_at.Start))) (sym (λ i. append-nil v i ++ e i)) ∙ r) in
    let c = ap complete (some_same k) in
    let l = length-append d.vars (v ∷ []) in
    omega (arith, c, l)
names_run [] d n v end is are (inr (inl e)) r =
    let k = past_name d n v 10 Begin [] is refl (ap (run step (placed d (InName name_at.Start))) (sym (λ i. append-nil v i ++ e i)) ∙ r) in
    let c = ap complete (some_same k) in
    let l = length-append d.vars (v ∷ []) in
    omega (arith, c, l)
names_run [] d n v end is are (inr (inr e)) r =
    let k = past_name d n v 13 HeaderReturn (10 ∷ []) is refl (ap (run step (placed d (InName name_at.Start))) (sym (λ i. append-nil v i ++ e i)) ∙ r) in
    let c = ap complete (some_same k) in
    let l = length-append d.vars (v ∷ []) in
    omega (arith, c, l)
names_run (w ∷ vs) d n v end is are ends r =
    let whole : (v ++ (9 ∷ 63 ∷ w ++ later_names vs)) ++ end ≡ v ++ 9 ∷ (63 ∷ ((w ++ later_names vs) ++ end)) = append_assoc v (9 ∷ 63 ∷ w ++ later_names vs) end in
    let k = past_name d n v 9 Mark (63 ∷ ((w ++ later_names vs) ++ end)) is refl (ap (run step (placed d (InName name_at.Start))) (sym whole) ∙ r) in
    let m = names_run vs (named d v Mark) n w end are.0.0 (are.0.1, are.1.1) ends k in
    let l = length-append d.vars (v ∷ []) in
    omega (arith, m, l)

pub header_run : (names : List Name) (end : List ℕ) (n : DocAt) → 0 < length names → AreNames names → IsNameEnd end → run step start (header_text names ++ end) ≡ Some n → complete n ≡ length names
header_run [] end n some are ends r = absurd (omega (arith, some))
header_run (v ∷ vs) end n some are ends r = let k = names_run vs start n v end are.0.0 (are.0.1, are.1.1) ends r in omega (arith, k)

-- a line's end leads to the beginning of the next line
row_begins : (d n : DocAt) (row : Pairs) → row_ends d 10 row ≡ Some n → n.at ≡ Begin
row_begins d n row e = ap (λ (d : DocAt). d.at) (sym (some_same e))

cell_begins : (d n : DocAt) (later : List Name) (o : Option (Option Term)) → cell_ends d 10 later o ≡ Some n → n.at ≡ Begin
cell_begins d n later None e = none_some e
cell_begins d n [] (Some cell) e = none_some e
cell_begins d n (v ∷ []) (Some cell) e = row_begins d n (d.row ++ bound v cell) e
cell_begins d n (v ∷ w ∷ later) (Some cell) e = none_some e

begin_begins : (d n : DocAt) (later : List Name) → begin d 10 later ≡ Some n → n.at ≡ Begin
begin_begins d n [] e = row_begins d n d.row e
begin_begins d n (v ∷ later) e = cell_begins d n d.later (field.final Empty) e

place_begins : (p : Place) (d n : DocAt) → place_step d 10 p ≡ Some n → n.at ≡ Begin
place_begins Start d n e = ap (λ (d : DocAt). d.at) (sym (some_same e))
place_begins Mark d n e = none_some e
place_begins (InName q) d n e = let m = name_ended d n (name.final q) Begin e in ap (λ (d : DocAt). d.at) (sym m.3)
place_begins HeaderReturn d n e = ap (λ (d : DocAt). d.at) (sym (some_same e))
place_begins Begin d n e = begin_begins d n d.later e
place_begins (Field f) d n e = cell_begins d n d.later (field.final f) e
place_begins Return d n e = ap (λ (d : DocAt). d.at) (sym (some_same e))

pub begins_line : (d n : DocAt) → step d 10 ≡ Some n → n.at ≡ Begin
begins_line d n e = place_begins d.at (placed d Begin) n e

-- where lines that are all ended lead
last_step : (before : List ℕ) (c : ℕ) (n : DocAt) → run step start (before ++ c ∷ []) ≡ Some n → (d : DocAt) × (run step start before ≡ Some d) × (step d c ≡ Some n)
last_step before c n e =
    let m = bind_some (run step start before) (λ d. run step d (c ∷ [])) n (sym (run_append step start before (c ∷ [])) ∙ e) in
    let k = bind_some (step m.0 c) (λ n. Some n) n m.2 in
    (m.0, m.1, k.1 ∙ k.2)

-- fronts of documents by the machine
pub text_viable : (front : List ℕ) (d : DocAt) → run step start front ≡ Some d → Viable TsvText front
text_viable front d e = viable LeftDoc step GoodDoc doc_machine start d front good_start e

pub text_stops : (front : List ℕ) → run step start front ≡ None → Viable TsvText front → ⊥
text_stops front e w = not_viable LeftDoc step GoodDoc doc_machine start front good_start e w

pub text_runs : (front : List ℕ) → Viable TsvText front → (d : DocAt) × (run step start front ≡ Some d)
text_runs front w = let n = run_gives LeftDoc step GoodDoc doc_machine start front w.more w.value good_start w.whole in (n.0, n.1)

pub reached : (front : List ℕ) (d : DocAt) → run step start front ≡ Some d → GoodDoc d
reached front d e = run_good LeftDoc step GoodDoc doc_machine start d front good_start e

pub doc_runs : (text : List ℕ) (table : TableValue) → TsvText text table → (d : DocAt) × (run step start text ≡ Some d) × (final d ≡ Some table)
doc_runs text table h =
    let n = run_gives LeftDoc step GoodDoc doc_machine start text [] table good_start (subst (λ t. TsvText t table) (sym (append-nil text)) h) in
    (n.0, n.1, doc_ends n.0 table (reached text n.0 n.1) n.2)

pub runs_doc : (text : List ℕ) (table : TableValue) (d : DocAt) → run step start text ≡ Some d → final d ≡ Some table → TsvText text table
runs_doc text table d e f =
    subst (λ t. TsvText t table) (append-nil text) (run_takes LeftDoc step GoodDoc doc_machine start d text [] table good_start e (doc_may_end d table (reached text d e) f))

-- no step is made at what is left
abbrev pub StopsBefore : DocAt → List ℕ → Type 0
StopsBefore d left = (c : ℕ) (behind : List ℕ) → IsScalar c → left ≡ encode_utf8 c ++ behind → step d c ≡ None

pub some_scalar : (z : List ℕ) (c : ℕ) (front : List ℕ) → all_scalars (front ++ c ∷ z) ≡ true → IsScalar c
some_scalar z c [] e = (both_parts _ _ e).0
some_scalar z c (x ∷ front) e = some_scalar z c front (both_parts _ _ e).1

stops_run : (front : List ℕ) (d : DocAt) (c : ℕ) (z : List ℕ) → run step start front ≡ Some d → step d c ≡ None → run step start (front ++ c ∷ z) ≡ None
stops_run front d c z e s = run_on step start d front (c ∷ z) e ∙ ap (option_and_then (λ n. run step n z)) s

module _ (front left : List ℕ) (d : DocAt) (scalars : all_scalars front ≡ true) (runs : run step start front ≡ Some d) (stops : StopsBefore d left) where
  -- a viable text at the front of these bytes is one of the front
  pub within_front : (p rest : List ℕ) → all_scalars p ≡ true → Viable TsvText p → encode_utf8_all front ++ left ≡ encode_utf8_all p ++ rest → (z : List ℕ) × (front ≡ p ++ z)
  within_front p rest s w e =
      ⊎_elim
      (λ (k : (z : List ℕ) × (p ≡ front ++ z) × (left ≡ encode_utf8_all z ++ rest)). go k.0 k.1 k.2)
      (λ (k : Longer front p left rest). (k.next ∷ k.more, k.is))
      (split front p left rest scalars s e)
    where
      go : (z : List ℕ) → p ≡ front ++ z → left ≡ encode_utf8_all z ++ rest → (z : List ℕ) × (front ≡ p ++ z)
      go [] a b = ([], sym (append-nil front) ∙ sym a ∙ sym (append-nil p))
      go (c ∷ z) a b =
          let is = some_scalar z c front (ap all_scalars (sym a) ∙ s) in
          let dead = stops_run front d c z runs (stops c (encode_utf8_all z ++ rest) is (b ∙ append_assoc (encode_utf8 c) (encode_utf8_all z) rest)) in
          none_some (sym (ap (run step start) a ∙ dead) ∙ (text_runs p w).1)

  -- and the counts there are no greater
  pub counts_front : (p rest : List ℕ) → all_scalars p ≡ true → Viable TsvText p → encode_utf8_all front ++ left ≡ encode_utf8_all p ++ rest → (n : DocAt) × (run step start p ≡ Some n) × Grown n d
  counts_front p rest s w e =
      let k = within_front p rest s w e in
      let m = bind_some (run step start p) (λ n. run step n k.0) d (sym (run_append step start p k.0) ∙ ap (run step start) (sym k.1) ∙ runs) in
      (m.0, m.1, run_grown m.0 d k.0 (reached p m.0 m.1) m.2)

  pub vars_not : (bound : ℕ) → complete d ≤ bound → HasPassedVars bound (encode_utf8_all front ++ left) → ⊥
  vars_not bound least h =
      let k = counts_front (header_text h.names ++ h.end) h.rest h.scalars h.viable h.parts in
      let many = h.many in
      let some : 0 < length h.names = omega (arith, many) in
      let c = header_run h.names h.end k.0 some h.are h.ends k.1 in
      let g = k.2.vars in
      omega (arith, many, c, g, least)

  pub rows_not : (bound : ℕ) → length d.rows ≤ bound → HasPassedRows bound (encode_utf8_all front ++ left) → ⊥
  rows_not bound least h =
      let whole : Viable TsvText (h.before ++ 10 ∷ []) = record { more = []; scalars = refl; value = h.table; whole = subst (λ t. TsvText t h.table) (sym (append-nil (h.before ++ 10 ∷ []))) h.lines } in
      let k = counts_front (h.before ++ 10 ∷ []) h.rest h.scalars whole h.parts in
      let r = doc_runs (h.before ++ 10 ∷ []) h.table h.lines in
      let same : r.0 ≡ k.0 = some_same (sym r.1 ∙ k.1) in
      let l = last_step h.before 10 k.0 k.1 in
      let at : k.0.at ≡ Begin = begins_line l.0 k.0 l.2 in
      let end : final k.0 ≡ Some h.table = ap final (sym same) ∙ r.2 in
      let is : table_of k.0 ≡ h.table = some_same (sym (ap (place_final (placed k.0 Begin)) at) ∙ end) in
      let rows = ap (λ (t : TableValue). length t.rows) is in
      let many = h.many in
      let g = k.2.rows in
      omega (arith, many, rows, g, least)

  -- a document of these bytes ends with the front
  pub doc_is_front : (table : TableValue) → TsvDoc (encode_utf8_all front ++ left) table → (left ≡ []) × (final d ≡ Some table)
  doc_is_front table h =
      ⊎_elim
      (λ (k : (z : List ℕ) × (h.text ≡ front ++ z) × (left ≡ encode_utf8_all z ++ [])). go k.0 k.1 k.2)
      (λ (k : Longer front h.text left []). absurd (some_bytes k.next (encode_utf8_all k.more ++ left) (k.rest ∙ append_assoc (encode_utf8 k.next) (encode_utf8_all k.more) left)))
      (split front h.text left [] scalars h.scalars (h.encoded ∙ sym (append-nil (encode_utf8_all h.text))))
    where
      some_bytes : (c : ℕ) (rest : List ℕ) → ◌≡◌ {A = List ℕ} [] (encode_utf8 c ++ rest) → ⊥
      some_bytes c rest e = let n = ap length e ∙ length-append (encode_utf8 c) rest in let l = length-encode c in let b = (len_utf8_bounds c).0 in omega (arith, n, l, b)

      go : (z : List ℕ) → h.text ≡ front ++ z → left ≡ encode_utf8_all z ++ [] → (left ≡ []) × (final d ≡ Some table)
      go [] a b =
          let r = doc_runs h.text table h.lines in
          let same : r.0 ≡ d = some_same (sym r.1 ∙ ap (run step start) (a ∙ append-nil front) ∙ runs) in
          (b, ap final (sym same) ∙ r.2)
      go (c ∷ z) a b =
          let is = some_scalar z c front (ap all_scalars (sym a) ∙ h.scalars) in
          let dead = stops_run front d c z runs (stops c (encode_utf8_all z ++ []) is (b ∙ append_assoc (encode_utf8 c) (encode_utf8_all z) [])) in
          let r = doc_runs h.text table h.lines in
          none_some (sym (ap (run step start) a ∙ dead) ∙ r.1)

  pub has_not : (bounds : Bounds) → passed bounds d ≡ None → HasPassed bounds (encode_utf8_all front ++ left) → ⊥
  has_not bounds w h = let k = exceeded_none bounds (complete d) (length d.rows) w in ⊎_elim (λ v. vars_not bounds.vars k.0 v) (λ r. rows_not bounds.rows k.1 r) h

  -- where no document ends there either, no count is passed
  pub passes_not : (bounds : Bounds) → passed bounds d ≡ None → ((table : TableValue) → left ≡ [] → final d ≡ Some table → ⊥) → Passes bounds (encode_utf8_all front ++ left) → ⊥
  passes_not bounds w none h =
      let k = exceeded_none bounds (complete d) (length d.rows) w in
      ⊎_elim
      (λ v. ⊎_elim (λ v. vars_not bounds.vars k.0 v) (λ t. let f = doc_is_front t.0 t.1 in none t.0 f.0 f.1) v)
      (λ r. ⊎_elim (λ r. rows_not bounds.rows k.1 r) (λ t. let f = doc_is_front t.0 t.1 in none t.0 f.0 f.1) r)
      h
