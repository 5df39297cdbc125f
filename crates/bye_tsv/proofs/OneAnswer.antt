-- That a table document has one answer.
use Rattle.std.proofs.Common.{◌≡◌, refl, ℕ, suc, ◌<◌, ◌≤◌, true, List, [], ◌∷◌, ◌++◌, Option, Some, None, option_map, Ok, Err, length, ◌⊎◌, inl, inr, ⊎_elim, sym, ◌∙◌, ap, subst, append_assoc, append-nil, length-append, arith}
use Rattle.std.specs.Prelude.{Result}
use Rattle.std.specs.Char.{encode_utf8, IsScalar}
use Rattle.std.specs.Str.{encode_utf8_all, all_scalars}
use Rattle.std.proofs.lemmas.Str.{encodes-append}
use Rattle.bye_terms.specs.declared.term.Term.{Term}
use Rattle.bye_terms.proofs.Tests.{both_parts}
use Rattle.bye_lex.specs.NameSteps as name
use Rattle.bye_lex.specs.Running.{run}
use Rattle.bye_lex.specs.Stopping.{LeavesOver}
use Rattle.bye_lex.proofs.Branches.{mapped, none_some, some_same}
use Rattle.bye_lex.proofs.Machines.{run_gives, run_good}
use Rattle.bye_lex.proofs.Utf8Laws.{prefix_free}
use Rattle.bye_table.specs.Mappings.{Name}
use Rattle.bye_table.specs.Tables.{TableValue}
use Rattle.bye_tsv.specs.Answers.{Stops, lines, IsFieldEnd, PassesVars, PassesRows, Passes}
use Rattle.bye_tsv.specs.DocSteps.{DocAt, start, placed, cell_ends, name_ends, table_of, step, place_final, final}
use Rattle.bye_tsv.specs.Documents.{header_text, AreNames, TsvText, TsvDoc}
use Rattle.bye_tsv.specs.FieldSteps as field
use Rattle.bye_tsv.specs.OneAnswer.{TsvAnswer, TsvAnswersOnce}
use Rattle.bye_tsv.specs.declared.fault.Bounds.{Bounds}
use Rattle.bye_tsv.specs.declared.fault.TsvErr.{TsvErr}
use Rattle.bye_tsv.specs.declared.fault.TsvErr.TheVariants as faults
use Rattle.bye_tsv.specs.declared.place.Place.{Place}
use Rattle.bye_tsv.specs.declared.place.Place.TheVariants.{Start, Mark, Name as InName, HeaderReturn, Begin, Field, Return}
use Rattle.bye_tsv.proofs.DocBack.{name_ended}
use Rattle.bye_tsv.proofs.DocExact.{doc_ends, doc_machine, good_start}
use Rattle.bye_tsv.proofs.DocMeaning.{GoodAt, GoodDoc, LeftAt, LeftDoc}
use Rattle.bye_lex.proofs.Fronts.{back_scalars, front_scalars, none_empty}
use Rattle.bye_lex.proofs.Stopped.{Halts, end_halts, front_of, halts_same, leaves_halts, leaves_same, next_halts}

-- the machine reads the front of a document, and the rest is what it still wants
record Reached (front rest : List ℕ) (table : TableValue) : Type 0 where
  pub at : DocAt
  pub runs : run step start front ≡ Some at
  pub good : GoodDoc at
  pub left : LeftDoc at rest table

reached : (front rest : List ℕ) (table : TableValue) → TsvText (front ++ rest) table → Reached front rest table
reached front rest table h =
    let n = run_gives LeftDoc step GoodDoc doc_machine start front rest table good_start h in
    record { at = n.0; runs = n.1; good = run_good LeftDoc step GoodDoc doc_machine start n.0 front good_start n.1; left = n.2 }

whole : (text : List ℕ) (table : TableValue) → TsvText text table → Reached text [] table
whole text table h = reached text [] table (subst (λ t. TsvText t table) (sym (append-nil text)) h)

-- and at its end gives the table
ended : (text : List ℕ) (table : TableValue) (r : Reached text [] table) → final r.at ≡ Some table
ended text table r = doc_ends r.at table r.good r.left

-- so a text is one table
text_once : (text : List ℕ) (a b : TableValue) → TsvText text a → TsvText text b → a ≡ b
text_once text a b g h =
    let x = whole text a g in
    let y = whole text b h in
    some_same (sym (ended text a x) ∙ ap final (some_same (sym x.runs ∙ y.runs)) ∙ ended text b y)

-- one table has no more variables and no more rows than another
record NoMore (less more : TableValue) : Type 0 where
  pub vars : length less.vars ≤ length more.vars
  pub rows : length less.rows ≤ length more.rows

no_fewer : {A : Type 0} (less front back more : List A) → less ≡ front → more ≡ front ++ back → length less ≤ length more
no_fewer less front back more e h = let x = ap length e in let y = ap length h in let z = length-append front back in omega (arith, x, y, z)

one_fewer : {A : Type 0} (less front : List A) (last : A) (more : List A) (next : A) (back : List A) → less ≡ front ++ last ∷ [] → more ≡ front ++ next ∷ back → length less ≤ length more
one_fewer less front last more next back e h =
    let x = ap length e in
    let y = ap length h in
    let z = length-append front (last ∷ []) in
    let w = length-append front (next ∷ back) in
    omega (arith, x, y, z, w)

same_length : {A : Type 0} (less more : List A) (front : List A) → less ≡ front → more ≡ front → length less ≤ length more
same_length less more front e h = let x = ap length e in let y = ap length h in omega (arith, x, y)

-- what a line that the document's end ends gives
row_more : (d : DocAt) (later : List Name) (o : Option (Option Term)) (less more : TableValue) (row : List (Name × Term)) (back : List (List (Name × Term))) → option_map table_of (cell_ends (placed d Begin) 10 later o) ≡ Some less → more.vars ≡ d.vars → more.rows ≡ d.rows ++ row ∷ back → NoMore less more
row_more d later None less more row back e vars rows = none_some e
row_more d [] (Some cell) less more row back e vars rows = none_some e
row_more d (v ∷ w ∷ later) (Some cell) less more row back e vars rows = none_some e
row_more d (v ∷ []) (Some cell) less more row back e vars rows =
    let same = sym (some_same e) in
    record { vars = same_length less.vars more.vars d.vars (ap (λ (t : TableValue). t.vars) same) vars; rows = one_fewer less.rows d.rows _ more.rows row back (ap (λ (t : TableValue). t.rows) same) rows }

-- the table at a place where the document may end has no more than a table of a document that goes on
module _ (d : DocAt) (rest : List ℕ) (less more : TableValue) where
  place_more : (p : Place) → GoodAt p d → place_final (placed d Begin) p ≡ Some less → LeftAt p d rest more → NoMore less more
  place_more Start g e h = none_some e
  place_more Mark g e h = none_some e
  place_more (InName q) g e h =
      let m = mapped table_of (name_ends (placed d Begin) (name.final q) Begin) less e in
      let k = name_ended (placed d Begin) m.0 (name.final q) Begin m.1 in
      let same : less ≡ record { vars = d.vars ++ k.0 ∷ []; rows = d.rows } = sym (ap table_of k.3 ∙ m.2) in
      record { vars = one_fewer less.vars d.vars k.0 more.vars h.name h.more (ap (λ (t : TableValue). t.vars) same) h.vars; rows = no_fewer less.rows [] more.rows more.rows (ap (λ (t : TableValue). t.rows) same ∙ g.0.rows) refl }
  place_more HeaderReturn g e h = none_some e
  place_more Begin g e h =
      let same : less ≡ table_of d = sym (some_same e) in
      record { vars = same_length less.vars more.vars d.vars (ap (λ (t : TableValue). t.vars) same) h.vars; rows = no_fewer less.rows d.rows h.more more.rows (ap (λ (t : TableValue). t.rows) same) h.rows }
  place_more (Field f) g e h = row_more d d.later (field.final f) less more (d.row ++ h.own) h.more e h.vars h.rows
  place_more Return g e h = none_some e

-- as a document goes on, neither count falls
goes_on : (front rest : List ℕ) (less more : TableValue) → TsvText front less → TsvText (front ++ rest) more → NoMore less more
goes_on front rest less more g h =
    let x = whole front less g in
    let y = reached front rest more h in
    let same : x.at ≡ y.at = some_same (sym x.runs ∙ y.runs) in
    place_more y.at rest less more y.at.at y.good.at (subst (λ d. final d ≡ Some less) same (ended front less x)) y.left

-- the same of bytes
doc_goes_on : (bytes front rest : List ℕ) (less more : TableValue) → bytes ≡ encode_utf8_all front ++ rest → all_scalars front ≡ true → TsvText front less → TsvDoc bytes more → NoMore less more
doc_goes_on bytes front rest less more parts scalars g h =
    let k = front_of front h.text rest scalars h.scalars (sym parts ∙ h.encoded) in
    goes_on front k.0 less more g (subst (λ t. TsvText t more) k.1 h.lines)

-- a header's line is a document, where it has a name
no_names : (vars : List Name) → header_text vars ≡ [] → vars ≡ []
no_names [] e = refl
no_names (v ∷ vars) e = cc

header_doc : (vars : List Name) → AreNames vars → (vars ≡ [] → ⊥) → TsvText (header_text vars) (record { vars = vars; rows = [] })
header_doc vars are some = record { end = []; rest = []; names = are; ends = inr (refl, refl, λ e. some (no_names vars e)); rows = refl; spelled = sym (append-nil (header_text vars)) }

-- bytes of a document whose counts are within their bounds pass neither
doc_halts : (bytes : List ℕ) (table : TableValue) (doc : TsvDoc bytes table) → Halts TsvText bytes doc.text []
doc_halts bytes table doc =
    end_halts TsvText bytes doc.text doc.encoded doc.scalars (record { more = []; scalars = refl; value = table; whole = subst (λ t. TsvText t table) (sym (append-nil doc.text)) doc.lines })

docs_same : (bytes : List ℕ) (a b : TableValue) → TsvDoc bytes a → TsvDoc bytes b → a ≡ b
docs_same bytes a b g h = text_once h.text a b (subst (λ t. TsvText t a) (halts_same TsvText bytes g.text h.text [] [] (doc_halts bytes a g) (doc_halts bytes b h)).0 g.lines) h.lines

some_more : {A : Type 0} (bound : ℕ) (xs : List A) → bound < length xs → xs ≡ [] → ⊥
some_more bound xs many e = let n = ap length e in omega (arith, n, many)

vars_within : (bytes : List ℕ) (bound : ℕ) (table : TableValue) → TsvDoc bytes table → length table.vars ≤ bound → PassesVars bound bytes → ⊥
vars_within bytes bound table doc within (inl p) =
    let header = header_text p.names in
    let parts : bytes ≡ encode_utf8_all header ++ (encode_utf8_all p.end ++ p.rest) = p.parts ∙ bytes_join header p.end p.rest in
    let k = (doc_goes_on bytes header (encode_utf8_all p.end ++ p.rest) (record { vars = p.names; rows = [] }) table parts (front_scalars header p.end p.scalars) (header_doc p.names p.are (some_more bound p.names p.many)) doc).vars in
    let many = p.many in
    omega (arith, k, within, many)
  where
    bytes_join : (a b rest : List ℕ) → encode_utf8_all (a ++ b) ++ rest ≡ encode_utf8_all a ++ (encode_utf8_all b ++ rest)
    bytes_join a b rest = ap (λ t. t ++ rest) (encodes-append a b) ∙ append_assoc (encode_utf8_all a) (encode_utf8_all b) rest
vars_within bytes bound table doc within (inr p) = let k = ap (λ (t : TableValue). length t.vars) (docs_same bytes table p.0 doc p.1) in let many = p.2 in omega (arith, k, within, many)

rows_within : (bytes : List ℕ) (bound : ℕ) (table : TableValue) → TsvDoc bytes table → length table.rows ≤ bound → PassesRows bound bytes → ⊥
rows_within bytes bound table doc within (inl p) =
    let k = (doc_goes_on bytes (p.before ++ 10 ∷ []) p.rest p.table table p.parts p.scalars p.lines doc).rows in
    let many = p.many in
    omega (arith, k, within, many)
rows_within bytes bound table doc within (inr p) = let k = ap (λ (t : TableValue). length t.rows) (docs_same bytes table p.0 doc p.1) in let many = p.2 in omega (arith, k, within, many)

-- what stands where a document stops being one: a character, or nothing
abbrev behind : (bytes front : List ℕ) (next : Option ℕ) → Stops bytes front next → List ℕ
behind bytes front None s = []
behind bytes front (Some next) s = encode_utf8 next ++ s.rest

stops_halts : (bytes front : List ℕ) (next : Option ℕ) (s : Stops bytes front next) → Halts TsvText bytes front (behind bytes front next s)
stops_halts bytes front None s = end_halts TsvText bytes front s.encoded s.scalars s.viable
stops_halts bytes front (Some next) s = next_halts TsvText bytes front next s.rest s.parts s.scalars s.before s.after

next_is : (front : List ℕ) (next : ℕ) → all_scalars (front ++ next ∷ []) ≡ true → IsScalar next
next_is front next e = (both_parts _ _ (back_scalars front (next ∷ []) e)).0

same_next : (bytes a b : List ℕ) (m n : Option ℕ) (x : Stops bytes a m) (y : Stops bytes b n) → behind bytes a m x ≡ behind bytes b n y → m ≡ n
same_next bytes a b None None x y e = refl
same_next bytes a b None (Some n) x y e = absurd (none_empty n y.rest (next_is b n y.scalars) e)
same_next bytes a b (Some m) None x y e = absurd (none_empty m x.rest (next_is a m x.scalars) (sym e))
same_next bytes a b (Some m) (Some n) x y e = ap Some (prefix_free m n x.rest y.rest (next_is a m x.scalars) (next_is b n y.scalars) e).0

not_empty : (left : List ℕ) → left ≡ [] → 0 < length left → ⊥
not_empty left e some = let n = ap length e in omega (arith, n, some)

-- bytes are a document, or leave something over that is no character, or stop being one
doc_leaves : (bytes : List ℕ) (table : TableValue) (place : ℕ) → TsvDoc bytes table → LeavesOver TsvText bytes place → ⊥
doc_leaves bytes table place doc l = not_empty l.left (sym (halts_same TsvText bytes doc.text l.front [] l.left (doc_halts bytes table doc) (leaves_halts TsvText bytes place l)).1) l.some

stops_leaves : (bytes front : List ℕ) (next : Option ℕ) (place : ℕ) → Stops bytes front next → LeavesOver TsvText bytes place → ⊥
stops_leaves bytes front next place s l = go next s (halts_same TsvText bytes front l.front (behind bytes front next s) l.left (stops_halts bytes front next s) (leaves_halts TsvText bytes place l)).1
  where
    go : (next : Option ℕ) (s : Stops bytes front next) → behind bytes front next s ≡ l.left → ⊥
    go None s e = not_empty l.left (sym e) l.some
    go (Some next) s e = l.none next s.rest (next_is front next s.scalars) (sym e)

doc_stops : (bytes front : List ℕ) (next : Option ℕ) (table : TableValue) → TsvDoc bytes table → Stops bytes front next → ⊥
doc_stops bytes front next table doc s = go next s (halts_same TsvText bytes doc.text front [] (behind bytes front next s) (doc_halts bytes table doc) (stops_halts bytes front next s))
  where
    go : (next : Option ℕ) (s : Stops bytes front next) → (doc.text ≡ front) × ([] ≡ behind bytes front next s) → ⊥
    go None s e = s.none table (subst (λ t. TsvText t table) e.0 doc.lines)
    go (Some next) s e = none_empty next s.rest (next_is front next s.scalars) e.1

-- at most one thing is such
abbrev AtMostOne : {A : Type 0} → (A → Type 0) → Type 0
AtMostOne {A = A} P = (a b : A) → P a → P b → a ≡ b

-- a stage of the reading: it stops with an answer, or finds one thing and goes on from there
abbrev Stage : {X A : Type 0} → (A → Type 0) → (X → Type 0) → (X → A → Type 0) → A → Type 0
Stage {X = X} Stops Finds Next a = Stops a ⊎ ((x : X) × Finds x × Next x a)

stage_once : {X A : Type 0} (Stops : A → Type 0) (Finds : X → Type 0) (Next : X → A → Type 0) → AtMostOne Stops → ((a : A) (x : X) → Stops a → Finds x → ⊥) → AtMostOne Finds → ((x : X) → AtMostOne (Next x)) → AtMostOne (Stage Stops Finds Next)
stage_once Stops Finds Next stop never find next a b (inl s) (inl t) = stop a b s t
stage_once Stops Finds Next stop never find next a b (inl s) (inr y) = absurd (never a y.0 s y.1)
stage_once Stops Finds Next stop never find next a b (inr x) (inl t) = absurd (never b x.0 t x.1)
stage_once Stops Finds Next stop never find next a b (inr x) (inr y) = next x.0 a b x.2 (subst (λ x. Next x b) (sym (find x.0 y.0 x.1 y.1)) y.2)

-- what a reader answers
abbrev Answer : Type 0
Answer = Result TableValue TsvErr

-- a stage stops with this fault, for this reason
abbrev With : TsvErr → Type 0 → Answer → Type 0
With fault Why a = (a ≡ Err fault) × Why

-- a stage that asks only whether it is so: with this fault where it is, and on where it is not
abbrev Unless : Type 0 → TsvErr → (Answer → Type 0) → Answer → Type 0
Unless Why fault Next = Stage (With fault Why) (λ (u : Unit {0}). Why → ⊥) (λ u. Next)

unless_once : (Why : Type 0) (fault : TsvErr) (Next : Answer → Type 0) → AtMostOne Next → AtMostOne (Unless Why fault Next)
unless_once Why fault Next next = stage_once _ _ _ (λ a b s t. s.0 ∙ sym t.0) (λ a u s none. none s.1) (λ u v p q. refl) (λ u. next)

-- the place of a fault after this front
abbrev place_of : List ℕ → ℕ
place_of front = length (encode_utf8_all front)

-- in the header, or at the end of a field, or elsewhere
abbrev OfField : List ℕ → Option ℕ → Answer → Type 0
OfField front next = Unless (IsFieldEnd front next) (faults.Fields (suc (lines front))) (λ a. a ≡ Err (faults.Term (place_of front)))

abbrev OfLine : List ℕ → Option ℕ → Answer → Type 0
OfLine front next = Unless (lines front ≡ 0) (faults.Header (place_of front)) (OfField front next)

-- something is left over, or the bytes stop after a front
abbrev OfPlace : List ℕ → Answer → Type 0
OfPlace bytes = Stage (λ a. (place : ℕ) × With (faults.NotUtf8 place) (LeavesOver TsvText bytes place) a) (λ (x : List ℕ × Option ℕ). Stops bytes x.0 x.1) (λ x. OfLine x.0 x.1)

-- a document, or none
abbrev OfDoc : List ℕ → Answer → Type 0
OfDoc bytes = Stage (λ a. (table : TableValue) × (a ≡ Ok table) × TsvDoc bytes table) (λ (u : Unit {0}). (table : TableValue) → TsvDoc bytes table → ⊥) (λ u. OfPlace bytes)

-- the counts, the variables first
abbrev OfRows : Bounds → List ℕ → Answer → Type 0
OfRows bounds bytes = Unless (PassesRows bounds.rows bytes) faults.TooManyRows (OfDoc bytes)

abbrev OfVars : Bounds → List ℕ → Answer → Type 0
OfVars bounds bytes = Unless (PassesVars bounds.vars bytes) faults.TooManyVars (OfRows bounds bytes)

-- each stage gives one answer, as the next one does
line_once : (front : List ℕ) (next : Option ℕ) → AtMostOne (OfLine front next)
line_once front next = unless_once _ _ _ (unless_once _ _ _ (λ a b e h. e ∙ sym h))

stops_once : (bytes : List ℕ) → AtMostOne (λ (x : List ℕ × Option ℕ). Stops bytes x.0 x.1)
stops_once bytes x y s t =
    let k = halts_same TsvText bytes x.0 y.0 (behind bytes x.0 x.1 s) (behind bytes y.0 y.1 t) (stops_halts bytes x.0 x.1 s) (stops_halts bytes y.0 y.1 t) in
    let next : x.1 ≡ y.1 = same_next bytes x.0 y.0 x.1 y.1 s t k.1 in
    λ i. (k.0 i, next i)

place_once : (bytes : List ℕ) → AtMostOne (OfPlace bytes)
place_once bytes =
    stage_once _ _ _ (λ a b s t. s.1.0 ∙ ap (λ n. Err (faults.NotUtf8 n)) (leaves_same TsvText bytes s.0 t.0 s.1.1 t.1.1) ∙ sym t.1.0)
    (λ a x s t. stops_leaves bytes x.0 x.1 s.0 t s.1.1) (stops_once bytes) (λ x. line_once x.0 x.1)

doc_once : (bytes : List ℕ) → AtMostOne (OfDoc bytes)
doc_once bytes = stage_once _ _ _ (λ a b s t. s.1 ∙ ap Ok (docs_same bytes s.0 t.0 s.2 t.2) ∙ sym t.1) (λ a u s none. none s.0 s.2) (λ u v p q. refl) (λ u. place_once bytes)

answer_once : (bounds : Bounds) (bytes : List ℕ) → AtMostOne (OfVars bounds bytes)
answer_once bounds bytes = unless_once _ _ _ (unless_once _ _ _ (doc_once bytes))

-- each answer is one of the stages, but for want of memory
within : (bounds : Bounds) (bytes : List ℕ) (a : Answer) → (Passes bounds bytes → ⊥) → OfDoc bytes a → OfVars bounds bytes a
within bounds bytes a none on = inr (tt, (λ p. none (inl p)), inr (tt, (λ p. none (inr p)), on))

stopped : (bounds : Bounds) (bytes front : List ℕ) (next : Option ℕ) (a : Answer) → (Passes bounds bytes → ⊥) → Stops bytes front next → OfLine front next a → OfVars bounds bytes a
stopped bounds bytes front next a none s on = within bounds bytes a none (inr (tt, (λ table doc. doc_stops bytes front next table doc s), inr ((front, next), s, on)))

some_lines : (n : ℕ) → 0 < n → n ≡ 0 → ⊥
some_lines n some e = omega (arith, some, e)

staged : (bounds : Bounds) (bytes : List ℕ) (a : Answer) → TsvAnswer bounds bytes a → (a ≡ Err faults.Memory) ⊎ OfVars bounds bytes a
staged bounds bytes (Ok table) x =
    inr (within bounds bytes (Ok table) (⊎_elim (λ p. vars_within bytes bounds.vars table x.doc x.vars p) (λ p. rows_within bytes bounds.rows table x.doc x.rows p)) (inl (table, refl, x.doc)))
staged bounds bytes (Err (faults.NotUtf8 place)) x = inr (within bounds bytes _ x.1 (inr (tt, (λ table doc. doc_leaves bytes table place doc x.0), inl (place, (refl, x.0)))))
staged bounds bytes (Err (faults.Header place)) x = let f = x.0 in inr (stopped bounds bytes f.front f.next _ x.1 f.stops (inl (ap (λ n. Err (faults.Header n)) f.at, f.first)))
staged bounds bytes (Err (faults.Term place)) x =
    let f = x.0 in inr (stopped bounds bytes f.front f.next _ x.1 f.stops (inr (tt, some_lines (lines f.front) f.later, inr (tt, f.other, ap (λ n. Err (faults.Term n)) f.at))))
staged bounds bytes (Err (faults.Fields line)) x =
    let f = x.0 in inr (stopped bounds bytes f.front f.next _ x.1 f.stops (inr (tt, some_lines (lines f.front) f.later, inl (ap (λ n. Err (faults.Fields n)) f.at, f.ends))))
staged bounds bytes (Err faults.TooManyVars) x = inr (inl (refl, x))
staged bounds bytes (Err faults.TooManyRows) x = inr (inr (tt, x.1, inl (refl, x.0)))
staged bounds bytes (Err faults.Memory) x = inl refl

-- and so it is one
pub one_answer : TsvAnswersOnce
one_answer bounds bytes a b x y =
    ⊎_elim inl (λ (p : OfVars bounds bytes a). inr (⊎_elim inl (λ (q : OfVars bounds bytes b). inr (answer_once bounds bytes a b p q)) (staged bounds bytes b y))) (staged bounds bytes a x)
