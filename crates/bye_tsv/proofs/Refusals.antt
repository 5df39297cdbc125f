-- What reading a text comes to says of the document.
use Rattle.std.proofs.Common.{◌≡◌, refl, ℕ, ◌<◌, ◌≤◌, true, List, [], ◌∷◌, ◌++◌, Some, None, option_and_then, length, inl, inr, ⊎_elim, sym, ◌∙◌, ap, subst, append_assoc, append-nil, arith, length-append}
use Rattle.std.specs.Char.{encode_utf8, IsScalar}
use Rattle.std.specs.Str.{encode_utf8_all, all_scalars}
use Rattle.bye_terms.proofs.Tests.{both_parts}
use Rattle.bye_lex.specs.Languages.{Viable}
use Rattle.bye_lex.specs.Running.{run}
use Rattle.bye_lex.specs.Utf8.{BeginsCharacter, NoCharacter}
use Rattle.bye_lex.proofs.Branches.{and_true, none_some, scalars_join, some_same}
use Rattle.bye_lex.proofs.Machines.{run_on, run_step}
use Rattle.bye_lex.proofs.Utf8Laws.{begins_none, none_after, prefix_free}
use Rattle.bye_table.specs.Tables.{TableValue}
use Rattle.bye_tsv.specs.Answers.{EndsField, HasPassedVars, HasPassedRows, IsFault, IsRead, MayBeFront, Passes, PassesVars, Refuses}
use Rattle.bye_tsv.specs.DocSteps.{DocAt, start, step, final, place_final, placed, table_of, complete, exceeded, fault, is_border, passed}
use Rattle.bye_tsv.specs.Documents.{header_text, TsvText, TsvDoc}
use Rattle.bye_tsv.specs.declared.fault.Bounds.{Bounds}
use Rattle.bye_tsv.specs.declared.fault.TsvErr.{TsvErr}
use Rattle.bye_tsv.specs.declared.fault.TsvErr.TheVariants as faults
use Rattle.bye_tsv.specs.declared.place.Place.TheVariants.{Begin}
use Rattle.bye_tsv.proofs.DocForth.{border}
use Rattle.bye_tsv.proofs.Faults.{fault_is}
use Rattle.bye_lex.proofs.Fronts.{Longer, at_char, back_scalars, none_empty, split}
use Rattle.bye_tsv.proofs.Growing.{IsBody, body_complete, body_run, final_vars, names_grow, rows_grow}
use Rattle.bye_tsv.proofs.Passing.{StopsBefore, begins_line, doc_is_front, doc_runs, exceeded_none, exceeded_some, has_not, header_run, passes_not, reached, run_grown, runs_doc, text_runs, text_stops, text_viable, vars_not}
use Rattle.bye_tsv.proofs.Tracking.{tracks}

stops_before : (d : DocAt) (c : ℕ) (rest : List ℕ) → IsScalar c → step d c ≡ None → StopsBefore d (encode_utf8 c ++ rest)
stops_before d c rest is e b behind scalar k = let same = prefix_free c b rest behind is scalar k in ap (step d) (sym same.0) ∙ e

pub none_before : (d : DocAt) (left : List ℕ) → NoCharacter left → StopsBefore d left
none_before d left none c behind scalar e = absurd (none c behind scalar e)

some_bytes : (c : ℕ) (rest : List ℕ) → IsScalar c → encode_utf8 c ++ rest ≡ [] → ⊥
some_bytes c rest is e = none_empty c rest is (sym e)

-- the bytes are the front of no document, where no step is made at what is left and that begins no character
no_front : (bounds : Bounds) (front : List ℕ) (d : DocAt) (left : List ℕ) → all_scalars front ≡ true → run step start front ≡ Some d → StopsBefore d left → (BeginsCharacter left → ⊥) → MayBeFront bounds (encode_utf8_all front ++ left) → ⊥
no_front bounds front d left scalars e stops none m =
    ⊎_elim
    (λ (z : (z : List ℕ) × (m.front ≡ front ++ z) × (left ≡ encode_utf8_all z ++ m.left)). further z.0 z.1 z.2)
    (λ (z : Longer front m.front left m.left). begins_none m.left m.begins z.next (encode_utf8_all z.more ++ left) z.scalar (z.rest ∙ append_assoc (encode_utf8 z.next) (encode_utf8_all z.more) left))
    (split front m.front left m.left scalars m.scalars m.parts)
  where
    further : (z : List ℕ) → m.front ≡ front ++ z → left ≡ encode_utf8_all z ++ m.left → ⊥
    further [] a b = none (subst BeginsCharacter (sym b) m.begins)
    further (c ∷ z) a b =
        let is = both_parts _ _ (back_scalars front (c ∷ z) (ap all_scalars (sym a) ∙ m.scalars)) in
        let stop = stops c (encode_utf8_all z ++ m.left) is.0 (b ∙ append_assoc (encode_utf8 c) (encode_utf8_all z) m.left) in
        let gone : run step start m.front ≡ None = ap (run step start) a ∙ run_on step start d front (c ∷ z) e ∙ ap (option_and_then (λ n. run step n z)) stop in
        none_some (sym gone ∙ (text_runs m.front m.viable).1)

border_of : (c : ℕ) → EndsField (Some c) → is_border c ≡ true
border_of c (inl e) = ap is_border e
border_of c (inr (inl e)) = ap is_border e
border_of c (inr (inr e)) = ap is_border e

-- the machine stops at a character
pub stop_refuses : (bounds : Bounds) (front : List ℕ) (c : ℕ) (rest : List ℕ) (d : DocAt) → all_scalars front ≡ true → IsScalar c → run step start front ≡ Some d → step d c ≡ None → passed bounds d ≡ None
    → Refuses bounds (encode_utf8_all (front ++ c ∷ []) ++ rest) (fault d (is_border c) (length (encode_utf8_all front)))
stop_refuses bounds front c rest d scalars is e stop w =
    let dead : run step start (front ++ c ∷ []) ≡ None = run_on step start d front (c ∷ []) e ∙ ap (option_and_then (λ n. Some n)) stop in
    let bytes : (more : List ℕ) → (encode_utf8_all (front ++ c ∷ []) ++ rest) ++ more ≡ encode_utf8_all front ++ (encode_utf8 c ++ (rest ++ more)) =
    λ more. append_assoc (encode_utf8_all (front ++ c ∷ [])) rest more ∙ at_char front c (rest ++ more) in
    let stops : (more : List ℕ) → StopsBefore d (encode_utf8 c ++ (rest ++ more)) = λ more. stops_before d c (rest ++ more) is stop in
    record {
      always = λ more.
          fault_is bounds ((encode_utf8_all (front ++ c ∷ []) ++ rest) ++ more) front d (Some c) (is_border c) (length (encode_utf8_all front))
          (record { rest = rest ++ more; parts = append_assoc (encode_utf8_all (front ++ c ∷ [])) rest more; scalars = scalars_join front (c ∷ []) scalars (and_true _ _ is refl); before = text_viable front d e; after = text_stops (front ++ c ∷ []) dead })
          (border_of c) (border c) refl
          (λ p. passes_not front (encode_utf8 c ++ (rest ++ more)) d scalars e (stops more) bounds w (λ table nil f. some_bytes c (rest ++ more) is nil) (subst (Passes bounds) (bytes more) p))
          e;
      never = λ more m. no_front bounds front d (encode_utf8 c ++ (rest ++ more)) scalars e (stops more) (λ b. begins_none _ b c (rest ++ more) is refl) (subst (MayBeFront bounds) (bytes more) m);
    }

-- what is left is no character
pub left_refuses : (bounds : Bounds) (front left : List ℕ) (d : DocAt) → all_scalars front ≡ true → run step start front ≡ Some d → NoCharacter left → (BeginsCharacter left → ⊥) → 0 < length left → passed bounds d ≡ None
    → Refuses bounds (encode_utf8_all front ++ left) (faults.NotUtf8 (length (encode_utf8_all front)))
left_refuses bounds front left d scalars e none not some w =
    let bytes : (more : List ℕ) → (encode_utf8_all front ++ left) ++ more ≡ encode_utf8_all front ++ (left ++ more) = λ more. append_assoc (encode_utf8_all front) left more in
    let all : (more : List ℕ) → NoCharacter (left ++ more) = λ more. none_after left more none not in
    record {
      always = λ more.
          let n = length-append left more in (
            record { front = front; left = left ++ more; parts = bytes more; scalars = scalars; viable = text_viable front d e; some = omega (arith, n, some); none = all more; at = refl },
            λ p. passes_not front (left ++ more) d scalars e (none_before d (left ++ more) (all more)) bounds w (λ table nil f. let z = ap length nil in omega (arith, n, some, z)) (subst (Passes bounds) (bytes more) p),
          );
      never = λ more m. no_front bounds front d (left ++ more) scalars e (none_before d (left ++ more) (all more)) (λ b. not (begins_front left more b)) (subst (MayBeFront bounds) (bytes more) m);
    }
  where
    begins_front : (left more : List ℕ) → BeginsCharacter (left ++ more) → BeginsCharacter left
    begins_front left [] b = record { char = b.char; scalar = b.scalar; next = b.next; more = b.more; is = b.is ∙ ap (λ t. t ++ b.next ∷ b.more) (append-nil left) }
    begins_front left (x ∷ more) b = record { char = b.char; scalar = b.scalar; next = x; more = more ++ b.next ∷ b.more; is = b.is ∙ append_assoc left (x ∷ more) (b.next ∷ b.more) }

-- a step completes a name too many
module _ (bounds : Bounds) (front : List ℕ) (c : ℕ) (rest : List ℕ) (d n : DocAt) (scalars : all_scalars front ≡ true) (is : IsScalar c) (e : run step start front ≡ Some d) (s : step d c ≡ Some n) (w : passed bounds d ≡ None) where
  whole_scalars : all_scalars (front ++ c ∷ []) ≡ true
  whole_scalars = scalars_join front (c ∷ []) scalars (and_true _ _ is refl)

  runs : run step start (front ++ c ∷ []) ≡ Some n
  runs = run_step step start d front c e ∙ s

  bytes_on : (more : List ℕ) → (encode_utf8_all (front ++ c ∷ []) ++ rest) ++ more ≡ encode_utf8_all (front ++ c ∷ []) ++ (rest ++ more)
  bytes_on more = append_assoc (encode_utf8_all (front ++ c ∷ [])) rest more

  vars_passed : (more : List ℕ) → bounds.vars < complete n → HasPassedVars bounds.vars ((encode_utf8_all (front ++ c ∷ []) ++ rest) ++ more)
  vars_passed more over =
      let k = exceeded_none bounds (complete d) (length d.rows) w in
      let least = k.0 in
      let g = names_grow d n c front (reached front d e) (tracks front d e) s (omega (arith, over, least)) in
      let all = g.all in
      record {
        names = n.vars;
        end = g.end;
        rest = rest ++ more;
        parts = bytes_on more ∙ ap (λ t. encode_utf8_all t ++ (rest ++ more)) g.parts;
        scalars = ap all_scalars (sym g.parts) ∙ whole_scalars;
        are = (reached (front ++ c ∷ []) n runs).names;
        ends = g.ends;
        viable = subst (Viable TsvText) g.parts (text_viable (front ++ c ∷ []) n runs);
        many = omega (arith, over, all);
      }

  -- or a row
  module _ (few : complete n ≤ bounds.vars) (over : bounds.rows < length n.rows) where
    lf : c ≡ 10
    lf = let k = exceeded_none bounds (complete d) (length d.rows) w in let least = k.1 in rows_grow d n c s (omega (arith, over, least))

    begins : n.at ≡ Begin
    begins = begins_line d n (ap (step d) (sym lf) ∙ s)

    body : IsBody n.at
    body = subst IsBody (sym begins) tt

    ends : final n ≡ Some (table_of n)
    ends = ap (place_final (placed n Begin)) begins

    rows_passed : (more : List ℕ) → HasPassedRows bounds.rows ((encode_utf8_all (front ++ c ∷ []) ++ rest) ++ more)
    rows_passed more = record {
      before = front;
      rest = rest ++ more;
      table = table_of n;
      parts = bytes_on more ∙ ap (λ c. encode_utf8_all (front ++ c ∷ []) ++ (rest ++ more)) lf;
      scalars = ap (λ c. all_scalars (front ++ c ∷ [])) (sym lf) ∙ whole_scalars;
      lines = subst (λ c. TsvText (front ++ c ∷ []) (table_of n)) lf (runs_doc (front ++ c ∷ []) (table_of n) n runs ends);
      many = over;
    }

    -- what comes after completes no more names
    names_few : (p : List ℕ) (m : DocAt) (rest_of more : List ℕ) → all_scalars p ≡ true → run step start p ≡ Some m → (encode_utf8_all (front ++ c ∷ []) ++ rest) ++ more ≡ encode_utf8_all p ++ rest_of → complete m ≤ bounds.vars
    names_few p m rest_of more ps r parts =
        ⊎_elim
        (λ (k : (z : List ℕ) × (p ≡ (front ++ c ∷ []) ++ z) × (rest ++ more ≡ encode_utf8_all z ++ rest_of)).
        let on : run step n k.0 ≡ Some m = sym (run_on step start n (front ++ c ∷ []) k.0 runs) ∙ ap (run step start) (sym k.1) ∙ r in
        let b = body_run n m k.0 body on in
        let x = body_complete m b.0 in
        let y = body_complete n body in
        let v = ap length b.1 in
        omega (arith, x, y, v, few))
        (λ (k : Longer (front ++ c ∷ []) p (rest ++ more) rest_of).
        let on : run step m (k.next ∷ k.more) ≡ Some n = sym (run_on step start m p (k.next ∷ k.more) r) ∙ ap (run step start) (sym k.is) ∙ runs in
        let g = (run_grown m n (k.next ∷ k.more) (reached p m r) on).vars in
        omega (arith, g, few))
        (split (front ++ c ∷ []) p (rest ++ more) rest_of whole_scalars ps (sym (bytes_on more) ∙ parts))

    vars_few : (more : List ℕ) → PassesVars bounds.vars ((encode_utf8_all (front ++ c ∷ []) ++ rest) ++ more) → ⊥
    vars_few more (inl h) =
        let r = text_runs (header_text h.names ++ h.end) h.viable in
        let f = names_few (header_text h.names ++ h.end) r.0 h.rest more h.scalars r.1 h.parts in
        let many = h.many in
        let some : 0 < length h.names = omega (arith, many) in
        let all = header_run h.names h.end r.0 some h.are h.ends r.1 in
        omega (arith, f, many, all)
    vars_few more (inr h) =
        let r = doc_runs h.1.text h.0 h.1.lines in
        let parts = h.1.encoded ∙ sym (append-nil (encode_utf8_all h.1.text)) in
        let many = h.2 in
        ⊎_elim
        (λ (k : (z : List ℕ) × (h.1.text ≡ (front ++ c ∷ []) ++ z) × (rest ++ more ≡ encode_utf8_all z ++ [])).
        let on : run step n k.0 ≡ Some r.0 = sym (run_on step start n (front ++ c ∷ []) k.0 runs) ∙ ap (run step start) (sym k.1) ∙ r.1 in
        let b = body_run n r.0 k.0 body on in
        let y = body_complete n body in
        let v = ap length (final_vars r.0 h.0 b.0 r.2 ∙ b.1) in
        omega (arith, y, v, few, many))
        (λ (k : Longer (front ++ c ∷ []) h.1.text (rest ++ more) []). some_bytes k.next (encode_utf8_all k.more ++ (rest ++ more)) k.scalar (sym (k.rest ∙ append_assoc (encode_utf8 k.next) (encode_utf8_all k.more) (rest ++ more))))
        (split (front ++ c ∷ []) h.1.text (rest ++ more) [] whole_scalars h.1.scalars (sym (bytes_on more) ∙ parts))

  pub step_refuses : (fault : TsvErr) → passed bounds n ≡ Some fault → Refuses bounds (encode_utf8_all (front ++ c ∷ []) ++ rest) fault
  step_refuses fault over =
      ⊎_elim
      (λ (k : (fault ≡ faults.TooManyVars) × (bounds.vars < complete n)).
      let r : Refuses bounds (encode_utf8_all (front ++ c ∷ []) ++ rest) faults.TooManyVars = record { always = λ more. inl (vars_passed more k.1); never = λ more m. m.counted (inl (vars_passed more k.1)) } in
      subst (Refuses bounds (encode_utf8_all (front ++ c ∷ []) ++ rest)) (sym k.0) r)
      (λ (k : (fault ≡ faults.TooManyRows) × (complete n ≤ bounds.vars) × (bounds.rows < length n.rows)).
      let r : Refuses bounds (encode_utf8_all (front ++ c ∷ []) ++ rest) faults.TooManyRows =
      record { always = λ more. (inl (rows_passed k.1 k.2 more), vars_few k.1 k.2 more); never = λ more m. m.counted (inr (rows_passed k.1 k.2 more)) } in
      subst (Refuses bounds (encode_utf8_all (front ++ c ∷ []) ++ rest)) (sym k.0) r)
      (exceeded_some bounds (complete n) (length n.rows) fault over)

-- the bytes may be the front of a document
pub goes_further : (bounds : Bounds) (front left : List ℕ) (d : DocAt) → all_scalars front ≡ true → run step start front ≡ Some d → BeginsCharacter left → passed bounds d ≡ None → MayBeFront bounds (encode_utf8_all front ++ left)
goes_further bounds front left d scalars e begins w =
    record { front = front; left = left; parts = refl; scalars = scalars; viable = text_viable front d e; begins = begins; counted = has_not front left d scalars e (none_before d left (begins_none left begins)) bounds w }

-- the end of the document
whole_is : (front : List ℕ) → encode_utf8_all front ++ [] ≡ encode_utf8_all front
whole_is front = append-nil (encode_utf8_all front)

module _ (bounds : Bounds) (front : List ℕ) (d : DocAt) (scalars : all_scalars front ≡ true) (e : run step start front ≡ Some d) (w : passed bounds d ≡ None) where
  doc_is : (table : TableValue) → final d ≡ Some table → TsvDoc (encode_utf8_all front ++ []) table
  doc_is table f = record { text = front; scalars = scalars; encoded = whole_is front; lines = runs_doc front table d e f }

  pub end_reads : (table : TableValue) → final d ≡ Some table → exceeded bounds (length table.vars) (length table.rows) ≡ None → IsRead bounds (encode_utf8_all front ++ []) table
  end_reads table f k = let n = exceeded_none bounds (length table.vars) (length table.rows) k in record { doc = doc_is table f; vars = n.0; rows = n.1 }

  pub end_stops : (place : ℕ) → final d ≡ None → place ≡ length (encode_utf8_all front) → IsFault bounds (encode_utf8_all front ++ []) (fault d true place)
  end_stops place f at =
      fault_is bounds (encode_utf8_all front ++ []) front d None true place
      (record { encoded = whole_is front; scalars = scalars; viable = text_viable front d e; none = λ table h. let r = doc_runs front table h in none_some (sym f ∙ ap final (some_same (sym e ∙ r.1)) ∙ r.2) })
      (λ k. refl) (λ k. tt) at
      (λ p. passes_not front [] d scalars e (none_before d [] none_empty) bounds w (λ table nil k. none_some (sym f ∙ k)) p)
      e

  pub end_passes : (table : TableValue) (fault : TsvErr) → final d ≡ Some table → exceeded bounds (length table.vars) (length table.rows) ≡ Some fault → IsFault bounds (encode_utf8_all front ++ []) fault
  end_passes table fault f k =
      ⊎_elim
      (λ (q : (fault ≡ faults.TooManyVars) × (bounds.vars < length table.vars)).
      let r : IsFault bounds (encode_utf8_all front ++ []) faults.TooManyVars = inr (table, doc_is table f, q.1) in subst (IsFault bounds (encode_utf8_all front ++ [])) (sym q.0) r)
      (λ (q : (fault ≡ faults.TooManyRows) × (length table.vars ≤ bounds.vars) × (bounds.rows < length table.rows)).
      let r : IsFault bounds (encode_utf8_all front ++ []) faults.TooManyRows = (inr (table, doc_is table f, q.2), few q.1) in subst (IsFault bounds (encode_utf8_all front ++ [])) (sym q.0) r)
      (exceeded_some bounds (length table.vars) (length table.rows) fault k)
    where
      few : length table.vars ≤ bounds.vars → PassesVars bounds.vars (encode_utf8_all front ++ []) → ⊥
      few least (inl h) = let n = exceeded_none bounds (complete d) (length d.rows) w in vars_not front [] d scalars e (none_before d [] none_empty) bounds.vars n.0 h
      few least (inr h) =
          let same : table ≡ h.0 = some_same (sym f ∙ (doc_is_front front [] d scalars e (none_before d [] none_empty) h.0 h.1).1) in
          let v = ap (λ (t : TableValue). length t.vars) same in
          let many = h.2 in
          omega (arith, v, many, least)

pub end_leaves : (bounds : Bounds) (front left : List ℕ) (d : DocAt) (place : ℕ) → all_scalars front ≡ true → run step start front ≡ Some d → passed bounds d ≡ None → NoCharacter left → 0 < length left → place ≡ length (encode_utf8_all front) → IsFault bounds (encode_utf8_all front ++ left) (faults.NotUtf8 place)
end_leaves bounds front left d place scalars e w none some at = (
  record { front = front; left = left; parts = refl; scalars = scalars; viable = text_viable front d e; some = some; none = none; at = at },
  λ p. passes_not front left d scalars e (none_before d left none) bounds w (λ table nil k. let z = ap length nil in omega (arith, some, z)) p,
)
