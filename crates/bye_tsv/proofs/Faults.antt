-- The fault that a state tells is that of the text before it.
use Rattle.std.proofs.Common.{◌≡◌, refl, ℕ, suc, ◌+◌, ◌<◌, Bool, true, false, List, [], ◌∷◌, ◌++◌, length, Option, Some, None, inl, inr, sym, ◌∙◌, ap, subst, append-nil, arith}
use Rattle.std.specs.Str.{encode_utf8_all}
use Rattle.bye_terms.specs.declared.term.Term.{Term}
use Rattle.bye_lex.specs.Running.{run}
use Rattle.bye_lex.proofs.Branches.{none_some, some_same}
use Rattle.bye_lex.proofs.Machines.{bind_some, run_append, run_gives, run_good, run_takes}
use Rattle.bye_tsv.specs.Answers.{EndsField, IsFault, IsFieldEnd, Passes, Stops, lines}
use Rattle.bye_tsv.specs.DocSteps.{DocAt, start, step, fault, place_fault, line_fault, cell_fault}
use Rattle.bye_tsv.specs.FieldSteps as field
use Rattle.bye_tsv.specs.Fields.{Field as IsField}
use Rattle.bye_tsv.specs.declared.fault.Bounds.{Bounds}
use Rattle.bye_tsv.specs.declared.fault.TsvErr.TheVariants as faults
use Rattle.bye_tsv.specs.declared.field.FieldAt.{FieldAt}
use Rattle.bye_tsv.specs.declared.field.FieldAt.TheVariants.{Empty}
use Rattle.bye_tsv.specs.declared.place.Place.{Place}
use Rattle.bye_tsv.specs.declared.place.Place.TheVariants.{Start, Mark, Name as InName, HeaderReturn, Begin, Field, Return}
use Rattle.bye_tsv.proofs.FieldEnds.{ends, may_end, stops}
use Rattle.bye_tsv.proofs.FieldExact.{FieldLeft, GoodField, field_machine}
use Rattle.bye_tsv.proofs.Tracking.{InBody, TracksAt, one_present, tracks}

-- a field is what its machine reads to an end
field_reads : (own : List ℕ) (cell : Option Term) → IsField own cell → (f : FieldAt) × (run field.step Empty own ≡ Some f) × (field.final f ≡ Some cell)
field_reads own cell h =
    let n = run_gives FieldLeft field.step GoodField field_machine Empty own [] cell tt (subst (λ t. IsField t cell) (sym (append-nil own)) h) in
    (n.0, n.1, ends n.0 cell n.2)

reads_field : (own : List ℕ) (cell : Option Term) (f : FieldAt) → run field.step Empty own ≡ Some f → field.final f ≡ Some cell → IsField own cell
reads_field own cell f e k = subst (λ t. IsField t cell) (append-nil own) (run_takes FieldLeft field.step GoodField field_machine Empty f own [] cell tt e (may_end f cell k))

no_return : (own : List ℕ) (cell : Option Term) → IsField (own ++ 13 ∷ []) cell → ⊥
no_return own cell h =
    let r = field_reads (own ++ 13 ∷ []) cell h in
    let m = bind_some (run field.step Empty own) (λ f. run field.step f (13 ∷ [])) r.0 (sym (run_append field.step Empty own (13 ∷ [])) ∙ r.1) in
    let k = bind_some (field.step m.0 13) (λ f. Some f) r.0 m.2 in
    none_some (sym (stops m.0 (run_good FieldLeft field.step GoodField field_machine Empty m.0 own tt m.1) 13 (inr (inr refl))) ∙ k.1)

module _ (bounds : Bounds) (bytes front : List ℕ) (d : DocAt) (next : Option ℕ) (border : Bool) (place : ℕ) (stop : Stops bytes front next) (ending : EndsField next → border ≡ true) (ended : border ≡ true → EndsField next) (at : place ≡ length (encode_utf8_all front)) (none : Passes bounds bytes → ⊥) where
  in_header : lines front ≡ 0 → IsFault bounds bytes (faults.Header place)
  in_header e = (record { front = front; next = next; stops = stop; first = e; at = at }, none)

  later : (own : List ℕ) → InBody d front own → 0 < lines front
  later own h = let l = h.lines in omega (arith, l)

  at_term : (own : List ℕ) → InBody d front own → (IsFieldEnd front next → ⊥) → IsFault bounds bytes (faults.Term place)
  at_term own h other = (record { front = front; next = next; stops = stop; later = later own h; other = other; at = at }, none)

  at_border : (own : List ℕ) (cell : Option Term) (b : Bool) → border ≡ b → InBody d front own → IsField own cell → IsFault bounds bytes (line_fault d b place)
  at_border own cell true e h is =
      let l = h.lines in
      let number : length d.rows + 2 ≡ suc (lines front) = omega (arith, l) in
      (record { front = front; next = next; stops = stop; later = later own h; ends = record { there = ended e; own = own; present = h.present; cell = cell; field = is }; at = number }, none)
  at_border own cell false e h is = at_term own h (λ k. clash border (ending k.there) e)
    where
      clash : (b : Bool) → b ≡ true → b ≡ false → ⊥
      clash true t f = cc
      clash false t f = cc

  in_field : (f : FieldAt) (own : List ℕ) (o : Option (Option Term)) → InBody d front own → run field.step Empty own ≡ Some f → field.final f ≡ o → IsFault bounds bytes (cell_fault d border place o)
  in_field f own None h r e =
      at_term own h (λ k.
      let q = field_reads own k.cell (subst (λ t. IsField t k.cell) (one_present front k.own own k.present h.present) k.field) in
      none_some (sym e ∙ ap field.final (some_same (sym r ∙ q.1)) ∙ q.2))
  in_field f own (Some cell) h r e = at_border own cell border refl h (reads_field own cell f r e)

  at_place : (p : Place) → TracksAt p d front → IsFault bounds bytes (place_fault d border place p)
  at_place Start h = in_header (ap lines h)
  at_place Mark h = in_header h.0
  at_place (InName q) h = in_header h.0
  at_place HeaderReturn h = in_header h.0
  at_place Begin h = at_border [] None border refl h (inl (refl, refl))
  at_place (Field f) h = in_field f h.0 (field.final f) h.1 h.2 refl
  at_place Return h = at_term (h.0 ++ 13 ∷ []) h.1 (λ k. no_return h.0 k.cell (subst (λ t. IsField t k.cell) (one_present front k.own (h.0 ++ 13 ∷ []) k.present h.1.present) k.field))

  pub fault_is : run step start front ≡ Some d → IsFault bounds bytes (fault d border place)
  fault_is r = at_place d.at (tracks front d r)
