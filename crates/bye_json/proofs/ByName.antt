-- Variables in the byte order of their names.
use Rattle.std.proofs.Common.{◌≡◌, refl, Bool, true, false, cond, List, [], ◌∷◌, Ordering, Less, Equal, Greater, ◌⊎◌, inl, inr, ⊎_elim, sym, ap, ◌∙◌, subst}
use Rattle.std.specs.List.{AllByRecursion}
use Rattle.std.specs.Cmp.Lexicographic.{slice_cmp}
use Rattle.std.specs.Ordering.{nat_cmp, is_eq, is_lt, ordering_reverse}
use Rattle.std.specs.Str.{encode_utf8_all}
use Rattle.std.proofs.lemmas.Cmp.{nat_list_cmp_total}
use Rattle.std.proofs.lemmas.Map.Text.{is_eq-slice_cmp}
use Rattle.std.proofs.lemmas.Slice.Eq.{bytes_eq-Decides}
use Rattle.std.proofs.lemmas.Str.{encodes_same}
use Rattle.bye_terms.specs.Members.{EachOnce, In}
use Rattle.bye_table.specs.Mappings.{Name}
use Rattle.bye_json.specs.Laws.{Ascends, SortsNames}
use Rattle.bye_json.specs.Written.{by_name, put_var, sorted_onto}

abbrev pub order : Name → Name → Ordering
order v w = slice_cmp nat_cmp (encode_utf8_all v) (encode_utf8_all w)

-- a variable is there once it was put there, and those that were there stay
put_fact : (P : Name → Type 0) (v : Name) (ws : List Name) → P v → AllByRecursion P ws → AllByRecursion P (put_var v ws)
put_fact P v [] p all = (p, tt)
put_fact P v (w ∷ ws) p all = step (is_lt (order v w)) (put_fact P v ws p all.1)
  where
    step : (b : Bool) → AllByRecursion P (put_var v ws) → AllByRecursion P (cond b (v ∷ w ∷ ws) (w ∷ put_var v ws))
    step true later = (p, all)
    step false later = (all.0, later)

put_in : (v : Name) (ws : List Name) (x : Name) → (v ≡ x) ⊎ In ws x → In (put_var v ws) x
put_in v [] x h = h
put_in v (w ∷ ws) x h = step (is_lt (order v w)) (put_in v ws x) h
  where
    step : (b : Bool) → ((v ≡ x) ⊎ In ws x → In (put_var v ws) x) → (v ≡ x) ⊎ In (w ∷ ws) x → In (cond b (v ∷ w ∷ ws) (w ∷ put_var v ws)) x
    step true later h = h
    step false later (inl e) = inr (later (inl e))
    step false later (inr (inl e)) = inl e
    step false later (inr (inr h)) = inr (later (inr h))

in_put : (v : Name) (ws : List Name) (x : Name) → In (put_var v ws) x → (v ≡ x) ⊎ In ws x
in_put v [] x h = h
in_put v (w ∷ ws) x h = step (is_lt (order v w)) (in_put v ws x) h
  where
    step : (b : Bool) → (In (put_var v ws) x → (v ≡ x) ⊎ In ws x) → In (cond b (v ∷ w ∷ ws) (w ∷ put_var v ws)) x → (v ≡ x) ⊎ In (w ∷ ws) x
    step true later h = h
    step false later (inl e) = inr (inl e)
    step false later (inr h) = ⊎_elim inl (λ k. inr (inr k)) (later h)

-- two names that differ come one before the other
apart : (v w : Name) (o : Ordering) → order v w ≡ o → is_lt o ≡ false → (v ≡ w → ⊥) → order w v ≡ Less
apart v w Less e less other = cc
apart v w Equal e less other =
    absurd (other (encodes_same v w ((bytes_eq-Decides (encode_utf8_all v) (encode_utf8_all w)).0 (sym (is_eq-slice_cmp (encode_utf8_all v) (encode_utf8_all w)) ∙ ap is_eq e))))
apart v w Greater e less other = nat_list_cmp_total.antisymm (encode_utf8_all w) (encode_utf8_all v) ∙ ap ordering_reverse e

all_later : (v w : Name) (ws : List Name) → order v w ≡ Less → AllByRecursion (λ x. order w x ≡ Less) ws → AllByRecursion (λ x. order v x ≡ Less) ws
all_later v w [] e all = tt
all_later v w (x ∷ ws) e all = (nat_list_cmp_total.trans (encode_utf8_all v) (encode_utf8_all w) (encode_utf8_all x) e all.0, all_later v w ws e all.1)

put_ascends : (v : Name) (ws : List Name) → Ascends ws → (In ws v → ⊥) → Ascends (put_var v ws)
put_ascends v [] up new = (tt, tt)
put_ascends v (w ∷ ws) up new = step (order v w) refl (put_ascends v ws up.1 (λ h. new (inr h)))
  where
    step : (o : Ordering) → order v w ≡ o → Ascends (put_var v ws) → Ascends (cond (is_lt o) (v ∷ w ∷ ws) (w ∷ put_var v ws))
    step Less e later = ((e, all_later v w ws e up.0), up)
    step Equal e later = (put_fact (λ x. order w x ≡ Less) v ws (apart v w Equal e refl (λ same. new (inl (sym same)))) up.0, later)
    step Greater e later = (put_fact (λ x. order w x ≡ Less) v ws (apart v w Greater e refl (λ same. new (inl (sym same)))) up.0, later)

-- all of them are put
onto_ascends : (ws vs : List Name) → Ascends ws → EachOnce vs → ((x : Name) → In vs x → In ws x → ⊥) → Ascends (sorted_onto ws vs)
onto_ascends ws [] up once apart = up
onto_ascends ws (v ∷ vs) up once apart =
    onto_ascends (put_var v ws) vs (put_ascends v ws up (apart v (inl refl))) once.1
    (λ x h k. ⊎_elim (λ same. once.0 (subst (In vs) (sym same) h)) (λ old. apart x (inr h) old) (in_put v ws x k))

onto_in : (ws vs : List Name) (x : Name) → In ws x ⊎ In vs x → In (sorted_onto ws vs) x
onto_in ws [] x (inl h) = h
onto_in ws [] x (inr h) = absurd h
onto_in ws (v ∷ vs) x (inl h) = onto_in (put_var v ws) vs x (inl (put_in v ws x (inr h)))
onto_in ws (v ∷ vs) x (inr (inl e)) = onto_in (put_var v ws) vs x (inl (put_in v ws x (inl e)))
onto_in ws (v ∷ vs) x (inr (inr h)) = onto_in (put_var v ws) vs x (inr h)

onto_fact : (P : Name → Type 0) (ws vs : List Name) → AllByRecursion P ws → AllByRecursion P vs → AllByRecursion P (sorted_onto ws vs)
onto_fact P ws [] old new = old
onto_fact P ws (v ∷ vs) old new = onto_fact P (put_var v ws) vs (put_fact P v ws new.0 old) new.1

pub ascends : (vars : List Name) → EachOnce vars → Ascends (by_name vars)
ascends vars once = onto_ascends [] vars tt once (λ x h k. k)

pub sorted_in : (vars : List Name) (x : Name) → In vars x → In (by_name vars) x
sorted_in vars x h = onto_in [] vars x (inr h)

pub sorted_fact : (P : Name → Type 0) (vars : List Name) → AllByRecursion P vars → AllByRecursion P (by_name vars)
sorted_fact P vars all = onto_fact P [] vars tt all

in_onto : (ws vs : List Name) (x : Name) → In (sorted_onto ws vs) x → In ws x ⊎ In vs x
in_onto ws [] x h = inl h
in_onto ws (v ∷ vs) x h = ⊎_elim (λ k. ⊎_elim (λ e. inr (inl e)) inl (in_put v ws x k)) (λ k. inr (inr k)) (in_onto (put_var v ws) vs x h)

pub sorts_names : SortsNames
sorts_names vars once = (ascends vars once, λ v. (λ h. ⊎_elim (λ k. absurd k) (λ k. k) (in_onto [] vars v h), λ h. sorted_in vars v h))
