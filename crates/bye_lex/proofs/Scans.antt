-- A machine whose states have a meaning finds the longest token at the front, or the fault, or that the text is cut.
use Rattle.std.proofs.Common.{◌≡◌, refl, ℕ, ◌<◌, List, [], ◌∷◌, ◌++◌, Option, Some, None, ◌⊎◌, inl, inr, ⊎_elim, length, sym, ◌∙◌, ap, subst, arith}
use Rattle.bye_lex.specs.Languages.{Viable, FaultAfter, Token, NoFront}
use Rattle.bye_lex.specs.Scanning.{Scanned, Found, Fault, End, place, settle, better, onward, scan}
use Rattle.bye_lex.proofs.Branches.{heads, some_same, none_some}

-- Left s text value: from the state s on, the text completes what was read, and the whole stands for the value.
pub record Exact {S V : Type 0} (Left : S → List ℕ → V → Type 0) (step : S → ℕ → Option S) (final : S → Option V) : Type 0 where
  pub forth : (s : S) (c : ℕ) (t : List ℕ) (v : V) → Left s (c ∷ t) v → (n : S) × (step s c ≡ Some n) × Left n t v
  pub back : (s n : S) (c : ℕ) (t : List ℕ) (v : V) → Viable (Left s) [] → step s c ≡ Some n → Left n t v → Left s (c ∷ t) v
  pub alive : (s n : S) (c : ℕ) → Viable (Left s) [] → step s c ≡ Some n → Viable (Left n) []
  pub ends : (s : S) (v : V) → Left s [] v → final s ≡ Some v
  pub may_end : (s : S) (v : V) → final s ≡ Some v → Left s [] v

-- no front of the text is in the rule but, maybe, the empty one
abbrev pub NoLonger : {V : Type 0} → (List ℕ → V → Type 0) → List ℕ → Type 0
NoLonger {V} L text = (front rest : List ℕ) (value : V) → text ≡ front ++ rest → 0 < length front → L front value → ⊥

-- the longest front of the text that is in the rule
record Longest {V : Type 0} (L : List ℕ → V → Type 0) (total : ℕ) (text : List ℕ) (x : Scanned V) : Type 0 where
  own : List ℕ
  rest : List ℕ
  value : V
  parts : text ≡ own ++ rest
  some : 0 < length own
  is : Token L own rest value
  found : x ≡ Found value (place total rest)

record Stopped {V : Type 0} (L : List ℕ → V → Type 0) (total : ℕ) (text : List ℕ) (x : Scanned V) : Type 0 where
  front : List ℕ
  next : ℕ
  rest : List ℕ
  parts : text ≡ front ++ next ∷ rest
  before : Viable L front
  after : Viable L (front ++ next ∷ []) → ⊥
  stopped : x ≡ Fault (place total (next ∷ rest))

abbrev Cut : {V : Type 0} → (List ℕ → V → Type 0) → List ℕ → Scanned V → Type 0
Cut L text x = (x ≡ End) × Viable L text

-- none is in the rule, and why
record Without {V : Type 0} (L : List ℕ → V → Type 0) (total : ℕ) (text : List ℕ) (best : Option (V × ℕ)) (x : Scanned V) : Type 0 where
  none : NoLonger L text
  why : Scanned V
  settled : x ≡ settle best why
  shown : Stopped L total text why ⊎ Cut L text why

abbrev Says : {V : Type 0} → (List ℕ → V → Type 0) → ℕ → List ℕ → Option (V × ℕ) → Scanned V → Type 0
Says L total text best x = Longest L total text x ⊎ Without L total text best x

pub nothing_fits : {V : Type 0} (L : List ℕ → V → Type 0) (front rest : List ℕ) → ◌≡◌ {A = List ℕ} [] (front ++ rest) → 0 < length front → ⊥
nothing_fits L [] rest e some = omega (arith, some)
nothing_fits L (c ∷ cs) rest e some = cc

module _ {S V : Type 0} (Left : S → List ℕ → V → Type 0) (step : S → ℕ → Option S) (final : S → Option V) (x : Exact Left step final) where
  -- a step that is made is the one of the text
  pub follow : (s n : S) (c : ℕ) (t : List ℕ) (v : V) → step s c ≡ Some n → Left s (c ∷ t) v → Left n t v
  follow s n c t v e h =
      let m = x.forth s c t v h in
      subst (λ n. Left n t v) (some_same (sym m.1 ∙ e)) m.2

  no_step : (s : S) (c : ℕ) (t : List ℕ) (v : V) → step s c ≡ None → Left s (c ∷ t) v → ⊥
  no_step s c t v e h = let m = x.forth s c t v h in none_some (sym e ∙ m.1)

  viable_on : (s n : S) (c : ℕ) (t : List ℕ) → Viable (Left s) [] → step s c ≡ Some n → Viable (Left n) t → Viable (Left s) (c ∷ t)
  viable_on s n c t a e w = record { more = w.more; scalars = w.scalars; value = w.value; whole = x.back s n c (t ++ w.more) w.value a e w.whole }

  viable_after : (s n : S) (c : ℕ) (t : List ℕ) → step s c ≡ Some n → Viable (Left s) (c ∷ t) → Viable (Left n) t
  viable_after s n c t e w = record { more = w.more; scalars = w.scalars; value = w.value; whole = follow s n c (t ++ w.more) w.value e w.whole }

  -- nothing goes on
  pub none_stops : (s : S) (c : ℕ) (cs front rest : List ℕ) (v : V) → step s c ≡ None → c ∷ cs ≡ front ++ rest → 0 < length front → Left s front v → ⊥
  none_stops s c cs [] rest v e parts some h = omega (arith, some)
  none_stops s c cs (d ∷ ds) rest v e parts some h =
      let same = heads c d cs (ds ++ rest) parts in
      no_step s c ds v e (subst (λ d. Left s (d ∷ ds) v) (sym same.0) h)

  stops : (total : ℕ) (s : S) (best : Option (V × ℕ)) (c : ℕ) (cs : List ℕ) → Viable (Left s) [] → step s c ≡ None → Without (Left s) total (c ∷ cs) best (settle best (Fault (place total (c ∷ cs))))
  stops total s best c cs a e = record {
    none = λ front rest v parts some h. none_stops s c cs front rest v e parts some h;
    why = Fault (place total (c ∷ cs));
    settled = refl;
    shown = inl (record {
      front = [];
      next = c;
      rest = cs;
      parts = refl;
      before = a;
      after = λ w. no_step s c w.more w.value e w.whole;
      stopped = refl;
    });
  }

  -- a token after one more character
  longer : (total : ℕ) (s n : S) (c : ℕ) (cs : List ℕ) (y : Scanned V) → Viable (Left s) [] → step s c ≡ Some n → Longest (Left n) total cs y → Longest (Left s) total (c ∷ cs) y
  longer total s n c cs y a e k = record {
    own = c ∷ k.own;
    rest = k.rest;
    value = k.value;
    parts = ap (λ t. c ∷ t) k.parts;
    some = omega arith;
    is = record {
      is = x.back s n c k.own k.value a e k.is.is;
      longest = λ more after other parts some h. k.is.longest more after other parts some (follow s n c (k.own ++ more) other e h);
    };
    found = k.found;
  }

  -- a token of this one character
  only : (total : ℕ) (s n : S) (c : ℕ) (cs : List ℕ) (v : V) → Viable (Left s) [] → step s c ≡ Some n → final n ≡ Some v → NoLonger (Left n) cs → Longest (Left s) total (c ∷ cs) (Found v (place total cs))
  only total s n c cs v a e f none = record {
    own = c ∷ [];
    rest = cs;
    value = v;
    parts = refl;
    some = omega arith;
    is = record {
      is = x.back s n c [] v a e (x.may_end n v f);
      longest = λ more after other parts some h. none more after other parts some (follow s n c more other e h);
    };
    found = refl;
  }

  pub none_further : (s n : S) (c : ℕ) (cs front rest : List ℕ) (v : V) → step s c ≡ Some n → final n ≡ None → NoLonger (Left n) cs → c ∷ cs ≡ front ++ rest → 0 < length front → Left s front v → ⊥
  none_further s n c cs [] rest v e f none parts some h = omega (arith, some)
  none_further s n c cs (d ∷ []) rest v e f none parts some h =
      let same = heads c d cs rest parts in
      let k = follow s n c [] v e (subst (λ d. Left s (d ∷ []) v) (sym same.0) h) in
      none_some (sym f ∙ x.ends n v k)
  none_further s n c cs (d ∷ b ∷ ds) rest v e f none parts some h =
      let same = heads c d cs (b ∷ ds ++ rest) parts in
      none (b ∷ ds) rest v same.1 (omega arith) (follow s n c (b ∷ ds) v e (subst (λ d. Left s (d ∷ b ∷ ds) v) (sym same.0) h))

  why_further : (total : ℕ) (s n : S) (c : ℕ) (cs : List ℕ) (y : Scanned V) → Viable (Left s) [] → step s c ≡ Some n → Stopped (Left n) total cs y ⊎ Cut (Left n) cs y → Stopped (Left s) total (c ∷ cs) y ⊎ Cut (Left s) (c ∷ cs) y
  why_further total s n c cs y a e shown =
      ⊎_elim
      (λ (k : Stopped (Left n) total cs y). inl (record {
        front = c ∷ k.front;
        next = k.next;
        rest = k.rest;
        parts = ap (λ t. c ∷ t) k.parts;
        before = viable_on s n c k.front a e k.before;
        after = λ w. k.after (viable_after s n c (k.front ++ k.next ∷ []) e w);
        stopped = k.stopped;
      }))
      (λ (k : (y ≡ End) × Viable (Left n) cs). inr (k.0, viable_on s n c cs a e k.1))
      shown

  goes_on : (total : ℕ) (s n : S) (best : Option (V × ℕ)) (c : ℕ) (cs : List ℕ) (y : Scanned V) → Viable (Left s) [] → step s c ≡ Some n → Says (Left n) total cs (better (final n) (place total cs) best) y → Says (Left s) total (c ∷ cs) best y
  goes_on total s n best c cs y a e said =
      ⊎_elim (λ k. inl (longer total s n c cs y a e k))
      (λ (k : Without (Left n) total cs (better (final n) (place total cs) best) y).
      elim (final n) as (λ o. final n ≡ o → y ≡ settle (better o (place total cs) best) k.why → Says (Left s) total (c ∷ cs) best y) [
        | None ↦ λ f g. inr (record {
          none = λ front rest v parts some h. none_further s n c cs front rest v e f k.none parts some h;
          why = k.why;
          settled = g;
          shown = why_further total s n c cs k.why a e k.shown;
        })
        | Some v ↦ λ f g. inl (subst (λ y. Longest (Left s) total (c ∷ cs) y) (sym g) (only total s n c cs v a e f k.none))
      ] refl k.settled)
      said

  says : (total : ℕ) (s : S) (best : Option (V × ℕ)) (text : List ℕ) → Viable (Left s) [] → Says (Left s) total text best (scan step final total s best text)
  says total s best [] a = inr (record { none = λ front rest v parts some h. nothing_fits (Left s) front rest parts some; why = End; settled = refl; shown = inr (refl, a) })
  says total s best (c ∷ cs) a =
      elim (step s c) as (λ o. step s c ≡ o → Says (Left s) total (c ∷ cs) best (onward (settle best (Fault (place total (c ∷ cs)))) (λ n. scan step final total n (better (final n) (place total cs) best) cs) o)) [
        | None ↦ λ e. inr (stops total s best c cs a e)
        | Some n ↦ λ e. goes_on total s n best c cs _ a e (says total n (better (final n) (place total cs) best) cs (x.alive s n c a e))
      ] refl

  -- what the scan of the whole text comes to
  pub record Meets (start : S) (total : ℕ) (text : List ℕ) (y : Scanned V) : Type 0 where
    pub found : (v : V) (p : ℕ) → y ≡ Found v p → (token : List ℕ) × (rest : List ℕ) × (text ≡ token ++ rest) × Token (Left start) token rest v × (p ≡ place total rest)
    pub fault : (p : ℕ) → y ≡ Fault p → (front : List ℕ) × (next : ℕ) × (rest : List ℕ) × (text ≡ front ++ next ∷ rest) × FaultAfter (Left start) text front × NoFront (Left start) text × (p ≡ place total (next ∷ rest))
    pub cut : y ≡ End → Viable (Left start) text × NoFront (Left start) text

  found_same : (v w : V) (p q : ℕ) → ◌≡◌ {A = Scanned V} (Found v p) (Found w q) → (v ≡ w) × (p ≡ q)
  found_same v w p q e = (cc, cc)

  fault_same : (p q : ℕ) → ◌≡◌ {A = Scanned V} (Fault p) (Fault q) → p ≡ q
  fault_same p q e = cc

  of_longest : (start : S) (total : ℕ) (text : List ℕ) (y : Scanned V) → Longest (Left start) total text y → Meets start total text y
  of_longest start total text y k = record {
    found = λ v p e. let same = found_same k.value v (place total k.rest) p (sym k.found ∙ e) in
        (k.own, k.rest, k.parts, subst (λ v. Token (Left start) k.own k.rest v) same.0 k.is, sym same.1);
    fault = λ p e. let r = sym k.found ∙ e in cc;
    cut = λ e. let r = sym k.found ∙ e in cc;
  }

  pub all_none : (start : S) (text : List ℕ) → final start ≡ None → NoLonger (Left start) text → NoFront (Left start) text
  all_none start text f none [] rest v parts h = none_some (sym f ∙ x.ends start v h)
  all_none start text f none (d ∷ ds) rest v parts h = none (d ∷ ds) rest v parts (omega arith) h

  of_stopped : (start : S) (total : ℕ) (text : List ℕ) (y : Scanned V) → NoFront (Left start) text → Stopped (Left start) total text y → Meets start total text y
  of_stopped start total text y none k = record {
    found = λ v p e. let r = sym k.stopped ∙ e in cc;
    fault = λ p e. (k.front, k.next, k.rest, k.parts, record { next = k.next; rest = k.rest; parts = k.parts; before = k.before; after = k.after }, none, sym (fault_same (place total (k.next ∷ k.rest)) p (sym k.stopped ∙ e)));
    cut = λ e. let r = sym k.stopped ∙ e in cc;
  }

  of_cut : (start : S) (total : ℕ) (text : List ℕ) (y : Scanned V) → NoFront (Left start) text → Cut (Left start) text y → Meets start total text y
  of_cut start total text y none k = record {
    found = λ v p e. let r = sym k.0 ∙ e in cc;
    fault = λ p e. let r = sym k.0 ∙ e in cc;
    cut = λ e. (k.1, none);
  }

  pub scanned : (start : S) (total : ℕ) (text : List ℕ) → final start ≡ None → Viable (Left start) [] → Meets start total text (scan step final total start None text)
  scanned start total text f a =
      ⊎_elim (λ k. of_longest start total text _ k)
      (λ (k : Without (Left start) total text None (scan step final total start None text)).
      let none = all_none start text f k.none in
      subst (λ y. Meets start total text y) (sym k.settled)
      (⊎_elim (λ q. of_stopped start total text k.why none q) (λ q. of_cut start total text k.why none q) k.shown))
      (says total start None text a)
