-- The longest token at the front, as a machine finds it and among several kinds.
use Rattle.std.proofs.Common.{◌≡◌, refl, ℕ, ◌<◌, ◌≤◌, Bool, true, false, List, [], ◌∷◌, ◌++◌, Option, Some, None, option_map, ◌⊎◌, inl, inr, ⊎_elim, sym, ◌∙◌, ap, subst, arith, append_assoc, length, length-append}
use Rattle.std.proofs.lemmas.List.{append-nil}
use Rattle.bye_lex.specs.Languages.{Token, NoFront, Viable}
use Rattle.bye_lex.proofs.Branches.{heads, some_same}
use Rattle.bye_lex.proofs.Scans.{Exact, NoLonger, nothing_fits, follow, none_stops, none_further, all_none}
use Rattle.bye_tokens.specs.Kinds.{or, seen}
use Rattle.bye_tokens.specs.Reading.{longest, better, onward, or_else, before}
use Rattle.bye_tokens.proofs.Cuts.{before_is}

-- what is read is the longest token at the front, with the rest after it; nothing is read where none stands there
abbrev pub Told : {V : Type 0} → (List ℕ → V → Type 0) → List ℕ → Option (V × List ℕ) → Type 0
Told L text None = NoFront L text
Told L text (Some r) = (own : List ℕ) × (text ≡ own ++ r.1) × Token L own r.1 r.0

record Longer {V : Type 0} (L : List ℕ → V → Type 0) (text : List ℕ) (x : Option (V × List ℕ)) : Type 0 where
  own : List ℕ
  rest : List ℕ
  value : V
  parts : text ≡ own ++ rest
  is : Token L own rest value
  found : x ≡ Some (value, rest)

record Kept {V : Type 0} (L : List ℕ → V → Type 0) (text : List ℕ) (best x : Option (V × List ℕ)) : Type 0 where
  none : NoLonger L text
  same : x ≡ best

module _ {S V : Type 0} (Left : S → List ℕ → V → Type 0) (step : S → ℕ → Option S) (final : S → Option V) (x : Exact Left step final) where
  abbrev Says : S → List ℕ → Option (V × List ℕ) → Option (V × List ℕ) → Type 0
  Says s text best y = Longer (Left s) text y ⊎ Kept (Left s) text best y

  longer : (s n : S) (c : ℕ) (cs : List ℕ) (y : Option (V × List ℕ)) → Viable (Left s) [] → step s c ≡ Some n → Longer (Left n) cs y → Longer (Left s) (c ∷ cs) y
  longer s n c cs y g e k = record {
    own = c ∷ k.own;
    rest = k.rest;
    value = k.value;
    parts = ap (λ t. c ∷ t) k.parts;
    is = record {
      is = x.back s n c k.own k.value g e k.is.is;
      longest = λ more after other parts some h. k.is.longest more after other parts some (follow Left step final x s n c (k.own ++ more) other e h);
    };
    found = k.found;
  }

  only : (s n : S) (c : ℕ) (cs : List ℕ) (v : V) (y : Option (V × List ℕ)) → Viable (Left s) [] → step s c ≡ Some n → final n ≡ Some v → NoLonger (Left n) cs → y ≡ Some (v, cs) → Longer (Left s) (c ∷ cs) y
  only s n c cs v y g e f none same = record {
    own = c ∷ [];
    rest = cs;
    value = v;
    parts = refl;
    is = record {
      is = x.back s n c [] v g e (x.may_end n v f);
      longest = λ more after other parts some h. none more after other parts some (follow Left step final x s n c more other e h);
    };
    found = same;
  }

  goes_on : (s n : S) (best : Option (V × List ℕ)) (c : ℕ) (cs : List ℕ) (y : Option (V × List ℕ)) → Viable (Left s) [] → step s c ≡ Some n → Says n cs (better (final n) cs best) y → Says s (c ∷ cs) best y
  goes_on s n best c cs y g e said =
      ⊎_elim (λ k. inl (longer s n c cs y g e k))
      (λ (k : Kept (Left n) cs (better (final n) cs best) y).
      elim (final n) as (λ o. final n ≡ o → y ≡ better o cs best → Says s (c ∷ cs) best y) [
        | None ↦ λ f same. inr (record { none = λ front rest v parts some h. none_further Left step final x s n c cs front rest v e f k.none parts some h; same = same })
        | Some v ↦ λ f same. inl (only s n c cs v y g e f k.none same)
      ] refl k.same)
      said

  says : (s : S) (best : Option (V × List ℕ)) (text : List ℕ) → Viable (Left s) [] → Says s text best (longest step final s best text)
  says s best [] g = inr (record { none = λ front rest v parts some h. nothing_fits (Left s) front rest parts some; same = refl })
  says s best (c ∷ cs) g =
      elim (step s c) as (λ o. step s c ≡ o → Says s (c ∷ cs) best (onward best (λ n. longest step final n (better (final n) cs best) cs) o)) [
        | None ↦ λ e. inr (record { none = λ front rest v parts some h. none_stops Left step final x s c cs front rest v e parts some h; same = refl })
        | Some n ↦ λ e. goes_on s n best c cs _ g e (says n (better (final n) cs best) cs (x.alive s n c g e))
      ] refl

  -- the machine finds the longest token at the front
  pub told : (s : S) (text : List ℕ) → Viable (Left s) [] → final s ≡ None → Told (Left s) text (longest step final s None text)
  told s text g f =
      ⊎_elim
      (λ (k : Longer (Left s) text (longest step final s None text)). subst (Told (Left s) text) (sym k.found) (k.own, k.parts, k.is))
      (λ (k : Kept (Left s) text None (longest step final s None text)). subst (Told (Left s) text) (sym k.same) (all_none Left step final x s text f k.none))
      (says s None text g)

-- a kind whose values are seen as others
pub told_seen : {V W : Type 0} (g : V → W) (L : List ℕ → V → Type 0) (text : List ℕ) (x : Option (V × List ℕ)) → Told L text x → Told (seen g L) text (option_map (λ r. (g r.0, r.1)) x)
told_seen g L text None t = λ front rest v e h. t front rest h.0 e h.1
told_seen g L text (Some r) t = (t.0, t.1, record { is = (r.0, t.2.is, refl); longest = λ more after other e some h. t.2.longest more after h.0 e some h.1 })

-- a kind whose values are told by a machine's form and the text
pub told_valued : {F V : Type 0} (L : List ℕ → F → Type 0) (K : List ℕ → V → Type 0) (value : F → List ℕ → V) (to : (text : List ℕ) (f : F) → L text f → K text (value f text)) (from : (text : List ℕ) (v : V) → K text v → (f : F) × L text f × (v ≡ value f text))
    → (text : List ℕ) (x : Option (F × List ℕ)) → Told L text x → Told K text (option_map (λ r. (value r.0 (before text r.1), r.1)) x)
told_valued L K value to from text None t = λ front rest v e h. let k = from front v h in t front rest k.0 e k.1
told_valued L K value to from text (Some r) t =
    let own = before_is text t.0 r.1 t.1 in (
      t.0,
      t.1,
      record {
        is = subst (λ o. K t.0 (value r.0 o)) (sym own) (to t.0 r.0 t.2.is);
        longest = λ more after other e some h. let k = from (t.0 ++ more) other h in t.2.longest more after k.0 e some k.1;
      },
    )

-- where both have a front of the same text, the other kind's is the shorter
abbrev pub Shorter : {V : Type 0} → (List ℕ → V → Type 0) → (List ℕ → V → Type 0) → Type 0
Shorter {V} L M = (text own rest front more : List ℕ) (v w : V) → text ≡ own ++ rest → L own v → text ≡ front ++ more → M front w → length front < length own

pub shorter_or : {V : Type 0} (L M N : List ℕ → V → Type 0) → Shorter L M → Shorter L N → Shorter L (or M N)
shorter_or L M N m n text own rest front more v w a l b h = ⊎_elim (λ (k : M front w). m text own rest front more v w a l b k) (λ (k : N front w). n text own rest front more v w a l b k) h

pub or_shorter : {V : Type 0} (L M N : List ℕ → V → Type 0) → Shorter L N → Shorter M N → Shorter (or L M) N
or_shorter L M N l m text own rest front more v w a h b n = ⊎_elim (λ (k : L own v). l text own rest front more v w a k b n) (λ (k : M own v). m text own rest front more v w a k b n) h

-- the first kind of two, and else the second
pub told_or : {V : Type 0} (L M : List ℕ → V → Type 0) (text : List ℕ) (x y : Option (V × List ℕ)) → Shorter L M → Told L text x → Told M text y → Told (or L M) text (or_else x y)
told_or L M text None None s t u = λ front rest v e h. ⊎_elim (λ (k : L front v). t front rest v e k) (λ (k : M front v). u front rest v e k) h
told_or L M text None (Some r) s t u = (
  u.0,
  u.1,
  record {
    is = inr u.2.is;
    longest = λ more after other e some h. ⊎_elim
        (λ (k : L (u.0 ++ more) other). t (u.0 ++ more) after other (u.1 ∙ ap (λ r. u.0 ++ r) e ∙ sym (append_assoc u.0 more after)) k)
        (λ (k : M (u.0 ++ more) other). u.2.longest more after other e some k) h;
  },
)
told_or L M text (Some r) y s t u = (
  t.0,
  t.1,
  record {
    is = inl t.2.is;
    longest = λ more after other e some h. ⊎_elim
        (λ (k : L (t.0 ++ more) other). t.2.longest more after other e some k)
        (λ (k : M (t.0 ++ more) other).
        let less = s text t.0 r.1 (t.0 ++ more) after r.0 other t.1 t.2.is (t.1 ∙ ap (λ r. t.0 ++ r) e ∙ sym (append_assoc t.0 more after)) k in
        omega (arith, less, length-append t.0 more)) h;
  },
)

-- which characters a kind's texts begin with
pub record Starts {V : Type 0} (L : List ℕ → V → Type 0) (test : ℕ → Bool) : Type 0 where
  pub some : (v : V) → L [] v → ⊥
  pub first : (c : ℕ) (t : List ℕ) (v : V) → L (c ∷ t) v → test c ≡ true

no_both : (b : Bool) → b ≡ true → b ≡ false → ⊥
no_both b x y = cc

pub apart : {V : Type 0} (L M : List ℕ → V → Type 0) (p q : ℕ → Bool) → Starts L p → Starts M q → ((c : ℕ) → p c ≡ true → q c ≡ false) → Shorter L M
apart L M p q l m none text [] rest front more v w a h b k = absurd (l.some v h)
apart L M p q l m none text (c ∷ own) rest [] more v w a h b k = absurd (m.some w k)
apart L M p q l m none text (c ∷ own) rest (d ∷ front) more v w a h b k =
    let same = heads c d (own ++ rest) (front ++ more) (sym a ∙ b) in
    absurd (no_both (q d) (m.first d front w k) (ap q (sym same.0) ∙ none c (l.first c own v h)))

-- there is one longest token, where a text stands for one value
abbrev pub OneValue : {V : Type 0} → (List ℕ → V → Type 0) → Type 0
OneValue {V} L = (text : List ℕ) (v w : V) → L text v → L text w → v ≡ w

pub one_or : {V : Type 0} (L M : List ℕ → V → Type 0) → Shorter L M → OneValue L → OneValue M → OneValue (or L M)
one_or {V} L M s l m text v w (inl h) (inl k) = l text v w h k
one_or {V} L M s l m text v w (inl h) (inr k) = absurd (omega (arith, s text text [] text [] v w (sym (append-nil text)) h (sym (append-nil text)) k))
one_or {V} L M s l m text v w (inr h) (inl k) = absurd (omega (arith, s text text [] text [] w v (sym (append-nil text)) k (sym (append-nil text)) h))
one_or {V} L M s l m text v w (inr h) (inr k) = m text v w h k

pub one_seen : {V W : Type 0} (g : V → W) (L : List ℕ → V → Type 0) → OneValue L → OneValue (seen g L)
one_seen g L l text v w h k = h.2 ∙ ap g (l text h.0 k.0 h.1 k.1) ∙ sym k.2

-- of two fronts of a text the longer one goes on with the rest
pub further : (a b x y : List ℕ) → a ++ x ≡ b ++ y → length a ≤ length b → (more : List ℕ) × (b ≡ a ++ more) × (x ≡ more ++ y)
further [] b x y e l = (b, refl, e)
further (c ∷ a) [] x y e l = absurd (omega (arith, l))
further (c ∷ a) (d ∷ b) x y e l =
    let h = heads c d (a ++ x) (b ++ y) e in
    let k = further a b x y h.1 (omega (arith, l)) in
    (k.0, ap (λ c. c ∷ b) (sym h.0) ∙ ap (λ t. c ∷ t) k.1, k.2)

pub one_machine : {S V : Type 0} (Left : S → List ℕ → V → Type 0) (step : S → ℕ → Option S) (final : S → Option V) → Exact Left step final → (s : S) → OneValue (Left s)
one_machine Left step final x s [] v w h k = some_same (sym (x.ends s v h) ∙ x.ends s w k)
one_machine Left step final x s (c ∷ t) v w h k = let n = x.forth s c t v h in one_machine Left step final x n.0 t v w n.2 (follow Left step final x s n.0 c t w n.1 k)

pub one_valued : {F V : Type 0} (L : List ℕ → F → Type 0) (K : List ℕ → V → Type 0) (value : F → List ℕ → V) (from : (text : List ℕ) (v : V) → K text v → (f : F) × L text f × (v ≡ value f text)) → OneValue L → OneValue K
one_valued L K value from one text v w h k = let a = from text v h in let b = from text w k in a.2 ∙ ap (λ f. value f text) (one text a.0 b.0 a.1 b.1) ∙ sym b.2
