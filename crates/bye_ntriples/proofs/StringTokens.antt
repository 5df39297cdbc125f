-- Strings within a line.
use Rattle.std.proofs.Common.{◌≡◌, refl, ℕ, Bool, true, false, cond, ◌==◌, ◌&&◌, List, [], ◌∷◌, ◌++◌, Option, Some, None, option_map, ◌⊎◌, inl, inr, ⊎_elim, sym, ◌∙◌, ap, subst}
use Rattle.bye_lex.specs.EscapeSteps as escape
use Rattle.bye_lex.specs.StringSteps as string
use Rattle.bye_lex.specs.declared.escape.Home.TheVariants as homes
use Rattle.bye_lex.specs.declared.escape.EscapeAt.{EscapeAt}
use Rattle.bye_lex.specs.declared.escape.EscapeStep.{EscapeStep}
use Rattle.bye_lex.specs.declared.escape.EscapeStep.TheVariants.{Within, Whole}
use Rattle.bye_lex.specs.Strings.{named}
use Rattle.bye_lex.specs.declared.quoting.Quote.TheVariants.{Double, Single}
use Rattle.bye_lex.specs.declared.quoting.Quoting.TheVariants.{Short, Long}
use Rattle.bye_lex.specs.declared.string.StringAt.{StringAt}
use Rattle.bye_lex.specs.declared.string.StringAt.TheVariants.{Start, Opened, Empty, In, Backslash, Escape, OneQuote, TwoQuotes, Done}
use Rattle.bye_lex.specs.declared.style.Style.TheVariants.{Triples}
use Rattle.bye_lex.proofs.Branches.{mapped, some_same, none_some, pick_of}
use Rattle.bye_lex.proofs.Embedding.{Onward, Ends, closed_forth, closed_back, closed_gives}
use Rattle.bye_lex.proofs.StringMeaning.{Left}
use Rattle.bye_lex.proofs.StringExact.{string_exact}
use Rattle.bye_ntriples.specs.LineSteps.{whole_string, in_string}
use Rattle.bye_ntriples.specs.declared.line.LineAt.{LineAt}
use Rattle.bye_ntriples.proofs.LineMeaning.{WithinString, GoodString, is_open_string}

-- a string is open or at its end
abbrev OpenOrDone : StringAt → Type 0
OpenOrDone n = (is_open_string n ≡ true) ⊎ ((v : List ℕ) × (n ≡ Done v))

one_state : (b : Bool) (x n : StringAt) → OpenOrDone x → cond b (Some x) None ≡ Some n → OpenOrDone n
one_state b x n is e = pick_of b x n None e (λ b k. subst OpenOrDone (sym k) is) (λ k. none_some k)

inside_next : (out : List ℕ) (c : ℕ) (n : StringAt) → string.inside Triples (Short Double) out c ≡ Some n → OpenOrDone n
inside_next out c n e = pick_of (c == 92) (Backslash (Short Double) out) n _ e (λ b k. subst OpenOrDone (sym k) (inl refl)) (λ k. one_state _ (In (Short Double) (out ++ c ∷ [])) n (inl refl) k)

backslash_next : (out : List ℕ) (c : ℕ) (n : StringAt) (o : Option ℕ) → string.after_backslash Triples (Short Double) out c o ≡ Some n → OpenOrDone n
backslash_next out c n None e = let m = mapped (λ at. Escape (Short Double) at out) (escape.begin c) n e in subst OpenOrDone m.2 (inl refl)
backslash_next out c n (Some d) e = subst OpenOrDone (some_same e) (inl refl)

escaped : (out : List ℕ) (x : EscapeStep) → OpenOrDone (string.after_escape (Short Double) out x)
escaped out (Within at) = inl refl
escaped out (Whole c) = inl refl

escape_next : (at : EscapeAt) (out : List ℕ) (c : ℕ) (n : StringAt) → option_map (string.after_escape (Short Double) out) (escape.step homes.Text at c) ≡ Some n → OpenOrDone n
escape_next at out c n e = let m = mapped (string.after_escape (Short Double) out) (escape.step homes.Text at c) n e in subst OpenOrDone m.2 (escaped out m.0)

no_single : (b : Bool) → (b && false) ≡ true → ⊥
no_single true e = cc
no_single false e = cc

next : (s n : StringAt) (c : ℕ) → is_open_string s ≡ true → string.step Triples s c ≡ Some n → OpenOrDone n
next Start n c g e =
    pick_of (c == 34) (In (Short Double) []) n _ e (λ b k. subst OpenOrDone (sym k) (inl refl))
    (λ k. pick_of (c == 39 && false) (In (Short Single) []) n None k (λ b k. absurd (no_single (c == 39) b)) (λ k. none_some k))
next (Opened q) n c g e = cc
next (Empty q) n c g e = cc
next (In (Short Double) out) n c g e = pick_of (c == 34) (Done out) n _ e (λ b k. subst OpenOrDone (sym k) (inr (out, refl))) (λ k. inside_next out c n k)
next (In (Short Single) out) n c g e = cc
next (In (Long q) out) n c g e = cc
next (Backslash (Short Double) out) n c g e = backslash_next out c n (named c) e
next (Backslash (Short Single) out) n c g e = cc
next (Backslash (Long q) out) n c g e = cc
next (Escape (Short Double) at out) n c g e = escape_next at out c n e
next (Escape (Short Single) at out) n c g e = cc
next (Escape (Long q) at out) n c g e = cc
next (OneQuote q out) n c g e = cc
next (TwoQuotes q out) n c g e = cc
next (Done out) n c g e = cc

closed : (n : StringAt) (v text w : List ℕ) → whole_string n ≡ Some v → Left Triples n text w → (text ≡ []) × (w ≡ v)
closed Start v text w e h = none_some e
closed (Opened q) v text w e h = none_some e
closed (Empty q) v text w e h = none_some e
closed (In k out) v text w e h = none_some e
closed (Backslash k out) v text w e h = none_some e
closed (Escape k at out) v text w e h = none_some e
closed (OneQuote q out) v text w e h = none_some e
closed (TwoQuotes q out) v text w e h = none_some e
closed (Done out) v text w e h = (h.0, h.1 ∙ some_same e)

may : (n : StringAt) (v : List ℕ) → whole_string n ≡ Some v → Left Triples n [] v
may Start v e = none_some e
may (Opened q) v e = none_some e
may (Empty q) v e = none_some e
may (In k out) v e = none_some e
may (Backslash k out) v e = none_some e
may (Escape k at out) v e = none_some e
may (OneQuote q out) v e = none_some e
may (TwoQuotes q out) v e = none_some e
may (Done out) v e = (refl, sym (some_same e))

pub no_final : (n : StringAt) → is_open_string n ≡ true → string.final n ≡ None
no_final Start e = refl
no_final (Opened q) e = cc
no_final (Empty q) e = cc
no_final (In k out) e = refl
no_final (Backslash k out) e = refl
no_final (Escape k at out) e = refl
no_final (OneQuote q out) e = cc
no_final (TwoQuotes q out) e = cc
no_final (Done out) e = cc

no_whole : (n : StringAt) → is_open_string n ≡ true → whole_string n ≡ None
no_whole Start e = refl
no_whole (Opened q) e = cc
no_whole (Empty q) e = cc
no_whole (In k out) e = refl
no_whole (Backslash k out) e = refl
no_whole (Escape k at out) e = refl
no_whole (OneQuote q out) e = cc
no_whole (TwoQuotes q out) e = cc
no_whole (Done out) e = cc

lives : (n : StringAt) (v : List ℕ) → OpenOrDone n → whole_string n ≡ None → Left Triples n [] v → ⊥
lives n v is e h =
    ⊎_elim
    (λ (g : is_open_string n ≡ true). none_some (sym (no_final n g) ∙ (string_exact Triples).ends n v h))
    (λ (g : (v : List ℕ) × (n ≡ Done v)). none_some (sym e ∙ ap whole_string g.1))
    is

module _ {W : Type 0} (P : LineAt → List ℕ → W → Type 0) (Rest : List ℕ → List ℕ → W → Type 0) (within : StringAt → LineAt) (after : List ℕ → LineAt) where
  ends : (n : StringAt) → OpenOrDone n → Ends (Left Triples) (string.step Triples) string.final (string_exact Triples) whole_string Rest n
  ends n is = record {
    closed = λ v text w e h. closed n v text w e h;
    lives = λ v e h. lives n v is e h;
    may = λ v e. may n v e;
  }

  pub string_forth : (s : StringAt) (c : ℕ) (t : List ℕ) (w : W) → is_open_string s ≡ true → ((n : StringAt) → WithinString Rest n t w → P (within n) t w) → ((v : List ℕ) → Rest v t w → P (after v) t w)
      → WithinString Rest s (c ∷ t) w → Onward P (in_string within after s c) t w
  string_forth s c t w g into onto h =
      closed_forth (Left Triples) (string.step Triples) string.final (string_exact Triples) whole_string Rest P within (λ v. Some (after v)) s c t w (λ n e. ends n (next s n c g e)) into (λ v k. (after v, refl, onto v k)) h

  pub string_back : (s : StringAt) (n : LineAt) (c : ℕ) (t : List ℕ) (w : W) → ((n : StringAt) → P (within n) t w → WithinString Rest n t w) → ((v : List ℕ) → P (after v) t w → Rest v t w)
      → GoodString s → in_string within after s c ≡ Some n → P n t w → WithinString Rest s (c ∷ t) w
  string_back s n c t w from off g e h =
      closed_back (Left Triples) (string.step Triples) string.final (string_exact Triples) whole_string Rest P within (λ v. Some (after v)) s n c t w (λ m e. ends m (next s m c g.going e)) from
      (λ v k h. off v (subst (λ n. P n t w) (sym (some_same k)) h)) g.viable e h

pub string_leads : (Q : LineAt → Type 0) (within : StringAt → LineAt) (after : List ℕ → LineAt) (s : StringAt) (n : LineAt) (c : ℕ) → GoodString s → ((m : StringAt) → GoodString m → Q (within m)) → ((v : List ℕ) → Q (after v)) → in_string within after s c ≡ Some n → Q n
string_leads Q within after s n c g good done e =
    let m = closed_gives (Left Triples) (string.step Triples) string.final (string_exact Triples) whole_string (λ (v t : List ℕ) (w : Unit {0}). Unit {0}) (λ (n : LineAt) (t : List ℕ) (w : Unit {0}). Unit {0}) within (λ v. Some (after v)) s n c e in
    ⊎_elim
    (λ (k : (whole_string m.0 ≡ None) × (n ≡ within m.0)). subst Q (sym k.1) (good m.0 (record { viable = (string_exact Triples).alive s m.0 c g.viable m.1; going = still m.0 (next s m.0 c g.going m.1) k.0 })))
    (λ (k : (v : List ℕ) × (whole_string m.0 ≡ Some v) × (◌≡◌ {A = Option LineAt} (Some (after v)) (Some n))). subst Q (some_same k.2) (done k.0))
    m.2
  where
    still : (n : StringAt) → OpenOrDone n → whole_string n ≡ None → is_open_string n ≡ true
    still n is e = ⊎_elim (λ g. g) (λ (g : (v : List ℕ) × (n ≡ Done v)). none_some (sym e ∙ ap whole_string g.1)) is
