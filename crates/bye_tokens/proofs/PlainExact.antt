-- The machine of words and prefixed names reads them.
use Rattle.std.proofs.Common.{◌≡◌, refl, ℕ, Bool, true, false, cond, not, ◌&&◌, ◌||◌, ◌==◌, List, [], ◌∷◌, Option, Some, None, sym, subst, codes}
use Rattle.std.specs.List.{list_all}
use Rattle.bye_terms.specs.Characters.{is_letter, is_digit, is_low_base, is_high_base, is_name_base, is_name_mark, is_label_start, is_label_part}
use Rattle.bye_lex.specs.Languages.{Viable}
use Rattle.bye_lex.proofs.Accepting.{Left, exact, after as after_step}
use Rattle.bye_lex.proofs.Branches.{none_some, some_same, or_first, or_second}
use Rattle.bye_lex.proofs.Scans.{Exact}
use Rattle.bye_tokens.specs.Classes.{is_word_part, is_prefix_part, is_hex, may_be_escaped}
use Rattle.bye_tokens.specs.Names.{is_local, is_local_rest, is_percent, is_last_hex, is_escape}
use Rattle.bye_tokens.specs.NameSteps.{step, form, after_prefix, escaped, in_local}
use Rattle.bye_tokens.specs.Words.{is_word}
use Rattle.bye_tokens.specs.declared.name.Plain.{Plain}
use Rattle.bye_tokens.specs.declared.name.Plain.TheVariants.{Word, Prefixed}
use Rattle.bye_tokens.specs.declared.name.PlainAt.{PlainAt}
use Rattle.bye_tokens.specs.declared.name.PlainAt.TheVariants.{Start, InWord, InPrefix, PrefixDot, Colon, InLocal, LocalDot, Percent, LastHex, Backslash}

-- the rest of a prefixed name, in its prefix; `due` where a dot stands before it
abbrev pub named_rest : Bool → List ℕ → Bool
named_rest due [] = false
named_rest due (c ∷ cs) = cond (is_prefix_part c) (named_rest false cs) (cond (c == 46) (named_rest true cs) (c == 58 && (not due && is_local cs)))

-- a prefixed name
abbrev pub is_named : List ℕ → Bool
is_named [] = false
is_named (c ∷ cs) = cond (is_name_base c) (named_rest false cs) (c == 58 && is_local cs)

-- the texts that complete what was read
abbrev pub accepts : PlainAt → Plain → List ℕ → Bool
accepts Start Word text = is_word text
accepts Start Prefixed text = is_named text
accepts InWord Word text = list_all is_word_part text
accepts InWord Prefixed text = named_rest false text
accepts InPrefix Word text = false
accepts InPrefix Prefixed text = named_rest false text
accepts PrefixDot Word text = false
accepts PrefixDot Prefixed text = named_rest true text
accepts Colon Word text = false
accepts Colon Prefixed text = is_local text
accepts InLocal Word text = false
accepts InLocal Prefixed text = is_local_rest false text
accepts LocalDot Word text = false
accepts LocalDot Prefixed text = is_local_rest true text
accepts Percent Word text = false
accepts Percent Prefixed text = is_percent text
accepts LastHex Word text = false
accepts LastHex Prefixed text = is_last_hex text
accepts Backslash Word text = false
accepts Backslash Prefixed text = is_escape text

abbrev after : Option PlainAt → Plain → List ℕ → Bool
after = after_step accepts

-- a word's character may stand in a prefix
word_in_prefix : (c : ℕ) → is_word_part c ≡ true → is_prefix_part c ≡ true
word_in_prefix c e = go (is_letter c) (is_digit c) (c == 95) (is_low_base c) (is_high_base c) (is_name_mark c) (c == 45) e
  where
    go : (l d u low high mark dash : Bool) → ((l || d) || u) ≡ true → ((((((l || low) || high) || u) || d) || mark) || dash) ≡ true
    go true d u low high mark dash e = refl
    go false true u low high mark dash e = or_first _ _ (or_first _ _ (or_second _ _ refl))
    go false false true low high mark dash e = or_first _ _ (or_first _ _ (or_first _ _ (or_second _ _ refl)))
    go false false false low high mark dash e = cc

-- nothing that is no word goes on to one
prefix_no_word : (c : ℕ) (t : List ℕ) → false ≡ after (after_prefix c) Word t
prefix_no_word c t = go (is_prefix_part c) (c == 46) (c == 58)
  where
    go : (p d k : Bool) → false ≡ after (cond p (Some InPrefix) (cond d (Some PrefixDot) (cond k (Some Colon) None))) Word t
    go true d k = refl
    go false true k = refl
    go false false true = refl
    go false false false = refl

escaped_no_word : (c : ℕ) (t : List ℕ) → false ≡ after (escaped c) Word t
escaped_no_word c t = go (c == 37) (c == 92)
  where
    go : (p b : Bool) → false ≡ after (cond p (Some Percent) (cond b (Some Backslash) None)) Word t
    go true b = refl
    go false true = refl
    go false false = refl

one_no_word : (b : Bool) (n : PlainAt) (t : List ℕ) → false ≡ accepts n Word t → false ≡ after (cond b (Some n) None) Word t
one_no_word true n t e = e
one_no_word false n t e = refl

local_no_word : (c : ℕ) (t : List ℕ) → false ≡ after (in_local c) Word t
local_no_word c t = go (is_label_part c) (c == 46)
  where
    go : (p d : Bool) → false ≡ after (cond p (Some InLocal) (cond d (Some LocalDot) (escaped c))) Word t
    go true d = refl
    go false true = refl
    go false false = escaped_no_word c t

escaped_takes : (c : ℕ) (t : List ℕ) → cond (c == 37) (is_percent t) (c == 92 && is_escape t) ≡ after (escaped c) Prefixed t
escaped_takes c t = go (c == 37) (c == 92)
  where
    go : (p b : Bool) → cond p (is_percent t) (b && is_escape t) ≡ after (cond p (Some Percent) (cond b (Some Backslash) None)) Prefixed t
    go true b = refl
    go false true = refl
    go false false = refl

local_takes : (c : ℕ) (t : List ℕ) → cond (is_label_part c) (is_local_rest false t) (cond (c == 46) (is_local_rest true t) (cond (c == 37) (is_percent t) (c == 92 && is_escape t))) ≡ after (in_local c) Prefixed t
local_takes c t = go (is_label_part c) (c == 46)
  where
    go : (p d : Bool) → cond p (is_local_rest false t) (cond d (is_local_rest true t) (cond (c == 37) (is_percent t) (c == 92 && is_escape t))) ≡ after (cond p (Some InLocal) (cond d (Some LocalDot) (escaped c))) Prefixed t
    go true d = refl
    go false true = refl
    go false false = escaped_takes c t

one_takes : (b x : Bool) (n : PlainAt) (t : List ℕ) → accepts n Prefixed t ≡ x → (b && x) ≡ after (cond b (Some n) None) Prefixed t
one_takes true x n t e = sym e
one_takes false x n t e = refl

-- a state accepts a text exactly where its next state accepts the rest
takes : (s : PlainAt) (v : Plain) (c : ℕ) (t : List ℕ) → accepts s v (c ∷ t) ≡ after (step s c) v t
takes Start Word c t = go (is_letter c) (is_name_base c) (c == 58)
  where
    go : (l b k : Bool) → (l && list_all is_word_part t) ≡ after (cond l (Some InWord) (cond b (Some InPrefix) (cond k (Some Colon) None))) Word t
    go true b k = refl
    go false true k = refl
    go false false true = refl
    go false false false = refl
takes Start Prefixed c t = go (is_letter c) (is_low_base c) (is_high_base c) (c == 58)
  where
    of_base : (b k : Bool) → cond b (named_rest false t) (k && is_local t) ≡ after (cond b (Some InPrefix) (cond k (Some Colon) None)) Prefixed t
    of_base true k = refl
    of_base false true = refl
    of_base false false = refl

    go : (l low high k : Bool) → cond ((l || low) || high) (named_rest false t) (k && is_local t) ≡ after (cond l (Some InWord) (cond ((l || low) || high) (Some InPrefix) (cond k (Some Colon) None))) Prefixed t
    go true low high k = refl
    go false low high k = of_base (low || high) k
takes InWord Word c t = go (is_word_part c)
  where
    go : (w : Bool) → (w && list_all is_word_part t) ≡ after (cond w (Some InWord) (after_prefix c)) Word t
    go true = refl
    go false = prefix_no_word c t
takes InWord Prefixed c t = go (is_word_part c) (is_prefix_part c) (c == 46) (c == 58) (word_in_prefix c)
  where
    go : (w p d k : Bool) → (w ≡ true → p ≡ true) → cond p (named_rest false t) (cond d (named_rest true t) (k && is_local t)) ≡ after (cond w (Some InWord) (cond p (Some InPrefix) (cond d (Some PrefixDot) (cond k (Some Colon) None)))) Prefixed t
    go true true d k h = refl
    go true false d k h = let e = h refl in cc
    go false true d k h = refl
    go false false true k h = refl
    go false false false true h = refl
    go false false false false h = refl
takes InPrefix Word c t = prefix_no_word c t
takes InPrefix Prefixed c t = go (is_prefix_part c) (c == 46) (c == 58)
  where
    go : (p d k : Bool) → cond p (named_rest false t) (cond d (named_rest true t) (k && is_local t)) ≡ after (cond p (Some InPrefix) (cond d (Some PrefixDot) (cond k (Some Colon) None))) Prefixed t
    go true d k = refl
    go false true k = refl
    go false false true = refl
    go false false false = refl
takes PrefixDot Word c t = go (is_prefix_part c) (c == 46)
  where
    go : (p d : Bool) → false ≡ after (cond p (Some InPrefix) (cond d (Some PrefixDot) None)) Word t
    go true d = refl
    go false true = refl
    go false false = refl
takes PrefixDot Prefixed c t = go (is_prefix_part c) (c == 46) (c == 58)
  where
    go : (p d k : Bool) → cond p (named_rest false t) (cond d (named_rest true t) (k && false)) ≡ after (cond p (Some InPrefix) (cond d (Some PrefixDot) None)) Prefixed t
    go true d k = refl
    go false true k = refl
    go false false true = refl
    go false false false = refl
takes Colon Word c t = go (is_label_start c)
  where
    go : (b : Bool) → false ≡ after (cond b (Some InLocal) (escaped c)) Word t
    go true = refl
    go false = escaped_no_word c t
takes Colon Prefixed c t = go (is_label_start c)
  where
    go : (b : Bool) → cond b (is_local_rest false t) (cond (c == 37) (is_percent t) (c == 92 && is_escape t)) ≡ after (cond b (Some InLocal) (escaped c)) Prefixed t
    go true = refl
    go false = escaped_takes c t
takes InLocal Word c t = local_no_word c t
takes InLocal Prefixed c t = local_takes c t
takes LocalDot Word c t = local_no_word c t
takes LocalDot Prefixed c t = local_takes c t
takes Percent Word c t = one_no_word (is_hex c) LastHex t refl
takes Percent Prefixed c t = one_takes (is_hex c) (is_last_hex t) LastHex t refl
takes LastHex Word c t = one_no_word (is_hex c) InLocal t refl
takes LastHex Prefixed c t = one_takes (is_hex c) (is_local_rest false t) InLocal t refl
takes Backslash Word c t = one_no_word (may_be_escaped c) InLocal t refl
takes Backslash Prefixed c t = one_takes (may_be_escaped c) (is_local_rest false t) InLocal t refl

-- each state can go on
pub can : (s : PlainAt) → Viable (Left accepts s) []
can Start = record { more = codes ":"; scalars = refl; value = Prefixed; whole = refl }
can InWord = record { more = []; scalars = refl; value = Word; whole = refl }
can InPrefix = record { more = codes ":"; scalars = refl; value = Prefixed; whole = refl }
can PrefixDot = record { more = codes "0:"; scalars = refl; value = Prefixed; whole = refl }
can Colon = record { more = []; scalars = refl; value = Prefixed; whole = refl }
can InLocal = record { more = []; scalars = refl; value = Prefixed; whole = refl }
can LocalDot = record { more = codes "0"; scalars = refl; value = Prefixed; whole = refl }
can Percent = record { more = codes "00"; scalars = refl; value = Prefixed; whole = refl }
can LastHex = record { more = codes "0"; scalars = refl; value = Prefixed; whole = refl }
can Backslash = record { more = codes "."; scalars = refl; value = Prefixed; whole = refl }

ends : (s : PlainAt) (v : Plain) → accepts s v [] ≡ true → form s ≡ Some v
ends Start Word h = cc
ends Start Prefixed h = cc
ends InWord Word h = refl
ends InWord Prefixed h = cc
ends InPrefix Word h = cc
ends InPrefix Prefixed h = cc
ends PrefixDot Word h = cc
ends PrefixDot Prefixed h = cc
ends Colon Word h = cc
ends Colon Prefixed h = refl
ends InLocal Word h = cc
ends InLocal Prefixed h = refl
ends LocalDot Word h = cc
ends LocalDot Prefixed h = cc
ends Percent Word h = cc
ends Percent Prefixed h = cc
ends LastHex Word h = cc
ends LastHex Prefixed h = cc
ends Backslash Word h = cc
ends Backslash Prefixed h = cc

may_end : (s : PlainAt) (v : Plain) → form s ≡ Some v → accepts s v [] ≡ true
may_end Start v e = none_some e
may_end InWord v e = subst (λ v. accepts InWord v [] ≡ true) (some_same e) refl
may_end InPrefix v e = none_some e
may_end PrefixDot v e = none_some e
may_end Colon v e = subst (λ v. accepts Colon v [] ≡ true) (some_same e) refl
may_end InLocal v e = subst (λ v. accepts InLocal v [] ≡ true) (some_same e) refl
may_end LocalDot v e = none_some e
may_end Percent v e = none_some e
may_end LastHex v e = none_some e
may_end Backslash v e = none_some e

pub plain_exact : Exact (Left accepts) step form
plain_exact = exact accepts step form (record { takes = takes; can = can; ends = ends; may_end = may_end })
