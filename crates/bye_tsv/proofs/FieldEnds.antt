-- Where a field may end, and that none goes on at a TAB or a line's end.
use Rattle.std.proofs.Common.{◌≡◌, refl, ℕ, Bool, true, false, cond, List, [], ◌∷◌, ◌++◌, Option, Some, None, option_and_then, option_map, ◌⊎◌, inl, inr, sym, ◌∙◌, ap, subst, append-nil}
use Rattle.bye_terms.specs.Literals.{is_lang_string}
use Rattle.bye_terms.specs.declared.term.Term.{Term}
use Rattle.bye_lex.specs.IriSteps as iri
use Rattle.bye_lex.specs.LabelSteps as label
use Rattle.bye_lex.specs.NumberSteps as number
use Rattle.bye_lex.specs.StringSteps as string
use Rattle.bye_lex.specs.TagSteps as tag
use Rattle.bye_lex.specs.Strings.{around, has_quoting}
use Rattle.bye_lex.specs.declared.iri.IriAt.TheVariants as iris
use Rattle.bye_lex.specs.declared.label.LabelAt.TheVariants as labels
use Rattle.bye_lex.specs.declared.number.NumberAt.TheVariants as numbers
use Rattle.bye_lex.specs.declared.quoting.Quote.TheVariants as quotes
use Rattle.bye_lex.specs.declared.quoting.Quoting.{Quoting}
use Rattle.bye_lex.specs.declared.quoting.Quoting.TheVariants as quotings
use Rattle.bye_lex.specs.declared.string.StringAt.{StringAt}
use Rattle.bye_lex.specs.declared.string.StringAt.TheVariants as strings
use Rattle.bye_lex.specs.declared.style.Style.TheVariants.{Tsv}
use Rattle.bye_lex.specs.declared.tag.TagAt.TheVariants as tags
use Rattle.bye_lex.proofs.Branches.{mapped, none_some, some_same, unless}
use Rattle.bye_lex.proofs.IriExact.{iri_exact}
use Rattle.bye_lex.proofs.IriMeaning as iri_meant
use Rattle.bye_lex.proofs.LabelExact as label_exactly
use Rattle.bye_lex.proofs.Machines.{bind_some}
use Rattle.bye_lex.proofs.NumberExact.{number_exact}
use Rattle.bye_lex.proofs.StringExact.{string_exact}
use Rattle.bye_lex.proofs.StringMeaning as string_meant
use Rattle.bye_lex.proofs.TagExact as tag_exactly
use Rattle.bye_tsv.specs.FieldSteps.{step, final, word_step, word_value, typed}
use Rattle.bye_tsv.specs.Fields.{string_of, typed_of, word_of, Suffix, TermText}
use Rattle.bye_tsv.specs.Numbers.{number_of}
use Rattle.bye_tsv.specs.declared.field.FieldAt.{FieldAt}
use Rattle.bye_tsv.specs.declared.field.FieldAt.TheVariants.{Empty, Iri, Label, String, Tag, Caret, Datatype, Number, Word}
use Rattle.bye_tsv.specs.declared.word.WordAt.TheVariants as words
use Rattle.bye_tsv.proofs.FieldExact.{AfterString, FieldLeft, GoodField, iri_cell, label_cell, tag_cell, word_cell}
use Rattle.bye_tsv.proofs.FieldTokens.{token_ends, token_may_end}
use Rattle.bye_tsv.proofs.WordExact.{WordLeft, word_exact}

-- no term is spelled with nothing
string_some : (quoting : Quoting) (tail own rest : List ℕ) → has_quoting Tsv quoting ≡ true → own ≡ around quoting ++ tail → ◌≡◌ {A = List ℕ} [] (own ++ rest) → ⊥
string_some (quotings.Short q) tail own rest h e k = let z = k ∙ ap (λ own. own ++ rest) e in cc
string_some (quotings.Long q) tail own rest h e k = cc

word_some : (v : Bool) → [] ≡ word_of v → ⊥
word_some true e = cc
word_some false e = cc

pub term_some : (term : Term) → TermText [] term → ⊥
term_some term (inl h) = let e = h.token.spelled in cc
term_some term (inr (inl h)) = let e = h.token.0 in cc
term_some term (inr (inr (inl h))) = string_some h.token.quoting h.token.tail h.own h.rest h.token.has h.token.spelled h.spelled
term_some term (inr (inr (inr (inl h)))) = let e = h.token in cc
term_some term (inr (inr (inr (inr h)))) = word_some h.value h.token

-- a string at the end of its field
string_over : (at : StringAt) (own value rest : List ℕ) (cell : Option Term) → string_meant.Left Tsv at own value → AfterString value rest cell → ◌≡◌ {A = List ℕ} [] (own ++ rest) → option_map (λ v. Some (string_of v)) (string.final at) ≡ Some cell
string_over at [] value rest cell h k e = ap (option_map (λ v. Some (string_of v))) ((string_exact Tsv).ends at value h) ∙ ap Some (go rest e k.suffix ∙ sym k.is)
  where
    go : (rest : List ℕ) → [] ≡ rest → Suffix value rest k.term → Some (string_of value) ≡ Some k.term
    go rest e (inl s) = ap Some (sym s.1)
    go rest e (inr (inl s)) = let z = e ∙ s.token.0 in cc
    go rest e (inr (inr s)) = let z = e ∙ s.spelled in cc
string_over at (x ∷ own) value rest cell h k e = cc

-- a field that is read to its end
pub ends : (s : FieldAt) (cell : Option Term) → FieldLeft s [] cell → final s ≡ Some cell
ends Empty cell (inl k) = ap Some (sym k.1)
ends Empty cell (inr k) = absurd (term_some k.term k.spells)
ends (Iri at) cell h = token_ends (iri_meant.Left Tsv) (iri.step Tsv) iri.final (iri_exact Tsv) iri_cell at cell h
ends (Label at) cell h = token_ends label_exactly.Left label.step label.final label_exactly.label_exact label_cell at cell h
ends (String at) cell h = string_over at h.own h.value h.rest cell h.is h.after h.spelled
ends (Tag lexical at) cell h = token_ends tag_exactly.Left tag.step tag.final tag_exactly.tag_exact (tag_cell lexical) at cell h
ends (Caret lexical) cell h = let e = h.token.1 in cc
ends (Datatype lexical at) cell h = ap (option_and_then (typed lexical)) ((iri_exact Tsv).ends at h.datatype h.token) ∙ unless _ _ _ _ h.untagged refl ∙ ap Some (sym h.is)
ends (Number at out) cell h = ap (option_map (λ kind. Some (number_of kind out))) (number_exact.ends at h.kind h.token) ∙ ap Some (ap (λ text. Some (number_of h.kind text)) (sym (append-nil out)) ∙ sym h.is)
ends (Word at) cell h = token_ends WordLeft word_step word_value word_exact word_cell at cell h

typed_is : (lexical datatype : List ℕ) (cell : Option Term) → typed lexical datatype ≡ Some cell → (is_lang_string datatype ≡ false) × (cell ≡ Some (typed_of lexical datatype))
typed_is lexical datatype cell e = go (is_lang_string datatype) refl e
  where
    go : (b : Bool) → is_lang_string datatype ≡ b → cond b None (Some (Some (typed_of lexical datatype))) ≡ Some cell → (is_lang_string datatype ≡ false) × (cell ≡ Some (typed_of lexical datatype))
    go true f e = none_some e
    go false f e = (f, sym (some_same e))

pub may_end : (s : FieldAt) (cell : Option Term) → final s ≡ Some cell → FieldLeft s [] cell
may_end Empty cell e = inl (refl, sym (some_same e))
may_end (Iri at) cell e = token_may_end (iri_meant.Left Tsv) (iri.step Tsv) iri.final (iri_exact Tsv) iri_cell at cell e
may_end (Label at) cell e = token_may_end label_exactly.Left label.step label.final label_exactly.label_exact label_cell at cell e
may_end (String at) cell e =
    let k = mapped (λ v. Some (string_of v)) (string.final at) cell e in
    record { own = []; value = k.0; rest = []; is = (string_exact Tsv).may_end at k.0 k.1; after = record { term = string_of k.0; suffix = inl (refl, refl); is = sym k.2 }; spelled = refl }
may_end (Tag lexical at) cell e = token_may_end tag_exactly.Left tag.step tag.final tag_exactly.tag_exact (tag_cell lexical) at cell e
may_end (Caret lexical) cell e = none_some e
may_end (Datatype lexical at) cell e =
    let k = bind_some (iri.final at) (typed lexical) cell e in
    let t = typed_is lexical k.0 cell k.2 in
    record { datatype = k.0; token = (iri_exact Tsv).may_end at k.0 k.1; untagged = t.0; is = t.1 }
may_end (Number at out) cell e =
    let k = mapped (λ kind. Some (number_of kind out)) (number.form at) cell e in
    record { kind = k.0; token = number_exact.may_end at k.0 k.1; is = sym k.2 ∙ ap (λ text. Some (number_of k.0 text)) (sym (append-nil out)) }
may_end (Word at) cell e = token_may_end WordLeft word_step word_value word_exact word_cell at cell e

-- the characters between fields and lines: TAB, LF and CR
abbrev pub IsBorder : ℕ → Type 0
IsBorder c = (c ≡ 9) ⊎ ((c ≡ 10) ⊎ (c ≡ 13))

each : (P : ℕ → Type 0) → P 9 → P 10 → P 13 → (c : ℕ) → IsBorder c → P c
each P tab lf cr c (inl e) = subst P (sym e) tab
each P tab lf cr c (inr (inl e)) = subst P (sym e) lf
each P tab lf cr c (inr (inr e)) = subst P (sym e) cr

string_stops : (at : StringAt) → GoodField (String at) → (c : ℕ) → IsBorder c → step (String at) c ≡ None
string_stops strings.Start g = each (λ c. step (String strings.Start) c ≡ None) refl refl refl
string_stops (strings.Opened q) g = let z = g.short in cc
string_stops (strings.Empty q) g = let z = g.short in cc
string_stops (strings.In (quotings.Short quotes.Double) out) g = each (λ c. step (String (strings.In (quotings.Short quotes.Double) out)) c ≡ None) refl refl refl
string_stops (strings.In (quotings.Short quotes.Single) out) g = each (λ c. step (String (strings.In (quotings.Short quotes.Single) out)) c ≡ None) refl refl refl
string_stops (strings.In (quotings.Long q) out) g = let z = g.short in cc
string_stops (strings.Backslash k out) g = each (λ c. step (String (strings.Backslash k out)) c ≡ None) refl refl refl
string_stops (strings.Escape k x out) g = each (λ c. step (String (strings.Escape k x out)) c ≡ None) refl refl refl
string_stops (strings.OneQuote q out) g = let z = g.short in cc
string_stops (strings.TwoQuotes q out) g = let z = g.short in cc
string_stops (strings.Done out) g = each (λ c. step (String (strings.Done out)) c ≡ None) refl refl refl

pub stops : (s : FieldAt) → GoodField s → (c : ℕ) → IsBorder c → step s c ≡ None
stops Empty g = each (λ c. step Empty c ≡ None) refl refl refl
stops (Iri iris.Start) g = each (λ c. step (Iri iris.Start) c ≡ None) refl refl refl
stops (Iri iris.Opened) g = each (λ c. step (Iri iris.Opened) c ≡ None) refl refl refl
stops (Iri (iris.Scheme out)) g = each (λ c. step (Iri (iris.Scheme out)) c ≡ None) refl refl refl
stops (Iri (iris.Body out)) g = each (λ c. step (Iri (iris.Body out)) c ≡ None) refl refl refl
stops (Iri (iris.Backslash out)) g = each (λ c. step (Iri (iris.Backslash out)) c ≡ None) refl refl refl
stops (Iri (iris.Escape x out)) g = each (λ c. step (Iri (iris.Escape x out)) c ≡ None) refl refl refl
stops (Iri (iris.Done out)) g = each (λ c. step (Iri (iris.Done out)) c ≡ None) refl refl refl
stops (Label labels.Start) g = each (λ c. step (Label labels.Start) c ≡ None) refl refl refl
stops (Label labels.Underscore) g = each (λ c. step (Label labels.Underscore) c ≡ None) refl refl refl
stops (Label labels.Colon) g = each (λ c. step (Label labels.Colon) c ≡ None) refl refl refl
stops (Label (labels.In out)) g = each (λ c. step (Label (labels.In out)) c ≡ None) refl refl refl
stops (Label (labels.Dotted out dots)) g = each (λ c. step (Label (labels.Dotted out dots)) c ≡ None) refl refl refl
stops (String at) g = string_stops at g
stops (Tag lexical tags.Start) g = each (λ c. step (Tag lexical tags.Start) c ≡ None) refl refl refl
stops (Tag lexical tags.Sign) g = each (λ c. step (Tag lexical tags.Sign) c ≡ None) refl refl refl
stops (Tag lexical (tags.Letters out)) g = each (λ c. step (Tag lexical (tags.Letters out)) c ≡ None) refl refl refl
stops (Tag lexical (tags.Hyphen out)) g = each (λ c. step (Tag lexical (tags.Hyphen out)) c ≡ None) refl refl refl
stops (Tag lexical (tags.Subtag out)) g = each (λ c. step (Tag lexical (tags.Subtag out)) c ≡ None) refl refl refl
stops (Caret lexical) g = each (λ c. step (Caret lexical) c ≡ None) refl refl refl
stops (Datatype lexical iris.Start) g = each (λ c. step (Datatype lexical iris.Start) c ≡ None) refl refl refl
stops (Datatype lexical iris.Opened) g = each (λ c. step (Datatype lexical iris.Opened) c ≡ None) refl refl refl
stops (Datatype lexical (iris.Scheme out)) g = each (λ c. step (Datatype lexical (iris.Scheme out)) c ≡ None) refl refl refl
stops (Datatype lexical (iris.Body out)) g = each (λ c. step (Datatype lexical (iris.Body out)) c ≡ None) refl refl refl
stops (Datatype lexical (iris.Backslash out)) g = each (λ c. step (Datatype lexical (iris.Backslash out)) c ≡ None) refl refl refl
stops (Datatype lexical (iris.Escape x out)) g = each (λ c. step (Datatype lexical (iris.Escape x out)) c ≡ None) refl refl refl
stops (Datatype lexical (iris.Done out)) g = each (λ c. step (Datatype lexical (iris.Done out)) c ≡ None) refl refl refl
stops (Number numbers.Start out) g = each (λ c. step (Number numbers.Start out) c ≡ None) refl refl refl
stops (Number numbers.Signed out) g = each (λ c. step (Number numbers.Signed out) c ≡ None) refl refl refl
stops (Number numbers.Whole out) g = each (λ c. step (Number numbers.Whole out) c ≡ None) refl refl refl
stops (Number (numbers.Point true) out) g = each (λ c. step (Number (numbers.Point true) out) c ≡ None) refl refl refl
stops (Number (numbers.Point false) out) g = each (λ c. step (Number (numbers.Point false) out) c ≡ None) refl refl refl
stops (Number numbers.Fraction out) g = each (λ c. step (Number numbers.Fraction out) c ≡ None) refl refl refl
stops (Number numbers.Exponent out) g = each (λ c. step (Number numbers.Exponent out) c ≡ None) refl refl refl
stops (Number numbers.ExponentSign out) g = each (λ c. step (Number numbers.ExponentSign out) c ≡ None) refl refl refl
stops (Number numbers.ExponentDigits out) g = each (λ c. step (Number numbers.ExponentDigits out) c ≡ None) refl refl refl
stops (Word words.T) g = each (λ c. step (Word words.T) c ≡ None) refl refl refl
stops (Word words.Tr) g = each (λ c. step (Word words.Tr) c ≡ None) refl refl refl
stops (Word words.Tru) g = each (λ c. step (Word words.Tru) c ≡ None) refl refl refl
stops (Word words.True) g = each (λ c. step (Word words.True) c ≡ None) refl refl refl
stops (Word words.F) g = each (λ c. step (Word words.F) c ≡ None) refl refl refl
stops (Word words.Fa) g = each (λ c. step (Word words.Fa) c ≡ None) refl refl refl
stops (Word words.Fal) g = each (λ c. step (Word words.Fal) c ≡ None) refl refl refl
stops (Word words.Fals) g = each (λ c. step (Word words.Fals) c ≡ None) refl refl refl
stops (Word words.False) g = each (λ c. step (Word words.False) c ≡ None) refl refl refl
