-- The longest token at the front of what a machine read, after one more character.
use Rattle.std.proofs.Common.{◌≡◌, refl, ℕ, true, false, cond, Result, Ok, Err, IfOk, ◌==◌, ◌&&◌, Bool, option_map, List, [], ◌∷◌, ◌++◌, Option, Some, None, sym, subst}
use Rattle.bye_terms.specs.Characters.{is_label_part, is_letter, is_letter_or_digit}
use Rattle.bye_terms.specs.declared.memory.Memory.{Memory}
use Rattle.bye_lex.specs.EscapeSteps as escape
use Rattle.bye_lex.specs.Iris.{has_numbers}
use Rattle.bye_lex.specs.IriSteps as iri
use Rattle.bye_lex.specs.LabelSteps as label
use Rattle.bye_lex.specs.Machines.{IfOn, later, stepped}
use Rattle.bye_lex.specs.NameSteps as name
use Rattle.bye_lex.specs.StringSteps as string
use Rattle.bye_lex.specs.Strings.{may_stand, named, mark_of, has_quoting}
use Rattle.bye_lex.specs.TagSteps as tag
use Rattle.bye_lex.specs.declared.escape.Home.TheVariants as homes
use Rattle.bye_lex.specs.declared.escape.EscapeStep.{EscapeStep}
use Rattle.bye_lex.specs.declared.escape.EscapeStep.TheVariants.{Within, Whole}
use Rattle.bye_lex.specs.declared.iri.IriAt.{IriAt}
use Rattle.bye_lex.specs.declared.iri.IriAt.TheVariants as iris
use Rattle.bye_lex.specs.declared.label.LabelAt.{LabelAt}
use Rattle.bye_lex.specs.declared.label.LabelAt.TheVariants as labels
use Rattle.bye_lex.specs.declared.name.NameAt.{NameAt}
use Rattle.bye_lex.specs.declared.quoting.Quote.{Quote}
use Rattle.bye_lex.specs.declared.quoting.Quote.TheVariants.{Double, Single}
use Rattle.bye_lex.specs.declared.quoting.Quoting.{Quoting}
use Rattle.bye_lex.specs.declared.quoting.Quoting.TheVariants.{Short, Long}
use Rattle.bye_lex.specs.declared.name.NameAt.TheVariants as names
use Rattle.bye_lex.specs.declared.stepped.Stepped.{Stepped}
use Rattle.bye_lex.specs.declared.string.StringAt.{StringAt}
use Rattle.bye_lex.specs.declared.string.StringAt.TheVariants as strings
use Rattle.bye_lex.specs.declared.style.Style.{Style}
use Rattle.bye_lex.specs.declared.style.Style.TheVariants.{Triples, Tsv, Query}
use Rattle.bye_lex.specs.declared.tag.TagAt.{TagAt}
use Rattle.bye_lex.specs.declared.tag.TagAt.TheVariants as tags
use Rattle.bye_lex.proofs.Branches.{mapped, none_some, one_way, pick_of, some_same, two_ways}

module _ {S V : Type 0} (step : S → ℕ → Option S) (final longest : S → Option V) (grows : (s n : S) (c : ℕ) → step s c ≡ Some n → longest n ≡ later (final n) (longest s)) where
  by_step : (s : S) (c : ℕ) (o : Option S) → step s c ≡ o → IfOn (stepped s o) (λ n. longest n ≡ later (final n) (longest s))
  by_step s c None e = tt
  by_step s c (Some n) e = grows s n c e

  grown : (s : S) (c : ℕ) (r : Stepped S) → r ≡ stepped s (step s c) → IfOn r (λ n. longest n ≡ later (final n) (longest s))
  grown s c r e = subst (λ r. IfOn r (λ n. longest n ≡ later (final n) (longest s))) (sym e) (by_step s c (step s c) refl)

-- where there was none before
first : {V : Type 0} (o : Option V) → o ≡ later o None
first None = refl
first (Some v) = refl

iri_grows : (style : Style) (s n : IriAt) (c : ℕ) → iri.step style s c ≡ Some n → iri.final n ≡ later (iri.final n) (iri.final s)
iri_grows style iris.Start n c e = first (iri.final n)
iri_grows style iris.Opened n c e = first (iri.final n)
iri_grows style (iris.Scheme out) n c e = first (iri.final n)
iri_grows style (iris.Body out) n c e = first (iri.final n)
iri_grows style (iris.Backslash out) n c e = first (iri.final n)
iri_grows style (iris.Escape at out) n c e = first (iri.final n)
iri_grows style (iris.Done out) n c e = none_some e

label_grows : (s n : LabelAt) (c : ℕ) → label.step s c ≡ Some n → label.longest n ≡ later (label.final n) (label.longest s)
label_grows labels.Start n c e = one_way (λ n. label.longest n ≡ later (label.final n) None) _ _ n refl e
label_grows labels.Underscore n c e = one_way (λ n. label.longest n ≡ later (label.final n) None) _ _ n refl e
label_grows labels.Colon n c e = one_way (λ n. label.longest n ≡ later (label.final n) None) _ _ n refl e
label_grows (labels.In out) n c e = two_ways (λ n. label.longest n ≡ later (label.final n) (Some out)) (is_label_part c) (c == 46) (labels.In (out ++ c ∷ [])) (labels.Dotted out (46 ∷ [])) n refl refl e
label_grows (labels.Dotted out dots) n c e = two_ways (λ n. label.longest n ≡ later (label.final n) (Some out)) (is_label_part c) (c == 46) (labels.In ((out ++ dots) ++ c ∷ [])) (labels.Dotted out (dots ++ 46 ∷ [])) n refl refl e

tag_grows : (s n : TagAt) (c : ℕ) → tag.step s c ≡ Some n → tag.longest n ≡ later (tag.final n) (tag.longest s)
tag_grows tags.Start n c e = one_way (λ n. tag.longest n ≡ later (tag.final n) None) _ _ n refl e
tag_grows tags.Sign n c e = one_way (λ n. tag.longest n ≡ later (tag.final n) None) _ _ n refl e
tag_grows (tags.Letters out) n c e = two_ways (λ n. tag.longest n ≡ later (tag.final n) (Some out)) (is_letter c) (c == 45) (tags.Letters (out ++ c ∷ [])) (tags.Hyphen out) n refl refl e
tag_grows (tags.Hyphen out) n c e = one_way (λ n. tag.longest n ≡ later (tag.final n) (Some out)) _ _ n refl e
tag_grows (tags.Subtag out) n c e = two_ways (λ n. tag.longest n ≡ later (tag.final n) (Some out)) (is_letter_or_digit c) (c == 45) (tags.Subtag (out ++ c ∷ [])) (tags.Hyphen out) n refl refl e

name_grows : (s n : NameAt) (c : ℕ) → name.step s c ≡ Some n → name.final n ≡ later (name.final n) (name.final s)
name_grows names.Start n c e = first (name.final n)
name_grows (names.In out) n c e = one_way (λ n. name.final n ≡ later (name.final n) (Some out)) _ _ n refl e

abbrev StringGrows : Option (List ℕ) → StringAt → Type 0
StringGrows before n = string.longest n ≡ later (string.final n) before

opens : (style : Style) (q : Quote) → StringGrows None (string.opened style q)
opens Triples q = refl
opens Tsv q = refl
opens Query q = refl

goes_inside : (style : Style) (k : Quoting) (out : List ℕ) (c : ℕ) (n : StringAt) → string.inside style k out c ≡ Some n → StringGrows (string.empty_before k) n
goes_inside style k out c n e = two_ways (StringGrows (string.empty_before k)) (c == 92) (may_stand style k c) (strings.Backslash k out) (strings.In k (out ++ c ∷ [])) n refl refl e

escapes : (k : Quoting) (out : List ℕ) (x : EscapeStep) → StringGrows (string.empty_before k) (string.after_escape k out x)
escapes k out (Within at) = refl
escapes k out (Whole c) = refl

backslash_grows : (style : Style) (k : Quoting) (out : List ℕ) (c : ℕ) (o : Option ℕ) (n : StringAt) → string.after_backslash style k out c o ≡ Some n → StringGrows (string.empty_before k) n
backslash_grows style k out c None n e = by (has_numbers style) e
  where
    by : (b : Bool) → cond b (option_map (λ at. strings.Escape k at out) (escape.begin c)) None ≡ Some n → StringGrows (string.empty_before k) n
    by true e = let m = mapped (λ at. strings.Escape k at out) (escape.begin c) n e in subst (StringGrows (string.empty_before k)) m.2 refl
    by false e = none_some e
backslash_grows style k out c (Some d) n e = subst (StringGrows (string.empty_before k)) (some_same e) refl

string_grows : (style : Style) (s n : StringAt) (c : ℕ) → string.step style s c ≡ Some n → string.longest n ≡ later (string.final n) (string.longest s)
string_grows style strings.Start n c e =
    two_ways (StringGrows None) (c == 34) (c == 39 && has_quoting style (Short Single)) (string.opened style Double) (string.opened style Single) n (opens style Double) (opens style Single) e
string_grows style (strings.Opened q) n c e = pick_of (c == mark_of q) (strings.Empty q) n _ e (λ b k. subst (StringGrows None) (sym k) refl) (λ k. goes_inside style (Short q) [] c n k)
string_grows style (strings.Empty q) n c e = one_way (StringGrows (Some [])) (c == mark_of q) (strings.In (Long q) []) n refl e
string_grows style (strings.In (Short q) out) n c e = pick_of (c == mark_of q) (strings.Done out) n _ e (λ b k. subst (StringGrows None) (sym k) refl) (λ k. goes_inside style (Short q) out c n k)
string_grows style (strings.In (Long q) out) n c e = pick_of (c == mark_of q) (strings.OneQuote q out) n _ e (λ b k. subst (StringGrows (Some [])) (sym k) refl) (λ k. goes_inside style (Long q) out c n k)
string_grows style (strings.Backslash k out) n c e = backslash_grows style k out c (named c) n e
string_grows style (strings.Escape k at out) n c e =
    let m = mapped (string.after_escape k out) (escape.step homes.Text at c) n e in subst (StringGrows (string.empty_before k)) m.2 (escapes k out m.0)
string_grows style (strings.OneQuote q out) n c e = pick_of (c == mark_of q) (strings.TwoQuotes q out) n _ e (λ b k. subst (StringGrows (Some [])) (sym k) refl) (λ k. goes_inside style (Long q) _ c n k)
string_grows style (strings.TwoQuotes q out) n c e = pick_of (c == mark_of q) (strings.Done out) n _ e (λ b k. subst (StringGrows (Some [])) (sym k) refl) (λ k. goes_inside style (Long q) _ c n k)
string_grows style (strings.Done out) n c e = none_some e

pub iri_grown : (style : Style) (s : IriAt) (c : ℕ) (r : Stepped IriAt) → r ≡ stepped s (iri.step style s c) → IfOn r (λ n. iri.final n ≡ later (iri.final n) (iri.final s))
iri_grown style s c r e = grown (iri.step style) iri.final iri.final (iri_grows style) s c r e

pub label_grown : (s : LabelAt) (c : ℕ) (r : Stepped LabelAt) → r ≡ stepped s (label.step s c) → IfOn r (λ n. label.longest n ≡ later (label.final n) (label.longest s))
label_grown s c r e = grown label.step label.final label.longest label_grows s c r e

pub tag_grown : (s : TagAt) (c : ℕ) (r : Stepped TagAt) → r ≡ stepped s (tag.step s c) → IfOn r (λ n. tag.longest n ≡ later (tag.final n) (tag.longest s))
tag_grown s c r e = grown tag.step tag.final tag.longest tag_grows s c r e

pub name_grown : (s : NameAt) (c : ℕ) (r : Stepped NameAt) → r ≡ stepped s (name.step s c) → IfOn r (λ n. name.final n ≡ later (name.final n) (name.final s))
name_grown s c r e = grown name.step name.final name.final name_grows s c r e

pub string_grown : (style : Style) (s : StringAt) (c : ℕ) (r : Stepped StringAt) → r ≡ stepped s (string.step style s c) → IfOn r (λ n. string.longest n ≡ later (string.final n) (string.longest s))
string_grown style s c r e = grown (string.step style) string.final string.longest (string_grows style) s c r e

-- the same of what a step answers
abbrev pub LabelsGrow : Option (List ℕ) → Result (Stepped LabelAt) Memory → Type 0
LabelsGrow before r = IfOk r (λ s. IfOn s (λ n. label.longest n ≡ later (label.final n) before))

pub labels_grow : (s : LabelAt) (c : ℕ) (r : Result (Stepped LabelAt) Memory) → IfOk r (λ n. n ≡ stepped s (label.step s c)) → LabelsGrow (label.longest s) r
labels_grow s c (Ok n) h = label_grown s c n h
labels_grow s c (Err e) h = tt

abbrev pub StringsGrow : Option (List ℕ) → Result (Stepped StringAt) Memory → Type 0
StringsGrow before r = IfOk r (λ s. IfOn s (λ n. string.longest n ≡ later (string.final n) before))

pub strings_grow : (style : Style) (s : StringAt) (c : ℕ) (r : Result (Stepped StringAt) Memory) → IfOk r (λ n. n ≡ stepped s (string.step style s c)) → StringsGrow (string.longest s) r
strings_grow style s c (Ok n) h = string_grown style s c n h
strings_grow style s c (Err e) h = tt
