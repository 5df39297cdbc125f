-- The machine of fields reads them.
use Rattle.std.proofs.Common.{◌≡◌, refl, ℕ, Bool, true, false, cond, ◌==◌, ◌||◌, List, [], ◌∷◌, ◌++◌, Option, Some, None, option_map, option_and_then, ◌⊎◌, inl, inr, ⊎_elim, sym, ◌∙◌, ap, subst, codes, append-nil}
use Rattle.bye_terms.specs.Literals.{is_lang_string}
use Rattle.bye_terms.specs.declared.term.Term.{Term}
use Rattle.bye_terms.specs.declared.term.Term.TheVariants as terms
use Rattle.bye_lex.specs.Iris.{IriToken, IriLetter}
use Rattle.bye_lex.specs.IriSteps as iri
use Rattle.bye_lex.specs.LabelSteps as label
use Rattle.bye_lex.specs.Languages.{Viable}
use Rattle.bye_lex.specs.NumberSteps as number
use Rattle.bye_lex.specs.StringSteps as string
use Rattle.bye_lex.specs.TagSteps as tag
use Rattle.bye_lex.specs.Strings.{around, has_quoting, mark_of}
use Rattle.bye_lex.specs.declared.iri.IriAt.{IriAt}
use Rattle.bye_lex.specs.declared.iri.IriAt.TheVariants as iris
use Rattle.bye_lex.specs.declared.label.LabelAt.TheVariants as labels
use Rattle.bye_lex.specs.declared.number.Number.{Number as NumberKind}
use Rattle.bye_lex.specs.declared.number.NumberAt.{NumberAt}
use Rattle.bye_lex.specs.declared.number.NumberAt.TheVariants as numbers
use Rattle.bye_lex.specs.declared.quoting.Quote.{Quote}
use Rattle.bye_lex.specs.declared.quoting.Quote.TheVariants as quotes
use Rattle.bye_lex.specs.declared.quoting.Quoting.{Quoting}
use Rattle.bye_lex.specs.declared.quoting.Quoting.TheVariants as quotings
use Rattle.bye_lex.specs.declared.string.StringAt.{StringAt}
use Rattle.bye_lex.specs.declared.string.StringAt.TheVariants as strings
use Rattle.bye_lex.specs.declared.style.Style.TheVariants.{Tsv}
use Rattle.bye_lex.specs.declared.tag.TagAt.TheVariants as tags
use Rattle.bye_lex.proofs.Branches.{heads, mapped, neither, never, none_some, pick_of, same_eqb, scalars_join, eqb_same, snoc, some_same, unless, when, chosen}
use Rattle.bye_lex.proofs.Embedding.{Onward, Upto, open_forth, open_back, open_gives}
use Rattle.bye_lex.proofs.IriExact.{iri_exact}
use Rattle.bye_lex.proofs.IriExact as iri_exactly
use Rattle.bye_lex.proofs.IriMeaning as iri_meant
use Rattle.bye_lex.proofs.LabelExact as label_exactly
use Rattle.bye_lex.proofs.Machines.{Machine, bind_some}
use Rattle.bye_lex.proofs.NumberExact.{NumberLeft, number_exact, begins_number, first_number}
use Rattle.bye_lex.proofs.NumberExact as number_exactly
use Rattle.bye_lex.proofs.StringExact.{string_exact}
use Rattle.bye_lex.proofs.StringExact as string_exactly
use Rattle.bye_lex.proofs.StringMeaning as string_meant
use Rattle.bye_lex.proofs.TagExact as tag_exactly
use Rattle.bye_tsv.specs.FieldSteps.{step, begin, after_string, datatype_at, in_datatype, in_number, word_step, word_value}
use Rattle.bye_tsv.specs.Fields.{string_of, tagged_of, typed_of, boolean_of, word_of, Tagged, Typed, Suffix, TermText, Field}
use Rattle.bye_tsv.specs.Numbers.{number_of}
use Rattle.bye_tsv.specs.declared.field.FieldAt.{FieldAt}
use Rattle.bye_tsv.specs.declared.field.FieldAt.TheVariants.{Empty, Iri, Label, String, Tag, Caret, Datatype, Number, Word}
use Rattle.bye_tsv.specs.declared.word.WordAt.TheVariants as words
use Rattle.bye_tsv.proofs.Datatypes.{untagged}
use Rattle.bye_tsv.proofs.FieldTokens.{Stands, token_forth, token_back, token_can, token_leads}
use Rattle.bye_tsv.proofs.ShortStrings.{is_short, next_short}
use Rattle.bye_tsv.proofs.WordExact.{WordLeft, word_exact}
use Rattle.bye_tsv.proofs.WordExact as word_exactly

-- what each kind of token stands for
abbrev pub iri_cell : List ℕ → Option Term
iri_cell v = Some (terms.Iri v)

abbrev pub label_cell : List ℕ → Option Term
label_cell v = Some (terms.Blank v)

abbrev pub tag_cell : List ℕ → List ℕ → Option Term
tag_cell lexical v = Some (tagged_of lexical v)

abbrev pub word_cell : Bool → Option Term
word_cell v = Some (boolean_of v)

-- what may stand after a string, with what stands before it
pub record AfterString (lexical text : List ℕ) (cell : Option Term) : Type 0 where
  pub term : Term
  pub suffix : Suffix lexical text term
  pub is : cell ≡ Some term

pub record AfterCaret (lexical text : List ℕ) (cell : Option Term) : Type 0 where
  pub datatype : List ℕ
  pub token : (own : List ℕ) × (text ≡ 94 ∷ own) × IriToken Tsv own datatype
  pub untagged : is_lang_string datatype ≡ false
  pub is : cell ≡ Some (typed_of lexical datatype)

pub record InDatatype (lexical : List ℕ) (at : IriAt) (text : List ℕ) (cell : Option Term) : Type 0 where
  pub datatype : List ℕ
  pub token : iri_meant.Left Tsv at text datatype
  pub untagged : is_lang_string datatype ≡ false
  pub is : cell ≡ Some (typed_of lexical datatype)

pub record InNumber (at : NumberAt) (out text : List ℕ) (cell : Option Term) : Type 0 where
  pub kind : NumberKind
  pub token : NumberLeft at text kind
  pub is : cell ≡ Some (number_of kind (out ++ text))

-- What each state still wants, in the grammar's words.
abbrev pub FieldLeft : FieldAt → List ℕ → Option Term → Type 0
FieldLeft Empty text cell = Field text cell
FieldLeft (Iri at) text cell = Stands (iri_meant.Left Tsv) iri_cell at text cell
FieldLeft (Label at) text cell = Stands label_exactly.Left label_cell at text cell
FieldLeft (String at) text cell = Upto (string_meant.Left Tsv) AfterString at text cell
FieldLeft (Tag lexical at) text cell = Stands tag_exactly.Left (tag_cell lexical) at text cell
FieldLeft (Caret lexical) text cell = AfterCaret lexical text cell
FieldLeft (Datatype lexical at) text cell = InDatatype lexical at text cell
FieldLeft (Number at out) text cell = InNumber at out text cell
FieldLeft (Word at) text cell = Stands WordLeft word_cell at text cell

pub record GoodDatatype (at : IriAt) : Type 0 where
  pub viable : Viable (iri_meant.Left Tsv at) []
  pub untagged : (v : List ℕ) → iri.final at ≡ Some v → is_lang_string v ≡ false

pub record GoodString (at : StringAt) : Type 0 where
  pub viable : Viable (string_meant.Left Tsv at) []
  pub short : is_short at ≡ true

-- the states that are reached
abbrev pub GoodField : FieldAt → Type 0
GoodField Empty = Unit {0}
GoodField (Iri at) = Viable (iri_meant.Left Tsv at) []
GoodField (Label at) = Unit {0}
GoodField (String at) = GoodString at
GoodField (Tag lexical at) = Unit {0}
GoodField (Caret lexical) = Unit {0}
GoodField (Datatype lexical at) = GoodDatatype at
GoodField (Number at out) = Unit {0}
GoodField (Word at) = Unit {0}

abbrev Next : FieldAt → ℕ → List ℕ → Option Term → Type 0
Next s c t cell = Onward FieldLeft (step s c) t cell

-- after a string
caret_left : (lexical own : List ℕ) (term : Term) → Typed lexical (94 ∷ own) term → FieldLeft (Caret lexical) own (Some term)
caret_left lexical own term k = record { datatype = k.datatype; token = (k.own, (heads 94 94 own (94 ∷ k.own) k.spelled).1, k.token); untagged = k.untagged; is = ap Some k.is }

tag_first : (lexical : List ℕ) (c : ℕ) (t : List ℕ) (term : Term) → Tagged lexical (c ∷ t) term → (c ≡ 64) × FieldLeft (Tag lexical tags.Sign) t (Some term)
tag_first lexical c t term k =
    let n = tag_exactly.tag_exact.forth tags.Start c t k.tag k.token in
    let e = (heads c 64 t k.tag k.token.0).0 in
    let is : n.0 ≡ tags.Sign = some_same (sym n.1 ∙ ap (tag.step tags.Start) e) in
    (e, (k.tag, subst (λ s. tag_exactly.Left s t k.tag) is n.2, ap Some k.is))

suffix_forth : (lexical : List ℕ) (c : ℕ) (t : List ℕ) (cell : Option Term) → AfterString lexical (c ∷ t) cell → Onward FieldLeft (after_string lexical c) t cell
suffix_forth lexical c t cell h = go h.suffix
  where
    go : Suffix lexical (c ∷ t) h.term → Onward FieldLeft (after_string lexical c) t cell
    go (inl k) = let e = k.0 in cc
    go (inr (inl k)) =
        let m = tag_first lexical c t h.term k in
        (Tag lexical tags.Sign, ap (after_string lexical) m.0, subst (λ w. FieldLeft (Tag lexical tags.Sign) t w) (sym h.is) m.1)
    go (inr (inr k)) =
        let e = (heads c 94 t (94 ∷ k.own) k.spelled).0 in
        (Caret lexical, ap (after_string lexical) e, subst (λ w. FieldLeft (Caret lexical) t w) (sym h.is) (caret_left lexical t h.term (subst (λ c. Typed lexical (c ∷ t) h.term) e k)))

suffix_back : (lexical : List ℕ) (n : FieldAt) (c : ℕ) (t : List ℕ) (cell : Option Term) → after_string lexical c ≡ Some n → FieldLeft n t cell → AfterString lexical (c ∷ t) cell
suffix_back lexical n c t cell e h =
    pick_of _ _ _ _ e
    (λ b k.
    let a : AfterCaret lexical t cell = subst (λ n. FieldLeft n t cell) k h in
    record { term = typed_of lexical a.datatype; suffix = inr (inr (record { own = a.token.0; datatype = a.datatype; token = a.token.2; untagged = a.untagged; spelled = λ i. eqb_same c 94 b i ∷ a.token.1 i; is = refl })); is = a.is })
    (λ k.
    let w = token_back tag_exactly.Left tag.step tag.final tag_exactly.tag_exact (tag_cell lexical) FieldLeft (Tag lexical) tags.Start n c t cell (λ n k. k) (tag_exactly.can tags.Start) k h in
    record { term = tagged_of lexical w.0; suffix = inr (inl (record { tag = w.0; token = w.1; is = refl })); is = w.2 })

-- no string goes on where what stands after it begins
string_apart : (at : StringAt) (c : ℕ) (t : List ℕ) (cell : Option Term) (v : List ℕ) → string.final at ≡ Some v → AfterString v (c ∷ t) cell → string.step Tsv at c ≡ None
string_apart strings.Start c t cell v e h = none_some e
string_apart (strings.Opened q) c t cell v e h = none_some e
string_apart (strings.Empty q) c t cell v e h = mark h.suffix
  where
    no_mark : (d : ℕ) → (d == mark_of q) ≡ false → c ≡ d → string.step Tsv (strings.Empty q) c ≡ None
    no_mark d f e = ap (string.step Tsv (strings.Empty q)) e ∙ ap (λ b. cond b (Some (strings.In (quotings.Long q) [])) None) f

    sign : (q : Quote) → (64 == mark_of q) ≡ false
    sign quotes.Double = refl
    sign quotes.Single = refl

    hat : (q : Quote) → (94 == mark_of q) ≡ false
    hat quotes.Double = refl
    hat quotes.Single = refl

    mark : Suffix v (c ∷ t) h.term → string.step Tsv (strings.Empty q) c ≡ None
    mark (inl k) = let e = k.0 in cc
    mark (inr (inl k)) = no_mark 64 (sign q) (heads c 64 t k.tag k.token.0).0
    mark (inr (inr k)) = no_mark 94 (hat q) (heads c 94 t (94 ∷ k.own) k.spelled).0
string_apart (strings.In k out) c t cell v e h = none_some e
string_apart (strings.Backslash k out) c t cell v e h = none_some e
string_apart (strings.Escape k at out) c t cell v e h = none_some e
string_apart (strings.OneQuote q out) c t cell v e h = none_some e
string_apart (strings.TwoQuotes q out) c t cell v e h = none_some e
string_apart (strings.Done out) c t cell v e h = refl

string_forth : (at : StringAt) (c : ℕ) (t : List ℕ) (cell : Option Term) → FieldLeft (String at) (c ∷ t) cell → Next (String at) c t cell
string_forth at c t cell h =
    open_forth (string_meant.Left Tsv) (string.step Tsv) string.final (string_exact Tsv) AfterString FieldLeft String after_string at c t cell (λ n k. k) (λ v k. suffix_forth v c t cell k) (λ v e k. string_apart at c t cell v e k) h

string_back : (at : StringAt) (n : FieldAt) (c : ℕ) (t : List ℕ) (cell : Option Term) → Viable (string_meant.Left Tsv at) [] → step (String at) c ≡ Some n → FieldLeft n t cell → FieldLeft (String at) (c ∷ t) cell
string_back at n c t cell a e h =
    open_back (string_meant.Left Tsv) (string.step Tsv) string.final (string_exact Tsv) AfterString FieldLeft String after_string at n c t cell (λ n k. k) (λ v f e k. suffix_back v n c t cell e k) a e h

-- the datatype of a string
caret_forth : (lexical : List ℕ) (c : ℕ) (t : List ℕ) (cell : Option Term) → AfterCaret lexical (c ∷ t) cell → Next (Caret lexical) c t cell
caret_forth lexical c t cell h =
    let k = heads c 94 t h.token.0 h.token.1 in
    (Datatype lexical iris.Start, when _ _ _ (same_eqb c 94 k.0), record { datatype = h.datatype; token = subst (λ t. IriToken Tsv t h.datatype) (sym k.1) h.token.2; untagged = h.untagged; is = h.is })

caret_back : (lexical : List ℕ) (n : FieldAt) (c : ℕ) (t : List ℕ) (cell : Option Term) → step (Caret lexical) c ≡ Some n → FieldLeft n t cell → AfterCaret lexical (c ∷ t) cell
caret_back lexical n c t cell e h =
    pick_of _ _ _ _ e
    (λ b k.
    let a : InDatatype lexical iris.Start t cell = subst (λ n. FieldLeft n t cell) k h in
    record { datatype = a.datatype; token = (t, (λ i. eqb_same c 94 b i ∷ t), a.token); untagged = a.untagged; is = a.is })
    (λ k. none_some k)

-- an IRI that is whole is at its end
whole_is : (at : IriAt) (text value v : List ℕ) → iri.final at ≡ Some v → iri_meant.Left Tsv at text value → value ≡ v
whole_is iris.Start text value v e h = none_some e
whole_is iris.Opened text value v e h = none_some e
whole_is (iris.Scheme out) text value v e h = none_some e
whole_is (iris.Body out) text value v e h = none_some e
whole_is (iris.Backslash out) text value v e h = none_some e
whole_is (iris.Escape x out) text value v e h = none_some e
whole_is (iris.Done out) text value v e h = h.1 ∙ some_same e

datatype_on : (lexical : List ℕ) (at : IriAt) (text value : List ℕ) → iri_meant.Left Tsv at text value → is_lang_string value ≡ false → datatype_at lexical at (iri.final at) ≡ Some (Datatype lexical at)
datatype_on lexical at text value h f = go (iri.final at) refl
  where
    go : (o : Option (List ℕ)) → iri.final at ≡ o → datatype_at lexical at o ≡ Some (Datatype lexical at)
    go None e = refl
    go (Some v) e = unless _ _ _ _ (ap is_lang_string (sym (whole_is at text value v e h)) ∙ f) refl

datatype_forth : (lexical : List ℕ) (at : IriAt) (c : ℕ) (t : List ℕ) (cell : Option Term) → InDatatype lexical at (c ∷ t) cell → Next (Datatype lexical at) c t cell
datatype_forth lexical at c t cell h =
    let n = (iri_exact Tsv).forth at c t h.datatype h.token in (
      Datatype lexical n.0,
      ap (option_and_then (λ n. datatype_at lexical n (iri.final n))) n.1 ∙ datatype_on lexical n.0 t h.datatype n.2 h.untagged,
      record { datatype = h.datatype; token = n.2; untagged = h.untagged; is = h.is },
    )

-- where a step within a datatype leads
datatype_leads : (lexical : List ℕ) (at : IriAt) (n : FieldAt) (c : ℕ) → in_datatype lexical at c ≡ Some n → (m : IriAt) × (iri.step Tsv at c ≡ Some m) × (n ≡ Datatype lexical m) × ((v : List ℕ) → iri.final m ≡ Some v → is_lang_string v ≡ false)
datatype_leads lexical at n c e =
    let m = bind_some (iri.step Tsv at c) (λ n. datatype_at lexical n (iri.final n)) n e in
    let k = go m.0 (iri.final m.0) refl m.2 in
    (m.0, m.1, k.0, k.1)
  where
    tested : (m : IriAt) (v : List ℕ) (b : Bool) → is_lang_string v ≡ b → cond b None (Some (Datatype lexical m)) ≡ Some n → (n ≡ Datatype lexical m) × (is_lang_string v ≡ false)
    tested m v true f e = none_some e
    tested m v false f e = (sym (some_same e), f)

    go : (m : IriAt) (o : Option (List ℕ)) → iri.final m ≡ o → datatype_at lexical m o ≡ Some n → (n ≡ Datatype lexical m) × ((v : List ℕ) → iri.final m ≡ Some v → is_lang_string v ≡ false)
    go m None f e = (sym (some_same e), λ v k. none_some (sym f ∙ k))
    go m (Some w) f e = let k = tested m w (is_lang_string w) refl e in (k.0, λ v q. ap is_lang_string (sym (some_same (sym f ∙ q))) ∙ k.1)

datatype_back : (lexical : List ℕ) (at : IriAt) (n : FieldAt) (c : ℕ) (t : List ℕ) (cell : Option Term) → Viable (iri_meant.Left Tsv at) [] → step (Datatype lexical at) c ≡ Some n → FieldLeft n t cell → InDatatype lexical at (c ∷ t) cell
datatype_back lexical at n c t cell a e h =
    let m = datatype_leads lexical at n c e in
    let w : InDatatype lexical m.0 t cell = subst (λ n. FieldLeft n t cell) m.2 h in
    record { datatype = w.datatype; token = (iri_exact Tsv).back at m.0 c t w.datatype a m.1 w.token; untagged = w.untagged; is = w.is }

-- numbers
number_forth : (at : NumberAt) (out : List ℕ) (c : ℕ) (t : List ℕ) (cell : Option Term) → InNumber at out (c ∷ t) cell → Onward FieldLeft (in_number at out c) t cell
number_forth at out c t cell h =
    let n = number_exact.forth at c t h.kind h.token in
    (Number n.0 (out ++ c ∷ []), ap (option_map (λ n. Number n (out ++ c ∷ []))) n.1, record { kind = h.kind; token = n.2; is = h.is ∙ ap (λ text. Some (number_of h.kind text)) (snoc out t c) })

number_back : (at : NumberAt) (out : List ℕ) (n : FieldAt) (c : ℕ) (t : List ℕ) (cell : Option Term) → in_number at out c ≡ Some n → FieldLeft n t cell → InNumber at out (c ∷ t) cell
number_back at out n c t cell e h =
    let k = mapped (λ n. Number n (out ++ c ∷ [])) (number.step at c) n e in
    let w : InNumber k.0 (out ++ c ∷ []) t cell = subst (λ n. FieldLeft n t cell) (sym k.2) h in
    record { kind = w.kind; token = number_exact.back at k.0 c t w.kind (number_exactly.can at) k.1 w.token; is = w.is ∙ ap (λ text. Some (number_of w.kind text)) (sym (snoc out t c)) }

-- a word
word_on : (v : Bool) (c : ℕ) (t : List ℕ) → c ∷ t ≡ word_of v → Next Empty c t (Some (boolean_of v))
word_on true c t e = let k = heads c 116 t (codes "rue") e in (Word words.T, ap begin k.0, (true, (k.1, refl), refl))
word_on false c t e = let k = heads c 102 t (codes "alse") e in (Word words.F, ap begin k.0, (false, (k.1, refl), refl))

-- the first character of a field
number_on : (c : ℕ) → begins_number c ≡ true → begin c ≡ in_number numbers.Start [] c
number_on c h =
    let no : (d : ℕ) → begins_number d ≡ false → (c == d) ≡ false = λ d f. never begins_number d c f h in
    unless _ _ _ _ (no 60 refl) (unless _ _ _ _ (no 95 refl) (unless _ _ _ _ (neither _ _ (no 34 refl) (no 39 refl)) (unless _ _ _ _ (no 116 refl) (unless _ _ _ _ (no 102 refl) refl))))

string_begins : (quoting : Quoting) (tail own : List ℕ) → has_quoting Tsv quoting ≡ true → own ≡ around quoting ++ tail → (d : ℕ) × (more : List ℕ) × (own ≡ d ∷ more) × ((d == 34 || d == 39) ≡ true) × (begin d ≡ step (String strings.Start) d)
string_begins (quotings.Short quotes.Double) tail own h e = (34, tail, e, refl, refl)
string_begins (quotings.Short quotes.Single) tail own h e = (39, tail, e, refl, refl)
string_begins (quotings.Long q) tail own h e = cc

begin_forth : (c : ℕ) (t : List ℕ) (cell : Option Term) → Field (c ∷ t) cell → Next Empty c t cell
begin_forth c t cell (inl k) = let e = k.0 in cc
begin_forth c t cell (inr k) = subst (λ w. Next Empty c t w) (sym k.is) (go k.term k.spells)
  where
    go : (term : Term) → TermText (c ∷ t) term → Next Empty c t (Some term)
    go term (inl h) =
        let e = heads c 60 t h.token.rest h.token.spelled in
        (Iri iris.Opened, ap begin e.0, (h.value, subst (λ t. IriLetter Tsv t h.value) (sym e.1) h.token.after, ap Some h.is))
    go term (inr (inl h)) =
        let e = (heads c 95 t (58 ∷ h.value) h.token.0).0 in
        let n = label_exactly.label_exact.forth labels.Start c t h.value h.token in
        let is : n.0 ≡ labels.Underscore = some_same (sym n.1 ∙ ap (label.step labels.Start) e) in
        (Label labels.Underscore, ap begin e, (h.value, subst (λ s. label_exactly.Left s t h.value) is n.2, ap Some h.is))
    go term (inr (inr (inl h))) =
        let b = string_begins h.token.quoting h.token.tail h.own h.token.has h.token.spelled in
        let e = (heads c b.0 t (b.1 ++ h.rest) (h.spelled ∙ ap (λ own. own ++ h.rest) b.2)).0 in
        let n = string_forth strings.Start c t (Some term) (record { own = h.own; value = h.lexical; rest = h.rest; is = h.token; after = record { term = term; suffix = h.suffix; is = λ i. Some term }; spelled = h.spelled }) in
        (n.0, ap begin e ∙ b.4 ∙ ap (step (String strings.Start)) (sym e) ∙ n.1, n.2)
    go term (inr (inr (inr (inl h)))) =
        let n = number_forth numbers.Start [] c t (Some term) (record { kind = h.kind; token = h.token; is = ap Some h.is }) in
        (n.0, number_on c (first_number h.kind c t h.token) ∙ n.1, n.2)
    go term (inr (inr (inr (inr h)))) = subst (λ w. Next Empty c t w) (ap Some (sym h.is)) (word_on h.value c t h.token)

filled : (text : List ℕ) (cell : Option Term) (term : Term) → TermText text term → cell ≡ Some term → Field text cell
filled text cell term h e = inr (record { term = term; spells = h; is = e })

-- where the first character leads
abbrev FirstIs : ℕ → FieldAt → Type 0
FirstIs c n =
    ((c ≡ 60) × (n ≡ Iri iris.Opened)) ⊎ (((c ≡ 95) × (n ≡ Label labels.Underscore)) ⊎ ((step (String strings.Start) c ≡ Some n) ⊎ (((c ≡ 116) × (n ≡ Word words.T)) ⊎ (((c ≡ 102) × (n ≡ Word words.F)) ⊎ (in_number numbers.Start [] c ≡ Some n)))))

first_is : (c : ℕ) (n : FieldAt) → begin c ≡ Some n → FirstIs c n
first_is c n e =
    pick_of {P = FirstIs c n} (c == 60) (Iri iris.Opened) n _ e (λ b k. inl (eqb_same c 60 b, k))
    (λ e. pick_of {P = FirstIs c n} (c == 95) (Label labels.Underscore) n _ e (λ b k. inr (inl (eqb_same c 95 b, k)))
    (λ e. ⊎_elim (λ k. inr (inr (inl k.1)))
    (λ e. pick_of {P = FirstIs c n} (c == 116) (Word words.T) n _ e.1 (λ b k. inr (inr (inr (inl (eqb_same c 116 b, k)))))
    (λ e. pick_of {P = FirstIs c n} (c == 102) (Word words.F) n _ e (λ b k. inr (inr (inr (inr (inl (eqb_same c 102 b, k))))))
    (λ e. inr (inr (inr (inr (inr e)))))))
    (chosen _ _ _ _ e)))

begin_back : (n : FieldAt) (c : ℕ) (t : List ℕ) (cell : Option Term) → begin c ≡ Some n → FieldLeft n t cell → Field (c ∷ t) cell
begin_back n c t cell e h = go (first_is c n e)
  where
    at : (m : FieldAt) → n ≡ m → FieldLeft m t cell
    at m k = subst (λ n. FieldLeft n t cell) k h

    go : FirstIs c n → Field (c ∷ t) cell
    go (inl k) = let a : Stands (iri_meant.Left Tsv) iri_cell iris.Opened t cell = at (Iri iris.Opened) k.1 in filled (c ∷ t) cell (terms.Iri a.0) (inl (record { value = a.0; token = record { rest = t; after = a.1; spelled = ap (λ c. c ∷ t) k.0 }; is = refl })) a.2
    go (inr (inl k)) =
        let a : Stands label_exactly.Left label_cell labels.Underscore t cell = at (Label labels.Underscore) k.1 in
        let token = label_exactly.label_exact.back labels.Start labels.Underscore c t a.0 (label_exactly.can labels.Start) (ap (label.step labels.Start) k.0) a.1 in
        filled (c ∷ t) cell (terms.Blank a.0) (inr (inl (record { value = a.0; token = token; is = refl }))) a.2
    go (inr (inr (inl k))) =
        let w = string_back strings.Start n c t cell (string_exactly.can_start Tsv) k h in
        filled (c ∷ t) cell w.after.term (inr (inr (inl (record { own = w.own; lexical = w.value; rest = w.rest; token = w.is; suffix = w.after.suffix; spelled = w.spelled })))) w.after.is
    go (inr (inr (inr (inl k)))) =
        let a : Stands WordLeft word_cell words.T t cell = at (Word words.T) k.1 in
        filled (c ∷ t) cell (boolean_of true) (inr (inr (inr (inr (record { value = true; token = λ i. k.0 i ∷ a.1.0 i; is = refl }))))) (a.2 ∙ ap (λ v. Some (boolean_of v)) a.1.1)
    go (inr (inr (inr (inr (inl k))))) =
        let a : Stands WordLeft word_cell words.F t cell = at (Word words.F) k.1 in
        filled (c ∷ t) cell (boolean_of false) (inr (inr (inr (inr (record { value = false; token = λ i. k.0 i ∷ a.1.0 i; is = refl }))))) (a.2 ∙ ap (λ v. Some (boolean_of v)) a.1.1)
    go (inr (inr (inr (inr (inr k))))) =
        let w = number_back numbers.Start [] n c t cell k h in
        filled (c ∷ t) cell (number_of w.kind (c ∷ t)) (inr (inr (inr (inl (record { kind = w.kind; token = w.token; is = refl }))))) w.is

-- each state
forth : (s : FieldAt) (c : ℕ) (t : List ℕ) (cell : Option Term) → GoodField s → FieldLeft s (c ∷ t) cell → Next s c t cell
forth Empty c t cell g h = begin_forth c t cell h
forth (Iri at) c t cell g h = token_forth (iri_meant.Left Tsv) (iri.step Tsv) iri.final (iri_exact Tsv) iri_cell FieldLeft Iri at c t cell (λ n k. k) h
forth (Label at) c t cell g h = token_forth label_exactly.Left label.step label.final label_exactly.label_exact label_cell FieldLeft Label at c t cell (λ n k. k) h
forth (String at) c t cell g h = string_forth at c t cell h
forth (Tag lexical at) c t cell g h = token_forth tag_exactly.Left tag.step tag.final tag_exactly.tag_exact (tag_cell lexical) FieldLeft (Tag lexical) at c t cell (λ n k. k) h
forth (Caret lexical) c t cell g h = caret_forth lexical c t cell h
forth (Datatype lexical at) c t cell g h = datatype_forth lexical at c t cell h
forth (Number at out) c t cell g h = number_forth at out c t cell h
forth (Word at) c t cell g h = token_forth WordLeft word_step word_value word_exact word_cell FieldLeft Word at c t cell (λ n k. k) h

back : (s n : FieldAt) (c : ℕ) (t : List ℕ) (cell : Option Term) → GoodField s → step s c ≡ Some n → FieldLeft n t cell → FieldLeft s (c ∷ t) cell
back Empty n c t cell g e h = begin_back n c t cell e h
back (Iri at) n c t cell g e h = token_back (iri_meant.Left Tsv) (iri.step Tsv) iri.final (iri_exact Tsv) iri_cell FieldLeft Iri at n c t cell (λ n k. k) g e h
back (Label at) n c t cell g e h = token_back label_exactly.Left label.step label.final label_exactly.label_exact label_cell FieldLeft Label at n c t cell (λ n k. k) (label_exactly.can at) e h
back (String at) n c t cell g e h = string_back at n c t cell g.viable e h
back (Tag lexical at) n c t cell g e h = token_back tag_exactly.Left tag.step tag.final tag_exactly.tag_exact (tag_cell lexical) FieldLeft (Tag lexical) at n c t cell (λ n k. k) (tag_exactly.can at) e h
back (Caret lexical) n c t cell g e h = caret_back lexical n c t cell e h
back (Datatype lexical at) n c t cell g e h = datatype_back lexical at n c t cell g.viable e h
back (Number at out) n c t cell g e h = number_back at out n c t cell e h
back (Word at) n c t cell g e h = token_back WordLeft word_step word_value word_exact word_cell FieldLeft Word at n c t cell (λ n k. k) (word_exactly.can at) e h

-- the next state is reached too
after_string_leads : (lexical : List ℕ) (n : FieldAt) (c : ℕ) → after_string lexical c ≡ Some n → GoodField n
after_string_leads lexical n c e = pick_of {P = GoodField n} (c == 94) (Caret lexical) n _ e (λ b k. subst GoodField (sym k) tt) (λ k. let m = mapped (Tag lexical) (tag.step tags.Start c) n k in subst GoodField m.2 tt)

string_leads : (at : StringAt) (n : FieldAt) (c : ℕ) → GoodString at → step (String at) c ≡ Some n → GoodField n
string_leads at n c g e =
    ⊎_elim
    (λ (k : (m : StringAt) × (string.step Tsv at c ≡ Some m) × (n ≡ String m)). subst GoodField (sym k.2) (record { viable = (string_exact Tsv).alive at k.0 c g.viable k.1; short = next_short at k.0 c g.short k.1 }))
    (λ (k : (string.step Tsv at c ≡ None) × ((v : List ℕ) × (string.final at ≡ Some v) × (after_string v c ≡ Some n))). after_string_leads k.1.0 n c k.1.2)
    (open_gives (string_meant.Left Tsv) (string.step Tsv) string.final (string_exact Tsv) (λ (v t : List ℕ) (w : Unit {0}). Unit {0}) (λ (n : FieldAt) (t : List ℕ) (w : Unit {0}). Unit {0}) String after_string at c n e)

number_leads : (at : NumberAt) (out : List ℕ) (n : FieldAt) (c : ℕ) → in_number at out c ≡ Some n → GoodField n
number_leads at out n c e = let k = mapped (λ n. Number n (out ++ c ∷ [])) (number.step at c) n e in subst GoodField k.2 tt

begin_leads : (n : FieldAt) (c : ℕ) → begin c ≡ Some n → GoodField n
begin_leads n c e = go (first_is c n e)
  where
    go : FirstIs c n → GoodField n
    go (inl k) = subst GoodField (sym k.1) ((iri_exact Tsv).alive iris.Start iris.Opened 60 (iri_exactly.can_start Tsv) refl)
    go (inr (inl k)) = subst GoodField (sym k.1) tt
    go (inr (inr (inl k))) = string_leads strings.Start n c (record { viable = string_exactly.can_start Tsv; short = refl }) k
    go (inr (inr (inr (inl k)))) = subst GoodField (sym k.1) tt
    go (inr (inr (inr (inr (inl k))))) = subst GoodField (sym k.1) tt
    go (inr (inr (inr (inr (inr k))))) = number_leads numbers.Start [] n c k

stays : (s n : FieldAt) (c : ℕ) → GoodField s → step s c ≡ Some n → GoodField n
stays Empty n c g e = begin_leads n c e
stays (Iri at) n c g e = token_leads (iri_meant.Left Tsv) (iri.step Tsv) iri.final (iri_exact Tsv) iri_cell GoodField Iri at n c (λ m a. a) g e
stays (Label at) n c g e = let k = mapped Label (label.step at c) n e in subst GoodField k.2 tt
stays (String at) n c g e = string_leads at n c g e
stays (Tag lexical at) n c g e = let k = mapped (Tag lexical) (tag.step at c) n e in subst GoodField k.2 tt
stays (Caret lexical) n c g e =
    pick_of {P = GoodField n} (c == 94) (Datatype lexical iris.Start) n None e (λ b k. subst GoodField (sym k) (record { viable = iri_exactly.can_start Tsv; untagged = λ v f. none_some f })) (λ k. none_some k)
stays (Datatype lexical at) n c g e = let k = datatype_leads lexical at n c e in subst GoodField (sym k.2) (record { viable = (iri_exact Tsv).alive at k.0 c g.viable k.1; untagged = k.3 })
stays (Number at out) n c g e = number_leads at out n c e
stays (Word at) n c g e = let k = mapped Word (word_step at c) n e in subst GoodField k.2 tt

-- each can go on
pub can : (s : FieldAt) → GoodField s → Viable (FieldLeft s) []
can Empty g = record { more = []; scalars = refl; value = None; whole = inl (refl, refl) }
can (Iri at) g = token_can (iri_meant.Left Tsv) (iri.step Tsv) iri.final (iri_exact Tsv) iri_cell at g
can (Label at) g = token_can label_exactly.Left label.step label.final label_exactly.label_exact label_cell at (label_exactly.can at)
can (String at) g =
    let w = g.viable in
    record { more = w.more; scalars = w.scalars; value = Some (string_of w.value); whole = record { own = w.more; value = w.value; rest = []; is = w.whole; after = record { term = string_of w.value; suffix = inl (refl, refl); is = refl }; spelled = sym (append-nil w.more) } }
can (Tag lexical at) g = token_can tag_exactly.Left tag.step tag.final tag_exactly.tag_exact (tag_cell lexical) at (tag_exactly.can at)
can (Caret lexical) g =
    let w = untagged iris.Start (iri_exactly.can_start Tsv) (λ v f. none_some f) in
    record { more = 94 ∷ w.0; scalars = scalars_join (94 ∷ []) w.0 refl w.2; value = Some (typed_of lexical w.1); whole = record { datatype = w.1; token = (w.0, refl, w.3); untagged = w.4; is = refl } }
can (Datatype lexical at) g =
    let w = untagged at g.viable g.untagged in
    record { more = w.0; scalars = w.2; value = Some (typed_of lexical w.1); whole = record { datatype = w.1; token = w.3; untagged = w.4; is = refl } }
can (Number at out) g =
    let w = number_exactly.can at in
    record { more = w.more; scalars = w.scalars; value = Some (number_of w.value (out ++ w.more)); whole = record { kind = w.value; token = w.whole; is = refl } }
can (Word at) g = token_can WordLeft word_step word_value word_exact word_cell at (word_exactly.can at)

pub field_machine : Machine FieldLeft step GoodField
field_machine = record { forth = forth; back = back; stays = stays; can = can }
