-- What a reader keeps of the line that is not ended is no more than the line's bytes.
use Rattle.std.proofs.Common.{◌≡◌, refl, ℕ, ◌+◌, ◌<◌, ◌≤◌, ◌^◌, Bool, true, false, cond, ◌==◌, ◌||◌, List, [], ◌∷◌, ◌++◌, length, Option, Some, None, option_map, ◌⊎◌, inl, inr, ⊎_elim, sym, ◌∙◌, ap, subst, append_assoc, append-nil, arith, length-append}
use Rattle.std.proofs.lemmas.List.Sums.{sum_by-append}
use Rattle.std.proofs.lemmas.Str.{encodes-append}
use Rattle.std.specs.Char.{encode_utf8}
use Rattle.std.specs.Str.{encode_utf8_all}
use Rattle.bye_terms.specs.Literals.{is_lang_string, xsd_string}
use Rattle.bye_terms.specs.declared.term.Term.{Term}
use Rattle.bye_terms.specs.declared.term.Term.TheVariants as terms
use Rattle.bye_lex.specs.Embedding.{enter}
use Rattle.bye_lex.specs.IriSteps as iri
use Rattle.bye_lex.specs.Kept.{width, size, iri_kept, label_kept, name_kept, string_kept, tag_kept}
use Rattle.bye_lex.specs.LabelSteps as label
use Rattle.bye_lex.specs.NameSteps as name
use Rattle.bye_lex.specs.NumberSteps as number
use Rattle.bye_lex.specs.Running.{run}
use Rattle.bye_lex.specs.StringSteps as string
use Rattle.bye_lex.specs.TagSteps as tag
use Rattle.bye_lex.specs.declared.iri.IriAt.{IriAt}
use Rattle.bye_lex.specs.declared.iri.IriAt.TheVariants as iris
use Rattle.bye_lex.specs.declared.label.LabelAt.{LabelAt}
use Rattle.bye_lex.specs.declared.label.LabelAt.TheVariants as labels
use Rattle.bye_lex.specs.declared.name.NameAt.{NameAt}
use Rattle.bye_lex.specs.declared.name.NameAt.TheVariants as names
use Rattle.bye_lex.specs.declared.number.Number.{Number as NumberKind}
use Rattle.bye_lex.specs.declared.number.Number.TheVariants as kinds
use Rattle.bye_lex.specs.declared.number.NumberAt.{NumberAt}
use Rattle.bye_lex.specs.declared.number.NumberAt.TheVariants as number_at
use Rattle.bye_lex.specs.declared.string.StringAt.{StringAt}
use Rattle.bye_lex.specs.declared.string.StringAt.TheVariants as strings
use Rattle.bye_lex.specs.declared.style.Style.TheVariants.{Tsv}
use Rattle.bye_lex.specs.declared.tag.TagAt.{TagAt}
use Rattle.bye_lex.specs.declared.tag.TagAt.TheVariants as tags
use Rattle.bye_lex.proofs.Branches.{chosen, eqb_same, mapped, none_some, one_way, pick_of, some_same}
use Rattle.bye_lex.proofs.Kept.{iri_within, label_within, name_within, size_more, string_within, tag_within, width_some}
use Rattle.bye_lex.proofs.Machines.{bind_some}
use Rattle.bye_table.specs.Mappings.{Name, Pairs}
use Rattle.bye_tsv.specs.DocSteps.{DocAt, start, placed, first_place, mark_place, return_place, after_name, named, name_moves, line_ended, returned, row_ends, next_field, cell_ends, is_border, in_field, begin, place_step, step, IsSound}
use Rattle.bye_tsv.specs.Documents.{bound}
use Rattle.bye_tsv.specs.Feeding.{HasCome, IsLed}
use Rattle.bye_tsv.specs.Fields.{boolean_of, string_of, tagged_of, typed_of, word_of, xsd_boolean}
use Rattle.bye_tsv.specs.FieldSteps as field
use Rattle.bye_tsv.specs.Kept.{is_added, term_kept, row_kept, names_kept, word_kept, field_kept, place_kept, doc_kept, reading_kept, unfinished}
use Rattle.bye_tsv.specs.Numbers.{datatype_of, number_of}
use Rattle.bye_tsv.specs.Reading.{ReadingAt, taken}
use Rattle.bye_tsv.specs.declared.fault.Bounds.{Bounds}
use Rattle.bye_tsv.specs.declared.field.FieldAt.{FieldAt}
use Rattle.bye_tsv.specs.declared.field.FieldAt.TheVariants.{Empty, Iri, Label, String, Tag, Caret, Datatype, Number, Word}
use Rattle.bye_tsv.specs.declared.place.Place.{Place}
use Rattle.bye_tsv.specs.declared.place.Place.TheVariants.{Start, Mark, Name as InName, HeaderReturn, Begin, Field, Return}
use Rattle.bye_tsv.specs.declared.word.WordAt.{WordAt}
use Rattle.bye_tsv.specs.declared.word.WordAt.TheVariants as words
use Rattle.bye_tsv.proofs.DocBack.{name_ended, row_ended}
use Rattle.bye_tsv.proofs.DocExact.{doc_machine, good_same, good_start}
use Rattle.bye_tsv.proofs.DocMeaning.{GoodAt, GoodDoc}
use Rattle.bye_tsv.proofs.Feeds.{begins}
use Rattle.bye_tsv.proofs.Sound.{sound_start}
use Rattle.bye_tsv.proofs.Tracking.{no_lf, not_after}
use Rattle.bye_tsv.proofs.Unfinished.{char_lf, left_lf, unfinished_more, unfinished_within}

-- one character more of a field
word_within : (at after : WordAt) (c : ℕ) → field.word_step at c ≡ Some after → word_kept after ≤ word_kept at + width c
word_within words.T n c e = let w = width_some c in one_way (λ n. word_kept n ≤ 1 + width c) (c == 114) words.Tr n (omega (arith, w)) e
word_within words.Tr n c e = let w = width_some c in one_way (λ n. word_kept n ≤ 2 + width c) (c == 117) words.Tru n (omega (arith, w)) e
word_within words.Tru n c e = let w = width_some c in one_way (λ n. word_kept n ≤ 3 + width c) (c == 101) words.True n (omega (arith, w)) e
word_within words.True n c e = none_some e
word_within words.F n c e = let w = width_some c in one_way (λ n. word_kept n ≤ 1 + width c) (c == 97) words.Fa n (omega (arith, w)) e
word_within words.Fa n c e = let w = width_some c in one_way (λ n. word_kept n ≤ 2 + width c) (c == 108) words.Fal n (omega (arith, w)) e
word_within words.Fal n c e = let w = width_some c in one_way (λ n. word_kept n ≤ 3 + width c) (c == 115) words.Fals n (omega (arith, w)) e
word_within words.Fals n c e = let w = width_some c in one_way (λ n. word_kept n ≤ 4 + width c) (c == 101) words.False n (omega (arith, w)) e
word_within words.False n c e = none_some e

-- a field of which a part goes on
part_within : {S : Type 0} (make : S → FieldAt) (most : ℕ) (o : Option S) (n : FieldAt) → ((s : S) → o ≡ Some s → field_kept (make s) ≤ most) → option_map make o ≡ Some n → field_kept n ≤ most
part_within make most o n h e = let m = mapped make o n e in subst (λ n. field_kept n ≤ most) m.2 (h m.0 m.1)

string_whole : (at : StringAt) (v : List ℕ) → string.final at ≡ Some v → size v ≤ string_kept at
string_whole strings.Start v e = none_some e
string_whole (strings.Opened q) v e = none_some e
string_whole (strings.Empty q) v e = subst (λ v. size v ≤ 0) (some_same e) (omega arith)
string_whole (strings.In k t) v e = none_some e
string_whole (strings.Backslash k t) v e = none_some e
string_whole (strings.Escape k x t) v e = none_some e
string_whole (strings.OneQuote q t) v e = none_some e
string_whole (strings.TwoQuotes q t) v e = none_some e
string_whole (strings.Done t) v e = subst (λ v. size v ≤ size t) (some_same e) (omega arith)

after_string_within : (lexical : List ℕ) (base c : ℕ) (n : FieldAt) → size lexical ≤ base → field.after_string lexical c ≡ Some n → field_kept n ≤ base + width c
after_string_within lexical base c n h e =
    pick_of {P = field_kept n ≤ base + width c} (c == 94) (Caret lexical) n _ e (λ b k. subst (λ n. field_kept n ≤ base + width c) (sym k) (omega (arith, h)))
    (λ k. part_within (Tag lexical) (base + width c) (tag.step tags.Start c) n (λ s i. let t = tag_within tags.Start s c i in omega (arith, h, t)) k)

in_string_within : (at : StringAt) (n : FieldAt) (c : ℕ) → field.in_string at c ≡ Some n → field_kept n ≤ string_kept at + width c
in_string_within at n c e = go (string.final at) (string.step Tsv at c) refl refl e
  where
    go : (v : Option (List ℕ)) (o : Option StringAt) → string.final at ≡ v → string.step Tsv at c ≡ o → enter String field.after_string v c o ≡ Some n → field_kept n ≤ string_kept at + width c
    go None None i k e = none_some e
    go (Some v) None i k e = after_string_within v (string_kept at) c n (string_whole at v i) e
    go None (Some m) i k e = subst (λ n. field_kept n ≤ string_kept at + width c) (some_same e) (string_within Tsv at m c k)
    go (Some v) (Some m) i k e = subst (λ n. field_kept n ≤ string_kept at + width c) (some_same e) (string_within Tsv at m c k)

in_datatype_within : (lexical : List ℕ) (at : IriAt) (n : FieldAt) (c : ℕ) → field.in_datatype lexical at c ≡ Some n → field_kept n ≤ (size lexical + iri_kept at) + width c
in_datatype_within lexical at n c e =
    let m = bind_some (iri.step Tsv at c) (λ n. field.datatype_at lexical n (iri.final n)) n e in
    let w = iri_within Tsv at m.0 c m.1 in
    subst (λ n. field_kept n ≤ (size lexical + iri_kept at) + width c) (same m.0 (iri.final m.0) m.2) (omega (arith, w))
  where
    same : (q : IriAt) (o : Option (List ℕ)) → field.datatype_at lexical q o ≡ Some n → Datatype lexical q ≡ n
    same q None e = some_same e
    same q (Some d) e = by (is_lang_string d) e
      where
        by : (b : Bool) → cond b None (Some (Datatype lexical q)) ≡ Some n → Datatype lexical q ≡ n
        by true e = none_some e
        by false e = some_same e

in_number_within : (at : NumberAt) (text : List ℕ) (n : FieldAt) (c : ℕ) → field.in_number at text c ≡ Some n → field_kept n ≤ size text + width c
in_number_within at text n c e = part_within (λ n. Number n (text ++ c ∷ [])) (size text + width c) (number.step at c) n (λ s i. let m = size_more text c in omega (arith, m)) e

begin_within : (n : FieldAt) (c : ℕ) → field.begin c ≡ Some n → field_kept n ≤ 0 + width c
begin_within n c e =
    let w = width_some c in
    let R : FieldAt → Type 0 = λ n. field_kept n ≤ 0 + width c in
    pick_of {P = R n} (c == 60) (Iri iris.Opened) n _ e (λ b k. subst R (sym k) (omega arith))
    (λ e. pick_of {P = R n} (c == 95) (Label labels.Underscore) n _ e (λ b k. subst R (sym k) (omega arith))
    (λ e. ⊎_elim
    (λ (k : ((c == 34 || c == 39) ≡ true) × (field.in_string strings.Start c ≡ Some n)). in_string_within strings.Start n c k.1)
    (λ (k : ((c == 34 || c == 39) ≡ false) × (cond (c == 116) (Some (Word words.T)) (cond (c == 102) (Some (Word words.F)) (field.in_number number_at.Start [] c)) ≡ Some n)).
    pick_of {P = R n} (c == 116) (Word words.T) n _ k.1 (λ b k. subst R (sym k) (omega (arith, w)))
    (λ e. pick_of {P = R n} (c == 102) (Word words.F) n _ e (λ b k. subst R (sym k) (omega (arith, w))) (λ e. in_number_within number_at.Start [] n c e)))
    (chosen _ _ _ _ e)))

field_within : (at after : FieldAt) (c : ℕ) → field.step at c ≡ Some after → field_kept after ≤ field_kept at + width c
field_within Empty n c e = begin_within n c e
field_within (Iri at) n c e = part_within Iri (iri_kept at + width c) (iri.step Tsv at c) n (λ s i. iri_within Tsv at s c i) e
field_within (Label at) n c e = part_within Label (label_kept at + width c) (label.step at c) n (λ s i. label_within at s c i) e
field_within (String at) n c e = in_string_within at n c e
field_within (Tag lexical at) n c e = part_within (Tag lexical) ((size lexical + tag_kept at) + width c) (tag.step at c) n (λ s i. let t = tag_within at s c i in omega (arith, t)) e
field_within (Caret lexical) n c e = one_way (λ n. field_kept n ≤ size lexical + width c) (c == 94) (Datatype lexical iris.Start) n (omega arith) e
field_within (Datatype lexical at) n c e = in_datatype_within lexical at n c e
field_within (Number at text) n c e = in_number_within at text n c e
field_within (Word at) n c e = part_within Word (word_kept at + width c) (field.word_step at c) n (λ s i. word_within at s c i) e

-- the cell of a field that is whole
abbrev cell_kept : Option Term → ℕ
cell_kept None = 0
cell_kept (Some t) = term_kept t

iri_whole : (at : IriAt) (v : List ℕ) → iri.final at ≡ Some v → size v ≤ iri_kept at
iri_whole iris.Start v e = none_some e
iri_whole iris.Opened v e = none_some e
iri_whole (iris.Scheme t) v e = none_some e
iri_whole (iris.Body t) v e = none_some e
iri_whole (iris.Backslash t) v e = none_some e
iri_whole (iris.Escape x t) v e = none_some e
iri_whole (iris.Done t) v e = subst (λ v. size v ≤ size t) (some_same e) (omega arith)

label_whole : (at : LabelAt) (v : List ℕ) → label.final at ≡ Some v → size v ≤ label_kept at
label_whole labels.Start v e = none_some e
label_whole labels.Underscore v e = none_some e
label_whole labels.Colon v e = none_some e
label_whole (labels.In t) v e = subst (λ v. size v ≤ size t) (some_same e) (omega arith)
label_whole (labels.Dotted t dots) v e = none_some e

tag_whole : (at : TagAt) (v : List ℕ) → tag.final at ≡ Some v → size v ≤ tag_kept at
tag_whole tags.Start v e = none_some e
tag_whole tags.Sign v e = none_some e
tag_whole (tags.Letters t) v e = subst (λ v. size v ≤ size t) (some_same e) (omega arith)
tag_whole (tags.Hyphen t) v e = none_some e
tag_whole (tags.Subtag t) v e = subst (λ v. size v ≤ size t) (some_same e) (omega arith)

name_whole : (at : NameAt) (v : Name) → name.final at ≡ Some v → size v ≤ name_kept at
name_whole names.Start v e = none_some e
name_whole (names.In t) v e = subst (λ v. size v ≤ size t) (some_same e) (omega arith)

-- a literal with a datatype counts no more than both
typed_within : (lexical datatype : List ℕ) → term_kept (typed_of lexical datatype) ≤ size lexical + size datatype
typed_within lexical datatype = go (is_added datatype)
  where
    go : (b : Bool) → size lexical + cond b 0 (size datatype) ≤ size lexical + size datatype
    go true = omega arith
    go false = omega arith

-- and with one of those that the reader adds, no more than its lexical form
added_within : (lexical datatype : List ℕ) → is_added datatype ≡ true → term_kept (typed_of lexical datatype) ≤ size lexical
added_within lexical datatype e = let k = ap (λ b. size lexical + cond b 0 (size datatype)) e in omega (arith, k)

number_added : (kind : NumberKind) → is_added (datatype_of kind) ≡ true
number_added kinds.Integer = refl
number_added kinds.Decimal = refl
number_added kinds.Double = refl

word_whole : (at : WordAt) (value : Bool) → field.word_value at ≡ Some value → size (word_of value) ≤ word_kept at
unfolding encode_utf8
word_whole words.T v e = none_some e
word_whole words.Tr v e = none_some e
word_whole words.Tru v e = none_some e
word_whole words.True v e = subst (λ v. size (word_of v) ≤ 4) (some_same e) (omega arith)
word_whole words.F v e = none_some e
word_whole words.Fa v e = none_some e
word_whole words.Fal v e = none_some e
word_whole words.Fals v e = none_some e
word_whole words.False v e = subst (λ v. size (word_of v) ≤ 5) (some_same e) (omega arith)

cell_within : (at : FieldAt) (cell : Option Term) → field.final at ≡ Some cell → cell_kept cell ≤ field_kept at
cell_within Empty cell e = subst (λ c. cell_kept c ≤ 0) (some_same e) (omega arith)
cell_within (Iri at) cell e = let m = mapped (λ v. Some (terms.Iri v)) (iri.final at) cell e in subst (λ c. cell_kept c ≤ iri_kept at) m.2 (iri_whole at m.0 m.1)
cell_within (Label at) cell e = let m = mapped (λ v. Some (terms.Blank v)) (label.final at) cell e in subst (λ c. cell_kept c ≤ label_kept at) m.2 (label_whole at m.0 m.1)
cell_within (String at) cell e =
    let m = mapped (λ v. Some (string_of v)) (string.final at) cell e in
    let w = string_whole at m.0 m.1 in
    let a = added_within m.0 xsd_string refl in
    subst (λ c. cell_kept c ≤ string_kept at) m.2 (omega (arith, w, a))
cell_within (Tag lexical at) cell e =
    let m = mapped (λ v. Some (tagged_of lexical v)) (tag.final at) cell e in
    let w = tag_whole at m.0 m.1 in
    subst (λ c. cell_kept c ≤ size lexical + tag_kept at) m.2 (omega (arith, w))
cell_within (Caret lexical) cell e = none_some e
cell_within (Datatype lexical at) cell e =
    let m = bind_some (iri.final at) (field.typed lexical) cell e in
    let w = iri_whole at m.0 m.1 in
    let t = typed_within lexical m.0 in
    subst (λ c. cell_kept c ≤ size lexical + iri_kept at) (by (is_lang_string m.0) (typed_of lexical m.0) m.2) (omega (arith, w, t))
  where
    by : (b : Bool) (t : Term) → cond b None (Some (Some t)) ≡ Some cell → Some t ≡ cell
    by true t e = none_some e
    by false t e = some_same e
cell_within (Number at text) cell e =
    let m = mapped (λ kind. Some (number_of kind text)) (number.form at) cell e in
    subst (λ c. cell_kept c ≤ size text) m.2 (added_within text (datatype_of m.0) (number_added m.0))
cell_within (Word at) cell e =
    let m = mapped (λ value. Some (boolean_of value)) (field.word_value at) cell e in
    let w = word_whole at m.0 m.1 in
    let a = added_within (word_of m.0) xsd_boolean refl in
    subst (λ c. cell_kept c ≤ word_kept at) m.2 (omega (arith, w, a))

row_bound : (row : Pairs) (v : Name) (cell : Option Term) → row_kept (row ++ bound v cell) ≡ row_kept row + cell_kept cell
row_bound row v None = let e = ap row_kept (append-nil row) in omega (arith, e)
row_bound row v (Some t) = let e = sum_by-append (λ (pair : Name × Term). term_kept pair.1) row ((v, t) ∷ []) in omega (arith, e)

names_more : (vars : List Name) (v : Name) → names_kept (vars ++ v ∷ []) ≡ names_kept vars + size v
names_more vars v = let e = sum_by-append size vars (v ∷ []) in omega (arith, e)

-- one character more of a document: after an LF nothing is kept, and any other adds no more than its bytes
abbrev Adds : ℕ → ℕ → DocAt → Type 0
Adds base c n = (doc_kept n ≡ 0) ⊎ (((c == 10) ≡ false) × (doc_kept n ≤ base + width c))

adds : (base c k : ℕ) (n : DocAt) → c ≡ k → (k == 10) ≡ false → doc_kept n ≤ base + width c → Adds base c n
adds base c k n e f h = inr (ap (λ c. c == 10) e ∙ f, h)

first_adds : (d : DocAt) (c : ℕ) (p : Place) → d.row ≡ [] → first_place c ≡ Some p → Adds (row_kept d.row + names_kept d.vars) c (placed d p)
first_adds d c p none e =
    let R : Place → Type 0 = λ p. Adds (row_kept d.row + names_kept d.vars) c (placed d p) in
    pick_of {P = R p} (c == 63) (InName names.Start) p _ e (λ b k. subst R (sym k) (adds _ c 63 (placed d (InName names.Start)) (eqb_same c 63 b) refl (omega arith)))
    (λ e. pick_of {P = R p} (c == 10) Begin p _ e (λ b k. subst R (sym k) (inl (ap (λ row. row_kept row + 0) none)))
    (λ e. pick_of {P = R p} (c == 13) HeaderReturn p None e (λ b k. subst R (sym k) (adds _ c 13 (placed d HeaderReturn) (eqb_same c 13 b) refl (omega arith))) (λ k. none_some k)))

named_adds : (d : DocAt) (v : Name) (c base : ℕ) (p : Place) → d.row ≡ [] → row_kept d.row + (names_kept d.vars + size v) ≤ base → after_name c ≡ Some p → Adds base c (named d v p)
named_adds d v c base p none h e =
    let R : Place → Type 0 = λ p. Adds base c (named d v p) in
    let m = names_more d.vars v in
    pick_of {P = R p} (c == 9) Mark p _ e (λ b k. subst R (sym k) (adds base c 9 (named d v Mark) (eqb_same c 9 b) refl (omega (arith, h, m))))
    (λ e. pick_of {P = R p} (c == 10) Begin p _ e (λ b k. subst R (sym k) (inl (ap (λ row. row_kept row + 0) none)))
    (λ e. pick_of {P = R p} (c == 13) HeaderReturn p None e (λ b k. subst R (sym k) (adds base c 13 (named d v HeaderReturn) (eqb_same c 13 b) refl (omega (arith, h, m)))) (λ k. none_some k)))

row_adds : (d n : DocAt) (c base : ℕ) (row : Pairs) → row_kept row ≤ base → row_ends d c row ≡ Some n → Adds base c n
row_adds d n c base row h e =
    ⊎_elim
    (λ (k : (c ≡ 10) × (n ≡ line_ended d row)). inl (ap doc_kept k.1))
    (λ (k : (c ≡ 13) × (n ≡ returned d row)). subst (Adds base c) (sym k.1) (adds base c 13 (returned d row) k.0 refl (omega (arith, h))))
    (row_ended d n c row e)

cell_adds : (d n : DocAt) (c base : ℕ) (later : List Name) (o : Option (Option Term)) → ((cell : Option Term) → o ≡ Some cell → row_kept d.row + cell_kept cell ≤ base) → cell_ends d c later o ≡ Some n → Adds base c n
cell_adds d n c base later None h e = none_some e
cell_adds d n c base [] (Some cell) h e = none_some e
cell_adds d n c base (v ∷ []) (Some cell) h e = let r = row_bound d.row v cell in let k = h cell refl in row_adds d n c base (d.row ++ bound v cell) (omega (arith, r, k)) e
cell_adds d n c base (v ∷ w ∷ later) (Some cell) h e =
    let r = row_bound d.row v cell in
    let i = h cell refl in
    pick_of {P = Adds base c n} (c == 9) (next_field d (w ∷ later) (d.row ++ bound v cell)) n None e
    (λ b k. subst (Adds base c) (sym k) (adds base c 9 (next_field d (w ∷ later) (d.row ++ bound v cell)) (eqb_same c 9 b) refl (omega (arith, r, i))))
    (λ k. none_some k)

field_adds : (d n : DocAt) (f : FieldAt) (c : ℕ) → in_field d f c ≡ Some n → Adds (row_kept d.row + field_kept f) c n
field_adds d n f c e =
    ⊎_elim
    (λ (k : (is_border c ≡ true) × (cell_ends d c d.later (field.final f) ≡ Some n)).
    cell_adds d n c _ d.later (field.final f) (λ cell i. let w = cell_within f cell i in omega (arith, w)) k.1)
    (λ (k : (is_border c ≡ false) × (option_map (λ n. placed d (Field n)) (field.step f c) ≡ Some n)).
    let m = mapped (λ n. placed d (Field n)) (field.step f c) n k.1 in
    let w = field_within f m.0 c m.1 in
    subst (Adds (row_kept d.row + field_kept f) c) m.2 (inr ((no_lf c k.0).1, omega (arith, w))))
    (chosen _ _ _ _ e)

begin_adds : (d n : DocAt) (c : ℕ) (later : List Name) → begin d c later ≡ Some n → Adds (row_kept d.row + 0) c n
begin_adds d n c [] e = row_adds d n c _ d.row (omega arith) e
begin_adds d n c (v ∷ later) e = field_adds d n Empty c e

place_adds : (p : Place) (d n : DocAt) (c : ℕ) → GoodAt p d → place_step d c p ≡ Some n → Adds (row_kept d.row + place_kept d.vars p) c n
place_adds Start d n c g e = let m = mapped (placed d) (first_place c) n e in subst (Adds _ c) m.2 (first_adds d c m.0 g.0.row m.1)
place_adds Mark d n c g e =
    let m = mapped (placed d) (mark_place c) n e in
    subst (Adds _ c) m.2 (pick_of {P = Adds (row_kept d.row + names_kept d.vars) c (placed d m.0)} (c == 63) (InName names.Start) m.0 None m.1
    (λ b k. subst (λ p. Adds (row_kept d.row + names_kept d.vars) c (placed d p)) (sym k) (adds _ c 63 (placed d (InName names.Start)) (eqb_same c 63 b) refl (omega arith))) (λ k. none_some k))
place_adds (InName q) d n c g e = go (after_name c) refl e
  where
    go : (o : Option Place) → after_name c ≡ o → name_moves d q c o ≡ Some n → Adds (row_kept d.row + (names_kept d.vars + name_kept q)) c n
    go None a k =
        let m = mapped (λ n. placed d (InName n)) (name.step q c) n k in
        let w = name_within q m.0 c m.1 in
        subst (Adds _ c) m.2 (inr (not_after c a, omega (arith, w)))
    go (Some p) a k =
        let m = name_ended d n (name.final q) p k in
        let w = name_whole q m.0 m.1 in
        subst (Adds _ c) m.3 (named_adds d m.0 c _ p g.0.row (omega (arith, w)) a)
place_adds HeaderReturn d n c g e =
    let m = mapped (placed d) (return_place c) n e in
    subst (Adds _ c) m.2 (pick_of {P = Adds (row_kept d.row + names_kept d.vars) c (placed d m.0)} (c == 10) Begin m.0 None m.1
    (λ b k. subst (λ p. Adds (row_kept d.row + names_kept d.vars) c (placed d p)) (sym k) (inl (ap (λ row. row_kept row + 0) g.row))) (λ k. none_some k))
place_adds Begin d n c g e = begin_adds d n c d.later e
place_adds (Field f) d n c g e = field_adds d n f c e
place_adds Return d n c g e = pick_of {P = Adds (row_kept d.row + 0) c n} (c == 10) (line_ended d d.row) n None e (λ b k. inl (ap doc_kept k)) (λ k. none_some k)

step_adds : (d n : DocAt) (c : ℕ) → GoodDoc d → step d c ≡ Some n → Adds (doc_kept d) c n
step_adds d n c g e = place_adds d.at (placed d Begin) n c (good_same d.at d g.at) e

abbrev IsWithin : DocAt → List ℕ → Type 0
IsWithin d front = doc_kept d ≤ length (unfinished (encode_utf8_all front))

more_within : (d n : DocAt) (c : ℕ) (front : List ℕ) → IsWithin d front → Adds (doc_kept d) c n → IsWithin n (front ++ c ∷ [])
more_within d n c front h (inl z) = omega (arith, z)
more_within d n c front h (inr k) =
    let e = ap (λ b. length (unfinished b)) (encodes-append front (c ∷ []) ∙ ap (λ b. encode_utf8_all front ++ b) (append-nil (encode_utf8 c))) in
    let u = ap length (unfinished_more (encode_utf8_all front) (encode_utf8 c) (char_lf c k.0)) ∙ length-append (unfinished (encode_utf8_all front)) (encode_utf8 c) in
    let a = k.1 in
    omega (arith, h, e, u, a)

-- what characters led to keeps no more than the bytes after their last LF
doc_within : (front : List ℕ) (d : DocAt) → run step start front ≡ Some d → IsWithin d front
doc_within front d e = go [] start front good_start (omega arith) e
  where
    go : (before : List ℕ) (s : DocAt) (text : List ℕ) → GoodDoc s → IsWithin s before → run step s text ≡ Some d → IsWithin d (before ++ text)
    go before s [] g h e = subst (IsWithin d) (sym (append-nil before)) (subst (λ s. IsWithin s before) (some_same e) h)
    go before s (c ∷ text) g h e =
        let m = bind_some (step s c) (λ n. run step n text) d e in
        subst (IsWithin d) (append_assoc before (c ∷ []) text) (go (before ++ c ∷ []) m.0 text (doc_machine.stays s m.0 c g m.1) (more_within s m.0 c before h (step_adds s m.0 c g m.1)) m.2)

-- a reader that has been given bytes keeps no more than those after their last LF
pub come_within : (bounds : Bounds) (bytes : List ℕ) (reading : ReadingAt) → HasCome bounds bytes reading → reading_kept reading ≤ length (unfinished bytes)
come_within bounds bytes reading h =
    let d = doc_within h.front reading.doc h.led.runs in
    let e = ap (λ b. length (unfinished b)) h.parts in
    let u = ap length (unfinished_more (encode_utf8_all h.front) reading.left (left_lf bounds bytes reading h)) ∙ length-append (unfinished (encode_utf8_all h.front)) reading.left in
    omega (arith, d, e, u)

-- so it keeps less than 2^64
pub led_within : (bounds : Bounds) (reading : ReadingAt) → IsLed bounds reading → reading_kept reading < 2 ^ 64
led_within bounds reading h =
    let k = come_within bounds h.bytes reading h.came in
    let w = unfinished_within h.bytes in
    let e = ap length h.came.parts ∙ length-append (encode_utf8_all h.came.front) reading.left in
    let p = h.came.led.at in
    let s = h.short in
    omega (arith, k, w, e, p, s)

pub led_first : (bounds : Bounds) → IsLed bounds (record { doc = start; left = []; place = 0 })
led_first bounds = record { sound = sound_start; bytes = []; came = begins bounds; short = omega arith }

pub led_on : (bounds : Bounds) (piece : List ℕ) (old new : ReadingAt) → IsLed bounds old → taken old + length piece < 2 ^ 64 → ((bytes : List ℕ) → HasCome bounds bytes old → HasCome bounds (bytes ++ piece) new)
    → IsSound new.doc → taken new ≡ taken old + length piece → IsLed bounds new
led_on bounds piece old new h room come sound e = record { sound = sound; bytes = h.bytes ++ piece; came = come h.bytes h.came; short = omega (arith, room, e) }
