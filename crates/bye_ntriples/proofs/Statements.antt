-- The triples of a document are triples of terms.
use Rattle.std.proofs.Common.{◌≡◌, refl, ℕ, Bool, true, false, cond, ◌||◌, ◌&&◌, ◌==◌, nat_lt, List, [], ◌∷◌, ◌++◌, Option, Some, None, ◌⊎◌, ⊎_elim, flat_map, map, replicate, option_to_list, sym, subst}
use Rattle.std.specs.List.{AllByRecursion}
use Rattle.std.specs.Str.{all_scalars}
use Rattle.bye_terms.specs.Terms.{Statement, is_subject}
use Rattle.bye_terms.specs.declared.term.Term.{Term}
use Rattle.bye_terms.specs.declared.term.Term.TheVariants.{Iri, Blank}
use Rattle.bye_terms.proofs.Tests.{both_parts}
use Rattle.bye_lex.specs.Escapes.{Piece, is_scalar, IsRaw, IsEscape}
use Rattle.bye_lex.specs.Iris.{IsIriPiece, IriToken}
use Rattle.bye_lex.specs.Marks.{LabelToken, TagToken}
use Rattle.bye_lex.specs.Strings.{IsNamed, IsStringPiece, Group, IsGroup, quote_of, group_text, group_value, around, StringToken}
use Rattle.bye_lex.specs.declared.quoting.Quoting.{Quoting}
use Rattle.bye_lex.specs.declared.style.Style.TheVariants.{Triples}
use Rattle.bye_lex.proofs.Branches.{and_true, some_same, none_some, scalars_join}
use Rattle.bye_lex.proofs.IriReads.{token_is}
use Rattle.bye_ntriples.specs.Canonical.{IsStatement, DocumentsHaveStatements}
use Rattle.bye_ntriples.specs.Documents.{LaterLine, IsLaterLine}
use Rattle.bye_ntriples.specs.Lines.{Spaced, Then, LineEnd, Dot, Dotted, DatatypeToken, Datatype, AfterSpaces, Object, Predicate, Subject, Line}
use Rattle.bye_ntriples.specs.Triples.{triple_of, string_of, tagged_of, typed_of}
use Rattle.bye_terms.specs.Valid.{IsRdfTerm}
use Rattle.bye_terms.proofs.RdfTerms.{iri, blank, tagged, untagged}
use Rattle.bye_ntriples.proofs.Spelled.{statement, all_join}

abbrev Scalars : List ℕ → Type 0
Scalars text = all_scalars text ≡ true

-- the parts of a text of Unicode
parted : (a b : List ℕ) → Scalars (a ++ b) → Scalars a × Scalars b
parted [] b h = (refl, h)
parted (c ∷ a) b h = let k = both_parts _ _ h in let m = parted a b k.1 in (and_true _ _ k.0 m.0, m.1)

either : (x y : Bool) → (x || y) ≡ true → cond x true y ≡ true
either true y h = refl
either false y h = h

scalar_is : (c : ℕ) → is_scalar c ≡ true → Scalars (c ∷ [])
scalar_is c h = and_true _ _ (either (nat_lt c 0xD800) (nat_lt 0xDFFF c && nat_lt c 0x11_0000) h) refl

raw_is : (p : Piece) → IsRaw p → Scalars p.text → Scalars (p.char ∷ [])
raw_is p h s = subst Scalars h.text s

escape_is : (p : Piece) (count other : ℕ) → IsEscape p 117 count ⊎ IsEscape p 85 other → Scalars (p.char ∷ [])
escape_is p count other h = ⊎_elim (λ (k : IsEscape p 117 count). scalar_is p.char k.scalar) (λ (k : IsEscape p 85 other). scalar_is p.char k.scalar) h

-- what tokens stand for is text of Unicode
iri_pieces : (ps : List Piece) → AllByRecursion (IsIriPiece Triples) ps → Scalars (flat_map (λ p. p.text) ps) → Scalars (map (λ p. p.char) ps)
iri_pieces [] each s = refl
iri_pieces (p ∷ ps) each s =
    let k = parted p.text (flat_map (λ p. p.text) ps) s in
    let one : Scalars (p.char ∷ []) = ⊎_elim (λ raw. raw_is p raw k.0) (λ h. escape_is p 4 8 h.1) each.0.spelled in
    scalars_join (p.char ∷ []) (map (λ p. p.char) ps) one (iri_pieces ps each.1 k.1)

iri_scalars : (text value : List ℕ) → IriToken Triples text value → Scalars text → Scalars value
iri_scalars text value h s =
    let letter = h.after in
    let scheme = letter.after in
    let tail = scheme.after in
    let first = parted (letter.first ∷ []) letter.rest (subst Scalars letter.spelled (parted (60 ∷ []) h.rest (subst Scalars h.spelled s)).1) in
    let front = parted scheme.scheme (58 ∷ scheme.tail) (subst Scalars scheme.spelled first.1) in
    let behind = parted (58 ∷ []) scheme.tail front.1 in
    let inner = (parted (flat_map (λ p. p.text) tail.pieces) (62 ∷ []) (subst Scalars tail.spelled behind.1)).0 in
    let end = subst Scalars (sym tail.stands) (iri_pieces tail.pieces tail.each inner) in
    let whole = scalars_join scheme.scheme (58 ∷ scheme.tail_value) front.0 (scalars_join (58 ∷ []) scheme.tail_value behind.0 end) in
    subst Scalars (sym letter.stands) (scalars_join (letter.first ∷ []) letter.rest_value first.0 (subst Scalars (sym scheme.stands) whole))

named_is : (a b d e f g h i : Bool) (v : ℕ) → cond a (Some 9) (cond b (Some 8) (cond d (Some 10) (cond e (Some 13) (cond f (Some 12) (cond g (Some 34) (cond h (Some 39) (cond i (Some 92) None))))))) ≡ Some v → Scalars (v ∷ [])
named_is true b d e f g h i v k = subst (λ v. Scalars (v ∷ [])) (some_same k) refl
named_is false true d e f g h i v k = subst (λ v. Scalars (v ∷ [])) (some_same k) refl
named_is false false true e f g h i v k = subst (λ v. Scalars (v ∷ [])) (some_same k) refl
named_is false false false true f g h i v k = subst (λ v. Scalars (v ∷ [])) (some_same k) refl
named_is false false false false true g h i v k = subst (λ v. Scalars (v ∷ [])) (some_same k) refl
named_is false false false false false true h i v k = subst (λ v. Scalars (v ∷ [])) (some_same k) refl
named_is false false false false false false true i v k = subst (λ v. Scalars (v ∷ [])) (some_same k) refl
named_is false false false false false false false true v k = subst (λ v. Scalars (v ∷ [])) (some_same k) refl
named_is false false false false false false false false v k = none_some k

string_piece : (quoting : Quoting) (p : Piece) → IsStringPiece Triples quoting p → Scalars p.text → Scalars (p.char ∷ [])
string_piece quoting p h s =
    ⊎_elim
    (λ h. raw_is p h.0 s)
    (λ h. ⊎_elim
    (λ (n : IsNamed p). let c = n.mark in named_is (c == 116) (c == 98) (c == 110) (c == 114) (c == 102) (c == 34) (c == 39) (c == 92) p.char n.char)
    (λ h. escape_is p 4 8 h.1) h)
    h

string_groups : (quoting : Quoting) (gs : List Group) → AllByRecursion (IsGroup Triples quoting) gs → Scalars (flat_map (group_text quoting) gs) → Scalars (flat_map (group_value quoting) gs)
string_groups quoting [] each s = refl
string_groups quoting (g ∷ gs) each s =
    let k = parted (group_text quoting g) (flat_map (group_text quoting) gs) s in
    let m = parted (replicate g.quotes (quote_of quoting)) g.piece.text k.0 in
    scalars_join (group_value quoting g) (flat_map (group_value quoting) gs)
    (scalars_join (replicate g.quotes (quote_of quoting)) (g.piece.char ∷ []) m.0 (string_piece quoting g.piece each.0.1 m.1))
    (string_groups quoting gs each.1 k.1)

string_scalars : (text value : List ℕ) → StringToken Triples text value → Scalars text → Scalars value
string_scalars text value h s =
    let tail = (parted (around h.quoting) h.tail (subst Scalars h.spelled s)).1 in
    let inner = (parted (flat_map (group_text h.quoting) h.after.groups) (around h.quoting) (subst Scalars h.after.spelled tail)).0 in
    subst Scalars (sym h.after.stands) (string_groups h.quoting h.after.groups h.after.each inner)

-- the terms of tokens
iri_term : (text value : List ℕ) → IriToken Triples text value → Scalars text → IsRdfTerm (Iri value)
iri_term text value h s = iri value (iri_scalars text value h s) (token_is Triples text value h)

label_term : (text value : List ℕ) → LabelToken text value → Scalars text → IsRdfTerm (Blank value)
label_term text value h s = blank value (parted (95 ∷ 58 ∷ []) value (subst Scalars h.0 s)).1 h.1

string_term : (lexical : List ℕ) → Scalars lexical → IsRdfTerm (string_of lexical)
string_term lexical s = untagged _ refl refl s refl refl

tagged_term : (lexical text tag : List ℕ) → TagToken text tag → Scalars lexical → Scalars text → IsRdfTerm (tagged_of lexical tag)
tagged_term lexical text tag h lexical_scalars s = tagged _ tag refl refl lexical_scalars (parted (64 ∷ []) tag (subst Scalars h.0 s)).1 h.1

typed_term : (lexical text datatype : List ℕ) → DatatypeToken text datatype → Scalars lexical → Scalars text → IsRdfTerm (typed_of lexical datatype)
typed_term lexical text datatype h lexical_scalars s = untagged _ refl (sym h.1) lexical_scalars (iri_scalars text datatype h.0 s) (token_is Triples text datatype h.0)

-- a text of Unicode in the rule gives a triple of terms
abbrev Gives : (List ℕ → Statement → Type 0) → Type 0
Gives L = (text : List ℕ) (t : Statement) → L text t → Scalars text → IsStatement t

spaced : (L : List ℕ → Statement → Type 0) → Gives L → Gives (Spaced L)
spaced L f [] t h s = f [] t h s
spaced L f (c ∷ cs) t h s = ⊎_elim (λ h. spaced L f cs t h.1 (parted (c ∷ []) cs s).1) (λ h. f (c ∷ cs) t h s) h

then_gives : (L : List ℕ → List ℕ → Type 0) (Rest : List ℕ → List ℕ → Statement → Type 0) → ((text value : List ℕ) → L text value → Scalars text → Gives (Rest value)) → Gives (Then L Rest)
then_gives L Rest f text t h s = let k = parted h.own h.rest (subst Scalars h.spelled s) in f h.own h.value h.token k.0 h.rest t h.after k.1

dotted : (t : Statement) → IsStatement t → Gives (Dotted LineEnd t)
dotted t valid = spaced (Dot LineEnd t) (λ text u h s. subst IsStatement (sym h.is) valid)

module _ (s : Term) (p : List ℕ) (subject : IsRdfTerm s) (is : is_subject s ≡ true) (predicate : IsRdfTerm (Iri p)) where
  triple : (o : Term) → IsRdfTerm o → IsStatement (triple_of s p o)
  triple o object = statement (triple_of s p o) subject predicate object (is, refl)

  datatype : (lexical : List ℕ) → Scalars lexical → Gives (Datatype LineEnd s p lexical)
  datatype lexical l = spaced _ (then_gives DatatypeToken _ (λ text value h k. dotted _ (triple (typed_of lexical value) (typed_term lexical text value h l k))))

  after_string : (lexical : List ℕ) → Scalars lexical → Gives (AfterSpaces LineEnd s p lexical)
  after_string lexical l text t h k =
      ⊎_elim
      (λ h. subst IsStatement (sym h.is) (triple (string_of lexical) (string_term lexical l)))
      (λ h. ⊎_elim
      (λ h. then_gives TagToken _ (λ own tag h k. dotted _ (triple (tagged_of lexical tag) (tagged_term lexical own tag h l k))) text t h k)
      (λ h. datatype lexical l h.rest t h.after (parted (94 ∷ 94 ∷ []) h.rest (subst Scalars h.spelled k)).1) h)
      h

  object : Gives (Object LineEnd s p)
  object text t h k =
      ⊎_elim
      (λ h. then_gives (IriToken Triples) _ (λ own value h k. dotted _ (triple (Iri value) (iri_term own value h k))) text t h k)
      (λ h. ⊎_elim
      (λ h. then_gives LabelToken _ (λ own value h k. dotted _ (triple (Blank value) (label_term own value h k))) text t h k)
      (λ h. then_gives (StringToken Triples) _ (λ own value h k. spaced _ (after_string value (string_scalars own value h k))) text t h k) h)
      h

predicate : (s : Term) → IsRdfTerm s → is_subject s ≡ true → Gives (Predicate LineEnd s)
predicate s subject is = then_gives (IriToken Triples) _ (λ own value h k. spaced _ (object s value subject is (iri_term own value h k)))

subject : Gives (Subject LineEnd)
subject text t h k =
    ⊎_elim
    (λ h. then_gives (IriToken Triples) _ (λ own value h k. spaced _ (predicate (Iri value) (iri_term own value h k) refl)) text t h k)
    (λ h. then_gives LabelToken _ (λ own value h k. spaced _ (predicate (Blank value) (label_term own value h k) refl)) text t h k)
    h

-- the lines of a document
line : (text : List ℕ) (fact : Option Statement) → Line text fact → Scalars text → AllByRecursion IsStatement (option_to_list fact)
line text fact h s =
    ⊎_elim
    (λ h. subst (λ fact. AllByRecursion IsStatement (option_to_list fact)) (sym h.1) tt)
    (λ h. subst (λ fact. AllByRecursion IsStatement (option_to_list fact)) (sym h.is) (spaced (Subject LineEnd) subject text h.triple h.stated s, tt))
    h

later : (lines : List LaterLine) → AllByRecursion IsLaterLine lines → Scalars (flat_map (λ line. line.separator ∷ line.text) lines) → AllByRecursion IsStatement (flat_map (λ line. option_to_list line.fact) lines)
later [] each s = tt
later (l ∷ ls) each s =
    let k = parted (l.separator ∷ l.text) (flat_map (λ line. line.separator ∷ line.text) ls) s in
    all_join IsStatement (option_to_list l.fact) _ (line l.text l.fact each.0.is (parted (l.separator ∷ []) l.text k.0).1) (later ls each.1 k.1)

pub documents_have_statements : DocumentsHaveStatements
documents_have_statements bytes triples d =
    let n = d.lines in
    let k = parted n.own n.rest (subst Scalars n.spelled d.scalars) in
    let more = subst (AllByRecursion IsStatement) (sym n.later.stated) (later n.later.lines n.later.each (subst Scalars n.later.spelled k.1)) in
    subst (AllByRecursion IsStatement) (sym n.stated) (all_join IsStatement (option_to_list n.fact) n.more (line n.own n.fact n.first k.0) more)
