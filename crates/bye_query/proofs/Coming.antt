-- A document of a select is answered by this select alone, but where it is too long or too deep.
use Rattle.std.proofs.Common.{◌≡◌, refl, ℕ, List, [], ◌∷◌, ◌++◌, length, Result, Ok, Err, IfOk, IfErr, sym, ◌∙◌, ap, subst, append_assoc}
use Rattle.std.specs.Str.{chars, encode_utf8_all}
use Rattle.bye_pattern.specs.Trees.{Select}
use Rattle.bye_pattern.specs.Selects.{SelectsAll}
use Rattle.bye_pattern.specs.Written.{Written}
use Rattle.bye_pattern.specs.Gathered.{IsDesignedEarly, gather}
use Rattle.bye_laws.specs.Written.{BrokenOrDesignedEarly}
use Rattle.bye_tokens.specs.declared.token.Placed.{Placed}
use Rattle.bye_tokens.specs.Laws.{SplitsOneWay}
use Rattle.bye_tokens.specs.Splitting.{AreTokens}
use Rattle.bye_parts.specs.Parts.{any}
use Rattle.bye_parts.specs.Answers.{WrongToken}
use Rattle.bye_grammar.specs.Documents.{QueryText, QueryDoc}
use Rattle.bye_grammar.specs.Grammar.{document}
use Rattle.bye_grammar.specs.Laws.{IsDocument, IsFront, DocumentsHaveOneValue, DocumentsAreFronts, FrontsAreClosed}
use Rattle.bye_grammar.specs.TokenKinds.{turn}
use Rattle.bye_tree.specs.Selects.{Parts, select_of}
use Rattle.bye_descent.specs.Opening.{max_open}
use Rattle.bye_query.specs.Answers.{Comes, IsRead}
use Rattle.bye_query.specs.Refusals.{IsRefusal, LeavesOut, OfQuery, OfTokens}
use Rattle.bye_query.specs.declared.query_err.QueryErr.{QueryErr}
use Rattle.bye_query.specs.declared.query_err.QueryErr.TheVariants.{TooLong, NotUtf8, Syntax, LeftOut, UnknownPrefix, TooDeep, Broken, Projected, Memory}

module _ (splits : SplitsOneWay) (one : DocumentsHaveOneValue) (fronts : DocumentsAreFronts) (closed : FrontsAreClosed) (rules : BrokenOrDesignedEarly)
    (bytes : List ℕ) (q : Select) (doc : QueryDoc bytes q) where
  -- the tokens of the bytes are those of the document
  one_split : (ts : List Placed) → AreTokens (chars bytes) ts → doc.text.tokens ≡ ts
  one_split ts split = let n = length (encode_utf8_all (chars bytes)) in (splits n (chars bytes)).1 doc.text.tokens doc.text.split ∙ sym ((splits n (chars bytes)).1 ts split)

  -- and so is the written query
  one_query : (w : Written) → QueryText bytes w → doc.written ≡ w
  one_query w text = one text.tokens doc.written w (subst (λ ts. IsDocument ts doc.written) (one_split text.tokens text.split) doc.text.derives) text.derives

  read_as_one : (s : Parts) → IsRead bytes (select_of s) → select_of s ≡ q
  read_as_one s read = read.document.read_as ∙ (ap gather (sym (one_query read.document.written read.document.text)) ∙ sym doc.read_as)

  -- no token of a document is wrong
  none_wrong : (ts left : List Placed) → AreTokens (chars bytes) ts → WrongToken (any document) turn max_open ts left → ⊥
  none_wrong ts left split wrong = by_left left refl where
    derives : IsDocument ts doc.written
    derives = subst (λ t. IsDocument t doc.written) (one_split ts split) doc.text.derives

    by_left : (l : List Placed) → left ≡ l → ⊥
    by_left [] e = wrong.whole e doc.written derives
    by_left (c ∷ cs) e =
        let parts : ts ≡ (wrong.front ++ c ∷ []) ++ cs = wrong.parts ∙ (ap (λ l. wrong.front ++ l) e ∙ sym (append_assoc wrong.front (c ∷ []) cs)) in
        wrong.after c cs e (closed (wrong.front ++ c ∷ []) cs (subst IsFront parts (fronts ts doc.written derives)))

  none_of_tokens : {Holds : List Placed → Type 0} → OfTokens bytes Holds → ((ts : List Placed) → Holds ts → (left : List Placed) × WrongToken (any document) turn max_open ts left) → ⊥
  none_of_tokens h wrong = let w = wrong h.tokens h.holds in none_wrong h.tokens w.0 h.split w.1

  left_out : (w : Written) → SelectsAll (gather w) → LeavesOut w → ⊥
  left_out w whole (early, distinct, (v, held, not_selected)) = not_selected (whole distinct v held)

  -- and each variable of its tree is selected, where DISTINCT is missing
  none_left_out : OfQuery bytes LeavesOut → ⊥
  none_left_out h = left_out h.written (subst SelectsAll (doc.read_as ∙ ap gather (one_query h.written h.text)) doc.whole) h.holds

  pub comes_refused : (error : QueryErr) → IsRefusal bytes error → Comes q (Err error)
  comes_refused TooLong h = tt
  comes_refused (NotUtf8 place) h = h.none doc.text.text
  comes_refused (Syntax place) h = none_of_tokens h (λ ts w. (w.0, w.1))
  comes_refused (LeftOut place feature) h = none_of_tokens h (λ ts w. (w.0, w.1))
  comes_refused (UnknownPrefix place) h = none_of_tokens h (λ ts w. (w.0, w.1))
  comes_refused (TooDeep place) h = tt
  comes_refused (Broken shape) h = rules.one h.written shape.path.items shape.rule (subst IsDesignedEarly (one_query h.written h.text) doc.early) h.holds
  comes_refused Projected h = none_left_out h
  comes_refused Memory h = tt

  pub comes : (answer : Result Parts QueryErr) → IfOk answer (λ s. IsRead bytes (select_of s)) → IfErr answer (IsRefusal bytes) → Comes q answer
  comes (Ok s) ok cause = read_as_one s ok
  comes (Err error) ok cause = comes_refused error cause
