-- Two answers to one document are one: the same select, or refusals that tell of the same limit or of none.
use Rattle.std.proofs.Common.{◌≡◌, refl, ℕ, ◌<◌, ◌≤◌, List, length, Result, Ok, Err, ◌⊎◌, inl, inr, ⊎_elim, sym, ◌∙◌, ap, subst, arith}
use Rattle.std.specs.Str.{chars, encode_utf8_all}
use Rattle.bye_pattern.specs.Trees.{Select}
use Rattle.bye_pattern.specs.Written.{Written}
use Rattle.bye_pattern.specs.Gathered.{gather}
use Rattle.bye_laws.specs.Written.{BrokenOrDesignedEarly}
use Rattle.bye_laws.proofs.EarlyRules.{early_not_broken, early_or_broken, one_broken_early}
use Rattle.bye_tokens.specs.declared.token.Placed.{Placed}
use Rattle.bye_tokens.specs.Splitting.{AreTokens}
use Rattle.bye_tokens.proofs.SplitExact.{one_way}
use Rattle.bye_parts.specs.Answers.{DeepToken, WrongToken}
use Rattle.bye_parts.specs.Brackets.{IsWithin}
use Rattle.bye_parts.specs.Parts.{any}
use Rattle.bye_parts.proofs.Alone.{none_within, none_wrong}
use Rattle.bye_grammar.specs.Documents.{QueryText}
use Rattle.bye_grammar.specs.Grammar.{document}
use Rattle.bye_grammar.specs.TokenKinds.{turn}
use Rattle.bye_grammar.proofs.DocumentLaws.{documents_fronts, documents_once, fronts_close}
use Rattle.bye_descent.specs.Opening.{max_open}
use Rattle.bye_query.specs.Answers.{Agree, Comes, IsRead, QueryAnswer, TooMuch, TooManyOpen, NoQuery, told}
use Rattle.bye_query.specs.Refusals.{IsRefusal, OfTokens, max_bytes}
use Rattle.bye_query.specs.declared.query_err.QueryErr.{QueryErr}
use Rattle.bye_query.specs.declared.query_err.QueryErr.TheVariants.{TooLong, NotUtf8, Syntax, LeftOut, UnknownPrefix, TooDeep, Broken, Projected, Memory}
use Rattle.bye_query.proofs.Coming.{comes_refused}

module _ (bytes : List ℕ) where
  one_split : (ts us : List Placed) → AreTokens (chars bytes) ts → AreTokens (chars bytes) us → ts ≡ us
  one_split ts us a b = let n = length (encode_utf8_all (chars bytes)) in (one_way n (chars bytes)).1 ts a ∙ sym ((one_way n (chars bytes)).1 us b)

  -- a select that is read is one
  pub one_query : (v w : Written) → QueryText bytes v → QueryText bytes w → v ≡ w
  one_query v w a b = documents_once b.tokens v w (subst (λ ts. (any document).derives ts v) (one_split a.tokens b.tokens a.split b.split) a.derives) b.derives

  pub one_select : (q r : Select) → IsRead bytes q → IsRead bytes r → q ≡ r
  one_select q r a b = a.document.read_as ∙ (ap gather (one_query a.document.written b.document.written a.document.text b.document.text) ∙ sym b.document.read_as)

  -- too many bytes
  past : {X : Type 0} → max_bytes < length bytes → length bytes ≤ max_bytes → X
  past long short = absurd (omega (arith, long, short))

  -- a bracket that is too deep
  abbrev IsDeep : Type 0
  IsDeep = OfTokens bytes (λ ts. (left : List Placed) × DeepToken (any document) turn max_open ts left)

  deep_within : IsDeep → (ts : List Placed) → AreTokens (chars bytes) ts → IsWithin turn max_open ts → ⊥
  deep_within deep ts split within =
      none_within (any document) turn max_open deep.tokens deep.holds.0 deep.holds.1
      (subst (λ ts. IsWithin turn max_open ts) (one_split ts deep.tokens split deep.split) within)

  deep_wrong : {Holds : List Placed → Type 0} → IsDeep → OfTokens bytes Holds → ((ts : List Placed) → Holds ts → (left : List Placed) × WrongToken (any document) turn max_open ts left) → ⊥
  deep_wrong deep h wrong_of =
      let w = wrong_of h.tokens h.holds in
      none_wrong (any document) turn max_open deep.tokens deep.holds.0 deep.holds.1 fronts_close w.0
      (subst (λ ts. WrongToken (any document) turn max_open ts w.0) (one_split h.tokens deep.tokens h.split deep.split) w.1)

  deep_of : (place : ℕ) → IsRefusal bytes (TooDeep place) → IsDeep
  deep_of place h = record { short = h.short; text = h.text; tokens = h.tokens; split = h.split; holds = (h.holds.0, h.holds.1) }

  deep_alone : IsDeep → (error : QueryErr) → IsRefusal bytes error → (told error ≡ TooManyOpen) ⊎ (error ≡ Memory)
  deep_alone deep TooLong h = past h deep.short
  deep_alone deep (NotUtf8 place) h = absurd (h.none deep.text)
  deep_alone deep (Syntax place) h = absurd (deep_wrong deep h (λ ts w. (w.0, w.1)))
  deep_alone deep (LeftOut place feature) h = absurd (deep_wrong deep h (λ ts w. (w.0, w.1)))
  deep_alone deep (UnknownPrefix place) h = absurd (deep_wrong deep h (λ ts w. (w.0, w.1)))
  deep_alone deep (TooDeep place) h = inl refl
  deep_alone deep (Broken shape) h = absurd (deep_within deep h.text.tokens h.text.split h.within)
  deep_alone deep Projected h = absurd (deep_within deep h.text.tokens h.text.split h.within)
  deep_alone deep Memory h = inr refl

  -- the bytes of a refusal are no more than may be, but where it tells so
  short_of : (error : QueryErr) → IsRefusal bytes error → (error ≡ TooLong) ⊎ ((error ≡ Memory) ⊎ (length bytes ≤ max_bytes))
  short_of TooLong h = inl refl
  short_of (NotUtf8 place) h = inr (inr h.short)
  short_of (Syntax place) h = inr (inr h.short)
  short_of (LeftOut place feature) h = inr (inr h.short)
  short_of (UnknownPrefix place) h = inr (inr h.short)
  short_of (TooDeep place) h = inr (inr h.short)
  short_of (Broken shape) h = inr (inr h.short)
  short_of Projected h = inr (inr h.short)
  short_of Memory h = inr (inl refl)

  long_alone : max_bytes < length bytes → (error : QueryErr) → IsRefusal bytes error → (told error ≡ TooMuch) ⊎ (error ≡ Memory)
  long_alone long error h = by_case (short_of error h) where
    by_case : (error ≡ TooLong) ⊎ ((error ≡ Memory) ⊎ (length bytes ≤ max_bytes)) → (told error ≡ TooMuch) ⊎ (error ≡ Memory)
    by_case (inl e) = inl (ap told e)
    by_case (inr (inl e)) = inr e
    by_case (inr (inr short)) = past long short

  -- a document that is read is refused for want of memory alone
  not_refused : (q : Select) → IsRead bytes q → (error : QueryErr) → Comes q (Err error) → IsRefusal bytes error → error ≡ Memory
  not_refused q read TooLong c h = past h read.short
  not_refused q read (TooDeep place) c h = absurd (deep_within (deep_of place h) read.document.text.tokens read.document.text.split read.within)
  not_refused q read (NotUtf8 place) c h = absurd c
  not_refused q read (Syntax place) c h = absurd c
  not_refused q read (LeftOut place feature) c h = absurd c
  not_refused q read (UnknownPrefix place) c h = absurd c
  not_refused q read (Broken shape) c h = absurd c
  not_refused q read Projected c h = absurd c
  not_refused q read Memory c h = refl

  rules : BrokenOrDesignedEarly
  rules = record { either = early_or_broken; one = early_not_broken; first = one_broken_early }

  none_refused : (q : Select) → IsRead bytes q → (error : QueryErr) → IsRefusal bytes error → error ≡ Memory
  none_refused q read error h = not_refused q read error (comes_refused one_way documents_once documents_fronts fronts_close rules bytes q read.document error h) h

  -- two refusals
  abbrev Alike : QueryErr → QueryErr → Type 0
  Alike e f = (e ≡ Memory) ⊎ ((f ≡ Memory) ⊎ (told e ≡ told f))

  no_query : (e f : QueryErr) → told e ≡ NoQuery → IsRefusal bytes e → IsRefusal bytes f → Alike e f
  no_query e TooLong is h k = ⊎_elim (λ t. inr (inr t)) (λ m. inl m) (long_alone k e h)
  no_query e (TooDeep place) is h k = ⊎_elim (λ t. inr (inr t)) (λ m. inl m) (deep_alone (deep_of place k) e h)
  no_query e Memory is h k = inr (inl refl)
  no_query e (NotUtf8 place) is h k = inr (inr is)
  no_query e (Syntax place) is h k = inr (inr is)
  no_query e (LeftOut place feature) is h k = inr (inr is)
  no_query e (UnknownPrefix place) is h k = inr (inr is)
  no_query e (Broken shape) is h k = inr (inr is)
  no_query e Projected is h k = inr (inr is)

  alike : (e f : QueryErr) → IsRefusal bytes e → IsRefusal bytes f → Alike e f
  alike TooLong f h k = ⊎_elim (λ t. inr (inr (sym t))) (λ m. inr (inl m)) (long_alone h f k)
  alike (TooDeep place) f h k = ⊎_elim (λ t. inr (inr (sym t))) (λ m. inr (inl m)) (deep_alone (deep_of place h) f k)
  alike Memory f h k = inl refl
  alike (NotUtf8 place) f h k = no_query (NotUtf8 place) f refl h k
  alike (Syntax place) f h k = no_query (Syntax place) f refl h k
  alike (LeftOut place feature) f h k = no_query (LeftOut place feature) f refl h k
  alike (UnknownPrefix place) f h k = no_query (UnknownPrefix place) f refl h k
  alike (Broken shape) f h k = no_query (Broken shape) f refl h k
  alike Projected f h k = no_query Projected f refl h k

  pub one_answer : (a b : Result Select QueryErr) → QueryAnswer bytes a → QueryAnswer bytes b → Agree a b
  one_answer (Ok q) (Ok r) h k = one_select q r h k
  one_answer (Ok q) (Err f) h k = none_refused q h f k
  one_answer (Err e) (Ok r) h k = none_refused r k e h
  one_answer (Err e) (Err f) h k = alike e f h k
