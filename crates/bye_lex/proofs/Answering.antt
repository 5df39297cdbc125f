-- From what a scan comes to, to what a reader may answer.
use Rattle.std.proofs.Common.{◌≡◌, refl, ℕ, ◌+◌, List, [], ◌∷◌, ◌++◌, Option, None, Result, Ok, Err, length, sym, ◌∙◌, ap, subst}
use Rattle.std.specs.Str.{encode_utf8_all}
use Rattle.bye_lex.specs.Languages.{Viable, Token}
use Rattle.bye_lex.specs.Scanning.{Scanned, Found, Fault, End, place, scan, Gives}
use Rattle.bye_lex.specs.Answers.{Reads}
use Rattle.bye_lex.specs.declared.fault.LexErr.{LexErr}
use Rattle.bye_lex.specs.declared.fault.LexErr.TheVariants.{NoToken, Cut, Memory}
use Rattle.bye_lex.proofs.Scans.{Exact, Meets, scanned}
use Rattle.bye_lex.proofs.Places.{place_at}

-- the place before the rest of this text
pub place_in : (total from : ℕ) (text front rest : List ℕ) → from + length (encode_utf8_all text) ≡ total → text ≡ front ++ rest → place total rest ≡ from + length (encode_utf8_all front)
place_in total from text front rest long parts = place_at total from front rest (ap (λ t. from + length (encode_utf8_all t)) (sym parts) ∙ long)

module _ {S V : Type 0} (Left : S → List ℕ → V → Type 0) (step : S → ℕ → Option S) (final : S → Option V) (x : Exact Left step final) where
  as_read : (start : S) (total from : ℕ) (text : List ℕ) (r : Result (V × ℕ) LexErr) (y : Scanned V) → from + length (encode_utf8_all text) ≡ total
      → Meets Left step final x start total text y → Gives r y → Reads (Left start) text from r
  as_read start total from text (Ok r) (Found v p) long m g =
      let k = m.found v p refl in
      record {
        token = k.0;
        rest = k.1;
        parts = k.2;
        is = subst (λ v. Token (Left start) k.0 k.1 v) (sym g.0) k.3;
        at = g.1 ∙ k.4 ∙ place_in total from text k.0 k.1 long k.2;
      }
  as_read start total from text (Ok r) (Fault p) long m g = absurd g
  as_read start total from text (Ok r) End long m g = absurd g
  as_read start total from text (Err (NoToken q)) (Found v p) long m g = absurd g
  as_read start total from text (Err (NoToken q)) (Fault p) long m g =
      let k = m.fault p refl in
      record { front = k.0; fault = k.4; none = k.5; at = g ∙ k.6 ∙ place_in total from text k.0 (k.1 ∷ k.2) long k.3 }
  as_read start total from text (Err (NoToken q)) End long m g = absurd g
  as_read start total from text (Err Cut) (Found v p) long m g = absurd g
  as_read start total from text (Err Cut) (Fault p) long m g = absurd g
  as_read start total from text (Err Cut) End long m g = let k = m.cut refl in record { viable = k.0; none = k.1 }
  as_read start total from text (Err Memory) y long m g = tt

  pub answers : (start : S) (total from : ℕ) (text : List ℕ) (r : Result (V × ℕ) LexErr) → final start ≡ None → Viable (Left start) [] → from + length (encode_utf8_all text) ≡ total
      → Gives r (scan step final total start None text) → Reads (Left start) text from r
  answers start total from text r f a long g = as_read start total from text r _ long (scanned Left step final x start total text f a) g
