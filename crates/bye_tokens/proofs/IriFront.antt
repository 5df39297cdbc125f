-- IRI references at the front of a text.
use Rattle.std.proofs.Common.{◌≡◌, refl, ℕ, true, List, [], ◌∷◌, ◌++◌, length, Option, Some, None, sym, ◌∙◌, ap, arith, append_assoc, codes}
use Rattle.std.specs.List.{list_all}
use Rattle.bye_terms.specs.Characters.{is_iri_char}
use Rattle.bye_terms.specs.Reading.{◌>>=◌, after_at}
use Rattle.bye_terms.proofs.Readings.{read_both, after_takes}
use Rattle.bye_lex.proofs.Branches.{heads, some_same, none_some}
use Rattle.bye_tokens.specs.Fronts.{iri_front}
use Rattle.bye_tokens.specs.Kinds.{seen, IriRefToken}
use Rattle.bye_tokens.specs.Reading.{after_all, before}
use Rattle.bye_tokens.specs.declared.token.Token.{Token}
use Rattle.bye_tokens.specs.declared.token.Token.TheVariants.{IriRef}
use Rattle.bye_tokens.proofs.Cuts.{before_is}
use Rattle.bye_tokens.proofs.Literals.{one_of}
use Rattle.bye_tokens.proofs.Longest.{Told, Starts, OneValue}
use Rattle.bye_tokens.proofs.Runs.{run_parts, run_again}

again : (w rest : List ℕ) → list_all is_iri_char w ≡ true → iri_front (60 ∷ (w ++ 62 ∷ rest)) ≡ Some (IriRef w, rest)
again w rest all =
    let run = run_again is_iri_char w 62 rest all refl in
    let inner = w ++ 62 ∷ rest in
    let own : before inner (after_all is_iri_char inner) ≡ w = ap (before inner) run ∙ before_is inner w (62 ∷ rest) refl in
    ap (λ o. after_at 62 o >>= (λ rest. Some (IriRef (before inner (after_all is_iri_char inner)), rest))) run
    ∙ ap (λ o. Some (IriRef o, rest)) own

-- what is read stands there
record Takes (text : List ℕ) (r : Token × List ℕ) : Type 0 where
  value : List ℕ
  parts : text ≡ 60 ∷ (value ++ 62 ∷ r.1)
  all : list_all is_iri_char value ≡ true
  is : r.0 ≡ IriRef value

takes : (text : List ℕ) (r : Token × List ℕ) → iri_front text ≡ Some r → Takes text r
takes text r e =
    let a = read_both (after_at 60 text) (λ inner. after_at 62 (after_all is_iri_char inner) >>= (λ rest. Some (IriRef (before inner (after_all is_iri_char inner)), rest))) r e in
    let b = read_both (after_at 62 (after_all is_iri_char a.0)) (λ rest. Some (IriRef (before a.0 (after_all is_iri_char a.0)), rest)) r a.2 in
    let run = run_parts is_iri_char a.0 in
    let rest : b.0 ≡ r.1 = ap (λ (r : Token × List ℕ). r.1) (some_same b.2) in
    record {
      value = run.front;
      parts = after_takes 60 text a.0 a.1 ∙ ap (λ t. 60 ∷ t) (run.parts ∙ ap (λ t. run.front ++ t) (after_takes 62 (after_all is_iri_char a.0) b.0 b.1)) ∙ ap (λ t. 60 ∷ (run.front ++ 62 ∷ t)) rest;
      all = run.all;
      is = sym (ap (λ (r : Token × List ℕ). r.0) (some_same b.2)) ∙ ap IriRef (before_is a.0 run.front (after_all is_iri_char a.0) run.parts);
    }

closed : (w more : List ℕ) → (60 ∷ (w ++ 62 ∷ [])) ++ more ≡ 60 ∷ (w ++ 62 ∷ more)
closed w more = ap (λ t. 60 ∷ t) (append_assoc w (62 ∷ []) more)

no_longer : (v w more : List ℕ) → list_all is_iri_char v ≡ true → list_all is_iri_char w ≡ true → (60 ∷ (v ++ 62 ∷ [])) ++ more ≡ 60 ∷ (w ++ 62 ∷ []) → more ≡ []
no_longer v w more a b e =
    let one = again v more a in
    let two = again w [] b in
    ap (λ (r : Token × List ℕ). r.1) (some_same (sym one ∙ ap iri_front (sym (closed v more) ∙ e) ∙ two))

pub iri_told : (text : List ℕ) → Told (seen IriRef IriRefToken) text (iri_front text)
iri_told text = go (iri_front text) refl
  where
    go : (o : Option (Token × List ℕ)) → iri_front text ≡ o → Told (seen IriRef IriRefToken) text o
    go None e = λ front rest v parts h.
        none_some (sym e ∙ ap iri_front (parts ∙ ap (λ f. f ++ rest) h.1.0 ∙ closed h.0 rest) ∙ again h.0 rest h.1.1)
    go (Some r) e =
        let k = takes text r e in (
          60 ∷ (k.value ++ 62 ∷ []),
          k.parts ∙ sym (closed k.value r.1),
          record {
            is = (k.value, (refl, k.all), k.is);
            longest = λ more after other parts some h. let nil = no_longer k.value h.0 more k.all h.1.1 h.1.0 in omega (arith, some, ap length nil);
          },
        )

pub iri_starts : Starts (seen IriRef IriRefToken) (one_of (codes "<"))
iri_starts = record {
  some = λ v h. let e = h.1.0 in cc;
  first = λ c t v h. ap (one_of (codes "<")) (heads c 60 t (h.0 ++ 62 ∷ []) h.1.0).0;
}

pub one_iri : OneValue IriRefToken
one_iri text v w h k =
    let same = some_same (sym (again v [] h.1) ∙ ap iri_front (sym h.0 ∙ k.0) ∙ again w [] k.1) in
    let e : IriRef v ≡ IriRef w = ap (λ (r : Token × List ℕ). r.0) same in cc
