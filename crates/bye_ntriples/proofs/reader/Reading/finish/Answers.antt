use Rattle.std.proofs.Common.{◌≡◌, [], ◌∷◌, ◌<◌, ◌==◌, ℕ, List, Bool, true, false, length, sym, ◌∙◌, ap, subst, refl, arith}
use Rattle.std.specs.Option.{option_map}
use Rattle.bye_ntriples.specs.Feeding.{ReadingAt, HasCome}
use Rattle.bye_ntriples.proofs.Feeds.{finish_over, finish_left, finish_reads, finish_stops}
use Rattle.bye_ntriples.proofs.reader.Reading.finish.Goals as goal

some_left : (l : List ℕ) (n : ℕ) (b : Bool) → n ≡ length l → b ≡ (n == 0) → b ≡ false → 0 < length l
some_left l n b k e f = grind arith

no_left : (l : List ℕ) (n : ℕ) (b : Bool) → n ≡ length l → b ≡ (n == 0) → b ≡ true → l ≡ []
no_left [] n b k e f = refl
no_left (x ∷ l) n b k e f = grind arith

pub returns-then-is_over_there-clause-fault : goal.returns-then-is_over_there-clause-fault
returns-then-is_over_there-clause-fault c bytes h =
    let k = subst (λ (r : ReadingAt). HasCome bytes r) (sym c.self.view_is) h in
    finish_over bytes _ k k.none (sym c.is_over_there.ensures ∙ c.if-is_over_there.true)

pub returns-then-not-is_empty-clause-fault : goal.returns-then-not-is_empty-clause-fault
returns-then-not-is_empty-clause-fault c bytes h =
    let k = subst (λ (r : ReadingAt). HasCome bytes r) (sym c.self.view_is) h in
    finish_left bytes _ k k.none (sym c.is_over_there.ensures ∙ c.if-is_over_there.false) (some_left _ _ _ c.self.inside.left.ok.0 c.is_empty.ensures c.if-not-is_empty.true)

pub returns-in-Some-clause-read : goal.returns-in-Some-clause-read
returns-in-Some-clause-read c bytes h =
    let k = subst (λ (r : ReadingAt). HasCome bytes r) (sym c.self.view_is) h in
    finish_reads bytes _ c.in-Some.triples.items k (sym c.is_over_there.ensures ∙ c.if-is_over_there.false) (no_left _ _ _ c.self.inside.left.ok.0 c.is_empty.ensures c.if-not-is_empty.false)
    (sym c.in_ok-triples.ensures ∙ ap (option_map (λ v. v.items)) c.in-Some.is)

pub returns-clause-fault : goal.returns-clause-fault
returns-clause-fault c bytes h =
    let k = subst (λ (r : ReadingAt). HasCome bytes r) (sym c.self.view_is) h in
    finish_stops bytes _ k (sym c.is_over_there.ensures ∙ c.if-is_over_there.false) (no_left _ _ _ c.self.inside.left.ok.0 c.is_empty.ensures c.if-not-is_empty.false)
    (sym c.in_ok-triples.ensures ∙ ap (option_map (λ v. v.items)) c.in-None.is)
