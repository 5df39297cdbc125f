use Rattle.std.proofs.Common.{◌≡◌, [], ◌∷◌, ◌<◌, ◌==◌, ℕ, List, Bool, true, false, length, sym, subst, refl, arith}
use Rattle.std.proofs.lemmas.Result.{IfErr-weaker, IfOk-weaker}
use Rattle.bye_tsv.specs.Feeding.{HasCome}
use Rattle.bye_tsv.specs.Reading.{ReadingAt}
use Rattle.bye_tsv.proofs.Feeds.{finish_left, finish_reads, finish_stops}
use Rattle.bye_tsv.proofs.reader.Reading.finish.Goals as goal

some_left : (l : List ℕ) (n : ℕ) (b : Bool) → n ≡ length l → b ≡ (n == 0) → b ≡ false → 0 < length l
some_left l n b k e f = grind arith

no_left : (l : List ℕ) (n : ℕ) (b : Bool) → n ≡ length l → b ≡ (n == 0) → b ≡ true → l ≡ []
no_left [] n b k e f = refl
no_left (x ∷ l) n b k e f = grind arith

pub returns-then-not-is_empty-clause-fault : goal.returns-then-not-is_empty-clause-fault
returns-then-not-is_empty-clause-fault c bytes h =
    let k = subst (λ (r : ReadingAt). HasCome c.args.bounds bytes r) (sym c.self.view_is) h in
    finish_left c.args.bounds bytes _ k (some_left _ _ _ c.self.inside.left.ok.0 c.is_empty.ensures c.if-not-is_empty.true)

pub returns-clause-read : goal.returns-clause-read
returns-clause-read c bytes h =
    let k = subst (λ (r : ReadingAt). HasCome c.args.bounds bytes r) (sym c.self.view_is) h in
    let none = no_left _ _ _ c.self.inside.left.ok.0 c.is_empty.ensures c.if-not-is_empty.false in
    IfOk-weaker c.finish.result _ _ (λ t e. finish_reads c.args.bounds bytes _ t k none e) c.finish.ensures.ok

pub returns-clause-fault : goal.returns-clause-fault
returns-clause-fault c bytes h =
    let k = subst (λ (r : ReadingAt). HasCome c.args.bounds bytes r) (sym c.self.view_is) h in
    let none = no_left _ _ _ c.self.inside.left.ok.0 c.is_empty.ensures c.if-not-is_empty.false in
    IfErr-weaker c.finish.result _ _ (λ e f. finish_stops c.args.bounds bytes _ e k none f) c.finish.ensures.err
