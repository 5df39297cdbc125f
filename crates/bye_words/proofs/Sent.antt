-- Bytes that are sent one piece after another.
use Rattle.std.proofs.Common.{◌≡◌, ℕ, ◌+◌, List, ◌++◌, length, take, Option, Some, None, Result, Ok, Err, OnOk, OnErr, sym, ◌∙◌, ap, subst, append_assoc, arith, length-append}
use Rattle.std.proofs.lemmas.List.{take-append-le}
use Rattle.std.proofs.Math.Seq.{take-append-add}
use Rattle.std.specs.Io.KnownBytes.{Appends}
use Rattle.bye_io.specs.Bytes.{AppendsPart}

-- two pieces were sent whole
pub both : (a b c : Option (List ℕ)) (x y : List ℕ) → Appends a b x → Appends b c y → Appends a c (x ++ y)
both None b c x y h k = tt
both (Some p) None c x y h k = absurd h
both (Some p) (Some q) None x y h k = absurd k
both (Some p) (Some q) (Some r) x y h k = k ∙ ap (λ q. q ++ y) h ∙ append_assoc p x y

-- a front part of the first piece was sent
pub front : (a b : Option (List ℕ)) (x y : List ℕ) → AppendsPart a b x → AppendsPart a b (x ++ y)
front a b x y (n, less, h) = (n, omega (arith, length-append x y), subst (λ bytes. Appends a b bytes) (sym (take-append-le n x y (omega arith))) h)

-- the first piece was sent, and a front part of the second one
pub later : (a b c : Option (List ℕ)) (x y : List ℕ) → Appends a b x → AppendsPart b c y → AppendsPart a c (x ++ y)
later a b c x y h (n, less, k) = (length x + n, omega (arith, length-append x y), subst (λ bytes. Appends a c bytes) (sym (take-append-add x y n)) (both a b c x (take n y) h k))

-- the same of a call that may fail
pub front_part : {T E : Type 0} (r : Result T E) (a b : Option (List ℕ)) (x y whole : List ℕ) → whole ≡ x ++ y → AppendsPart a b x → OnErr r (AppendsPart a b whole)
front_part (Ok v) a b x y whole is h = tt
front_part (Err e) a b x y whole is h = subst (λ bytes. AppendsPart a b bytes) (sym is) (front a b x y h)

pub then_part : {T E : Type 0} (r : Result T E) (a b c : Option (List ℕ)) (x y whole : List ℕ) → whole ≡ x ++ y → Appends a b x → OnErr r (AppendsPart b c y) → OnErr r (AppendsPart a c whole)
then_part (Ok v) a b c x y whole e h k = tt
then_part (Err e) a b c x y whole is h k = subst (λ bytes. AppendsPart a c bytes) (sym is) (later a b c x y h k)

pub then_whole : {T E : Type 0} (r : Result T E) (a b c : Option (List ℕ)) (x y whole : List ℕ) → whole ≡ x ++ y → Appends a b x → OnOk r (Appends b c y) → OnOk r (Appends a c whole)
then_whole (Ok v) a b c x y whole is h k = subst (λ bytes. Appends a c bytes) (sym is) (both a b c x y h k)
then_whole (Err e) a b c x y whole is h k = tt
