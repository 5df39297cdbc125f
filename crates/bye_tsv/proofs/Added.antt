-- What a CSV writer wrote, a record after another.
use Rattle.std.proofs.Common.{◌≡◌, ℕ, ◌+◌, ◌<◌, ◌≤◌, List, [], ◌∷◌, ◌++◌, length, get_or, take, sym, ◌∙◌, ap, subst, append_assoc}
use Rattle.std.specs.List.{flat_map}
use Rattle.std.proofs.lemmas.List.{append-nil, take_all, take_more}
use Rattle.std.proofs.lemmas.Grind.{flat_map-append}
use Rattle.bye_tsv.specs.Records.{Adds, ByteWriter, HasWritten}

adds_both : (old middle new : ByteWriter) (a b : List ℕ) → Adds old middle a → Adds middle new b → Adds old new (a ++ b)
adds_both old middle new a b f g text h = subst (HasWritten new) (append_assoc text a b) (g (text ++ a) (f text h))

pub adds_next : {X : Type 0} (f : X → List ℕ) (xs : List X) (i : ℕ) (x : X) (old middle new : ByteWriter) → i < length xs → x ≡ get_or xs i x
    → Adds old middle (flat_map f (take i xs)) → Adds middle new (f x) → Adds old new (flat_map f (take (i + 1) xs))
adds_next f xs i x old middle new l e g h =
    let is : flat_map f (take (i + 1) xs) ≡ flat_map f (take i xs) ++ f x =
    ap (flat_map f) (take_more xs i x l) ∙ flat_map-append f (take i xs) (get_or xs i x ∷ []) ∙ (λ j. flat_map f (take i xs) ++ append-nil (f (sym e j)) j) in
    subst (Adds old new) (sym is) (adds_both old middle new (flat_map f (take i xs)) (f x) g h)

pub adds_all : {X : Type 0} (f : X → List ℕ) (xs : List X) (i : ℕ) (old new : ByteWriter) → length xs ≤ i → Adds old new (flat_map f (take i xs)) → Adds old new (flat_map f xs)
adds_all f xs i old new l h = subst (λ ys. Adds old new (flat_map f ys)) (take_all i xs l) h
