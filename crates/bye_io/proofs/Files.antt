-- A folder's files in memory.
use Rattle.std.proofs.Common.{◌≡◌, ℕ, ◌+◌, ◌<◌, List, [], ◌∷◌, ◌++◌, length, get_or, take, drop, Option, Some, None, Bool, true, false, suc, zero, sym, ◌∙◌, ap, refl, arith, add-one, ◌≢◌, cond, ◌↔◌, subst, MatchOption}
use Rattle.std.proofs.lemmas.List.{drop-drop, take-append-drop}
use Rattle.std.proofs.Math.Seq.{drop-nil}
use Rattle.std.proofs.lemmas.Slice.Eq.{bytes_eq-Decides}
use Rattle.std.specs.Prelude.{slice_get, All, is_some}
use Rattle.std.specs.Str.{bytes_eq}
use Rattle.std.specs.declared.vec.Vec.{Vec}
use Rattle.std.specs.declared.alloc.Global.{Global}
use Rattle.bye_io.specs.MemFolder.{bytes_from, lookup, open_bytes, AreDistinct}

bytes_from-past : (file : Option (List ℕ × Vec ℕ Global)) (at n : ℕ) → bytes_from file (at + n) ≡ drop n (bytes_from file at)
bytes_from-past None at n = sym (drop-nil n)
bytes_from-past (Some f) at n = sym (drop-drop n at f.1.items)

-- after n more bytes, n fewer are left
pub open_bytes-past : (files : List (List ℕ × Vec ℕ Global)) (place : Option ℕ) (at n : ℕ) → open_bytes files place (at + n) ≡ drop n (open_bytes files place at)
open_bytes-past files None at n = sym (drop-nil n)
open_bytes-past files (Some i) at n = bytes_from-past (slice_get files i) at n

-- n bytes that were copied and the bytes that are left are what was left
pub copied_open : (files : List (List ℕ × Vec ℕ Global)) (place : Option ℕ) (at n : ℕ) (copied : List ℕ) → copied ≡ take n (open_bytes files place at)
    → open_bytes files place at ≡ copied ++ open_bytes files place (at + n)
copied_open files place at n copied e = rw (e, open_bytes-past files place at n) (sym (take-append-drop n (open_bytes files place at)))

both_answers : (b : Bool) → b ≡ true → b ≡ false → ⊥
both_answers true t f = cc
both_answers false t f = cc

is_false : (b : Bool) → (b ≡ true → ⊥) → b ≡ false
is_false true h = absurd (h refl)
is_false false h = refl

-- an answer of no, where a fact would make it yes
pub denied : {P : Type 0} (b : Bool) → (P → b ≡ true) → b ≡ false → P → ⊥
denied b shows denies p = both_answers b (shows p) denies

none_below : (i : ℕ) → i < 0 → ⊥
none_below i h = omega arith

-- a file at the front that has the name is found
pub lookup_here : (files : List (List ℕ × Vec ℕ Global)) (i : ℕ) (name : List ℕ) (f : List ℕ × Vec ℕ Global) → i < length files → f ≡ get_or files i f → f.0 ≡ name
    → lookup (drop i files) name ≡ Some (bytes_from (slice_get files i) 0)
lookup_here [] i name f h is same = absurd (none_below i h)
lookup_here (g ∷ fs) zero name f h is same =
    let e : bytes_eq g.0 name ≡ true = (bytes_eq-Decides _ _).1 (ap (λ p. p.0) (sym is) ∙ same) in rw e
lookup_here (g ∷ fs) (suc i) name f h is same = lookup_here fs i name f (grind arith) is same

past_front : (files : List (List ℕ × Vec ℕ Global)) (i : ℕ) (name : List ℕ) (f : List ℕ × Vec ℕ Global) → i < length files → f ≡ get_or files i f → (f.0 ≡ name → ⊥)
    → lookup (drop i files) name ≡ lookup (drop (suc i) files) name
past_front [] i name f h is other = absurd (none_below i h)
past_front (g ∷ fs) zero name f h is other =
    let e : bytes_eq g.0 name ≡ false = is_false _ (λ t. other (ap (λ p. p.0) is ∙ (bytes_eq-Decides _ _).0 t)) in rw e
past_front (g ∷ fs) (suc i) name f h is other = past_front fs i name f (grind arith) is other

-- a file at the front that has another name is passed over
pub lookup_past : (files : List (List ℕ × Vec ℕ Global)) (i : ℕ) (name : List ℕ) (f : List ℕ × Vec ℕ Global) → i < length files → f ≡ get_or files i f → (f.0 ≡ name → ⊥)
    → lookup (drop i files) name ≡ lookup (drop (i + 1) files) name
lookup_past files i name f h is other = rw add-one (past_front files i name f h is other)

-- where no two names are the same, each file is found by its name
pub lookup_each : (files : List (List ℕ × Vec ℕ Global)) → AreDistinct files → All (λ f. lookup files f.0 ≡ Some f.1.items) files
lookup_each [] distinct k d h = absurd (none_below k h)
lookup_each (g ∷ fs) distinct zero d h =
    let e : bytes_eq g.0 g.0 ≡ true = (bytes_eq-Decides g.0 g.0).1 refl in rw e
lookup_each (g ∷ fs) distinct (suc k) d h =
    let e : bytes_eq g.0 (get_or fs k d).0 ≡ false = is_false _ (λ t. distinct 0 (suc k) d (grind arith) h ((bytes_eq-Decides _ _).0 t)) in
    rw e (lookup_each fs (λ i j q lower upper. distinct (suc i) (suc j) q (grind arith) (grind arith)) k d (grind arith))

other_nat : (i : ℕ) → i < i → ⊥
other_nat i h = omega arith

-- where no file has the name, none is found
absent_none : (files : List (List ℕ × Vec ℕ Global)) (name : List ℕ) → ((j : ℕ) (d : List ℕ × Vec ℕ Global) → j < length files → name ≢ (get_or files j d).0) → lookup files name ≡ None
absent_none [] name absent = refl
absent_none (g ∷ fs) name absent =
    let e : bytes_eq g.0 name ≡ false = is_false _ (λ t. absent 0 g (grind arith) (sym ((bytes_eq-Decides _ _).0 t))) in
    rw e (absent_none fs name (λ j d h. absent (suc j) d (grind arith)))

cond_none : {X : Type 0} (b : Bool) (x : X) (rest : Option X) → cond b (Some x) rest ≡ None → rest ≡ None
cond_none true x rest h = cc
cond_none false x rest h = h

-- where none is found, no file has the name
none_absent : (files : List (List ℕ × Vec ℕ Global)) (name : List ℕ) → lookup files name ≡ None → (j : ℕ) (d : List ℕ × Vec ℕ Global) → j < length files → name ≢ (get_or files j d).0
none_absent [] name none j d h same = none_below j h
none_absent (g ∷ fs) name none zero d h same =
    let e : bytes_eq g.0 name ≡ true = (bytes_eq-Decides g.0 name).1 (sym same) in
    let found = rw e at none in cc
none_absent (g ∷ fs) name none (suc j) d h same = none_absent fs name (cond_none _ _ _ none) j d (grind arith) same

-- the files after the front one are distinct too
pub distinct_after : (f : List ℕ × Vec ℕ Global) (fs : List (List ℕ × Vec ℕ Global)) → AreDistinct (f ∷ fs) → AreDistinct fs
distinct_after f fs distinct i j d lower upper = distinct (suc i) (suc j) d (grind arith) (grind arith)

-- no file after the front one has its name
pub distinct_front : (f : List ℕ × Vec ℕ Global) (fs : List (List ℕ × Vec ℕ Global)) → AreDistinct (f ∷ fs) → lookup fs f.0 ≡ None
distinct_front f fs distinct = absent_none fs f.0 (λ j d h. distinct 0 (suc j) d (grind arith) (grind arith))

-- a file whose name no other has goes before distinct files
pub distinct_more : (f : List ℕ × Vec ℕ Global) (fs : List (List ℕ × Vec ℕ Global)) → lookup fs f.0 ≡ None → AreDistinct fs → AreDistinct (f ∷ fs)
distinct_more f fs none distinct zero zero d lower upper = absurd (other_nat 0 lower)
distinct_more f fs none distinct zero (suc j) d lower upper = none_absent fs f.0 none j d (grind arith)
distinct_more f fs none distinct (suc i) zero d lower upper = absurd (none_below (suc i) lower)
distinct_more f fs none distinct (suc i) (suc j) d lower upper = distinct i j d (grind arith) (grind arith)

-- what a search for a name tells
abbrev pub Finds : Option ℕ → List (List ℕ × Vec ℕ Global) → List ℕ → Type 0
Finds found files name = MatchOption found (lookup files name ≡ None) (λ i. lookup files name ≡ Some (open_bytes files (Some i) 0))

pub not_yes : false ≡ true → ⊥
not_yes h = cc

-- a name that is found again is not distinct
pub found_again : (found : Option ℕ) (rest fs : List (List ℕ × Vec ℕ Global)) (f : List ℕ × Vec ℕ Global) → rest ≡ f ∷ fs → Finds found fs f.0 → is_some found ≡ true
    → AreDistinct rest → ⊥
found_again None rest fs f e none found distinct = cc
found_again (Some i) rest fs f e some found distinct = let none = distinct_front f fs (subst AreDistinct e distinct) in cc

-- a front name that is not found again leaves the question to the files after it
pub not_again : (found : Option ℕ) (rest fs : List (List ℕ × Vec ℕ Global)) (f : List ℕ × Vec ℕ Global) → rest ≡ f ∷ fs → Finds found fs f.0 → is_some found ≡ false
    → AreDistinct rest ↔ AreDistinct fs
not_again None rest fs f e none found =
    (λ distinct. distinct_after f fs (subst AreDistinct e distinct), λ distinct. subst AreDistinct (sym e) (distinct_more f fs none distinct))
not_again (Some i) rest fs f e some found = absurd (not_yes (sym found))
