-- Parts of a grammar. A part says which lists of tokens derive from it, each with the value that it stands for, and which lists are
-- its fronts. Each combinator has one rule for what derives and one for fronts.
use Rattle.std.specs.Prelude.{◌≡◌, ℕ, zero, suc, List, [], ◌∷◌, ◌++◌, Option, Some, None, ◌⊎◌}

-- which tokens derive from a part, as which value, and which are its fronts
pub record Part (T V : Type 0) : Type 1 where
  pub derives : List T → V → Type 0
  pub front : List T → Type 0

-- one token that fits; the test gives its value. Fronts: the empty list, and the token.
abbrev pub token : {T V : Type 0} → (T → Option V) → Part T V
token {T} {V} fits = record {
  derives = λ ts v. (t : T) × (ts ≡ t ∷ []) × (fits t ≡ Some v);
  front = λ ts. (ts ≡ []) ⊎ ((t : T) × (v : V) × (ts ≡ t ∷ []) × (fits t ≡ Some v));
}

-- a first part derives some tokens, and the part that follows its value the rest
pub record Sequence {T A B : Type 0} (P : Part T A) (Q : A → Part T B) (ts : List T) (w : B) : Type 0 where
  pub own : List T
  pub rest : List T
  pub value : A
  pub parts : ts ≡ own ++ rest
  pub first : P.derives own value
  pub next : (Q value).derives rest w

-- a first part derives some tokens, and the rest is a front of the part that follows its value
pub record Beyond {T A B : Type 0} (P : Part T A) (Q : A → Part T B) (ts : List T) : Type 0 where
  pub own : List T
  pub rest : List T
  pub value : A
  pub parts : ts ≡ own ++ rest
  pub first : P.derives own value
  pub next : (Q value).front rest

-- one part after another. Fronts: those of the first, and what it derives followed by those of the next.
abbrev pub sequence : {T A B : Type 0} → Part T A → (A → Part T B) → Part T B
sequence P Q = record { derives = λ ts w. Sequence P Q ts w; front = λ ts. P.front ts ⊎ Beyond P Q ts }

-- a sequence whose second part sees the value of the first
infixl 10 ◌>>=◌
abbrev pub ◌>>=◌ : {T A B : Type 0} → Part T A → (A → Part T B) → Part T B
P >>= Q = sequence P Q

-- a sequence that has the value of its second part
infixl 10 ◌>>◌
abbrev pub ◌>>◌ : {T A B : Type 0} → Part T A → Part T B → Part T B
P >> Q = sequence P (λ _. Q)

-- no token, and this value
abbrev pub yield : {T V : Type 0} → V → Part T V
yield v = record { derives = λ ts w. (ts ≡ []) × (w ≡ v); front = λ ts. ts ≡ [] }

-- nothing derives
abbrev pub nothing : {T V : Type 0} → Part T V
nothing = record { derives = λ ts w. ⊥; front = λ ts. ts ≡ [] }

-- a choice. Fronts: those of each.
abbrev pub either : {T V : Type 0} → Part T V → Part T V → Part T V
either P Q = record { derives = λ ts v. P.derives ts v ⊎ Q.derives ts v; front = λ ts. P.front ts ⊎ Q.front ts }

-- the value is there and its tokens derive, or there are no tokens
abbrev pub Maybe : {T V : Type 0} → (List T → V → Type 0) → List T → Option V → Type 0
Maybe D ts None = ts ≡ []
Maybe D ts (Some v) = D ts v

-- an optional part. Fronts: the empty list, and those of the part.
abbrev pub optional : {T V : Type 0} → Part T V → Part T (Option V)
optional P = record { derives = Maybe P.derives; front = λ ts. (ts ≡ []) ⊎ P.front ts }

-- rounds that derive the tokens one after another
abbrev pub Rounds : {T V : Type 0} → (List T → V → Type 0) → List T → List V → Type 0
Rounds {T} D ts [] = ts ≡ []
Rounds {T} D ts (v ∷ vs) = (own : List T) × (rest : List T) × (ts ≡ own ++ rest) × D own v × Rounds D rest vs

-- some rounds, and a front of one more
pub record Another {T V : Type 0} (P : Part T V) (ts : List T) : Type 0 where
  pub own : List T
  pub rest : List T
  pub values : List V
  pub parts : ts ≡ own ++ rest
  pub rounds : Rounds P.derives own values
  pub next : P.front rest

-- a repetition. Fronts: what some rounds derive, followed by a front of one more.
abbrev pub repeated : {T V : Type 0} → Part T V → Part T (List V)
repeated P = record { derives = Rounds P.derives; front = λ ts. Another P ts }

-- rounds of a part, each after a separator, and maybe one separator at the end
abbrev pub trailing : {T S V : Type 0} → Part T S → Part T V → Part T (List V)
trailing separator P = do
  vs ← repeated (separator >> P)
  optional separator
  yield vs

-- tokens one after another, where each fits after the values before it, the last of them first
abbrev pub Run : {T V : Type 0} → (List V → T → Option V) → List V → List T → List V → Type 0
Run fits seen [] vs = vs ≡ []
Run fits seen (t ∷ ts) [] = ⊥
Run fits seen (t ∷ ts) (v ∷ vs) = (fits seen t ≡ Some v) × Run fits (v ∷ seen) ts vs

-- a repetition of one token whose test sees the values before it
abbrev pub run : {T V : Type 0} → (List V → T → Option V) → List V → Part T (List V)
run {T} {V} fits seen = record { derives = Run fits seen; front = λ ts. (vs : List V) × Run fits seen ts vs }

-- a part whose value is seen as another
abbrev pub mapped : {T A B : Type 0} → (A → B) → Part T A → Part T B
mapped {T} {A} g P = record { derives = λ ts w. (v : A) × P.derives ts v × (w ≡ g v); front = P.front }

-- a part between two tokens
abbrev pub between : {T A B V : Type 0} → (T → Option A) → (T → Option B) → Part T V → Part T V
between opens closes P = do
  token opens
  v ← P
  token closes
  yield v

-- a part between brackets, of which so many may be open in one another
abbrev pub bracketed : {T A B V : Type 0} → (T → Option A) → (T → Option B) → ℕ → Part T V → Part T V
bracketed opens closes zero P = nothing
bracketed opens closes (suc d) P = between opens closes P

-- what derives at some depth of brackets, and the fronts of all depths
abbrev pub any : {T V : Type 0} → (ℕ → Part T V) → Part T V
any P = record { derives = λ ts v. (d : ℕ) × (P d).derives ts v; front = λ ts. (d : ℕ) × (P d).front ts }
