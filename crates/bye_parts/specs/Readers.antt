-- Readers of tokens: what is read from the front of a list of tokens, and the tokens that are left. For each combinator of parts there
-- is one of readers. Where a part may begin in several ways, the next token decides.
use Rattle.std.specs.Prelude.{ℕ, zero, suc, Bool, false, cond, List, [], ◌∷◌, length, Option, Some, None}

-- what a reader comes to
pub data Outcome (T V : Type 0) : Type 0 where
  -- a value, and the tokens after it
  Got : V → List T → Outcome T V
  -- the tokens from the wrong one on; none, where the end stands for it
  Wrong : List T → Outcome T V
  -- the tokens from a bracket on that is too deep
  Deep : List T → Outcome T V

-- from tokens to an outcome
abbrev pub Reader : Type 0 → Type 0 → Type 0
Reader T V = List T → Outcome T V

-- a value and the tokens after it are taken on; a stop stays
abbrev pub onward : {T A B : Type 0} → Outcome T A → (A → Reader T B) → Outcome T B
onward (Got v rest) q = q v rest
onward (Wrong rest) q = Wrong rest
onward (Deep rest) q = Deep rest

-- one reader after another
abbrev pub then : {T A B : Type 0} → Reader T A → (A → Reader T B) → Reader T B
then p q ts = onward (p ts) q

-- one reader after another, which sees the value of the first
infixl 10 ◌>>=◌
abbrev pub ◌>>=◌ : {T A B : Type 0} → Reader T A → (A → Reader T B) → Reader T B
p >>= q = then p q

-- one reader after another, with the value of the second
infixl 10 ◌>>◌
abbrev pub ◌>>◌ : {T A B : Type 0} → Reader T A → Reader T B → Reader T B
p >> q = then p (λ _. q)

-- no token, and this value
abbrev pub read_yield : {T V : Type 0} → V → Reader T V
read_yield v ts = Got v ts

-- the next token is taken where it has a value
abbrev pub taken : {T V : Type 0} → Option V → T → List T → Outcome T V
taken None c cs = Wrong (c ∷ cs)
taken (Some v) c cs = Got v cs

-- one token that fits
abbrev pub read_token : {T V : Type 0} → (T → Option V) → Reader T V
read_token fits [] = Wrong []
read_token fits (c ∷ cs) = taken (fits c) c cs

-- whether there is a next token, and it passes the test
abbrev pub begins : {T : Type 0} → (T → Bool) → List T → Bool
begins starts [] = false
begins starts (c ∷ cs) = starts c

-- the value is seen as another; a stop stays
abbrev pub seen_as : {T A B : Type 0} → (A → B) → Outcome T A → Outcome T B
seen_as g (Got v rest) = Got (g v) rest
seen_as g (Wrong rest) = Wrong rest
seen_as g (Deep rest) = Deep rest

-- a reader whose value is seen as another
abbrev pub read_mapped : {T A B : Type 0} → (A → B) → Reader T A → Reader T B
read_mapped g p ts = seen_as g (p ts)

-- the reader, where the next token passes the test
abbrev pub read_optional : {T V : Type 0} → (T → Bool) → Reader T V → Reader T (Option V)
read_optional starts p ts = cond (begins starts ts) (seen_as Some (p ts)) (Got None ts)

-- the first reader where the next token passes the test, and else the second
abbrev pub read_either : {T V : Type 0} → (T → Bool) → Reader T V → Reader T V → Reader T V
read_either starts p q ts = cond (begins starts ts) (p ts) (q ts)

-- a value in front of those that follow
abbrev pub before : {T V : Type 0} → V → Outcome T (List V) → Outcome T (List V)
before v o = seen_as (λ vs. v ∷ vs) o

-- so many rounds at most
abbrev pub rounds : {T V : Type 0} → ℕ → (T → Bool) → Reader T V → Reader T (List V)
rounds zero starts p ts = Got [] ts
rounds (suc n) starts p ts = cond (begins starts ts) (onward (p ts) (λ v rest. before v (rounds n starts p rest))) (Got [] ts)

-- rounds as long as the next token passes the test
unfoldable pub read_repeated : {T V : Type 0} → (T → Bool) → Reader T V → Reader T (List V)
read_repeated starts p ts = rounds (length ts) starts p ts

-- so many rounds at most, each after a separator, and maybe one separator at the end
abbrev pub tail : {T V : Type 0} → ℕ → (T → Bool) → (T → Bool) → Reader T V → Reader T (List V)
tail zero separates starts p ts = Got [] ts
tail (suc n) separates starts p [] = Got [] []
tail (suc n) separates starts p (c ∷ cs) = cond (separates c) (cond (begins starts cs) (onward (p cs) (λ v rest. before v (tail n separates starts p rest))) (Got [] cs)) (Got [] (c ∷ cs))

-- rounds after separators; whether one more follows a separator is seen from the token behind it
unfoldable pub read_trailing : {T V : Type 0} → (T → Bool) → (T → Bool) → Reader T V → Reader T (List V)
read_trailing separates starts p ts = tail (length ts) separates starts p ts

-- the token is taken where it has a value, and what follows comes after it
abbrev pub run_on : {T V : Type 0} → Option V → List T → (V → Outcome T (List V)) → Outcome T (List V)
run_on None ts next = Wrong ts
run_on (Some v) ts next = before v (next v)

-- tokens as long as the next one passes the first test; the other sees the values before it, the last first
abbrev pub read_run : {T V : Type 0} → (T → Bool) → (List V → T → Option V) → List V → Reader T (List V)
read_run starts fits seen [] = Got [] []
read_run starts fits seen (c ∷ cs) = cond (starts c) (run_on (fits seen c) (c ∷ cs) (λ v. read_run starts fits (v ∷ seen) cs)) (Got [] (c ∷ cs))

-- a reader between two tokens
abbrev pub read_between : {T A B V : Type 0} → (T → Option A) → (T → Option B) → Reader T V → Reader T V
read_between opens closes p = do
  read_token opens
  v ← p
  read_token closes
  read_yield v

-- where no bracket may be opened any more
abbrev pub read_deep : {T V : Type 0} → (T → Bool) → Reader T V
read_deep opens [] = Wrong []
read_deep opens (c ∷ cs) = cond (opens c) (Deep (c ∷ cs)) (Wrong (c ∷ cs))

-- a reader between brackets, where so many may still be opened
abbrev pub read_bracketed : {T A B V : Type 0} → (T → Bool) → (T → Option A) → (T → Option B) → ℕ → Reader T V → Reader T V
read_bracketed starts opens closes zero p = read_deep starts
read_bracketed starts opens closes (suc n) p = read_between opens closes p

-- after a value all tokens have to be read
abbrev pub wanted_end : {T V : Type 0} → V → List T → Outcome T V
wanted_end v [] = Got v []
wanted_end v (c ∷ cs) = Wrong (c ∷ cs)

-- what a reader of all tokens comes to
abbrev pub to_end : {T V : Type 0} → Outcome T V → Outcome T V
to_end (Got v left) = wanted_end v left
to_end (Wrong left) = Wrong left
to_end (Deep left) = Deep left

-- the tokens that are left
abbrev pub left_of : {T V : Type 0} → Outcome T V → List T
left_of (Got v left) = left
left_of (Wrong left) = left
left_of (Deep left) = left
