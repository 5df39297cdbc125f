-- What a reader of the program tells: its value, or where it stopped, is what the reader of lists comes to. Want of memory tells nothing.
use Rattle.std.specs.Prelude.{◌≡◌, List, Result, Ok, Err}
use Rattle.bye_parts.specs.Readers.{Outcome, Got, Wrong, Deep}
use Rattle.bye_tokens.specs.declared.token.Placed.{Placed}
use Rattle.bye_descent.specs.declared.stop.Stop.{Stop}
use Rattle.bye_descent.specs.declared.stop.Stop.TheVariants as stops

-- reading stopped, and these tokens are left
abbrev pub Stopped : {V : Type 0} → Stop → List Placed → Outcome Placed V → Type 0
Stopped stops.Wrong left o = o ≡ Wrong left
Stopped stops.Deep left o = o ≡ Deep left
Stopped stops.Memory left o = Unit {0}

-- a value was read, or reading stopped, and these tokens are left
abbrev pub Told : {V : Type 0} → Result V Stop → List Placed → Outcome Placed V → Type 0
Told (Ok v) left o = o ≡ Got v left
Told (Err stop) left o = Stopped stop left o

-- the same of a value that is seen as another
abbrev pub ToldAs : {R V : Type 0} → (R → V) → Result R Stop → List Placed → Outcome Placed V → Type 0
ToldAs view (Ok v) left o = o ≡ Got (view v) left
ToldAs view (Err stop) left o = Stopped stop left o
