-- The plan of an object in memory: which of its calls are to fail, and how much one takes.
use Rattle.std.specs.Prelude.{◌≡◌, ℕ, List, Contains}
use Rattle.bye_io.specs.Counts.{raised}
use Rattle.bye_io.specs.declared.plan.Plan.{Plan}

-- the next call is one of those that are to fail
abbrev pub IsToFail : Plan → Type 0
IsToFail plan = Contains plan.fails.items (raised plan.calls)

-- a plan by which the calls of these numbers fail and one takes so many bytes, and that has seen no call
pub record IsNewPlan (plan : Plan) (numbers : List ℕ) (bytes : ℕ) : Type 0 where
  pub fails : plan.fails.items ≡ numbers
  pub most : plan.most ≡ bytes
  pub calls : plan.calls ≡ 0
  pub faults : plan.faults ≡ 0

-- one more call was counted, and the plan stayed
pub record CountsCall (before now : Plan) : Type 0 where
  pub fails : now.fails ≡ before.fails
  pub most : now.most ≡ before.most
  pub calls : now.calls ≡ raised before.calls
