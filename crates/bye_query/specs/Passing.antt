-- The refusals of tokens and of written queries, passed on as refusals of bytes.
use Rattle.std.specs.Prelude.{Some, None}
use Rattle.bye_descent.specs.declared.stopped.Stopped.{Stopped}
use Rattle.bye_descent.specs.declared.stopped.Stopped.TheVariants as stopped
use Rattle.bye_tree.specs.declared.gather_err.GatherErr.{GatherErr}
use Rattle.bye_tree.specs.declared.gather_err.GatherErr.TheVariants as gathers
use Rattle.bye_query.specs.declared.query_err.QueryErr.{QueryErr}
use Rattle.bye_query.specs.declared.query_err.QueryErr.TheVariants.{Syntax, LeftOut, UnknownPrefix, TooDeep, Broken, Projected, Memory}

-- of tokens
abbrev pub of_stopped : Stopped → QueryErr
of_stopped (stopped.WrongToken place None) = Syntax place
of_stopped (stopped.WrongToken place (Some feature)) = LeftOut place feature
of_stopped (stopped.UnknownPrefix place) = UnknownPrefix place
of_stopped (stopped.DeepToken place) = TooDeep place
of_stopped stopped.Memory = Memory

-- of a written query
abbrev pub of_gather : GatherErr → QueryErr
of_gather (gathers.Broken shape) = Broken shape
of_gather gathers.Projected = Projected
of_gather gathers.Memory = Memory
