-- The refusals of trees and of written queries.
use Rattle.bye_tree.specs.declared.gather_err.GatherErr.{GatherErr}
use Rattle.bye_tree.specs.declared.gather_err.GatherErr.TheVariants as gathers
use Rattle.bye_tree.specs.declared.shape.ShapeErr.{ShapeErr}
use Rattle.bye_tree.specs.declared.shape.ShapeErr.TheVariants.{Broken, Memory}

-- the refusal of a written query whose groups are refused
abbrev pub gather_err_of : ShapeErr → GatherErr
gather_err_of (Broken s) = gathers.Broken s
gather_err_of Memory = gathers.Memory
