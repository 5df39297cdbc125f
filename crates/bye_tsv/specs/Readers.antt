-- A reader of table documents as contracts see it.
use Rattle.bye_tsv.specs.declared.fault.Bounds.{Bounds}
use Rattle.bye_tsv.specs.declared.pieces.State.{State}

-- its bounds, and what it is
pub record ReaderAt : Type 0 where
  pub bounds : Bounds
  pub state : State
