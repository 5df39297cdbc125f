-- A written query that is gathered is the document of a select, or has the cause of the refusal.
use Rattle.std.proofs.Common.{◌≡◌, ℕ, List, Option, Some, None, sym, subst}
use Rattle.bye_table.specs.Mappings.{Name}
use Rattle.bye_pattern.specs.Selects.{SelectsAll}
use Rattle.bye_pattern.specs.Written.{Written}
use Rattle.bye_pattern.specs.Gathered.{IsDesignedEarly, gather}
use Rattle.bye_grammar.specs.Valid.{IsSelection}
use Rattle.bye_tree.specs.Gathering.{AreNamed, IsCause}
use Rattle.bye_tree.specs.Selects.{Parts, select_of}
use Rattle.bye_tree.specs.declared.gather_err.GatherErr.{GatherErr}
use Rattle.bye_tree.specs.declared.gather_err.GatherErr.TheVariants.{Broken, Projected, Memory}
use Rattle.bye_query.specs.Answers.{IsRead, IsReadAs}
use Rattle.bye_query.specs.Passing.{of_gather}
use Rattle.bye_query.specs.Refusals.{IsRefusal}

pub are_named : (vars : Option (List Name)) → IsSelection vars → AreNamed vars
are_named None names = tt
are_named (Some vs) names = (names.some, names.once)

pub document : (bytes : List ℕ) (w : Written) (s : Parts) → IsReadAs bytes w → select_of s ≡ gather w → IsDesignedEarly w → SelectsAll (gather w) → IsRead bytes (select_of s)
document bytes w s read same early whole = record {
  short = read.short;
  document = record { written = w; text = read.text; read_as = same; early = early; whole = subst SelectsAll (sym same) whole };
  within = read.within;
}

pub refused : (bytes : List ℕ) (w : Written) (error : GatherErr) → IsReadAs bytes w → IsCause w error → IsRefusal bytes (of_gather error)
refused bytes w (Broken shape) read cause = record { short = read.short; written = w; text = read.text; within = read.within; holds = cause }
refused bytes w Projected read cause = record { short = read.short; written = w; text = read.text; within = read.within; holds = cause }
refused bytes w Memory read cause = tt
