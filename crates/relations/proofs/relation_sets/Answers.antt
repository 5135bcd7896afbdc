-- Each arm reads a table of the source: its masks are those of the code lists, and `Tables` says which lists a relation has.
use native.Mathlib.Omega.{arith}
use Rattle.relations.specs.Sets.{packed}
use Rattle.relations.specs.Relation.{mask_of}
use Rattle.relations.proofs.Tables.{topo-sets, north-sets, east-sets, south-sets, west-sets, no-sets}
use Rattle.relations.proofs.relation_sets.Goals as goal

pub returns-in-0-to-7 : goal.returns-in-0-to-7
unfolding mask_of packed
returns-in-0-to-7 c = topo-sets c.args.t (omega arith)

pub returns-in-8-to-15 : goal.returns-in-8-to-15
unfolding mask_of packed
returns-in-8-to-15 c = north-sets c.args.t (omega arith) (omega arith)

pub returns-in-16-to-23 : goal.returns-in-16-to-23
unfolding mask_of packed
returns-in-16-to-23 c = east-sets c.args.t (omega arith) (omega arith)

pub returns-in-24-to-31 : goal.returns-in-24-to-31
unfolding mask_of packed
returns-in-24-to-31 c = south-sets c.args.t (omega arith) (omega arith)

pub returns-in-32-to-39 : goal.returns-in-32-to-39
unfolding mask_of packed
returns-in-32-to-39 c = west-sets c.args.t (omega arith) (omega arith)

pub returns-in_default : goal.returns-in_default
returns-in_default c = no-sets c.args.t (omega arith)
