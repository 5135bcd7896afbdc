-- The starred examples of document 01, computed.
use mathlib.Core.Bool.{true}
use mathlib.Core.Path.{◌≡◌, refl}
use Rattle.relations.specs.Sets.{bit, total, some_below}
use Rattle.relations.specs.Axis.{lines, code}
use Rattle.relations.specs.Relation.{in_relation}
use Rattle.relations.specs.Query.{named, admits, admitted_count}
use Rattle.relations.specs.Examples.{all_of, configuration, counted, table}

pub starred : all_of table ≡ true
unfolding all_of table configuration counted code lines admitted_count total admits named some_below bit in_relation
starred = refl
