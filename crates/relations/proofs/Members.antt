-- The sizes and members of the forty relations, computed.
use mathlib.Core.Bool.{true}
use mathlib.Core.Path.{◌≡◌, refl}
use Rattle.relations.specs.Sets.{bit, total, some_below, listed}
use Rattle.relations.specs.Relation.{RELATIONS, in_relation}
use Rattle.relations.specs.Query.{named, admits, admitted_count}
use Rattle.relations.specs.Members.{size, relation_sizes, has, have_from, relation_members}

pub sizes : listed size RELATIONS ≡ relation_sizes
unfolding listed admitted_count total admits named some_below bit in_relation
sizes = refl

pub members : have_from 0 relation_members ≡ true
unfolding have_from has admits named some_below bit in_relation
members = refl
