-- What the request promises holds.
use Rattle.nearest.specs.Claims.{Claims}
use Rattle.nearest.proofs.Order.{nearest-first}
use Rattle.nearest.proofs.Distances.{distance-least, distance-most}
use Rattle.nearest.proofs.Examples.{nine-known}
use Rattle.nearest.proofs.Guarantees.{guarantees, larger}

pub claimed : Claims
claimed = record { nearest = nearest-first; distance = distance-least; most = distance-most; guarantees = guarantees; larger = larger; nine = nine-known }
