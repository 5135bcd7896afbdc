-- The known outlines, computed.
use mathlib.Core.Path.{◌≡◌, refl}
use mathlib.Core.List.{map}
use Rattle.outline.specs.Outline.{points, path, edges}
use Rattle.outline.specs.Area.{area_twice}
use Rattle.outline.specs.Place.{meets_ray, counts, between, is_on_edge, on_any, crossings, place_of}
use Rattle.outline.specs.Refusals.{ACCEPTED, wrong_count, within, outline_refusal}
use Rattle.outline.specs.Calls.{area_call, point_call}
use Rattle.outline.specs.Examples.{areas, answers}
use Rattle.outline.specs.Claims.{area_of, located_of}

pub known-areas : map (λ k. area_call k.outline) areas ≡ map (λ k. area_of ACCEPTED k.twice) areas
unfolding area_call outline_refusal wrong_count within points path edges area_twice
known-areas = refl

pub known-places : map (λ k. point_call k.outline k.x k.y) answers ≡ map (λ k. located_of ACCEPTED k.number) answers
unfolding point_call outline_refusal wrong_count within points path edges place_of on_any crossings is_on_edge between counts meets_ray
known-places = refl
