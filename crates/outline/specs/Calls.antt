-- The two calls: what each returns for the words of an outline, whatever they are.
use Rattle.std.specs.Prelude.{ℕ, cond, List, ◌∷◌, eqb, ℤ, pos, Result, Ok, Err}
use Rattle.refusals.specs.declared.Refusal.{Refusal}
use Rattle.refusals.specs.Numbers as Numbers
use Rattle.outline.specs.declared.Area.{Area}
use Rattle.outline.specs.declared.Located.{Located}
use Rattle.outline.specs.declared.Place.{Place}
use Rattle.outline.specs.Outline.{points, point, edges}
use Rattle.outline.specs.Area.{area_twice}
use Rattle.outline.specs.Place.{place_of, number_of}
use Rattle.outline.specs.Refusals.{ACCEPTED, outline_refusal}

-- "zero when refused"
unfoldable pub area_call : List ℕ → Area
area_call ws =
    let refusal = outline_refusal ws ws in
    record { refusal = refusal; twice_area = cond (eqb refusal ACCEPTED) (area_twice (edges (points ws))) (pos 0) }

-- the answer's number, 0 when refused
unfoldable pub point_call : List ℕ → ℕ → ℕ → Located
point_call ws x y =
    let refusal = outline_refusal ws (x ∷ (y ∷ ws)) in
    record { refusal = refusal; place = cond (eqb refusal ACCEPTED) (number_of (place_of (edges (points ws)) (point x y))) 0 }

-- what C gets of each call's answer
abbrev pub area_from : Result ℤ Refusal → Area
area_from (Ok area) = record { refusal = ACCEPTED; twice_area = area }
area_from (Err refusal) = record { refusal = Numbers.number_of refusal; twice_area = pos 0 }

abbrev pub located_from : Result Place Refusal → Located
located_from (Ok place) = record { refusal = ACCEPTED; place = number_of place }
located_from (Err refusal) = record { refusal = Numbers.number_of refusal; place = 0 }
