-- What it costs to go to an entry, and the lesser of two costs.
use Rattle.std.specs.Prelude.{ℕ, Bool, ◌&&◌, ◌||◌, cond, ltb, eqb}
use Rattle.pages.specs.declared.Rect.{Rect}
use Rattle.pages.specs.declared.Entry.{Entry}
use Rattle.placing.specs.declared.choice.Cost.{Cost}
use Rattle.placing.specs.Place.{area, growth}

-- what it costs to go to the entry at a place of a page
abbrev pub cost_of : Rect → (ℕ → Entry) → ℕ → Cost
cost_of new at place = record { growth = growth new (at place).rect; area = area (at place).rect; place = place }

-- `before` of Place, on the costs of two rectangles
abbrev pub costs_less : Cost → Cost → Bool
costs_less a b = ltb a.growth b.growth || (eqb a.growth b.growth && ltb a.area b.area)

abbrev pub lesser : Cost → Cost → Cost
lesser a b = cond (costs_less a b) a b
