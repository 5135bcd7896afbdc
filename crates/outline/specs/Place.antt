-- "For a point, answer on the outline, inside or outside." `Meaning` says what `is_on_edge` and `counts` mean, by all points of an edge.
use Rattle.std.specs.Prelude.{ℕ, ◌+◌, ◌*◌, ◌-◌, ◌%◌, min, max, Bool, false, ◌&&◌, ◌||◌, cond, List, [], ◌∷◌, leb, ltb, eqb}
use Rattle.outline.specs.declared.Point.{Point}
use Rattle.outline.specs.declared.Edge.{Edge}
use Rattle.outline.specs.declared.Place.{Place}

-- how far two heights are apart
abbrev pub apart : ℕ → ℕ → ℕ
apart v w = (v - w) + (w - v)

-- Where an edge has the height y, so much of its height is gone and so much is ahead.
abbrev pub gone : Edge → ℕ → ℕ
gone e y = apart e.b y

abbrev pub ahead : Edge → ℕ → ℕ
ahead e y = apart e.d y

abbrev pub parts : Edge → ℕ → ℕ
parts e y = ahead e y + gone e y

-- Its x there, times the parts: a weighs as much as is ahead, c as much as is gone. So nothing is divided.
abbrev pub x_there : Edge → ℕ → ℕ
x_there e y = ahead e y * e.a + gone e y * e.c

-- "it meets the ray" to the east: where the edge has the point's height, it is not west of the point
unfoldable pub meets_ray : Edge → Point → Bool
meets_ray e p = leb (parts e p.y * p.x) (x_there e p.y)

-- "An edge counts when its lower y is at most the point's y and its higher y is above it, and it meets the ray."
unfoldable pub counts : Edge → Point → Bool
counts e p = leb (min e.b e.d) p.y && (ltb p.y (max e.b e.d) && meets_ray e p)

-- z is one of v and w, or lies between them
unfoldable pub between : ℕ → ℕ → ℕ → Bool
between v w z = leb (min v w) z && leb z (max v w)

-- "A point on any edge": between its ends, and where the edge has the point's height. A level edge at that height has no parts, and any
-- point between its ends is on it.
unfoldable pub is_on_edge : Edge → Point → Bool
is_on_edge e p = between e.a e.c p.x && (between e.b e.d p.y && eqb (parts e p.y * p.x) (x_there e p.y))

unfoldable pub on_any : List Edge → Point → Bool
on_any [] p = false
on_any (e ∷ es) p = is_on_edge e p || on_any es p

-- "crossings with the ray to the east"
unfoldable pub crossings : List Edge → Point → ℕ
crossings [] p = 0
crossings (e ∷ es) p = cond (counts e p) 1 0 + crossings es p

abbrev pub odd : ℕ → Bool
odd n = eqb (n % 2) 1

-- "Inside means an odd number of crossings with the ray to the east. .. A point on any edge is answered first."
unfoldable pub place_of : List Edge → Point → Place
place_of es p = cond (on_any es p) Place.On (cond (odd (crossings es p)) Place.Inside Place.Outside)

-- the number of each answer
abbrev pub number_of : Place → ℕ
number_of Place.On = 1
number_of Place.Inside = 2
number_of Place.Outside = 3
