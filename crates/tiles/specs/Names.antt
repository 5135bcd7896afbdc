-- The tiles by name: the single-tile relations of source document 000, and the sides and corners of document 01's directions.
use Rattle.std.specs.Prelude.{ℕ, Bool, ◌&&◌, List, [], ◌∷◌, leb, get_or}
use Rattle.relations.specs.Sets.{◌to◌}
use Rattle.relations.specs.Axis.{code}
use Rattle.relations.specs.Relation.{in_relation}
use Rattle.pages.specs.declared.Rect.{Rect}

abbrev pub south_west : ℕ
south_west = 0

abbrev pub south : ℕ
south = 1

abbrev pub south_east : ℕ
south_east = 2

abbrev pub west : ℕ
west = 3

-- the reference itself
abbrev pub within : ℕ
within = 4

abbrev pub east : ℕ
east = 5

abbrev pub north_west : ℕ
north_west = 6

abbrev pub north : ℕ
north = 7

abbrev pub north_east : ℕ
north_east = 8

-- the nine relations of 000, a the piece and b the reference, inf and sup being the edges of a rectangle. SW: "supx(a) ≤ infx(b) and
-- supy(a) ≤ infy(b)"; S: "supy(a) ≤ infy(b), infx(b) ≤ infx(a), and supx(a) ≤ supx(b)"; and so on, here y before x and in the order of the
-- tiles: a row of three is south of b, level with it, north of it
unfoldable pub singles : Rect → Rect → List Bool
singles a b =
    (leb a.y2 b.y1 && leb a.x2 b.x1)
    ∷ (leb a.y2 b.y1 && (leb b.x1 a.x1 && leb a.x2 b.x2))
    ∷ (leb a.y2 b.y1 && leb b.x2 a.x1)
    ∷ ((leb b.y1 a.y1 && leb a.y2 b.y2) && leb a.x2 b.x1)
    ∷ ((leb b.y1 a.y1 && leb a.y2 b.y2) && (leb b.x1 a.x1 && leb a.x2 b.x2))
    ∷ ((leb b.y1 a.y1 && leb a.y2 b.y2) && leb b.x2 a.x1)
    ∷ (leb b.y2 a.y1 && leb a.x2 b.x1)
    ∷ (leb b.y2 a.y1 && (leb b.x1 a.x1 && leb a.x2 b.x2))
    ∷ (leb b.y2 a.y1 && leb b.x2 a.x1)
    ∷ []

-- of direction d (0 north, 1 east, 2 south, 3 west): the three tiles on its side
abbrev pub side : ℕ → List ℕ
side d =
    get_or
    ((north_west ∷ north ∷ north_east ∷ [])
    ∷ (north_east ∷ east ∷ south_east ∷ [])
    ∷ (south_east ∷ south ∷ south_west ∷ [])
    ∷ (south_west ∷ west ∷ north_west ∷ [])
    ∷ [])
    d []

-- the middle one of them
abbrev pub middle : ℕ → List ℕ
middle d = get_or ((north ∷ []) ∷ (east ∷ []) ∷ (south ∷ []) ∷ (west ∷ []) ∷ []) d []

-- "strong corner (north_east)"; "Each further d is a quarter turn clockwise"
abbrev pub corner : ℕ → List ℕ
corner d = get_or ((north_east ∷ []) ∷ (south_east ∷ []) ∷ (south_west ∷ []) ∷ (north_west ∷ []) ∷ []) d []

-- "3 covered_by"
abbrev pub COVERED_BY : ℕ
COVERED_BY = 3

-- "k = 0 strong", "k = 2 strong bounded", "k = 4 strong corner", "k = 6 just"
abbrev pub STRONG : ℕ
STRONG = 0

abbrev pub BOUNDED : ℕ
BOUNDED = 2

abbrev pub CORNER : ℕ
CORNER = 4

abbrev pub JUST : ℕ
JUST = 6

-- "(i, j): i the code on y, j on x", with the piece as p and the reference as q; as `query` has them
abbrev pub code_y : Rect → Rect → ℕ
code_y q p = code p.y1 p.y2 q.y1 q.y2

abbrev pub code_x : Rect → Rect → ℕ
code_x q p = code p.x1 p.x2 q.x1 q.x2

-- the piece stands to the reference in relation t
abbrev pub stands : ℕ → Rect → Rect → Bool
stands t p q = in_relation t (code_y q p) (code_x q p)

-- the codes of the sides that have some length before both lines, between them, after both
abbrev pub codes_in : ℕ → List ℕ
codes_in s = get_or ((5 ∷ 8 ∷ 11 ∷ 12 ∷ 13 ∷ []) ∷ (3 to 11) ∷ (1 to 5) ∷ []) s []
