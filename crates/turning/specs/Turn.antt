-- The quarter turn of request 2.9, which is clockwise: north goes to east.
use Rattle.std.specs.Prelude.{ℕ, ◌+◌, ◌-◌, ◌*◌, ◌/◌, ◌%◌, ◌^◌, cond, ◌&&◌, List, map, ltb, eqb}
use Rattle.relations.specs.Sets.{bit, packed, some_below}
use Rattle.relations.specs.Relation.{RELATIONS, directed, direction_of, kind_of}
use Rattle.pages.specs.declared.Rect.{Rect}
use Rattle.pages.specs.Sizes.{EDGE}
use Rattle.pages.specs.Rectangles.{rect_of, valid}
use Rattle.history.specs.Book.{Call}

-- "Send each rectangle, the reference too, to (y1, 1,000,000 - x2, y2, 1,000,000 - x1)"
unfoldable pub turn_rect : Rect → Rect
turn_rect r = rect_of r.y1 (EDGE - r.x2) r.y2 (EDGE - r.x1)

-- "and each direction d to d + 1, with 4 meaning 0"
abbrev pub next_direction : ℕ → ℕ
next_direction d = (d + 1) % 4

-- what relation t becomes; the topological ones, 0 to 7, have no direction
unfoldable pub turn_relation : ℕ → ℕ
turn_relation t = cond (ltb t 8) t (directed (next_direction (direction_of t)) (kind_of t))

-- the clause that names what the relations named by c become. Bits that stand for no relation stay
unfoldable pub turn_clause : ℕ → ℕ
unfolding turn_relation
turn_clause c =
    packed (λ u. some_below (λ t. bit c t && eqb (turn_relation t) u) RELATIONS) RELATIONS
    + 2 ^ RELATIONS * (c / 2 ^ RELATIONS)

-- "the turned query"
abbrev pub turn_query : List ℕ → List ℕ
turn_query clauses = map turn_clause clauses

-- "the turned pieces"
abbrev pub turn_call : Call → Call
turn_call c = record { number = c.number; rect = turn_rect c.rect }

abbrev pub turn_calls : List Call → List Call
turn_calls calls = map turn_call calls

-- what `turned_rect` returns: a rectangle that is not valid has no turn, and gives zeros, which are not valid either
unfoldable pub turned_rect : Rect → Rect
unfolding turn_rect valid
turned_rect r = cond (valid r) (turn_rect r) (rect_of 0 0 0 0)

-- place calls with what it returns
abbrev pub turned_call : Call → Call
turned_call c = record { number = c.number; rect = turned_rect c.rect }

abbrev pub turned_calls : List Call → List Call
turned_calls calls = map turned_call calls
