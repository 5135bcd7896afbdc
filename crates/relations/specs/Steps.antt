-- What the inner functions are held to: the side of a number, rows of one relation and of one clause, and the row sets joined for a page's code.
use Rattle.std.specs.Prelude.{Bool, not, cond, ◌&&◌, ◌||◌, List, [], ◌∷◌, ℕ, zero, suc, ◌+◌, ◌-◌, leb, ltb, eqb, get_or}
use Rattle.std.specs.Int.Bits.{bit_and, bit_or}
use Rattle.std.specs.List.{list_all}
use Rattle.relations.specs.declared.Reach.{Reach}
use Rattle.relations.specs.declared.Reach.TheVariants.{Inner, Near, Anywhere}
use Rattle.relations.specs.Sets.{digit, bit, packed, some_below, listed}
use Rattle.relations.specs.Axis.{CODES}
use Rattle.relations.specs.Relation.{in_relation}
use Rattle.relations.specs.Query.{named}
use Rattle.relations.specs.Nodes.{inside, node_mask}

-- where a lies to b: 0 above it, 1 at it, 2 below it
unfoldable pub side_of : ℕ → ℕ → ℕ
side_of a b = digit (leb a b) + digit (ltb a b)

-- the codes j of relation t beside code i, as a number
unfoldable pub relation_row : ℕ → ℕ → ℕ
relation_row t i = packed (λ k. in_relation t i (suc k)) CODES

-- the codes j that a clause names beside code i, as a number
unfoldable pub named_row : ℕ → ℕ → ℕ
named_row clause i = packed (λ k. named clause i (suc k)) CODES

-- thirteen rows with those of relation t added
unfoldable pub with_relation : List ℕ → ℕ → List ℕ
with_relation rows t = listed (λ h. bit_or (get_or rows h 0) (relation_row t (suc h))) CODES

-- thirteen rows cut down to those of a clause
unfoldable pub cut_to : List ℕ → ℕ → List ℕ
cut_to rows clause = listed (λ h. bit_and (get_or rows h 0) (named_row clause (suc h))) CODES

-- the union of the first n rows whose code can stand inside a page of code c
unfoldable pub joined_to : List ℕ → ℕ → ℕ → ℕ
joined_to rows c zero = 0
joined_to rows c (suc n) = bit_or (joined_to rows c n) (cond (inside c (suc n)) (get_or rows n 0) 0)

-- what was joined, and the rows at these places
unfoldable pub union_of : List ℕ → ℕ → List ℕ → ℕ
union_of rows joined [] = joined
union_of rows joined (h ∷ hs) = union_of rows (bit_or joined (get_or rows h 0)) hs

-- what may stand below a page of code c on y, at place c - 1
unfoldable pub joined_of : List ℕ → List ℕ
joined_of rows = listed (λ c. joined_to rows (suc c) CODES) CODES

-- the set of page code c as a number, at place c - 1
unfoldable pub node_masks : List ℕ
node_masks = listed (λ c. node_mask (suc c)) CODES

-- the page test on joined rows: some code of the row of cy is in the set of cx
unfoldable pub page_test : List ℕ → ℕ → ℕ → Bool
page_test joined cy cx = some_below (λ k. inside cx (suc k) && bit (get_or joined (cy - 1) 0) k) CODES

-- the code of a page in which every code can stand
abbrev pub AROUND : ℕ
AROUND = 5

-- something admitted can stand below a page of code c on one axis, whatever its code on the other
unfoldable pub open_at : List ℕ → ℕ → Bool
open_at joined c = page_test joined c AROUND || page_test joined AROUND c

-- nothing is admitted with code 1, 2 or 13 on an axis, so both codes are in 3 to 12
unfoldable pub near_by : List ℕ → Bool
near_by joined = not (open_at joined 1) && (not (open_at joined 2) && not (open_at joined CODES))

-- nothing is admitted with code 1, 2, 12 or 13 on an axis, so both codes are in 3 to 11
unfoldable pub inner_by : List ℕ → Bool
unfolding near_by
inner_by joined = near_by joined && not (open_at joined 12)

-- how far from the reference rectangles can be admitted
unfoldable pub reach_by : List ℕ → Reach
unfolding near_by inner_by
reach_by joined = cond (inner_by joined) Inner (cond (near_by joined) Near Anywhere)

-- the codes 3 to 11 as a number; a row has them all
abbrev pub OVERLAPPING : ℕ
OVERLAPPING = 2_044

abbrev pub has_overlapping : ℕ → Bool
has_overlapping row = eqb (bit_and row OVERLAPPING) OVERLAPPING

-- all 81 configurations with both codes in 3 to 11 are admitted
unfoldable pub whole_by : List ℕ → Bool
whole_by rows = list_all has_overlapping (listed (λ k. get_or rows (k + 2) 0) 9)

-- they are, and no others: the admitted set of overlap
unfoldable pub overlap_by : List ℕ → List ℕ → Bool
unfolding inner_by whole_by
overlap_by rows joined = inner_by joined && whole_by rows

-- the leaf test on row sets: (i, j) is in them
unfoldable pub rows_have : List ℕ → ℕ → ℕ → Bool
rows_have rows i j = bit (get_or rows (i - 1) 0) (j - 1)
