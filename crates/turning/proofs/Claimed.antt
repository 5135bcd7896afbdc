-- The claims hold.
use mathlib.Core.Path.{◌≡◌, refl}
use mathlib.Core.List.{[], ◌∷◌, map}
use Prim.Native.Nat.{◌+◌, ◌^◌}
use Rattle.relations.specs.Sets.{bit, packed, some_below}
use Rattle.pages.specs.Rectangles.{rect_of, valid}
use Rattle.turning.specs.Turn.{turn_rect, turn_relation, turn_clause, turned_rect}
use Rattle.turning.specs.Claims.{Claims}
use Rattle.turning.proofs.Relations.{relation-turned}
use Rattle.turning.proofs.Clauses.{bit-turned, bad-turned, refusal-turned, four-clause, admits-turned}
use Rattle.turning.proofs.Rects.{valid_same, returned-valid, four-rect, four-returned, turned-x, turned-y}
use Rattle.turning.proofs.Lays.{lays, refused-too}
use Rattle.turning.proofs.Both.{two-clauses, two-clauses-after, more-clauses, more-clauses-after}

known-clauses : map turn_clause (2 ^ 4 ∷ 2 ^ 40 ∷ 2 ^ 8 ∷ 2 ^ 39 ∷ (2 ^ 5 + 2 ^ 31) ∷ [])
    ≡ 2 ^ 4 ∷ 2 ^ 40 ∷ 2 ^ 16 ∷ 2 ^ 15 ∷ (2 ^ 5 + 2 ^ 39) ∷ []
unfolding turn_clause turn_relation packed some_below bit
known-clauses = refl

known-rects : map turned_rect (rect_of 999_990 999_995 1_000_000 1_000_000 ∷ rect_of 5 0 5 7 ∷ rect_of 5 0 1_000_001 7 ∷ [])
    ≡ rect_of 999_995 0 1_000_000 10 ∷ rect_of 0 0 0 0 ∷ rect_of 0 0 0 0 ∷ []
unfolding turned_rect turn_rect valid
known-rects = refl

pub claimed : Claims
claimed = record {
  lays = lays;
  refused-too = refused-too;
  two-clauses = two-clauses;
  two-clauses-after = two-clauses-after;
  more-clauses = more-clauses;
  more-clauses-after = more-clauses-after;
  rectangle = valid_same;
  returned = returned-valid;
  named = bit-turned;
  clause = bad-turned;
  query = refusal-turned;
  four-rect = four-rect;
  four-returned = four-returned;
  four-clause = four-clause;
  on-y = turned-y;
  on-x = turned-x;
  relation = relation-turned;
  admitted = λ clauses i j ci cj. admits-turned i j ci cj clauses;
  known-clauses = known-clauses;
  known-rects = known-rects;
}
