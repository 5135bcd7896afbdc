-- The size of each relation, and configurations that it has, as document 01 gives them.
use Rattle.std.specs.Prelude.{Bool, true, ◌&&◌, List, [], ◌∷◌, ◌++◌, map, ℕ, suc, ◌^◌}
use Rattle.relations.specs.Sets.{◌to◌}
use Rattle.relations.specs.Query.{admits, admitted_count}

-- how many configurations relation t has
abbrev pub size : ℕ → ℕ
size t = admitted_count (2 ^ t ∷ [])

-- disjoint, meet, overlap, covered_by, inside, equal, covers, contains
abbrev pub topological_sizes : List ℕ
topological_sizes = 169 ∷ 121 ∷ 81 ∷ 16 ∷ 1 ∷ 1 ∷ 16 ∷ 1 ∷ []

-- strong, weak, strong bounded, weak bounded, strong corner, weak corner, just, plain: in each direction
abbrev pub direction_sizes : List ℕ
direction_sizes = 13 ∷ 13 ∷ 1 ∷ 1 ∷ 1 ∷ 3 ∷ 13 ∷ 39 ∷ []

-- the size of relation t at place t
abbrev pub relation_sizes : List ℕ
relation_sizes = topological_sizes ++ direction_sizes ++ direction_sizes ++ direction_sizes ++ direction_sizes

-- Then configurations (i, j) of each: with its size they leave room for no other set of codes on y or on x.

-- "both codes in": one for each of the codes
abbrev pub on_both : List ℕ → List (ℕ × ℕ)
on_both codes = map (λ c. (c, c)) codes

abbrev pub topological_members : List (List (ℕ × ℕ))
topological_members =
    on_both (1 to 13)
    ∷ on_both (2 to 12)
    ∷ on_both (3 to 11)
    ∷ on_both (6 ∷ 7 ∷ 9 ∷ 10 ∷ [])
    ∷ on_both (9 ∷ [])
    ∷ on_both (7 ∷ [])
    ∷ on_both (4 ∷ 5 ∷ 7 ∷ 8 ∷ [])
    ∷ on_both (5 ∷ [])
    ∷ []

-- strong, weak, strong bounded, weak bounded, strong corner, weak corner, just, plain; then the same in the other directions
abbrev pub north_members : List (List (ℕ × ℕ))
north_members =
    ((1, 1) ∷ (1, 13) ∷ [])
    ∷ ((3, 1) ∷ (3, 13) ∷ [])
    ∷ ((1, 9) ∷ [])
    ∷ ((3, 9) ∷ [])
    ∷ ((1, 1) ∷ [])
    ∷ ((3, 1) ∷ (3, 2) ∷ (3, 3) ∷ [])
    ∷ ((2, 1) ∷ (2, 13) ∷ [])
    ∷ ((1, 1) ∷ (2, 2) ∷ (3, 3) ∷ (3, 13) ∷ [])
    ∷ []

abbrev pub east_members : List (List (ℕ × ℕ))
east_members =
    ((1, 1) ∷ (13, 1) ∷ [])
    ∷ ((1, 3) ∷ (13, 3) ∷ [])
    ∷ ((9, 1) ∷ [])
    ∷ ((9, 3) ∷ [])
    ∷ ((13, 1) ∷ [])
    ∷ ((13, 3) ∷ (12, 3) ∷ (11, 3) ∷ [])
    ∷ ((1, 2) ∷ (13, 2) ∷ [])
    ∷ ((13, 1) ∷ (12, 2) ∷ (11, 3) ∷ (1, 3) ∷ [])
    ∷ []

abbrev pub south_members : List (List (ℕ × ℕ))
south_members =
    ((13, 1) ∷ (13, 13) ∷ [])
    ∷ ((11, 1) ∷ (11, 13) ∷ [])
    ∷ ((13, 9) ∷ [])
    ∷ ((11, 9) ∷ [])
    ∷ ((13, 13) ∷ [])
    ∷ ((11, 13) ∷ (11, 12) ∷ (11, 11) ∷ [])
    ∷ ((12, 1) ∷ (12, 13) ∷ [])
    ∷ ((13, 13) ∷ (12, 12) ∷ (11, 11) ∷ (11, 1) ∷ [])
    ∷ []

abbrev pub west_members : List (List (ℕ × ℕ))
west_members =
    ((1, 13) ∷ (13, 13) ∷ [])
    ∷ ((1, 11) ∷ (13, 11) ∷ [])
    ∷ ((9, 13) ∷ [])
    ∷ ((9, 11) ∷ [])
    ∷ ((1, 13) ∷ [])
    ∷ ((3, 11) ∷ (2, 11) ∷ (1, 11) ∷ [])
    ∷ ((1, 12) ∷ (13, 12) ∷ [])
    ∷ ((1, 13) ∷ (2, 12) ∷ (3, 11) ∷ (13, 11) ∷ [])
    ∷ []

-- those of relation t at place t
abbrev pub relation_members : List (List (ℕ × ℕ))
relation_members = topological_members ++ north_members ++ east_members ++ south_members ++ west_members

-- relation t has these configurations
unfoldable pub has : ℕ → List (ℕ × ℕ) → Bool
has t [] = true
has t (c ∷ cs) = admits (2 ^ t ∷ []) c.0 c.1 && has t cs

-- the relations from t on have those of the lines, one line after the other
unfoldable pub have_from : ℕ → List (List (ℕ × ℕ)) → Bool
have_from t [] = true
have_from t (cs ∷ css) = has t cs && have_from (suc t) css
