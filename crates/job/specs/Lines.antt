-- Lines of the output: "Fields are decimal with one space between, one line each".
use Rattle.std.specs.Prelude.{ℕ, zero, suc, ◌+◌, ◌/◌, ◌%◌, cond, List, [], ◌∷◌, ◌++◌, ltb}

abbrev pub DIGIT_ZERO : ℕ
DIGIT_ZERO = 48

abbrev pub SPACE : ℕ
SPACE = 32

abbrev pub NEWLINE : ℕ
NEWLINE = 10

-- the letters P, Q and R
abbrev pub UNPLACED : ℕ
UNPLACED = 80

abbrev pub ANSWERED : ℕ
ANSWERED = 81

abbrev pub REFUSED : ℕ
REFUSED = 82

-- the digits of n, the last one last, where `turns` divisions by ten suffice
unfoldable pub digits : ℕ → ℕ → List ℕ
digits zero n = []
digits (suc turns) n = cond (ltb n 10) ((DIGIT_ZERO + n) ∷ []) (digits turns (n / 10) ++ ((DIGIT_ZERO + n % 10) ∷ []))

-- n in decimal, with no zero in front
unfoldable pub decimal : ℕ → List ℕ
unfolding digits
decimal n = digits (suc n) n

-- each number after a space
unfoldable pub fields : List ℕ → List ℕ
unfolding decimal
fields [] = []
fields (n ∷ ns) = SPACE ∷ (decimal n ++ fields ns)

unfoldable pub line : ℕ → List ℕ → List ℕ
unfolding fields
line letter ns = letter ∷ (fields ns ++ (NEWLINE ∷ []))
