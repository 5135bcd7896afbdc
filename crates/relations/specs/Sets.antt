-- Sets of codes as lists and as the bits of a number; sums, tests and lists over 0 .. n - 1.
use Rattle.std.specs.Prelude.{Bool, false, cond, ◌||◌, List, [], ◌∷◌, ◌++◌, ℕ, zero, suc, ◌+◌, ◌-◌, ◌*◌, ◌/◌, ◌%◌, ◌^◌, eqb}

abbrev pub member : ℕ → List ℕ → Bool
member x [] = false
member x (y ∷ ys) = eqb x y || member x ys

abbrev pub count_from : ℕ → ℕ → List ℕ
count_from a zero = []
count_from a (suc n) = a ∷ count_from (suc a) n

infixl 20 ◌to◌
-- the numbers from a to b
abbrev pub ◌to◌ : ℕ → ℕ → List ℕ
a to b = count_from a (suc b - a)

abbrev pub digit : Bool → ℕ
digit b = cond b 1 0

-- bit k of n, bit 0 the lowest
unfoldable pub bit : ℕ → ℕ → Bool
bit n k = eqb (n / 2 ^ k % 2) 1

-- the places of the ones among the lowest k bits of n, counted from b
unfoldable pub ones_from : ℕ → ℕ → ℕ → List ℕ
ones_from b zero n = []
ones_from b (suc k) n = cond (bit n 0) (b ∷ []) [] ++ ones_from (suc b) k (n / 2)

-- the number whose bit k, for k below n, is f k, and that has no other bit
unfoldable pub packed : (ℕ → Bool) → ℕ → ℕ
packed f zero = 0
packed f (suc n) = digit (f 0) + 2 * packed (λ k. f (suc k)) n

-- f 0 + .. + f (n - 1)
unfoldable pub total : (ℕ → ℕ) → ℕ → ℕ
total f zero = 0
total f (suc n) = total f n + f n

-- some k below n passes
unfoldable pub some_below : (ℕ → Bool) → ℕ → Bool
some_below f zero = false
some_below f (suc n) = some_below f n || f n

-- f 0, .., f (n - 1)
unfoldable pub listed : (ℕ → ℕ) → ℕ → List ℕ
listed f zero = []
listed f (suc n) = f 0 ∷ listed (λ k. f (suc k)) n
