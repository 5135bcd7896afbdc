-- What a list of pages changes where one after the other is opened.
use Rattle.std.specs.Prelude.{ℕ, suc, ◌≡◌, List, [], ◌∷◌}

-- `visited u n p v`: u becomes v at page p, which is opened after n others
unfoldable pub VisitsAll : {V : Type 0} → (V → ℕ → ℕ → V → Type 0) → V → ℕ → List ℕ → V → Type 0
VisitsAll visited u n [] v = v ≡ u
VisitsAll visited u n (p ∷ ps) v = (w : _) × visited u n p w × VisitsAll visited w (suc n) ps v
