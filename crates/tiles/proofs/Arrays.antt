-- What `default` of an array gives, as a list.
use Prim.Native.Nat.{ℕ, ◌<◌}
use native.Mathlib.Omega.{arith}
use mathlib.Core.Path.{◌≡◌, sym, ◌∙◌}
use mathlib.Core.List.{List}
use lib.ListN.{replicate, length-replicate}
use Rattle.std.specs.Array.{AllOfLen}
use Rattle.std.proofs.lemmas.List.{get_or-replicate}
use Rattle.std.proofs.lemmas.Grind.{same_number_lists}

pub zeros : (P : ℕ → Type 0) (xs : List ℕ) (n : ℕ) → ((x : ℕ) → P x → x ≡ 0) → AllOfLen P xs n → xs ≡ replicate n 0
zeros P xs n says m =
    same_number_lists xs (replicate n 0) (m.long ∙ sym (length-replicate n 0))
    (λ k l. let s : k < n = omega (arith, m.long) in says _ (m.at k 0 s) ∙ sym (get_or-replicate n k 0 0 s))
