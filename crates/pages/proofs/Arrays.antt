-- What `map` of an array and `from_fn` give, where the closure computes a function and stays as it is.
use Prim.Native.Nat.{ℕ, zero, suc, ◌+◌, ◌≤◌, ◌<◌}
use native.Mathlib.Decide.{dec_lt}
use native.Mathlib.Omega.{arith}
use native.Mathlib.Numerals.{add-one}
use mathlib.Core.Path.{◌≡◌, ap, sym, subst, ◌∙◌}
use mathlib.Core.List.{List, ◌∷◌, map}
use lib.ListN.{length, get_or, drop, drop_of_length-le}
use lib.Seq.{drop-cons}
use denote.Param.Members.{Mut, Called}
use Rattle.std.specs.Array.{MapsFrom, IsMapOf, IsFromFnResultFrom, IsFromFnResult}

module _ {F A B : Type 0} (g : Mut F (A × Unit {0}) B) (h : A → B) (f : F) (computes : (a : A) (r : B) (q : F) → Called g f (a, tt) r q → (r ≡ h a) × (q ≡ f)) where
  mapped_from : (xs : List A) (ys : List B) (i n : ℕ) → length xs ≡ i + n → length ys ≡ i + n → MapsFrom g f xs ys i n → drop i ys ≡ map h (drop i xs)
  mapped_from xs ys i zero k l m = drop_of_length-le ys (omega arith) ∙ sym (ap (map h) (drop_of_length-le xs (omega arith)))
  mapped_from xs ys i (suc n) k l (q, x, y, ax, ay, c, m) =
      let (r, s) = computes x y q c in
      let rest : drop (suc i) ys ≡ map h (drop (suc i) xs) = rw add-one at (mapped_from xs ys (i + 1) n (omega arith) (omega arith) (subst (λ p. MapsFrom g p xs ys (i + 1) n) s m)) in
      drop-cons ys i y (omega arith)
      ∙ (ap (λ z. z ∷ drop (suc i) ys) (ay.0 ∙ r) ∙ (ap (λ zs. h x ∷ zs) rest ∙ sym (ap (map h) (drop-cons xs i x (omega arith) ∙ ap (λ z. z ∷ drop (suc i) xs) ax.0))))

  pub mapped : (xs : List A) (ys : List B) (n : ℕ) → length xs ≡ n → IsMapOf g f xs ys n → ys ≡ map h xs
  mapped xs ys n k m = mapped_from xs ys 0 n (omega arith) (omega (arith, m.long)) m.each

module _ {F B : Type 0} (g : Mut F (ℕ × Unit {0}) B) (h : ℕ → B) (f : F) (computes : (i : ℕ) (r : B) (q : F) → Called g f (i, tt) r q → (r ≡ h i) × (q ≡ f)) where
  made_from : (ys : List B) (d : B) (i n j : ℕ) → i ≤ j → j < i + n → IsFromFnResultFrom g f ys i n → get_or ys j d ≡ h j
  made_from ys d i zero j a b m = absurd (omega arith)
  made_from ys d i (suc n) j a b (q, y, at, c, m) =
      let (r, s) = computes i y q c in
      go (dec_lt i j) (λ k. made_from ys d (i + 1) n j (omega arith) (omega arith) (subst (λ p. IsFromFnResultFrom g p ys (i + 1) n) s m)) (at.1 d ∙ r)
    where
      go : Dec (i < j) → (i < j → get_or ys j d ≡ h j) → get_or ys i d ≡ h i → get_or ys j d ≡ h j
      go (yes k) p e = p k
      go (no k) p e =
          let same : i ≡ j = omega arith in
          rw same at e

  pub made : (ys : List B) (d : B) (n j : ℕ) → j < n → IsFromFnResult g f ys n → get_or ys j d ≡ h j
  made ys d n j l m = made_from ys d 0 n j (omega arith) (omega arith) m.each
