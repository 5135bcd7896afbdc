-- What the edges add up to, from first to last, and that it fits: there are few of them, and none adds more than the largest product.
use Prim.Native.Nat.{ℕ, suc, ◌+◌, ◌*◌, ◌^◌, ◌≤◌, ◌<◌}
use mathlib.Core.Path.{◌≡◌, refl, sym, ap, subst, ◌∙◌}
use mathlib.Core.List.{List, [], ◌∷◌, map, map-id}
use native.Mathlib.Nat.{mul-le-mul_left}
use native.Mathlib.Omega.{arith}
use lib.IntN.{ℤ, pos, ◌+ℤ◌, nat_abs, +ℤ_assoc, +ℤ_idl, +ℤ_idr}
use lib.ListN.{length}
use mir.Syntax.{w64}
use mir.Val.{hbits}
use denote.Param.Members.{Mut, Called}
use Rattle.std.specs.Bool.{⊤}
use Rattle.std.specs.Prelude.{Option}
use Rattle.std.specs.declared.iter.Map.{Map}
use Rattle.std.specs.Prelude.{FitsSigned}
use Rattle.std.specs.Iterator.{Yields, Drains}
use Rattle.std.specs.Iterator.Adapters.{map_source, map_callee, map_steps}
use Rattle.std.specs.Iterator.Runs.{EachRunFrom, YieldsRun}
use Rattle.std.specs.List.{fold}
use Rattle.std.proofs.iter.Yields.{gives_Drains}
use Rattle.std.proofs.lemmas.Int.{ints, fits_signed_from_abs}
use Rattle.std.proofs.lemmas.Iterator.{YieldsList}
use Rattle.std.proofs.lemmas.Iterator.Adapters.{YieldsAtMost}
use Rattle.outline.specs.declared.Edge.{Edge}
use Rattle.outline.specs.Area.{cross, area_twice}

added : (a : ℤ) (es : List Edge) → fold ◌+ℤ◌ a (map cross es) ≡ a +ℤ area_twice es
unfolding area_twice
added a [] = sym (+ℤ_idr a)
added a (e ∷ es) = added (a +ℤ cross e) es ∙ +ℤ_assoc a (cross e) (area_twice es)

pub summed : {S : Type 0} {steps : S → Option ℤ → S → Type 0} {s : S} (es : List Edge) (r : ℤ)
    → ((xs : List ℤ) × (⊤ → Drains steps s xs) × (r ≡ fold ◌+ℤ◌ (pos 0) xs)) → YieldsList steps (λ x. x) s (map cross es) → r ≡ area_twice es
summed {S} {steps} {s} es r ran road =
    ran.2 ∙ ap (fold ◌+ℤ◌ (pos 0)) (sym (map-id ran.0) ∙ gives_Drains steps (λ x. x) ran.0 (map cross es) s road.runs (ran.1 tt))
    ∙ added (pos 0) es ∙ +ℤ_idl (area_twice es)

module _ {S A F : Type 0} (steps : S → Option A → S → Type 0) (g : Mut F (A × Unit {0}) ℤ) (f : F) (most : ℕ)
    (each : (x : A) (r : ℤ) (q : F) → Called g f (x, tt) r q → (q ≡ f) × (nat_abs r ≤ most)) where
  size_most : (xs : List ℤ) (a : ℤ) (s t : Map S F) → map_callee s ≡ f → Yields (map_steps steps g) s xs t
      → nat_abs (fold ◌+ℤ◌ a xs) ≤ nat_abs a + most * length xs
  size_most [] a s t e y = omega arith
  size_most (r ∷ xs) a s t e y =
      let c = each y.1.0 r _ (subst (λ h. Called g h (y.1.0, tt) r (map_callee y.0)) e y.1.2) in
      let turn : most * suc (length xs) ≡ most + most * length xs = omega arith in
      let next : nat_abs (a +ℤ r) ≤ nat_abs a + nat_abs r = omega (arith, ints) in
      omega (arith, size_most xs (a +ℤ r) y.0 t c.0 y.2, c.1, turn, next)

  -- an item of the source for each that comes
  source_run : (xs : List ℤ) (s t : Map S F) → Yields (map_steps steps g) s xs t → (ys : List A) × Yields steps (map_source s) ys (map_source t) × (length ys ≡ length xs)
  source_run [] s t y = ([], ap map_source y, refl)
  source_run (r ∷ xs) s t y = let b = source_run xs y.0 t y.2 in (y.1.0 ∷ b.0, (map_source y.0, y.1.1, b.1), ap suc b.2)

  pub fits_within : {s : Map S F} (n : ℕ) → YieldsAtMost steps (map_source s) n → map_callee s ≡ f → most * n < 2 ^ hbits w64
      → EachRunFrom (map_steps steps g) s (λ p. FitsSigned w64 (fold ◌+ℤ◌ (pos 0) p.items))
  unfolding YieldsRun
  fits_within {s = s} n few e top = λ p _ at.
      let run = subst (λ u. Yields (map_steps steps g) u p.items p.gave.0.0) at p.gave.0.1 in
      let items = source_run p.items s p.gave.0.0 run in
      let count : length p.items ≤ n = omega (arith, few.runs items.0 _ items.1, items.2) in
      fits_signed_from_abs w64 _ (omega (arith, top, size_most p.items (pos 0) s p.gave.0.0 e run, mul-le-mul_left most count))
