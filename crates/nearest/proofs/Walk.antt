-- The pages that are opened on an allowance: what holds of them, how many they are, and that a larger allowance opens more.
use Prim.Native.Nat.{ℕ, zero, suc, ◌+◌, ◌≤◌, ◌<◌}
use native.Mathlib.Omega.{arith}
use native.Mathlib.Decide.{ℕ_discrete}
use mathlib.Core.Path.{◌≡◌, refl, sym, ap, subst, ◌∙◌}
use mathlib.Core.Bool.{Bool, true, false, not}
use mathlib.Core.List.{List, [], ◌∷◌, ◌++◌, append_assoc, append-nil}
use lib.ListN.{length, length-append}
use Rattle.std.specs.Prelude.{Option, Some, None, IfSome}
use Rattle.pages.specs.Lists.{all, is_among, Every}
use Rattle.pages.specs.Layout.{Table}
use Rattle.pages.proofs.Lists.{not-both, every_map}
use Rattle.pages.proofs.Facts.{Facts}
use Rattle.nearest.specs.declared.Near.{Near}
use Rattle.nearest.specs.Search.{page_near, is_nearer, number_in, nearest, unopened, waiting, best, none_nearer, opened_after, opened_on}
use Rattle.nearest.proofs.Lists.{all-among, every-mapped}
use Rattle.nearest.proofs.Order.{nearest-each}
use Rattle.nearest.proofs.Reached.{Walked, walked-none, walked-next}

module _ (x y : ℕ) (t : Table) where
  -- a waiting page is one of the unopened, at its distance
  abbrev pub WaitsThere : List ℕ → Near → Type 0
  WaitsThere opened a = (a ≡ page_near x y t a.number) × (is_among a.number (unopened t opened) ≡ true)

  pub waiting-each : (opened : List ℕ) → Every (WaitsThere opened) (waiting x y t opened)
  unfolding waiting
  waiting-each opened = every-mapped (WaitsThere opened) (page_near x y t) (unopened t opened)
      (every_map (λ p. is_among p (unopened t opened) ≡ true) (λ p. WaitsThere opened (page_near x y t p)) (λ p e. (refl, e)) (unopened t opened) (all-among (unopened t opened)))

  -- one is opened, where one is nearer
  opens-one : (b : Option Near) (xs : List Near) → all (λ a. not (is_nearer b a)) xs ≡ false → length (number_in (nearest xs)) ≡ 1
  unfolding nearest
  opens-one b [] e = absurd (not-both true refl e)
  opens-one b (a ∷ xs) e = refl

  next-stopped : (opened : List ℕ) → none_nearer x y t opened ≡ true → opened_after x y t opened ≡ opened
  unfolding opened_after
  next-stopped opened e = rw e

  next-more : (opened : List ℕ) → none_nearer x y t opened ≡ false → opened_after x y t opened ≡ opened ++ number_in (nearest (waiting x y t opened))
  unfolding opened_after
  next-more opened e = rw e

  next-length : (opened : List ℕ) → none_nearer x y t opened ≡ false → length (opened_after x y t opened) ≡ length opened + 1
  next-length opened e =
      ap length (next-more opened e)
      ∙ (length-append opened (number_in (nearest (waiting x y t opened))) ∙ ap (λ n. length opened + n) (unfold none_nearer in opens-one (best x y t opened) (waiting x y t opened) e))

  pub opened-most : (n : ℕ) → length (opened_on x y t n) ≤ n
  unfolding opened_on
  opened-most zero = omega arith
  opened-most (suc n) = go (none_nearer x y t (opened_on x y t n)) refl (opened-most n)
    where
      go : (b : Bool) → none_nearer x y t (opened_on x y t n) ≡ b → length (opened_on x y t n) ≤ n → length (opened_after x y t (opened_on x y t n)) ≤ suc n
      go true e l = omega (arith, l, ap length (next-stopped (opened_on x y t n) e))
      go false e l = omega (arith, l, next-length (opened_on x y t n) e)

  -- fewer than the allowance, only where it stopped
  pub opened-stopped : (n : ℕ) → length (opened_on x y t n) < n → none_nearer x y t (opened_on x y t n) ≡ true
  unfolding opened_on
  opened-stopped zero l = absurd (omega arith)
  opened-stopped (suc n) l = go (none_nearer x y t (opened_on x y t n)) refl (opened-stopped n)
    where
      go : (b : Bool) → none_nearer x y t (opened_on x y t n) ≡ b → (length (opened_on x y t n) < n → none_nearer x y t (opened_on x y t n) ≡ true)
          → none_nearer x y t (opened_after x y t (opened_on x y t n)) ≡ true
      go true e h = subst (λ ps. none_nearer x y t ps ≡ true) (sym (next-stopped (opened_on x y t n) e)) e
      go false e h = absurd (not-both (none_nearer x y t (opened_on x y t n)) (h (omega (arith, l, next-length (opened_on x y t n) e))) e)

  -- a stop stays
  pub stays : (n m : ℕ) → n ≤ m → none_nearer x y t (opened_on x y t n) ≡ true → opened_on x y t m ≡ opened_on x y t n
  stays n zero l e = ap (opened_on x y t) (omega arith)
  stays n (suc m) l e = go (ℕ_discrete n (suc m)) (stays n m)
    where
      go : Dec (n ≡ suc m) → (n ≤ m → none_nearer x y t (opened_on x y t n) ≡ true → opened_on x y t m ≡ opened_on x y t n) → opened_on x y t (suc m) ≡ opened_on x y t n
      go (yes z) h = ap (opened_on x y t) (sym z)
      go (no z) h = unfold opened_on in (ap (opened_after x y t) (h (omega arith) e) ∙ next-stopped (opened_on x y t n) e)

  -- a larger allowance opens the same pages first
  pub opens-more : (n m : ℕ) → n ≤ m → (more : List ℕ) × (opened_on x y t m ≡ opened_on x y t n ++ more)
  opens-more n zero l = ([], ap (opened_on x y t) (omega arith) ∙ sym (append-nil (opened_on x y t n)))
  opens-more n (suc m) l = go (ℕ_discrete n (suc m)) (opens-more n m)
    where
      further : (b : Bool) → none_nearer x y t (opened_on x y t m) ≡ b → (more : List ℕ) × (opened_on x y t m ≡ opened_on x y t n ++ more)
          → (more : List ℕ) × (opened_after x y t (opened_on x y t m) ≡ opened_on x y t n ++ more)
      further true e r = (r.0, next-stopped (opened_on x y t m) e ∙ r.1)
      further false e r =
          let one : List ℕ = number_in (nearest (waiting x y t (opened_on x y t m))) in
          (r.0 ++ one, next-more (opened_on x y t m) e ∙ (ap (λ z. z ++ one) r.1 ∙ append_assoc (opened_on x y t n) r.0 one))

      go : Dec (n ≡ suc m) → (n ≤ m → (more : List ℕ) × (opened_on x y t m ≡ opened_on x y t n ++ more)) → (more : List ℕ) × (opened_on x y t (suc m) ≡ opened_on x y t n ++ more)
      go (yes z) h = ([], ap (opened_on x y t) (sym z) ∙ sym (append-nil (opened_on x y t n)))
      go (no z) h = unfold opened_on in further (none_nearer x y t (opened_on x y t m)) refl (h (omega arith))

  -- the root is opened first
  pub opened-first : opened_on x y t 1 ≡ t.root ∷ []
  unfolding opened_on opened_after none_nearer waiting unopened best nearest
  opened-first = refl

  pub opened-some : (n : ℕ) → 1 ≤ n → 1 ≤ length (opened_on x y t n)
  opened-some n l =
      let r = opens-more 1 n l in
      omega (arith, ap length r.1, length-append (opened_on x y t 1) r.0, ap length opened-first)

  module _ (F : Facts t) where
    next-walked : (opened : List ℕ) → Walked t opened → Walked t (opened_after x y t opened)
    next-walked opened W = go (none_nearer x y t opened) refl
      where
        one : (o : Option Near) → IfSome o (WaitsThere opened) → Walked t (opened ++ number_in o)
        one None h = rw (append-nil opened) W
        one (Some a) h = walked-next t F opened W a.number h.1

        go : (b : Bool) → none_nearer x y t opened ≡ b → Walked t (opened_after x y t opened)
        go true e = rw (next-stopped opened e) W
        go false e = rw (next-more opened e) (one (nearest (waiting x y t opened)) (nearest-each (WaitsThere opened) (waiting x y t opened) (waiting-each opened)))

    pub opened-walked : (n : ℕ) → Walked t (opened_on x y t n)
    unfolding opened_on
    opened-walked zero = walked-none t F
    opened-walked (suc n) = next-walked (opened_on x y t n) (opened-walked n)
