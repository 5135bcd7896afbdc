-- The words that place calls reach are a sound table, whose leaves hold exactly what stands.
use Prim.Native.Nat.{ℕ, ◌+◌, ◌≤◌, ◌<◌}
use native.Mathlib.Omega.{arith}
use native.Mathlib.Decide.{ℕ_discrete}
use mathlib.Core.Path.{◌≡◌, refl, sym, ap, ◌∙◌, subst}
use mathlib.Core.Bool.{Bool, true, false, not, ◌&&◌, cond}
use mathlib.Core.List.{List, [], ◌∷◌, ◌++◌}
use lib.ListN.{length, drop, length-append}
use lib.Dec.{T, leb, ltb, eqb}
use borrow.Author.Tests.{leb-true, leb-false, eqb-true, le-ltb, lt-ltb, eq-eqb, ne_eqb}
use Rattle.pages.specs.declared.Rect.{Rect}
use Rattle.pages.specs.declared.Entry.{Entry}
use Rattle.pages.specs.Sizes.{PIECES, TABLE_WORDS}
use Rattle.pages.specs.Lists.{one, all_of, sum_below}
use Rattle.pages.specs.Rectangles.{entry_of, valid}
use Rattle.pages.specs.Layout.{Table, encode, table_in}
use Rattle.pages.specs.Sound.{is, stored, sound}
use Rattle.pages.specs.Refusals.{ACCEPTED, RECTANGLE_NOT_VALID, NUMBER_TOO_LARGE, ALREADY_STANDING}
use Rattle.pages.specs.Calls.{empty_call}
use Rattle.pages.proofs.Lists.{T_true, holds}
use Rattle.pages.proofs.Below.{below-same, below-add, below_one, below-const}
use Rattle.pages.proofs.Facts.{Facts}
use Rattle.pages.proofs.Round.{length-encode}
use Rattle.pages.proofs.Entries.{leaves}
use Rattle.pages.proofs.Whole.{sound-encode, encode-in, sound-in}
use Rattle.pages.proofs.Zeros.{empty-accepted}
use Rattle.pages.proofs.EmptyTable.{empty_table, empty-facts, empty-words}
use Rattle.placing.specs.Place.{place}
use Rattle.placing.specs.Calls.{place_refusal, placed_words, place_sound, place_call}
use Rattle.placing.proofs.Placed.{place-sound, place-holds}
use Rattle.placing.proofs.Joined.{words_open}
use Rattle.placing.proofs.Called.{refusal-open, answered, sound-open, call-accepted}
use Rattle.placing.proofs.Tested.{call-tested}
use Rattle.history.specs.Book.{Slot, Call, Book, blank, stands, is_blank, writes, feed, fed, book_after}
use Rattle.history.specs.History.{placed, table_after}

-- the weight of what stands at n
unfoldable pub weigh : (Entry → ℕ) → ℕ → Slot → ℕ
weigh f n blank = 0
weigh f n (stands r) = f (entry_of r n)

-- the leaves hold what stands
abbrev pub Holds : Table → Book → Type 0
Holds t b = (f : Entry → ℕ) → leaves f t.pages ≡ sum_below PIECES (λ n. weigh f n (b n))

pub record Reached (w : List ℕ) (b : Book) : Type 0 where
  pub long : TABLE_WORDS ≤ length w
  pub sound : T (sound w)
  pub holds : Holds (table_in w) b

pub reached-encode : (t : Table) (rest : List ℕ) (b : Book) → Facts t → Holds t b → Reached (encode t ++ rest) b
reached-encode t rest b F H = record {
  long = omega (arith, length-append (encode t) rest, length-encode t);
  sound = sound-encode t rest F;
  holds = subst (λ x. Holds x b) (sym (encode-in t rest F)) H;
}

-- the empty table
empty_holds : Holds empty_table (λ n. blank)
unfolding empty_table weigh
empty_holds f = sym (below-const PIECES 0)

reached-empty : (slice : List ℕ) → TABLE_WORDS ≤ length slice → Reached (empty_call slice).1 (λ n. blank)
reached-empty slice l = subst (λ w. Reached w (λ n. blank)) (ap (λ w. w ++ drop TABLE_WORDS slice) empty-words ∙ sym (ap (λ x. x.1) (empty-accepted slice l)))
    (reached-encode empty_table (drop TABLE_WORDS slice) (λ n. blank) empty-facts empty_holds)

-- a weight of the entries with the r c is that of its slot
pub weigh-at : (m : ℕ) (b : Book) (f : Entry → ℕ) (g : Slot → ℕ) (c : ℕ) → ((n : ℕ) → weigh f n (b n) ≡ cond (eqb n c) (g (b n)) 0) → c < m
    → sum_below m (λ n. weigh f n (b n)) ≡ g (b c)
weigh-at m b f g c h l = below-same m (λ n. weigh f n (b n)) (λ n. cond (eqb n c) (g (b n)) 0) (λ n nl. h n) ∙ below_one m c (λ n. g (b n)) l

pub cond-none : (b : Bool) → ◌≡◌ {A = ℕ} (cond b 0 0) 0
cond-none true = refl
cond-none false = refl

pub reached-emptied : (slice first : List ℕ) (r : ℕ) → TABLE_WORDS ≤ length slice → (r, first) ≡ empty_call slice → Reached first (λ n. blank)
reached-emptied slice first r l e = subst (λ x. Reached x.1 (λ n. blank)) (sym e) (reached-empty slice l)

-- whether a number is stored is whether its slot is filled
filled : Slot → ℕ
unfolding is_blank
filled s = one (not (is_blank s))

weigh-is : (c n : ℕ) (s : Slot) → weigh (is c) n s ≡ cond (eqb n c) (filled s) 0
unfolding weigh filled
weigh-is c n blank = sym (cond-none (eqb n c))
weigh-is c n (stands r) = refl

stored_is : (m : ℕ) (t : Table) (b : Book) → ((f : Entry → ℕ) → leaves f t.pages ≡ sum_below m (λ n. weigh f n (b n))) → (c : ℕ) → c < m → stored t c ≡ filled (b c)
stored_is m t b h c l = h (is c) ∙ weigh-at m b (is c) filled c (λ n. weigh-is c n (b n)) l

-- where nothing stands, nothing is stored
pub stored-none : (w : List ℕ) → Reached w (λ n. blank) → (c : ℕ) → c < PIECES → stored (table_in w) c ≡ 0
unfolding filled is_blank
stored-none w R c l = stored_is PIECES (table_in w) (λ n. blank) R.holds c l

at-blank : (f : Entry → ℕ) (n : ℕ) (s : Slot) → T (is_blank s) → weigh f n s ≡ 0
unfolding is_blank weigh
at-blank f n blank z = refl
at-blank f n (stands q) z = absurd z

at_new : (f : Entry → ℕ) (n : ℕ) (r : Rect) → weigh f n (stands r) ≡ f (entry_of r n)
unfolding weigh
at_new f n r = refl

-- one slot is filled
weigh-one : (m : ℕ) (f : Entry → ℕ) (b : Book) (c : ℕ) (r : Rect) → c < m → T (is_blank (b c))
    → sum_below m (λ n. weigh f n (cond (eqb n c) (stands r) (b n))) ≡ f (entry_of r c) + sum_below m (λ n. weigh f n (b n))
weigh-one m f b c r l e =
    let a = below-same m (λ n. weigh f n (cond (eqb n c) (stands r) (b n))) (λ n. cond (eqb n c) (f (entry_of r n)) 0 + weigh f n (b n)) (λ n nl. go n (ℕ_discrete n c)) in
    let d = below-add m (λ n. cond (eqb n c) (f (entry_of r n)) 0) (λ n. weigh f n (b n)) in
    omega (arith, a, d, below_one m c (λ n. f (entry_of r n)) l)
  where
    go : (n : ℕ) → Dec (n ≡ c) → weigh f n (cond (eqb n c) (stands r) (b n)) ≡ cond (eqb n c) (f (entry_of r n)) 0 + weigh f n (b n)
    go n (yes z) = rw (eq-eqb n c z) (omega (arith, at_new f n r, at-blank f n (b n) (rw z e)))
    go n (no z) = rw (ne_eqb n c z) (omega arith)

blank-is : (s : Slot) (n : ℕ) → n ≡ filled s → eqb n 0 ≡ is_blank s
unfolding filled is_blank
blank-is blank n e = rw e
blank-is (stands r) n e = rw e

-- the refusal of a place call on words that hold what stands: zero exactly when the book is written
module _ (w : List ℕ) (b : Book) (R : Reached w b) (c : Call) where
  pub stored-blank : c.number < PIECES → eqb (stored (table_in w) c.number) 0 ≡ is_blank (b c.number)
  stored-blank l = blank-is (b c.number) (stored (table_in w) c.number) (stored_is PIECES (table_in w) b R.holds c.number l)

  pub refusal_is : eqb (place_refusal w c.number c.rect) ACCEPTED ≡ writes b c
  unfolding writes
  refusal_is = ap (λ x. eqb x ACCEPTED) (refusal-open w c.number c.rect) ∙ go (valid c.rect) (leb PIECES c.number) refl
    where
      choice : (x : Bool) → eqb (cond x ACCEPTED ALREADY_STANDING) ACCEPTED ≡ all_of (true ∷ true ∷ x ∷ [])
      choice true = refl
      choice false = refl

      go : (v h : Bool) → leb PIECES c.number ≡ h
          → eqb (cond (not v) RECTANGLE_NOT_VALID (cond h NUMBER_TOO_LARGE (cond (eqb (stored (table_in w) c.number) 0) ACCEPTED ALREADY_STANDING))) ACCEPTED
          ≡ all_of (ltb c.number PIECES ∷ v ∷ is_blank (b c.number) ∷ [])
      go false h e = none (ltb c.number PIECES)
        where
          none : (x : Bool) → false ≡ x && false
          none true = refl
          none false = refl
      go true true e = rw (le-ltb c.number PIECES (leb-true PIECES c.number e))
      go true false e =
          let l : c.number < PIECES = leb-false PIECES c.number e in
          rw (lt-ltb c.number PIECES l, stored-blank l) (choice (is_blank (b c.number)))

  -- the table is sound, so no test of it refuses
  pub call-sound : place_call w c.number c.rect ≡ place_sound w c.number c.rect
  call-sound = call-tested w c.number c.rect R.long R.sound

  writes_blank : T (writes b c) → T (is_blank (b c.number))
  unfolding writes
  writes_blank h = (holds (ltb c.number PIECES ∷ valid c.rect ∷ is_blank (b c.number) ∷ []) h).1.1.0

  reached-placed : T (writes b c) → Reached (placed_words w c.number c.rect) (λ n. cond (eqb n c.number) (stands c.rect) (b n))
  reached-placed h =
      let t = table_in w in
      let F : Facts t = sound-in w R.sound in
      let (v, l, free) = call-accepted w c.number c.rect (eqb-true (place_refusal w c.number c.rect) ACCEPTED (refusal_is ∙ T_true (writes b c) h)) in
      subst (λ x. Reached x (λ n. cond (eqb n c.number) (stands c.rect) (b n))) (sym (words_open w c.number c.rect))
      (reached-encode (place t c.number c.rect) (drop TABLE_WORDS w) (λ n. cond (eqb n c.number) (stands c.rect) (b n))
      (place-sound t c.number c.rect F v l free)
      (λ f. place-holds t c.number c.rect F v l free f ∙ (ap (λ m. f (entry_of c.rect c.number) + m) (R.holds f)
      ∙ sym (weigh-one PIECES f b c.number c.rect l (writes_blank h)))))

  pub reached-call : Reached (place_call w c.number c.rect).1 (feed b c)
  unfolding feed
  reached-call =
      subst (λ x. Reached x.1 (λ n. cond (writes b c && eqb n c.number) (stands c.rect) (b n)))
      (sym (call-sound ∙ (sound-open w c.number c.rect ∙ ap (answered w c.number c.rect (place_refusal w c.number c.rect)) refusal_is))) (go (writes b c) refl)
    where
      go : (x : Bool) → writes b c ≡ x → Reached (answered w c.number c.rect (place_refusal w c.number c.rect) x).1 (λ n. cond (x && eqb n c.number) (stands c.rect) (b n))
      go true e = reached-placed (rw e tt)
      go false e = R

pub reached-calls : (cs : List Call) (w : List ℕ) (b : Book) → Reached w b → Reached (placed w cs) (fed b cs)
unfolding placed fed
reached-calls [] w b R = R
reached-calls (c ∷ cs) w b R = reached-calls cs (place_call w c.number c.rect).1 (feed b c) (reached-call w b R c)

pub reached-after : (slice : List ℕ) → TABLE_WORDS ≤ length slice → (calls : List Call) → Reached (table_after slice calls) (book_after calls)
unfolding table_after book_after
reached-after slice l calls = reached-calls calls (empty_call slice).1 (λ n. blank) (reached-empty slice l)
