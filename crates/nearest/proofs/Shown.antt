-- What a search shows of the pages that it has opened: its words are the unopened reached pages, its best word is the best piece.
use Prim.Native.Nat.{ℕ, ◌+◌, ◌≤◌, ◌<◌, min, ◌/◌, ◌%◌}
use native.Mathlib.Omega.{arith}
use native.Mathlib.Decide.{dec_lt}
use mathlib.Core.Path.{◌≡◌, refl, sym, ap, subst, ◌∙◌}
use mathlib.Core.Logic.{◌≢◌}
use mathlib.Core.Bool.{Bool, true, false, cond, not}
use mathlib.Core.List.{List, [], ◌∷◌, ◌++◌, map, append_assoc, append-nil}
use lib.ListN.{length, get_or}
use lib.Dec.{ltb, eqb, eqb→eq}
use borrow.Author.Tests.{eqb-false, ltb-false, lt-ltb, le-ltb, ne_eqb}
use Rattle.std.specs.Prelude.{Option, Some, None, IfSome, fold, swap_remove}
use Rattle.std.proofs.lemmas.Option.{none-some, same_Some}
use Rattle.std.proofs.lemmas.List.{get_or_default}
use Rattle.std.proofs.lemmas.List.Sorted.{IsPermutation-swap_remove, sum_by-IsPermutation}
use Rattle.pages.specs.declared.Entry.{Entry}
use Rattle.pages.specs.Sizes.{EDGE, PIECES}
use Rattle.pages.specs.Lists.{one, sum, all, concat_map, is_among, Every}
use Rattle.pages.specs.Layout.{Table, page}
use Rattle.pages.specs.Sound.{child_entries, piece_entries}
use Rattle.pages.proofs.Lists.{not-both, every, every_map, every-both, at_every, every→all, sum-at, sum-map, sum-append, sum-length, sum_same, sum-zero, concat-append, T_true, true-T}
use Rattle.pages.proofs.Below.{sum-nothing}
use Rattle.pages.proofs.Facts.{Facts}
use Rattle.pages.proofs.Entries.{Fits, fits_all}
use Rattle.nearest.specs.declared.Near.{Near}
use Rattle.nearest.specs.Distance.{distance_to}
use Rattle.nearest.specs.Search.{near, before, is_nearer, nearest, page_near, piece_near, unopened, waiting, best, none_nearer, opened_after}
use Rattle.nearest.specs.Claims.{NoLater}
use Rattle.nearest.specs.Steps.{NONE, near_in, word_of, piece_in, least_with, IsLeastAt, IsWaiting}
use Rattle.nearest.proofs.Lists.{not_true}
use Rattle.nearest.proofs.Order.{later_no, nearest-each, nearest-is, with_one, nearest-more}
use Rattle.nearest.proofs.Distances.{distance-most}
use Rattle.nearest.proofs.Reached.{Walked, opens-inside, unopened-next}
use Rattle.nearest.proofs.Walk.{WaitsThere, waiting-each}
use Rattle.nearest.proofs.Words.{Fitting, before-words, near-parts}

-- no word is that of a page nearer than the best piece
abbrev pub NoWordNearer : List ℕ → ℕ → Type 0
NoWordNearer ws best = (i : ℕ) → i < length ws → is_nearer (piece_in best) (near_in (get_or ws i 0)) ≡ false

-- a least word is taken out of the words, that of page p, which is nearer than the best piece
pub record Taken (ws : List ℕ) (best p : ℕ) (rest : List ℕ) : Type 0 where
  pub at : ℕ
  pub word : ℕ
  pub least : IsLeastAt ws at word
  pub number : p ≡ word % PIECES
  pub nearer : is_nearer (piece_in best) (near_in word) ≡ true
  pub others : rest ≡ swap_remove ws at word

-- where the least is not nearer, none is
pub none-nearer-least : (ws : List ℕ) (at word b : ℕ) → IsLeastAt ws at word → is_nearer (piece_in b) (near_in word) ≡ false → NoWordNearer ws b
none-nearer-least ws at word b l e i il = go (piece_in b) e
  where
    go : (o : Option Near) → is_nearer o (near_in word) ≡ false → is_nearer o (near_in (get_or ws i 0)) ≡ false
    go None z = z
    go (Some a) z =
        let m = ltb-false (word / PIECES) a.distance z in
        le-ltb (get_or ws i 0 / PIECES) a.distance (omega (arith, m, l.least i il))

-- the word of an entry that fits says its distance and its number
near-word : (x y : ℕ) (e : Entry) → Fitting e → near_in (word_of x y e) ≡ near (distance_to x y e.rect) e.r
unfolding word_of
near-word x y e c = near-parts (distance_to x y e.rect) e.r c.1

word-some : (x y : ℕ) → x ≤ EDGE → y ≤ EDGE → (e : Entry) → Fitting e → word_of x y e < NONE
unfolding word_of
word-some x y a b e c = omega (arith, distance-most x y e.rect a b c.0, c.1)

-- the best piece, where there is one piece more
one-more : (b w : ℕ) → w < NONE → (o : Option Near) → piece_in b ≡ o → piece_in (min b w) ≡ Some (with_one o (near_in w))
one-more b w l o e = go (eqb b NONE) refl (dec_lt w b) o e
  where
    some : (v : ℕ) → v ≢ NONE → piece_in v ≡ Some (near_in v)
    some v n = rw (ne_eqb v NONE n)

    chosen : (a : Near) (c : Bool) → a ≡ near_in b → ltb w b ≡ c → cond c (near_in w) (near_in b) ≡ with_one (Some a) (near_in w)
    chosen a c s e = sym (ap (λ v. with_one (Some v) (near_in w)) s ∙ ap (λ t. cond t (near_in w) (near_in b)) (before-words w b ∙ e))

    go : (c : Bool) → eqb b NONE ≡ c → Dec (w < b) → (o : Option Near) → piece_in b ≡ o → piece_in (min b w) ≡ Some (with_one o (near_in w))
    go true z d None k =
        let m : min b w ≡ w = omega (arith, eqb→eq b NONE (true-T _ z)) in
        ap piece_in m ∙ some w (omega arith)
    go true z d (Some a) k = absurd (none-some a (rw z at k))
    go false z d None k = absurd (none-some (near_in b) (sym (rw z at k)))
    go false z (yes h) (Some a) k =
        let m : min b w ≡ w = omega arith in
        let s : a ≡ near_in b = sym (same_Some _ _ (rw z at k)) in
        ap piece_in m ∙ (some w (omega arith) ∙ ap Some (chosen a true s (lt-ltb w b h)))
    go false z (no h) (Some a) k =
        let m : min b w ≡ b = omega arith in
        let s : a ≡ near_in b = sym (same_Some _ _ (rw z at k)) in
        ap piece_in m ∙ (some b (eqb-false b NONE z) ∙ ap Some (chosen a false s (le-ltb w b (omega arith))))

-- a word is taken out of the words
folded : (f : ℕ → ℕ) (a : ℕ) (ws : List ℕ) → fold (λ b w. b + f w) a ws ≡ a + sum f ws
folded f a [] = omega arith
folded f a (w ∷ ws) = omega (arith, folded f (a + f w) ws)

sum-swap : (f : ℕ → ℕ) (ws : List ℕ) (i : ℕ) → i < length ws → sum f (swap_remove ws i (get_or ws i 0)) + f (get_or ws i 0) ≡ sum f ws
sum-swap f ws i l =
    let w : ℕ = get_or ws i 0 in
    omega (
      arith,
      folded f 0 ws,
      folded f 0 (w ∷ swap_remove ws i w),
      sum_by-IsPermutation f ws (w ∷ swap_remove ws i w) (IsPermutation-swap_remove ws i w l (get_or_default ws i 0 w l)),
    )

module _ (x y : ℕ) (t : Table) where
  module _ (ws opened : List ℕ) (shown : IsWaiting x y t ws opened) where
    shown-length : length ws ≡ length (unopened t opened)
    shown-length = omega (arith, shown (λ a. 1), sum-length ws, sum-length (unopened t opened))

    as-waiting : (g : Near → ℕ) → sum (λ w. g (near_in w)) ws ≡ sum g (waiting x y t opened)
    unfolding waiting
    as-waiting g = shown g ∙ sym (sum-map g (page_near x y t) (unopened t opened))

    -- a test that all of them fail, the words fail, and the other way round
    words-fail : (test : Near → Bool) → Every (λ a. test a ≡ false) (waiting x y t opened) → (i : ℕ) → i < length ws → test (near_in (get_or ws i 0)) ≡ false
    words-fail test h i l =
        fails (test (near_in (get_or ws i 0))) (omega (
          arith,
          sum-at (λ w. one (test (near_in w))) ws i 0 l,
          as-waiting (λ a. one (test a)),
          sum-nothing (λ a. one (test a)) (waiting x y t opened) (every_map _ (λ a. one (test a) ≡ 0) (λ a e. ap one e) (waiting x y t opened) h),
        ))
      where
        fails : (b : Bool) → one b ≡ 0 → b ≡ false
        fails true e = absurd (omega arith)
        fails false e = refl

    waiting-fail : (test : Near → Bool) → ((i : ℕ) → i < length ws → test (near_in (get_or ws i 0)) ≡ false) → Every (λ a. test a ≡ false) (waiting x y t opened)
    waiting-fail test h = every_map (λ a. one (test a) ≡ 0) (λ a. test a ≡ false) (λ a e. fails (test a) e) (waiting x y t opened) (sum-zero (λ a. one (test a)) (waiting x y t opened)
        (sym (as-waiting (λ a. one (test a))) ∙ sum-nothing (λ w. one (test (near_in w))) ws (at_every _ ws 0 (λ i l. ap one (h i l)))))
      where
        fails : (b : Bool) → one b ≡ 0 → b ≡ false
        fails true e = absurd (omega arith)
        fails false e = refl

    -- the least word is the nearest of them
    pub least-nearest : (at word : ℕ) → IsLeastAt ws at word → nearest (waiting x y t opened) ≡ Some (near_in word)
    least-nearest at word l =
        nearest-is (waiting x y t opened) (near_in word)
        (λ test h. subst (λ w. test (near_in w) ≡ false) l.there (words-fail test h at l.inside))
        (every_map (λ a. before a (near_in word) ≡ false) (NoLater (near_in word)) (later_no (near_in word)) (waiting x y t opened)
        (waiting-fail (λ a. before a (near_in word)) (λ i il. before-words (get_or ws i 0) word ∙ le-ltb (get_or ws i 0) word (l.least i il))))

    pub none-waiting : ws ≡ [] → nearest (waiting x y t opened) ≡ None
    unfolding waiting nearest
    none-waiting e = go (unopened t opened) (sym shown-length ∙ ap length e)
      where
        go : (ps : List ℕ) → length ps ≡ 0 → nearest (map (page_near x y t) ps) ≡ None
        go [] z = refl
        go (p ∷ ps) z = absurd (omega arith)

    module _ (b : ℕ) (piece : piece_in b ≡ best x y t opened) where
      -- no word is nearer than the best piece: it stops
      pub stops : NoWordNearer ws b → none_nearer x y t opened ≡ true
      unfolding none_nearer
      stops n = T_true _ (every→all (λ a. is_nearer (best x y t opened) a ≡ false) (λ a. not (is_nearer (best x y t opened) a)) (λ a e. rw e tt) (waiting x y t opened)
          (waiting-fail (is_nearer (best x y t opened)) (λ i l. subst (λ o. is_nearer o (near_in (get_or ws i 0)) ≡ false) piece (n i l))))

      module _ (p : ℕ) (rest : List ℕ) (k : Taken ws b p rest) where
        found : nearest (waiting x y t opened) ≡ Some (near_in k.word)
        found = least-nearest k.at k.word k.least

        goes : none_nearer x y t opened ≡ false
        unfolding none_nearer
        goes = go (all (λ a. not (is_nearer (best x y t opened) a)) (waiting x y t opened)) refl
          where
            go : (c : Bool) → all (λ a. not (is_nearer (best x y t opened) a)) (waiting x y t opened) ≡ c → c ≡ false
            go true e =
                let far : Every (λ a. is_nearer (best x y t opened) a ≡ false) (waiting x y t opened) =
                every (λ a. is_nearer (best x y t opened) a ≡ false) (λ a. not (is_nearer (best x y t opened) a)) (λ a h. not_true _ (T_true _ h)) (waiting x y t opened) (true-T _ e) in
                let one : is_nearer (best x y t opened) (near_in k.word) ≡ false =
                subst (λ o. IfSome o (λ a. is_nearer (best x y t opened) a ≡ false)) found (nearest-each (λ a. is_nearer (best x y t opened) a ≡ false) (waiting x y t opened) far) in
                absurd (not-both (is_nearer (best x y t opened) (near_in k.word)) (subst (λ o. is_nearer o (near_in k.word) ≡ true) piece k.nearer) one)
            go false e = refl

        -- page p is opened next
        pub next-is : opened_after x y t opened ≡ opened ++ p ∷ []
        unfolding opened_after
        next-is = rw (goes, found, k.number) refl

        -- it was waiting
        was-waiting : WaitsThere x y t opened (near_in k.word)
        was-waiting = subst (λ o. IfSome o (WaitsThere x y t opened)) found (nearest-each (WaitsThere x y t opened) (waiting x y t opened) (waiting-each x y t opened))

        pub was-unopened : is_among p (unopened t opened) ≡ true
        was-unopened = rw k.number was-waiting.1

        -- the words that are left are the others
        pub others-shown : (g : Near → ℕ) → sum (λ w. g (near_in w)) rest + g (page_near x y t p) ≡ sum (λ q. g (page_near x y t q)) (unopened t opened)
        others-shown g =
            let f : ℕ → ℕ = λ w. g (near_in w) in
            let w : ℕ = get_or ws k.at 0 in
            let e : f w ≡ g (page_near x y t p) = ap f k.least.there ∙ ap g (was-waiting.0 ∙ ap (page_near x y t) (sym k.number)) in
            let r : rest ≡ swap_remove ws k.at w = k.others ∙ ap (swap_remove ws k.at) (sym k.least.there) in
            omega (arith, sum-swap f ws k.at k.least.inside, e, ap (sum f) r, shown g)

  module _ (F : Facts t) where
    -- a child's word is that of its page
    child-words : (g : Near → ℕ) (p : ℕ) → p < length t.pages → Every Fitting (child_entries (page t p))
        → sum (λ w. g (near_in w)) (map (word_of x y) (child_entries (page t p))) ≡ sum (λ e. g (page_near x y t e.r)) (child_entries (page t p))
    child-words g p pl close =
        sum-map (λ w. g (near_in w)) (word_of x y) (child_entries (page t p))
        ∙ sum_same _ _ (child_entries (page t p)) (every-both Fitting (Fits t.pages (page t p).level) (λ e. g (near_in (word_of x y e)) ≡ g (page_near x y t e.r))
        (λ e c f. ap g (near-word x y e c ∙ ap (λ r. near (distance_to x y r) e.r) f.exact)) (child_entries (page t p)) close (fits_all t F p pl))

    -- the pages after page p is opened
    pub opens-words : (opened : List ℕ) (W : Walked t opened) (p : ℕ) → is_among p (unopened t opened) ≡ true → Every Fitting (child_entries (page t p)) → (rest : List ℕ)
        → ((g : Near → ℕ) → sum (λ w. g (near_in w)) rest + g (page_near x y t p) ≡ sum (λ q. g (page_near x y t q)) (unopened t opened))
        → IsWaiting x y t (rest ++ map (word_of x y) (child_entries (page t p))) (opened ++ p ∷ [])
    opens-words opened W p here close rest h g =
        let f : ℕ → ℕ = λ w. g (near_in w) in
        omega (
          arith,
          sum-append f rest (map (word_of x y) (child_entries (page t p))),
          child-words g p (opens-inside t F opened W p here) close,
          h g,
          unopened-next t F opened W p here (λ q. g (page_near x y t q)),
        )

    -- and the best piece after it
    module _ (near-x : x ≤ EDGE) (near-y : y ≤ EDGE) where
      with-least : (es : List Entry) → Every Fitting es → (b : ℕ) (xs : List Near) → piece_in b ≡ nearest xs → piece_in (least_with x y b es) ≡ nearest (xs ++ map (piece_near x y) es)
      unfolding least_with
      with-least [] h b xs e = e ∙ ap nearest (sym (append-nil xs))
      with-least (e ∷ es) h b xs z =
          with-least es h.1 (min b (word_of x y e)) (xs ++ piece_near x y e ∷ []) (one-more b (word_of x y e) (word-some x y near-x near-y e h.0) (nearest xs) z
          ∙ (ap (λ a. Some (with_one (nearest xs) a)) (near-word x y e h.0) ∙ sym (nearest-more xs (piece_near x y e))))
          ∙ ap nearest (append_assoc xs (piece_near x y e ∷ []) (map (piece_near x y) es))

      pub opens-best : (opened : List ℕ) (p b : ℕ) → piece_in b ≡ best x y t opened → Every Fitting (piece_entries (page t p))
          → piece_in (least_with x y b (piece_entries (page t p))) ≡ best x y t (opened ++ p ∷ [])
      unfolding best
      opens-best opened p b e close =
          let f : ℕ → List Near = λ q. map (piece_near x y) (piece_entries (page t q)) in
          with-least (piece_entries (page t p)) close b (concat_map f opened) e
          ∙ sym (ap nearest (concat-append f opened (p ∷ []) ∙ ap (λ z. concat_map f opened ++ z) (append-nil (f p))))
