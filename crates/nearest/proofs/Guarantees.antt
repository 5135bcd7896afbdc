-- What the request promises: each piece is in an opened leaf, so no nearer than the best, or under a waiting page, so no nearer than that.
use Prim.Native.Nat.{ℕ, zero, suc, ◌≤◌, ◌<◌, min}
use native.Mathlib.Omega.{arith}
use native.Mathlib.Decide.{dec_lt}
use mathlib.Core.Path.{◌≡◌, refl, sym, ap, subst, ◌∙◌}
use mathlib.Core.Logic.{◌≢◌}
use mathlib.Core.Bool.{Bool, true, false, cond, not, false≢true}
use mathlib.Core.List.{List, [], ◌∷◌, ◌++◌, map}
use lib.ListN.{length, get_or}
use lib.Dec.{ltb, eqb}
use borrow.Author.Tests.{ltb-false, lt-ltb, le-ltb, eq-eqb}
use Rattle.std.specs.Prelude.{Option, Some, None, IfSome, is_some, option_map, unwrap_or}
use Rattle.std.proofs.lemmas.Grind.{common_steps}
use Rattle.pages.specs.declared.Rect.{Rect}
use Rattle.pages.specs.declared.Entry.{Entry}
use Rattle.pages.specs.Sizes.{PAGES, TABLE_WORDS}
use Rattle.pages.specs.Lists.{one, sum, all, concat_map, Every}
use Rattle.pages.specs.Rectangles.{bounds}
use Rattle.pages.specs.Layout.{Table, no_entry, no_page, page, table_in}
use Rattle.pages.specs.Sound.{piece_entries, sound}
use Rattle.pages.specs.Pieces.{PieceAt}
use Rattle.pages.specs.Under.{under}
use Rattle.pages.proofs.Lists.{not-both, true-T, T_true, every, every_map, every-both, at_every, sum-at, sum-concat, sum-map, sum_same, every_one, concat-append}
use Rattle.pages.proofs.Below.{sum-nothing}
use Rattle.pages.proofs.Facts.{Facts}
use Rattle.pages.proofs.Whole.{sound-in}
use Rattle.pages.proofs.Entries.{Fits, leaves, leaf-pieces, above-pieces, pieces-leaves, fits-above}
use Rattle.pages.proofs.Walk.{bounds-each}
use Rattle.nearest.specs.declared.Near.{Near}
use Rattle.nearest.specs.declared.NearestAnswer.{NearestAnswer}
use Rattle.nearest.specs.Distance.{distance_to}
use Rattle.nearest.specs.Search.{page_near, piece_near, is_nearer, nearest, unopened, waiting, best, none_nearer, opened_on}
use Rattle.nearest.specs.Calls.{is_there, found_on, answer_for, no_nearest, out_of_range, nearest_sound, nearest_call}
use Rattle.nearest.specs.Claims.{NoLater}
use Rattle.nearest.specs.Guarantees.{NoPieceNearer, Guaranteed, Guarantees, LargerAllowances}
use Rattle.nearest.proofs.Lists.{not_true, every-mapped, mapped-every, every-concat}
use Rattle.nearest.proofs.Order.{nearest-each, nearest-least, nearest-none, nearest-nearer, nearest-there}
use Rattle.nearest.proofs.Distances.{distance-within}
use Rattle.nearest.proofs.Reached.{pieces_under, Walked, unopened-inside, few}
use Rattle.nearest.proofs.Walk.{opened-most, opened-stopped, opened-some, opens-more, opened-walked}

-- the first of all is the least
nearest-far : (d : ℕ) (xs : List Near) → IfSome (nearest xs) (λ b. d ≤ b.distance) → Every (λ a. d ≤ a.distance) xs
nearest-far d xs h = go (nearest xs) refl h (nearest-least xs)
  where
    go : (o : Option Near) → nearest xs ≡ o → IfSome o (λ b. d ≤ b.distance) → IfSome o (λ m. Every (NoLater m) xs) → Every (λ a. d ≤ a.distance) xs
    go None e k l = rw (nearest-none xs e) tt
    go (Some m) e k l = every_map (NoLater m) (λ a. d ≤ a.distance) (λ a n. omega (arith, n.0, k)) xs l

module _ (t : Table) (F : Facts t) (x y : ℕ) where
  -- 1 for what is nearer than d
  abbrev nearer : ℕ → Entry → ℕ
  nearer d e = one (ltb (distance_to x y e.rect) d)

  not-nearer : (d : ℕ) (e : Entry) → d ≤ distance_to x y e.rect → nearer d e ≡ 0
  not-nearer d e l = rw (le-ltb (distance_to x y e.rect) d l)

  -- nothing under a page is nearer than the page
  far-under : (d l q : ℕ) → q < length t.pages → (page t q).level ≡ l → d ≤ distance_to x y (bounds (page t q).entries) → under (nearer d) t.pages l q ≡ 0
  unfolding under
  far-under d zero q ql lv h = sum-nothing (nearer d) (page t q).entries
      (every_map _ (λ e. nearer d e ≡ 0) (λ e w. not-nearer d e (omega (arith, h, distance-within x y e.rect (bounds (page t q).entries) w)))
      (page t q).entries (bounds-each (page t q).entries))
  far-under d (suc l) q ql lv h = sum-nothing (λ e. under (nearer d) t.pages l e.r) (page t q).entries
      (every-both _ (Fits t.pages (suc l)) (λ e. under (nearer d) t.pages l e.r ≡ 0)
      (λ e w f. far-under d l e.r f.inside (omega (arith, f.lower))
      (omega (arith, h, distance-within x y e.rect (bounds (page t q).entries) w, ap (distance_to x y) f.exact)))
      (page t q).entries (bounds-each (page t q).entries) (fits-above t F l q ql lv))

  -- what the leaves do not weigh, no piece weighs
  weighs-none : (f : Entry → ℕ) → leaves f t.pages ≡ 0 → (c : ℕ) (r : Rect) → (p : PieceAt t c r) → f (get_or (page t p.leaf).entries p.place no_entry) ≡ 0
  weighs-none f z c r p =
      omega (
        arith,
        z,
        sum-at f (page t p.leaf).entries p.place no_entry p.entry,
        ap (sum f) (leaf-pieces (page t p.leaf) p.level),
        sum-at (λ g. sum f (piece_entries g)) t.pages p.leaf no_page p.inside,
      )

  module _ (opened : List ℕ) (W : Walked t opened) where
    -- the pieces of the opened leaves
    abbrev met : List Near
    met = concat_map (λ p. map (piece_near x y) (piece_entries (page t p))) opened

    met-sum : (g : Near → ℕ) → sum g met ≡ sum (λ p. sum (λ e. g (piece_near x y e)) (piece_entries (page t p))) opened
    met-sum g = sum-concat g (λ p. map (piece_near x y) (piece_entries (page t p))) opened
        ∙ sum_same _ _ opened (every_one _ (λ p. sum-map g (piece_near x y) (piece_entries (page t p))) opened)

    -- d is no more than the distances of the best piece and of the waiting pages: no piece is nearer than d
    none-nearer : (d : ℕ) → IfSome (best x y t opened) (λ b. d ≤ b.distance) → Every (λ a. d ≤ a.distance) (waiting x y t opened) → NoPieceNearer t x y d
    unfolding best waiting
    none-nearer d h k c r p =
        let f : Entry → ℕ = nearer d in
        let a : sum (λ q. sum f (piece_entries (page t q))) opened ≡ 0 =
        sym (met-sum (λ a. one (ltb a.distance d)))
        ∙ sum-nothing (λ a. one (ltb a.distance d)) met (every_map (λ a. d ≤ a.distance) _ (λ a l. ap one (le-ltb a.distance d l)) met (nearest-far d met h)) in
        let b : sum (pieces_under t f) (unopened t opened) ≡ 0 =
        sum-nothing (pieces_under t f) (unopened t opened)
        (every-both (λ q. q < length t.pages) _ (λ q. pieces_under t f q ≡ 0) (λ q l m. far-under d (page t q).level q l refl m) (unopened t opened) (unopened-inside t F opened W)
        (mapped-every (λ a. d ≤ a.distance) (page_near x y t) (unopened t opened) k)) in
        let z : leaves f t.pages ≡ 0 = omega (arith, a, b, W.pieces f) in
        let e : Entry = get_or (page t p.leaf).entries p.place no_entry in
        subst (λ v. d ≤ distance_to x y v) p.rectangle (go e (weighs-none f z c r p) (dec_lt (distance_to x y e.rect) d))
      where
        go : (e : Entry) → nearer d e ≡ 0 → Dec (distance_to x y e.rect < d) → d ≤ distance_to x y e.rect
        go e z (yes l) = absurd (omega (arith, z, ap one (lt-ltb (distance_to x y e.rect) d l)))
        go e z (no l) = omega arith

    -- the best piece is a piece of the table
    abbrev pub Stands : Near → Type 0
    Stands a = (r : Rect) × PieceAt t a.number r × (a.distance ≡ distance_to x y r)

    leaf-stands : (p : ℕ) → p < length t.pages → Every (λ e. Stands (piece_near x y e)) (piece_entries (page t p))
    leaf-stands p pl = go (page t p).level refl
      where
        go : (l : ℕ) → (page t p).level ≡ l → Every (λ e. Stands (piece_near x y e)) (piece_entries (page t p))
        go zero lv = rw (leaf-pieces (page t p) lv) (at_every (λ e. Stands (piece_near x y e)) (page t p).entries no_entry (λ i il. (
          (get_or (page t p).entries i no_entry).rect,
          record { leaf = p; place = i; inside = pl; level = lv; entry = il; number = refl; rectangle = refl },
          refl,
        )))
        go (suc l) lv = rw (above-pieces (page t p) l lv) tt

    best-stands : IfSome (best x y t opened) Stands
    unfolding best
    best-stands = nearest-each Stands met
        (every-concat Stands (λ p. map (piece_near x y) (piece_entries (page t p))) opened
        (every_map _ _ (λ p h. every-mapped Stands (piece_near x y) (piece_entries (page t p)) (leaf-stands p h.0)) opened W.known))

    -- where no page is waiting there is a piece
    no-piece : t.count ≢ 0 → best x y t opened ≡ None → unopened t opened ≡ [] → ⊥
    unfolding best
    no-piece n e z =
        let a : sum (λ q. sum (λ e. 1) (piece_entries (page t q))) opened ≡ 0 = sym (met-sum (λ a. 1)) ∙ ap (sum (λ a. 1)) (nearest-none met e) in
        n (F.counted ∙ (pieces-leaves t.pages ∙ omega (arith, a, W.pieces (λ e. 1), ap (sum (pieces_under t (λ e. 1))) z)))

    -- a search that stopped has a piece, and no waiting page is nearer
    stopped-far : t.count ≢ 0 → none_nearer x y t opened ≡ true → (b : Near) × (best x y t opened ≡ Some b) × Every (λ a. b.distance ≤ a.distance) (waiting x y t opened)
    unfolding none_nearer
    stopped-far n e = go (best x y t opened) refl e
      where
        all-far : (b : Near) (xs : List Near) → all (λ a. not (is_nearer (Some b) a)) xs ≡ true → Every (λ a. b.distance ≤ a.distance) xs
        all-far b xs h = every (λ a. b.distance ≤ a.distance) (λ a. not (is_nearer (Some b) a)) (λ a k. ltb-false a.distance b.distance (not_true _ (T_true _ k))) xs (true-T _ h)

        all-none : (xs : List ℕ) → all (λ a. not (is_nearer None a)) (map (page_near x y t) xs) ≡ true → xs ≡ []
        all-none [] h = refl
        all-none (a ∷ xs) h = absurd (false≢true h)

        go : (o : Option Near) → best x y t opened ≡ o → all (λ a. not (is_nearer o a)) (waiting x y t opened) ≡ true
            → (b : Near) × (best x y t opened ≡ Some b) × Every (λ a. b.distance ≤ a.distance) (waiting x y t opened)
        go None z h = absurd (no-piece n z (all-none (unopened t opened) (unfold waiting in h)))
        go (Some b) z h = (b, z, all-far b (waiting x y t opened) h)

-- where there is one, its distance
abbrev far_of : Option Near → ℕ
far_of o = unwrap_or (option_map (λ a. a.distance) o) 0

at-least : (o : Option Near) (d : ℕ) → (is_there o ≡ 1 → d ≤ far_of o) → IfSome o (λ a. d ≤ a.distance)
at-least None d h = tt
at-least (Some a) d h = h refl

is-there : (o : Option Near) → (is_there o ≡ 0 → is_there o ≡ 1) → is_there o ≡ 1
is-there None h = h refl
is-there (Some a) h = refl

not-there : (o : Option Near) → is_there o ≡ 0 → o ≡ None
not-there None e = refl
not-there (Some a) e = absurd (omega arith)

flag : (o : Option Near) → is_there o ≤ 1
flag None = omega arith
flag (Some a) = omega arith

flag-mapped : (o : Option Near) → is_there (option_map (λ a. a.distance) o) ≤ 1
flag-mapped None = omega arith
flag-mapped (Some a) = omega arith

absent : (o : Option Near) → is_there o ≡ 0 → (unwrap_or (option_map (λ a. a.number) o) 0 ≡ 0) × (far_of o ≡ 0)
absent None e = (refl, refl)
absent (Some a) e = absurd (omega arith)

absent-far : (o : Option Near) → is_there (option_map (λ a. a.distance) o) ≡ 0 → far_of o ≡ 0
absent-far None e = refl
absent-far (Some a) e = absurd (omega arith)

there-mapped : (o : Option Near) → is_there (option_map (λ a. a.distance) o) ≡ is_there o
there-mapped None = refl
there-mapped (Some a) = refl

mapped-none : (f : ℕ → Near) (ps : List ℕ) → map f ps ≡ [] → ps ≡ []
mapped-none f [] e = refl
mapped-none f (p ∷ ps) e = absurd (omega (arith, ap length e))

emptied : (ps : List ℕ) → length ps ≡ 0 → ps ≡ []
emptied [] z = refl
emptied (p ∷ ps) z = absurd (omega arith)

module _ (t : Table) (F : Facts t) (x y : ℕ) (pieces : t.count ≢ 0) where
  module _ (n : ℕ) where
    abbrev on : List ℕ
    on = opened_on x y t n

    abbrev piece : Option Near
    piece = best x y t on

    abbrev left : Option Near
    left = nearest (waiting x y t on)

    W : Walked t on
    W = opened-walked x y t F n

    none_near : (d : ℕ) → (is_there piece ≡ 1 → d ≤ far_of piece) → (is_there left ≡ 1 → d ≤ far_of left) → NoPieceNearer t x y d
    none_near d h k = none-nearer t F x y on W d (at-least piece d h) (nearest-far d (waiting x y t on) (at-least left d k))

    nothing-left : is_there left ≡ 0 → unopened t on ≡ []
    unfolding waiting
    nothing-left e = mapped-none (page_near x y t) (unopened t on) (nearest-none _ (not-there left e))

    one-there : is_there piece ≡ 0 → is_there left ≡ 1
    one-there e = is-there left (λ z. absurd (no-piece t F x y on W pieces (not-there piece e) (nothing-left z)))

    -- where it stopped there is a piece, and what is left is no nearer
    stop-far : none_nearer x y t on ≡ true → (is_there piece ≡ 1) × (is_there left ≡ 1 → far_of piece ≤ far_of left)
    stop-far e =
        let s = stopped-far t F x y on W pieces e in
        rw s.1 (refl, λ z. far (nearest (waiting x y t on)) z (nearest-each (λ a. s.0.distance ≤ a.distance) (waiting x y t on) s.2))
      where
        far : (o : Option Near) → is_there o ≡ 1 → {d : ℕ} → IfSome o (λ a. d ≤ a.distance) → d ≤ far_of o
        far None z h = absurd (omega arith)
        far (Some a) z h = h

    none-left : unopened t on ≡ [] → none_nearer x y t on ≡ true
    unfolding none_nearer waiting
    none-left e = rw e

    -- as many as there can be were opened, so none is left
    whole-stops : n ≡ PAGES → none_nearer x y t on ≡ true
    whole-stops e = go (dec_lt (length on) n)
      where
        go : Dec (length on < n) → none_nearer x y t on ≡ true
        go (yes l) = opened-stopped x y t n l
        go (no l) = none-left (emptied (unopened t on) (omega (arith, few t F on W, F.most, e)))

    guaranteed : 1 ≤ n → Guaranteed t x y n (answer_for (found_on x y t on))
    unfolding found_on
    guaranteed some =
        let same : is_there (option_map (λ a. a.distance) left) ≡ is_there left = there-mapped left in
        let whole : n ≡ PAGES → (is_there piece ≡ 1) × NoPieceNearer t x y (far_of piece) = λ e.
        let s = stop-far (whole-stops e) in
        (s.0, none_near (far_of piece) (λ z. omega arith) s.1) in
        record {
          both = λ f l. none_near (min (far_of piece) (far_of left)) (λ z. omega arith) (λ z. omega arith);
          piece-only = λ f l. none_near (far_of piece) (λ z. omega arith) (λ z. absurd (omega (arith, same, l, z)));
          page-only = λ f l. none_near (far_of left) (λ z. absurd (omega (arith, f, z))) (λ z. omega arith);
          one-present = λ f. same ∙ one-there f;
          whole = whole;
          flags = (flag piece, flag-mapped left);
          absent-piece = absent piece;
          absent-page = absent-far left;
          piece = λ f. stands piece f (best-stands t F x y on W);
          opened-some = opened-some x y t n some;
          opened-most = opened-most x y t n;
          stopped = λ l.
              let s = stop-far (opened-stopped x y t n l) in
              (s.0, λ z. s.1 (sym same ∙ z));
        }
      where
        stands : (o : Option Near) → is_there o ≡ 1 → IfSome o (Stands t F x y on W) → (r : Rect) × PieceAt t (unwrap_or (option_map (λ a. a.number) o) 0) r × (far_of o ≡ distance_to x y r)
        stands None f h = absurd (omega arith)
        stands (Some a) f h = h

-- an accepted call, by its four conditions
passed : (a b c d : Bool) (z : NearestAnswer)
    → (cond a (no_nearest 1) (cond b (cond c (no_nearest 13) (cond d (no_nearest 14) z)) (no_nearest 6))).refusal ≡ 0
    → (b ≡ true) × (c ≡ false) × (d ≡ false) × (cond a (no_nearest 1) (cond b (cond c (no_nearest 13) (cond d (no_nearest 14) z)) (no_nearest 6)) ≡ z)
passed true b c d z e = absurd (omega arith)
passed false false c d z e = absurd (omega arith)
passed false true true d z e = absurd (omega arith)
passed false true false true z e = absurd (omega arith)
passed false true false false z e = (refl, refl, refl, refl)

-- what an accepted call found
record Accepted (w : List ℕ) (x y allowance : ℕ) : Type 0 where
  facts : Facts (table_in w)
  pieces : (table_in w).count ≢ 0
  some : 1 ≤ allowance
  answer : nearest_call w x y allowance ≡ answer_for (found_on x y (table_in w) (opened_on x y (table_in w) allowance))

in-range : (x y allowance : ℕ) → out_of_range x y allowance ≡ false → 1 ≤ allowance
unfolding out_of_range
in-range x y allowance e = grind (arith, common_steps)

accepted : (w : List ℕ) (x y allowance : ℕ) → (nearest_call w x y allowance).refusal ≡ 0 → Accepted w x y allowance
unfolding nearest_call nearest_sound
accepted w x y allowance e =
    let z : NearestAnswer = answer_for (found_on x y (table_in w) (opened_on x y (table_in w) allowance)) in
    let h = passed (ltb (length w) TABLE_WORDS) (sound w) (out_of_range x y allowance) (eqb (table_in w).count 0) z e in
    record {
      facts = sound-in w (true-T (sound w) h.0);
      pieces = λ k. not-both (eqb (table_in w).count 0) (eq-eqb (table_in w).count 0 k) h.2;
      some = in-range x y allowance h.1;
      answer = h.3;
    }

pub guarantees : Guarantees
guarantees w x y allowance e =
    let a = accepted w x y allowance e in
    subst (Guaranteed (table_in w) x y allowance) (sym a.answer) (guaranteed (table_in w) a.facts x y a.pieces allowance a.some)

-- of two allowances
module _ (x y : ℕ) (t : Table) (small large : List ℕ) (more : List ℕ) (e : large ≡ small ++ more) where
  abbrev pieces_of : List ℕ → List Near
  pieces_of opened = concat_map (λ p. map (piece_near x y) (piece_entries (page t p))) opened

  split : pieces_of large ≡ pieces_of small ++ pieces_of more
  split = ap pieces_of e ∙ concat-append (λ p. map (piece_near x y) (piece_entries (page t p))) small more

  larger-best : is_there (best x y t small) ≡ 1 → (is_there (best x y t large) ≡ 1) × (far_of (best x y t large) ≤ far_of (best x y t small))
  unfolding best
  larger-best f =
      rw split (go (nearest (pieces_of small)) (nearest (pieces_of small ++ pieces_of more)) f (nearest-nearer (pieces_of small) (pieces_of more)) (nearest-there (pieces_of small) (pieces_of more)))
    where
      go : (o q : Option Near) → is_there o ≡ 1 → IfSome o (λ m. IfSome q (λ n. n.distance ≤ m.distance)) → (is_some o ≡ true → is_some q ≡ true) → (is_there q ≡ 1) × (far_of q ≤ far_of o)
      go None q f h k = absurd (omega arith)
      go (Some m) None f h k = absurd (false≢true (k refl))
      go (Some m) (Some n) f h k = (refl, h)

pub larger : LargerAllowances
unfolding found_on
larger w x y small large l e k =
    let t : Table = table_in w in
    let a = accepted w x y small e in
    let b = accepted w x y large k in
    let r = opens-more x y t small large l in
    let h = larger-best x y t (opened_on x y t small) (opened_on x y t large) r.0 r.1 in
    let one : (nearest_call w x y small).found ≡ 1 → is_there (best x y t (opened_on x y t small)) ≡ 1 = λ f. sym (ap (λ z. z.found) a.answer) ∙ f in
    record {
      found = λ f. ap (λ z. z.found) b.answer ∙ (h (one f)).0;
      nearer = λ f. omega (arith, ap (λ z. z.distance) a.answer, ap (λ z. z.distance) b.answer, (h (one f)).1);
      opened = r;
    }
