-- Joined lists; marks and words written, one list after another.
use Prim.Native.Nat.{ℕ, suc, ◌+◌, ◌-◌, ◌≤◌}
use native.Mathlib.Omega.{arith}
use native.Mathlib.Nat.{add-zero}
use mathlib.Core.Path.{◌≡◌, refl, sym, ap, ap₂, ◌∙◌}
use mathlib.Core.List.{List, [], ◌∷◌, ◌++◌, append_assoc, append-nil}
use lib.ListN.{length, set, take, drop, length-drop, drop_of_length-le}
use lib.Seq.{sets, sets-eq, take_all, drop-drop}
use borrow.Rule.Slice.PartMut.{put_mid}
use Rattle.query.specs.Marks.{with_mark, marked}

pub marked_append : (m xs ys : List ℕ) → marked m (xs ++ ys) ≡ marked (marked m xs) ys
unfolding marked
marked_append m [] ys = refl
marked_append m (x ∷ xs) ys = marked_append (with_mark m x) xs ys

pub sets-append : (l : List ℕ) (i : ℕ) (xs ys : List ℕ) → sets l i (xs ++ ys) ≡ sets (sets l i xs) (i + length xs) ys
sets-append l i [] ys = rw add-zero
sets-append l i (v ∷ xs) ys = sets-append (set l i v) (suc i) xs ys ∙ ap (λ (k : ℕ). sets (sets (set l i v) (suc i) xs) k ys) (omega arith)

-- words written from the start of the part that begins at place n
pub sets-part : (o xs v : List ℕ) (n : ℕ) → n + length xs ≤ length o → v ≡ sets (take (length o - n) (drop n o)) 0 xs → put_mid n (length o - n) o v ≡ sets o n xs
sets-part o xs v n h e =
    let whole : take (length o - n) (drop n o) ≡ drop n o = take_all (length o - n) (drop n o) (omega (arith, length-drop n o)) in
    let past : drop (length o - n) (drop n o) ≡ [] = drop_of_length-le (drop n o) (omega (arith, length-drop n o)) in
    let front : sets (drop n o) 0 xs ≡ xs ++ drop (0 + length xs) (drop n o) = sets-eq xs (drop n o) 0 (omega (arith, length-drop n o)) in
    let z : 0 + length xs ≡ length xs = omega arith in
    let now : v ≡ xs ++ drop (n + length xs) o = e ∙ ap (λ d. sets d 0 xs) whole ∙ front ∙ ap (λ d. xs ++ d) (ap (λ m. drop m (drop n o)) z ∙ drop-drop (length xs) n o) in
    ap₂ (λ a b. take n o ++ (a ++ b)) now past ∙ (ap (λ d. take n o ++ d) (append-nil (xs ++ drop (n + length xs) o)) ∙ sym (sets-eq xs o n h ∙ append_assoc (take n o) xs (drop (n + length xs) o)))
