-- A line by its fields, and that there is room for each of its parts.
use Prim.Native.Nat.{ℕ, suc, ◌+◌, ◌*◌, ◌≤◌, ◌<◌}
use mathlib.Core.Path.{◌≡◌, refl, sym, ap, ◌∙◌}
use mathlib.Core.List.{List, [], ◌∷◌, ◌++◌, append_assoc, append-nil}
use native.Mathlib.Omega.{arith}
use native.Mathlib.Numerals.{add-one}
use lib.ListN.{length, take, drop, get_or, length-append, take-append-drop}
use lib.Seq.{take-suc}
use Rattle.pages.specs.Sizes.{PIECES}
use Rattle.job.specs.Sizes.{NUMBER_BYTES, LINE_BYTES}
use Rattle.job.specs.Lines.{SPACE, NEWLINE, decimal, fields, line}
use Rattle.job.proofs.Decimal.{number_short, word_short}

pub no_fields : fields [] ≡ []
unfolding fields
no_fields = refl

pub first_field : (n : ℕ) (ns : List ℕ) → fields (n ∷ ns) ≡ (SPACE ∷ decimal n) ++ fields ns
unfolding fields
first_field n ns = refl

pub fields-append : (xs ys : List ℕ) → fields (xs ++ ys) ≡ fields xs ++ fields ys
unfolding fields
fields-append [] ys = refl
fields-append (x ∷ xs) ys = rw (fields-append xs ys, append_assoc)

-- number i of a list, after those before it
pub next_field : (ns : List ℕ) (i : ℕ) → i < length ns → fields (take (i + 1) ns) ≡ fields (take i ns) ++ (SPACE ∷ decimal (get_or ns i 0))
next_field ns i h =
    let n = get_or ns i 0 in
    ap fields (ap (λ k. take k ns) (add-one i) ∙ take-suc ns i 0 h)
    ∙ fields-append (take i ns) (n ∷ [])
    ∙ ap (λ l. fields (take i ns) ++ l) (first_field n [] ∙ ap (λ l. (SPACE ∷ decimal n) ++ l) no_fields ∙ append-nil (SPACE ∷ decimal n))

pub fields_so_far : (ns : List ℕ) (i : ℕ) → length (fields (take i ns)) ≤ length (fields ns)
fields_so_far ns i =
    let parts : length (fields ns) ≡ length (fields (take i ns) ++ fields (drop i ns)) = ap length (ap fields (sym (take-append-drop i ns)) ∙ fields-append (take i ns) (drop i ns)) in
    omega (arith, length-append (fields (take i ns)) (fields (drop i ns)))

pub line_is : (letter : ℕ) (ns : List ℕ) → line letter ns ≡ letter ∷ (fields ns ++ (NEWLINE ∷ []))
unfolding line
line_is letter ns = refl

pub field_room : (before ns : List ℕ) (i room : ℕ) → i < length ns → length before + length (fields ns) ≤ room
    → length (before ++ fields (take i ns)) + length (SPACE ∷ decimal (get_or ns i 0)) ≤ room
field_room before ns i room h fits =
    omega (arith, length-append before (fields (take i ns)), fields_so_far ns (i + 1), ap length (next_field ns i h), length-append (fields (take i ns)) (SPACE ∷ decimal (get_or ns i 0)))

-- a line of two fields, and one of three and more
six-in : (a b c d e : List ℕ) → (a ++ (b ++ (c ++ d))) ++ e ≡ a ++ b ++ c ++ d ++ e
six-in a b c d e = simp append_assoc refl

two_fields : (letter p r : ℕ) → line letter (p ∷ r ∷ []) ≡ (letter ∷ []) ++ (SPACE ∷ decimal p) ++ (SPACE ∷ decimal r) ++ (NEWLINE ∷ [])
two_fields letter p r =
    let rest = first_field r [] ∙ ap (λ l. (SPACE ∷ decimal r) ++ l) no_fields ∙ append-nil (SPACE ∷ decimal r) in
    line_is letter (p ∷ r ∷ []) ∙ ap (λ l. letter ∷ (l ++ (NEWLINE ∷ []))) (first_field p (r ∷ []) ∙ ap (λ l. (SPACE ∷ decimal p) ++ l) rest)

more_fields : (letter p h o : ℕ) (ns : List ℕ) → line letter (p ∷ h ∷ o ∷ ns)
    ≡ (letter ∷ []) ++ (SPACE ∷ decimal p) ++ (SPACE ∷ decimal h) ++ (SPACE ∷ decimal o) ++ fields ns ++ (NEWLINE ∷ [])
more_fields letter p h o ns =
    let rest = first_field h (o ∷ ns) ∙ ap (λ l. (SPACE ∷ decimal h) ++ l) (first_field o ns) in
    line_is letter (p ∷ h ∷ o ∷ ns)
    ∙ ap (λ l. letter ∷ (l ++ (NEWLINE ∷ []))) (first_field p (h ∷ o ∷ ns) ∙ ap (λ l. (SPACE ∷ decimal p) ++ l) rest)
    ∙ ap (λ l. letter ∷ (SPACE ∷ l)) (six-in (decimal p) (SPACE ∷ decimal h) (SPACE ∷ decimal o) (fields ns) (NEWLINE ∷ []))

-- the same behind what stands before the line
four : (s a b c d : List ℕ) → s ++ a ++ b ++ c ++ d ≡ s ++ (a ++ b ++ c ++ d)
four s a b c d = simp append_assoc refl

six : (s a b c d e f : List ℕ) → s ++ a ++ b ++ c ++ d ++ e ++ f ≡ s ++ (a ++ b ++ c ++ d ++ e ++ f)
six s a b c d e f = simp append_assoc refl

pub refused_behind : (s : List ℕ) (letter p r : ℕ) → s ++ (letter ∷ []) ++ (SPACE ∷ decimal p) ++ (SPACE ∷ decimal r) ++ (NEWLINE ∷ []) ≡ s ++ line letter (p ∷ r ∷ [])
refused_behind s letter p r = four s (letter ∷ []) (SPACE ∷ decimal p) (SPACE ∷ decimal r) (NEWLINE ∷ []) ∙ ap (λ l. s ++ l) (sym (two_fields letter p r))

pub answered_behind : (s : List ℕ) (letter p h o : ℕ) (ns : List ℕ)
    → s ++ (letter ∷ []) ++ (SPACE ∷ decimal p) ++ (SPACE ∷ decimal h) ++ (SPACE ∷ decimal o) ++ fields ns ++ (NEWLINE ∷ []) ≡ s ++ line letter (p ∷ h ∷ o ∷ ns)
answered_behind s letter p h o ns =
    six s (letter ∷ []) (SPACE ∷ decimal p) (SPACE ∷ decimal h) (SPACE ∷ decimal o) (fields ns) (NEWLINE ∷ []) ∙ ap (λ l. s ++ l) (sym (more_fields letter p h o ns))

-- the fields of 16-bit numbers are short
pub fields_short : (ns : List ℕ) → ((i : ℕ) → get_or ns i 0 < 65_536) → length (fields ns) ≤ NUMBER_BYTES * length ns
fields_short [] h = rw no_fields (omega arith)
fields_short (n ∷ ns) h = rw (first_field n ns, length-append) (omega (arith, number_short n (h 0), fields_short ns (λ i. h (suc i))))

-- the parts of a line, and all of it, are no longer than a line may be
abbrev Word : ℕ → Type 0
Word n = n < 4_294_967_296

pub two_short : (p r : ℕ) → Word p → Word r → length (SPACE ∷ decimal p) + length (SPACE ∷ decimal r) + 2 ≤ LINE_BYTES
two_short p r hp hr = omega (arith, word_short p hp, word_short r hr)

pub refused_short : (letter p r : ℕ) → Word p → Word r → length (line letter (p ∷ r ∷ [])) ≤ LINE_BYTES
refused_short letter p r hp hr = rw (two_fields letter p r, length-append, length-append, length-append) (omega (arith, two_short p r hp hr))

module _ (p h o : ℕ) (ns : List ℕ) (hp : Word p) (hh : Word h) (ho : Word o) (hn : (i : ℕ) → get_or ns i 0 < 65_536) (few : length ns ≤ PIECES) where
  pub more_short : length (SPACE ∷ decimal p) + length (SPACE ∷ decimal h) + length (SPACE ∷ decimal o) + length (fields ns) + 2 ≤ LINE_BYTES
  more_short = omega (arith, word_short p hp, word_short h hh, word_short o ho, fields_short ns hn)

  pub answered_short : (letter : ℕ) → length (line letter (p ∷ h ∷ o ∷ ns)) ≤ LINE_BYTES
  answered_short letter = rw (more_fields letter p h o ns, length-append, length-append, length-append, length-append, length-append) (omega (arith, more_short))
