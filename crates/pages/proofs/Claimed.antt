-- The claims about page tables hold.
use native.Mathlib.Omega.{arith}
use lib.ListN.{length}
use Rattle.pages.specs.Lists.{sum}
use Rattle.pages.specs.Layout.{no_page, table_in}
use Rattle.pages.specs.Claims.{Claims}
use Rattle.pages.proofs.Lists.{sum-at}
use Rattle.pages.proofs.Facts.{limited}
use Rattle.pages.proofs.Whole.{decode-encode-of, sound-in, sound-is}
use Rattle.pages.proofs.Counting.{suffice}
use Rattle.pages.proofs.Visit.{seen-once}
use Rattle.pages.proofs.Examples.{sound-nine, round-nine}

-- no level exceeds the sum of all
pub claimed : Claims
claimed = record {
  suffice = λ t h. suffice t (limited t (length t.pages) (sum (λ p. p.level) t.pages) (omega arith) (λ p l. sum-at (λ p. p.level) t.pages p no_page l) h);
  words = sound-is;
  read = decode-encode-of;
  once = λ w h. seen-once (table_in w) (sound-in w h);
  nine = sound-nine;
  nine-read = round-nine;
}
