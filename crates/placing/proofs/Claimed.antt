-- The claims about placing hold.
use Rattle.pages.specs.Layout.{table_in}
use Rattle.pages.proofs.Whole.{sound-in}
use Rattle.placing.specs.Claims.{Claims}
use Rattle.placing.proofs.Along.{path-along}
use Rattle.placing.proofs.Joined.{place-keeps, words-hold}
use Rattle.placing.proofs.Called.{call-accepted}
use Rattle.placing.proofs.Untouched.{page-untouched, later-untouched, rest-untouched}

pub claimed : Claims
claimed = record {
  descends = λ w r h. path-along (table_in w) (sound-in w h) r;
  keeps = λ w n r wl h e. let a = call-accepted w n r e in place-keeps w n r wl h a.0 a.1 a.2;
  holds = λ w n r h e. let a = call-accepted w n r e in words-hold w n r h a.0 a.1 a.2;
  untouched = page-untouched;
  later = later-untouched;
  rest = rest-untouched;
}
