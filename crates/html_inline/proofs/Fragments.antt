-- URLs that are fragments, into which a prefix may be put.
use Rattle.std.proofs.Common.{◌≡◌, ◌<◌, true, ℕ, List, [], ◌∷◌, get_or, length, sym, arith}
use Rattle.std.proofs.lemmas.Bool.{eqb-true, true≢false}
use Rattle.html_inline.specs.Fragments.{is_fragment}

pub fragment_some : (url : List ℕ) → is_fragment url ≡ true → 0 < length url
fragment_some [] h = absurd (true≢false (sym h))
fragment_some (a ∷ bs) h = omega arith

-- they begin with a byte of ASCII
pub fragment_ascii : (url : List ℕ) → is_fragment url ≡ true → get_or url 0 0 < 128
fragment_ascii [] h = absurd (true≢false (sym h))
fragment_ascii (a ∷ []) h = absurd (true≢false (sym h))
fragment_ascii (a ∷ b ∷ bs) h = omega (arith, eqb-true a 35 h)
