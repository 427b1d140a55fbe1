-- The place of a scan after what comes next.
use Rattle.std.proofs.Common.{◌≡◌, ℕ, ◌-◌, List, sym, ap, length, arith, get_or, drop}
use Rattle.inline_parser.proofs.Prelude.{All, IsAfter, IsPlace, IsRest, OpenLabel}
use Rattle.inline_parser.proofs.Views.{rest_of_rest, next_place, after_next}

-- a rest is one of itself
pub whole_rest : (content : List ℕ) → IsRest content content
whole_rest content = record {
  within = omega arith;
  place = sym (ap (λ n. drop n content) (none (length content)));
}
  where
    none : (n : ℕ) → n - n ≡ 0
    none n = omega arith

pub place_after : (content rest after : List ℕ) → IsPlace content rest → IsAfter rest after → IsPlace content after
place_after content rest after p a = next_place content rest after p (after_next rest after a)

-- what stands after label starts that are open
pub labels_rest : (rest after : List ℕ) (os : List OpenLabel) → IsRest rest after → All (λ (o : OpenLabel). IsRest o.from.now rest) os
    → All (λ (o : OpenLabel). IsRest o.from.now after) os
labels_rest rest after os r all = λ k d lt. rest_of_rest (get_or os k d).from.now rest after (all k d lt) r

pub labels_after : (rest after : List ℕ) (os : List OpenLabel) → IsAfter rest after → All (λ (o : OpenLabel). IsRest o.from.now rest) os
    → All (λ (o : OpenLabel). IsRest o.from.now after) os
labels_after rest after os a all = labels_rest rest after os (record { within = omega (arith, a.shorter); place = a.place }) all
