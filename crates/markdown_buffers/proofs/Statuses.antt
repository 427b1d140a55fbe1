-- Which status comes of which cause.
use Rattle.std.proofs.Common.{◌≡◌, ◌≤◌, ◌*◌, ◌^◌, ◌-◌, ℕ, List, length, arith}
use Rattle.std.specs.Str.{IsUtf8}
use Rattle.markdown_buffers.specs.Statuses.{IsTooLong, NamesCause}

-- options that aren't known
pub unknown_options : (Known : Type 0) (text : List ℕ) (status : ℕ) → ¬ Known → status ≡ 3 → NamesCause Known text status
unknown_options Known text status other is = record {
  flags = ((λ _. other), (λ _. is));
  utf8 = ((λ e. absurd (omega (arith, is, e))), (λ p. absurd (other p.0)));
  size = ((λ e. absurd (omega (arith, is, e))), (λ p. absurd (other p.0)));
  statuses = omega (arith, is);
}

-- the cause of a call with options, where these are known
pub known_options : (Known : Type 0) (text : List ℕ) (status : ℕ) → Known → NamesCause (Unit {0}) text status → NamesCause Known text status
known_options Known text status known h = record {
  flags = ((λ e. absurd (h.flags.0 e tt)), (λ h. absurd (h known)));
  utf8 = ((λ e. (known, (h.utf8.0 e).1)), (λ p. h.utf8.1 (tt, p.1)));
  size = ((λ e. (known, (h.size.0 e).1)), (λ p. h.size.1 (tt, p.1)));
  statuses = h.statuses;
}

pub no_utf8 : (text : List ℕ) (status : ℕ) → ¬ IsUtf8 text → status ≡ 2 → NamesCause (Unit {0}) text status
no_utf8 text status other is = record {
  flags = ((λ e. absurd (omega (arith, is, e))), (λ h. absurd (h tt)));
  utf8 = ((λ _. (tt, other)), (λ _. is));
  size = ((λ e. absurd (omega (arith, is, e))), (λ p. absurd (other p.1.0)));
  statuses = omega (arith, is);
}

pub too_long : (text : List ℕ) (status : ℕ) → IsUtf8 text → IsTooLong text → status ≡ 4 → NamesCause (Unit {0}) text status
too_long text status utf8 long is = record {
  flags = ((λ e. absurd (omega (arith, is, e))), (λ h. absurd (h tt)));
  utf8 = ((λ e. absurd (omega (arith, is, e))), (λ p. absurd (p.1 utf8)));
  size = ((λ _. (tt, (utf8, long))), (λ _. is));
  statuses = omega (arith, is);
}

-- no cause but memory
pub passed : (text : List ℕ) (status : ℕ) → IsUtf8 text → 8 * length text ≤ 2 ^ 64 - 1 → ¬ (status ≡ 2) → ¬ (status ≡ 3) → ¬ (status ≡ 4) → status ≤ 5
    → NamesCause (Unit {0}) text status
passed text status utf8 short a b c below = record {
  flags = ((λ e. absurd (b e)), (λ h. absurd (h tt)));
  utf8 = ((λ e. absurd (a e)), (λ p. absurd (p.1 utf8)));
  size = ((λ e. absurd (c e)), (λ p. absurd (omega (arith, short, p.1.1))));
  statuses = below;
}

-- what a call returns for its options
pub ruleset option_statuses = (unknown_options, known_options)

-- what a call returns for its text, once its options are known
pub ruleset text_statuses = (no_utf8, too_long, passed)
