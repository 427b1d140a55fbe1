-- What a call for a string or a label leaves in a buffer, status by status.
use Rattle.std.proofs.Common.{◌≡◌, ◌≤◌, ℕ, List, length, arith}
use Rattle.std.specs.Str.{IsUtf8}
use Rattle.markdown_buffers.specs.Pages.{HoldsPage}
use Rattle.markdown_buffers.specs.Texts.{StoresText}

pub no_text : (text written old new : List ℕ) (size status : ℕ) → ¬ IsUtf8 text → status ≡ 2 → new ≡ old → size ≡ 0
    → StoresText text written old new size status
no_text text written old new size status other is same none = record {
  ok = λ e. absurd (omega (arith, is, e));
  unchanged = λ _. same;
  stored = λ e. absurd (omega (arith, is, e));
  room = λ e. absurd (omega (arith, is, e));
  none = λ _. none;
  utf8 = ((λ _. other), (λ _. is));
  memory = λ e. absurd (omega (arith, is, e));
}

pub no_memory : (text written old new : List ℕ) (size status : ℕ) → IsUtf8 text → status ≡ 5 → new ≡ old → size ≡ 0
    → StoresText text written old new size status
no_memory text written old new size status utf8 is same none = record {
  ok = λ e. absurd (omega (arith, is, e));
  unchanged = λ _. same;
  stored = λ e. absurd (omega (arith, is, e));
  room = λ e. absurd (omega (arith, is, e));
  none = λ _. none;
  utf8 = ((λ e. absurd (omega (arith, is, e))), (λ h. absurd (h utf8)));
  memory = λ _. is;
}

-- it fits, or has no room
pub text_written : (text written old new : List ℕ) (size status : ℕ) → IsUtf8 text → status ≤ 1 → (status ≡ 0 → HoldsPage written old new)
    → (¬ (status ≡ 0) → new ≡ old) → size ≡ length written → (status ≡ 0 → size ≤ length old) → (size ≤ length old → status ≡ 0)
    → StoresText text written old new size status
text_written text written old new size status utf8 below ok unchanged stored fits room = record {
  ok = ok;
  unchanged = unchanged;
  stored = λ _. stored;
  room = λ _. (fits, room);
  none = λ e. absurd (omega (arith, below, e));
  utf8 = ((λ e. absurd (omega (arith, below, e))), (λ h. absurd (h utf8)));
  memory = λ e. absurd (omega (arith, below, e));
}
