-- What a call for sanitized HTML leaves in a buffer, status by status.
use Rattle.std.proofs.Common.{◌≡◌, ◌≤◌, ◌<◌, ℕ, List, length, arith}
use Rattle.markdown_compile_options.specs.declared.configuration.CompileOptions.{CompileOptions}
use Rattle.markdown_buffers.specs.Pages.{HoldsPage}
use Rattle.markdown_buffers.specs.Sanitized.{kept, StoresSanitized}

pub nothing_stored : (options : CompileOptions) (html old new : List ℕ) (size status : ℕ) → 1 < status → new ≡ old → size ≡ 0
    → StoresSanitized options html old new size status
nothing_stored options html old new size status more is none = record {
  ok = λ e. absurd (omega (arith, more, e));
  unchanged = λ _. is;
  stored = λ e. absurd (omega (arith, more, e));
  room = λ e. absurd (omega (arith, more, e));
  none = λ _. none;
}

-- it fits, or has no room
pub page_written : (options : CompileOptions) (html old new : List ℕ) (size status : ℕ) → status ≤ 1 → (status ≡ 0 → HoldsPage (kept options html) old new)
    → (¬ (status ≡ 0) → new ≡ old) → size ≡ length (kept options html) → (status ≡ 0 → size ≤ length old) → (size ≤ length old → status ≡ 0)
    → StoresSanitized options html old new size status
page_written options html old new size status below ok unchanged stored fits room = record {
  ok = ok;
  unchanged = unchanged;
  stored = λ _. stored;
  room = λ _. (fits, room);
  none = λ e. absurd (omega (arith, below, e));
}
