-- The status that a call returns. 0: done; 1: what is written has no room; 2: the text isn't UTF-8; 3: the options aren't known; 4: the text is too long;
-- 5: out of memory.
use Rattle.std.specs.Prelude.{◌≡◌, ◌≤◌, ◌<◌, ◌↔◌, ◌*◌, ◌^◌, ◌-◌, ℕ, List, length}
use Rattle.std.specs.Str.{IsUtf8}

-- a text has more than `usize::MAX / 8` bytes
abbrev pub IsTooLong : List ℕ → Type 0
IsTooLong text = 2 ^ 64 - 1 < 8 * length text

-- a status comes exactly with its cause, the first of these: options that aren't known, a text that isn't UTF-8, a text that is too long
pub record NamesCause (Known : Type 0) (text : List ℕ) (status : ℕ) : Type 0 where
  pub flags : (status ≡ 3) ↔ (¬ Known)
  pub utf8 : (status ≡ 2) ↔ (Known × ¬ IsUtf8 text)
  pub size : (status ≡ 4) ↔ (Known × (IsUtf8 text × IsTooLong text))
  pub statuses : status ≤ 5
