-- The virtual text of bytes gives their codes.
use Rattle.std.specs.Prelude.{◌≡◌, ◌<◌, ◌≤◌, ◌+◌, ◌-◌, ◌^◌, ℕ, true, List, ◌++◌, drop, length, min, replicate, slice_index}
use Rattle.std.specs.List.{list_all}
use Rattle.definition_text.specs.Columns.{tab_column}
use Rattle.definition_text.specs.Content.{content_codes}
use Rattle.engine_events.specs.Columns.{tab_size}
use Rattle.engine_events.specs.declared.place.Point.{Point}
use Rattle.markdown_engine.specs.VirtualText.{Text, text_to, without_skips}
use Rattle.state_verdicts.specs.Codes.{Sees, is_code}

-- all of a text of which nothing is skipped
abbrev pub whole_text : List ℕ → Text
whole_text bytes = text_to (without_skips bytes) (length bytes, 0)

-- these are bytes
abbrev pub AreBytes : List ℕ → Type 0
AreBytes bytes = (i : ℕ) → slice_index bytes i < 256

-- from a place that isn't inside of a tab, a text gives the codes of its bytes from there on
abbrev pub TextCodesLaw : Type 0
TextCodesLaw = (bytes : List ℕ) → AreBytes bytes → (p : Point) → p.vs ≡ 0
    → Sees (whole_text bytes) p (content_codes (drop p.index bytes))

-- how many columns are left of a tab at a place inside of it: those up to its tab stop, and of four at most
abbrev pub columns_left : Point → ℕ
columns_left p = min (tab_size p.column) (4 - p.vs)

-- from a place inside of a tab, it gives a code for each column that is left of that, and then the codes of the bytes after it
abbrev pub TabCodesLaw : Type 0
TabCodesLaw = (bytes : List ℕ) → AreBytes bytes → (p : Point) → slice_index bytes p.index ≡ 9 → 0 < p.vs → p.vs ≤ 3
    → p.column + 3 < 2 ^ 64 → Sees (whole_text bytes) p (replicate (columns_left p) tab_column ++ content_codes (drop (p.index + 1) bytes))

-- the codes of bytes are codes
abbrev pub AreCodesLaw : Type 0
AreCodesLaw = (bytes : List ℕ) → AreBytes bytes → list_all is_code (content_codes bytes) ≡ true
