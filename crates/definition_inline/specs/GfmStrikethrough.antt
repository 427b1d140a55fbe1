-- Runs of tildes, which may form strikethrough (GFM 6.5).
use Rattle.std.specs.Prelude.{ℕ, Bool, ◌==◌, ◌&&◌, ◌||◌}
use Rattle.markdown_options.specs.declared.configuration.ParseOptions.{ParseOptions}
use Rattle.definition_text.specs.Ascii.{tilde}

-- the byte of runs that may form strikethrough (GFM 6.5)
abbrev pub is_tilde : ℕ → Bool
is_tilde marker = marker == tilde

-- the size of a run of tildes that may form a span: two, or one where that is asked for (GFM 6.5)
abbrev pub is_strikethrough_size : ParseOptions → ℕ → Bool
is_strikethrough_size options size = (size == 2) || (options.gfm_strikethrough_single_tilde && (size == 1))
