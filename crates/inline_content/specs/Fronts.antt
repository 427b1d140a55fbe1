-- Where a run stands.
use Rattle.std.specs.Prelude.{◌≡◌, ◌<◌, ◌==◌, ℕ, true, List, length, slice_index}
use Rattle.std.specs.List.{prefix_len}
use Rattle.markdown_options.specs.declared.configuration.ParseOptions.{ParseOptions}
use Rattle.definition_inline.specs.Attention.{is_marker}
use Rattle.inline_runs.specs.declared.run.Run.{Run}

-- bytes begin with this run, as long as it gets
pub record StartsRun (options : ParseOptions) (bytes : List ℕ) (run : Run) : Type 0 where
  pub some : 0 < length bytes
  pub first : slice_index bytes 0 ≡ run.marker
  pub marks : is_marker options run.marker ≡ true
  pub size : run.size ≡ prefix_len (λ b. b == run.marker) bytes
