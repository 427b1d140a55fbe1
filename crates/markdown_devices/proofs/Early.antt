-- Conversions that end before anything was read.
use Rattle.std.proofs.Common.{◌≡◌, ℕ, Bool, true, false, not, ◌&&◌, List, [], Option, None, Some, inl, refl, sym, arith}
use Rattle.std.proofs.KnownBytes.{Keeps-refl}
use Rattle.markdown_compile_options.specs.declared.configuration.Options.{Options}
use Rattle.markdown_definition.specs.Html.{html}
use Rattle.markdown_tables.specs.Builtin.{builtin_tables}
use Rattle.markdown_devices.specs.declared.read.TheConstants.{SIZE_MAX}
use Rattle.markdown_devices.specs.declared.watched.Watched.{Watched}
use Rattle.markdown_devices.specs.Endings.{Ends, EndsBy, EndsOf}
use Rattle.markdown_devices.specs.Tables.{AreTables}
use Rattle.markdown_devices.specs.Transfer.{TellsMore}
use Rattle.markdown_devices.specs.Watched.{device, has_ended, has_failed, has_flush_failed}

nothing_told : (a : Option (List ℕ)) (most : ℕ) → TellsMore most a a → ⊥
nothing_told None most more = absurd more
nothing_told (Some x) most more = omega (arith, more)

no_end : (ended : Bool) → (not ended && ended) ≡ true → ⊥
no_end true h = cc
no_end false h = cc

working : (failed : Bool) → failed ≡ false → failed ≡ true → ⊥
working failed is isnt = cc

-- nothing was read or written, and nothing failed
ends_early : {D E : Type 0} (remaining : D → Option (List ℕ)) (contents : E → Option (List ℕ)) (reader : Watched D) (writer : Watched E) (page : List ℕ
    → List ℕ)
    → has_failed reader ≡ false → has_failed writer ≡ false → Ends remaining contents reader reader writer writer false page
ends_early remaining contents reader writer page reads writes = record {
  whole = λ h. cc;
  read = λ h. absurd (working (has_failed reader) reads h);
  size = λ h. absurd (nothing_told (remaining (device reader)) SIZE_MAX h);
  utf8 = λ h. absurd (no_end (has_ended reader) h);
  unread = λ h. (refl, Keeps-refl (contents (device writer)));
  write = λ h. absurd (working (has_failed writer) writes h);
  flush = λ h k. absurd (working (has_flush_failed writer) h k);
  fault = λ _ _ _. Keeps-refl (contents (device writer));
  flushed = λ h. sym h;
}

-- every path has tables, as those of an empty file
some_tables : (path : Option (List ℕ)) → AreTables path builtin_tables
some_tables None = refl
some_tables (Some path) = ([], record { faultless = refl; names = λ name. refl; punctuation = refl })

ends_early_of : {D E G : Type 0} (name : Option (List ℕ)) (held : G → Option (List ℕ)) (remaining : D → Option (List ℕ)) (contents : E → Option (List ℕ))
    (reader : Watched D) (writer : Watched E) (page : List ℕ → List ℕ)
    → has_failed reader ≡ false → has_failed writer ≡ false → EndsOf name held remaining contents reader reader writer writer false page
ends_early_of None held remaining contents reader writer page reads writes = ends_early remaining contents reader writer page reads writes
ends_early_of (Some name) held remaining contents reader writer page reads writes = (refl, inl (refl, refl))

pub early : {D E G : Type 0} (name path : Option (List ℕ)) (options : Options) (held : G → Option (List ℕ)) (remaining : D → Option (List ℕ))
    (contents : E → Option (List ℕ)) (reader : Watched D) (writer : Watched E)
    → has_failed reader ≡ false → has_failed writer ≡ false → EndsBy name path options held remaining contents reader reader writer writer false
early name path options held remaining contents reader writer reads writes = (
  builtin_tables,
  some_tables path,
  ends_early_of name held remaining contents reader writer (λ text. html builtin_tables text options) reads writes,
)
