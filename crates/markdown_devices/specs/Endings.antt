-- How a conversion ends.
use Rattle.std.specs.Prelude.{◌≡◌, ◌⊎◌, ◌||◌, ℕ, Bool, true, false, List, Option, None, Some, IfSome}
use Rattle.std.specs.Str.{IsUtf8}
use Rattle.std.specs.Io.KnownBytes.{Appends, Keeps}
use Rattle.markdown_compile_options.specs.declared.configuration.Options.{Options}
use Rattle.markdown_definition.specs.TextTables.{TextTables}
use Rattle.markdown_definition.specs.Html.{html}
use Rattle.markdown_devices.specs.declared.read.TheConstants.{SIZE_MAX}
use Rattle.markdown_devices.specs.declared.watched.Watched.{Watched}
use Rattle.markdown_devices.specs.Tables.{AreTables}
use Rattle.markdown_devices.specs.Transfer.{AppendsBeginning, TellsMore}
use Rattle.markdown_devices.specs.Watched.{came_to_end, device, has_ended, has_failed, has_flushed, has_flush_failed}

-- how a conversion ends that reads from a reader and writes a page of what it read, by what the two were and are
pub record Ends {D E : Type 0} (remaining : D → Option (List ℕ)) (contents : E → Option (List ℕ))
    (reader reader' : Watched D) (writer writer' : Watched E) (ok : Bool) (page : List ℕ → List ℕ) : Type 0 where
  -- well: the page of all that was read was written, and nothing else
  pub whole : ok ≡ true → IfSome (remaining (device reader)) (λ text. Appends (contents (device writer)) (contents (device writer')) (page text))
  -- where the reader failed, nothing was written
  pub read : has_failed reader' ≡ true → (ok ≡ false) × Keeps (contents (device writer)) (contents (device writer'))
  -- nor where more than the size was read
  pub size : TellsMore SIZE_MAX (remaining (device reader)) (remaining (device reader'))
      → (ok ≡ false) × Keeps (contents (device writer)) (contents (device writer'))
  -- nor where all was read, and that is not UTF-8
  pub utf8 : (ok || came_to_end reader reader') ≡ true
      → IfSome (remaining (device reader)) (λ text. ¬ IsUtf8 text → (ok ≡ false) × Keeps (contents (device writer)) (contents (device writer')))
  -- nor where it was not read to its end, as where the names of references are at fault, or memory is wanted before
  pub unread : has_ended reader' ≡ false → (ok ≡ false) × Keeps (contents (device writer)) (contents (device writer'))
  -- where the writer failed, what was written is a beginning of the page
  pub write : has_failed writer' ≡ true
      → (ok ≡ false) × IfSome (remaining (device reader)) (λ text. AppendsBeginning (contents (device writer)) (contents (device writer')) (page text))
  -- where the flush failed, it is all of the page
  pub flush : has_flush_failed writer ≡ false → has_flush_failed writer' ≡ true
      → (ok ≡ false) × IfSome (remaining (device reader)) (λ text. Appends (contents (device writer)) (contents (device writer')) (page text))
  -- and at any other fault it is nothing
  pub fault : ok ≡ false → has_failed writer' ≡ false → has_flush_failed writer' ≡ false → Keeps (contents (device writer)) (contents (device writer'))
  -- it ends well exactly where the writer was flushed in the end
  pub flushed : has_flushed writer ≡ false → ok ≡ has_flushed writer'

-- neither a failed read nor the end is behind this reader
abbrev pub IsUnread : {D : Type 0} → Watched D → Type 0
IsUnread reader = (has_failed reader ≡ false) × (has_ended reader ≡ false)

-- so ends one of a file that is opened, or nothing is written where it can't be
abbrev pub EndsOfFile : {D E : Type 0} → (D → Option (List ℕ)) → (E → Option (List ℕ)) → Watched E → Watched E → Bool → (List ℕ → List ℕ) → Type 0
EndsOfFile {D} held contents writer writer' ok page =
    ((ok ≡ false) × (writer' ≡ writer))
    ⊎ ((file : Watched D) × (file' : Watched D) × IsUnread file × Ends held contents file file' writer writer' ok page)

-- so ends one of the file of a name, for which the reader stays as it was, or without a name of the reader
abbrev pub EndsOf : {D E G : Type 0} → Option (List ℕ) → (G → Option (List ℕ)) → (D → Option (List ℕ)) → (E → Option (List ℕ))
    → Watched D → Watched D → Watched E → Watched E → Bool → (List ℕ → List ℕ) → Type 0
EndsOf None held remaining contents reader reader' writer writer' ok page = Ends remaining contents reader reader' writer writer' ok page
EndsOf (Some name) held remaining contents reader reader' writer writer' ok page = (reader' ≡ reader) × EndsOfFile held contents writer writer' ok page

-- so ends one by the tables of a path
abbrev pub EndsBy : {D E G : Type 0} → Option (List ℕ) → Option (List ℕ) → Options → (G → Option (List ℕ)) → (D → Option (List ℕ)) → (E → Option (List ℕ))
    → Watched D → Watched D → Watched E → Watched E → Bool → Type 0
EndsBy name path options held remaining contents reader reader' writer writer' ok =
    (tables : TextTables) × AreTables path tables × EndsOf name held remaining contents reader reader' writer writer' ok (λ text. html tables text options)
